-- What is loaded lies between what is needed and the whole store.
use Rattle.std.specs.Prelude.{◌≡◌, Bool, true, List, Result, IfOk}
use Rattle.entity_store.specs.declared.request.Request.{Request}
use Rattle.entity_store.specs.Store.{Store}
use Rattle.access_tries.specs.Table.{Table}
use Rattle.reads_spec.specs.Cover.{IsPartOf}
use Rattle.reads_spec.specs.Paths.{AccessPath, Demand}
use Rattle.reads_spec.specs.Restrict.{restrict}
use Rattle.entity_loading.specs.Tries.{IsTrieOf}
use Rattle.entity_loading.specs.declared.error.EntitySliceError.{EntitySliceError}

-- a store that has at least what is read and demanded, and at most what the whole one has; where the loader
-- is exact, just what is read and demanded
pub record IsBetween (exact : Bool) (reads : List AccessPath)
    (demands : List Demand) (q : Request) (whole s : Store) : Type 0 where
  pub enough : IsPartOf (restrict reads demands q whole) s
  pub part : IsPartOf s whole
  pub exactly : exact ≡ true → s ≡ restrict reads demands q whole

-- what is loaded along the trie, if it is, is such a store, whatever paths and demands the trie is of
abbrev pub LiesBetween : Bool → Table → Request → Store → Result Store EntitySliceError → Type 0
LiesBetween exact t q whole result =
    (reads : List AccessPath) (demands : List Demand) → IsTrieOf reads demands t →
    IfOk result (IsBetween exact reads demands q whole)
