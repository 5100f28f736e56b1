-- Slices by manifests.
use Rattle.std.specs.Prelude.{◌≡◌, List, [], Option, Some, Result, MatchResult}
use Rattle.std.specs.Option.{unwrap_or}
use Rattle.entity_store.specs.declared.request.Request.{Request}
use Rattle.entity_store.specs.Request.{IsWhole}
use Rattle.entity_store.specs.Store.{Store}
use Rattle.policy_values.specs.Value.{Val}
use Rattle.access_tries.specs.Table.{Table}
use Rattle.reads_spec.specs.Paths.{AccessPath, Demand}
use Rattle.reads_spec.specs.Restrict.{restrict}
use Rattle.manifest_core.specs.Manifest.{Manifest, trie_for}
use Rattle.entity_loading.specs.declared.error.EntitySliceError.{EntitySliceError}
use Rattle.entity_loading.specs.declared.error.EntitySliceError.TheVariants.{PartialRequest, IncompatibleEntityManifest, OutOfMemory}
use Rattle.entity_loading.specs.Blocked.{IsBlocked}
use Rattle.entity_loading.specs.Tries.{IsTrieOf}

-- the trie, or that of nothing
abbrev pub trie_or_none : Option Table → Table
trie_or_none o = unwrap_or o []

-- it holds of the trie that the manifest has for the request, if it has one
abbrev pub WhereTrie : Manifest → Request → (Table → Type 0) → Type 0
WhereTrie m q P = (t : Table) → trie_for m q ≡ Some t → P t

-- each entry of the request is known, no path of the trie is blocked, and the store is the one restricted to
-- what the trie is of
pub record IsSlice (t : Table) (q : Request) (s sliced : Store) : Type 0 where
  pub whole : IsWhole q
  pub free : (u : Val) → ¬ IsBlocked t q s u
  pub restricted : (reads : List AccessPath) (demands : List Demand) → IsTrieOf reads demands t →
      sliced ≡ restrict reads demands q s

-- an entry of the request is not known, or a path of the trie is blocked at the value; or memory ran out
abbrev pub IsSliceError : Table → Request → Store → EntitySliceError → Type 0
IsSliceError t q s (PartialRequest e) = ¬ IsWhole q
IsSliceError t q s (IncompatibleEntityManifest e) = IsWhole q × IsBlocked t q s e.value
IsSliceError t q s OutOfMemory = Unit {0}
IsSliceError t q s e = ⊥

-- the result is the slice along the trie, or why there is none
abbrev pub IsSliceOrWhy : Table → Request → Store → Result Store EntitySliceError → Type 0
IsSliceOrWhy t q s result = MatchResult result (IsSlice t q s) (IsSliceError t q s)
