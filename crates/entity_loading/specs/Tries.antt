-- Tries of what is read.
use Rattle.std.specs.Prelude.{◌≡◌, ◌↔◌, true, List}
use Rattle.access_tries.specs.Table.{Table, IsTable}
use Rattle.access_tries.specs.Paths.{has_path, asks, IsLeast}
use Rattle.reads_spec.specs.Paths.{AccessPath, Demand}
use Rattle.reads_spec.specs.Among.{IsIn, IsPrefixOfRead}

-- a trie with exactly the paths that are read and their prefixes, which asks exactly what is demanded
pub record IsTrieOf (reads : List AccessPath) (demands : List Demand) (t : Table) : Type 0 where
  pub paths : (p : AccessPath) → (has_path t p ≡ true) ↔ IsPrefixOfRead reads p
  pub asks : (p r : AccessPath) → (asks t p r ≡ true) ↔ IsIn (let d : Demand = (p, r) in d) demands

-- the least trie is one, where each path of which something is demanded is read
abbrev pub LeastTriesFit : Type 0
LeastTriesFit =
    (reads : List AccessPath) (demands : List Demand) (t : Table) →
    ((d : Demand) → IsIn d demands → IsPrefixOfRead reads d.0) → IsLeast reads demands t →
    IsTrieOf reads demands t

-- each trie is one of some paths and demands
abbrev pub EveryTrieIsOfSome : Type 0
EveryTrieIsOfSome =
    (t : Table) → IsTable t → (reads : List AccessPath) × (demands : List Demand) × IsTrieOf reads demands t
