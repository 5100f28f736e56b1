use Rattle.std.proofs.Common.{◌≡◌, drop, map}
use Rattle.std.specs.List.{list_any}
use Rattle.std.specs.Str.{bytes_eq}
use Rattle.json_trees.proofs.lookups.is_one_of.Given as goal

-- the names that are left decide
abbrev pub invariant-loop-name : goal.invariant-loop-name
invariant-loop-name l = list_any (bytes_eq l.key) (map (λ s. s.now) (drop l.name-index l.names)) ≡ list_any (bytes_eq l.key) (map (λ s. s.now) l.names)
