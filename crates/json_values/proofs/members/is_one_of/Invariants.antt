use Rattle.std.proofs.Common.{◌≡◌, drop, map}
use Rattle.std.specs.List.{list_any}
use Rattle.std.specs.Str.{bytes_eq}
use Rattle.json_values.proofs.members.is_one_of.Given as goal

-- the names that are left decide
abbrev pub invariant-loop-name : goal.invariant-loop-name
invariant-loop-name l = list_any (λ name. bytes_eq l.key name) (map (λ s. s.now) (drop l.name-index l.names)) ≡ list_any (λ name. bytes_eq l.key name) (map (λ s. s.now) l.names)
