use Rattle.std.proofs.Common.{map, take}
use Rattle.std.specs.Cmp.Lexicographic.{nat_list_cmp_total}
use Rattle.std.proofs.lemmas.Map.Lookups.{exact_bytes}
use Rattle.schema_core.specs.Schema.{TypeData, type_below}
use Rattle.policy_validate.proofs.Kept.{HasKept}
use Rattle.policy_validate.proofs.described.parents_of.Given as goal

abbrev pub invariant-loop-above : goal.invariant-loop-above
invariant-loop-above l = HasKept nat_list_cmp_total exact_bytes (type_below l.schema l.name) (map (λ (t : TypeData). t.name) (take l.above-index l.types)) l.parents.keys
