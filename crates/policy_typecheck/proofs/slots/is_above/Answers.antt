use Rattle.std.proofs.Common.{sym}
use Rattle.std.specs.Cmp.Lexicographic.{nat_list_cmp_total}
use Rattle.std.proofs.lemmas.Map.Lookups.{exact_bytes}
use Rattle.schema_core.proofs.SameKeys.{has_answer}
use Rattle.policy_typecheck.proofs.slots.is_above.Goals as goal

pub returns : goal.returns
returns c = sym (has_answer nat_list_cmp_total exact_bytes c.has_descendant.result c.args.entity_type.now.descendants c.args.name.now c.has_descendant.ensures)
