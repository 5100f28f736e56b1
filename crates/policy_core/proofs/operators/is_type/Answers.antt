use Rattle.std.proofs.Common.{sym, ◌∙◌}
use Rattle.std.proofs.lemmas.Map.Text.{is_eq-slice_cmp}
use Rattle.policy_core.proofs.operators.is_type.Goals as goal

pub returns : goal.returns
returns c = c.eq.ensures ∙ sym (is_eq-slice_cmp c.args.uid.now.entity_type c.args.entity_type.now)
