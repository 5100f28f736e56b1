use Rattle.std.proofs.Common.{sym, ap, ◌∙◌}
use Rattle.std.specs.Ordering.{is_eq}
use Rattle.std.proofs.lemmas.Map.Text.{is_eq-slice_cmp}
use Rattle.policy_values.specs.Uid.{text_cmp}
use Rattle.principal_listing.proofs.scopes.is_of_type.Goals as goal

pub returns : goal.returns
returns c =
    c.eq.ensures ∙ sym (is_eq-slice_cmp c.uid.result.now.entity_type c.args.name.now)
    ∙ ap (λ u. is_eq (text_cmp u.entity_type c.args.name.now)) c.uid.ensures
