use Rattle.std.proofs.Common.{◌≡◌, ◌||◌, false, codes, eqb, sym, ◌∙◌, ap}
use Rattle.std.specs.List.{ends_with}
use Rattle.std.specs.Str.{bytes_eq}
use Rattle.std.proofs.lemmas.Str.Pattern.{ends_text}
use Rattle.policy_values.specs.Basename.{is_action_type}
use Rattle.policy_values.proofs.entity_uid.EntityType.is_action.Goals as goal

pub returns-else-eq : goal.returns-else-eq
returns-else-eq c =
    let ends = ends_text c.ends_with.result (codes "::Action") c.as_str-name.result.now c.ends_with.ensures.cases in
    let other : bytes_eq c.as_str-name.result.now (codes "Action") ≡ false = sym c.if-eq.ensures in
    ends ∙ ap (λ b. b || ends_with eqb c.as_str-name.result.now (codes "::Action")) (sym other) ∙ ap is_action_type c.as_str-name.ensures.value
