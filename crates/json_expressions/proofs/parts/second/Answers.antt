use Rattle.std.proofs.Common.{option_map, ap, ◌∙◌}
use Rattle.std.specs.Prelude.{option_and_then}
use Rattle.json_values.specs.Json.{pair_of}
use Rattle.json_expressions.proofs.Elements.{no_pair}
use Rattle.json_expressions.proofs.parts.second.Goals as goal

pub returns-else-items-eq2 : goal.returns-else-items-eq2
returns-else-items-eq2 c = ap (option_map (λ p. p.1)) (no_pair c.in_ok-items.items.now c.if-items-eq2.false ∙ ap (option_and_then pair_of) c.in_ok-items.ensures)
