use Rattle.std.proofs.Common.{◌≡◌, None, IfOk, Option, option_map, ap, ◌∙◌, subst}
use Rattle.std.specs.Prelude.{option_and_then}
use Rattle.serde_json.specs.Data.{Items}
use Rattle.json_trees.specs.Trees.{trees_view}
use Rattle.policy_expressions.specs.Plain.{Plain}
use Rattle.json_document.specs.Body.{clauses_of, conjunction, left_fold, or_anything}
use Rattle.json_expressions.specs.Reads.{bounded}
use Rattle.json_expressions.specs.declared.nesting.Bounded.{Bounded}
use Rattle.json_document.proofs.Bounds.{clauses_read}
use Rattle.json_document.proofs.body.read_list.Goals as goal

pub returns-in-Some : goal.returns-in-Some
returns-in-Some c =
    subst (λ (x : Option (Bounded Plain)). IfOk c.read_clauses.result (λ o. o ≡ x))
    (clauses_read (clauses_of (trees_view c.in-Some.items.now))
    ∙ ap (λ (o : Option Items). option_map bounded (option_map (λ cs. or_anything (left_fold conjunction None cs)) (option_and_then clauses_of o))) c.in-Some.ensures)
    c.read_clauses.ensures
