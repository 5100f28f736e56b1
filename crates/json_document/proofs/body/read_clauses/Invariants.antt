use Rattle.std.proofs.Common.{◌≡◌, None, drop, map, option_map}
use Rattle.json_trees.specs.Trees.{trees_view}
use Rattle.json_document.specs.Body.{clauses_of, left_fold, or_true}
use Rattle.json_expressions.specs.Forms.{join_tree}
use Rattle.json_expressions.specs.Reads.{bounded, on_two}
use Rattle.json_expressions.specs.declared.forms.Junction.TheVariants.{All}
use Rattle.json_document.proofs.body.read_clauses.Given as goal

-- what there is, and then those of what is left, are all
abbrev pub invariant-loop-item : goal.invariant-loop-item
invariant-loop-item l =
    option_map (λ cs. or_true (left_fold (on_two (join_tree All)) l.all (map bounded cs))) (clauses_of (trees_view (drop l.item-index l.items))) ≡ option_map (λ cs. or_true (left_fold (on_two (join_tree All)) None (map bounded cs))) (clauses_of (trees_view l.items))
