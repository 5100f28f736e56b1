use Rattle.std.proofs.Common.{◌≡◌, ◌++◌, drop, option_map}
use Rattle.json_trees.specs.Trees.{trees_view}
use Rattle.json_expressions.specs.Parts.{texts_of}
use Rattle.json_expressions.proofs.parts.read_texts.Given as goal

-- those so far, and then those of what is left, are all
abbrev pub invariant-loop-item : goal.invariant-loop-item
invariant-loop-item l = option_map (λ xs. l.texts.items ++ xs) (texts_of (trees_view (drop l.item-index l.items))) ≡ texts_of (trees_view l.items)
