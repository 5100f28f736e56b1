use Rattle.std.proofs.Common.{◌≡◌, [], ◌∷◌, ◌++◌, vec_len}
use Rattle.json_expressions.specs.Forms.{chained, else_of, if_tree}
use Rattle.json_expressions.specs.Reads.{on_three}
use Rattle.json_expressions.proofs.reads.chain.Given as goal

-- what is left, and behind it what there is, is the whole
abbrev pub invariant-loop-branch : goal.invariant-loop-branch
invariant-loop-branch l = else_of (on_three if_tree) (l.rest.items ++ l.all ∷ []) ≡ chained (on_three if_tree) l.fn.reads.items

abbrev pub decreases-loop-branch : goal.decreases-loop-branch
decreases-loop-branch l = vec_len l.rest
