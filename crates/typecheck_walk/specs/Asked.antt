-- Which operator looks at what is known of a tag.
use Rattle.std.specs.Prelude.{Bool, false}
use Rattle.policy_expressions.specs.declared.kinds.BinaryOp.{BinaryOp}
use Rattle.policy_expressions.specs.declared.kinds.BinaryOp.TheVariants.{GetTag}

-- for `getTag`, whether the tag is known; for the others nothing
abbrev pub asked : BinaryOp → Bool → Bool
asked GetTag known = known
asked o known = false
