use Rattle.std.proofs.lemmas.Bool.Decides.{same_from_decides}
use Rattle.policy_typecheck.specs.Equal.{same_typed}
use Rattle.policy_typecheck.specs.EqualLaws.{same_typed_decides}
use Rattle.policy_typecheck.proofs.equal.same_typed.Goals as goal

pub returns : goal.returns
returns c = same_from_decides c.is_same_typed.result (same_typed c.args.a.now c.args.b.now) c.is_same_typed.ensures (same_typed_decides c.args.a.now c.args.b.now)
