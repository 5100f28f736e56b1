use Rattle.condition_risks.proofs.Merging.{same_shape_tests}
use Rattle.condition_risks.proofs.sides.is_same.Goals as goal

pub returns : goal.returns
returns c = same_shape_tests c.args.x.now c.args.y.now c.same_shape.result c.same_shape.ensures
