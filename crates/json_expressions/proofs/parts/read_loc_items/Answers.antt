use Rattle.std.proofs.Common.{arith}
use Rattle.json_expressions.proofs.Steps.{short_loc, long_loc}
use Rattle.json_expressions.proofs.parts.read_loc_items.Goals as goal

pub returns-in_default : goal.returns-in_default
returns-in_default c = short_loc c.args.items.now (omega arith)

pub returns-in_default-2 : goal.returns-in_default-2
returns-in_default-2 c = long_loc c.args.items.now (omega arith)
