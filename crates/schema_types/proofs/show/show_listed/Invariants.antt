use Rattle.std.specs.Fmt.{IsPlainFormatter}
use Rattle.schema_types.specs.TyText.{listed}
use Rattle.schema_types.proofs.ShowSteps.{IsLeft, behind}
use Rattle.schema_types.proofs.show.show_listed.Given as goal

-- what is left is still to be written
abbrev pub invariant-loop-name : goal.invariant-loop-name
invariant-loop-name g l = IsPlainFormatter l.fn.f → IsLeft g.W.Write.write_str_gives l.fn.f (listed l.lub) (behind l.name-iterator) l.f
