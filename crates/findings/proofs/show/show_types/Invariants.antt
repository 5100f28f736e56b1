use Rattle.std.proofs.Common.{◌++◌}
use Rattle.std.specs.Prelude.{codes, flat_map}
use Rattle.std.specs.Fmt.{IsPlainFormatter}
use Rattle.std.specs.List.{join_by}
use Rattle.findings.specs.Texts.{quoted}
use Rattle.findings.proofs.Left.{IsLeft}
use Rattle.findings.proofs.show.show_types.Given as goal

-- what is left is still to be written
abbrev pub invariant-loop-ty : goal.invariant-loop-ty
invariant-loop-ty g l = IsPlainFormatter l.fn.f → IsLeft g.W.Write.write_str_gives l.fn.f (join_by quoted (codes ", ") l.types) (flat_map (λ n. codes ", " ++ quoted n) l.ty-iterator) l.f
