use Rattle.std.proofs.Common.{◌++◌}
use Rattle.std.specs.Prelude.{codes, flat_map}
use Rattle.std.specs.Fmt.{IsPlainFormatter}
use Rattle.findings.specs.Texts.{path_text}
use Rattle.findings.proofs.Left.{IsLeft}
use Rattle.findings.proofs.show.show_attributes.Given as goal

-- what is left is still to be written
abbrev pub invariant-loop-attr : goal.invariant-loop-attr
invariant-loop-attr g l = IsPlainFormatter l.fn.f → IsLeft g.W.Write.write_str_gives l.fn.f (path_text l.attrs) (flat_map (λ n. codes "." ++ n) l.attr-iterator.rest.now) l.f
