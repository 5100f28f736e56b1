use Rattle.std.proofs.Common.{◌++◌, ap, true, refl}
use Rattle.std.specs.Prelude.{codes, flat_map}
use Rattle.findings.specs.Texts.{quoted}
use Rattle.findings.proofs.Left.{left_less}
use Rattle.findings.proofs.show.show_types.Goals as goal

pub loop-ty-preserved : goal.loop-ty-preserved
loop-ty-preserved g c = λ p.
    let before = c.loop-ty.invariant p in
    left_less g.W.Write.write_str_gives _ _ _ _ _ _ _ before (ap (flat_map (λ n. codes ", " ++ quoted n)) c.in-Some-ty.ensures.steps) (c.in_ok-show_further_type-in-Some.ensures before.wrote.plain (refl {a = true}))
