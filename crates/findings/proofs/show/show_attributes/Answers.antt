use Rattle.std.proofs.Common.{◌++◌, ap, true, refl}
use Rattle.std.specs.Prelude.{codes, flat_map}
use Rattle.findings.proofs.Left.{left_less}
use Rattle.findings.proofs.show.show_attributes.Goals as goal

pub loop-attr-preserved : goal.loop-attr-preserved
loop-attr-preserved g c = λ p.
    let before = c.loop-attr.invariant p in
    left_less g.W.Write.write_str_gives _ _ _ _ _ _ _ before (ap (flat_map (λ n. codes "." ++ n)) c.in-Some-attr.ensures.steps) (c.in_ok-show_further_attribute-in-Some.ensures before.wrote.plain (refl {a = true}))
