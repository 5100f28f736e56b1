use Rattle.std.proofs.Common.{◌++◌, ap, ◌∙◌, sym, true, refl}
use Rattle.std.specs.Prelude.{codes}
use Rattle.std.proofs.lemmas.List.{append_assoc}
use Rattle.schema_types.specs.TyText.{listed}
use Rattle.schema_types.proofs.ShowSteps.{behind, listed_behind, left_all, left_less}
use Rattle.schema_types.proofs.show.show_listed.Goals as goal

pub loop-name-init : goal.loop-name-init
loop-name-init g c = λ p.
    let all = listed c.args.lub.now in
    let names = sym c.iter-names.ensures.value ∙ c.in-Some.ensures.steps in
    let rest = c.into_iter-name-iterator.ensures.into_iter_gives in
    left_less g.W.Write.write_str_gives _ _ _ all all _ c.in-Some.first.now (left_all g.W.Write.write_str_gives _ all p)
    (ap listed names ∙ listed_behind c.in-Some.first.now c.next.new.self ∙ ap (λ ns. c.in-Some.first.now ++ behind ns) (sym rest))
    (c.in_ok-fmt-in-Some.ensures.writes p (refl {a = true}))

pub loop-name-preserved : goal.loop-name-preserved
loop-name-preserved g c = λ p.
    let before = c.loop-name.invariant p in
    left_less g.W.Write.write_str_gives _ _ _ _ _ _ _ before (ap behind c.in-Some-name.ensures.steps ∙ sym (append_assoc (codes ", ") c.in-Some-name.name.now (behind c.next-in-loop-name.new.self))) (c.in_ok-show_behind-in-Some.ensures before.wrote.plain (refl {a = true}))
