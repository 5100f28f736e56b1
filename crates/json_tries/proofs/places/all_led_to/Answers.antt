use Rattle.std.proofs.Common.{◌++◌, map, sym, ap, ◌∙◌, arith}
use Rattle.std.proofs.Math.ListN.{get_or-map}
use Rattle.std.proofs.lemmas.List.{append-nil, length-map}
use Rattle.json_tries.specs.Places.{behind}
use Rattle.json_tries.proofs.Forms.{led_step, led_done}
use Rattle.json_tries.proofs.places.all_led_to.Goals as goal

pub loop-i-preserved : goal.loop-i-preserved
loop-i-preserved c =
    let edges = c.args.edges.now in
    let lists = c.args.lists.now in
    let i = c.loop-i.i in
    let list = c.index-lists-i.result in
    let edge = c.index-edges-i.result in
    led_step edges (map (λ w. w.items) lists) i edge list.items c.loop-i.all.items _ _ (omega (arith, c.loop-i-test.true, c.min-i-end.ensures)) (omega (arith, c.loop-i-test.true, c.min-i-end.ensures, length-map lists (λ w. w.items))) c.index-edges-i.is
    (ap (λ w. w.items) c.index-lists-i.is ∙ sym (get_or-map (λ w. w.items) lists i list))
    (c.in_ok-add_behind.ensures ∙ ap (λ ps. c.loop-i.all.items ++ map (behind edge) ps) c.as_slice.ensures.value) c.loop-i.invariant

pub returns : goal.returns
returns c =
    let edges = c.args.edges.now in
    let lists = c.args.lists.now in
    sym (append-nil c.loop-i.all.items)
    ∙ ap (λ ps. c.loop-i.all.items ++ ps) (sym (led_done edges (map (λ w. w.items) lists) c.loop-i.i (omega (arith, c.loop-i-test.false, c.min-i-end.ensures, length-map lists (λ w. w.items)))))
    ∙ c.loop-i.invariant
