use Rattle.std.proofs.Common.{map}
use Rattle.std.specs.Slice.Iter.{iter_rest}
use Rattle.plain_lemmas.proofs.Lists.{empty_of_length}
use Rattle.live_manifest.proofs.Each.{last_union, no_other}
use Rattle.live_manifest.proofs.uniting.each_united.Goals as goal

pub returns-in_default : goal.returns-in_default
returns-in_default c =
    no_other (map (λ e. e.1) c.args.manifest.now) c.args.own.now c.loop-whole.whole-iterator c.next.new.self (iter_rest c.loop-whole.rest) c.loop-whole.tries.items c.in-Some.whole.now c.in-Some.ensures.steps
    (empty_of_length (iter_rest c.loop-whole.rest) c.in_default.ensures.steps.0) c.loop-whole.invariant

pub returns : goal.returns
returns c = last_union (map (λ e. e.1) c.args.manifest.now) c.args.own.now c.loop-whole.whole-iterator (iter_rest c.loop-whole.rest) c.loop-whole.tries.items c.in-None.ensures.steps.0 c.loop-whole.invariant
