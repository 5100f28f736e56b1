use Rattle.path_analysis.proofs.Chains.{one_attribute, size_left}
use Rattle.path_analysis.proofs.below.+chains.Goals as goal

pub add_chains_in-loop-name-preserved : goal.add_chains_in-loop-name-preserved
add_chains_in-loop-name-preserved t c =
    let p = c.args.path.now in
    let k = c.in-Some.name.now in
    let a = c.in-Some.attribute.now in
    let is = c.in-Some.ensures.steps in
    record {
      so_far = one_attribute p k a c.loop-name.name-iterator c.next.new.self is c.loop-name.found.items _ c.in_ok-add_field.ensures _ c.loop-name.invariant.so_far;
      size = size_left p k a c.loop-name.name-iterator c.next.new.self is _ c.loop-name.invariant.size;
    }
