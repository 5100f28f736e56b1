use Rattle.json_expressions.specs.Forms.{if_tree}
use Rattle.json_expressions.specs.Reads.{on_three}
use Rattle.json_expressions.proofs.Steps.{else_of-step}
use Rattle.json_expressions.proofs.reads.chain.Goals as goal

pub loop-branch-preserved : goal.loop-branch-preserved
loop-branch-preserved c =
    else_of-step (on_three if_tree) c.pop-in-Some-pop.new.self.items c.pop-in-loop-branch.new.self.items c.loop-branch.rest.items
    c.in-Some-pop-2.test c.in-Some-pop.branch c.loop-branch.all c.in-Ok.more _
    c.in-Some-pop.ensures.items c.in-Some-pop-2.ensures.items c.in-Ok.ensures c.loop-branch.invariant
