use Rattle.std.proofs.Common.{◌∙◌, arith}
use Rattle.access_tries.specs.Trees.{branch_at}
use Rattle.json_tries.proofs.Parts.{node_is, fields_step, tags_step, roots_step}
use Rattle.json_tries.proofs.write.+write_parts.Goals as goal

pub loop-link-preserved : goal.loop-link-preserved
loop-link-preserved t c =
    let ns = c.args.nodes.now in
    let below = c.in_ok-below.ensures in
    let links = c.links_of-link-items.result.now in
    let link = c.link-item.result in
    let node = c.in_ok-node.ensures ∙ node_is ns c.requires link.number _ _ _ _ c.mark_of.ensures below.fields below.tags below.roots in
    let i = c.loop-link.invariant in
    let h = c.in_ok-add.ensures in
    record {
      fields = fields_step (branch_at ns) links c.loop-link.link-index link (omega arith) c.link-item.is _ node _ _ i.fields h.fields;
      tags = tags_step (branch_at ns) links c.loop-link.link-index link (omega arith) c.link-item.is _ node _ _ i.tags h.tags;
      roots = roots_step (branch_at ns) links c.loop-link.link-index link (omega arith) c.link-item.is _ node _ _ i.roots h.roots;
    }
