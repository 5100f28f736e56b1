use Rattle.std.proofs.Common.{◌∙◌, sym}
use Rattle.manifest_core.proofs.Items.{items_more}
use Rattle.manifest_core.proofs.listing.read_items.Goals as goal

pub loop-item-preserved : goal.loop-item-preserved
loop-item-preserved c =
    items_more c.args.items.now c.loop-item.item-index c.item-item.result c.loop-item-test.true c.item-item.is c.loop-item.all.items c.push.new.self.items c.in-Some.next c.in_ok-push.ensures.items (sym c.in_ok-next.ensures ∙ c.in-Some.is) _ c.loop-item.invariant
