use Rattle.std.proofs.lemmas.Result.{on_ok_weaker}
use Rattle.entity_loading.proofs.FollowSteps.{placed_below}
use Rattle.entity_loading.proofs.LedSteps.{led_entity}
use Rattle.entity_loading.proofs.begin.ask_at.Goals as goal

pub returns-clause-below : goal.returns-clause-below
returns-clause-below c = on_ok_weaker c.ask.result (λ t. placed_below c.args.trie.now _ c.args.next.now.keys c.ask.new.places.keys t c.number.ensures c.requires.there) c.ask.ensures

pub returns-clause-leads : goal.returns-clause-leads
returns-clause-leads c = on_ok_weaker c.ask.result (λ t. led_entity c.args.uid.now c.args.trie.now) c.ask.ensures
