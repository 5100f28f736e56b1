use Rattle.std.proofs.Common.{subst}
use Rattle.std.proofs.lemmas.Result.{on_ok_weaker}
use Rattle.policy_values.specs.Value.{rec, fields_of}
use Rattle.entity_loading.specs.Leads.{Leads, IsLed}
use Rattle.entity_loading.specs.Needs.{points}
use Rattle.entity_loading.proofs.FollowSteps.{at_or_below, or_weaker}
use Rattle.entity_loading.proofs.LedSteps.{led_record}
use Rattle.entity_loading.proofs.begin.follow_context.Goals as goal

pub returns-clause-below : goal.returns-clause-below
returns-clause-below c = on_ok_weaker c.follow_fields.result (λ f q h. or_weaker (at_or_below c.args.trie.now q) (f q h)) c.follow_fields.ensures.below

pub returns-clause-leads : goal.returns-clause-leads
returns-clause-leads c =
    on_ok_weaker c.follow_fields.result
    (λ f. subst (λ fs. IsLed c.args.trie.now (points (rec fs)) (Leads (rec fs))) c.fields.ensures (led_record (fields_of c.fields.result.now.entries) c.args.trie.now f))
    c.follow_fields.ensures.leads
