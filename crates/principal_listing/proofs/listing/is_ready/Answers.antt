use Rattle.entity_manifest.proofs.OfStore.{store_ordered}
use Rattle.principal_listing.proofs.listing.is_ready.Goals as goal

pub returns : goal.returns
returns c = record {
  rules = c.requires.rules;
  action = c.requires.action;
  schema = c.action_ids-actions.ensures.schema;
  set = c.is_policy_set.ensures;
  store = store_ordered c.args.listing.now.entities.now c.iter-entities.ensures.ascending c.entities_are_ordered.ensures;
}
