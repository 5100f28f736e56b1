use Rattle.schema_core.proofs.Shown.{shown_outline, shown_schema}
use Rattle.schema_core.proofs.listing.Listing.arranged.Goals as goal

pub returns : goal.returns
returns c =
    rw (c.in_ok-entity_types.ensures.each, c.in_ok-action_ids.ensures.each)
    (shown_schema c.args.self c.requires.listing c.in_ok-entity_types.ensures.ordered c.in_ok-action_ids.ensures.ordered c.requires.names c.requires.closed c.requires.types, shown_outline c.args.self c.requires.listing)
