use Rattle.std.proofs.Common.{is_none, ap, ◌∙◌}
use Rattle.conformance.proofs.Listed.{none_unlisted_is}
use Rattle.conformance.proofs.ids.lists_ids.Goals as goal

pub returns-in-Some : goal.returns-in-Some
returns-in-Some c = ap is_none c.in-Some.ensures ∙ none_unlisted_is c.args.schema.now c.args.v.now

pub returns-in-None : goal.returns-in-None
returns-in-None c = ap is_none c.in-None.ensures ∙ none_unlisted_is c.args.schema.now c.args.v.now
