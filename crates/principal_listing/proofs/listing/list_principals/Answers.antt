use Rattle.std.proofs.Common.{ap, ◌∙◌}
use Rattle.std.specs.Option.{option_copied}
use Rattle.principal_listing.specs.Allowed.{allowed_principals}
use Rattle.principal_listing.specs.Pages.{page_ids, has_more}
use Rattle.principal_listing.proofs.listing.list_principals.Goals as goal

pub returns-clause-ids : goal.returns-clause-ids
returns-clause-ids c =
    c.in_ok-page.ensures.ids
    ∙ ap (λ q. page_ids c.args.limit (option_copied c.args.after) (allowed_principals c.args.schema.now c.args.policies.now.policies q c.args.entities.now))
    c.in_ok-asked.ensures.request

pub returns-clause-more : goal.returns-clause-more
returns-clause-more c =
    c.in_ok-page.ensures.more
    ∙ ap (λ q. has_more c.args.limit (option_copied c.args.after) (allowed_principals c.args.schema.now c.args.policies.now.policies q c.args.entities.now))
    c.in_ok-asked.ensures.request
