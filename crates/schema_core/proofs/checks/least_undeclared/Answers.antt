use Rattle.std.specs.Option.{option_copied}
use Rattle.schema_core.proofs.Rules.{least_undeclared}
use Rattle.schema_core.proofs.checks.least_undeclared.Goals as goal

pub returns : goal.returns
returns c =
    rw (c.lower-3.ensures, c.lower-2.ensures, c.lower.ensures) (least_undeclared c.args.listing.now (option_copied c.least_unlisted-at_types.result) (option_copied c.least_outside-principal.result) (option_copied c.least_outside-resource.result) (option_copied c.undeclared_inside-inside.result)
    c.least_unlisted-at_types.ensures c.least_outside-principal.ensures c.least_outside-resource.ensures c.undeclared_inside-inside.ensures)
