use Rattle.policy_values.proofs.Least.{IsLeast-same}
use Rattle.policy_values.specs.Uid.{copied_uid}
use Rattle.schema_core.specs.Listing.{listed_outline}
use Rattle.schema_core.proofs.Rules.{undeclared_action, sound_names}
use Rattle.schema_core.proofs.checks.check_names.Goals as goal

pub returns-in-Some-least_unlisted : goal.returns-in-Some-least_unlisted
returns-in-Some-least_unlisted c =
    let same = copied_uid c.in-Some-least_unlisted.uid.now c.in_ok-clone-5.field-0 c.in_ok-clone-5.ensures.cases in
    (c.in_default.ensures, c.in_default-first_empty_enum.ensures, c.in_default-first_no_action.ensures, c.in_default-least_undeclared.ensures, IsLeast-same (undeclared_action c.args.listing.now) (rw same c.in-Some-least_unlisted.ensures))

pub returns : goal.returns
returns c =
    sound_names (listed_outline c.args.listing.now) c.in_default.ensures c.in_default-first_empty_enum.ensures c.in_default-first_no_action.ensures c.in_default-least_undeclared.ensures
    (λ q h. c.in_default-least_unlisted.ensures q ((undeclared_action c.args.listing.now q).1 h))
