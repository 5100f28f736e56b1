use Rattle.std.proofs.Common.{◌∙◌, ap, sym}
use Rattle.policy_values.specs.Uid.{uid_eq}
use Rattle.entity_files.proofs.Placed.{same_id}
use Rattle.entity_files.proofs.reading.read_only.Goals as goal

pub returns-then-is_same-clause-id : goal.returns-then-is_same-clause-id
returns-then-is_same-clause-id c =
    same_id c.in-Some.entity.uid c.args.uid.now (ap (λ v. uid_eq v c.args.uid.now) (sym c.uid.ensures) ∙ sym c.is_same.ensures ∙ c.if-is_same.true)
