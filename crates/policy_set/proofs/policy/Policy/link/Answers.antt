use Rattle.std.proofs.Common.{Some, ◌∙◌}
use Rattle.policy_set.proofs.policy.Policy.link.Goals as goal

pub returns : goal.returns
returns c =
    let written = c.in-Ok.ensures.link in
    let template = c.in-Ok-try_clone.ensures ∙ c.id.ensures in
    λ i. record {
      id = (written i).id;
      effect = (written i).effect;
      principal = (written i).principal;
      action = (written i).action;
      resource = (written i).resource;
      body = (written i).body;
      condition = c.in-Ok.ensures.condition i;
      link = Some (record { template = template i; values = c.args.values });
    }
