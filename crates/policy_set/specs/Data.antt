-- Templates and policies as plain data.
use Rattle.std.specs.Prelude.{ℕ, List, Option, refl}
use Rattle.std.specs.Coded.{Coded, coded_ℕ, coded_list, coded_option, coded×, code_by}
use base.Stored.{coded_unit}
use Rattle.policy_expressions.specs.Plain.{Plain}
use Rattle.policy_expressions.specs.TreeCode.{coded_tree, coded_mark}
use Rattle.policy_expressions.specs.declared.kinds.SlotValues.{SlotValues}
use Rattle.policy_expressions.specs.contracts.kinds.SlotValues.{the_row as values_row}
use Rattle.policy_set.specs.declared.constraint.Effect.{Effect}
use Rattle.policy_set.specs.declared.constraint.PrincipalOrResourceConstraint.{PrincipalOrResourceConstraint}
use Rattle.policy_set.specs.declared.constraint.ActionConstraint.{ActionConstraint}
use Rattle.policy_set.specs.contracts.constraint.Effect.{the_row as effect_row}
use Rattle.policy_set.specs.contracts.constraint.PrincipalOrResourceConstraint.{the_row as constraint_row}
use Rattle.policy_set.specs.contracts.constraint.ActionConstraint.{the_row as action_row}

-- a template: what it does where its condition is true, what its scope asks for, and its body
pub record TemplateData : Type 0 where
  pub id : List ℕ
  pub effect : Effect
  pub principal : PrincipalOrResourceConstraint
  pub action : ActionConstraint
  pub resource : PrincipalOrResourceConstraint
  pub body : Plain

-- what makes a policy a link: the id of the template that it links, and the ids that it gives for the
-- template's slots
pub record LinkData : Type 0 where
  pub template : List ℕ
  pub values : SlotValues

-- a policy of a set, with its own condition. Where it is a link, its scope has the link's ids in the places
-- of slots; a static policy has no link
pub record PolicyData : Type 0 where
  pub id : List ℕ
  pub effect : Effect
  pub principal : PrincipalOrResourceConstraint
  pub action : ActionConstraint
  pub resource : PrincipalOrResourceConstraint
  pub body : Plain
  pub condition : Plain
  pub link : Option LinkData

-- each is stored as the tuple of its parts
abbrev text : Coded (List ℕ)
text = coded_list coded_ℕ

abbrev plain : Coded Plain
plain = coded_tree (coded_mark coded_unit)

abbrev constraint : Coded PrincipalOrResourceConstraint
constraint = constraint_row.coded

abbrev pub coded_template : Coded TemplateData
coded_template =
    code_by (List ℕ × (Effect × (PrincipalOrResourceConstraint ×
    (ActionConstraint × (PrincipalOrResourceConstraint × Plain)))))
    (coded× text
    (coded× effect_row.coded (coded× constraint (coded× action_row.coded (coded× constraint plain)))))
    (λ t. (t.id, (t.effect, (t.principal, (t.action, (t.resource, t.body))))))
    (λ p. record {
      id = p.0;
      effect = p.1.0;
      principal = p.1.1.0;
      action = p.1.1.1.0;
      resource = p.1.1.1.1.0;
      body = p.1.1.1.1.1;
    })
    (λ _. refl)

abbrev pub coded_link : Coded LinkData
coded_link = code_by (List ℕ × SlotValues) (coded× text values_row.coded)
    (λ l. (l.template, l.values)) (λ p. record { template = p.0; values = p.1 }) (λ _. refl)

abbrev pub coded_policy : Coded PolicyData
coded_policy =
    code_by (TemplateData × (Plain × Option LinkData))
    (coded× coded_template (coded× plain (coded_option coded_link)))
    (λ p. (
      record {
        id = p.id;
        effect = p.effect;
        principal = p.principal;
        action = p.action;
        resource = p.resource;
        body = p.body;
      },
      (p.condition, p.link),
    ))
    (λ c. record {
      id = c.0.id;
      effect = c.0.effect;
      principal = c.0.principal;
      action = c.0.action;
      resource = c.0.resource;
      body = c.0.body;
      condition = c.1.0;
      link = c.1.1;
    })
    (λ _. refl)
