-- Where the answers of a round lead.
use Rattle.std.specs.Prelude.{Bool, false, List, Option, Some, None}
use Rattle.std.specs.List.{list_any}
use Rattle.policy_values.specs.declared.entity_uid.EntityUID.{EntityUID}
use Rattle.entity_store.specs.Store.{StoredEntity}
use Rattle.policy_values.specs.Value.{Val}
use Rattle.access_tries.specs.Table.{Table}
use Rattle.access_tries.specs.Views.{ViewData}
use Rattle.reads_spec.specs.Among.{IsIn}
use Rattle.entity_loading.specs.declared.place.Place.{Place}
use Rattle.entity_loading.specs.Places.{node_of}
use Rattle.entity_loading.specs.CannotGoOn.{Tests, tests_of, EntityBlocks}
use Rattle.entity_loading.specs.Needs.{Test, sees, entity_points}

-- where an answer leads from a node; an absent one leads nowhere
abbrev pub answer_points : Option StoredEntity → ViewData → Bool → EntityUID → Test
answer_points None v b x a = false
answer_points (Some e) v b x a = entity_points e (sees b v) x a

-- where answers lead, each from the places at which it was asked for
abbrev pub answers_point : Table → (EntityUID → Option StoredEntity) → List Place → Bool → EntityUID → Test
answers_point ns found ps b x a = list_any (λ p. answer_points (found p.uid) (node_of ns p) b x a) ps

-- a path cannot go on from a value of the answer
abbrev pub AnswerBlocks : Option StoredEntity → Tests → Val → Type 0
AnswerBlocks None t u = ⊥
AnswerBlocks (Some e) t u = EntityBlocks e t u

-- a path cannot go on from a value of some answer, where it was asked for at some place
pub record SomeAnswerBlocks (ns : Table) (found : EntityUID → Option StoredEntity)
    (ps : List Place) (u : Val) : Type 0 where
  pub place : Place
  pub among : IsIn place ps
  pub sticks : AnswerBlocks (found place.uid) (tests_of (node_of ns place)) u
