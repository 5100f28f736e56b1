-- What is asked of entities, as tests on addresses.
use Rattle.std.specs.Prelude.{◌≡◌, Bool, true, false, ◌&&◌, ◌||◌, List, ◌∷◌}
use Rattle.std.specs.List.{list_any}
use Rattle.policy_values.specs.declared.entity_uid.EntityUID.{EntityUID}
use Rattle.policy_values.specs.Uid.{uid_eq}
use Rattle.policy_values.specs.Value.{Val, entity, rec, Fields, no_fields, field}
use Rattle.entity_store.specs.Store.{StoredEntity}
use Rattle.reads_spec.specs.Restrict.{values_in}
use Rattle.access_tries.specs.declared.edge.Edge.TheVariants.{Field, AnyTag}
use Rattle.access_tries.specs.Edges.{Address}
use Rattle.access_tries.specs.Table.{Table}
use Rattle.access_tries.specs.Views.{ViewData, view_leads, view_marks}
use Rattle.entity_loading.specs.declared.place.Place.{Place}
use Rattle.entity_loading.specs.Places.{node_of}

-- a test on the addresses below a node
abbrev pub Test : Type 0
Test = Address → Bool

-- where the node leads, and what it marks
abbrev pub sees : Bool → ViewData → Test
sees false v = view_leads v
sees true v = view_marks v

-- whether some place asks the entity for the address
abbrev pub needs : Bool → Table → List Place → EntityUID → Test
needs b ns ps x a = list_any (λ p. uid_eq p.uid x && sees b (node_of ns p) a) ps

-- whether the value leads, through records alone and along addresses that go on to pass the test, to the
-- entity, with that address left
abbrev mutual
  pub points : Val → Test → EntityUID → Test
  points (entity y) t x a = uid_eq y x && t a
  points (rec fs) t x a = fields_point fs t x a
  points v t x a = false

  pub fields_point : Fields → Test → EntityUID → Test
  fields_point no_fields t x a = false
  fields_point (field n v fs) t x a = points v (λ b. t (Field n ∷ b)) x a || fields_point fs t x a

-- whether attributes, or tags, of the entity do
abbrev pub entity_points : StoredEntity → Test → EntityUID → Test
entity_points e t x a =
    fields_point e.attrs t x a || list_any (λ v. points v (λ b. t (AnyTag ∷ b)) x a) (values_in e.tags)

-- the new places ask what the old ones ask, or this, and nothing else
pub record Adds (ns : Table) (more : Bool → EntityUID → Test) (old new : List Place) : Type 0 where
  pub each : (b : Bool) (x : EntityUID) (a : Address) →
      needs b ns new x a ≡ (needs b ns old x a || more b x a)
