-- Values that a path of a trie cannot go on from.
use Rattle.std.specs.Prelude.{◌≡◌, ◌⊎◌, Bool, true, false, List, [], ◌∷◌, Option, Some, None, map}
use Rattle.policy_values.specs.Value.{Val, entity, rec, Fields, no_fields, field}
use Rattle.entity_store.specs.Store.{StoredEntity}
use Rattle.access_tries.specs.declared.edge.Edge.{Edge}
use Rattle.access_tries.specs.declared.edge.Edge.TheVariants.{Field, AnyTag, Root}
use Rattle.access_tries.specs.declared.edge.EntityRoot.{EntityRoot}
use Rattle.access_tries.specs.Paths.{edge_of}
use Rattle.access_tries.specs.Views.{ViewData, view_leads, view_marks}
use Rattle.reads_spec.specs.Paths.{Step}
use Rattle.reads_spec.specs.Restrict.{values_in}
use Rattle.entity_loading.specs.declared.follow.FollowError.{FollowError}
use Rattle.entity_loading.specs.declared.follow.FollowError.TheVariants as error
use Rattle.entity_loading.specs.Needs.{Test}

-- where a node leads, and what it marks
pub record Tests : Type 0 where
  pub leads : Test
  pub marks : Test

abbrev pub tests_of : ViewData → Tests
tests_of v = record { leads = view_leads v; marks = view_marks v }

-- the tests behind an edge
abbrev pub behind : Edge → Tests → Tests
behind e t = record { leads = λ a. t.leads (e ∷ a); marks = λ a. t.marks (e ∷ a) }

abbrev pub is_step : Edge → Bool
is_step (Root r) = false
is_step e = true

-- paths go on
abbrev pub GoesOn : Tests → Type 0
GoesOn t = (n : Step) × (t.leads (edge_of n ∷ []) ≡ true)

-- a path leads to a marked node
abbrev pub MarksSome : Tests → Type 0
MarksSome t = (ns : List Step) × (t.marks (map edge_of ns) ≡ true)

-- ancestors are asked for
abbrev pub Demands : Tests → Type 0
Demands t = (r : EntityRoot) × (ns : List Step) × (t.marks (Root r ∷ map edge_of ns) ≡ true)

-- in the value v, through fields of records along the trie, there stands u, below which a path goes on though
-- it is neither id nor record, or of which ancestors are asked for though it is no id
abbrev mutual
  pub Sticks : Val → Tests → Val → Type 0
  Sticks (entity y) t u = ⊥
  Sticks (rec fs) t u = ((u ≡ rec fs) × Demands t) ⊎ FieldsBlock fs t u
  Sticks v t u = (u ≡ v) × (GoesOn t ⊎ Demands t)

  pub FieldsBlock : Fields → Tests → Val → Type 0
  FieldsBlock no_fields t u = ⊥
  FieldsBlock (field n v fs) t u = Sticks v (behind (Field n) t) u ⊎ FieldsBlock fs t u

-- in some of the values
abbrev pub SomeBlocks : List Val → Tests → Val → Type 0
SomeBlocks [] t u = ⊥
SomeBlocks (v ∷ vs) t u = Sticks v t u ⊎ SomeBlocks vs t u

-- in attributes, or tags, of the entity
abbrev pub EntityBlocks : StoredEntity → Tests → Val → Type 0
EntityBlocks e t u = FieldsBlock e.attrs t u ⊎ SomeBlocks (values_in e.tags) (behind AnyTag t) u

-- the refusal carries such a value
abbrev pub RefusedBy : (Val → Type 0) → FollowError → Type 0
RefusedBy P (error.Incompatible u) = P u
RefusedBy P error.OutOfMemory = Unit {0}

-- a value that blocks, or none where nothing does
abbrev pub CannotStep : (Val → Type 0) → Option Val → Type 0
CannotStep P None = (u : Val) → ¬ P u
CannotStep P (Some u) = P u
