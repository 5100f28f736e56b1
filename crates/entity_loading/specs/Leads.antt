-- Walks that lead where values point.
use Rattle.std.specs.Prelude.{◌≡◌, Bool, true, List, ◌∷◌, ◌++◌, Some, map}
use Rattle.policy_values.specs.declared.entity_uid.EntityUID.{EntityUID}
use Rattle.policy_values.specs.Value.{Val, entity, Fields}
use Rattle.entity_store.specs.declared.request.Request.{Request}
use Rattle.entity_store.specs.Store.{StoredEntity, Store}
use Rattle.access_tries.specs.declared.edge.Edge.{Edge}
use Rattle.access_tries.specs.declared.edge.Edge.TheVariants.{Root}
use Rattle.access_tries.specs.declared.edge.EntityRoot.{EntityRoot}
use Rattle.access_tries.specs.Edges.{Address}
use Rattle.access_tries.specs.Paths.{edge_of}
use Rattle.access_tries.specs.Table.{Table}
use Rattle.access_tries.specs.Views.{ViewData, whole}
use Rattle.reads_spec.specs.Paths.{Step}
use Rattle.reads_spec.specs.Restrict.{step_in_entity, step_in_record, walk, root_value}
use Rattle.reads_spec.specs.Among.{IsIn}
use Rattle.entity_loading.specs.Needs.{Test, sees, points}

-- from the value steps lead to the entity, whatever the store, and with this address behind them they pass
-- the test
pub record Leads (v : Val) (t : Test) (x : EntityUID) (a : Address) : Type 0 where
  pub steps : List Step
  pub reaches : (s : Store) → IsIn (entity x) (walk s v steps)
  pub passes : t (map edge_of steps ++ a) ≡ true

-- so they do from one of these values, behind a first step
pub record StepLeads (values : Step → List Val) (t : Test) (x : EntityUID) (a : Address) : Type 0 where
  pub first : Step
  pub value : Val
  pub among : IsIn value (values first)
  pub rest : Leads value (λ b. t (edge_of first ∷ b)) x a

-- from a field, or from an attribute or a tag of an entity
abbrev pub FieldsLead : Fields → Test → EntityUID → Address → Type 0
FieldsLead fs = StepLeads (step_in_record fs)

abbrev pub EntityLeads : StoredEntity → Test → EntityUID → Address → Type 0
EntityLeads e = StepLeads (step_in_entity (Some e))

-- from one of the values
pub record SomeLeads (vs : List Val) (t : Test) (x : EntityUID) (a : Address) : Type 0 where
  pub value : Val
  pub among : IsIn value vs
  pub rest : Leads value t x a

-- from the value of a root
pub record RootLeads (ns : Table) (q : Request) (b : Bool) (x : EntityUID) (a : Address) : Type 0 where
  pub root : EntityRoot
  pub rest : Leads (root_value q root) (λ c. sees b (whole ns) (Root root ∷ c)) x a

-- where the first says that something is pointed at along the trie, the second has the steps that lead there
abbrev pub IsLed : ViewData → (Test → EntityUID → Test) → (Test → EntityUID → Address → Type 0) → Type 0
IsLed v points leads =
    (b : Bool) (x : EntityUID) (a : Address) → points (sees b v) x a ≡ true → leads (sees b v) x a

-- where an edge begins a path, and the value of its root points somewhere, steps lead there
abbrev pub IsEdgeLed : ViewData → Request → Edge → Type 0
IsEdgeLed v q (Root r) = IsLed v (points (root_value q r)) (Leads (root_value q r))
IsEdgeLed v q e = Unit {0}
