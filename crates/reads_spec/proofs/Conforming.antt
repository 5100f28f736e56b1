-- What conforms keeps to the types.
use Rattle.std.proofs.Common.{◌≡◌, ℕ, Bool, true, false, List, [], ◌∷◌, Option, Some, None, refl, sym, ap, ◌∙◌, subst}
use Rattle.std.specs.Prelude.{IsTrue, IsSomeAnd, IfSome}
use Rattle.std.specs.List.{AllByRecursion}
use Rattle.std.specs.Option.{option_map}
use Rattle.policy_values.specs.Basename.{is_action_type}
use Rattle.policy_values.specs.declared.entity_uid.EntityUID.{EntityUID}
use Rattle.policy_values.specs.Value.{Val, rec, Fields, no_fields, field}
use Rattle.entity_store.specs.declared.request.Request.{Request}
use Rattle.entity_store.specs.Request.{principal_of, action_of, resource_of}
use Rattle.entity_store.specs.Store.{StoredEntity, Store}
use Rattle.policy_expressions.specs.declared.kinds.Var.TheVariants.{Principal, Action, Resource, Context}
use Rattle.policy_core.specs.Eval.{known_fields, variable_value}
use Rattle.type_relations.specs.Member.{Member}
use Rattle.schema_types.specs.declared.kinds.OpenTag.TheVariants.{ClosedAttributes}
use Rattle.schema_types.specs.Names.{has_name}
use Rattle.schema_types.specs.Ty.{Ty, record_of}
use Rattle.schema_core.specs.EnvData.{LinkedEnvironment, declared_action, literal_type}
use Rattle.schema_core.specs.Faults.{IsSchema}
use Rattle.schema_core.specs.Inside.{are_held}
use Rattle.schema_core.specs.Kinds.{tags_in}
use Rattle.schema_core.specs.Schema.{SchemaData, type_at, action_at}
use Rattle.typing_spec.specs.Conforms.{AreTags, TypedConforms, ActionConforms, ConformsAs, EntityConforms, StoreConforms, Applies, RequestConforms, IsOf}
use Rattle.reads_spec.specs.Paths.{AccessPath}
use Rattle.reads_spec.specs.PathTypes.{root_type}
use Rattle.reads_spec.specs.Restrict.{kept_chain}
use Rattle.reads_spec.specs.Cover.{IsMemberOf, AreMembersOf, HasTypes, KeepsTypes}
use Rattle.type_relations.proofs.UnionLaws.{own_text}
use Rattle.plain_lemmas.proofs.Booleans.{or_left_true}

tags_of : (o : Option Ty) (fs : Fields) → AreTags o fs → AreMembersOf o fs
tags_of None no_fields h = tt
tags_of None (field k v fs) h = absurd (cc)
tags_of (Some t) no_fields h = tt
tags_of (Some t) (field k v fs) h = (h.0, tags_of (Some t) fs h.1)

-- what holds of some value holds of the value that is there
at_some : {X : Type 0} (P : X → Type 0) (o : Option X) → IsSomeAnd o P → (x : X) × (o ≡ Some x) × P x
at_some P None h = absurd h
at_some P (Some x) h = (x, refl, h)

pub entity_types : (d : SchemaData) (e : StoredEntity) → EntityConforms d e → HasTypes d e
entity_types d e h = here (is_action_type e.uid.entity_type) h
  where
    here : (b : Bool) → ConformsAs d b e → HasTypes d e
    here true k =
        let a = at_some (λ a. ActionConforms d e) (action_at d e.uid) k in
        record {
          attributes = rw a.2.attributes tt;
          tags = rw a.2.tags tt;
        }
    here false k =
        let t = at_some (TypedConforms d e) (type_at d e.uid.entity_type) k in
        record {
          attributes = rw t.1 t.2.attributes.1;
          tags = rw t.1 (tags_of (tags_in t.0.kind) e.tags t.2.tags);
        }

pub store_types : (d : SchemaData) (s : Store) → StoreConforms d s → AllByRecursion (HasTypes d) s
store_types d [] h = tt
store_types d (e ∷ es) h = (entity_types d e h.0, store_types d es h.1)

has_itself : (n m : List ℕ) → m ≡ n → IsTrue (has_name (n ∷ []) m)
has_itself n m e = rw e (or_left_true _ _ (own_text n))

action_typed : (d : SchemaData) (u w : EntityUID) → u ≡ w → IsSomeAnd (action_at d w) (λ a. Unit {0}) → IsMemberOf (literal_type d w) (Rattle.policy_values.specs.Value.entity u)
action_typed d u w e h =
    let a = at_some (λ a. Unit {0}) (action_at d w) h in
    rw a.1 (ap (λ x. x.entity_type) e)

pub keeps_types : (d : SchemaData) → IsSchema d → (g : LinkedEnvironment) (q : Request) → RequestConforms d q → IsOf d q g → (ps : List AccessPath) (s : Store) → AllByRecursion (λ e. kept_chain ps q s e.uid [] ≡ true → HasTypes d e) s → KeepsTypes d (declared_action g) ps q s
keeps_types d schema g q request of ps s entities =
    let a = at_some (λ a. g.context ≡ a.context) (action_at d g.environment.action) of.context in
    let r = at_some (Applies d q) (action_at d (action_of q)) request.action in
    let same : a.0 ≡ r.0 = some_same (sym a.1 ∙ ap (action_at d) (sym of.action) ∙ r.1) in
    let ctx : Member (record_of g.context ClosedAttributes) (rec (known_fields q.context)) = rw (a.2, same) r.2.context in
    let held : IsTrue (are_held g.context) = rw a.2 (subst (λ o. IfSome (option_map (λ a. a.context) o) (λ xs. IsTrue (are_held xs))) a.1 (schema.types.contexts g.environment.action)) in
    record {
      valid = schema;
      closed = held;
      entries = λ v. entry (λ _. ctx) (subst (λ o. IsSomeAnd o (λ x. Unit {0})) (sym a.1) tt) v;
      entities = entities;
    }
  where
    some_same : {X : Type 0} {x y : X} → Some x ≡ Some y → x ≡ y
    some_same h = cc

    entry : (Unit {0} → Member (record_of g.context ClosedAttributes) (rec (known_fields q.context))) → IsSomeAnd (action_at d g.environment.action) (λ x. Unit {0}) → (v : Rattle.policy_expressions.specs.declared.kinds.Var.Var) → IsMemberOf (root_type d (declared_action g) (Rattle.reads_spec.specs.Paths.variable v)) (variable_value v q)
    entry ctx act Principal = has_itself g.environment.principal (principal_of q).entity_type of.principal
    entry ctx act Resource = has_itself g.environment.resource (resource_of q).entity_type of.resource
    entry ctx act Action = action_typed d (action_of q) g.environment.action of.action act
    entry ctx act Context = ctx tt

-- of a store that conforms
pub store_keeps_types : (d : SchemaData) → IsSchema d → (g : LinkedEnvironment) (q : Request) → RequestConforms d q → IsOf d q g → (ps : List AccessPath) (s : Store) → StoreConforms d s → KeepsTypes d (declared_action g) ps q s
store_keeps_types d schema g q request of ps whole store = keeps_types d schema g q request of ps whole (each whole (store_types d whole store))
  where
    each : (s : Store) → AllByRecursion (HasTypes d) s → AllByRecursion (λ e. kept_chain ps q whole e.uid [] ≡ true → HasTypes d e) s
    each [] h = tt
    each (e ∷ es) h = (λ k. h.0, each es h.1)
