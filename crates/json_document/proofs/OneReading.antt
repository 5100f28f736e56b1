-- A JSON value that is a document is no other document, and has no fault.
use Rattle.std.proofs.Common.{◌≡◌, ℕ, List, [], inl, inr, Option, Some, None, Result, Ok, Err, sym, ◌∙◌, ap, subst}
use Rattle.std.specs.Prelude.{IfSome, IsSomeAnd}
use Rattle.serde_json.specs.Data.{Data}
use Rattle.json_values.specs.Json.{json_of}
use Rattle.policy_values.proofs.Repeated.{earlier_at}
use Rattle.entity_store.specs.Store.{StoredEntity, Store}
use Rattle.entity_store.specs.FromParents.{IsFromParents, ids_of}
use Rattle.entity_store.proofs.OneStore.{one_store}
use Rattle.policy_set.specs.PolicySet.{PolicySetData}
use Rattle.entity_store.specs.declared.request.Request.{Request}
use Rattle.schema_core.specs.Schema.{SchemaData}
use Rattle.json_schema.specs.Schema.{schema_of}
use Rattle.schema_core.specs.Entries.{Declarations}
use Rattle.schema_core.specs.Declarations.{IsSchemaOf, declared_outline}
use Rattle.schema_core.proofs.OneSchema.{one_schema}
use Rattle.schema_core.specs.declared.fault.SchemaFault.{SchemaFault}
use Rattle.schema_core.specs.declared.fault.SchemaFault.TheVariants as refused
use Rattle.json_document.specs.Edits.{edits_of}
use Rattle.json_document.specs.Faults.{Then}
use Rattle.json_document.specs.Parts.{DocumentParts, parts_of}
use Rattle.json_document.specs.Policies.{no_policies, policies_of}
use Rattle.json_document.specs.Request.{request_of, requests_of}
use Rattle.json_document.specs.Entities.{entities_of}
use Rattle.json_document.specs.Store.{IsStoreFrom, IsStoreFault}
use Rattle.json_document.specs.Reading.{IsRead, IsReadAs, IsReadFrom, IsReadBehindSchema, IsReadBehindPolicies, IsReadBehindEdits, IsReadBehindStore, IsReadBehindRequest, IsSchemaFrom, IsSchemaFault, document, or_place}
use Rattle.json_document.specs.declared.document.Document.{Document}
use Rattle.json_document.specs.declared.edit.Edit.{Edit}
use Rattle.json_document.specs.declared.place.Place.{Place}
use Rattle.json_document.specs.declared.shape.Shape.{Shape}
use Rattle.json_document.specs.declared.place.Place.TheVariants as place

-- a reading that comes to a value comes to nothing else
abbrev IsOne : {A : Type 0} → (Result A Place → Type 0) → Type 0
IsOne {A} First = (x : A) (r : Result A Place) → First (Ok x) → First r → r ≡ Ok x

same_ok : {A : Type 0} (z x : A) → ◌≡◌ {A = Result A Place} (Ok z) (Ok x) → z ≡ x
same_ok z x e = cc

-- two parts in turn, each of which comes to one value at most
one_then : {A B : Type 0} (First : Result A Place → Type 0) (Next : A → Result B Place → Type 0) → IsOne First → ((x : A) → IsOne (Next x)) → IsOne (Then First Next)
one_then First Next one next y r (inl (p, f, e)) t = absurd (cc (e))
one_then First Next one next y r (inr (x, f, n)) (inl (p, g, e)) = absurd (cc (one x (Err p) f g))
one_then {A} First Next one next y r (inr (x, f, n)) (inr (z, g, m)) =
    next x y r n (subst (λ w. Next w r) (same_ok z x (one x (Ok z) f g)) m)

one_value : {A : Type 0} (e : Result A Place) → IsOne (λ r. r ≡ e)
one_value e x r f g = g ∙ sym f

unlike : {A : Type 0} {P Q : A → Type 0} (o : Option A) → IfSome o P → IsSomeAnd o Q → ((x : A) → P x → Q x → ⊥) → ⊥
unlike None p q never = q
unlike (Some x) p q never = never x p q

no_schema_fault : (d : Declarations) (s : SchemaData) (f : SchemaFault) → IsSchemaOf d s → IsSchemaFault d (place.SchemaFault f) → ⊥
no_schema_fault d s refused.OutOfMemory is fault = fault
no_schema_fault d s (refused.DuplicateAction u) is fault = is.once u fault.holds
no_schema_fault d s (refused.ActionTypeDeclared x) is (once, least) = cc (is.names.types x least.holds.0, least.holds.1)
no_schema_fault d s (refused.EmptyEnum x) is (once, (a, least)) = unlike ((declared_outline d).kind_at x) (is.names.enums x) least.holds (λ k p q. cc (p, q))
no_schema_fault d s (refused.NotAnAction u) is (once, (a, b, least)) = cc (is.names.actions u least.holds.0, least.holds.1)
no_schema_fault d s (refused.UndeclaredType x) is (once, (a, b, e, least)) = cc (is.names.named_types x least.holds.1, least.holds.0)
no_schema_fault d s (refused.UndeclaredAction u) is (once, (a, b, e, g, least)) = cc (is.names.named_actions u least.holds.1, least.holds.0)
no_schema_fault d s (refused.ActionCycle u) is (named, least) = is.no_cycle u least.holds
no_schema_fault d s (refused.EnumHasAncestor x) is (named, a, least) = is.no_enum x least.holds
no_schema_fault d s (refused.NotClosed x) is (once, never) = never
no_schema_fault d s (refused.ActionNotClosed u) is (once, never) = never
no_schema_fault d s (refused.BadType x) is (members, least) = unlike ((declared_outline d).kind_at x) (is.types.kinds x) least.holds (λ k p q. cc (p, q))
no_schema_fault d s (refused.BadContext u) is (members, (a, least)) = unlike ((declared_outline d).context_at u) (is.types.contexts u) least.holds (λ xs p q. cc (p, q))
no_schema_fault d s (refused.UnknownExtension n) is (members, (a, b, least)) = cc (is.types.extensions n least.holds.1, least.holds.0)

no_schema_place : (d : Declarations) (s : SchemaData) (p : Place) → IsSchemaOf d s → IsSchemaFault d p → ⊥
no_schema_place d s (place.SchemaFault f) is fault = no_schema_fault d s f is fault
no_schema_place d s place.Json is fault = fault
no_schema_place d s place.Form is fault = fault
no_schema_place d s place.Schema is fault = fault
no_schema_place d s (place.Policy i) is fault = fault
no_schema_place d s (place.PolicyNested i) is fault = fault
no_schema_place d s (place.PolicyDuplicate i) is fault = fault
no_schema_place d s (place.UnknownTemplate i) is fault = fault
no_schema_place d s (place.SlotMissing i) is fault = fault
no_schema_place d s (place.SlotExtra i) is fault = fault
no_schema_place d s (place.Edit i) is fault = fault
no_schema_place d s (place.EditNested i) is fault = fault
no_schema_place d s (place.Entity i) is fault = fault
no_schema_place d s (place.EntityDuplicate i) is fault = fault
no_schema_place d s (place.EntityCycle i) is fault = fault
no_schema_place d s place.Request is fault = fault
no_schema_place d s (place.RequestAt i) is fault = fault

schema_once : (o : Option Declarations) → IsOne (IsSchemaFrom o)
schema_once None x r f g = absurd (cc (f))
schema_once (Some d) x (Ok s) f g = ap Ok (one_schema d s x g f)
schema_once (Some d) x (Err p) f g = absurd (no_schema_place d x p f g)

no_store_place : (es : List StoredEntity) (s : Store) (p : Place) → IsFromParents es s → IsStoreFault es p → ⊥
no_store_place es s (place.EntityDuplicate i) is fault = let (k, at, earlier) = earlier_at (ids_of es) i fault.holds in is.once k (i, at, earlier)
no_store_place es s (place.EntityCycle i) is (uid, cycle, at) = is.no_cycle uid cycle.1.holds
no_store_place es s (place.SchemaFault f) is fault = fault
no_store_place es s place.Json is fault = fault
no_store_place es s place.Form is fault = fault
no_store_place es s place.Schema is fault = fault
no_store_place es s (place.Policy i) is fault = fault
no_store_place es s (place.PolicyNested i) is fault = fault
no_store_place es s (place.PolicyDuplicate i) is fault = fault
no_store_place es s (place.UnknownTemplate i) is fault = fault
no_store_place es s (place.SlotMissing i) is fault = fault
no_store_place es s (place.SlotExtra i) is fault = fault
no_store_place es s (place.Edit i) is fault = fault
no_store_place es s (place.EditNested i) is fault = fault
no_store_place es s (place.Entity i) is fault = fault
no_store_place es s place.Request is fault = fault
no_store_place es s (place.RequestAt i) is fault = fault

store_from : (o : Result (List StoredEntity) Place) → IsOne (IsStoreFrom o)
store_from (Err p) x r f g = absurd (cc (f))
store_from (Ok es) x (Ok s) f g = ap Ok (one_store es s x g f)
store_from (Ok es) x (Err p) f g = absurd (no_store_place es x p f g)

behind_request : (parts : DocumentParts) (schema : SchemaData) (policies : PolicySetData) (edits : List Edit) (entities : Store) (request : Request) → IsOne (IsReadBehindRequest parts schema policies edits entities request)
behind_request parts schema policies edits entities request = one_then _ _ (one_value (requests_of [] parts.requests)) (λ requests. one_value (Ok (document schema policies edits entities request requests)))

behind_store : (parts : DocumentParts) (schema : SchemaData) (policies : PolicySetData) (edits : List Edit) (entities : Store) → IsOne (IsReadBehindStore parts schema policies edits entities)
behind_store parts schema policies edits entities = one_then _ _ (one_value (or_place place.Request (request_of parts.request))) (behind_request parts schema policies edits entities)

behind_edits : (parts : DocumentParts) (schema : SchemaData) (policies : PolicySetData) (edits : List Edit) → IsOne (IsReadBehindEdits parts schema policies edits)
behind_edits parts schema policies edits = one_then _ _ (store_from (entities_of [] parts.entities)) (behind_store parts schema policies edits)

behind_policies : (parts : DocumentParts) (schema : SchemaData) (policies : PolicySetData) → IsOne (IsReadBehindPolicies parts schema policies)
behind_policies parts schema policies = one_then _ _ (one_value (edits_of [] parts.edits)) (behind_edits parts schema policies)

behind_schema : (parts : DocumentParts) (schema : SchemaData) → IsOne (IsReadBehindSchema parts schema)
behind_schema parts schema = one_then _ _ (one_value (policies_of 0 no_policies parts.policies)) (behind_policies parts schema)

read_from : (parts : DocumentParts) → IsOne (IsReadFrom parts)
read_from parts = one_then _ _ (schema_once (schema_of parts.schema)) (behind_schema parts)

pub one_reading : (shape : Shape) (v : Data) (d : Document) (r : Result Document Place) → IsRead shape v (Ok d) → IsRead shape v r → r ≡ Ok d
unfolding IsRead
one_reading shape v d r f g = one_then _ _ (one_value (or_place place.Form (parts_of shape v))) read_from d r f g

-- bytes that are a document are no other document, and have no fault
pub one_reading_of : (shape : Shape) (bytes : List ℕ) (d : Document) (r : Result Document Place) → IsReadAs shape bytes (Ok d) → IsReadAs shape bytes r → r ≡ Ok d
unfolding IsReadAs
one_reading_of shape bytes d r f g = one_then _ _ (one_value (or_place place.Json (json_of bytes))) (one_reading shape) d r f g
