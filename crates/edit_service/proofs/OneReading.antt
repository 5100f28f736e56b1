-- Bytes that are a document are no other document, and have no fault.
use Rattle.std.proofs.Common.{◌≡◌, ℕ, zero, suc, List, [], inl, inr, Option, Some, None, Result, Ok, Err, refl, sym, ◌∙◌, ap, codes, rules}
use Rattle.std.specs.Prelude.{IsSomeAnd, slice_get}
use Rattle.std.specs.List.Sorted.{IsStrictlySortedBy}
use Rattle.policy_values.specs.Uid.{uid_cmp}
use Rattle.serde_json.specs.Data.{Data, object, member, no_members, no_items}
use Rattle.json_values.specs.Json.{json_of}
use Rattle.policy_values.specs.Reaches.{Reaches, last, more}
use Rattle.policy_values.specs.declared.entity_uid.EntityUID.{EntityUID}
use Rattle.entity_store.specs.FromParents.{IsFromParents, Lists, ids_of}
use Rattle.entity_store.specs.declared.request.Request.{Request}
use Rattle.policy_set.specs.PolicySet.{PolicySetData}
use Rattle.schema_core.specs.Schema.{SchemaData}
use Rattle.json_schema.specs.Schema.{schema_of}
use Rattle.json_document.specs.Parts.{DocumentParts, parts_of as parts_of_document}
use Rattle.json_document.specs.Policies.{no_policies}
use Rattle.json_document.specs.Reading.{IsRead as IsDocument, IsSchemaFrom, document}
use Rattle.json_document.specs.declared.document.Document.{Document}
use Rattle.json_document.specs.declared.place.Place.{Place}
use Rattle.json_document.specs.declared.shape.Shape.TheVariants.{Whole}
use Rattle.json_document.proofs.OneReading.{one_reading}
use Rattle.edit_service.specs.Documents.{EditParts, IsRead, IsReadAs, IsReadFrom, parts_of, set_of}
use Rattle.edit_service.specs.declared.document.EditDocument.{EditDocument}
use Rattle.edit_service.specs.declared.fault.EditFault.{EditFault}
use Rattle.edit_service.specs.declared.fault.EditFault.TheVariants.{Json, Form, Schema, Before, Policies}

-- ---- a schema: a document that has nothing else is read in one way

none_there : (i : ℕ) (u : EntityUID) → slice_get (ids_of []) i ≡ Some u → ⊥
none_there zero u h = cc
none_there (suc i) u h = cc

none_reached : (x y : EntityUID) → Reaches (Lists []) x y → ⊥
none_reached x y (last h) = h
none_reached x y (more {y = z} h r) = none_reached z y r

none_ordered : IsStrictlySortedBy uid_cmp (ids_of [])
unfolding IsStrictlySortedBy
none_ordered = tt

no_entities : IsFromParents [] []
no_entities = record {
  once = λ u h. none_there h.0 u h.1;
  no_cycle = λ u h. none_reached u u h;
  ordered = none_ordered;
  kept = λ u. refl;
  ancestors = λ x y. ((λ h. absurd h), (λ h. absurd (none_reached x y h)));
  ascending = search rules;
}

module _ (schema : Data) where
  abbrev alone : Data
  alone = object (member (codes "schema") schema no_members)

  abbrev parts : DocumentParts
  parts = record { schema = schema; policies = no_items; entities = no_items; request = None; requests = no_items; edits = no_items }

  abbrev no_request : Request
  no_request = record { principal = None; action = None; resource = None; context = None }

  abbrev with : SchemaData → Document
  with s = document s no_policies [] [] no_request []

  read : (s : SchemaData) → IsSchemaFrom (schema_of schema) (Ok s) → IsDocument Whole alone (Ok (with s))
  unfolding IsDocument parts_of_document
  read s is = inr (parts, refl, inr (s, is, inr (no_policies, refl, inr ([], refl, inr ([], no_entities, inr (no_request, refl, inr ([], refl, refl)))))))

  refused : (p : Place) → IsSchemaFrom (schema_of schema) (Err p) → IsDocument Whole alone (Err p)
  unfolding IsDocument parts_of_document
  refused p is = inr (parts, refl, inl (p, is, refl))

  pub same_schema : (s t : SchemaData) → IsSchemaFrom (schema_of schema) (Ok s) → IsSchemaFrom (schema_of schema) (Ok t) → t ≡ s
  same_schema s t f g = ap (λ d. d.schema) (same (one_reading Whole alone (with s) (Ok (with t)) (read s f) (read t g)))
    where
      same : ◌≡◌ {A = Result Document Place} (Ok (with t)) (Ok (with s)) → with t ≡ with s
      same h = cc

  pub no_fault : (s : SchemaData) (p : Place) → IsSchemaFrom (schema_of schema) (Ok s) → IsSchemaFrom (schema_of schema) (Err p) → ⊥
  no_fault s p f g = never (one_reading Whole alone (with s) (Err p) (read s f) (refused p g))
    where
      never : ◌≡◌ {A = Result Document Place} (Err p) (Ok (with s)) → ⊥
      never h = cc

-- ---- the parts in turn

set_once : (r : Result PolicySetData Place) (b c : PolicySetData) → r ≡ Ok b → r ≡ Ok c → b ≡ c
set_once r b c f g = cc

no_place : (r : Result PolicySetData Place) (b : PolicySetData) (p : Place) → r ≡ Ok b → r ≡ Err p → ⊥
no_place r b p f g = cc

module _ (x : EditParts) (d : EditDocument) (is : IsReadFrom x (Ok d)) where
  same_document : (e : EditDocument) → IsReadFrom x (Ok e) → e ≡ d
  same_document e (t, of, (b, before, (schema_is, before_is, policies))) =
      let same = same_schema x.schema is.0 t is.1 of in
      let there = is.2.2 in
      let schemas : e.schema ≡ d.schema = schema_is ∙ same ∙ sym there.0 in
      let befores : e.before ≡ d.before = before_is ∙ set_once (set_of x.before) b is.2.0 before is.2.1 ∙ sym there.1 in
      let sets : e.policies ≡ d.policies = set_once (set_of x.policies) e.policies d.policies policies there.2 in
      λ i. record { schema = schemas i; before = befores i; policies = sets i }

  one_from : (r : Result EditDocument EditFault) → IsReadFrom x r → r ≡ Ok d
  one_from (Ok e) h = ap Ok (same_document e h)
  one_from (Err Json) h = absurd h.2.2
  one_from (Err Form) h = absurd h.2.2
  one_from (Err (Schema p)) h = absurd (no_fault x.schema is.0 p is.1 h)
  one_from (Err (Before p)) h = absurd (no_place (set_of x.before) is.2.0 p is.2.1 h.2)
  one_from (Err (Policies p)) h = absurd (no_place (set_of x.policies) d.policies p is.2.2.2 h.2.2)

-- ---- the whole

module _ (d : EditDocument) where
  of_value : (o : Option EditParts) → IsSomeAnd o (λ x. IsReadFrom x (Ok d)) → (r : Result EditDocument EditFault) → IsSomeAnd o (λ x. IsReadFrom x r) → r ≡ Ok d
  of_value None h r g = absurd h
  of_value (Some x) h r g = one_from x d h r g

  no_form : (o : Option EditParts) → IsSomeAnd o (λ x. IsReadFrom x (Ok d)) → o ≡ None → ⊥
  no_form None h e = h
  no_form (Some x) h e = cc

  one_value : (v : Data) → IsRead v (Ok d) → (r : Result EditDocument EditFault) → IsRead v r → r ≡ Ok d
  one_value v h (Ok e) g = of_value (parts_of v) h (Ok e) g
  one_value v h (Err Json) g = of_value (parts_of v) h (Err Json) g
  one_value v h (Err Form) g = absurd (no_form (parts_of v) h g)
  one_value v h (Err (Schema p)) g = of_value (parts_of v) h (Err (Schema p)) g
  one_value v h (Err (Before p)) g = of_value (parts_of v) h (Err (Before p)) g
  one_value v h (Err (Policies p)) g = of_value (parts_of v) h (Err (Policies p)) g

  of_bytes : (o : Option Data) → IsSomeAnd o (λ v. IsRead v (Ok d)) → (r : Result EditDocument EditFault) → IsSomeAnd o (λ v. IsRead v r) → r ≡ Ok d
  of_bytes None h r g = absurd h
  of_bytes (Some v) h r g = one_value v h r g

  no_json : (o : Option Data) → IsSomeAnd o (λ v. IsRead v (Ok d)) → o ≡ None → ⊥
  no_json None h e = h
  no_json (Some v) h e = cc

  pub one_document : (bytes : List ℕ) → IsReadAs bytes (Ok d) → (r : Result EditDocument EditFault) → IsReadAs bytes r → r ≡ Ok d
  one_document bytes h (Ok e) g = of_bytes (json_of bytes) h (Ok e) g
  one_document bytes h (Err Json) g = absurd (no_json (json_of bytes) h g)
  one_document bytes h (Err Form) g = of_bytes (json_of bytes) h (Err Form) g
  one_document bytes h (Err (Schema p)) g = of_bytes (json_of bytes) h (Err (Schema p)) g
  one_document bytes h (Err (Before p)) g = of_bytes (json_of bytes) h (Err (Before p)) g
  one_document bytes h (Err (Policies p)) g = of_bytes (json_of bytes) h (Err (Policies p)) g
