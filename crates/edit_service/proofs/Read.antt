-- What is read behind a part is read of the whole.
use Rattle.std.proofs.Common.{◌≡◌, ℕ, List, Option, Some, None, Result, Ok, Err, IsSomeAnd, IfOk, sym, subst}
use Rattle.policy_set.specs.PolicySet.{PolicySetData}
use Rattle.schema_core.specs.Schema.{SchemaData}
use Rattle.serde_json.specs.Data.{Data}
use Rattle.json_schema.specs.Schema.{schema_of}
use Rattle.json_document.specs.Reading.{IsSchemaFrom}
use Rattle.edit_service.specs.Documents.{EditParts, IsRead, IsReadAs, IsReadBehindBefore, IsReadBehindSchema, IsReadFrom, parts_of, set_of}
use Rattle.json_values.specs.Json.{json_of}
use Rattle.edit_service.specs.declared.document.EditDocument.{EditDocument}
use Rattle.edit_service.specs.declared.fault.EditFault.{EditFault}
use Rattle.edit_service.specs.declared.fault.EditFault.TheVariants.{Json, Form, Schema, Before, Policies}

abbrev Reading : Type 0
Reading = Result EditDocument EditFault

module _ (schema : SchemaData) (before policies : Option Data) (b : PolicySetData) (read : set_of before ≡ Ok b) where
  pub behind_schema : (r : Reading) → IsReadBehindBefore schema b policies r → IsReadBehindSchema schema before policies r
  behind_schema (Ok d) h = (b, read, h)
  behind_schema (Err Json) h = absurd h
  behind_schema (Err Form) h = absurd h
  behind_schema (Err (Schema p)) h = absurd h
  behind_schema (Err (Before p)) h = absurd h
  behind_schema (Err (Policies p)) h = (b, read, h)

module _ (x : EditParts) (s : SchemaData) (read : IsSchemaFrom (schema_of x.schema) (Ok s)) where
  pub from_parts : (r : Reading) → IsReadBehindSchema s x.before x.policies r → IsReadFrom x r
  from_parts (Ok d) h = (s, read, h)
  from_parts (Err Json) h = absurd h.2
  from_parts (Err Form) h = absurd h.2
  from_parts (Err (Schema p)) h = absurd h.2
  from_parts (Err (Before p)) h = (s, read, h)
  from_parts (Err (Policies p)) h = (s, read, h)

some_and : {A : Type 0} (P : A → Type 0) (o : Option A) (x : A) → o ≡ Some x → P x → IsSomeAnd o P
some_and P o x is h = subst (λ o. IsSomeAnd o P) (sym is) h

module _ (v : Data) (x : EditParts) (parts : parts_of v ≡ Some x) where
  pub of_value : (r : Reading) → IsReadFrom x r → IsRead v r
  of_value (Ok d) h = some_and (λ x. IsReadFrom x (Ok d)) (parts_of v) x parts h
  of_value (Err Json) h = absurd h.2.2
  of_value (Err Form) h = absurd h.2.2
  of_value (Err (Schema p)) h = some_and (λ x. IsReadFrom x (Err (Schema p))) (parts_of v) x parts h
  of_value (Err (Before p)) h = some_and (λ x. IsReadFrom x (Err (Before p))) (parts_of v) x parts h
  of_value (Err (Policies p)) h = some_and (λ x. IsReadFrom x (Err (Policies p))) (parts_of v) x parts h

no_json : (o : Option EditParts) → IsSomeAnd o (λ x. IsReadFrom x (Err Json)) → ⊥
no_json None h = h
no_json (Some x) h = h.2.2

module _ (bytes : List ℕ) (v : Data) (json : json_of bytes ≡ Some v) where
  pub of_bytes : (r : Reading) → IsRead v r → IsReadAs bytes r
  of_bytes (Ok d) h = some_and (λ v. IsRead v (Ok d)) (json_of bytes) v json h
  of_bytes (Err Json) h = absurd (no_json (parts_of v) h)
  of_bytes (Err Form) h = some_and (λ v. IsRead v (Err Form)) (json_of bytes) v json h
  of_bytes (Err (Schema p)) h = some_and (λ v. IsRead v (Err (Schema p))) (json_of bytes) v json h
  of_bytes (Err (Before p)) h = some_and (λ v. IsRead v (Err (Before p))) (json_of bytes) v json h
  of_bytes (Err (Policies p)) h = some_and (λ v. IsRead v (Err (Policies p))) (json_of bytes) v json h

-- what holds of each value holds of the result
pub weaker : {A E : Type 0} (P Q : A → Type 0) → ((x : A) → P x → Q x) → (r : Result A E) → IfOk r P → IfOk r Q
weaker P Q f (Ok x) h = f x h
weaker P Q f (Err e) h = tt
