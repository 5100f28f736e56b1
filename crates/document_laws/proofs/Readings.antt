-- A JSON value has one reading as a document of a shape: each part in turn has one.
use Rattle.std.proofs.Common.{◌≡◌, ◌∙◌, inl, inr, Result, Ok, Err, sym, subst}
use Rattle.json_schema.specs.Schema.{schema_of}
use Rattle.json_document.specs.Entities.{entities_of}
use Rattle.json_document.specs.Faults.{Then}
use Rattle.json_document.specs.Reading.{IsRead}
use Rattle.json_document.specs.declared.place.Place.{Place}
use Rattle.document_laws.specs.Laws.{ReadingsAreUnique}
use Rattle.document_laws.proofs.Parts.{unique_schema, unique_store}
use Rattle.document_laws.proofs.Rules.{IsUnique}

-- one part and then the next
part : {A B : Type 0} (First : Result A Place → Type 0) (Next : A → Result B Place → Type 0) → IsUnique First → ((x : A) → IsUnique (Next x)) → IsUnique (Then First Next)
part First Next first next r s (inl (p, f, e)) (inl (q, g, h)) = cc (e, h, first (Err p) (Err q) f g)
part First Next first next r s (inl (p, f, e)) (inr (x, g, n)) = absurd (cc (first (Err p) (Ok x) f g))
part First Next first next r s (inr (x, f, m)) (inl (q, g, h)) = absurd (cc (first (Err q) (Ok x) g f))
part First Next first next r s (inr (x, f, m)) (inr (y, g, n)) = let same : y ≡ x = cc (first (Ok y) (Ok x) g f) in next x r s m (subst (λ z. Next z s) same n)

-- what is computed, and then the next
pub computed : {A B : Type 0} (e : Result A Place) (Next : A → Result B Place → Type 0) → ((x : A) → IsUnique (Next x)) → IsUnique (Then (λ r. r ≡ e) Next)
computed e Next = part (λ r. r ≡ e) Next (λ r s f g. f ∙ sym g)

pub unique : ReadingsAreUnique
unfolding IsRead
unique shape v =
    computed _ _ (λ parts. part _ _ (unique_schema (schema_of parts.schema)) (λ schema. computed _ _ (λ policies. computed _ _ (λ edits. part _ _ (unique_store (entities_of _ parts.entities)) (λ entities. computed _ _ (λ request. computed _ _ (λ requests r s f g. f ∙ sym g)))))))
