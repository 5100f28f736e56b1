-- The document of a sample, and that it keeps every rule.
use Rattle.std.proofs.Common.{◌<◌, ◌^◌, ◌-◌, ℕ, List, [], map, Ok, decimal, inr, refl, sym, ap, subst, arith}
use Rattle.json_document.specs.Parts.{parts_of}
use Rattle.json_document.specs.Reading.{IsRead, IsSchemaFrom, document, or_place}
use Rattle.json_document.specs.Store.{IsStoreFrom}
use Rattle.json_document.specs.declared.document.Document.{Document}
use Rattle.json_document.specs.declared.place.Place.TheVariants as place
use Rattle.json_document.specs.declared.shape.Shape.TheVariants.{Whole}
use Rattle.manifest_computation.specs.Rules.{KeepRules}
use Rattle.document_laws.proofs.Declared.{schema_made}
use Rattle.document_laws.proofs.Drawn.{Drawn, are_drawn, users_from}
use Rattle.document_laws.proofs.Policies.{policies_of_sample, policies_read, policies_accepted}
use Rattle.document_laws.proofs.Read.{value_of_sample}
use Rattle.document_laws.proofs.SampleParts.{schema_of_sample, schema_read, request_of_sample, request_read, request_whole, request_conforms, user_entity, users_read}
use Rattle.document_laws.proofs.Store.{stored, store_made, store_conforms}

-- the document of users, where the first asks to view another
abbrev made : List ℕ → List Drawn → Document
made other us = document schema_of_sample policies_of_sample [] (stored (map user_entity us)) (request_of_sample other) []

abbrev pub document_of_sample : ℕ → ℕ → Document
document_of_sample seed size = made (decimal (size - 1)) (users_from seed size 0 size)

pub sample_is_read : (seed size : ℕ) → size < 2 ^ 64 → IsRead Whole (value_of_sample seed size) (Ok (document_of_sample seed size))
unfolding IsRead parts_of
sample_is_read seed size small =
    let us : List Drawn = users_from seed size 0 size in
    let users = users_read [] us (are_drawn seed size 0 size small (omega arith)) in
    inr (
      _,
      refl,
      inr (
        schema_of_sample,
        subst (λ o. IsSchemaFrom o (Ok schema_of_sample)) (sym schema_read) schema_made,
        inr (
          policies_of_sample,
          sym policies_read,
          inr (
            [],
            refl,
            inr (
              stored (map user_entity us),
              subst (λ r. IsStoreFrom r (Ok (stored (map user_entity us)))) (sym users) (store_made seed size size (omega arith)),
              inr (request_of_sample (decimal (size - 1)), ap (or_place place.Request) (sym (request_read (decimal (size - 1)))), inr ([], refl, refl)),
            ),
          ),
        ),
      ),
    )

pub sample_keeps_rules : (seed size : ℕ) → KeepRules schema_of_sample policies_of_sample (document_of_sample seed size).request (document_of_sample seed size).entities
sample_keeps_rules seed size = record {
  whole = request_whole (decimal (size - 1));
  request = request_conforms (decimal (size - 1));
  store = store_conforms (users_from seed size 0 size);
  policies = policies_accepted;
}
