use Rattle.std.proofs.Common.{◌≡◌, ◌∙◌, sym, ap, List, ℕ, false, refl}
use Rattle.std.proofs.Math.ListN.{get_or-eq_default}
use Rattle.std.specs.Bool.{◌==◌}
use Rattle.std.specs.Cmp.Lexicographic.{slice_cmp}
use Rattle.std.specs.Ordering.{is_eq, nat_cmp, ordering_index}
use Rattle.std.specs.declared.cmp.Ordering.{Ordering}
use Rattle.std.specs.declared.cmp.Ordering.TheVariants.{Less, Equal, Greater}
use Rattle.sqlite.specs.declared.types.Value.{Value}
use Rattle.sqlite.specs.declared.types.Value.TheVariants.{Null, Text}
use Rattle.sqlite_value.specs.Value.{owned}
use Rattle.entity_files.specs.Table.{equals}
use Rattle.entity_files.proofs.Equals.{equals_text, equals_null, equals_int, equals_blob, equals_other}
use Rattle.entity_files.proofs.reading.has_text.Goals as goal

equal_is : (o : Ordering) → (ordering_index o == 1) ≡ is_eq o
equal_is Less = refl
equal_is Equal = refl
equal_is Greater = refl

-- a value that is found not to equal the text
differs : (v there : Value) (t : List ℕ) → v ≡ there → equals v (Text t) ≡ false → false ≡ equals there (Text t)
differs v there t is h = sym (ap (λ w. equals w (Text t)) (sym is) ∙ h)

pub returns-in-Ok-Text : goal.returns-in-Ok-Text
returns-in-Ok-Text c =
    c.eq.ensures ∙ ap (λ o. ordering_index o == 1) c.cmp.ensures ∙ equal_is (slice_cmp nat_cmp c.in-Ok-Text.there.now c.as_bytes.result.now)
    ∙ ap (λ t. is_eq (slice_cmp nat_cmp c.in-Ok-Text.there.now t)) c.as_bytes.ensures.value ∙ sym (equals_text c.in-Ok-Text.there.now c.args.text.now)
    ∙ ap (λ v. equals v (Text c.args.text.now)) (sym (ap owned c.in-Ok-Text.field-0-is) ∙ c.in-Ok-Text.ensures.ok.1)

pub returns-in-Ok-Null : goal.returns-in-Ok-Null
returns-in-Ok-Null c = differs Null _ c.args.text.now (sym (ap owned c.in-Ok-Null.field-0-is) ∙ c.in-Ok-Null.ensures.ok.1) (equals_null c.args.text.now)

pub returns-in-Ok-Int : goal.returns-in-Ok-Int
returns-in-Ok-Int c = differs _ _ c.args.text.now (sym (ap owned c.in-Ok-Int.field-0-is) ∙ c.in-Ok-Int.ensures.ok.1) (equals_int _ c.args.text.now)

pub returns-in-Ok-Real : goal.returns-in-Ok-Real
returns-in-Ok-Real c = differs _ _ c.args.text.now (sym (ap owned c.in-Ok-Real.field-0-is) ∙ c.in-Ok-Real.ensures.ok.1) (equals_other _ c.args.text.now refl)

pub returns-in-Ok-Blob : goal.returns-in-Ok-Blob
returns-in-Ok-Blob c = differs _ _ c.args.text.now (sym (ap owned c.in-Ok-Blob.field-0-is) ∙ c.in-Ok-Blob.ensures.ok.1) (equals_blob _ c.args.text.now)

pub returns-in-Err : goal.returns-in-Err
returns-in-Err c = differs Null _ c.args.text.now (sym (get_or-eq_default c.args.row.now Null c.in-Err.ensures.err.1)) (equals_null c.args.text.now)
