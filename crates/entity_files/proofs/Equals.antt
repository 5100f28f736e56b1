-- SQL's equality with a text.
use Rattle.std.proofs.Common.{◌≡◌, ℕ, ℤ, List, Bool, true, false, refl, sym, ap, ◌∙◌, Some}
use Rattle.std.specs.Ordering.{is_eq, nat_cmp}
use Rattle.std.specs.Cmp.Lexicographic.{slice_cmp}
use Rattle.sqlite.specs.declared.types.Value.{Value}
use Rattle.sqlite.specs.declared.types.Value.TheVariants.{Null, Int, Real, Text, Blob}
use Rattle.sqlite_value.specs.Order.{value_cmp, class}
use Rattle.sqlite_value.proofs.OrderLemmas.{value_cmp-Text, value_cmp-apart}
use Rattle.sqlite_sql.specs.Ops.{binary, from_truth, is_true}
use Rattle.entity_files.specs.Table.{equals}

same_truth : (b : Bool) → is_true (from_truth (Some b)) ≡ b
same_truth true = refl
same_truth false = refl

pub equals_text : (s t : List ℕ) → equals (Text s) (Text t) ≡ is_eq (slice_cmp nat_cmp s t)
unfolding binary
equals_text s t = same_truth (is_eq (value_cmp (Text s) (Text t))) ∙ ap is_eq (value_cmp-Text s t)

pub equals_null : (t : List ℕ) → equals Null (Text t) ≡ false
unfolding binary
equals_null t = refl

equals_apart : (v : Value) (t : List ℕ) → is_true (from_truth (Some (is_eq (value_cmp v (Text t))))) ≡ false → equals v (Text t) ≡ false
unfolding binary
equals_apart Null t h = refl
equals_apart (Int n) t h = h
equals_apart (Real x) t h = h
equals_apart (Text s) t h = h
equals_apart (Blob b) t h = h

pub equals_int : (n : ℤ) (t : List ℕ) → equals (Int n) (Text t) ≡ false
equals_int n t = equals_apart (Int n) t (same_truth _ ∙ ap is_eq (value_cmp-apart (Int n) (Text t) (λ e. cc)))

pub equals_blob : (b t : List ℕ) → equals (Blob b) (Text t) ≡ false
equals_blob b t = equals_apart (Blob b) t (same_truth _ ∙ ap is_eq (value_cmp-apart (Blob b) (Text t) (λ e. cc)))

pub equals_other : (v : Value) (t : List ℕ) → (class v ≡ 1) → equals v (Text t) ≡ false
equals_other v t h = equals_apart v t (same_truth _ ∙ ap is_eq (value_cmp-apart v (Text t) (λ e. let clash : 1 ≡ 2 = sym h ∙ e in cc) ∙ ap (λ n. nat_cmp n 2) h))
