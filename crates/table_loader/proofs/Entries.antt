-- A map that is filled from the last entry of a list to the first has the first value of each key.
use Rattle.std.proofs.Common.{◌≡◌, ℕ, Bool, true, false, cond, List, [], ◌∷◌, ◌++◌, Option, Some, None, refl, sym, ap, ◌∙◌}
use Rattle.std.specs.List.{AllByRecursion}
use Rattle.std.specs.List.Sorted.{IsStrictlySortedBy}
use Rattle.std.specs.Map.{keys_of}
use Rattle.std.specs.Option.{option_or}
use Rattle.std.specs.Ordering.{is_eq}
use Rattle.std.specs.declared.cmp.Ordering.TheVariants.{Less}
use Rattle.std.proofs.lemmas.Cmp.{eq_by_cmp_equiv, nat_list_cmp_total}
use Rattle.policy_values.specs.Uid.{text_cmp}
use Rattle.policy_values.specs.Value.{Val, Fields, no_fields, field, fields_of, field_at}
use Rattle.table_loader.proofs.SameLookups.{their_lookups}
use Rattle.table_loader.specs.OrderLaws.{KeysAscend}
use Rattle.table_loader.specs.Order.{IsBelowAll, AreOrdered}

below_fields : (k : List ℕ) (es : List (List ℕ × Val)) → AllByRecursion (λ l. text_cmp k l ≡ Less) (keys_of es) → IsBelowAll k (fields_of es)
below_fields k [] h = tt
below_fields k (e ∷ es) h = (h.0, below_fields k es h.1)

pub keys_ascend : (es : List (List ℕ × Val)) → IsStrictlySortedBy text_cmp (keys_of es) → KeysAscend (fields_of es)
unfolding IsStrictlySortedBy
keys_ascend [] h = tt
keys_ascend (e ∷ es) h = (below_fields e.0 es h.0, keys_ascend es h.1)

pub ordered_keys : (fs : Fields) → AreOrdered fs → KeysAscend fs
ordered_keys no_fields h = tt
ordered_keys (field k v fs) h = (h.0, ordered_keys fs h.2)

-- the last entry counts where no other has its key
field_last : (es : List (List ℕ × Val)) (e : List ℕ × Val) (k : List ℕ) →
    field_at (fields_of (es ++ e ∷ [])) k ≡ option_or (field_at (fields_of es) k) (cond (is_eq (text_cmp k e.0)) (Some e.1) None)
field_last [] e k = refl
field_last (d ∷ es) e k = by (is_eq (text_cmp k d.0)) (field_last es e k)
  where
    by : (b : Bool) → field_at (fields_of (es ++ e ∷ [])) k ≡ option_or (field_at (fields_of es) k) (cond (is_eq (text_cmp k e.0)) (Some e.1) None) →
        cond b (Some d.1) (field_at (fields_of (es ++ e ∷ [])) k) ≡ option_or (cond b (Some d.1) (field_at (fields_of es) k)) (cond (is_eq (text_cmp k e.0)) (Some e.1) None)
    by true h = refl
    by false h = h

-- what is found: in the entries that are left, or else in the map
pub record IsFilling (all left : List (List ℕ × Val)) (f : List ℕ → Option Val) : Type 0 where
  pub is : (k : List ℕ) → option_or (field_at (fields_of left) k) (f k) ≡ field_at (fields_of all) k

or_none : (o : Option Val) → option_or o None ≡ o
or_none None = refl
or_none (Some v) = refl

pub filling_start : (all : List (List ℕ × Val)) (f : List ℕ → Option Val) → ((k : List ℕ) → f k ≡ None) → IsFilling all all f
filling_start all f none = record { is = λ k. ap (λ o. option_or (field_at (fields_of all) k) o) (none k) ∙ or_none (field_at (fields_of all) k) }

pub filling_more : (all rest left : List (List ℕ × Val)) (e : List ℕ × Val) (f g : List ℕ → Option Val) → left ≡ rest ++ e ∷ [] → IsFilling all left f →
    ((k : List ℕ) → g k ≡ cond (is_eq (text_cmp e.0 k)) (Some e.1) (f k)) → IsFilling all rest g
filling_more all rest left e f g last t put = record { is = is }
  where
    joined : (o p : Option Val) (b : Bool) → option_or o (cond b (Some e.1) p) ≡ option_or (option_or o (cond b (Some e.1) None)) p
    joined None p true = refl
    joined None p false = refl
    joined (Some v) p b = refl

    is : (k : List ℕ) → option_or (field_at (fields_of rest) k) (g k) ≡ field_at (fields_of all) k
    is k =
        ap (λ o. option_or (field_at (fields_of rest) k) o) (put k) ∙
        ap (λ b. option_or (field_at (fields_of rest) k) (cond b (Some e.1) (f k))) ((eq_by_cmp_equiv nat_list_cmp_total).symm e.0 k) ∙
        joined (field_at (fields_of rest) k) (f k) (is_eq (text_cmp k e.0)) ∙
        sym (ap (λ o. option_or o (f k)) (field_last rest e k)) ∙
        sym (ap (λ es. option_or (field_at (fields_of es) k) (f k)) last) ∙
        t.is k

-- the map whose look-ups these are
pub filling_done : (all left es : List (List ℕ × Val)) (f : List ℕ → Option Val) → left ≡ [] → IsFilling all left f →
    ((k : List ℕ) → f k ≡ field_at (fields_of es) k) → IsStrictlySortedBy text_cmp (keys_of es) →
    KeysAscend (fields_of all) → fields_of es ≡ fields_of all
filling_done all left es f none t found sorted ascend =
    their_lookups (fields_of es) (fields_of all) (keys_ascend es sorted) ascend
    (λ k. sym (found k) ∙ sym (ap (λ ls. option_or (field_at (fields_of ls) k) (f k)) none) ∙ t.is k)
