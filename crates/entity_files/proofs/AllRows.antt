-- What the query of all rows means.
use Rattle.std.proofs.Common.{◌≡◌, ℕ, zero, suc, ◌<◌, get_or, length, List, [], ◌∷◌, map, Option, Some, None, IsSome, Result, Err, refl, sym, ap, ◌∙◌, subst, subst₂, unwrap_or, arith}
use Rattle.std.specs.Prelude.{IsPermutation}
use Rattle.std.specs.List.{AllByRecursion}
use Rattle.std.proofs.ByRecursion.{all_shuffled}
use Rattle.std.proofs.lemmas.List.Sorted.{IsPermutation-map, IsPermutation-refl, IsPermutation-sym, length_permutation}
use Rattle.sqlite.specs.Order.{Row}
use Rattle.entity_store.specs.Store.{StoredEntity, Store}
use Rattle.entity_store.specs.FromParents.{IsFromParents}
use Rattle.entity_files.specs.Table.{cells, AreAllCells}
use Rattle.entity_files.specs.Rows.{row_entity, with_row, row_entities, shown_entity, AreAll, AreAllShown, AreRead}
use Rattle.entity_files.specs.declared.fault.FileError.{FileError}
use Rattle.entity_files.specs.Rows.{IsRight}
use Rattle.entity_files.proofs.Right.{right_as, still_right}
use Rattle.entity_files.proofs.Shuffled.{shuffled_store}

shown_is : (table : List Row) → map shown_entity (map cells table) ≡ map row_entity table
shown_is [] = refl
shown_is (r ∷ rs) = ap (λ os. row_entity r ∷ os) (shown_is rs)

all_some : (es : List StoredEntity) → AllByRecursion (λ o. IsSome o) (map Some es)
all_some [] = tt
all_some (e ∷ es) = (refl, all_some es)

spelled_of : (table : List Row) → AllByRecursion (λ o. IsSome o) (map row_entity table) → AllByRecursion (λ r. IsSome (row_entity r)) table
spelled_of [] h = tt
spelled_of (r ∷ rs) h = (h.0, spelled_of rs h.1)

some_of : (table : List Row) → AllByRecursion (λ r. IsSome (row_entity r)) table → map row_entity table ≡ map Some (row_entities table)
some_of [] h = refl
some_of (r ∷ rs) h = by (row_entity r) h.0 (some_of rs h.1)
  where
    by : (o : Option StoredEntity) → IsSome o → map row_entity rs ≡ map Some (row_entities rs) → o ∷ map row_entity rs ≡ map Some (with_row o (row_entities rs))
    by None k later = absurd (cc)
    by (Some e) k later = ap (λ os. Some e ∷ os) later

unwrapped : (y : StoredEntity) (es : List StoredEntity) → map (λ o. unwrap_or o y) (map Some es) ≡ es
unwrapped y [] = refl
unwrapped y (e ∷ es) = ap (λ xs. e ∷ xs) (unwrapped y es)

strip : (xs ys : List StoredEntity) → IsPermutation (map Some xs) (map Some ys) → IsPermutation xs ys
strip [] [] p = IsPermutation-refl []
strip [] (y ∷ ys) p = let long = length_permutation [] (map Some (y ∷ ys)) p in absurd (omega (arith, long))
strip (x ∷ xs) ys p =
    subst₂ IsPermutation (unwrapped x (x ∷ xs)) (unwrapped x ys) (IsPermutation-map (λ o. unwrap_or o x) (map Some (x ∷ xs)) (map Some ys) p)

module _ (table cs : List Row) (p : AreAllCells table cs) where
  shuffled : IsPermutation (map row_entity table) (map shown_entity cs)
  shuffled = subst (λ os. IsPermutation os (map shown_entity cs)) (shown_is table) (IsPermutation-map shown_entity (map cells table) cs p)

  -- where what is shown spells entities, so do the table's rows, and these are the same entities
  pub of_shown : (w : Store) → AreAllShown cs w → AreAll table w
  of_shown w h =
      let all = spelled_of table (all_shuffled (λ o. IsSome o) (map Some h.0) (map row_entity table) (IsPermutation-sym (map row_entity table) (map Some h.0) (subst (IsPermutation (map row_entity table)) h.1 shuffled)) (all_some h.0)) in
      record {
        spelled = all;
        made = shuffled_store h.0 (row_entities table) w
            (IsPermutation-sym (row_entities table) h.0 (strip (row_entities table) h.0 (subst₂ IsPermutation (some_of table all) h.1 shuffled))) h.2;
      }

  taken : (os : List (Option StoredEntity)) → AllByRecursion (λ o. IsSome o) os → (es : List StoredEntity) × (os ≡ map Some es)
  taken [] h = ([], refl)
  taken (None ∷ os) h = absurd (let e = h.0 in cc)
  taken (Some e ∷ os) h = let (es, is) = taken os h.1 in (e ∷ es, ap (λ xs. Some e ∷ xs) is)

  some_map : (rs : List Row) → AllByRecursion (λ r. IsSome (row_entity r)) rs → AllByRecursion (λ o. IsSome o) (map row_entity rs)
  some_map [] h = tt
  some_map (r ∷ rs) h = (h.0, some_map rs h.1)

  -- and the other way
  pub to_shown : (w : Store) → AreAll table w → AreAllShown cs w
  to_shown w h =
      let got = taken (map shown_entity cs) (all_shuffled (λ o. IsSome o) (map row_entity table) (map shown_entity cs) shuffled (some_map table h.spelled)) in
      (got.0, got.1, shuffled_store (row_entities table) got.0 w (strip (row_entities table) got.0 (subst₂ IsPermutation (some_of table h.spelled) got.1 shuffled)) h.made)

somes_same : (xs ys : List StoredEntity) → map Some xs ≡ map Some ys → xs ≡ ys
somes_same [] [] h = refl
somes_same [] (y ∷ ys) h = absurd (cc)
somes_same (x ∷ xs) [] h = absurd (cc)
somes_same (x ∷ xs) (y ∷ ys) h = let rest : map Some xs ≡ map Some ys = cc in let same = somes_same xs ys rest in let first : x ≡ y = cc in cc

-- the store of the entities that are shown, where they are read
pub shown_store : (cs : List Row) (es : List StoredEntity) (r : Result Store FileError) → map shown_entity cs ≡ map Some es → IsRight (IsFromParents es) r → IsRight (AreAllShown cs) r
shown_store cs es r is = right_as (IsFromParents es) (AreAllShown cs) (λ w h. (es, is, h)) (λ w h. subst (λ fs. IsFromParents fs w) (somes_same h.0 es (sym h.1 ∙ is)) h.2) r

pub no_shown : (cs : List Row) (e : FileError) → AreRead cs (Err e) → IsRight (AreAllShown cs) (Err e)
no_shown cs e h = still_right (λ (es : List StoredEntity). map shown_entity cs ≡ map Some es) (AreAllShown cs) (λ none w k. none k.0 k.1) e h

-- an error at one of the rows
pub no_row : (cs : List Row) (i : ℕ) (c : Row) (e : FileError) → i < length cs → c ≡ get_or cs i c → IsRight (λ f. shown_entity c ≡ Some f) (Err e) → AreRead cs (Err e)
no_row cs i c e lt is h = still_right (λ f. shown_entity c ≡ Some f) (λ (es : List StoredEntity). map shown_entity cs ≡ map Some es) (λ none es. stop none cs i lt is es) e h
  where
    stop : ((f : StoredEntity) → ¬ (shown_entity c ≡ Some f)) → (cs : List Row) (i : ℕ) → i < length cs → c ≡ get_or cs i c → (es : List StoredEntity) → ¬ (map shown_entity cs ≡ map Some es)
    stop none [] i lt is es h = absurd (omega (arith, lt))
    stop none (x ∷ xs) i lt is [] h = cc
    stop none (x ∷ xs) zero lt is (f ∷ fs) h = let here : c ≡ x = is in let first : shown_entity x ≡ Some f = cc in none f (ap shown_entity here ∙ first)
    stop none (x ∷ xs) (suc i) lt is (f ∷ fs) h = let rest : map shown_entity xs ≡ map Some fs = cc in stop none xs i (omega (arith, lt)) is fs rest
