-- The items of a list at their first places, one after another.
use Rattle.std.proofs.Common.{◌≡◌, ℕ, Bool, true, false, not, ◌||◌, ◌&&◌, cond, List, [], ◌∷◌, ◌++◌, refl, sym, ◌∙◌, ap, append_assoc, arith}
use Rattle.std.specs.Prelude.{filter}
use Rattle.std.specs.Ordering.{is_eq}
use Rattle.std.specs.List.Sorted.{IsStrictlySortedBy}
use Rattle.std.specs.Cmp.Lexicographic.{nat_list_cmp_total}
use Rattle.std.proofs.lemmas.Cmp.{eq_by_cmp_equiv}
use Rattle.std.proofs.lemmas.List.Folds.{list_any-append}
use Rattle.std.proofs.lemmas.Map.Lookups.{exact_bytes}
use Rattle.std.proofs.lemmas.Map.Views.{tells_apart}
use Rattle.policy_values.specs.Reaches.{has}
use Rattle.policy_values.specs.Uid.{text_cmp}
use Rattle.schema_core.specs.Kinds.{firsts}
use Rattle.plain_lemmas.proofs.Lists.{append_empty}

-- those that are not kept yet
abbrev pub others : List (List ℕ) → List (List ℕ) → List (List ℕ)
others kept = filter (λ y. not (has text_cmp kept y))

-- what is kept and what is left are all; the set has what is kept
pub record AreFirsts (all left kept seen : List (List ℕ)) : Type 0 where
  pub ordered : IsStrictlySortedBy text_cmp seen
  pub same : (q : List ℕ) → has text_cmp seen q ≡ has text_cmp kept q
  pub whole : kept ++ others kept (firsts left) ≡ firsts all

filter_both : (p q : List ℕ → Bool) (xs : List (List ℕ)) → filter p (filter q xs) ≡ filter (λ y. q y && p y) xs
filter_both p q [] = refl
filter_both p q (x ∷ xs) = by_test (q x) (filter_both p q xs) where
  by_test : (b : Bool) → filter p (filter q xs) ≡ filter (λ y. q y && p y) xs → filter p (cond b (x ∷ filter q xs) (filter q xs)) ≡ cond (b && p x) (x ∷ filter (λ y. q y && p y) xs) (filter (λ y. q y && p y) xs)
  by_test true later = ap (λ ys. cond (p x) (x ∷ ys) ys) later
  by_test false later = later

filter_same : (p q : List ℕ → Bool) → ((y : List ℕ) → p y ≡ q y) → (xs : List (List ℕ)) → filter p xs ≡ filter q xs
filter_same p q same xs i = filter (λ y. same y i) xs

filter_all : (xs : List (List ℕ)) → filter (λ y. true) xs ≡ xs
filter_all [] = refl
filter_all (x ∷ xs) = ap (λ ys. x ∷ ys) (filter_all xs)

pub firsts_none : (all seen : List (List ℕ)) → seen ≡ [] → IsStrictlySortedBy text_cmp seen → AreFirsts all all [] seen
firsts_none all seen empty s = record { ordered = s; same = λ q. rw empty refl; whole = filter_all (firsts all) }

module _ (all left rest kept seen seen' : List (List ℕ)) (x : List ℕ) (t : AreFirsts all left kept seen) (e : left ≡ x ∷ rest) (s : IsStrictlySortedBy text_cmp seen') (u : (q : List ℕ) → has text_cmp seen' q ≡ cond (is_eq (text_cmp x q)) true (has text_cmp seen q)) where
  before : kept ++ others kept (x ∷ filter (λ y. not (is_eq (text_cmp x y))) (firsts rest)) ≡ firsts all
  before = rw e at t.whole

  both : others kept (filter (λ y. not (is_eq (text_cmp x y))) (firsts rest)) ≡ filter (λ y. not (is_eq (text_cmp x y)) && not (has text_cmp kept y)) (firsts rest)
  both = filter_both (λ y. not (has text_cmp kept y)) (λ y. not (is_eq (text_cmp x y))) (firsts rest)

  -- the next one is new
  pub firsts_new : has text_cmp seen x ≡ false → AreFirsts all rest (kept ++ x ∷ []) seen'
  firsts_new new = record { ordered = s; same = same; whole = append_assoc kept (x ∷ []) (others (kept ++ x ∷ []) (firsts rest)) ∙ ap (λ ys. kept ++ x ∷ ys) now ∙ rw here at before } where
    added : (q : List ℕ) → has text_cmp (kept ++ x ∷ []) q ≡ (has text_cmp kept q || is_eq (text_cmp x q))
    added q = let a = list_any-append (λ y. is_eq (text_cmp q y)) kept (x ∷ []) in let f = (eq_by_cmp_equiv nat_list_cmp_total).symm q x in grind arith

    same : (q : List ℕ) → has text_cmp seen' q ≡ has text_cmp (kept ++ x ∷ []) q
    same q = let a = u q in let b = t.same q in let c = added q in grind arith

    tests : (y : List ℕ) → not (has text_cmp (kept ++ x ∷ []) y) ≡ (not (is_eq (text_cmp x y)) && not (has text_cmp kept y))
    tests y = let a = added y in grind arith

    now : others (kept ++ x ∷ []) (firsts rest) ≡ others kept (filter (λ y. not (is_eq (text_cmp x y))) (firsts rest))
    now = filter_same _ _ tests (firsts rest) ∙ sym both

    here : has text_cmp kept x ≡ false
    here = sym (t.same x) ∙ new

  -- the next one is kept already
  pub firsts_again : has text_cmp seen x ≡ true → AreFirsts all rest kept seen'
  firsts_again there = record { ordered = s; same = same; whole = ap (λ ys. kept ++ ys) (sym (both ∙ filter_same _ _ tests (firsts rest))) ∙ rw here at before } where
    here : has text_cmp kept x ≡ true
    here = sym (t.same x) ∙ there

    kept_at : (q : List ℕ) → is_eq (text_cmp x q) ≡ true → has text_cmp kept q ≡ true
    kept_at q is = rw (tells_apart exact_bytes x q is) at here

    same : (q : List ℕ) → has text_cmp seen' q ≡ has text_cmp kept q
    same q = by_test (is_eq (text_cmp x q)) refl where
      by_test : (b : Bool) → is_eq (text_cmp x q) ≡ b → has text_cmp seen' q ≡ has text_cmp kept q
      by_test true is = u q ∙ rw is (sym (kept_at q is))
      by_test false is = u q ∙ rw is (t.same q)

    tests : (y : List ℕ) → (not (is_eq (text_cmp x y)) && not (has text_cmp kept y)) ≡ not (has text_cmp kept y)
    tests y = by_test (is_eq (text_cmp x y)) refl where
      by_test : (b : Bool) → is_eq (text_cmp x y) ≡ b → (not (is_eq (text_cmp x y)) && not (has text_cmp kept y)) ≡ not (has text_cmp kept y)
      by_test true is = rw (is, kept_at y is) refl
      by_test false is = rw is refl

pub firsts_all : (all left kept seen : List (List ℕ)) → AreFirsts all left kept seen → left ≡ [] → kept ≡ firsts all
firsts_all all left kept seen t e = sym (append_empty kept) ∙ rw e at t.whole
