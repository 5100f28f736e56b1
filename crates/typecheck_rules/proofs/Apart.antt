-- The test for disjoint types is what the layer below answers.
use Rattle.std.proofs.Common.{◌≡◌, ℕ, Bool, true, false, not, ◌&&◌, ◌||◌, List, [], ◌∷◌, Option, Some, None, refl, sym, ap, subst}
use Rattle.std.specs.Prelude.{◌↔◌, IsTrue}
use Rattle.std.specs.List.{list_all}
use Rattle.std.specs.Ordering.{is_eq}
use Rattle.std.specs.Cmp.{tied_itself}
use Rattle.std.proofs.lemmas.Cmp.{nat_list_cmp_total}
use Rattle.std.proofs.lemmas.Map.Lookups.{exact_bytes}
use Rattle.policy_values.specs.Ties.{equal_of}
use Rattle.policy_values.specs.Uid.{text_cmp}
use Rattle.schema_types.specs.Names.{has_name, AreApart}
use Rattle.schema_types.specs.Ty.{Ty}
use Rattle.type_relations.specs.Attributes.{names_of, AreApartIfKnown, AreDisjoint}
use Rattle.type_relations.specs.Join.{text_eq}
use Rattle.typing_spec.specs.Rules.{are_apart, are_disjoint}
use Rattle.plain_lemmas.proofs.Booleans.{and_parts_of, equal_by_both_ways, false_of_not}

text_itself : (k : List ℕ) → text_eq k k ≡ true
text_itself k = ap is_eq (tied_itself nat_list_cmp_total k)

same_text : (k l : List ℕ) → text_eq k l ≡ true → k ≡ l
same_text k l h = exact_bytes k l (equal_of (text_cmp k l) h)

apart_names : (ms ns : List (List ℕ)) (k : List ℕ) → list_all (λ n. not (has_name ns n)) ms ≡ true → has_name ms k ≡ true → has_name ns k ≡ false
apart_names [] ns k h i = cc
apart_names (m ∷ ms) ns k h i =
    let r = and_parts_of (not (has_name ns m)) (list_all (λ n. not (has_name ns n)) ms) h in
    by (text_eq k m) refl (apart_names ms ns k r.1) i (false_of_not (has_name ns m) r.0)
  where
    by : (b : Bool) → text_eq k m ≡ b → (has_name ms k ≡ true → has_name ns k ≡ false) → (b || has_name ms k) ≡ true → has_name ns m ≡ false → has_name ns k ≡ false
    by true e rest j f = subst (λ l. has_name ns l ≡ false) (sym (same_text k m e)) f
    by false e rest j f = rest j

first_name : (m : List ℕ) (ms : List (List ℕ)) → has_name (m ∷ ms) m ≡ true
first_name m ms = at (text_eq m m) (text_itself m)
  where
    at : (b : Bool) → b ≡ true → (b || has_name ms m) ≡ true
    at true e = refl
    at false e = cc

later_name : (m k : List ℕ) (ms : List (List ℕ)) → has_name ms k ≡ true → has_name (m ∷ ms) k ≡ true
later_name m k ms h = at (text_eq k m)
  where
    at : (b : Bool) → (b || has_name ms k) ≡ true
    at true = refl
    at false = h

all_apart : (ms ns : List (List ℕ)) → AreApart ms ns → list_all (λ n. not (has_name ns n)) ms ≡ true
all_apart [] ns h = refl
all_apart (m ∷ ms) ns h = λ i. not (h m (first_name m ms) i) && all_apart ms ns (λ k e. h k (later_name m k ms e)) i

one_of : (a b : Option (List (List ℕ))) → are_apart a b ≡ true → AreApartIfKnown a b
one_of (Some ms) (Some ns) e = λ k h. apart_names ms ns k e h
one_of None b e = absurd (cc)
one_of (Some ms) None e = absurd (cc)

is_one : (a b : Option (List (List ℕ))) → AreApartIfKnown a b → are_apart a b ≡ true
is_one (Some ms) (Some ns) h = all_apart ms ns h
is_one None b h = absurd h
is_one (Some ms) None h = absurd h

pub disjoint_test : (b : Bool) (t u : Ty) → IsTrue b ↔ AreDisjoint t u → b ≡ are_disjoint t u
disjoint_test b t u h = equal_by_both_ways b (are_disjoint t u) (λ e. is_one (names_of t) (names_of u) (h.0 e)) (λ e. h.1 (one_of (names_of t) (names_of u) e))
