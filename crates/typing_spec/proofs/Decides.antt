-- The tests of the rules decide the relations of the layers below.
use Rattle.std.proofs.Common.{◌≡◌, ℕ, Bool, true, false, not, ◌&&◌, ◌||◌, List, [], ◌∷◌, Option, Some, None, refl}
use Rattle.std.specs.Bool.{Decides}
use Rattle.std.specs.List.{list_all}
use Rattle.schema_types.specs.Names.{has_name, AreApart}
use Rattle.schema_types.specs.Ty.{Ty}
use Rattle.type_relations.specs.Attributes.{names_of, AreApartIfKnown, AreDisjoint}
use Rattle.type_relations.specs.Join.{text_eq}
use Rattle.typing_spec.specs.Rules.{are_apart, are_disjoint}
use Rattle.typing_spec.proofs.Ids.{text_itself, apart_names}

first_name : (m : List ℕ) (ms : List (List ℕ)) → has_name (m ∷ ms) m ≡ true
first_name m ms = at (text_eq m m) (text_itself m)
  where
    at : (b : Bool) → b ≡ true → (b || has_name ms m) ≡ true
    at true e = refl
    at false e = cc

later_name : (m k : List ℕ) (ms : List (List ℕ)) → has_name ms k ≡ true → has_name (m ∷ ms) k ≡ true
later_name m k ms h = at (text_eq k m)
  where
    at : (b : Bool) → (b || has_name ms k) ≡ true
    at true = refl
    at false = h

all_apart : (ms ns : List (List ℕ)) → AreApart ms ns → list_all (λ n. not (has_name ns n)) ms ≡ true
all_apart [] ns h = refl
all_apart (m ∷ ms) ns h = λ i. not (h m (first_name m ms) i) && all_apart ms ns (λ k e. h k (later_name m k ms e)) i

apart_decides : (a b : Option (List (List ℕ))) → Decides (are_apart a b) (AreApartIfKnown a b)
apart_decides (Some ms) (Some ns) = (λ e k h. apart_names ms ns k e h, λ h. all_apart ms ns h)
apart_decides None b = (λ e. absurd (cc), λ h. absurd h)
apart_decides (Some ms) None = (λ e. absurd (cc), λ h. absurd h)

-- the test for disjoint types decides whether they are
pub disjoint_decides : (t u : Ty) → Decides (are_disjoint t u) (AreDisjoint t u)
disjoint_decides t u = apart_decides (names_of t) (names_of u)
