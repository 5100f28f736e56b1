-- Steps of looking capabilities up by their prints.
use Rattle.std.proofs.Common.{◌≡◌, ℕ, ◌+◌, ◌<◌, Bool, true, false, ◌||◌, List, [], ◌∷◌, ◌++◌, length, get_or, take, cond, Option, None, Some, IsSome, refl, sym, subst, ap, ◌∙◌}
use Rattle.std.specs.List.{AllByRecursion}
use Rattle.std.specs.Ordering.{nat_cmp}
use Rattle.std.specs.BTreeMap.{BTreeMap, get, Updates}
use Rattle.std.proofs.lemmas.Bool.{false≢true}
use Rattle.std.proofs.lemmas.Grind.{take_at_read}
use Rattle.std.proofs.lemmas.List.Folds.{list_any_at}
use Rattle.typing_spec.specs.Capability.{Capability, has_cap, is_alike, print_of}
use Rattle.typing_spec.specs.CapabilityLaws.{alike_decides, same_print}
use Rattle.typing_spec.specs.Places.{HasPrint, HasPrints}

module _ (places : BTreeMap ℕ ℕ) (k : Capability) (none : get nat_cmp places (print_of k) ≡ None) where
  other : (c : Capability) → HasPrint places c → (b : Bool) → is_alike k c ≡ b → is_alike k c ≡ false
  other c has false is = is
  other c has true is = absurd (false≢true (subst IsSome (ap (get nat_cmp places) (sym (same_print k c ((alike_decides k c).0 is))) ∙ none) has))

  -- no capability is equal to one whose print is no key
  pub not_there : (cs : List Capability) → HasPrints places cs → has_cap cs k ≡ false
  not_there [] has = refl
  not_there (c ∷ cs) has = ap (λ b. b || has_cap cs k) (other c has.0 (is_alike k c) refl) ∙ not_there cs has.1

-- a capability that stands in the list and is equal is there
pub stands : (cs : List Capability) (i : ℕ) (d k : Capability) → i < length cs → is_alike k (get_or cs i d) ≡ true → has_cap cs k ≡ true
stands cs i d k h is = list_any_at (is_alike k) cs i d h is

and_one : (P : Capability → Type 0) (cs : List Capability) (c : Capability) → AllByRecursion P cs → P c → AllByRecursion P (cs ++ c ∷ [])
and_one P [] c all one = (one, tt)
and_one P (d ∷ cs) c all one = (all.0, and_one P cs c all.1 one)

weaker : (P Q : Capability → Type 0) → ((c : Capability) → P c → Q c) → (cs : List Capability) → AllByRecursion P cs → AllByRecursion Q cs
weaker P Q f [] all = tt
weaker P Q f (c ∷ cs) all = (f c all.0, weaker P Q f cs all.1)

-- what was a key is a key where one more is put
kept : (b : Bool) (v : ℕ) (before : Option ℕ) → IsSome before → IsSome (cond b (Some v) before)
kept true v before some = refl
kept false v before some = some

-- one more capability has its print among the keys
pub one_more : (before after : BTreeMap ℕ ℕ) (cs : List Capability) (i v : ℕ) (d : Capability) → i < length cs
    → Updates nat_cmp before after (print_of (get_or cs i d)) (Some v) → HasPrints before (take i cs) → HasPrints after (take (i + 1) cs)
one_more before after cs i v d h put those =
    let still : (c : Capability) → HasPrint before c → HasPrint after c = λ c some. subst IsSome (sym (put.0 (print_of c))) (kept _ v (get nat_cmp before (print_of c)) some) in
    let here : HasPrint after (get_or cs i d) = subst IsSome (sym put.1) refl in
    subst (HasPrints after) (sym (take_at_read cs i d h).1) (and_one (HasPrint after) (take i cs) (get_or cs i d) (weaker (HasPrint before) (HasPrint after) still (take i cs) those) here)
