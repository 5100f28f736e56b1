-- What is found of conditions holds of decisions.
use Rattle.std.proofs.Common.{◌≡◌, Bool, true, false, not, ◌&&◌, ◌||◌, List, [], ◌∷◌, Option, Some, None, IsSomeAnd, ◌⊎◌, inl, inr, cond, find, refl, sym, ap, ◌∙◌, if◌then◌else◌}
use Rattle.std.specs.List.{list_any}
use Rattle.plain_lemmas.proofs.Booleans.{or_assoc, or_false, or_left_true, or_right_true, or_weaker_right, or_cases, or_false_parts}
use Rattle.plain_lemmas.proofs.Options.{some_injective}
use Rattle.policy_values.specs.Keyed.{has_key}
use Rattle.policy_values.specs.Uid.{text_cmp}
use Rattle.entity_store.specs.declared.request.Request.{Request}
use Rattle.entity_store.specs.Store.{Store}
use Rattle.schema_core.specs.EnvData.{EnvData}
use Rattle.schema_core.specs.Schema.{SchemaData}
use Rattle.policy_core.specs.Laws.{ShapeDecides}
use Rattle.policy_expressions.specs.Shape.{SameShape}
use Rattle.policy_expressions.specs.Tree.{Mark}
use Rattle.policy_set.specs.Data.{PolicyData}
use Rattle.policy_set.specs.PolicySet.{PolicySetData, policy_at}
use Rattle.policy_set.specs.Response.{outcome}
use Rattle.typing_spec.specs.Conforms.{RequestConforms, StoreConforms}
use Rattle.condition_truth.specs.Truth.{is_yes}
use Rattle.condition_compare.specs.Decisions.{allows, permits_after, forbids_after, sides_in, AllowsAtMost as ConditionsAllowAtMost}
use Rattle.condition_compare.specs.Worlds.{World}
use Rattle.condition_compare.specs.declared.condition.Condition.{Condition}
use Rattle.policy_compare.specs.Compared.{AllowsAtMost, IsOfEnvironment}
use Rattle.policy_compare.specs.Conditions.{is_permit, permits_there, forbids_there, IsConditionOf, AreConditionsBut, none, shared, own}
use Rattle.policy_compare.proofs.Decided.{allowed_back, allowed_on}

one_permits : (c b y r : Bool) → ((if c then b || y else b) || r) ≡ (b || ((c && y) || r))
one_permits true b y r = or_assoc b y r
one_permits false b y r = refl

one_forbids : (c b y r : Bool) → ((if c then b else b || y) || r) ≡ (b || ((not c && y) || r))
one_forbids true b y r = refl
one_forbids false b y r = or_assoc b y r

-- ---- policies that another set has, too

-- what is found by some test is among what was gone through
module _ {X : Type 0} (f t : X → Bool) where
  found_any : (xs : List X) (r : X) → find f xs ≡ Some r → t r ≡ true → list_any t xs ≡ true
  found_any [] r e h = absurd (cc)
  found_any (x ∷ xs) r e h = by (f x) (λ k. found_any xs r k h) e
    where
      by : (b : Bool) → (find f xs ≡ Some r → list_any t xs ≡ true) → cond b (Some x) (find f xs) ≡ Some r → t x || list_any t xs ≡ true
      by true later k = or_left_true (t x) (list_any t xs) (ap t (some_injective k) ∙ h)
      by false later k = or_right_true (t x) (list_any t xs) (later k)

either_of : {A B C : Type 0} → (A → C) → (B → C) → A ⊎ B → C
either_of f g (inl a) = f a
either_of f g (inr b) = g b

-- of two sets, each with what only it has: what holds of one in both is set apart
apart : (b a r : Bool) → (r ≡ true → b ≡ true) → (b ≡ true → r ≡ false → a ≡ true) → b ≡ (b && a) || r
apart true true r f g = refl
apart true false true f g = refl
apart true false false f g = absurd (cc (g refl refl))
apart false a true f g = f refl
apart false a false f g = refl

apart_right : (b a r : Bool) → (r ≡ true → a ≡ true) → (a ≡ true → r ≡ false → b ≡ true) → a ≡ (b && a) || r
apart_right true true r f g = refl
apart_right false true true f g = refl
apart_right false true false f g = absurd (cc (g refl refl))
apart_right true false true f g = f refl
apart_right true false false f g = refl
apart_right false false true f g = f refl
apart_right false false false f g = refl

module _ (schema : SchemaData) (env : EnvData) (others : PolicySetData) where
  abbrev Gathered : List PolicyData → List Condition → Type 0
  Gathered = AreConditionsBut schema env others

  -- the policies that only this set has
  abbrev own_of : (ps : List PolicyData) (cs : List Condition) → Gathered ps cs → List PolicyData
  own_of _ _ none = []
  own_of _ _ (shared {p = p} {ps = ps} {cs = cs} h g) = own_of ps cs g
  own_of _ _ (own {p = p} {c = c} {ps = ps} {cs = cs} h g) = p ∷ own_of ps cs g

  -- a test that goes by the effect and by the outcome
  module _ (t : PolicyData → Bool) (same : (p r : PolicyData) → r.effect ≡ p.effect → SameShape p.condition r.condition → t p ≡ t r) where
    own_within : (ps : List PolicyData) (cs : List Condition) (g : Gathered ps cs) → list_any t (own_of ps cs g) ≡ true → list_any t ps ≡ true
    own_within _ _ none h = h
    own_within _ _ (shared {p = p} {ps = ps} {cs = cs} s g) h = or_right_true (t p) (list_any t ps) (own_within ps cs g h)
    own_within _ _ (own {p = p} {c = c} {ps = ps} {cs = cs} s g) h = or_weaker_right (t p) (list_any t (own_of ps cs g)) (list_any t ps) (own_within ps cs g) h

    shared_any : (p : PolicyData) (o : Option PolicyData) → policy_at others p.id ≡ o → IsSomeAnd o (λ r. (r.effect ≡ p.effect) × SameShape p.condition r.condition) → t p ≡ true → list_any t others.policies ≡ true
    shared_any p None e s h = absurd s
    shared_any p (Some r) e s h = found_any (has_key text_cmp (λ x. x.id) p.id) t others.policies r e (sym (same p r s.0 s.1) ∙ h)

    own_covers : (ps : List PolicyData) (cs : List Condition) (g : Gathered ps cs) → list_any t ps ≡ true → list_any t (own_of ps cs g) ≡ false → list_any t others.policies ≡ true
    own_covers _ _ none h k = absurd (cc)
    own_covers _ _ (shared {p = p} {ps = ps} {cs = cs} s g) h k =
        either_of (λ here. shared_any p (policy_at others p.id) refl s here) (λ later. own_covers ps cs g later k) (or_cases (t p) (list_any t ps) h)
    own_covers _ _ (own {p = p} {c = c} {ps = ps} {cs = cs} s g) h k =
        let no = or_false_parts (t p) (list_any t (own_of ps cs g)) k in
        own_covers ps cs g (ap (λ b. b || list_any t ps) (sym no.0) ∙ h) no.1

-- ---- conditions

module _ (schema : SchemaData) (env : EnvData) (q : Request) (conforms : RequestConforms schema q) (of : IsOfEnvironment schema env q) (s : Store) (stored : StoreConforms schema s) (permitted forbidden : Bool) where
  abbrev world : World
  world = record { permitted = permitted; forbidden = forbidden; request = q; store = s }

  one_yes : (p : PolicyData) (c : Condition) → IsConditionOf schema env p c → is_yes (outcome p q s) ≡ (sides_in world c).yes
  one_yes p c is = (is.same q conforms of s stored).yes

  module _ (others : PolicySetData) where
    permits_are : (ps : List PolicyData) (cs : List Condition) (g : AreConditionsBut schema env others ps cs) → (b : Bool) → permits_after world b cs ≡ b || list_any (permits_there q s) (own_of schema env others ps cs g)
    permits_are _ _ none b = sym (or_false b)
    permits_are _ _ (shared {p = p} {ps = ps} {cs = cs} h g) b = permits_are ps cs g b
    permits_are _ _ (own {p = p} {c = c} {ps = ps} {cs = cs} h g) b =
        permits_are ps cs g (if c.permits then b || (sides_in world c).yes else b)
        ∙ one_permits c.permits b (sides_in world c).yes (list_any (permits_there q s) (own_of schema env others ps cs g))
        ∙ (λ i. b || ((h.permits i && sym (one_yes p c h) i) || list_any (permits_there q s) (own_of schema env others ps cs g)))

    forbids_are : (ps : List PolicyData) (cs : List Condition) (g : AreConditionsBut schema env others ps cs) → (b : Bool) → forbids_after world b cs ≡ b || list_any (forbids_there q s) (own_of schema env others ps cs g)
    forbids_are _ _ none b = sym (or_false b)
    forbids_are _ _ (shared {p = p} {ps = ps} {cs = cs} h g) b = forbids_are ps cs g b
    forbids_are _ _ (own {p = p} {c = c} {ps = ps} {cs = cs} h g) b =
        forbids_are ps cs g (if c.permits then b else b || (sides_in world c).yes)
        ∙ one_forbids c.permits b (sides_in world c).yes (list_any (forbids_there q s) (own_of schema env others ps cs g))
        ∙ (λ i. b || ((not (h.permits i) && sym (one_yes p c h) i) || list_any (forbids_there q s) (own_of schema env others ps cs g)))

module _ (shapes : ShapeDecides (Mark (Unit {0})) (Mark (Unit {0}))) (schema : SchemaData) (env : EnvData)
    (before after : PolicySetData)
    (bs as' : List Condition) (b : AreConditionsBut schema env after before.policies bs) (a : AreConditionsBut schema env before after.policies as') where
  module _ (q : Request) (conforms : RequestConforms schema q) (of : IsOfEnvironment schema env q) (s : Store) (stored : StoreConforms schema s) where
    abbrev P : PolicyData → Bool
    P = permits_there q s

    abbrev F : PolicyData → Bool
    F = forbids_there q s

    same_permit : (p r : PolicyData) → r.effect ≡ p.effect → SameShape p.condition r.condition → P p ≡ P r
    same_permit p r e h = λ i. is_permit (sym e i) && is_yes (shapes p.condition r.condition h q s i)

    same_forbid : (p r : PolicyData) → r.effect ≡ p.effect → SameShape p.condition r.condition → F p ≡ F r
    same_forbid p r e h = λ i. not (is_permit (sym e i)) && is_yes (shapes p.condition r.condition h q s i)

    -- whether some policy of both sets permits, and forbids
    abbrev permitted : Bool
    permitted = list_any P before.policies && list_any P after.policies

    abbrev forbidden : Bool
    forbidden = list_any F before.policies && list_any F after.policies

    abbrev w : World
    w = record { permitted = permitted; forbidden = forbidden; request = q; store = s }

    of_before : (t : PolicyData → Bool) → ((p r : PolicyData) → r.effect ≡ p.effect → SameShape p.condition r.condition → t p ≡ t r) →
        (list_any t before.policies && list_any t after.policies) || list_any t (own_of schema env after before.policies bs b) ≡ list_any t before.policies
    of_before t same = sym (apart (list_any t before.policies) (list_any t after.policies) (list_any t (own_of schema env after before.policies bs b))
        (own_within schema env after t same before.policies bs b) (own_covers schema env after t same before.policies bs b))

    of_after : (t : PolicyData → Bool) → ((p r : PolicyData) → r.effect ≡ p.effect → SameShape p.condition r.condition → t p ≡ t r) →
        (list_any t before.policies && list_any t after.policies) || list_any t (own_of schema env before after.policies as' a) ≡ list_any t after.policies
    of_after t same = sym (apart_right (list_any t before.policies) (list_any t after.policies) (list_any t (own_of schema env before after.policies as' a))
        (own_within schema env before t same after.policies as' a) (own_covers schema env before t same after.policies as' a))

    before_is : allows w bs ≡ list_any P before.policies && not (list_any F before.policies)
    before_is = λ i. (permits_are schema env q conforms of s stored permitted forbidden after before.policies bs b permitted ∙ of_before P same_permit) i
        && not ((forbids_are schema env q conforms of s stored permitted forbidden after before.policies bs b forbidden ∙ of_before F same_forbid) i)

    after_is : allows w as' ≡ list_any P after.policies && not (list_any F after.policies)
    after_is = λ i. (permits_are schema env q conforms of s stored permitted forbidden before after.policies as' a permitted ∙ of_after P same_permit) i
        && not ((forbids_are schema env q conforms of s stored permitted forbidden before after.policies as' a forbidden ∙ of_after F same_forbid) i)

  pub at_most : ConditionsAllowAtMost bs as' → AllowsAtMost schema env before.policies after.policies
  at_most most q conforms of s stored h =
      let allowed = after_is q conforms of s stored ∙ allowed_back q s after.policies h in
      allowed_on q s before.policies (sym (before_is q conforms of s stored) ∙ most (w q conforms of s stored) allowed)

  pub at_least : ConditionsAllowAtMost as' bs → AllowsAtMost schema env after.policies before.policies
  at_least most q conforms of s stored h =
      let allowed = before_is q conforms of s stored ∙ allowed_back q s before.policies h in
      allowed_on q s after.policies (sym (after_is q conforms of s stored) ∙ most (w q conforms of s stored) allowed)
