-- Ways of one or more steps, and what a map of sets lists at its keys.
use Rattle.policy_values.specs.Reaches.{at, Reaches, last, more, has, Leads, leads}
use Rattle.std.proofs.Common.{◌≡◌, true, false, ◌↔◌, Contains, Some, None, List, refl, sym, ◌∙◌, ap}
use Rattle.std.proofs.lemmas.Bool.{false≢true}
use Rattle.std.proofs.lemmas.Map.Lookups.{CmpEqualImpliesEq}
use Rattle.std.proofs.lemmas.Map.Made.{is_some-lookup}
use Rattle.std.proofs.lemmas.Map.Views.{btree_set_contains_iff}
use Rattle.std.specs.BTreeMap.{is_at}
use Rattle.std.specs.BTreeSet.{BTreeSet}
use Rattle.std.specs.Cmp.{IsTotalOrder}
use Rattle.std.specs.Map.{keys_of}
use Rattle.std.specs.Option.{is_some, IsSomeAnd, option_map_or}
use Rattle.std.specs.declared.cmp.Ordering.{Ordering}

-- one step more
pub Reaches-further : {K : Type 0} {Step : K → K → Type 0} {x y z : K} → Reaches Step x y → Step y z → Reaches Step x z
Reaches-further (last s) t = more s (last t)
Reaches-further (more s r) t = more s (Reaches-further r t)

pub Reaches-join : {K : Type 0} {Step : K → K → Type 0} {x y z : K} → Reaches Step x y → Reaches Step y z → Reaches Step x z
Reaches-join (last s) t = more s t
Reaches-join (more s r) t = more s (Reaches-join r t)

-- by other steps
pub Reaches-map : {K : Type 0} {S T : K → K → Type 0} → ((x y : K) → S x y → T x y) → {x y : K} → Reaches S x y → Reaches T x y
Reaches-map f (last s) = last (f _ _ s)
Reaches-map f (more s r) = more (f _ _ s) (Reaches-map f r)

-- the other way, by the other steps
pub Reaches-back : {K : Type 0} {S T : K → K → Type 0} → ((x y : K) → S x y → T y x) → {x y : K} → Reaches S x y → Reaches T y x
Reaches-back f (last s) = last (f _ _ s)
Reaches-back f (more s r) = Reaches-further (Reaches-back f r) (f _ _ s)

-- what a step leads to, where it is known of the last step of each way
pub Reaches-ends : {K : Type 0} {Step : K → K → Type 0} (P : K → Type 0) → ((x y : K) → Step x y → P y) → {x y : K} → Reaches Step x y → P y
Reaches-ends P f (last s) = f _ _ s
Reaches-ends P f (more s r) = Reaches-ends P f r

module _ {K : Type 0} (cmp : K → K → Ordering) where
  -- what leads on is a key
  pub Leads-is_some : {A : Type 0} (sets : List (K × BTreeSet A)) (x : K) (y : A) → Leads cmp sets x y → is_some (at cmp sets x) ≡ true
  Leads-is_some sets x y h = elim (at cmp sets x) as (λ r. IsSomeAnd r (λ set. Contains set.keys y) → is_some r ≡ true) [ None ↦ λ k. absurd k | Some set ↦ λ _. refl ] h

  pub Leads-key : {A : Type 0} (sets : List (K × BTreeSet A)) (x : K) (y : A) → Leads cmp sets x y → has cmp (keys_of sets) x ≡ true
  Leads-key sets x y h = sym (is_some-lookup (is_at (cmp x)) sets) ∙ Leads-is_some sets x y h

  pub Reaches-is_some : (steps : List (K × BTreeSet K)) {x y : K} → Reaches (Leads cmp steps) x y → is_some (at cmp steps x) ≡ true
  Reaches-is_some steps {x} (last {y = y} s) = Leads-is_some steps x y s
  Reaches-is_some steps {x} (more {y = y} s r) = Leads-is_some steps x y s

  -- at a key with these
  pub Leads-at : {A : Type 0} (sets : List (K × BTreeSet A)) (x : K) (set : BTreeSet A) → at cmp sets x ≡ Some set → (y : A) → Leads cmp sets x y ↔ Contains set.keys y
  Leads-at sets x set e y = rw e (λ h. h, λ h. h)

  pub Leads-none : {A : Type 0} (sets : List (K × BTreeSet A)) (x : K) → at cmp sets x ≡ None → (y : A) → Leads cmp sets x y → ⊥
  Leads-none sets x e y h = false≢true (ap is_some (sym e) ∙ Leads-is_some sets x y h)

module _ {K : Type 0} {cmp : K → K → Ordering} (o : IsTotalOrder cmp) (exact : CmpEqualImpliesEq cmp) where
  -- the test says what the map lists
  pub leads-Leads : (steps : List (K × BTreeSet K)) (x y : K) → (leads cmp steps x y ≡ true) ↔ Leads cmp steps x y
  leads-Leads steps x y = elim (at cmp steps x) as (λ r. (option_map_or (λ next. has cmp next.keys y) r false ≡ true) ↔ IsSomeAnd r (λ next. Contains next.keys y)) [
    | None ↦ (λ h. absurd (false≢true h), λ h. absurd h)
    | Some next ↦ btree_set_contains_iff o exact next y
  ]
