-- The request types of the environments of a schema ascend.
use Rattle.std.specs.Prelude.{⊤}
use Rattle.std.proofs.Common.{◌≡◌, ℕ, List, [], ◌∷◌, ◌++◌, map, flat_map, IsSome, refl, ap, ◌∙◌}
use Rattle.std.specs.Cmp.{tied_itself}
use Rattle.std.specs.List.{AllByRecursion}
use Rattle.std.specs.List.Sorted.{IsStrictlySortedBy}
use Rattle.std.specs.Ordering.{ordering_then}
use Rattle.std.specs.declared.cmp.Ordering.{Ordering}
use Rattle.std.specs.declared.cmp.Ordering.TheVariants.{Less, Equal}
use Rattle.std.proofs.lemmas.Cmp.{nat_list_cmp_total}
use Rattle.std.proofs.lemmas.List.Elements.{recursion_from_All}
use Rattle.policy_values.specs.declared.entity_uid.EntityUID.{EntityUID}
use Rattle.policy_values.specs.Uid.{text_cmp, uid_cmp, uid_cmp_total}
use Rattle.entity_store.specs.Request.{request_type_cmp}
use Rattle.entity_store.specs.declared.request.RequestType.{RequestType}
use Rattle.schema_core.specs.Environments.{Environment, environment, environments_at, environments_of}
use Rattle.schema_core.specs.EnvData.{EnvData, declared_action, request_type_in, unlinked, unlinked_of, unlinked_envs}
use Rattle.schema_core.specs.Faults.{HasSets, IsSchema}
use Rattle.schema_core.specs.Schema.{ActionData, SchemaData}

module _ {X : Type 0} where
  pub all_more : (P Q : X → Type 0) → ((x : X) → P x → Q x) → (xs : List X) → AllByRecursion P xs → AllByRecursion Q xs
  all_more P Q f [] h = tt
  all_more P Q f (x ∷ xs) h = (f x h.0, all_more P Q f xs h.1)

  all_joined : (P : X → Type 0) (xs ys : List X) → AllByRecursion P xs → AllByRecursion P ys → AllByRecursion P (xs ++ ys)
  all_joined P [] ys h k = k
  all_joined P (x ∷ xs) ys h k = (h.0, all_joined P xs ys h.1 k)

  each : (P : X → Type 0) → ((x : X) → P x) → (xs : List X) → AllByRecursion P xs
  each P f [] = tt
  each P f (x ∷ xs) = (f x, each P f xs)

  -- each element stands in the relation to each behind it
  abbrev pub Pairwise : (X → X → Type 0) → List X → Type 0
  Pairwise R [] = ⊤
  Pairwise R (x ∷ xs) = AllByRecursion (R x) xs × Pairwise R xs

  pairs_joined : (R : X → X → Type 0) (xs ys : List X) → Pairwise R xs → Pairwise R ys → AllByRecursion (λ x. AllByRecursion (R x) ys) xs → Pairwise R (xs ++ ys)
  pairs_joined R [] ys h k b = k
  pairs_joined R (x ∷ xs) ys h k b = (all_joined (R x) xs ys h.0 b.0, pairs_joined R xs ys h.1 k b.1)

module _ {X Y : Type 0} where
  pub all_of_map : (f : X → Y) (P : Y → Type 0) (xs : List X) → AllByRecursion (λ x. P (f x)) xs → AllByRecursion P (map f xs)
  all_of_map f P [] h = tt
  all_of_map f P (x ∷ xs) h = (h.0, all_of_map f P xs h.1)

  all_in_map : (f : X → Y) (P : Y → Type 0) (xs : List X) → AllByRecursion P (map f xs) → AllByRecursion (λ x. P (f x)) xs
  all_in_map f P [] h = tt
  all_in_map f P (x ∷ xs) h = (h.0, all_in_map f P xs h.1)

  all_of_flat : (f : X → List Y) (P : Y → Type 0) (xs : List X) → AllByRecursion (λ x. AllByRecursion P (f x)) xs → AllByRecursion P (flat_map f xs)
  all_of_flat f P [] h = tt
  all_of_flat f P (x ∷ xs) h = all_joined P (f x) (flat_map f xs) h.0 (all_of_flat f P xs h.1)

  pairs_of_map : (f : X → Y) (Q : X → X → Type 0) (R : Y → Y → Type 0) → ((x y : X) → Q x y → R (f x) (f y)) → (xs : List X) → Pairwise Q xs → Pairwise R (map f xs)
  pairs_of_map f Q R g [] h = tt
  pairs_of_map f Q R g (x ∷ xs) h = (all_of_map f (R (f x)) xs (all_more (Q x) (λ y. R (f x) (f y)) (g x) xs h.0), pairs_of_map f Q R g xs h.1)

  pairs_of_flat : (f : X → List Y) (Q : X → X → Type 0) (R : Y → Y → Type 0) → ((x y : X) → Q x y → AllByRecursion (λ u. AllByRecursion (R u) (f y)) (f x)) →
      (xs : List X) → Pairwise Q xs → AllByRecursion (λ x. Pairwise R (f x)) xs → Pairwise R (flat_map f xs)
  pairs_of_flat f Q R across [] h k = tt
  pairs_of_flat f Q R across (x ∷ xs) h k = pairs_joined R (f x) (flat_map f xs) k.0 (pairs_of_flat f Q R across xs h.1 k.1) (behind xs h.0)
    where
      both : (ys zs : List Y) (us : List Y) → AllByRecursion (λ u. AllByRecursion (R u) ys) us → AllByRecursion (λ u. AllByRecursion (R u) zs) us → AllByRecursion (λ u. AllByRecursion (R u) (ys ++ zs)) us
      both ys zs [] a b = tt
      both ys zs (u ∷ us) a b = (all_joined (R u) ys zs a.0 b.0, both ys zs us a.1 b.1)

      behind : (ys : List X) → AllByRecursion (Q x) ys → AllByRecursion (λ u. AllByRecursion (R u) (flat_map f ys)) (f x)
      behind [] a = each (λ u. AllByRecursion (R u) []) (λ u. tt) (f x)
      behind (y ∷ ys) a = both (f y) (flat_map f ys) (f x) (across x y a.0) (behind ys a.1)

  -- keys that ascend
  pairs_of_keys : (cmp : Y → Y → Ordering) (key : X → Y) (xs : List X) → IsStrictlySortedBy cmp (map key xs) → Pairwise (λ x y. cmp (key x) (key y) ≡ Less) xs
  unfolding IsStrictlySortedBy
  pairs_of_keys cmp key [] h = tt
  pairs_of_keys cmp key (x ∷ xs) h = (all_in_map key (λ k. cmp (key x) k ≡ Less) xs h.0, pairs_of_keys cmp key xs h.1)

pairs_of_sorted : {X : Type 0} (cmp : X → X → Ordering) (xs : List X) → IsStrictlySortedBy cmp xs → Pairwise (λ x y. cmp x y ≡ Less) xs
unfolding IsStrictlySortedBy
pairs_of_sorted cmp [] h = tt
pairs_of_sorted cmp (x ∷ xs) h = (h.0, pairs_of_sorted cmp xs h.1)

abbrev type_of : Environment → RequestType
type_of e = record { action = e.action; principal = e.principal; resource = e.resource }

abbrev IsBeforeIn : Environment → Environment → Type 0
IsBeforeIn e f = request_type_cmp (type_of e) (type_of f) ≡ Less

-- both are declared, and the request type of the first comes before that of the second
abbrev pub IsBefore : EnvData → EnvData → Type 0
IsBefore (declared_action e) (declared_action f) = IsBeforeIn e.environment f.environment
IsBefore e f = ⊥

same_text : (n : List ℕ) → text_cmp n n ≡ Equal
same_text n = tied_itself nat_list_cmp_total n

same_uid : (u : EntityUID) → uid_cmp u u ≡ Equal
same_uid u = tied_itself uid_cmp_total u

-- the environments of an action
module _ (a : ActionData) where
  by_resource : (p r s : List ℕ) → text_cmp r s ≡ Less → IsBeforeIn (environment p a.name r) (environment p a.name s)
  by_resource p r s h = ap (λ o. ordering_then o (ordering_then (text_cmp p p) (text_cmp r s))) (same_uid a.name) ∙ ap (λ o. ordering_then o (text_cmp r s)) (same_text p) ∙ h

  by_principal : (p q r s : List ℕ) → text_cmp p q ≡ Less → IsBeforeIn (environment p a.name r) (environment q a.name s)
  by_principal p q r s h = ap (λ o. ordering_then o (ordering_then (text_cmp p q) (text_cmp r s))) (same_uid a.name) ∙ ap (λ o. ordering_then o (text_cmp r s)) h

  principals_apart : (p q : List ℕ) → text_cmp p q ≡ Less → AllByRecursion (λ e. AllByRecursion (IsBeforeIn e) (environments_at a q)) (environments_at a p)
  principals_apart p q h =
      all_of_map (environment p a.name) (λ e. AllByRecursion (IsBeforeIn e) (environments_at a q)) a.resources
      (each (λ r. AllByRecursion (IsBeforeIn (environment p a.name r)) (environments_at a q))
      (λ r. all_of_map (environment q a.name) (IsBeforeIn (environment p a.name r)) a.resources (each (λ s. IsBeforeIn (environment p a.name r) (environment q a.name s)) (λ s. by_principal p q r s h) a.resources)) a.resources)

  of_action_ascend : HasSets a → Pairwise IsBeforeIn (environments_of a)
  of_action_ascend sets =
      pairs_of_flat (environments_at a) (λ p q. text_cmp p q ≡ Less) IsBeforeIn principals_apart a.principals (pairs_of_sorted text_cmp a.principals sets.principals)
      (each (λ p. Pairwise IsBeforeIn (environments_at a p))
      (λ p. pairs_of_map (environment p a.name) (λ r s. text_cmp r s ≡ Less) IsBeforeIn (by_resource p) a.resources (pairs_of_sorted text_cmp a.resources sets.resources)) a.principals)

  pub unlinked_ascend : HasSets a → Pairwise IsBefore (unlinked_of a)
  unlinked_ascend sets = pairs_of_map (unlinked a) IsBeforeIn IsBefore (λ e f h. h) (environments_of a) (of_action_ascend sets)

  pub of_action : AllByRecursion (λ e. e.action ≡ a.name) (environments_of a)
  of_action =
      all_of_flat (environments_at a) (λ e. e.action ≡ a.name) a.principals
      (each (λ p. AllByRecursion (λ e. e.action ≡ a.name) (environments_at a p))
      (λ p. all_of_map (environment p a.name) (λ e. e.action ≡ a.name) a.resources (each (λ r. a.name ≡ a.name) (λ r. refl) a.resources)) a.principals)

actions_apart : (a b : ActionData) → uid_cmp a.name b.name ≡ Less → AllByRecursion (λ e. AllByRecursion (IsBefore e) (unlinked_of b)) (unlinked_of a)
actions_apart a b h =
    all_of_map (unlinked a) (λ e. AllByRecursion (IsBefore e) (unlinked_of b)) (environments_of a)
    (all_more (λ e. e.action ≡ a.name) (λ e. AllByRecursion (IsBefore (unlinked a e)) (unlinked_of b))
    (λ e of_a. all_of_map (unlinked b) (IsBefore (unlinked a e)) (environments_of b)
    (all_more (λ f. f.action ≡ b.name) (λ f. IsBeforeIn e f)
    (λ f of_b. ap (λ o. ordering_then o (ordering_then (text_cmp e.principal f.principal) (text_cmp e.resource f.resource))) ((λ i. uid_cmp (of_a i) (of_b i)) ∙ h))
    (environments_of b) (of_action b)))
    (environments_of a) (of_action a))

module _ (s : SchemaData) where
  pub envs_ascend : IsSchema s → Pairwise IsBefore (unlinked_envs s)
  envs_ascend ok =
      pairs_of_flat unlinked_of (λ a b. uid_cmp a.name b.name ≡ Less) IsBefore actions_apart s.action_ids (pairs_of_keys uid_cmp (λ a. a.name) s.action_ids ok.actions_ascend)
      (all_more HasSets (λ a. Pairwise IsBefore (unlinked_of a)) (λ a sets. unlinked_ascend a sets) s.action_ids (recursion_from_All HasSets s.action_ids ok.action_sets))

  pub envs_declared : AllByRecursion (λ e. IsSome (request_type_in e)) (unlinked_envs s)
  envs_declared =
      all_of_flat unlinked_of (λ e. IsSome (request_type_in e)) s.action_ids
      (each (λ a. AllByRecursion (λ e. IsSome (request_type_in e)) (unlinked_of a))
      (λ a. all_of_map (unlinked a) (λ e. IsSome (request_type_in e)) (environments_of a) (each (λ e. IsSome (request_type_in (unlinked a e))) (λ e. refl) (environments_of a))) s.action_ids)
