-- Steps through the environments of a template.
use Rattle.std.proofs.Common.{◌≡◌, ℕ, ◌<◌, Bool, true, false, ◌&&◌, ◌||◌, List, [], ◌∷◌, ◌++◌, map, length, get_or, Option, Some, None, IsTrue, refl, sym, ap, ◌∙◌, true≢false, arith}
use Rattle.std.specs.Prelude.{⊤, cond, nat_lt, flat_map, filter, fold, if◌then◌else◌, suc}
use Rattle.std.specs.List.{AllByRecursion}
use Rattle.std.specs.Ordering.{is_eq}
use Rattle.std.specs.Cmp.{tied_itself}
use Rattle.std.proofs.lemmas.Cmp.{nat_list_cmp_total}
use Rattle.std.proofs.lemmas.List.Folds.{fold-map}
use Rattle.std.proofs.lemmas.List.Sums.{fold-append}
use Rattle.policy_values.specs.Reaches.{has}
use Rattle.policy_values.specs.Uid.{text_cmp, uid_cmp, uid_cmp_total, exact_uid}
use Rattle.policy_expressions.specs.Slots.{has_slot}
use Rattle.policy_expressions.specs.Tree.{depth_of}
use Rattle.schema_core.specs.EnvData.{EnvData, unlinked}
use Rattle.schema_core.specs.Environments.{Environment, environment, environments_at, environments_of}
use Rattle.schema_core.specs.Faults.{IsSchema}
use Rattle.schema_core.specs.Schema.{ActionData, SchemaData, action_at}
use Rattle.schema_core.proofs.Found.{found_here}
use Rattle.policy_set.specs.declared.constraint.EntityReference.TheVariants.{Slot}
use Rattle.policy_set.specs.declared.constraint.PrincipalOrResourceConstraint.{PrincipalOrResourceConstraint}
use Rattle.policy_set.specs.declared.constraint.PrincipalOrResourceConstraint.TheVariants.{Eq, In, IsIn}
use Rattle.policy_set.specs.Data.{TemplateData}
use Rattle.policy_set.specs.Condition.{condition_of}
use Rattle.policy_scope.specs.PlainScope.{is_plain_scope}
use Rattle.policy_scope.specs.Scope.{type_meets, action_meets}
use Rattle.link_spec.specs.Linked.{linked_env, types_above, types_around, slot_types, linked_envs_with, linked_envs_at, linked_envs_of, linked_envs}
use Rattle.plain_lemmas.proofs.Lists.{all_weaker}
use Rattle.typecheck_rules.specs.Check.{Check, TooDeep, checked, condition_walked}
use Rattle.link_spec.specs.Parts.{Part, whole_part, is_met_in, Stands}
use Rattle.link_spec.specs.Behind.{check_behind}
use Rattle.link_spec.specs.ScopeLaws.{IsEnvironment}
use Rattle.link_spec.specs.Met.{met_at, met_with, met_envs, body_check}
use Rattle.link_spec.proofs.Checks.{conditions_follow}
use Rattle.link_spec.proofs.ScopeSlots.{bodies_read_no_slots}
use Rattle.link_spec.proofs.Steps.{IsStep}

each : {X : Type 0} (P : X → Type 0) → ((x : X) → P x) → (xs : List X) → AllByRecursion P xs
each P h [] = tt
each P h (x ∷ xs) = (h x, each P h xs)

abbrev IsFull : {X : Type 0} → List X → Type 0
IsFull [] = ⊥
IsFull (x ∷ xs) = ⊤

-- lists that are gone through
module _ {S : Type 0} where
  pub fold_same : {X : Type 0} (f g : S → X → S) (xs : List X) → AllByRecursion (λ x. (s : S) → f s x ≡ g s x) xs → (s : S) → fold f s xs ≡ fold g s xs
  fold_same f g [] h s = refl
  fold_same f g (x ∷ xs) h s = ap (λ z. fold f z xs) (h.0 s) ∙ fold_same f g xs h.1 (g s x)

  fold_each : {X Y : Type 0} (f : S → Y → S) (g : X → List Y) (xs : List X) (s : S) → fold f s (flat_map g xs) ≡ fold (λ s x. fold f s (g x)) s xs
  fold_each f g [] s = refl
  fold_each f g (x ∷ xs) s = fold-append f s (g x) (flat_map g xs) ∙ fold_each f g xs (fold f s (g x))

  -- what fails the test is passed over
  abbrev only : {X : Type 0} (p : X → Bool) (f : S → X → S) → S → X → S
  only p f s x = if p x then f s x else s

  fold_only : {X : Type 0} (p : X → Bool) (f : S → X → S) (xs : List X) (s : S) → fold (only p f) s xs ≡ fold f s (filter p xs)
  fold_only p f [] s = refl
  fold_only p f (x ∷ xs) s = by (p x) (fold_only p f xs)
    where
      by : (b : Bool) → ((z : S) → fold (only p f) z xs ≡ fold f z (filter p xs)) → fold (only p f) (if b then f s x else s) xs ≡ fold f s (cond b (x ∷ filter p xs) (filter p xs))
      by true h = h (f s x)
      by false h = h s

  fold_stays : {X : Type 0} (xs : List X) (s : S) → fold (λ s x. s) s xs ≡ s
  fold_stays [] s = refl
  fold_stays (x ∷ xs) s = fold_stays xs s

  -- all do the same, and twice is once
  fold_again : {X : Type 0} (g : S → S) (f : S → X → S) → ((s : S) → g (g s) ≡ g s) → (xs : List X) → AllByRecursion (λ x. (s : S) → f s x ≡ g s) xs → (s : S) → fold f (g s) xs ≡ g s
  fold_again g f twice [] h s = refl
  fold_again g f twice (x ∷ xs) h s = ap (λ z. fold f z xs) (h.0 (g s) ∙ twice s) ∙ fold_again g f twice xs h.1 s

  fold_once : {X : Type 0} (g : S → S) (f : S → X → S) → ((s : S) → g (g s) ≡ g s) → (xs : List X) → IsFull xs → AllByRecursion (λ x. (s : S) → f s x ≡ g s) xs → (s : S) → fold f s xs ≡ g s
  fold_once g f twice [] n h s = absurd n
  fold_once g f twice (x ∷ xs) n h s = ap (λ z. fold f z xs) (h.0 s) ∙ fold_again g f twice xs h.1 s

-- each name of a list is in it
pub all_in : (ns : List (List ℕ)) → AllByRecursion (λ n. has text_cmp ns n ≡ true) ns
all_in [] = tt
all_in (m ∷ ns) = (ap (λ o. is_eq o || has text_cmp ns m) (tied_itself nat_list_cmp_total m), all_weaker (λ n h. last (is_eq (text_cmp n m)) n h) ns (all_in ns))
  where
    last : (b : Bool) (n : List ℕ) → has text_cmp ns n ≡ true → (b || has text_cmp ns n) ≡ true
    last true n h = refl
    last false n h = h

by_index : {X : Type 0} (P : X → Type 0) (xs : List X) → ((k : ℕ) (x : X) → k < length xs → get_or xs k x ≡ x → P x) → AllByRecursion P xs
by_index P [] h = tt
by_index P (x ∷ xs) h = (h 0 x (omega arith) refl, by_index P xs (λ k y lt e. h (suc k) y (omega arith) e))

pub all_listed : (schema : SchemaData) → IsSchema schema → AllByRecursion (λ a. action_at schema a.name ≡ Some a) schema.action_ids
all_listed schema ok =
    by_index (λ a. action_at schema a.name ≡ Some a) schema.action_ids
    (λ k a lt e. found_here uid_cmp_total exact_uid (λ x. x.name) a.name schema.action_ids ok.actions_ascend k a lt (ap (λ x. uid_cmp x.name a.name) e ∙ tied_itself uid_cmp_total a.name) ∙ ap Some e)

-- something may stand for each slot, and it is as it has to be
full_around : (schema : SchemaData) (n : List ℕ) → IsFull (map Some (types_around schema n))
full_around schema n = by (types_above schema n) (has text_cmp (types_above schema n) n) refl
  where
    by : (xs : List (List ℕ)) (b : Bool) → has text_cmp xs n ≡ b → IsFull (map Some (if b then xs else xs ++ n ∷ []))
    by [] true h = absurd (true≢false (sym h))
    by [] false h = tt
    by (x ∷ xs) true h = tt
    by (x ∷ xs) false h = tt

full_slots : (schema : SchemaData) (c : PrincipalOrResourceConstraint) (n : List ℕ) → IsFull (slot_types schema c n)
full_slots schema (Eq Slot) n = tt
full_slots schema (In Slot) n = full_around schema n
full_slots schema (IsIn m Slot) n = full_around schema n
full_slots schema c n = tt

pub slots_stand : (schema : SchemaData) (c : PrincipalOrResourceConstraint) (n : List ℕ) → AllByRecursion (Stands c n) (slot_types schema c n)
slots_stand schema (Eq Slot) n = (refl, tt)
slots_stand schema (In Slot) n = each (λ o. ⊤) (λ o. tt) (map Some (types_around schema n))
slots_stand schema (IsIn m Slot) n = each (λ o. ⊤) (λ o. tt) (map Some (types_around schema n))
slots_stand schema c n = (tt, tt)

module _ (schema : SchemaData) (ok : IsSchema schema) (t : TemplateData) (plain : IsTrue (is_plain_scope schema t.principal t.action t.resource)) (no_slot : has_slot t.body ≡ false)
    (depth : nat_lt 200 (depth_of (condition_of t)) ≡ false) {S : Type 0} (h : Check → S → S) (step : IsStep h) where
  -- what the body does in an environment, and what the condition does
  abbrev body_step : S → EnvData → S
  body_step s env = h (body_check schema t env) s

  abbrev step_in : S → EnvData → S
  step_in s env = h (checked schema env (condition_of t)) s

  -- what the body does where it is reached
  abbrev met_step : Bool → EnvData → S → S
  met_step b env s = if b then body_step s env else s

  twice : (b : Bool) (env : EnvData) (s : S) → met_step b env (met_step b env s) ≡ met_step b env s
  twice true env s = step.once (body_check schema t env) s
  twice false env s = refl

  module _ (a : ActionData) (e : Environment) (is : IsEnvironment schema a e) where
    abbrev met : S → S
    met s = met_step (is_met_in schema a e t.principal t.action t.resource) (unlinked a e) s

    met_twice : (s : S) → met (met s) ≡ met s
    met_twice s = twice (is_met_in schema a e t.principal t.action t.resource) (unlinked a e) s

    behind_step : (p : Part) (b : Bool) (s : S) → h (check_behind p b (condition_walked schema (unlinked a e) t.body)) s ≡ met_step b (unlinked a e) s
    behind_step p true s = step.same p (condition_walked schema (unlinked a e) t.body) s
    behind_step p false s = step.skips _ s

    linked_step : (o o' : Option (List ℕ)) → Stands t.principal e.principal o → Stands t.resource e.resource o' → (s : S) → step_in s (linked_env a e o o') ≡ met s
    linked_step o o' f g s =
        ap (λ c. h c s)
        (conditions_follow schema ok a e is t plain o o' f g ∙
        (λ j. if depth j then TooDeep else check_behind (whole_part schema a e o o' t.principal t.action t.resource) (is_met_in schema a e t.principal t.action t.resource) (bodies_read_no_slots schema a e o o' None None t.body no_slot j))) ∙
        behind_step (whole_part schema a e o o' t.principal t.action t.resource) (is_met_in schema a e t.principal t.action t.resource) s

    -- whatever stands for the slots
    with_step : (o : Option (List ℕ)) → Stands t.principal e.principal o → (s : S) → fold step_in s (linked_envs_with schema t a e o) ≡ met s
    with_step o f s =
        fold-map step_in (linked_env a e o) s (slot_types schema t.resource e.resource) ∙
        fold_once met (λ s o'. step_in s (linked_env a e o o')) met_twice (slot_types schema t.resource e.resource) (full_slots schema t.resource e.resource)
        (all_weaker (λ o' g s. linked_step o o' f g s) (slot_types schema t.resource e.resource) (slots_stand schema t.resource e.resource)) s

    at_step : (s : S) → fold step_in s (linked_envs_at schema t a e) ≡ met s
    at_step s =
        fold_each step_in (linked_envs_with schema t a e) (slot_types schema t.principal e.principal) s ∙
        fold_once met (λ s o. fold step_in s (linked_envs_with schema t a e o)) met_twice (slot_types schema t.principal e.principal) (full_slots schema t.principal e.principal)
        (all_weaker with_step (slot_types schema t.principal e.principal) (slots_stand schema t.principal e.principal)) s

  module _ (a : ActionData) (listed : action_at schema a.name ≡ Some a) where
    -- the action with a principal type and a resource type that it applies to
    abbrev env_at : List ℕ → List ℕ → EnvData
    env_at p r = unlinked a (environment p a.name r)

    abbrev pair_step : List ℕ → S → List ℕ → S
    pair_step p s r = met_step (is_met_in schema a (environment p a.name r) t.principal t.action t.resource) (env_at p r) s

    pair_met : (p : List ℕ) → has text_cmp a.principals p ≡ true → (r : List ℕ) → has text_cmp a.resources r ≡ true → (s : S) → fold step_in s (linked_envs_at schema t a (environment p a.name r)) ≡ pair_step p s r
    pair_met p hp r hr s = at_step a (environment p a.name r) (record { action = listed; name = refl; principal = hp; resource = hr }) s

    -- the resource types behind a principal type
    resources_step : (b : Bool) (p : List ℕ) (rs : List (List ℕ)) (s : S) →
        fold (λ s r. met_step (b && type_meets schema t.resource r) (env_at p r) s) s rs ≡ (if b then fold (λ s r. body_step s (env_at p r)) s (filter (type_meets schema t.resource) rs) else s)
    resources_step true p rs s = fold_only (type_meets schema t.resource) (λ s r. body_step s (env_at p r)) rs s
    resources_step false p rs s = fold_stays rs s

    abbrev of_principal : S → List ℕ → S
    of_principal s p = fold body_step s (met_at schema t a p)

    abbrev principal_step : S → List ℕ → S
    principal_step s p = if type_meets schema t.principal p && action_meets schema t.action a then of_principal s p else s

    principal_met : (p : List ℕ) → has text_cmp a.principals p ≡ true → (s : S) → fold (λ s e. fold step_in s (linked_envs_at schema t a e)) s (environments_at a p) ≡ principal_step s p
    principal_met p hp s =
        fold-map (λ s e. fold step_in s (linked_envs_at schema t a e)) (environment p a.name) s a.resources ∙
        fold_same (λ s r. fold step_in s (linked_envs_at schema t a (environment p a.name r))) (pair_step p) a.resources (all_weaker (pair_met p hp) a.resources (all_in a.resources)) s ∙
        resources_step (type_meets schema t.principal p && action_meets schema t.action a) p a.resources s ∙
        (λ j. if type_meets schema t.principal p && action_meets schema t.action a then sym (fold-map body_step (λ r. env_at p r) s (filter (type_meets schema t.resource) a.resources)) j else s)

    principals_step : (b : Bool) (ps : List (List ℕ)) (s : S) →
        fold (λ s p. if type_meets schema t.principal p && b then of_principal s p else s) s ps ≡ (if b then fold body_step s (flat_map (met_at schema t a) (filter (type_meets schema t.principal) ps)) else s)
    principals_step b ps s = fold_same _ _ ps (each _ (λ p s. exchanged (type_meets schema t.principal p) b (of_principal s p) s) ps) s ∙ by b
      where
        exchanged : (c b : Bool) (x y : S) → (if c && b then x else y) ≡ (if b && c then x else y)
        exchanged true true x y = refl
        exchanged true false x y = refl
        exchanged false true x y = refl
        exchanged false false x y = refl

        by : (b : Bool) → fold (λ s p. if b && type_meets schema t.principal p then of_principal s p else s) s ps ≡ (if b then fold body_step s (flat_map (met_at schema t a) (filter (type_meets schema t.principal) ps)) else s)
        by true = fold_only (type_meets schema t.principal) of_principal ps s ∙ sym (fold_each body_step (met_at schema t a) (filter (type_meets schema t.principal) ps) s)
        by false = fold_stays ps s

    action_step : (s : S) → fold step_in s (linked_envs_of schema t a) ≡ (if action_meets schema t.action a then fold body_step s (met_with schema t a) else s)
    action_step s =
        fold_each step_in (linked_envs_at schema t a) (environments_of a) s ∙
        fold_each (λ s e. fold step_in s (linked_envs_at schema t a e)) (environments_at a) a.principals s ∙
        fold_same (λ s p. fold (λ s e. fold step_in s (linked_envs_at schema t a e)) s (environments_at a p)) principal_step a.principals (all_weaker principal_met a.principals (all_in a.principals)) s ∙
        principals_step (action_meets schema t.action a) a.principals s

  -- the checks of the condition in all linked environments do what those of the body do in the environments that meet the scope
  pub checks_follow : (s : S) → fold (λ s env. h (checked schema env (condition_of t)) s) s (linked_envs schema t) ≡ fold (λ s env. h (body_check schema t env) s) s (met_envs schema t)
  checks_follow s =
      fold_each step_in (linked_envs_of schema t) schema.action_ids s ∙
      fold_same (λ s a. fold step_in s (linked_envs_of schema t a)) (only (action_meets schema t.action) (λ s a. fold body_step s (met_with schema t a))) schema.action_ids
      (all_weaker action_step schema.action_ids (all_listed schema ok)) s ∙
      fold_only (action_meets schema t.action) (λ s a. fold body_step s (met_with schema t a)) schema.action_ids s ∙
      sym (fold_each body_step (met_with schema t) (filter (action_meets schema t.action) schema.action_ids) s)
