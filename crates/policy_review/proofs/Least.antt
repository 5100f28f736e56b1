-- A template or static policy passes at its least level, and at none below.
use Rattle.std.proofs.Common.{◌≡◌, ◌<◌, ℕ, ◌+◌, max, nat_lt, nat_le, Bool, true, false, ◌&&◌, List, [], ◌∷◌, map, Option, Some, None, IfSome, refl, sym, ◌∙◌, arith}
use Rattle.std.specs.Prelude.{MatchOption}
use Rattle.std.specs.Option.{option_map_or}
use Rattle.std.specs.List.{list_all, AllByRecursion}
use Rattle.schema_core.specs.EnvData.{EnvData, action_in}
use Rattle.schema_core.specs.Schema.{SchemaData}
use Rattle.policy_expressions.specs.Plain.{Plain}
use Rattle.policy_set.specs.Data.{TemplateData}
use Rattle.policy_set.specs.Condition.{condition_of}
use Rattle.typing_spec.specs.Typing.{Typing, types}
use Rattle.link_spec.specs.Linked.{linked_envs}
use Rattle.level_spec.specs.Levels.{greater, least, least_level, is_below, dereferences, passes}
use Rattle.level_spec.specs.Policies.{PassesIn, PassesAt}
use Rattle.policy_review.specs.Levels.{greatest, least_level_in, least_level_of, HasLeastLevel}
use Rattle.policy_review.specs.Laws.{LeastLevelsAreLeast}
use Rattle.plain_lemmas.proofs.Booleans.{and_false, and_parts_of, not_both}

-- the level is there, and no greater
abbrev pub at_most : ℕ → Option ℕ → Bool
at_most n None = false
at_most n (Some m) = nat_le m n

both_at_most : (n j m : ℕ) → (nat_le j n && nat_le m n) ≡ nat_le (max j m) n
both_at_most n j m = here (nat_le j n) refl (nat_le m n) refl
  where
    here : (b : Bool) → nat_le j n ≡ b → (c : Bool) → nat_le m n ≡ c → (b && c) ≡ nat_le (max j m) n
    here true i true j = search (arith)
    here true i false j = search (arith)
    here false i c j = search (arith)

greater_at_most : (n : ℕ) (o p : Option ℕ) → (at_most n o && at_most n p) ≡ at_most n (greater o p)
greater_at_most n None p = refl
greater_at_most n (Some j) None = and_false (nat_le j n)
greater_at_most n (Some j) (Some m) = both_at_most n j m

-- what passes at a level has no greater least level
pub all_at_most : (n : ℕ) (os : List (Option ℕ)) → list_all (is_below n) os ≡ at_most n (least os)
all_at_most n [] = search (arith)
all_at_most n (None ∷ os) = refl
all_at_most n (Some k ∷ os) = (λ i. below_at_most i && all_at_most n os i) ∙ greater_at_most n (Some (k + 1)) (least os)
  where
    below_at_most : nat_lt k n ≡ nat_le (k + 1) n
    below_at_most = search (arith)

module _ (schema : SchemaData) (e : Plain) (n : ℕ) where
  passes_in : (env : EnvData) (o : Option Typing) → at_most n (option_map_or (λ x. least_level (action_in env) x.tree) o (Some 0)) ≡ true → IfSome o (λ x. passes (action_in env) n x.tree ≡ true)
  passes_in env None h = tt
  passes_in env (Some x) h = all_at_most n (dereferences (action_in env) x.tree) ∙ h

  in_passes : (env : EnvData) (o : Option Typing) → IfSome o (λ x. passes (action_in env) n x.tree ≡ true) → at_most n (option_map_or (λ x. least_level (action_in env) x.tree) o (Some 0)) ≡ true
  in_passes env None h = search (arith)
  in_passes env (Some x) h = sym (all_at_most n (dereferences (action_in env) x.tree)) ∙ h

  passes_all : (envs : List EnvData) → at_most n (greatest (map (least_level_in schema e) envs)) ≡ true → AllByRecursion (PassesIn schema n e) envs
  passes_all [] h = tt
  passes_all (env ∷ envs) h =
      let both = and_parts_of (at_most n (least_level_in schema e env)) (at_most n (greatest (map (least_level_in schema e) envs))) (greater_at_most n (least_level_in schema e env) (greatest (map (least_level_in schema e) envs)) ∙ h) in
      (passes_in env (types schema env [] e) both.0, passes_all envs both.1)

  all_passes : (envs : List EnvData) → AllByRecursion (PassesIn schema n e) envs → at_most n (greatest (map (least_level_in schema e) envs)) ≡ true
  all_passes [] h = search (arith)
  all_passes (env ∷ envs) h =
      sym (greater_at_most n (least_level_in schema e env) (greatest (map (least_level_in schema e) envs)))
      ∙ (λ i. in_passes env (types schema env [] e) h.0 i && all_passes envs h.1 i)

pub least_least : LeastLevelsAreLeast
least_least schema t = here (least_level_of schema t) (λ n. passes_all schema (condition_of t) n (linked_envs schema t)) (λ n. all_passes schema (condition_of t) n (linked_envs schema t))
  where
    here : (o : Option ℕ) → ((n : ℕ) → at_most n o ≡ true → PassesAt schema n t) → ((n : ℕ) → PassesAt schema n t → at_most n o ≡ true) →
        MatchOption o ((n : ℕ) → PassesAt schema n t → ⊥) (λ m. PassesAt schema m t × ((n : ℕ) → n < m → PassesAt schema n t → ⊥))
    here None f g = λ n p. absurd (cc (g n p))
    here (Some m) f g = (f m itself, λ n l p. not_both (nat_le m n) (g n p) (below n l))
      where
        itself : nat_le m m ≡ true
        itself = search (arith)

        below : (n : ℕ) → n < m → nat_le m n ≡ false
        below n l = search (arith)

pub each_least : LeastLevelsAreLeast → (schema : SchemaData) (ts : List TemplateData) → AllByRecursion (HasLeastLevel schema) ts
each_least least schema [] = tt
each_least least schema (t ∷ ts) = (least schema t, each_least least schema ts)
