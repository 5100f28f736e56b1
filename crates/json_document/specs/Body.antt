-- The body of a policy in JSON.
use Rattle.std.specs.Prelude.{ℕ, List, [], ◌∷◌, if◌then◌else◌, Option, Some, None, option_map, option_and_then, codes}
use Rattle.std.specs.Str.{bytes_eq}
use Rattle.serde_json.specs.Data.{Data, Items, no_items, item}
use Rattle.serde_json.specs.Find.{as_object}
use Rattle.policy_expressions.specs.Tree.{conj, unary}
use Rattle.policy_expressions.specs.declared.kinds.UnaryOp.TheVariants.{Not}
use Rattle.policy_expressions.specs.Plain.{Plain, unmarked}
use Rattle.policy_set.specs.Condition.{anything}
use Rattle.json_expressions.specs.Exprs.{expr_of}
use Rattle.json_expressions.specs.declared.nesting.Bounded.{Bounded}
use Rattle.json_expressions.specs.declared.nesting.Bounded.TheVariants.{Within}
use Rattle.json_values.specs.Json.{list_of, only_member}

abbrev pub negated : Plain → Plain
negated x = unary Not x unmarked

abbrev pub conjunction : Plain → Plain → Plain
conjunction x y = conj x y unmarked

module _ {A : Type 0} (f : A → A → A) where
  -- the next behind what there is
  abbrev pub behind : Option A → A → A
  behind None y = y
  behind (Some x) y = f x y

  -- the fold from the left of what there is and those that follow; none, where there is nothing
  abbrev pub left_fold : Option A → List A → Option A
  left_fold o [] = o
  left_fold o (y ∷ ys) = left_fold (Some (behind o y)) ys

-- both, where there are both
abbrev pub with_one : Option Plain → Option (List Plain) → Option (List Plain)
with_one o os = option_and_then (λ x. option_map (λ xs. x ∷ xs) os) o

-- a condition that is to hold, or one that is not to
abbrev pub clause_form : List ℕ → Option Plain → Option Plain
clause_form key o =
    if bytes_eq key (codes "when") then o
    else (if bytes_eq key (codes "unless") then option_map negated o
    else None)

unfoldable pub clause_of : Data → Option Plain
clause_of d = option_and_then (λ m. clause_form m.0 (expr_of m.1)) (option_and_then only_member (as_object d))

abbrev pub clauses_of : Items → Option (List Plain)
clauses_of no_items = Some []
clauses_of (item d ds) = with_one (clause_of d) (clauses_of ds)

-- where there is nothing, the literal true
abbrev pub or_anything : Option Plain → Plain
or_anything None = anything
or_anything (Some x) = x

-- the clauses folded from the left by &&; an absent body has none
abbrev pub body_of : Option Data → Option Plain
body_of o =
    option_map (λ cs. or_anything (left_fold conjunction None cs)) (option_and_then clauses_of (list_of o))

-- where nothing was read, the literal true
abbrev pub or_true : Option (Bounded Plain) → Bounded Plain
or_true None = Within anything
or_true (Some r) = r
