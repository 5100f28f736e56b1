-- Steps through the environments of a policy, and through the policies of a set.
use Rattle.std.proofs.Common.{◌≡◌, ℕ, Bool, true, false, ◌&&◌, List, [], ◌∷◌, ◌++◌, map, fold, append-nil, append_assoc, Option, Some, None, Result, Ok, Err, IfOk, sym, ap, ◌∙◌}
use Rattle.std.specs.Bool.{OnTrue}
use Rattle.std.specs.Option.{option_to_list}
use Rattle.std.specs.List.{list_all, filter, filter_map, cons_option, flat_map}
use Rattle.schema_core.specs.EnvData.{EnvData, unlinked_envs}
use Rattle.schema_core.specs.Schema.{SchemaData}
use Rattle.policy_set.specs.Data.{PolicyData}
use Rattle.policy_set.specs.Condition.{written_of}
use Rattle.policy_set.specs.PolicySet.{PolicySetData, is_static, statics}
use Rattle.typecheck_rules.specs.Check.{checked}
use Rattle.level_spec.specs.Levels.{greater}
use Rattle.policy_typecheck.specs.Policies.{passes}
use Rattle.policy_typecheck.specs.Verdict.{verdict_of}
use Rattle.policy_typecheck.specs.declared.verdict.Verdict.{Verdict}
use Rattle.policy_review.specs.Levels.{greatest}
use Rattle.policy_review.specs.Matrix.{row_at, row_of, rows_of}
use Rattle.policy_review.specs.Found.{level_found_in, with_level, with_static, passes_everywhere}
use Rattle.policy_review.specs.declared.rows.ReviewRow.{ReviewRow}
use Rattle.policy_review.proofs.Raising.{greater_zero, greater_assoc}
use Rattle.policy_review.proofs.Placing.{static_next}

-- one row more, where there is one
row_added : {X : Type 0} (o : Option X) (xs ys : List X) → (xs ++ option_to_list o) ++ ys ≡ xs ++ cons_option o ys
row_added None xs ys = append_assoc xs [] ys
row_added (Some x) xs ys = append_assoc xs (x ∷ []) ys

pub anyway : {P : Type 0} → P → (b : Bool) → OnTrue b P
anyway p true = p
anyway p false = tt

pub whatever : {A E : Type 0} (P : A → Type 0) → ((x : A) → P x) → (r : Result A E) → IfOk r P
whatever P f (Ok x) = f x
whatever P f (Err e) = tt

-- ---- of a policy: what is there already, and what the environments that are left add

module _ (schema : SchemaData) (p : PolicyData) where
  abbrev passes_in : EnvData → Bool
  passes_in env = passes (checked schema env p.condition)

  abbrev levels_in : List EnvData → Option ℕ
  levels_in envs = greatest (map (level_found_in schema p.condition) envs)

  pub record IsGoingOn (before : List ReviewRow) (first : Option ℕ) (matrix : List ReviewRow) (level : Option ℕ) (left : List EnvData) : Type 0 where
    pub passes : list_all passes_in left ≡ passes_everywhere schema p
    pub rows : matrix ++ filter_map (row_of schema p) left ≡ before ++ rows_of schema p
    pub least : greater level (levels_in left) ≡ greater first (levels_in (unlinked_envs schema))

  pub begun : (before : List ReviewRow) (first : Option ℕ) (left : List EnvData) → left ≡ unlinked_envs schema → IsGoingOn before first before first left
  begun before first left all = record {
    passes = ap (list_all passes_in) all;
    rows = ap (λ envs. before ++ filter_map (row_of schema p) envs) all;
    least = ap (λ envs. greater first (levels_in envs)) all;
  }

  module _ (before : List ReviewRow) (first : Option ℕ) (matrix : List ReviewRow) (level : Option ℕ) where
    pub gone_on : (left rest : List EnvData) (env : EnvData) → left ≡ env ∷ rest → IsGoingOn before first matrix level left → passes_in env ≡ true →
        (v : Verdict) → v ≡ verdict_of schema p.condition env → (more : List ReviewRow) → more ≡ matrix ++ option_to_list (row_at p.id env v) →
        (higher : Option ℕ) → higher ≡ greater level (level_found_in schema p.condition env) → IsGoingOn before first more higher rest
    gone_on left rest env is on pass v says more added higher raised = record {
      passes = ap (λ b. b && list_all passes_in rest) (sym pass) ∙ ap (list_all passes_in) (sym is) ∙ on.passes;
      rows =
          ap (λ rs. rs ++ filter_map (row_of schema p) rest) (added ∙ ap (λ w. matrix ++ option_to_list (row_at p.id env w)) says)
          ∙ row_added (row_of schema p env) matrix (filter_map (row_of schema p) rest) ∙ ap (λ envs. matrix ++ filter_map (row_of schema p) envs) (sym is) ∙ on.rows;
      least =
          ap (λ l. greater l (levels_in rest)) raised ∙ greater_assoc level (level_found_in schema p.condition env) (levels_in rest)
          ∙ ap (λ envs. greater level (levels_in envs)) (sym is) ∙ on.least;
    }

    pub stopped : (left rest : List EnvData) (env : EnvData) → left ≡ env ∷ rest → IsGoingOn before first matrix level left → passes_in env ≡ false → false ≡ passes_everywhere schema p
    stopped left rest env is on fails = ap (λ b. b && list_all passes_in rest) (sym fails) ∙ ap (list_all passes_in) (sym is) ∙ on.passes

    pub all_passed : (left : List EnvData) → left ≡ [] → IsGoingOn before first matrix level left → true ≡ passes_everywhere schema p
    all_passed left none on = ap (list_all passes_in) (sym none) ∙ on.passes

    pub all_rows : (left : List EnvData) → left ≡ [] → IsGoingOn before first matrix level left → matrix ≡ before ++ rows_of schema p
    all_rows left none on = sym (append-nil matrix) ∙ ap (λ envs. matrix ++ filter_map (row_of schema p) envs) (sym none) ∙ on.rows

    pub whole_level : (left : List EnvData) → left ≡ [] → IsGoingOn before first matrix level left → level ≡ greater first (levels_in (unlinked_envs schema))
    whole_level left none on = sym (greater_zero level) ∙ ap (λ envs. greater level (levels_in envs)) (sym none) ∙ on.least

-- ---- of a set

module _ (schema : SchemaData) (s : PolicySetData) where
  abbrev Entries : Type 0
  Entries = List (List ℕ × Option ℕ)

  pub record IsGoingOver (before : List ReviewRow) (first : Entries) (matrix : List ReviewRow) (levels : Entries) (left : List PolicyData) : Type 0 where
    pub passes : list_all (passes_everywhere schema) left ≡ list_all (passes_everywhere schema) s.policies
    pub rows : matrix ++ flat_map (rows_of schema) left ≡ before ++ flat_map (rows_of schema) s.policies
    pub entries : fold (with_level schema) levels (map written_of (filter is_static left)) ≡ fold (with_level schema) first (statics s)

  module _ (before : List ReviewRow) (first : Entries) (matrix : List ReviewRow) (levels : Entries) where
    pub gone_over : (left rest : List PolicyData) (p : PolicyData) → left ≡ p ∷ rest → IsGoingOver before first matrix levels left → passes_everywhere schema p ≡ true →
        (more : List ReviewRow) → more ≡ matrix ++ rows_of schema p → (higher : Entries) → higher ≡ with_static schema levels p → IsGoingOver before first more higher rest
    gone_over left rest p is on pass more added higher put = record {
      passes = ap (λ b. b && list_all (passes_everywhere schema) rest) (sym pass) ∙ ap (list_all (passes_everywhere schema)) (sym is) ∙ on.passes;
      rows =
          ap (λ rs. rs ++ flat_map (rows_of schema) rest) added ∙ append_assoc matrix (rows_of schema p) (flat_map (rows_of schema) rest)
          ∙ ap (λ ps. matrix ++ flat_map (rows_of schema) ps) (sym is) ∙ on.rows;
      entries =
          ap (λ es. fold (with_level schema) es (map written_of (filter is_static rest))) put ∙ static_next schema levels p rest
          ∙ ap (λ ps. fold (with_level schema) levels (map written_of (filter is_static ps))) (sym is) ∙ on.entries;
    }

    pub stopped_at : (left rest : List PolicyData) (p : PolicyData) → left ≡ p ∷ rest → IsGoingOver before first matrix levels left → passes_everywhere schema p ≡ false →
        false ≡ list_all (passes_everywhere schema) s.policies
    stopped_at left rest p is on fails = ap (λ b. b && list_all (passes_everywhere schema) rest) (sym fails) ∙ ap (list_all (passes_everywhere schema)) (sym is) ∙ on.passes

    pub each_passed : (left : List PolicyData) → left ≡ [] → IsGoingOver before first matrix levels left → true ≡ list_all (passes_everywhere schema) s.policies
    each_passed left none on = ap (list_all (passes_everywhere schema)) (sym none) ∙ on.passes

    pub each_row : (left : List PolicyData) → left ≡ [] → IsGoingOver before first matrix levels left → matrix ≡ before ++ flat_map (rows_of schema) s.policies
    each_row left none on = sym (append-nil matrix) ∙ ap (λ ps. matrix ++ flat_map (rows_of schema) ps) (sym none) ∙ on.rows

    pub each_level : (left : List PolicyData) → left ≡ [] → IsGoingOver before first matrix levels left → levels ≡ fold (with_level schema) first (statics s)
    each_level left none on = ap (λ ps. fold (with_level schema) levels (map written_of (filter is_static ps))) (sym none) ∙ on.entries
