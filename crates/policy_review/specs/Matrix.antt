-- Whether policies can be true on requests of the types of a schema.
use Rattle.std.specs.Prelude.{ℕ, List, Option, option_map, flat_map}
use Rattle.std.specs.List.{filter_map}
use Rattle.schema_core.specs.EnvData.{EnvData, request_type_in, unlinked_envs}
use Rattle.schema_core.specs.Schema.{SchemaData}
use Rattle.policy_set.specs.Data.{PolicyData}
use Rattle.policy_set.specs.PolicySet.{PolicySetData}
use Rattle.policy_typecheck.specs.Verdict.{verdict_of}
use Rattle.policy_typecheck.specs.declared.verdict.Verdict.{Verdict}
use Rattle.policy_review.specs.declared.rows.ReviewRow.{ReviewRow}

-- a row on a policy in an environment
abbrev pub row_at : List ℕ → EnvData → Verdict → Option ReviewRow
row_at id env v =
    option_map (λ t. record { policy_id = id; request_type = t; verdict = v }) (request_type_in env)

module _ (schema : SchemaData) where
  -- what is said of a policy in an environment, by its own condition
  abbrev pub row_of : PolicyData → EnvData → Option ReviewRow
  row_of p env = row_at p.id env (verdict_of schema p.condition env)

  -- its rows: one for each environment of the schema, ascending
  abbrev pub rows_of : PolicyData → List ReviewRow
  rows_of p = filter_map (row_of p) (unlinked_envs schema)

  -- those of the static policies and links of a set, ascending
  abbrev pub matrix_of : PolicySetData → List ReviewRow
  matrix_of s = flat_map rows_of s.policies
