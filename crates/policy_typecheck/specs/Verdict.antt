-- Whether a policy can be true on requests of an environment, by the type of its condition.
use Rattle.std.specs.Prelude.{[]}
use Rattle.std.specs.Option.{option_map_or}
use Rattle.schema_types.specs.Ty.{Ty, false_type}
use Rattle.schema_core.specs.EnvData.{EnvData}
use Rattle.schema_core.specs.Schema.{SchemaData}
use Rattle.policy_expressions.specs.Plain.{Plain}
use Rattle.typing_spec.specs.Typing.{types}
use Rattle.policy_typecheck.specs.declared.verdict.Verdict.{Verdict}
use Rattle.policy_typecheck.specs.declared.verdict.Verdict.TheVariants.{Never, May}

-- what has the type False is never true
abbrev pub verdict_by : Ty → Verdict
verdict_by false_type = Never
verdict_by t = May

-- of a condition that is typed in the environment
abbrev pub verdict_of : SchemaData → Plain → EnvData → Verdict
verdict_of schema e env = option_map_or (λ x. verdict_by x.type) (types schema env [] e) May
