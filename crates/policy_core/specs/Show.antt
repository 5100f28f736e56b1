-- How errors print.
use Rattle.std.specs.Prelude.{ℕ, List, ◌++◌, codes}
use Rattle.policy_values.specs.Show.{uid_text}
use Rattle.policy_core.specs.declared.outcome.EvalError.{EvalError}
use Rattle.policy_core.specs.declared.outcome.EvalError.TheVariants.{MissingEntity, MissingAttribute, MissingTag, TypeFault, IntegerOverflow, ExtensionOverflow, ExtensionText, UnknownFunction, Arity}

-- the message of an error of evaluation
abbrev pub error_text : EvalError → List ℕ
error_text (MissingEntity u) = codes "entity `" ++ uid_text u.entity_type u.eid ++ codes "` does not exist"
error_text MissingAttribute = codes "attribute does not exist"
error_text MissingTag = codes "tag does not exist"
error_text TypeFault = codes "operand of a wrong type"
error_text IntegerOverflow = codes "integer overflow"
error_text ExtensionOverflow = codes "datetime or duration overflow"
error_text ExtensionText = codes "text of no extension value"
error_text UnknownFunction = codes "unknown extension function"
error_text Arity = codes "wrong number of arguments"
