use Rattle.std.proofs.Common.{ap, ◌∙◌}
use Rattle.typing_spec.specs.Table.{functions_in, function_at, names_of, all_extensions}
use Rattle.typing_spec.specs.Refused.{IsInitializationRefused}
use Rattle.typing_spec.proofs.Table.{all_found, all_once, none_repeated}
use Rattle.typing_spec.proofs.extensions.ExtensionSchemas.all_available.Goals as goal

pub returns-in-Ok-clause-signatures : goal.returns-in-Ok-clause-signatures
returns-in-Ok-clause-signatures c = λ name. ap (λ fs. function_at fs name) (c.in-Ok.ensures.functions ∙ ap functions_in c.requires) ∙ all_found name

pub unreachable-requires : goal.unreachable-requires
unreachable-requires c =
    let refused : IsInitializationRefused (names_of (functions_in c.args.objects.now)) c.in-Err-FuncMultiplyDefined.field-0 = c.in-Err-FuncMultiplyDefined.ensures.repeated in
    none_repeated (names_of (functions_in all_extensions)) c.in-Err-FuncMultiplyDefined.field-0-0.name all_once (rw (c.in-Err-FuncMultiplyDefined.field-0-is, c.requires) at refused)
