use Rattle.std.proofs.Common.{map, ◌∙◌}
use Rattle.std.proofs.lemmas.List.{length-map}
use Rattle.schema_core.specs.RequestEnvs.{env_data_of}
use Rattle.edit_service.proofs.Compared.{as_many}
use Rattle.edit_service.proofs.changes.changes_text.Goals as goal

pub edit_text-requires : goal.edit_text-requires
edit_text-requires c =
    as_many c.args.document.now.schema c.args.document.now.before.policies c.args.document.now.policies.policies (map env_data_of c.in_ok-envs.envs.items) c.in_ok-changes.changes.items c.in_ok-changes.ensures
    ∙ length-map c.in_ok-envs.envs.items env_data_of
