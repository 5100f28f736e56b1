use Rattle.entity_manifest.proofs.Loaded.{refused}
use Rattle.entity_manifest.proofs.loading_laws.refusals_are_faults.Goals as goal

pub returns : goal.returns
returns c = refused c.computed_manifests_fit.ensures
