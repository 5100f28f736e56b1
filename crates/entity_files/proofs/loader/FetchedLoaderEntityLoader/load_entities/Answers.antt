use Rattle.std.proofs.Common.{◌∙◌, Some, ap, sym}
use Rattle.std.specs.BTreeSet.{contains}
use Rattle.std.specs.List.{list_all}
use Rattle.policy_values.specs.Uid.{uid_cmp}
use Rattle.sqlite.specs.Held.{state}
use Rattle.entity_files.specs.Rows.{known_store}
use Rattle.entity_files.proofs.Honest.{honest_if}
use Rattle.entity_files.proofs.loader.FetchedLoaderEntityLoader.load_entities.Goals as goal

pub returns-then-are_seen-clause-honest : goal.returns-then-are_seen-clause-honest
returns-then-are_seen-clause-honest g c w told =
    honest_if (known_store (state g.S.Store c.args.self.now.database.now)) c.args.self.now.entities.now w c.args.self.now.seen.now c.args.self.now.known told c.args.requests.now.items
    (ap (list_all (λ r. contains uid_cmp c.args.self.now.seen.now r.entity_id)) (sym c.deref.ensures.value) ∙ sym c.are_seen.ensures ∙ c.if-are_seen.true) c.load_entities.result
    (c.load_entities.ensures.honest c.args.self.now.entities.now (ap Some c.new-slicer.ensures.entities))
