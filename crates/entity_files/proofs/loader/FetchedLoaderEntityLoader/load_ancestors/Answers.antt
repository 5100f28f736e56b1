use Rattle.std.proofs.Common.{◌∙◌, Some, ap, sym}
use Rattle.std.specs.List.{list_all}
use Rattle.sqlite.specs.Held.{state}
use Rattle.entity_files.specs.Fetched.{is_whole}
use Rattle.entity_files.specs.Rows.{known_store}
use Rattle.entity_files.proofs.Honest.{lists_if}
use Rattle.entity_files.proofs.loader.FetchedLoaderEntityLoader.load_ancestors.Goals as goal

pub returns-then-are_known-clause-honest : goal.returns-then-are_known-clause-honest
returns-then-are_known-clause-honest g c w told =
    lists_if (known_store (state g.S.Store c.args.self.now.database.now)) c.args.self.now.entities.now w c.args.self.now.seen.now c.args.self.now.known told c.args.requests.now.items
    (ap (list_all (λ r. is_whole c.args.self.now.seen.now c.args.self.now.entities.now r.entity_id)) (sym c.deref.ensures.value) ∙ sym c.are_known.ensures ∙ c.if-are_known.true)
    c.load_ancestors.result (c.load_ancestors.ensures.honest c.args.self.now.entities.now (ap Some c.new-slicer.ensures.entities))
