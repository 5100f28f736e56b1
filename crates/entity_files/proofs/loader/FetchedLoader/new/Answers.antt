use Rattle.sqlite.specs.Held.{state}
use Rattle.entity_files.proofs.Known.{all_known}
use Rattle.entity_files.proofs.loader.FetchedLoader.new.Goals as goal

pub invariant_of-result : goal.invariant_of-result
invariant_of-result g c = record {
  known = all_known (state g.S.Store c.args.database.now) c.args.fetched.now c.args.entities.now c.requires.fetched c.requires.made;
}
