use Rattle.std.proofs.Common.{◌≡◌, ◌+◌, ◌-◌, ◌≤◌, ℕ, [], length}
use Rattle.std.specs.BTreeMap.{get}
use Rattle.std.specs.Prelude.{Some}
use Rattle.policy_values.specs.Uid.{uid_cmp}
use Rattle.entity_store.specs.Store.{Store}
use Rattle.entity_store.specs.declared.request.Request.{Request}
use Rattle.entity_loading.specs.Begun.{PathsWithin}
use Rattle.entity_loader.specs.State.{Continues}
use Rattle.entity_loading.specs.Answering.{AreUnderIds}
use Rattle.entity_loading.specs.KeptPart.{IsState, IsBegun}
use Rattle.entity_loading.specs.Unasked.{DemandNothing}
use Rattle.entity_loading.proofs.RoundSteps.{AreDeep}
use Rattle.entity_loading.proofs.rounds.load_rounds.Given as goal

-- as many rounds were made as steps were taken
abbrev pub invariant-rounds : goal.invariant-rounds
invariant-rounds g l = record {
  goes_on : Continues (g.D.EntityLoader.state l.fn.loader) (g.D.EntityLoader.state l.loader);
  rounds : (g.D.EntityLoader.state l.loader).rounds ≤ (g.D.EntityLoader.state l.fn.loader).rounds + (l.steps - l.fn.steps);
  lists : (g.D.EntityLoader.state l.loader).lists ≡ (g.D.EntityLoader.state l.fn.loader).lists;
  steps : l.fn.steps ≤ l.steps;
  ids : AreUnderIds l.kept;
  deep : AreDeep l.nodes (l.steps - l.fn.steps) l.pending.keys;
  within : (n : ℕ) → PathsWithin l.nodes n → l.steps ≤ l.fn.steps + (n + 1);
  honest : (s : Store) → (g.D.EntityLoader.state l.fn.loader).store ≡ Some s → (q : Request) → IsBegun l.nodes q s l.fn.start.keys → IsState (g.D.EntityLoader.state l.fn.loader).exact l.nodes q s l.asked.keys l.pending.keys (get uid_cmp l.kept);
  begun : l.fn.start.keys ≡ [] → (l.pending.keys ≡ []) × (l.asked.keys ≡ []) × (l.steps ≡ l.fn.steps) × (g.D.EntityLoader.state l.loader ≡ g.D.EntityLoader.state l.fn.loader);
  quiet : DemandNothing l.nodes l.fn.start.keys → DemandNothing l.nodes l.asked.keys × DemandNothing l.nodes l.pending.keys;
}

abbrev pub decreases-rounds : goal.decreases-rounds
decreases-rounds g l = length l.nodes - (l.steps - l.fn.steps)
