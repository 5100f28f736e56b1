use Rattle.entity_store.specs.Store.{Store}
use Rattle.access_tries.specs.Views.{AreRoots}
use Rattle.entity_loading.specs.Names.{IsNamed}
use Rattle.entity_loading.specs.Waiting.{Gives, WaitFrom}
use Rattle.entity_loading.proofs.NameSteps.{IsNaming, RootNames}
use Rattle.entity_loading.proofs.roots.named_ids.Given as goal

abbrev pub invariant-loop-root : goal.invariant-loop-root
invariant-loop-root l = record {
  naming : (s : Store) → IsNaming (IsNamed l.trie l.request s) (RootNames l.request s l.root-iterator) (Gives s l.trie l.initial.ids l.initial.waiting) (Gives s l.trie l.ids l.waiting);
  later : WaitFrom 0 l.trie.nodes l.waiting;
  lead : AreRoots l.trie l.root-iterator;
}
