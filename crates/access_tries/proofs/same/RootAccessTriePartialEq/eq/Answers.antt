use Rattle.access_tries.specs.Same.{same_roots}
use Rattle.access_tries.specs.Trees.{branches_of}
use Rattle.access_tries.specs.SameLaws.{says, branches_decide}
use Rattle.access_tries.proofs.same.RootAccessTriePartialEq.eq.Goals as goal

pub returns-clause-trees : goal.returns-clause-trees
returns-clause-trees c =
    says c.leads_alike.result (same_roots c.args.self.now c.args.other.now) (rw (c.nodes.ensures.nodes, c.nodes-2.ensures.nodes) at c.leads_alike.ensures) (branches_decide (branches_of c.args.self.now) (branches_of c.args.other.now))
