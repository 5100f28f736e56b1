use Rattle.std.proofs.Common.{◌≡◌, ◌∙◌}
use Rattle.access_tries.specs.Same.{same_tries, same_branch}
use Rattle.access_tries.specs.Trees.{branch_at}
use Rattle.access_tries.specs.SameLaws.{says, branch_decides}
use Rattle.access_tries.proofs.same.AccessTriePartialEq.eq.Goals as goal

pub returns-clause-trees : goal.returns-clause-trees
returns-clause-trees c =
    let left : c.nodes.result.now ≡ c.args.self.now = cc in
    let right : c.nodes-2.result.now ≡ c.args.other.now = cc in
    says c.same_nodes.result (same_tries c.args.self.now c.args.other.now) (c.same_nodes.ensures ∙ (λ i. same_branch (branch_at (left i) 0) (branch_at (right i) 0))) (branch_decides (branch_at c.args.self.now 0) (branch_at c.args.other.now 0))
