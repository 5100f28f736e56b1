use Rattle.std.proofs.Common.{IfSome, map, ap, ◌∙◌, subst}
use Rattle.schema_core.specs.RequestEnvs.{env_data_of}
use Rattle.manifest_computation.specs.Gathered.{IsTrieLeft}
use Rattle.manifest_computation.proofs.Entries.{declared_here, left_here, behind_here, entries_here}
use Rattle.manifest_computation.proofs.tries.tries_of.Goals as goal

pub add_trie_of-requires-clause-declared : goal.add_trie_of-requires-clause-declared
add_trie_of-requires-clause-declared c =
    declared_here c.args.schema.now c.action_ids-actions.ensures.schema c.args.policies.now.policies c.deref-env-items.result.now (ap (map env_data_of) c.deref-env-items.ensures.value ∙ c.in_ok-envs.ensures)
    c.loop-env.env-index c.env-item.result c.env-item.is c.loop-env-test.true

pub add_trie_of-requires-clause-next : goal.add_trie_of-requires-clause-next
add_trie_of-requires-clause-next c =
    behind_here c.args.schema.now c.action_ids-actions.ensures.schema c.args.policies.now.policies c.deref-env-items.result.now (ap (map env_data_of) c.deref-env-items.ensures.value ∙ c.in_ok-envs.ensures)
    c.loop-env.env-index c.env-item.result c.env-item.is c.loop-env-test.true c.loop-env.tries.entries c.loop-env.invariant

pub returns-in-None-clause-missing : goal.returns-in-None-clause-missing
returns-in-None-clause-missing c = λ none left.
    c.in_ok-trie.ensures.missing c.in-None.is
    (left_here c.args.schema.now c.action_ids-actions.ensures.schema c.args.policies.now.policies c.deref-env-items.result.now (ap (map env_data_of) c.deref-env-items.ensures.value ∙ c.in_ok-envs.ensures)
    c.loop-env.env-index c.env-item.result c.env-item.is c.loop-env-test.true left)

pub loop-env-preserved : goal.loop-env-preserved
loop-env-preserved c =
    let schema = c.args.schema.now in
    let ps = c.args.policies.now.policies in
    let env = env_data_of c.env-item.result in
    let left : IsTrieLeft schema env ps c.in-Some.trie = subst (λ o. IfSome o (IsTrieLeft schema env ps)) c.in-Some.is c.in_ok-trie.ensures.trie in
    let added = c.in_ok-add_trie_of-in-Some.ensures in
    entries_here schema c.action_ids-actions.ensures.schema ps c.deref-env-items.result.now (ap (map env_data_of) c.deref-env-items.ensures.value ∙ c.in_ok-envs.ensures)
    c.loop-env.env-index c.env-item.result c.env-item.is c.loop-env-test.true c.loop-env.tries.entries _ (added.0, c.in-Some.trie) c.loop-env.invariant added.1.0
    (record { request_type = added.1.1; trie = left.trie; table = c.nodes-nodes.ensures.table }) left.left
