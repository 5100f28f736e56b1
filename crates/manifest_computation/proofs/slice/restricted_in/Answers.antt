use Rattle.std.proofs.Common.{◌≡◌, subst}
use Rattle.std.specs.Prelude.{IfOk, IfSome}
use Rattle.reads_spec.specs.Cover.{restricted}
use Rattle.reads_spec.specs.Reads.{declared_reads, declared_demands}
use Rattle.schema_core.specs.RequestEnvs.{env_data_of}
use Rattle.entity_loading.proofs.LeastSteps.{declared_trie}
use Rattle.policy_validate.specs.Found.{found_conditions}
use Rattle.manifest_computation.specs.Gathered.{IsTrieLeft}
use Rattle.manifest_computation.proofs.slice.restricted_in.Goals as goal

pub returns-in-Some : goal.returns-in-Some
returns-in-Some c =
    let schema = c.args.schema.now in
    let env = env_data_of c.args.env.now in
    let ps = c.args.policies.now.policies in
    let found = found_conditions schema env ps in
    let left : IsTrieLeft schema env ps c.in-Some.trie = subst (λ o. IfSome o (IsTrieLeft schema env ps)) c.in-Some.is c.in_ok-trie.ensures.trie in
    subst (λ ts. IfOk c.restricted_store.result (λ s. s ≡ restricted schema env ts c.args.request.now c.args.entities.now)) c.found_in_environment.ensures.same
    (c.restricted_store.ensures.restricted (declared_reads schema env found) (declared_demands schema env found) (declared_trie schema env found c.in-Some.trie left.trie))

pub returns-in-None : goal.returns-in-None
returns-in-None c = absurd (c.in_ok-trie.ensures.missing c.in-None.is c.found_in_environment.ensures.left)
