use Rattle.std.proofs.Common.{subst}
use Rattle.access_tries.specs.Paths.{IsLeast}
use Rattle.reads_spec.specs.Reads.{declared_reads, declared_demands}
use Rattle.schema_core.specs.RequestEnvs.{env_data_of}
use Rattle.manifest_computation.proofs.Additions.{added}
use Rattle.manifest_computation.proofs.gathering.add_all.Goals as goal

pub returns-clause-same : goal.returns-clause-same
returns-clause-same c =
    let schema = c.args.schema.now in
    let env = env_data_of c.args.env.now in
    added schema env c.args.conditions.now.items c.args.trie.now c.in_ok-more.more c.union_mut.new.self
    (subst (λ ts. IsLeast (declared_reads schema env ts) (declared_demands schema env ts) c.in_ok-more.more) c.as_slice.ensures.value c.in_ok-more.ensures)
    c.in_ok-union_mut.ensures.ok
