use Rattle.std.proofs.Common.{map, filter}
use Rattle.std.proofs.lemmas.Result.{IfOk-weaker}
use Rattle.access_tries.specs.Paths.{IsLeast}
use Rattle.schema_core.specs.RequestEnvs.{env_data_of}
use Rattle.reads_spec.specs.PathTypes.{declared_part}
use Rattle.reads_spec.specs.Reads.{are_declared, declared_reads, declared_demands}
use Rattle.path_analysis.proofs.ConditionSteps.{reads_next, demands_next, least_once}
use Rattle.path_analysis.proofs.conditions.conditions_trie.Goals as goal

pub loop-condition-preserved : goal.loop-condition-preserved
loop-condition-preserved c =
    let s = c.args.schema.now in
    let e = env_data_of c.args.env.now in
    let found = c.in_ok-add_condition.ensures in
    record {
      reads = reads_next s e c.args.conditions.now c.loop-condition.condition-index _ c.condition-item.is c.loop-condition-test.true _ c.loop-condition.reads.keys _ c.loop-condition.invariant.reads found.reads;
      demands = demands_next s e c.args.conditions.now c.loop-condition.condition-index _ c.condition-item.is c.loop-condition-test.true c.loop-condition.demands.keys _ found.demands _ c.loop-condition.invariant.demands;
    }

pub returns : goal.returns
returns c =
    let s = c.args.schema.now in
    let e = env_data_of c.args.env.now in
    let ps = c.loop-condition.reads.keys in
    let ds = c.loop-condition.demands.keys in
    let found = c.loop-condition.invariant in
    IfOk-weaker c.declared_trie.result (IsLeast (map (declared_part s e) ps) (filter (are_declared s e) ds)) (IsLeast (declared_reads s e c.args.conditions.now) (declared_demands s e c.args.conditions.now))
    (least_once s e c.args.conditions.now ps ds c.loop-condition.condition-index c.loop-condition-test.false found.reads found.demands) c.declared_trie.ensures
