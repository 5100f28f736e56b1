use Rattle.std.proofs.Common.{arith, ap, length, map, subst}
use Rattle.std.proofs.lemmas.List.{length-map}
use Rattle.std.specs.List.{AllZip}
use Rattle.std.specs.Map.Iter.{deref}
use Rattle.std.specs.declared.vec.Vec.{Vec}
use Rattle.std.specs.declared.alloc.Global.{Global}
use Rattle.access_tries.specs.Table.{Table}
use Rattle.schema_core.specs.EnvData.{unlinked_envs}
use Rattle.schema_core.specs.RequestEnvs.{env_data_of}
use Rattle.live_manifest.specs.Unions.{IsTrieOfPolicies}
use Rattle.live_manifest.proofs.Remaining.{all_done, one_united}
use Rattle.live_manifest.proofs.rest.all_united.Goals as goal

pub loop-number-preserved : goal.loop-number-preserved
loop-number-preserved c = λ ps have.
    one_united c.args.schema.now c.loop-number.number ps (map (deref {X = Vec Table Global}) c.args.tries.now) c.loop-number.united.items _ c.in_ok-union_at.field-0
    (omega (arith, c.loop-number-test.true, c.len-number-end.ensures, ap length c.in_ok-envs.ensures, length-map c.in_ok-envs.envs.items env_data_of))
    have c.in_ok-union_at.ensures (c.loop-number.invariant ps have) c.in_ok-push.ensures.items

pub returns : goal.returns
returns c = λ ps have.
    subst (λ es. AllZip (λ env t. IsTrieOfPolicies c.args.schema.now env ps t) es c.loop-number.united.items)
    (all_done (unlinked_envs c.args.schema.now) c.loop-number.number
    (omega (arith, c.loop-number-test.false, c.len-number-end.ensures, ap length c.in_ok-envs.ensures, length-map c.in_ok-envs.envs.items env_data_of))
    (omega (arith, c.len-number-end.ensures, ap length c.in_ok-envs.ensures, length-map c.in_ok-envs.envs.items env_data_of)))
    (c.loop-number.invariant ps have)
