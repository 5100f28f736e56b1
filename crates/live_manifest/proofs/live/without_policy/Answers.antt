use Rattle.std.proofs.Common.{arith, length, map, sym, ap, ◌∙◌, subst}
use Rattle.std.proofs.lemmas.List.{length-map}
use Rattle.std.proofs.lemmas.Result.{IfOk-weaker}
use Rattle.std.specs.List.{AllZip}
use Rattle.std.specs.Map.Iter.{deref}
use Rattle.std.specs.Prelude.{filter}
use Rattle.std.specs.declared.vec.Vec.{Vec}
use Rattle.std.specs.declared.alloc.Global.{Global}
use Rattle.plain_lemmas.proofs.Lists.{zip_length}
use Rattle.access_tries.specs.Table.{Table}
use Rattle.schema_core.specs.EnvData.{unlinked_envs}
use Rattle.policy_set.specs.Removal.{is_another_policy}
use Rattle.manifest_computation.specs.Computed.{IsManifestOf}
use Rattle.live_manifest.specs.Tries.{AreTriesOf, HasTriesOf, IsBuiltOf}
use Rattle.live_manifest.specs.Unions.{IsTrieOfPolicies}
use Rattle.live_manifest.proofs.Adding.{built}
use Rattle.live_manifest.proofs.Remaining.{not_none}
use Rattle.live_manifest.proofs.live.without_policy.Goals as goal

pub returns : goal.returns
returns c =
    let schema = c.args.schema.now in
    let left = filter (is_another_policy c.args.id.now) c.args.policies.now.policies in
    let whole : AreTriesOf schema left c.in_ok-united.united.items = c.in_ok-united.ensures left (subst (λ vs. AllZip (HasTriesOf schema) left (map (deref {X = Vec Table Global}) vs)) (sym c.as_slice.ensures.value) c.in_ok-rest.ensures) in
    let long = zip_length (λ env t. IsTrieOfPolicies schema env left t) (unlinked_envs schema) c.in_ok-united.united.items whole in
    let rest = map (deref {X = Vec Table Global}) c.in_ok-rest.rest.items in
    IfOk-weaker c.manifest_of.result (IsBuiltOf schema c.in_ok-united.united.items) (IsManifestOf schema left)
    (λ m b. built schema left c.in_ok-united.united.items m
    (λ none. not_none c.in_ok-rest.rest.len c.is_empty.result c.is_empty.ensures c.if-is_empty.false
    (omega (arith, c.in_ok-rest.rest.ok, zip_length (HasTriesOf schema) left rest c.in_ok-rest.ensures, ap length none, length-map c.in_ok-rest.rest.items (deref {X = Vec Table Global}))))
    whole b)
    (c.manifest_of.ensures (sym long))
