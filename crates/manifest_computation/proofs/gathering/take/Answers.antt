use Rattle.std.proofs.Common.{◌++◌, ◌∷◌, ap}
use Rattle.schema_core.specs.RequestEnvs.{env_data_of}
use Rattle.manifest_computation.proofs.Additions.{and_then, both_ok, same_list, taken}
use Rattle.manifest_computation.proofs.gathering.take.Goals as goal

pub returns-then-is_enough : goal.returns-then-is_enough
returns-then-is_enough c =
    let schema = c.args.schema.now in
    let env = env_data_of c.args.env.now in
    let t = c.args.trie.now in
    let u = c.add_all.new.trie in
    let old = c.args.conditions.now.items in
    let pushed = c.push.new.self.items in
    let left = c.add_all.new.conditions.items in
    both_ok _ _ _
    (λ none same ts.
    and_then schema env u u t (left ++ ts) ts (old ++ c.args.condition ∷ ts) (same_list schema env u (left ++ ts) ts (ap (λ l. l ++ ts) none))
    (and_then schema env u t t ts (pushed ++ ts) (old ++ c.args.condition ∷ ts) (same ts) (taken schema env c.args.condition old pushed c.in_ok-push.ensures.items t ts)))
    c.add_all.result c.add_all.ensures.none c.add_all.ensures.same
