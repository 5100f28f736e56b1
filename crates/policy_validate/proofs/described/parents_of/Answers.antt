use Rattle.std.proofs.Common.{◌≡◌, ◌∙◌, map}
use Rattle.std.specs.Cmp.Lexicographic.{nat_list_cmp_total}
use Rattle.std.proofs.lemmas.List.{take_all}
use Rattle.std.proofs.lemmas.Map.Lookups.{exact_bytes}
use Rattle.schema_core.specs.Schema.{TypeData, type_below}
use Rattle.policy_validate.proofs.Found.{below_answer}
use Rattle.policy_validate.proofs.Kept.{HasKept, kept_more, kept_left, kept_is}
use Rattle.policy_validate.proofs.described.parents_of.Goals as goal
use Rattle.policy_validate.proofs.described.parents_of.Goals.{then-has_descendant+in_ok-try_clone+in_ok-insert, else-has_descendant}

pub loop-above-preserved : goal.loop-above-preserved
loop-above-preserved c =
    let s = c.args.schema.now in
    let n = c.args.name.now in
    let x = c.above-item.result in
    let answer : type_below s n x.name ≡ c.has_descendant.result = below_answer s n x.name c.has_descendant.result (rw c.name.ensures at c.has_descendant.ensures) in
    elim c.if-has_descendant.branch [
      | then-has_descendant+in_ok-try_clone+in_ok-insert w ↦
          let same = w.in_ok-try_clone.ensures ∙ w.name-then-has_descendant.ensures in
          rw w.parents-is (kept_more nat_list_cmp_total exact_bytes (type_below s n) (λ (t : TypeData). t.name) c.args.types.now c.loop-above.above-index x c.loop-above.parents.keys w.insert.new.self.keys c.loop-above-test.true c.above-item.is c.loop-above.invariant (answer ∙ w.if-has_descendant.true) w.in_ok-insert.ensures.ordered (λ q. rw same at (w.in_ok-insert.ensures.updates.0 q)))
      | else-has_descendant w ↦
          rw w.parents-is (kept_left nat_list_cmp_total exact_bytes (type_below s n) (λ (t : TypeData). t.name) c.args.types.now c.loop-above.above-index x c.loop-above.parents.keys c.loop-above-test.true c.above-item.is c.loop-above.invariant (answer ∙ w.if-has_descendant.false))
    ]

pub returns : goal.returns
returns c =
    let s = c.args.schema.now in
    let names = map (λ (t : TypeData). t.name) s.entity_types in
    let whole : HasKept nat_list_cmp_total exact_bytes (type_below s c.args.name.now) names c.loop-above.parents.keys = rw (take_all c.loop-above.above-index c.args.types.now c.loop-above-test.false, c.requires.types) at c.loop-above.invariant in
    kept_is nat_list_cmp_total exact_bytes (type_below s c.args.name.now) names c.loop-above.parents.keys c.requires.schema.types_ascend whole.ordered whole.keys
