use Rattle.std.proofs.Common.{[], ◌∷◌, ◌++◌, ◌∙◌, ap, map, option_map, subst, sym}
use Rattle.std.specs.List.Sorted.{IsStrictlySortedBy}
use Rattle.std.specs.Map.{keys_of}
use Rattle.std.specs.Option.{option_and_then}
use Rattle.policy_values.specs.Uid.{text_cmp}
use Rattle.policy_values.specs.Maps.{IsNext}
use Rattle.policy_values.proofs.MapSteps.{next-seam}
use Rattle.typecheck_operators.specs.Parts.{fields_given}
use Rattle.typecheck_operators.specs.Reported.{field_of}
use Rattle.typecheck_operators.proofs.PartSteps.{some_step, keys_step}
use Rattle.typecheck_operators.proofs.record.fields_given.Goals as goal

pub push_entry-requires : goal.push_entry-requires
push_entry-requires c =
    let done = keys_of c.loop-key.types.entries in
    let keys = c.loop-key.invariant.keys ∙ ap (λ es. done ++ keys_of es) c.in-Some.ensures.steps in
    let next = next-seam done c.in-Some.key.now (keys_of c.next.new.self) (subst (IsStrictlySortedBy text_cmp) keys c.iter-key-items.ensures.ordered) in
    subst (λ k. IsNext k done) (sym c.in-Ok.ensures) next

pub loop-key-preserved : goal.loop-key-preserved
loop-key-preserved c =
    let done = c.loop-key.types.entries in
    let k = c.in-Some.key.now in
    let t = c.in-Some-2.t in
    let is = c.in-Some.ensures.steps in
    let rest = fields_given (map field_of c.next.new.self) in
    let pushed = c.in_ok-push_entry-in-Some-2.ensures.added ∙ ap (λ l. done ++ (l, t) ∷ []) c.in-Ok.ensures in
    let given = sym c.in_ok-t.ensures ∙ c.in-Some-2.is in
    record {
      all = some_step _ done _ (k, t) rest pushed
          (ap (λ o. option_map (λ ts. done ++ ts) (option_and_then (λ u. option_map (λ ts. (k, u) ∷ ts) rest) o)) (sym given)
          ∙ ap (λ es. option_map (λ ts. done ++ ts) (fields_given (map field_of es))) (sym is) ∙ c.loop-key.invariant.all);
      keys = keys_step _ done _ k t c.in-Some.w.now c.loop-key.key-iterator c.next.new.self is pushed c.loop-key.invariant.keys;
    }
