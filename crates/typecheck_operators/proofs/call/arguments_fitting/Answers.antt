use Rattle.std.proofs.Common.{◌≡◌, [], ◌∷◌, ◌++◌, ◌∙◌, ap, arith, drop, length, subst, sym, vec_len}
use Rattle.std.specs.List.{slice_get}
use Rattle.std.specs.Vec.Iter.{into_iter_items}
use Rattle.std.proofs.lemmas.List.{map-append, append-nil}
use Rattle.policy_expressions.specs.Tree.{trees_of}
use Rattle.typecheck_rules.specs.Operators.{arguments_fitting}
use Rattle.typecheck_operators.specs.Parts.{argument_walked}
use Rattle.typecheck_operators.specs.Reported.{walked_of, all_of}
use Rattle.typecheck_operators.proofs.Arguments.{none_left, nothing_fits}
use Rattle.typecheck_operators.proofs.PartLaws.{arguments_more}
use Rattle.typecheck_operators.proofs.call.arguments_fitting.Goals as goal

pub loop-w-preserved : goal.loop-w-preserved
loop-w-preserved c =
    let i = vec_len c.loop-w.fitted in
    let ts = c.args.types.now in
    let xs = c.args.xs.now.items in
    let done = all_of c.loop-w.fitted.items in
    let w = walked_of c.in-Some.w in
    let rest = all_of (into_iter_items c.next.new.self) in
    let is = c.in-Some.ensures.steps.0 in
    let walked = c.in_ok-w.ensures ∙ (λ j. argument_walked ((c.type_at.ensures ∙ ap (λ n. slice_get ts n) c.len-i.ensures) j) ((c.argument_at.ensures ∙ ap (λ n. slice_get xs n) c.len-i.ensures) j) w) in
    let pushed = ap all_of c.in_ok-push.ensures.items ∙ map-append walked_of c.loop-w.fitted.items (c.in_ok-w.w ∷ []) ∙ ap (λ v. done ++ v ∷ []) walked in
    let before = ap (λ vs. done ++ arguments_fitting (drop i ts) (trees_of (drop i xs)) (all_of vs)) (sym is) ∙ c.loop-w.invariant.all in
    record {
      all = subst (λ n. all_of c.push.new.self.items ++ arguments_fitting (drop n ts) (trees_of (drop n xs)) rest ≡ arguments_fitting ts (trees_of xs) (all_of c.args.ws.items))
          (sym c.in_ok-push.ensures.len)
          (arguments_more done _ _ i ts xs w rest pushed before);
      len = omega (arith, c.loop-w.invariant.len, ap length is, c.in-Some.ensures.steps.1);
    }

pub returns : goal.returns
returns c =
    let i = vec_len c.loop-w.fitted in
    let ts = drop i c.args.types.now in
    let xs = trees_of (drop i c.args.xs.now.items) in
    let done = all_of c.loop-w.fitted.items in
    let left = none_left (into_iter_items c.loop-w.w-iterator) (omega (arith, c.loop-w.invariant.len, c.in-None.ensures.steps.0)) in
    sym (append-nil done) ∙ ap (λ vs. done ++ vs) (sym (nothing_fits ts xs)) ∙ ap (λ vs. done ++ arguments_fitting ts xs (all_of vs)) (sym left) ∙ c.loop-w.invariant.all
