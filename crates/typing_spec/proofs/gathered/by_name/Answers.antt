use Rattle.std.proofs.Common.{◌≡◌, ◌+◌, ◌++◌, ◌∷◌, [], take, refl, sym, ap, ◌∙◌, is_some}
use Rattle.std.proofs.lemmas.List.{take_more}
use Rattle.typing_spec.proofs.ByName.{gathered_none, gathered_at, repeated_at}
use Rattle.typing_spec.proofs.gathered.by_name.Goals as goal

pub loop-function-init : goal.loop-function-init
loop-function-init c = gathered_none c.new-by_name.result c.new-by_name.ensures.empty

pub returns-then-is_some-clause-repeated : goal.returns-then-is_some-clause-repeated
returns-then-is_some-clause-repeated c =
    let fs = c.args.functions.now in
    let i = c.loop-function.function-index in
    let x = c.function-item.result in
    let next : take (i + 1) fs ≡ take i fs ++ x ∷ [] = take_more fs i x c.loop-function-test.true ∙ rw (← c.function-item.is) refl in
    let same : c.in_ok-try_clone.field-0 ≡ x.now.name = c.in_ok-try_clone.ensures ∙ c.name-name.ensures in
    rw (c.in_ok-name.ensures ∙ sym c.in_ok-try_clone.ensures) (repeated_at fs i x c.loop-function.by_name c.in_ok-try_clone.field-0 next c.loop-function.invariant same (ap is_some (sym c.in_ok-insert.ensures.old) ∙ sym c.is_some.ensures ∙ c.if-is_some.true))

pub loop-function-preserved : goal.loop-function-preserved
loop-function-preserved c =
    let fs = c.args.functions.now in
    let i = c.loop-function.function-index in
    let x = c.function-item.result in
    let next : take (i + 1) fs ≡ take i fs ++ x ∷ [] = take_more fs i x c.loop-function-test.true ∙ rw (← c.function-item.is) refl in
    let same : c.in_ok-try_clone.field-0 ≡ x.now.name = c.in_ok-try_clone.ensures ∙ c.name-name.ensures in
    gathered_at fs i x c.loop-function.by_name c.insert.new.self c.in_ok-try_clone.field-0 next c.loop-function.invariant same (ap is_some (sym c.in_ok-insert.ensures.old) ∙ sym c.is_some.ensures ∙ c.if-is_some.false) c.in_ok-insert.ensures.updates.0
