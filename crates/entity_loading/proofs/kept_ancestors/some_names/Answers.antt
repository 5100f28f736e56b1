use Rattle.std.proofs.Common.{◌≡◌, ◌∙◌, ◌||◌, true, false, suc, drop, drop-cons, add-one, sym, ap}
use Rattle.std.specs.Prelude.{slice_index}
use Rattle.entity_loading.specs.Kept.{names, some_names}
use Rattle.entity_loading.proofs.kept_ancestors.some_names.Goals as goal

pub returns-then-names : goal.returns-then-names
returns-then-names c =
    let m = c.args.named.now in
    let is = c.args.numbers.now in
    let y = c.args.uid.now in
    let i = c.loop-number.number-index in
    let first = ap (λ js. some_names m js y) (drop-cons is i 0 c.loop-number-test.true) in
    let here : names m (slice_index is i) y ≡ true = sym c.names.ensures ∙ c.if-names.true in
    sym (ap (λ b. b || some_names m (drop (suc i) is) y) here) ∙ sym first ∙ c.loop-number.invariant

pub loop-number-preserved : goal.loop-number-preserved
loop-number-preserved c =
    let m = c.args.named.now in
    let is = c.args.numbers.now in
    let y = c.args.uid.now in
    let i = c.loop-number.number-index in
    let first = ap (λ js. some_names m js y) (drop-cons is i 0 c.loop-number-test.true) in
    let here : names m (slice_index is i) y ≡ false = sym c.names.ensures ∙ c.if-names.false in
    ap (λ j. some_names m (drop j is) y) (add-one i) ∙ sym (ap (λ b. b || some_names m (drop (suc i) is) y) here) ∙ sym first ∙ c.loop-number.invariant
