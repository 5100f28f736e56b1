use Rattle.std.proofs.Common.{◌≡◌, ◌≢◌, ◌==◌, [], length, refl, arith, ap, inl}
use Rattle.std.proofs.lemmas.Bool.Decides.{nat_tests}
use Rattle.policy_values.proofs.NamePrefix.{name_prefix, name_from_prefix, name_step, name_stops, no_length}
use Rattle.policy_values.proofs.parse.is_name.Goals as goal

pub returns-then-not-is_component : goal.returns-then-not-is_component
returns-then-not-is_component c =
    (λ e. cc, λ n. c.if-not-is_component.ensures.1 (name_prefix _ _ _ c.split_word.ensures (c.words.invariant.0 n)).0)

pub returns-then-is_empty : goal.returns-then-is_empty
returns-then-is_empty c =
    let left = c.split_word.result.1.now in
    let none : length left ≡ 0 = grind (arith, nat_tests) in
    (λ e. c.words.invariant.1 (name_from_prefix _ _ _ c.split_word.ensures (c.if-not-is_component.ensures.0 e) (inl (no_length left none))), λ n. refl)

pub returns-in-None : goal.returns-in-None
returns-in-None c =
    let left = c.split_word.result.1.now in
    let some : left ≢ [] = λ e. cc (c.if-is_empty.ensures, ap (λ l. length l == 0) e) in
    (λ e. cc, λ n. absurd (name_stops _ _ _ c.split_word.ensures some c.in-None.ensures (c.words.invariant.0 n)))

pub words-preserved : goal.words-preserved
words-preserved c =
    let step = name_step c.words.rest.now _ _ c.in-Some.next.now c.split_word.ensures (c.if-not-is_component.ensures.0 refl) c.in-Some.ensures in
    (λ n. step.0 (c.words.invariant.0 n), λ n. c.words.invariant.1 (step.1 n))
