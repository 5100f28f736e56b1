use Rattle.std.proofs.Common.{rules, ◌≡◌, ◌<◌, true, false, length, Some, None, slice_index_or, arith, sym, subst}
use Rattle.propositions.specs.Known.{Agrees, known_of}
use Rattle.propositions.specs.declared.search.Verdict.TheVariants.{Always}
use Rattle.propositions.proofs.Right.{known_right, agrees_set, either_way, restored, second_set, none_at}
use Rattle.propositions.proofs.search.Search.+search.Goals as goal

pub holds_where_supposed-returns-in-Some-true-clause-always : goal.holds_where_supposed-returns-in-Some-true-clause-always
holds_where_supposed-returns-in-Some-true-clause-always t c e v h =
    let known : slice_index_or (known_of c.args.self.now.atoms.items c.args.circuit.now.gates.items) c.args.proposition None ≡ Some true = cc (c.in-Some-true.ensures, c.in-Some-true.field-0-test, c.in_ok-find_known.ensures, c.as_slice.ensures.value, c.as_slice-2.ensures.value) in
    known_right v c.args.self.now.atoms.items h c.args.circuit.now.gates.items c.args.proposition true known

pub holds_where_supposed-returns-in-Some-false-clause-fails : goal.holds_where_supposed-returns-in-Some-false-clause-fails
holds_where_supposed-returns-in-Some-false-clause-fails t c e v h =
    let known : slice_index_or (known_of c.args.self.now.atoms.items c.args.circuit.now.gates.items) c.args.proposition None ≡ Some false = cc (c.in-Some-false.ensures, c.in-Some-false.field-0-test, c.in_ok-find_known.ensures, c.as_slice.ensures.value, c.as_slice-2.ensures.value) in
    known_right v c.args.self.now.atoms.items h c.args.circuit.now.gates.items c.args.proposition false known

pub holds_either_way-returns-clause-kept : goal.holds_either_way-returns-clause-kept
holds_either_way-returns-clause-kept t c e =
    let low : c.in_ok-low.low ≡ Always = search rules in
    let high : c.in_ok-high.high ≡ Always = search rules in
    let none : slice_index_or c.args.self.now.atoms.items c.args.atom None ≡ None = none_at c.args.self.now.atoms.items c.args.atom c.index.result.now c.index.ensures (cc) in
    restored c.args.self.now.atoms.items c.holds_where_supposed.new.self.atoms.items c.holds_where_supposed-2.new.self.atoms.items c.args.atom none (c.in_ok-low.ensures.kept low) (c.in_ok-high.ensures.kept high)

pub holds_either_way-returns-clause-always : goal.holds_either_way-returns-clause-always
holds_either_way-returns-clause-always t c e v h =
    let low : c.in_ok-low.low ≡ Always = search rules in
    let high : c.in_ok-high.high ≡ Always = search rules in
    let within : c.args.atom < length c.args.self.now.atoms.items = omega arith in
    either_way (v c.args.atom)
    (λ fails. c.in_ok-low.ensures.always low v (agrees_set v c.args.self.now.atoms.items c.args.atom false h within fails))
    (λ is. c.in_ok-high.ensures.always high v
    (subst (Agrees v) (sym (second_set c.args.self.now.atoms.items c.holds_where_supposed.new.self.atoms.items c.args.atom (c.in_ok-low.ensures.kept low)))
    (agrees_set v c.args.self.now.atoms.items c.args.atom true h within is)))
