use Rattle.condition_compare.specs.Decisions.{allows}
use Rattle.condition_compare.specs.Outlines.{state}
use Rattle.condition_compare.proofs.Concluding.{concluded}
use Rattle.condition_compare.proofs.Growing.{says_later}
use Rattle.condition_compare.proofs.comparison.compare_conditions.Goals as goal

pub follows-requires-2-clause-first : goal.follows-requires-2-clause-first
follows-requires-2-clause-first c =
    let old = says_later c.in_ok-new.ensures.grows c.in_ok-old.ensures.one in
    let most = c.in_ok-at_most.ensures (λ w. allows w c.args.after.now.items) (λ w. allows w c.args.before.now.items) c.in_ok-new.ensures.one old in
    (says_later most.grows old).within

pub follows-requires-2-clause-second : goal.follows-requires-2-clause-second
follows-requires-2-clause-second c =
    let old = says_later c.in_ok-new.ensures.grows c.in_ok-old.ensures.one in
    let most = c.in_ok-at_most.ensures (λ w. allows w c.args.after.now.items) (λ w. allows w c.args.before.now.items) c.in_ok-new.ensures.one old in
    (says_later most.grows c.in_ok-new.ensures.one).within

pub returns-clause-at_most : goal.returns-clause-at_most
returns-clause-at_most c e =
    let old = says_later c.in_ok-new.ensures.grows c.in_ok-old.ensures.one in
    let most = c.in_ok-at_most.ensures (λ w. allows w c.args.after.now.items) (λ w. allows w c.args.before.now.items) c.in_ok-new.ensures.one old in
    let least = c.in_ok-at_least.ensures (λ w. allows w c.args.before.now.items) (λ w. allows w c.args.after.now.items) (says_later most.grows old) (says_later most.grows c.in_ok-new.ensures.one) in
    concluded (state c.follows-2.new.self.circuit.gates.items c.follows-2.new.self.atoms.asked.items) (λ w. allows w c.args.after.now.items) (λ w. allows w c.args.before.now.items) c.in_ok-at_most.at_most
    (says_later least.grows most.one) (c.in_ok-always_holds.ensures e)

pub returns-clause-at_least : goal.returns-clause-at_least
returns-clause-at_least c e =
    let old = says_later c.in_ok-new.ensures.grows c.in_ok-old.ensures.one in
    let most = c.in_ok-at_most.ensures (λ w. allows w c.args.after.now.items) (λ w. allows w c.args.before.now.items) c.in_ok-new.ensures.one old in
    let least = c.in_ok-at_least.ensures (λ w. allows w c.args.before.now.items) (λ w. allows w c.args.after.now.items) (says_later most.grows old) (says_later most.grows c.in_ok-new.ensures.one) in
    concluded (state c.follows-2.new.self.circuit.gates.items c.follows-2.new.self.atoms.asked.items) (λ w. allows w c.args.before.now.items) (λ w. allows w c.args.after.now.items) c.in_ok-at_least.at_least
    least.one (c.in_ok-always_holds-2.ensures e)
