use Rattle.std.proofs.Common.{◌≡◌, Some, sym, subst}
use Rattle.entity_loading.specs.Lending.{IsUnited}
use Rattle.entity_loading.specs.declared.borrowed.Borrowed.TheVariants.{One, Many}
use Rattle.entity_loading.proofs.BorrowSteps.{united_two}
use Rattle.entity_loading.proofs.borrowed.united.Goals as goal

pub returns-in_ok-add-in-Some-One-2 : goal.returns-in_ok-add-in-Some-One-2
returns-in_ok-add-in-Some-One-2 c =
    let ns = c.args.nodes.now in
    let known : c.args.known ≡ Some (One c.in-Some-One.first) = cc in
    subst (λ k. IsUnited ns k c.args.number (Many c.add-in-Some-One.new.self)) (sym known)
    (united_two ns c.in-Some-One.first c.args.number c.add.new.self c.add-in-Some-One.new.self (rw (c.new-both.ensures, c.new-first.ensures) at c.in_ok-add-in-Some-One.ensures.ok) (rw c.new-trie.ensures at c.in_ok-add-in-Some-One-2.ensures.ok))
