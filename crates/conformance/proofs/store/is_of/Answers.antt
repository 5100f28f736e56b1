use Rattle.plain_lemmas.proofs.Booleans.{equal_by_both_ways}
use Rattle.conformance.proofs.Stores.{of_type, type_has}
use Rattle.conformance.specs.StoreRules.{is_of}
use Rattle.conformance.proofs.store.is_of.Goals as goal

pub returns : goal.returns
returns c =
    let t = c.args.t.now in
    let v = c.args.v.now in
    equal_by_both_ways c.has_value.result (is_of t v) (λ h. type_has t v (c.has_value.ensures.0 h)) (λ h. c.has_value.ensures.1 (of_type t v h))
