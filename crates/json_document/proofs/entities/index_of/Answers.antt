use Rattle.std.proofs.Common.{◌≡◌, ◌+◌, ◌∷◌, drop, sym, ap, ◌∙◌, refl, arith}
use Rattle.std.specs.Ordering.{is_eq}
use Rattle.std.proofs.lemmas.List.{drop_more}
use Rattle.policy_values.specs.Uid.{uid_cmp}
use Rattle.json_document.specs.Entities.{index_from}
use Rattle.json_document.proofs.entities.index_of.Goals as goal

pub returns-then-is_same : goal.returns-then-is_same
returns-then-is_same c =
    let u = c.args.uid.now in let x = c.id-item.result in let xs = c.deref-id-items.result.now in let l = c.loop-id in
    let same : is_eq (uid_cmp u x) ≡ _ = sym c.is_same.ensures ∙ c.if-is_same.true in
    let here : drop l.id-index xs ≡ x ∷ drop (l.id-index + 1) xs = drop_more xs l.id-index x (omega arith) ∙ ap (λ y. y ∷ drop (l.id-index + 1) xs) (sym c.id-item.is) in
    let step : index_from l.index u (drop l.id-index xs) ≡ l.index = ap (index_from l.index u) here ∙ rw same refl in
    rw (← c.deref-id-items.ensures.value) (sym step ∙ l.invariant.rest)

pub loop-id-preserved : goal.loop-id-preserved
loop-id-preserved c =
    let u = c.args.uid.now in let x = c.id-item.result in let xs = c.deref-id-items.result.now in let l = c.loop-id in
    let same : is_eq (uid_cmp u x) ≡ _ = sym c.is_same.ensures ∙ c.if-is_same.false in
    let here : drop l.id-index xs ≡ x ∷ drop (l.id-index + 1) xs = drop_more xs l.id-index x (omega arith) ∙ ap (λ y. y ∷ drop (l.id-index + 1) xs) (sym c.id-item.is) in
    let step : index_from l.index u (drop l.id-index xs) ≡ index_from (l.index + 1) u (drop (l.id-index + 1) xs) = ap (index_from l.index u) here ∙ rw same refl in
    record { counted = omega arith; rest = sym step ∙ l.invariant.rest }
