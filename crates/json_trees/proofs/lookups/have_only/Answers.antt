use Rattle.std.proofs.Common.{◌≡◌, ◌+◌, ◌∷◌, drop, false, map, refl, ap, sym, ◌∙◌, arith}
use Rattle.std.specs.List.{list_any}
use Rattle.std.specs.Str.{bytes_eq}
use Rattle.std.proofs.lemmas.List.{drop_more, drop_all}
use Rattle.json.specs.Value.{members_view}
use Rattle.json_trees.proofs.Found.{names_only, object_only}
use Rattle.json_trees.proofs.lookups.have_only.Goals as goal

pub returns-then-not-is_one_of : goal.returns-then-not-is_one_of
returns-then-not-is_one_of c =
    let names = map (λ s. s.now) c.args.names.now in let ms = c.deref-member-items.result.now in let m = c.member-item.result in let i = c.loop-member.member-index in
    let not : list_any (bytes_eq m.0.now) names ≡ false = sym c.is_one_of.ensures ∙ c.if-not-is_one_of.true in
    let here : drop i ms ≡ m ∷ drop (i + 1) ms = drop_more ms i m (omega arith) ∙ ap (λ y. y ∷ drop (i + 1) ms) (sym c.member-item.is) in
    let seen : names_only names (members_view (drop i ms)) ≡ false = ap (λ xs. names_only names (members_view xs)) here ∙ rw not refl in
    sym (object_only names (members_view c.args.members.now.items) ∙ ap (λ xs. names_only names (members_view xs)) (sym c.deref-member-items.ensures.value) ∙ sym c.loop-member.invariant ∙ seen)

pub returns : goal.returns
returns c =
    let names = map (λ s. s.now) c.args.names.now in let ms = c.deref-member-items.result.now in
    let all = ap (λ xs. names_only names (members_view xs)) (drop_all c.loop-member.member-index ms (omega arith)) in
    sym (object_only names (members_view c.args.members.now.items) ∙ ap (λ xs. names_only names (members_view xs)) (sym c.deref-member-items.ensures.value) ∙ sym c.loop-member.invariant ∙ all)
