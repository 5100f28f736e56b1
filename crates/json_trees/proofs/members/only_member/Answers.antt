use Rattle.std.proofs.Common.{◌≡◌, ◌+◌, ◌∷◌, drop, arith, ap, sym, ◌∙◌}
use Rattle.std.proofs.lemmas.List.{drop_more}
use Rattle.json.specs.Value.{members_view, value_view}
use Rattle.json_values.specs.Json.{only_member}
use Rattle.serde_json.specs.Data.{no_members}
use Rattle.json_trees.specs.Trees.{members_data, tree_view}
use Rattle.json_trees.proofs.Named.{lone, none_beside, put_lone}
use Rattle.json_trees.proofs.members.only_member.Goals as goal

pub returns-then-is_other : goal.returns-then-is_other
returns-then-is_other c =
    let l = c.loop-member in let m = c.member-item.result in let ms = c.deref-member-items.result.now in
    let rest = members_view (drop (l.member-index + 1) ms) in
    let here : drop l.member-index ms ≡ m ∷ drop (l.member-index + 1) ms = drop_more ms l.member-index m (omega arith) ∙ ap (λ y. y ∷ drop (l.member-index + 1) ms) (sym c.member-item.is) in
    none_beside m.0.now (value_view m.1) rest l.only (sym c.is_other.ensures ∙ c.if-is_other.true)
    ∙ ap (λ xs. only_member (members_data (members_view xs) (lone l.only))) (sym here)
    ∙ ap only_member l.invariant
    ∙ ap (λ xs. only_member (members_data (members_view xs) no_members)) c.deref-member-items.ensures.value

pub loop-member-preserved : goal.loop-member-preserved
loop-member-preserved c =
    let l = c.loop-member in let m = c.member-item.result in let ms = c.deref-member-items.result.now in
    let rest = members_view (drop (l.member-index + 1) ms) in
    let here : drop l.member-index ms ≡ m ∷ drop (l.member-index + 1) ms = drop_more ms l.member-index m (omega arith) ∙ ap (λ y. y ∷ drop (l.member-index + 1) ms) (sym c.member-item.is) in
    ap (members_data rest) (sym (put_lone m.0.now (tree_view m.1) l.only (sym c.is_other.ensures ∙ c.if-is_other.false)))
    ∙ ap (λ xs. members_data (members_view xs) (lone l.only)) (sym here)
    ∙ l.invariant
