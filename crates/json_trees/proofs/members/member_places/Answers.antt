use Rattle.std.proofs.Common.{◌≡◌, ◌+◌, ◌<◌, ◌∷◌, All, drop, length, arith, ap, subst, sym, ◌∙◌}
use Rattle.std.specs.Map.{values_of}
use Rattle.std.proofs.lemmas.List.{drop_more}
use Rattle.std.proofs.lemmas.Map.Views.{All-values-insert_entry}
use Rattle.json.specs.Value.{members_view}
use Rattle.serde_json.specs.Data.{put}
use Rattle.json_trees.specs.Places.{placed_view}
use Rattle.json_trees.specs.Trees.{members_data, tree_view}
use Rattle.json_trees.proofs.Named.{placed_insert, said_there}
use Rattle.json_trees.proofs.members.member_places.Goals as goal

pub loop-place-preserved : goal.loop-place-preserved
loop-place-preserved c =
    let l = c.loop-place in let m = c.index-members-place.result in let ms = c.args.members.now in
    let old = placed_view ms l.places.entries in
    let here : drop l.place ms ≡ m ∷ drop (l.place + 1) ms = drop_more ms l.place m (omega arith) ∙ ap (λ y. y ∷ drop (l.place + 1) ms) (sym c.index-members-place.is) in
    let inserted : placed_view ms c.insert.new.self.entries ≡ put m.0.now (tree_view m.1) old =
    ap (placed_view ms) c.in_ok-insert.ensures.entries ∙ placed_insert ms l.places.entries m.0 l.place ∙ ap (λ d. put m.0.now d old) (said_there ms l.place m (omega arith) ∙ ap (λ x. tree_view x.1) (sym c.index-members-place.is)) in
    record {
      said = ap (members_data (members_view (drop (l.place + 1) ms))) inserted ∙ sym (ap (λ xs. members_data (members_view xs) old) here) ∙ l.invariant.said;
      within = subst (λ es. All (λ i. i < length ms) (values_of es)) (sym c.in_ok-insert.ensures.entries)
          (All-values-insert_entry _ m.0 l.place (λ i. i < length ms) l.places.entries l.invariant.within (omega arith));
    }
