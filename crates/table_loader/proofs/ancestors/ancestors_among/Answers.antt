use Rattle.std.proofs.Common.{◌≡◌, ◌+◌, ◌∷◌, ◌++◌, [], List, take, true, false, ◌∙◌, refl, sym, ap, subst}
use Rattle.std.specs.Prelude.{◌↔◌, IsTrue}
use Rattle.std.proofs.lemmas.List.{take_all, take_more}
use Rattle.policy_values.specs.declared.entity_uid.EntityUID.{EntityUID}
use Rattle.table_loader.specs.RowsState.{TablesHaveAncestor}
use Rattle.table_loader.specs.Asking.{AreFound}
use Rattle.table_loader.proofs.Loading.{at_ok, found_more, found_other}
use Rattle.table_loader.proofs.RowSteps.{rows_later}
use Rattle.table_loader.proofs.ancestors.ancestors_among.Goals as goal
use Rattle.table_loader.proofs.ancestors.ancestors_among.Goals.{then-branch+in_ok-try_clone+in_ok-push, else-branch}

pub loop-id-preserved : goal.loop-id-preserved
loop-id-preserved g c =
    let ids = c.args.ids.now in
    let i = c.loop-id.id-index in
    let id = c.id-item.result in
    let uid = c.args.uid.now in
    let before = c.loop-id.invariant in
    let next : take (i + 1) ids ≡ take i ids ++ id ∷ [] = take_more ids i id c.loop-id-test.true ∙ rw (← c.id-item.is) refl in
    record {
      goes_on = rows_later (g.R.Rows.state c.args.rows.now) (g.R.Rows.state c.loop-id.rows) (g.R.Rows.state c.ancestor.new.self) before.goes_on c.ancestor.ensures.goes_on;
      found = λ t known.
          let has = at_ok (λ b. IsTrue b ↔ TablesHaveAncestor t uid id) c.ancestor.result c.in_ok-loaded.field-0 c.in_ok-loaded.ensures.ok (c.ancestor.ensures.answer t known) in
          let done = before.found t (c.ancestor.ensures.goes_on.known t known) in
          elim c.if-branch.branch [
            | then-branch+in_ok-try_clone+in_ok-push w ↦
                rw (next, ap (λ v. v.items) w.found-is ∙ w.in_ok-push.ensures.items, w.in_ok-try_clone.ensures)
                (found_more t uid (take i ids) c.loop-id.found.items id done (has.0 w.if-branch.true))
            | else-branch w ↦
                rw (next, ap (λ v. v.items) w.found-is)
                (found_other t uid (take i ids) c.loop-id.found.items id done
                (λ h. let both : true ≡ false = sym (has.1 h) ∙ w.if-branch.false in absurd (cc)))
          ];
    }

pub returns-clause-found : goal.returns-clause-found
returns-clause-found g c = λ t known.
    subst (λ (ids : List EntityUID). AreFound t c.args.uid.now ids c.loop-id.found.items)
    (take_all c.loop-id.id-index c.args.ids.now c.loop-id-test.false) (c.loop-id.invariant.found t known)
