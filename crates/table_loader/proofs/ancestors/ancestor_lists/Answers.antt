use Rattle.std.proofs.Common.{◌≡◌, ◌+◌, ◌∷◌, ◌++◌, [], List, length, take, false, ◌∙◌, refl, ap, subst, arith}
use Rattle.std.proofs.lemmas.List.{take_more}
use Rattle.std.proofs.lemmas.Slice.Zip.{all_zipped_more}
use Rattle.entity_loader.specs.Answers.{IsHonestList}
use Rattle.policy_values.specs.declared.entity_uid.EntityUID.{EntityUID}
use Rattle.table_loader.specs.Tables.{store_of}
use Rattle.table_loader.specs.Asking.{AreFound}
use Rattle.table_loader.proofs.Loading.{honest_list}
use Rattle.table_loader.proofs.RowSteps.{rows_here, rows_later}
use Rattle.table_loader.proofs.ancestors.ancestor_lists.Goals as goal

pub loop-request-init : goal.loop-request-init
loop-request-init g c = record {
  goes_on = rows_here (g.R.Rows.state c.args.rows.now);
  fit = ap length c.new-found.ensures.items;
  honest = λ t known. rw c.new-found.ensures.items tt;
}

pub loop-request-preserved : goal.loop-request-preserved
loop-request-preserved g c =
    let old = g.R.Rows.state c.args.rows.now in
    let mid = g.R.Rows.state c.loop-request.rows in
    let new = g.R.Rows.state c.ancestors_among.new.rows in
    let rs = c.deref-request-items.result.now in
    let i = c.loop-request.request-index in
    let r = c.request-item.result in
    let before = c.loop-request.invariant in
    let next : take (i + 1) rs ≡ take i rs ++ r ∷ [] = take_more rs i r c.loop-request-test.true ∙ rw (← c.request-item.is) refl in
    record {
      goes_on = rows_later old mid new before.goes_on c.ancestors_among.ensures.goes_on;
      fit = rw c.in_ok-push.ensures.items (grind (arith, before.fit));
      honest = λ t known. rw (next, c.in_ok-push.ensures.items)
          (all_zipped_more (IsHonestList false (store_of t)) (take i rs) c.loop-request.found.items r c.in_ok-list.list
          (before.honest t (c.ancestors_among.ensures.goes_on.known t known))
          (honest_list t r c.in_ok-list.list
          (subst (λ (ids : List EntityUID). AreFound t r.entity_id ids c.in_ok-list.list.items) c.deref.ensures.value (c.in_ok-list.ensures.found t known))));
    }
