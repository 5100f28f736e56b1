-- The entities among some ids, one after another.
use Rattle.std.proofs.Common.{◌≡◌, true, false, List, [], ◌∷◌, ◌++◌, map, refl, ap, ◌∙◌, append_assoc}
use Rattle.std.specs.List.{AllByRecursion}
use Rattle.std.specs.List.Sorted.{IsStrictlySortedBy}
use Rattle.std.specs.Ordering.{ordering_reverse}
use Rattle.std.specs.declared.cmp.Ordering.TheVariants.{Less}
use Rattle.policy_values.specs.declared.entity_uid.EntityUID.{EntityUID}
use Rattle.policy_values.specs.Uid.{uid_cmp, uid_cmp_total}
use Rattle.entity_store.specs.Store.{StoredEntity, Store}
use Rattle.entity_store.specs.Ascending.{IsAbove}
use Rattle.level_spec.specs.Cut.{is_among, entities_among}

-- the entities `kept` are those among the ids of what stands before `left`, of all
pub record AreKept (ids : List EntityUID) (kept left all : Store) : Type 0 where
  pub so_far : kept ++ entities_among ids left ≡ entities_among ids all
  pub ascending : IsStrictlySortedBy uid_cmp (map (λ e. e.uid) left)
  pub above : AllByRecursion (λ e. IsAbove e.uid kept) left

above_none : (s : Store) → AllByRecursion (λ e. IsAbove e.uid []) s
above_none [] = tt
above_none (e ∷ s) = (tt, above_none s)

pub none_kept : (ids : List EntityUID) (s : Store) → IsStrictlySortedBy uid_cmp (map (λ e. e.uid) s) → AreKept ids [] s s
none_kept ids s h = record { so_far = refl; ascending = h; above = above_none s }

above_end : (u : EntityUID) (kept : Store) (x : StoredEntity) → IsAbove u kept → uid_cmp x.uid u ≡ Less → IsAbove u (kept ++ x ∷ [])
above_end u [] x h k = (uid_cmp_total.antisymm u x.uid ∙ ap ordering_reverse k, tt)
above_end u (e ∷ kept) x h k = (h.0, above_end u kept x h.1 k)

above_more : (kept left : Store) (x : StoredEntity) → AllByRecursion (λ e. IsAbove e.uid kept) left → AllByRecursion (λ u. uid_cmp x.uid u ≡ Less) (map (λ e. e.uid) left) → AllByRecursion (λ e. IsAbove e.uid (kept ++ x ∷ [])) left
above_more kept [] x h k = tt
above_more kept (e ∷ left) x h k = (above_end e.uid kept x h.0 k.0, above_more kept left x h.1 k.1)

module _ (ids : List EntityUID) (kept : Store) (e : StoredEntity) (it left all : Store) (is : it ≡ e ∷ left) (h : AreKept ids kept it all) where
  pub one_kept : (now : Store) (x : StoredEntity) → is_among ids e.uid ≡ true → x ≡ e → now ≡ kept ++ x ∷ [] → AreKept ids now left all
  unfolding IsStrictlySortedBy
  one_kept now x among made pushed = rw (pushed, made) record {
    so_far = append_assoc kept (e ∷ []) (entities_among ids left) ∙ (rw (is, among) at h.so_far);
    ascending = (rw is at h.ascending).1;
    above = above_more kept left e (rw is at h.above).1 (rw is at h.ascending).0;
  }

  pub one_skipped : is_among ids e.uid ≡ false → AreKept ids kept left all
  unfolding IsStrictlySortedBy
  one_skipped not_among = record { so_far = rw (is, not_among) at h.so_far; ascending = (rw is at h.ascending).1; above = (rw is at h.above).1 }
