-- A store in memory as a loader.
use Rattle.std.proofs.Common.{◌≡◌, Bool, true, false, cond, [], ◌∷◌, Some, Result, Ok, Err, subst, inl, inr, arith}
use Rattle.std.specs.Prelude.{IfErr, map, find}
use Rattle.std.specs.List.{AllByRecursion}
use Rattle.std.specs.List.Sorted.{IsStrictlySortedBy}
use Rattle.byte_streams.specs.Steps.{Rose}
use Rattle.policy_values.specs.declared.entity_uid.EntityUID.{EntityUID}
use Rattle.policy_values.specs.Uid.{uid_cmp}
use Rattle.entity_store.specs.Store.{StoredEntity, Store, entity_at, is_named}
use Rattle.table_loader.specs.Order.{IsEntityOrdered}
use Rattle.table_loader.specs.Laws.{IsStoreOrdered}
use Rattle.entity_loader.specs.State.{LoaderState}
use Rattle.entity_loading.specs.declared.error.EntitySliceError.{EntitySliceError}
use Rattle.entity_loading.specs.declared.error.EntitySliceError.TheVariants as error
use Rattle.entity_manifest.specs.Loaded.{IsFaultOrMemory}

ordered_at : (s : Store) (u : EntityUID) (e : StoredEntity) → AllByRecursion IsEntityOrdered s → entity_at s u ≡ Some e → IsEntityOrdered e
ordered_at [] u e h is = absurd (cc)
ordered_at (x ∷ s) u e h is = by (is_named u x) is (ordered_at s u e h.1)
  where
    by : (b : Bool) → cond b (Some x) (find (is_named u) s) ≡ Some e → (find (is_named u) s ≡ Some e → IsEntityOrdered e) → IsEntityOrdered e
    by true k rest = let same : x ≡ e = cc in subst IsEntityOrdered same h.0
    by false k rest = rest k

pub store_ordered : (s : Store) → IsStrictlySortedBy uid_cmp (map (λ e. e.uid) s) → AllByRecursion IsEntityOrdered s → IsStoreOrdered s
store_ordered s ids each = record { ids = ids; order = λ u e at. ordered_at s u e each at }

none_rose : Rose 0 0 → ⊥
none_rose (inl h) = absurd (omega (arith, h))
none_rose (inr h) = absurd (omega (arith, h))

-- a loader that counts no faults is refused only where memory runs out
pub memory_alone : (old new : LoaderState) → old.faults ≡ 0 → new.faults ≡ 0 → (r : Result Store EntitySliceError) →
    IfErr r (IsFaultOrMemory old new) → IfErr r (λ e. e ≡ error.OutOfMemory)
memory_alone old new x y (Ok s) h = tt
memory_alone old new x y (Err e) (inl h) = absurd (none_rose (subst (λ n. Rose n 0) x (subst (λ n. Rose old.faults n) y h.1)))
memory_alone old new x y (Err e) (inr h) = h
