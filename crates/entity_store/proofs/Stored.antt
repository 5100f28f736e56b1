-- Entities that are put under their ids.
use Rattle.std.proofs.Common.{◌≡◌, List, [], ◌∷◌, ◌++◌, ◌∙◌, ap}
use Rattle.std.specs.declared.cmp.Ordering.{Ordering}
use Rattle.std.specs.declared.cmp.Ordering.TheVariants.{Less, Equal, Greater}
use Rattle.std.specs.Ordering.{match_ordering}
use Rattle.std.specs.List.{AllByRecursion}
use Rattle.std.specs.List.Sorted.{IsStrictlySortedBy}
use Rattle.std.specs.Map.{values_of}
use Rattle.std.specs.BTreeMap.{BTreeMap, IsOrdered, insert_entry, values}
use Rattle.policy_values.specs.Keyed.{with_value}
use Rattle.policy_values.proofs.Keyed.{value_put, own_put}
use Rattle.policy_values.specs.declared.entity_uid.EntityUID.{EntityUID}
use Rattle.policy_values.specs.Uid.{uid_cmp, exact_uid}
use Rattle.entity_store.specs.Ascending.{IsAbove}
use Rattle.entity_store.specs.Entries.{AreStored}
use Rattle.entity_store.specs.Store.{StoredEntity}

abbrev Ascends : StoredEntity → Type 0
Ascends e = IsStrictlySortedBy uid_cmp e.ancestors

all_chosen : (o : Ordering) (e f : StoredEntity) (es later : List StoredEntity) → Ascends e → Ascends f → AllByRecursion Ascends es → AllByRecursion Ascends later → AllByRecursion Ascends (match_ordering o (e ∷ f ∷ es) (e ∷ es) (f ∷ later))
all_chosen Less e f es later a b all put = (a, (b, all))
all_chosen Equal e f es later a b all put = (a, all)
all_chosen Greater e f es later a b all put = (b, put)

all_put : (e : StoredEntity) (es : List StoredEntity) → Ascends e → AllByRecursion Ascends es → AllByRecursion Ascends (with_value uid_cmp (λ f. f.uid) e es)
all_put e [] a all = (a, tt)
all_put e (f ∷ es) a all = all_chosen (uid_cmp e.uid f.uid) e f es _ a all.0 all.1 (all_put e es a all.1)

at_end : (ps : List (EntityUID × StoredEntity)) (e : StoredEntity) → IsAbove e.uid (values_of ps) → AllByRecursion (λ p. p.1.uid ≡ p.0) ps → values_of (insert_entry uid_cmp ps e.uid e) ≡ values_of ps ++ e ∷ []
at_end [] e above own = λ _. e ∷ []
at_end (p ∷ ps) e above own = rw (rw own.0 at above.0) (ap (λ r. p.1 ∷ r) (at_end ps e above.1 own.1))

module _ (old new : BTreeMap EntityUID StoredEntity) (e : StoredEntity) (t : AreStored old) (is : new.entries ≡ insert_entry uid_cmp old.entries e.uid e) where
  pub stored_put : IsOrdered uid_cmp new → IsStrictlySortedBy uid_cmp e.ancestors → AreStored new
  stored_put ordered ascends =
      let put : values new ≡ with_value uid_cmp (λ f. f.uid) e (values old) = ap values_of is ∙ value_put uid_cmp (λ f. f.uid) old t.keyed e in
      record {
        keyed = record { ordered = ordered; own = rw is (own_put uid_cmp (λ f. f.uid) exact_uid e old.entries t.keyed.own) };
        ancestors = rw put (all_put e (values old) ascends t.ancestors);
      }

  pub pushed_last : IsAbove e.uid (values old) → values new ≡ values old ++ e ∷ []
  pushed_last above = ap values_of is ∙ at_end old.entries e above t.keyed.own
