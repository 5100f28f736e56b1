-- Steps of lending.
use Rattle.std.proofs.Common.{◌≡◌, ℕ, Bool, true, false, cond, ◌&&◌, ◌||◌, List, [], ◌∷◌, ◌++◌, map, Option, Some, None, is_some, refl, sym, ap, subst, ◌∙◌, append_assoc}
use Rattle.std.specs.BTreeMap.{BTreeMap, get, is_at}
use Rattle.std.specs.List.{list_any}
use Rattle.std.specs.Map.{keys_of, lookup}
use Rattle.std.specs.List.Sorted.{IsStrictlySortedBy}
use Rattle.policy_values.specs.declared.entity_uid.EntityUID.{EntityUID}
use Rattle.policy_values.specs.Uid.{uid_cmp, uid_eq}
use Rattle.access_tries.specs.Edges.{Address}
use Rattle.access_tries.specs.Table.{Table}
use Rattle.access_tries.specs.Views.{ViewData, whole, IsWith}
use Rattle.reads_spec.proofs.Lists.{same_uid}
use Rattle.plain_lemmas.proofs.Booleans.{or_assoc, or_false, or_right_true}
use Rattle.entity_loading.specs.declared.place.Place.{Place}
use Rattle.entity_loading.specs.Places.{node_of}
use Rattle.entity_loading.specs.Needs.{sees, needs}
use Rattle.entity_loader.specs.declared.loader.EntityRequest.{EntityRequest}
use Rattle.entity_loading.specs.declared.borrowed.Borrowed.{Borrowed}
use Rattle.entity_loading.specs.declared.borrowed.Borrowed.TheVariants.{One, Many}
use Rattle.entity_loading.specs.Lending.{borrowed_sees, AreBorrowed, Borrows, IsUnited, request_of}

-- ---- one place more

module _ (ns : Table) (p : Place) (old mid new : BTreeMap EntityUID Borrowed) (known : Option Borrowed) (l : Borrowed) where
  pub lends : known ≡ get uid_cmp old p.uid → ((x : EntityUID) → get uid_cmp mid x ≡ cond (uid_eq p.uid x) None (get uid_cmp old x))
      → ((x : EntityUID) → get uid_cmp new x ≡ cond (uid_eq p.uid x) (Some l) (get uid_cmp mid x)) → IsUnited ns known p.number l → Borrows ns p old new
  lends had out put u = record { each = λ b x a. one b x a (uid_eq p.uid x) refl; some = λ x. there x (uid_eq p.uid x) refl }
    where
      now : (x : EntityUID) (e : Bool) → uid_eq p.uid x ≡ e → get uid_cmp new x ≡ cond e (Some l) (cond e None (get uid_cmp old x))
      now x e is = put x ∙ (λ i. cond (is i) (Some l) (get uid_cmp mid x)) ∙ ap (cond e (Some l)) (out x ∙ ap (λ c. cond c None (get uid_cmp old x)) is)

      one : (b : Bool) (x : EntityUID) (a : Address) (e : Bool) → uid_eq p.uid x ≡ e → borrowed_sees b ns (get uid_cmp new x) a ≡ (borrowed_sees b ns (get uid_cmp old x) a || (e && sees b (node_of ns p) a))
      one b x a true is =
          ap (λ o. borrowed_sees b ns o a) (now x true is) ∙ u.each b a ∙ ap (λ o. borrowed_sees b ns o a || sees b (node_of ns p) a) (had ∙ ap (get uid_cmp old) (same_uid p.uid x is))
      one b x a false is = ap (λ o. borrowed_sees b ns o a) (now x false is) ∙ sym (or_false (borrowed_sees b ns (get uid_cmp old x) a))

      there : (x : EntityUID) (e : Bool) → uid_eq p.uid x ≡ e → is_some (get uid_cmp new x) ≡ (is_some (get uid_cmp old x) || e)
      there x true is = ap is_some (now x true is) ∙ sym (or_right_true (is_some (get uid_cmp old x)) true refl)
      there x false is = ap is_some (now x false is) ∙ sym (or_false (is_some (get uid_cmp old x)))

-- ---- all places

pub record IsBorrowing (ns : Table) (all rest : List Place) (borrowed : BTreeMap EntityUID Borrowed) : Type 0 where
  pub each : (b : Bool) (x : EntityUID) (a : Address) → (borrowed_sees b ns (get uid_cmp borrowed x) a || needs b ns rest x a) ≡ needs b ns all x a
  pub some : (x : EntityUID) → (is_some (get uid_cmp borrowed x) || list_any (λ p. uid_eq p.uid x) rest) ≡ list_any (λ p. uid_eq p.uid x) all

pub borrowing_more : (ns : Table) (all rest more : List Place) (p : Place) (old new : BTreeMap EntityUID Borrowed) → rest ≡ p ∷ more → IsBorrowing ns all rest old → Borrows ns p old new → IsBorrowing ns all more new
borrowing_more ns all rest more p old new e t l = record {
  each = λ b x a.
      ap (λ c. c || needs b ns more x a) (l.each b x a) ∙ or_assoc (borrowed_sees b ns (get uid_cmp old x) a) (uid_eq p.uid x && sees b (node_of ns p) a) (needs b ns more x a)
      ∙ ap (λ ps. borrowed_sees b ns (get uid_cmp old x) a || needs b ns ps x a) (sym e) ∙ t.each b x a;
  some = λ x.
      ap (λ c. c || list_any (λ q. uid_eq q.uid x) more) (l.some x) ∙ or_assoc (is_some (get uid_cmp old x)) (uid_eq p.uid x) (list_any (λ q. uid_eq q.uid x) more)
      ∙ ap (λ ps. is_some (get uid_cmp old x) || list_any (λ q. uid_eq q.uid x) ps) (sym e) ∙ t.some x;
}

pub borrowing_done : (ns : Table) (all rest : List Place) (borrowed : BTreeMap EntityUID Borrowed) → rest ≡ [] → IsBorrowing ns all rest borrowed → AreBorrowed ns all borrowed
borrowing_done ns all rest borrowed e t = record {
  each = λ b x a. sym (or_false (borrowed_sees b ns (get uid_cmp borrowed x) a)) ∙ ap (λ ps. borrowed_sees b ns (get uid_cmp borrowed x) a || needs b ns ps x a) (sym e) ∙ t.each b x a;
  some = λ x. sym (or_false (is_some (get uid_cmp borrowed x))) ∙ ap (λ ps. is_some (get uid_cmp borrowed x) || list_any (λ q. uid_eq q.uid x) ps) (sym e) ∙ t.some x;
}

-- ---- unions

no_nodes : (b : Bool) (a : Address) → sees b (whole []) a ≡ false
no_nodes true [] = refl
no_nodes false [] = refl
no_nodes true (e ∷ es) = refl
no_nodes false (e ∷ es) = refl

with_sees : (old new : Table) (v : ViewData) → IsWith old v new → (b : Bool) (a : Address) → sees b (whole new) a ≡ (sees b (whole old) a || sees b v a)
with_sees old new v w true a = w.marks a
with_sees old new v w false a = w.paths a

pub united_two : (ns : Table) (n m : ℕ) (first both : Table) → IsWith [] (record { nodes = ns; number = n }) first → IsWith first (record { nodes = ns; number = m }) both → IsUnited ns (Some (One n)) m (Many both)
united_two ns n m first both f g = record {
  each = λ b a.
      let v : ViewData = record { nodes = ns; number = n } in
      let w : ViewData = record { nodes = ns; number = m } in
      with_sees first both w g b a ∙ ap (λ c. c || sees b w a) (with_sees [] first v f b a ∙ ap (λ c. c || sees b v a) (no_nodes b a));
}

pub united_more : (ns : Table) (m : ℕ) (old new : Table) → IsWith old (record { nodes = ns; number = m }) new → IsUnited ns (Some (Many old)) m (Many new)
united_more ns m old new f = record { each = λ b a. with_sees old new (record { nodes = ns; number = m }) f b a }

pub ids_ascend : (ns : Table) (es : List (EntityUID × Borrowed)) → map (λ r. r.entity_id) (map (request_of ns) es) ≡ keys_of es
ids_ascend ns [] = refl
ids_ascend ns (e ∷ es) = ap (λ us. e.0 ∷ us) (ids_ascend ns es)

pub request_more : (ns : Table) (all rest more : List (EntityUID × Borrowed)) (e : EntityUID × Borrowed) (old new : List EntityRequest) (r : EntityRequest) → rest ≡ e ∷ more → old ++ map (request_of ns) rest ≡ map (request_of ns) all → new ≡ old ++ r ∷ [] → r ≡ request_of ns e → new ++ map (request_of ns) more ≡ map (request_of ns) all
request_more ns all rest more e old new r s t p q =
    ap (λ rs. rs ++ map (request_of ns) more) p ∙ append_assoc old (r ∷ []) (map (request_of ns) more) ∙ ap (λ z. old ++ z ∷ map (request_of ns) more) q ∙ ap (λ es. old ++ map (request_of ns) es) (sym s) ∙ t

pub borrowing_start : (ns : Table) (all rest : List Place) (borrowed : BTreeMap EntityUID Borrowed) → rest ≡ all → borrowed.entries ≡ [] → IsBorrowing ns all rest borrowed
borrowing_start ns all rest borrowed e none = record {
  each = λ b x a. (λ i. borrowed_sees b ns (lookup (is_at (uid_cmp x)) (none i)) a || needs b ns (e i) x a);
  some = λ x. (λ i. is_some (lookup (is_at (uid_cmp x)) (none i)) || list_any (λ p. uid_eq p.uid x) (e i));
}

pub requests_ascend : (ns : Table) (all rest : List (EntityUID × Borrowed)) (rs : List EntityRequest) → rest ≡ [] → rs ++ map (request_of ns) rest ≡ map (request_of ns) all → IsStrictlySortedBy uid_cmp (keys_of all) → IsStrictlySortedBy uid_cmp (map (λ r. r.entity_id) rs)
requests_ascend ns all rest rs e t up =
    subst (IsStrictlySortedBy uid_cmp) (sym (ap (map (λ (r : EntityRequest). r.entity_id)) (sym (nil_right rs) ∙ ap (λ es. rs ++ map (request_of ns) es) (sym e) ∙ t) ∙ ids_ascend ns all)) up
  where
    nil_right : (xs : List EntityRequest) → xs ++ [] ≡ xs
    nil_right [] = refl
    nil_right (x ∷ xs) = ap (λ ys. x ∷ ys) (nil_right xs)
