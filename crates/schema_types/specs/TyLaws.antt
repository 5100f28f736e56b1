-- The order of types is total, and ties are equal.
use Rattle.std.proofs.Common.{◌≡◌, ℕ, Ordering, List, Bool, true, false, ap, ◌∙◌, sym, refl, ◌<◌, ◌≤◌, arith}
use Rattle.std.proofs.lemmas.Bool.Decides.{nat_tests}
use Rattle.std.specs.declared.cmp.Ordering.TheVariants.{Less, Equal, Greater}
use Rattle.std.specs.Ordering.{nat_cmp, bool_cmp, ordering_then, ordering_reverse}
use Rattle.std.specs.Cmp.{IsTotalOrder, then_flip, bool_cmp_total, nat_cmp_total}
use Rattle.std.proofs.lemmas.Cmp.{nat_list_cmp_total}
use Rattle.std.proofs.lemmas.Map.Lookups.{CmpEqualImpliesEq, exact_bytes}
use Rattle.policy_values.specs.Ties.{then_equal, then_chain}
use Rattle.schema_types.specs.NameLaws.{exact_texts, texts_cmp_total}
use Rattle.policy_values.specs.Uid.{text_cmp}
use Rattle.schema_types.specs.Ty.{Ty, never, true_type, false_type, primitive, any_set, set_of, record_of, any_entity, entity, action, extension, Attrs, no_attrs, attr}
use Rattle.schema_types.specs.TyOrder.{place_of, open_place, rank, ty_cmp, attrs_cmp}
use Rattle.schema_types.specs.declared.kinds.Primitive.{Primitive}
use Rattle.schema_types.specs.declared.kinds.Primitive.TheVariants.{Bool as BoolType, Long, String}
use Rattle.schema_types.specs.declared.kinds.OpenTag.{OpenTag}
use Rattle.schema_types.specs.declared.kinds.OpenTag.TheVariants.{OpenAttributes, ClosedAttributes}
use Rattle.policy_values.specs.ValueLaws.{exact_bool}

exact_primitive : (p q : Primitive) → nat_cmp (place_of p) (place_of q) ≡ Equal → p ≡ q
exact_primitive BoolType BoolType h = refl
exact_primitive Long Long h = refl
exact_primitive String String h = refl
exact_primitive p q h = cc

exact_open : (p q : OpenTag) → nat_cmp (open_place p) (open_place q) ≡ Equal → p ≡ q
exact_open OpenAttributes OpenAttributes h = refl
exact_open ClosedAttributes ClosedAttributes h = refl
exact_open p q h = cc

by_rank : (m n : ℕ) → m < n → nat_cmp m n ≡ Less
by_rank m n h = grind (arith, nat_tests)

from_rank : (m n : ℕ) → nat_cmp m n ≡ Less → m ≤ n
from_rank m n h = grind (arith, nat_tests)

mutual
  pub exact_ty : (t u : Ty) → ty_cmp t u ≡ Equal → t ≡ u
  exact_ty never never h = refl
  exact_ty true_type true_type h = refl
  exact_ty false_type false_type h = refl
  exact_ty (primitive p) (primitive q) h = ap primitive (exact_primitive p q h)
  exact_ty any_set any_set h = refl
  exact_ty (set_of t) (set_of u) h = ap set_of (exact_ty t u h)
  exact_ty (record_of xs o) (record_of ys p) h =
      let e = then_equal (attrs_cmp xs ys) (nat_cmp (open_place o) (open_place p)) h in
      λ i. record_of (exact_attrs xs ys e.0 i) (exact_open o p e.1 i)
  exact_ty any_entity any_entity h = refl
  exact_ty (entity ms) (entity ns) h = ap entity (exact_texts ms ns h)
  exact_ty (action m xs) (action n ys) h =
      let e = then_equal (text_cmp m n) (attrs_cmp xs ys) h in
      λ i. action (exact_bytes m n e.0 i) (exact_attrs xs ys e.1 i)
  exact_ty (extension m) (extension n) h = ap extension (exact_bytes m n h)
  exact_ty t u h = cc

  pub exact_attrs : (xs ys : Attrs) → attrs_cmp xs ys ≡ Equal → xs ≡ ys
  exact_attrs no_attrs no_attrs h = refl
  exact_attrs no_attrs (attr l u r ys) h = cc
  exact_attrs (attr k t q xs) no_attrs h = cc
  exact_attrs (attr k t q xs) (attr l u r ys) h =
      let e = then_equal (ordering_then (text_cmp k l) (ordering_then (ty_cmp t u) (bool_cmp q r)))
      (attrs_cmp xs ys) h in
      let f = then_equal (text_cmp k l) (ordering_then (ty_cmp t u) (bool_cmp q r)) e.0 in
      let g = then_equal (ty_cmp t u) (bool_cmp q r) f.1 in
      λ i. attr (exact_bytes k l f.0 i) (exact_ty t u g.0 i) (exact_bool q r g.1 i) (exact_attrs xs ys e.1 i)

mutual
  pub ty_flip : (t u : Ty) → ty_cmp t u ≡ ordering_reverse (ty_cmp u t)
  ty_flip never never = refl
  ty_flip true_type true_type = refl
  ty_flip false_type false_type = refl
  ty_flip any_set any_set = refl
  ty_flip any_entity any_entity = refl
  ty_flip (primitive p) (primitive q) = nat_cmp_total.antisymm (place_of p) (place_of q)
  ty_flip (set_of t) (set_of u) = ty_flip t u
  ty_flip (record_of xs o) (record_of ys p) =
      (λ i. ordering_then (attrs_flip xs ys i) (nat_cmp_total.antisymm (open_place o) (open_place p) i)) ∙
      then_flip (attrs_cmp ys xs) (nat_cmp (open_place p) (open_place o))
  ty_flip (entity ms) (entity ns) = texts_cmp_total.antisymm ms ns
  ty_flip (action m xs) (action n ys) =
      (λ i. ordering_then (nat_list_cmp_total.antisymm m n i) (attrs_flip xs ys i)) ∙
      then_flip (text_cmp n m) (attrs_cmp ys xs)
  ty_flip (extension m) (extension n) = nat_list_cmp_total.antisymm m n
  ty_flip t u = refl

  pub attrs_flip : (xs ys : Attrs) → attrs_cmp xs ys ≡ ordering_reverse (attrs_cmp ys xs)
  attrs_flip no_attrs no_attrs = refl
  attrs_flip no_attrs (attr l u r ys) = refl
  attrs_flip (attr k t q xs) no_attrs = refl
  attrs_flip (attr k t q xs) (attr l u r ys) =
      (λ i. ordering_then
      (ordering_then (nat_list_cmp_total.antisymm k l i)
      (ordering_then (ty_flip t u i) (bool_cmp_total.antisymm q r i)))
      (attrs_flip xs ys i))
      ∙ (λ i. ordering_then
      (ordering_then (ordering_reverse (text_cmp l k)) (then_flip (ty_cmp u t) (bool_cmp r q) i))
      (ordering_reverse (attrs_cmp ys xs)))
      ∙ (λ i. ordering_then (then_flip (text_cmp l k) (ordering_then (ty_cmp u t) (bool_cmp r q)) i)
      (ordering_reverse (attrs_cmp ys xs)))
      ∙ then_flip (ordering_then (text_cmp l k) (ordering_then (ty_cmp u t) (bool_cmp r q))) (attrs_cmp ys xs)

abbrev entry_cmp : List ℕ → Ty → Bool → List ℕ → Ty → Bool → Ordering
entry_cmp k t q l u r = ordering_then (text_cmp k l) (ordering_then (ty_cmp t u) (bool_cmp q r))

exact_entry : (k : List ℕ) (t : Ty) (q : Bool) (l : List ℕ) (u : Ty) (r : Bool) →
    entry_cmp k t q l u r ≡ Equal → (k ≡ l) × (t ≡ u) × (q ≡ r)
exact_entry k t q l u r h =
    let f = then_equal (text_cmp k l) (ordering_then (ty_cmp t u) (bool_cmp q r)) h in
    let g = then_equal (ty_cmp t u) (bool_cmp q r) f.1 in
    (exact_bytes k l f.0, exact_ty t u g.0, exact_bool q r g.1)

less_rank : (t v : Ty) → rank t < rank v → ty_cmp t v ≡ Less
less_rank never never h = absurd (omega arith)
less_rank true_type true_type h = absurd (omega arith)
less_rank false_type false_type h = absurd (omega arith)
less_rank any_set any_set h = absurd (omega arith)
less_rank any_entity any_entity h = absurd (omega arith)
less_rank (primitive a) (primitive b) h = absurd (omega arith)
less_rank (set_of a) (set_of b) h = absurd (omega arith)
less_rank (record_of a o) (record_of b p) h = absurd (omega arith)
less_rank (entity a) (entity b) h = absurd (omega arith)
less_rank (action m a) (action n b) h = absurd (omega arith)
less_rank (extension a) (extension b) h = absurd (omega arith)
less_rank a b h = by_rank (rank a) (rank b) h

rank_le : (t u : Ty) → ty_cmp t u ≡ Less → rank t ≤ rank u
rank_le never never h = cc
rank_le true_type true_type h = cc
rank_le false_type false_type h = cc
rank_le any_set any_set h = cc
rank_le any_entity any_entity h = cc
rank_le (primitive a) (primitive b) h = omega arith
rank_le (set_of a) (set_of b) h = omega arith
rank_le (record_of a o) (record_of b p) h = omega arith
rank_le (entity a) (entity b) h = omega arith
rank_le (action m a) (action n b) h = omega arith
rank_le (extension a) (extension b) h = omega arith
rank_le a b h = from_rank (rank a) (rank b) h

mutual
  pub ty_trans : (t u v : Ty) → ty_cmp t u ≡ Less → ty_cmp u v ≡ Less → ty_cmp t v ≡ Less
  ty_trans never never c h k = cc
  ty_trans true_type true_type c h k = cc
  ty_trans false_type false_type c h k = cc
  ty_trans any_set any_set c h k = cc
  ty_trans any_entity any_entity c h k = cc
  ty_trans (primitive a) (primitive b) (primitive c) h k =
      nat_cmp_total.trans (place_of a) (place_of b) (place_of c) h k
  ty_trans (set_of a) (set_of b) (set_of c) h k = ty_trans a b c h k
  ty_trans (record_of xs o) (record_of ys p) (record_of zs q) h k =
      then_chain (attrs_cmp xs ys) (attrs_cmp ys zs) (attrs_cmp xs zs) (nat_cmp (open_place o) (open_place p))
      (nat_cmp (open_place p) (open_place q)) (nat_cmp (open_place o) (open_place q))
      (attrs_trans xs ys zs) (λ e. ap (λ w. attrs_cmp w zs) (exact_attrs xs ys e))
      (λ e. ap (λ w. attrs_cmp xs w) (sym (exact_attrs ys zs e)))
      (nat_cmp_total.trans (open_place o) (open_place p) (open_place q)) h k
  ty_trans (entity a) (entity b) (entity c) h k = texts_cmp_total.trans a b c h k
  ty_trans (action m xs) (action n ys) (action l zs) h k =
      then_chain (text_cmp m n) (text_cmp n l) (text_cmp m l)
      (attrs_cmp xs ys) (attrs_cmp ys zs) (attrs_cmp xs zs)
      (nat_list_cmp_total.trans m n l) (λ e. ap (λ w. text_cmp w l) (exact_bytes m n e))
      (λ e. ap (λ w. text_cmp m w) (sym (exact_bytes n l e)))
      (attrs_trans xs ys zs) h k
  ty_trans (extension a) (extension b) (extension c) h k = nat_list_cmp_total.trans a b c h k
  ty_trans a b c h k = less_rank a c (omega (arith, rank_le a b h, rank_le b c k))

  pub attrs_trans : (xs ys zs : Attrs) → attrs_cmp xs ys ≡ Less →
      attrs_cmp ys zs ≡ Less → attrs_cmp xs zs ≡ Less
  attrs_trans (attr k t q xs) (attr l u r ys) (attr m v s zs) h n =
      then_chain (entry_cmp k t q l u r) (entry_cmp l u r m v s)
      (entry_cmp k t q m v s) (attrs_cmp xs ys) (attrs_cmp ys zs) (attrs_cmp xs zs)
      (then_chain (text_cmp k l) (text_cmp l m) (text_cmp k m) (ordering_then (ty_cmp t u) (bool_cmp q r))
      (ordering_then (ty_cmp u v) (bool_cmp r s)) (ordering_then (ty_cmp t v) (bool_cmp q s))
      (nat_list_cmp_total.trans k l m) (λ e. ap (λ w. text_cmp w m) (exact_bytes k l e))
      (λ e. ap (λ w. text_cmp k w) (sym (exact_bytes l m e)))
      (then_chain (ty_cmp t u) (ty_cmp u v) (ty_cmp t v) (bool_cmp q r) (bool_cmp r s) (bool_cmp q s)
      (ty_trans t u v) (λ e. ap (λ w. ty_cmp w v) (exact_ty t u e))
      (λ e. ap (λ w. ty_cmp t w) (sym (exact_ty u v e)))
      (bool_cmp_total.trans q r s)))
      (λ e. let f = exact_entry k t q l u r e in λ i. entry_cmp (f.0 i) (f.1 i) (f.2 i) m v s)
      (λ e. let f = exact_entry l u r m v s e in λ i. entry_cmp k t q (sym f.0 i) (sym f.1 i) (sym f.2 i))
      (attrs_trans xs ys zs) h n
  attrs_trans no_attrs no_attrs zs h n = cc
  attrs_trans (attr k t q xs) no_attrs zs h n = cc
  attrs_trans no_attrs (attr l u r ys) (attr m v s zs) h n = refl
  attrs_trans no_attrs (attr l u r ys) no_attrs h n = cc
  attrs_trans (attr k t q xs) (attr l u r ys) no_attrs h n = cc

pub ty_cmp_total : IsTotalOrder ty_cmp
ty_cmp_total = record {
  antisymm = ty_flip;
  trans = ty_trans;
  congr = λ t u v e. ap (λ w. ty_cmp w v) (exact_ty t u e);
}

pub attrs_cmp_total : IsTotalOrder attrs_cmp
attrs_cmp_total = record {
  antisymm = attrs_flip;
  trans = attrs_trans;
  congr = λ t u v e. ap (λ w. attrs_cmp w v) (exact_attrs t u e);
}
