-- The order of values is total, and ties are equal.
use Rattle.std.proofs.Common.{◌≡◌, ℕ, true, false, ap, ◌∙◌, sym, refl, ◌<◌, ◌≤◌, arith}
use Rattle.std.proofs.lemmas.Bool.Decides.{nat_tests}
use Rattle.std.specs.declared.cmp.Ordering.TheVariants.{Less, Equal}
use Rattle.std.specs.Ordering.{nat_cmp, bool_cmp, ordering_then, ordering_reverse}
use Rattle.std.specs.Cmp.{IsTotalOrder, then_flip, then_total, on_total, nat_cmp_total, bool_cmp_total, int_cmp_total}
use Rattle.std.proofs.lemmas.Cmp.{nat_list_cmp_total}
use Rattle.std.proofs.lemmas.Map.Lookups.{CmpEqualImpliesEq, exact_signed, exact_unsigned, exact_bytes}
use Rattle.policy_values.specs.Value.{Val, truth, long, string, entity, set, rec, decimal, ip, datetime, duration, Vals, no_vals, val, Fields, no_fields, field}
use Rattle.policy_values.specs.Uid.{text_cmp, uid_cmp_total, exact_uid}
use Rattle.policy_ext.specs.declared.ip_addr.Family.{Family}
use Rattle.policy_ext.specs.declared.ip_addr.Family.TheVariants.{V4, V6}
use Rattle.policy_values.specs.Ties.{then_equal, then_chain}
use Rattle.policy_values.specs.RangeOrder.{family_rank, range_cmp}
use Rattle.policy_values.specs.ValueOrder.{rank, val_cmp, vals_cmp, fields_cmp}

pub exact_bool : CmpEqualImpliesEq bool_cmp
exact_bool true true h = refl
exact_bool false false h = refl
exact_bool true false h = cc
exact_bool false true h = cc

exact_family : (a b : Family) → family_rank a ≡ family_rank b → a ≡ b
exact_family V4 V4 h = refl
exact_family V6 V6 h = refl
exact_family V4 V6 h = absurd (omega arith)
exact_family V6 V4 h = absurd (omega arith)

exact_range : CmpEqualImpliesEq range_cmp
exact_range v w h =
    let e = then_equal (nat_cmp (family_rank v.family) (family_rank w.family))
    (ordering_then (nat_cmp v.bits w.bits) (nat_cmp v.prefix w.prefix)) h in
    let f = then_equal (nat_cmp v.bits w.bits) (nat_cmp v.prefix w.prefix) e.1 in
    λ i. record {
      family =
          exact_family v.family w.family (exact_unsigned (family_rank v.family) (family_rank w.family) e.0) i;
      bits = exact_unsigned v.bits w.bits f.0 i;
      prefix = exact_unsigned v.prefix w.prefix f.1 i;
    }

range_total : IsTotalOrder range_cmp
range_total = then_total (on_total (λ r. family_rank r.family) nat_cmp_total)
    (then_total (on_total (λ r. r.bits) nat_cmp_total) (on_total (λ r. r.prefix) nat_cmp_total))

by_rank : (m n : ℕ) → m < n → nat_cmp m n ≡ Less
by_rank m n h = grind (arith, nat_tests)

from_rank : (m n : ℕ) → nat_cmp m n ≡ Less → m ≤ n
from_rank m n h = grind (arith, nat_tests)

-- values that tie are equal
mutual
  pub exact_val : (x y : Val) → val_cmp x y ≡ Equal → x ≡ y
  exact_val (truth a) (truth b) h = ap truth (exact_bool a b h)
  exact_val (long a) (long b) h = ap long (exact_signed a b h)
  exact_val (string a) (string b) h = ap string (exact_bytes a b h)
  exact_val (entity a) (entity b) h = ap entity (exact_uid a b h)
  exact_val (set a) (set b) h = ap set (exact_vals a b h)
  exact_val (rec a) (rec b) h = ap rec (exact_fields a b h)
  exact_val (decimal a) (decimal b) h = ap decimal (exact_signed a b h)
  exact_val (ip a) (ip b) h = ap ip (exact_range a b h)
  exact_val (datetime a) (datetime b) h = ap datetime (exact_signed a b h)
  exact_val (duration a) (duration b) h = ap duration (exact_signed a b h)
  exact_val a b h = cc

  pub exact_vals : (xs ys : Vals) → vals_cmp xs ys ≡ Equal → xs ≡ ys
  exact_vals no_vals no_vals h = refl
  exact_vals no_vals (val y ys) h = cc
  exact_vals (val x xs) no_vals h = cc
  exact_vals (val x xs) (val y ys) h =
      let e = then_equal (val_cmp x y) (vals_cmp xs ys) h in
      λ i. val (exact_val x y e.0 i) (exact_vals xs ys e.1 i)

  pub exact_fields : (xs ys : Fields) → fields_cmp xs ys ≡ Equal → xs ≡ ys
  exact_fields no_fields no_fields h = refl
  exact_fields no_fields (field l y ys) h = cc
  exact_fields (field k x xs) no_fields h = cc
  exact_fields (field k x xs) (field l y ys) h =
      let e = then_equal (ordering_then (text_cmp k l) (val_cmp x y)) (fields_cmp xs ys) h in
      let f = then_equal (text_cmp k l) (val_cmp x y) e.0 in
      λ i. field (exact_bytes k l f.0 i) (exact_val x y f.1 i) (exact_fields xs ys e.1 i)

-- turned round, the order is reversed
mutual
  pub val_flip : (x y : Val) → val_cmp x y ≡ ordering_reverse (val_cmp y x)
  val_flip (truth a) (truth b) = bool_cmp_total.antisymm a b
  val_flip (long a) (long b) = int_cmp_total.antisymm a b
  val_flip (string a) (string b) = nat_list_cmp_total.antisymm a b
  val_flip (entity a) (entity b) = uid_cmp_total.antisymm a b
  val_flip (set a) (set b) = vals_flip a b
  val_flip (rec a) (rec b) = fields_flip a b
  val_flip (decimal a) (decimal b) = int_cmp_total.antisymm a b
  val_flip (ip a) (ip b) = range_total.antisymm a b
  val_flip (datetime a) (datetime b) = int_cmp_total.antisymm a b
  val_flip (duration a) (duration b) = int_cmp_total.antisymm a b
  val_flip a b = refl

  pub vals_flip : (xs ys : Vals) → vals_cmp xs ys ≡ ordering_reverse (vals_cmp ys xs)
  vals_flip no_vals no_vals = refl
  vals_flip no_vals (val y ys) = refl
  vals_flip (val x xs) no_vals = refl
  vals_flip (val x xs) (val y ys) =
      (λ i. ordering_then (val_flip x y i) (vals_flip xs ys i)) ∙ then_flip (val_cmp y x) (vals_cmp ys xs)

  pub fields_flip : (xs ys : Fields) → fields_cmp xs ys ≡ ordering_reverse (fields_cmp ys xs)
  fields_flip no_fields no_fields = refl
  fields_flip no_fields (field l y ys) = refl
  fields_flip (field k x xs) no_fields = refl
  fields_flip (field k x xs) (field l y ys) =
      (λ i. ordering_then (ordering_then (nat_list_cmp_total.antisymm k l i) (val_flip x y i))
      (fields_flip xs ys i))
      ∙ (λ i. ordering_then (then_flip (text_cmp l k) (val_cmp y x) i) (ordering_reverse (fields_cmp ys xs)))
      ∙ then_flip (ordering_then (text_cmp l k) (val_cmp y x)) (fields_cmp ys xs)

-- a kind that comes first decides
less_rank : (x z : Val) → rank x < rank z → val_cmp x z ≡ Less
less_rank (truth a) (truth b) h = absurd (omega arith)
less_rank (long a) (long b) h = absurd (omega arith)
less_rank (string a) (string b) h = absurd (omega arith)
less_rank (entity a) (entity b) h = absurd (omega arith)
less_rank (set a) (set b) h = absurd (omega arith)
less_rank (rec a) (rec b) h = absurd (omega arith)
less_rank (decimal a) (decimal b) h = absurd (omega arith)
less_rank (ip a) (ip b) h = absurd (omega arith)
less_rank (datetime a) (datetime b) h = absurd (omega arith)
less_rank (duration a) (duration b) h = absurd (omega arith)
less_rank a b h = by_rank (rank a) (rank b) h

-- what comes before is of no later kind
rank_le : (x y : Val) → val_cmp x y ≡ Less → rank x ≤ rank y
rank_le (truth a) (truth b) h = omega arith
rank_le (long a) (long b) h = omega arith
rank_le (string a) (string b) h = omega arith
rank_le (entity a) (entity b) h = omega arith
rank_le (set a) (set b) h = omega arith
rank_le (rec a) (rec b) h = omega arith
rank_le (decimal a) (decimal b) h = omega arith
rank_le (ip a) (ip b) h = omega arith
rank_le (datetime a) (datetime b) h = omega arith
rank_le (duration a) (duration b) h = omega arith
rank_le a b h = from_rank (rank a) (rank b) h

-- before what comes before
mutual
  pub val_trans : (x y z : Val) → val_cmp x y ≡ Less → val_cmp y z ≡ Less → val_cmp x z ≡ Less
  val_trans (truth a) (truth b) (truth c) h k = bool_cmp_total.trans a b c h k
  val_trans (long a) (long b) (long c) h k = int_cmp_total.trans a b c h k
  val_trans (string a) (string b) (string c) h k = nat_list_cmp_total.trans a b c h k
  val_trans (entity a) (entity b) (entity c) h k = uid_cmp_total.trans a b c h k
  val_trans (set a) (set b) (set c) h k = vals_trans a b c h k
  val_trans (rec a) (rec b) (rec c) h k = fields_trans a b c h k
  val_trans (decimal a) (decimal b) (decimal c) h k = int_cmp_total.trans a b c h k
  val_trans (ip a) (ip b) (ip c) h k = range_total.trans a b c h k
  val_trans (datetime a) (datetime b) (datetime c) h k = int_cmp_total.trans a b c h k
  val_trans (duration a) (duration b) (duration c) h k = int_cmp_total.trans a b c h k
  val_trans a b c h k = less_rank a c (omega (arith, rank_le a b h, rank_le b c k))

  pub vals_trans : (xs ys zs : Vals) → vals_cmp xs ys ≡ Less → vals_cmp ys zs ≡ Less → vals_cmp xs zs ≡ Less
  vals_trans (val x xs) (val y ys) (val z zs) h k =
      then_chain (val_cmp x y) (val_cmp y z) (val_cmp x z) (vals_cmp xs ys) (vals_cmp ys zs) (vals_cmp xs zs)
      (val_trans x y z) (λ e. ap (λ w. val_cmp w z) (exact_val x y e))
      (λ e. ap (λ w. val_cmp x w) (sym (exact_val y z e)))
      (vals_trans xs ys zs) h k
  vals_trans no_vals no_vals zs h k = cc
  vals_trans (val x xs) no_vals zs h k = cc
  vals_trans no_vals (val y ys) (val z zs) h k = refl
  vals_trans no_vals (val y ys) no_vals h k = cc
  vals_trans (val x xs) (val y ys) no_vals h k = cc

  pub fields_trans : (xs ys zs : Fields) → fields_cmp xs ys ≡ Less →
      fields_cmp ys zs ≡ Less → fields_cmp xs zs ≡ Less
  fields_trans (field k x xs) (field l y ys) (field m z zs) h n =
      then_chain (ordering_then (text_cmp k l) (val_cmp x y)) (ordering_then (text_cmp l m) (val_cmp y z))
      (ordering_then (text_cmp k m) (val_cmp x z)) (fields_cmp xs ys) (fields_cmp ys zs) (fields_cmp xs zs)
      (then_chain (text_cmp k l) (text_cmp l m) (text_cmp k m) (val_cmp x y) (val_cmp y z) (val_cmp x z)
      (nat_list_cmp_total.trans k l m) (λ e. ap (λ w. text_cmp w m) (exact_bytes k l e))
      (λ e. ap (λ w. text_cmp k w) (sym (exact_bytes l m e)))
      (val_trans x y z))
      (λ e. let f = then_equal (text_cmp k l) (val_cmp x y) e in
      λ i. ordering_then (text_cmp (exact_bytes k l f.0 i) m) (val_cmp (exact_val x y f.1 i) z))
      (λ e. let f = then_equal (text_cmp l m) (val_cmp y z) e in
      λ i. ordering_then (text_cmp k (sym (exact_bytes l m f.0) i)) (val_cmp x (sym (exact_val y z f.1) i)))
      (fields_trans xs ys zs) h n
  fields_trans no_fields no_fields zs h n = cc
  fields_trans (field k x xs) no_fields zs h n = cc
  fields_trans no_fields (field l y ys) (field m z zs) h n = refl
  fields_trans no_fields (field l y ys) no_fields h n = cc
  fields_trans (field k x xs) (field l y ys) no_fields h n = cc

pub val_cmp_total : IsTotalOrder val_cmp
val_cmp_total = record {
  antisymm = val_flip;
  trans = val_trans;
  congr = λ x y z e. ap (λ w. val_cmp w z) (exact_val x y e);
}
