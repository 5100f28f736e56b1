-- Values are stored as trees of numbers.
use Rattle.std.specs.Prelude.{◌≡◌, ℕ, List, refl}
use Rattle.std.specs.Coded.{Coded, coded_bool, coded_ℤ, coded_ℕ, coded_list}
use Rattle.std.proofs.Common.{arith, ap}
use base.Stored.{Gv, gnil, gnum, gcons, num}
use Rattle.policy_values.specs.Uid.{coded_uid}
use Rattle.policy_values.specs.Gv.{head, tail}
use Rattle.policy_values.specs.RangeOrder.{coded_range}
use Rattle.policy_values.specs.Value.{Val, truth, long, string, entity, set, rec, decimal, ip, datetime, duration, Vals, no_vals, val, Fields, no_fields, field}

abbrev text : Coded (List ℕ)
text = coded_list coded_ℕ

abbrev mutual
  pub code : Val → Gv
  code (truth b) = gcons (gnum 0) (coded_bool.code b)
  code (long n) = gcons (gnum 1) (coded_ℤ.code n)
  code (string t) = gcons (gnum 2) (text.code t)
  code (entity u) = gcons (gnum 3) (coded_uid.code u)
  code (set vs) = gcons (gnum 4) (codes vs)
  code (rec fs) = gcons (gnum 5) (codes_fields fs)
  code (decimal n) = gcons (gnum 6) (coded_ℤ.code n)
  code (ip r) = gcons (gnum 7) (coded_range.code r)
  code (datetime n) = gcons (gnum 8) (coded_ℤ.code n)
  code (duration n) = gcons (gnum 9) (coded_ℤ.code n)

  pub codes : Vals → Gv
  codes no_vals = gnil
  codes (val v vs) = gcons (code v) (codes vs)

  pub codes_fields : Fields → Gv
  codes_fields no_fields = gnil
  codes_fields (field k v fs) = gcons (gcons (text.code k) (code v)) (codes_fields fs)

mutual
  pub inj : (x y : Val) → code x ≡ code y → x ≡ y
  inj (truth a) (truth b) p = ap truth (coded_bool.inj a b (ap tail p))
  inj (long a) (long b) p = ap long (coded_ℤ.inj a b (ap tail p))
  inj (string a) (string b) p = ap string (text.inj a b (ap tail p))
  inj (entity a) (entity b) p = ap entity (coded_uid.inj a b (ap tail p))
  inj (set a) (set b) p = ap set (inj_all a b (ap tail p))
  inj (rec a) (rec b) p = ap rec (inj_fields a b (ap tail p))
  inj (decimal a) (decimal b) p = ap decimal (coded_ℤ.inj a b (ap tail p))
  inj (ip a) (ip b) p = ap ip (coded_range.inj a b (ap tail p))
  inj (datetime a) (datetime b) p = ap datetime (coded_ℤ.inj a b (ap tail p))
  inj (duration a) (duration b) p = ap duration (coded_ℤ.inj a b (ap tail p))
  inj x y p = absurd (omega (arith, ap (λ g. num (head g)) p))

  pub inj_all : (xs ys : Vals) → codes xs ≡ codes ys → xs ≡ ys
  inj_all no_vals no_vals p = refl
  inj_all (val x xs) (val y ys) p = λ i. val (inj x y (ap head p) i) (inj_all xs ys (ap tail p) i)
  inj_all no_vals (val y ys) p = cc
  inj_all (val x xs) no_vals p = cc

  pub inj_fields : (xs ys : Fields) → codes_fields xs ≡ codes_fields ys → xs ≡ ys
  inj_fields no_fields no_fields p = refl
  inj_fields (field k x xs) (field l y ys) p = λ i. field (text.inj k l (ap (λ g. head (head g)) p) i)
      (inj x y (ap (λ g. tail (head g)) p) i) (inj_fields xs ys (ap tail p) i)
  inj_fields no_fields (field l y ys) p = cc
  inj_fields (field k x xs) no_fields p = cc

abbrev pub coded_val : Coded Val
coded_val = record { code = code; inj = inj }

abbrev pub coded_fields : Coded Fields
coded_fields = record { code = codes_fields; inj = inj_fields }
