-- Types are stored as trees of numbers.
use Rattle.std.specs.Prelude.{◌≡◌, ℕ, List, refl}
use Rattle.std.specs.Coded.{Coded, coded_bool, coded_ℕ, coded_list}
use Rattle.std.proofs.Common.{arith, ap}
use base.Stored.{Gv, gnil, gnum, gcons, num}
use Rattle.policy_values.specs.Gv.{head, tail}
use Rattle.schema_types.specs.contracts.kinds.Primitive.{the_row as primitive_row}
use Rattle.schema_types.specs.contracts.kinds.OpenTag.{the_row as open_row}
use Rattle.schema_types.specs.Ty.{Ty, never, true_type, false_type, primitive, any_set, set_of, record_of, any_entity, entity, action, extension, Attrs, no_attrs, attr}

abbrev text : Coded (List ℕ)
text = coded_list coded_ℕ

abbrev texts : Coded (List (List ℕ))
texts = coded_list text

abbrev mutual
  pub code : Ty → Gv
  code never = gcons (gnum 0) gnil
  code true_type = gcons (gnum 1) gnil
  code false_type = gcons (gnum 2) gnil
  code (primitive p) = gcons (gnum 3) (primitive_row.coded.code p)
  code any_set = gcons (gnum 4) gnil
  code (set_of t) = gcons (gnum 5) (code t)
  code (record_of xs o) = gcons (gnum 6) (gcons (code_attrs xs) (open_row.coded.code o))
  code any_entity = gcons (gnum 7) gnil
  code (entity xs) = gcons (gnum 8) (texts.code xs)
  code (action n xs) = gcons (gnum 9) (gcons (text.code n) (code_attrs xs))
  code (extension n) = gcons (gnum 10) (text.code n)

  pub code_attrs : Attrs → Gv
  code_attrs no_attrs = gnil
  code_attrs (attr k t q xs) =
      gcons (gcons (gcons (text.code k) (code t)) (coded_bool.code q)) (code_attrs xs)

mutual
  pub inj : (x y : Ty) → code x ≡ code y → x ≡ y
  inj never never p = refl
  inj true_type true_type p = refl
  inj false_type false_type p = refl
  inj (primitive a) (primitive b) p = ap primitive (primitive_row.coded.inj a b (ap tail p))
  inj any_set any_set p = refl
  inj (set_of a) (set_of b) p = ap set_of (inj a b (ap tail p))
  inj (record_of xs o) (record_of ys u) p = λ i. record_of (inj_attrs xs ys (ap (λ g. head (tail g)) p) i)
      (open_row.coded.inj o u (ap (λ g. tail (tail g)) p) i)
  inj any_entity any_entity p = refl
  inj (entity xs) (entity ys) p = ap entity (texts.inj xs ys (ap tail p))
  inj (action m xs) (action n ys) p =
      λ i. action (text.inj m n (ap (λ g. head (tail g)) p) i) (inj_attrs xs ys (ap (λ g. tail (tail g)) p) i)
  inj (extension m) (extension n) p = ap extension (text.inj m n (ap tail p))
  inj x y p = absurd (omega (arith, ap (λ g. num (head g)) p))

  pub inj_attrs : (xs ys : Attrs) → code_attrs xs ≡ code_attrs ys → xs ≡ ys
  inj_attrs no_attrs no_attrs p = refl
  inj_attrs (attr k t q xs) (attr l u r ys) p = λ i. attr
      (text.inj k l (ap (λ g. head (head (head g))) p) i) (inj t u (ap (λ g. tail (head (head g))) p) i)
      (coded_bool.inj q r (ap (λ g. tail (head g)) p) i) (inj_attrs xs ys (ap tail p) i)
  inj_attrs no_attrs (attr l u r ys) p = cc
  inj_attrs (attr k t q xs) no_attrs p = cc

abbrev pub coded_ty : Coded Ty
coded_ty = record { code = code; inj = inj }

abbrev pub coded_attrs : Coded Attrs
coded_attrs = record { code = code_attrs; inj = inj_attrs }
