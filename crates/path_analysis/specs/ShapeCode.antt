-- Shapes are stored as trees of numbers.
use Rattle.std.specs.Prelude.{◌≡◌, ℕ, List, refl}
use Rattle.std.specs.Coded.{Coded, coded_ℕ, coded_list}
use Rattle.std.proofs.Common.{arith, ap}
use base.Stored.{Gv, gnil, gnum, gcons, num}
use Rattle.policy_values.specs.Gv.{head, tail}
use Rattle.access_tries.specs.Paths.{coded_path}
use Rattle.reads_spec.specs.Paths.{Shape, no_shape, at_path, set_shape, record_shape, one_of, FieldShapes, no_field_shapes, field_shape}

abbrev text : Coded (List ℕ)
text = coded_list coded_ℕ

abbrev mutual
  pub code : Shape → Gv
  code no_shape = gcons (gnum 0) gnil
  code (at_path p) = gcons (gnum 1) (coded_path.code p)
  code (set_shape a) = gcons (gnum 2) (code a)
  code (record_shape fs) = gcons (gnum 3) (codes_fields fs)
  code (one_of a b) = gcons (gnum 4) (gcons (code a) (code b))

  pub codes_fields : FieldShapes → Gv
  codes_fields no_field_shapes = gnil
  codes_fields (field_shape k a fs) = gcons (gcons (text.code k) (code a)) (codes_fields fs)

mutual
  pub inj : (x y : Shape) → code x ≡ code y → x ≡ y
  inj no_shape no_shape p = refl
  inj (at_path a) (at_path b) p = ap at_path (coded_path.inj a b (ap tail p))
  inj (set_shape a) (set_shape b) p = ap set_shape (inj a b (ap tail p))
  inj (record_shape a) (record_shape b) p = ap record_shape (inj_fields a b (ap tail p))
  inj (one_of a b) (one_of c d) p =
      λ i. one_of (inj a c (ap (λ g. head (tail g)) p) i) (inj b d (ap (λ g. tail (tail g)) p) i)
  inj x y p = absurd (omega (arith, ap (λ g. num (head g)) p))

  pub inj_fields : (xs ys : FieldShapes) → codes_fields xs ≡ codes_fields ys → xs ≡ ys
  inj_fields no_field_shapes no_field_shapes p = refl
  inj_fields (field_shape k x xs) (field_shape l y ys) p =
      λ i. field_shape (text.inj k l (ap (λ g. head (head g)) p) i)
      (inj x y (ap (λ g. tail (head g)) p) i) (inj_fields xs ys (ap tail p) i)
  inj_fields no_field_shapes (field_shape l y ys) p = cc
  inj_fields (field_shape k x xs) no_field_shapes p = cc

abbrev pub coded_shape : Coded Shape
coded_shape = record { code = code; inj = inj }
