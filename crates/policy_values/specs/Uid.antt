-- The order of ids: by type, and then by eid, each in the order of its bytes.
use Rattle.std.specs.Prelude.{◌≡◌, ℕ, Bool, List, refl}
use Rattle.std.specs.declared.cmp.Ordering.{Ordering}
use Rattle.std.specs.declared.cmp.Ordering.TheVariants.{Equal}
use Rattle.std.specs.Ordering.{nat_cmp, ordering_then, is_eq}
use Rattle.std.specs.Cmp.Lexicographic.{slice_cmp, nat_list_cmp_total}
use Rattle.std.proofs.lemmas.Map.Lookups.{exact_bytes, exact_pairs}
use Rattle.std.proofs.Common.{ap}
use Rattle.std.specs.Cmp.{IsTotalOrder, on_total, then_total}
use Rattle.std.specs.Coded.{Coded, coded×, coded_ℕ, coded_list, code_by}
use Rattle.policy_values.specs.declared.entity_uid.EntityUID.{EntityUID}

-- texts in the order of their bytes
abbrev pub text_cmp : List ℕ → List ℕ → Ordering
text_cmp = slice_cmp nat_cmp

-- ids by type, and then by eid
abbrev pub uid_cmp : EntityUID → EntityUID → Ordering
uid_cmp a b = ordering_then (text_cmp a.entity_type b.entity_type) (text_cmp a.eid b.eid)

pub uid_cmp_total : IsTotalOrder uid_cmp
uid_cmp_total =
    then_total (on_total (λ u. u.entity_type) nat_list_cmp_total) (on_total (λ u. u.eid) nat_list_cmp_total)

-- the two ids are one
abbrev pub uid_eq : EntityUID → EntityUID → Bool
uid_eq a b = is_eq (uid_cmp a b)

-- ids that compare equal are equal
pub exact_uid : (x y : EntityUID) → uid_cmp x y ≡ Equal → x ≡ y
exact_uid x y h = ap (λ p. record { entity_type = p.0; eid = p.1 }) (exact_pairs (slice_cmp nat_cmp)
    (slice_cmp nat_cmp) exact_bytes exact_bytes (x.entity_type, x.eid) (y.entity_type, y.eid) h)

pub copied_uid : (x y : EntityUID) → (y.entity_type ≡ x.entity_type) × (y.eid ≡ x.eid) → y ≡ x
copied_uid x y h i = record { entity_type = h.0 i; eid = h.1 i }

-- ids are stored as pairs of texts
abbrev pub coded_uid : Coded EntityUID
coded_uid = code_by (List ℕ × List ℕ) (coded× (coded_list coded_ℕ) (coded_list coded_ℕ))
    (λ u. (u.entity_type, u.eid)) (λ p. record { entity_type = p.0; eid = p.1 }) (λ _. refl)
