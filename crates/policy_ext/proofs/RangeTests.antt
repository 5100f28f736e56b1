-- What is asked of ranges: by bits, and as sets of addresses, are the same.
use Rattle.std.proofs.Common.{◌≡◌, ◌↔◌, ℕ, ◌+◌, ◌-◌, ◌*◌, ◌/◌, ◌^◌, ◌<◌, ◌≤◌, ◌⊎◌, inl, inr, ◌==◌, ◌&&◌, nat_le, IsTrue, refl, sym, ap, ◌∙◌, arith, subst, mod-lt}
use Rattle.std.proofs.lemmas.Bool.{le-leb, leb-true, eq-eqb, eqb-true, and_parts, and_from, cases_lt}
use Rattle.std.proofs.lemmas.Nat.{div-mul-add, shl-shr, pow_below, pow_pos, shr-shr, shr_split}
use Rattle.policy_ext.specs.declared.ip_addr.Family.{Family}
use Rattle.policy_ext.specs.declared.ip_addr.Family.TheVariants.{V4, V6}
use Rattle.policy_ext.specs.IpAddr.{Range, width}
use Rattle.policy_ext.specs.IpTests.{first_bits, IsIn, IsInRange, same_family, in_range}

family_same : (f g : Family) → IsTrue (same_family f g) → f ≡ g
family_same V4 V4 e = refl
family_same V4 V6 e = cc
family_same V6 V4 e = cc
family_same V6 V6 e = refl

same_itself : (f : Family) → IsTrue (same_family f f)
same_itself V4 = refl
same_itself V6 = refl

-- blocks of 2 ^ i numbers inside blocks of 2 ^ j
coarser : (a b i j : ℕ) → i ≤ j → a / 2 ^ i ≡ b / 2 ^ i → a / 2 ^ j ≡ b / 2 ^ j
coarser a b i j le e =
    let sum : i + (j - i) ≡ j = omega arith in
    let by : (n : ℕ) → n / 2 ^ j ≡ n / 2 ^ i / 2 ^ (j - i) = λ n. ap (λ k. n / 2 ^ k) (sym sum) ∙ sym (shr-shr n i (j - i)) in
    by a ∙ ap (λ n. n / 2 ^ (j - i)) e ∙ sym (by b)

-- where each number of the block of a is in the block of b, that block is no smaller
no_smaller : (a b i j : ℕ) → ((n : ℕ) → n / 2 ^ i ≡ a / 2 ^ i → n / 2 ^ j ≡ b / 2 ^ j) → i ≤ j
no_smaller a b i j inside = by (cases_lt j i) where
  by : (j < i) ⊎ (i ≤ j) → i ≤ j
  by (inr le) = le
  by (inl below) =
      let q = a / 2 ^ i in
      let first = inside (q * 2 ^ i) (shl-shr q i) in
      let last = inside (q * 2 ^ i + 2 ^ j) (div-mul-add q (2 ^ i) (2 ^ j) (pow_below j i below)) in
      absurd (omega (arith, shr_split (q * 2 ^ i) j, shr_split (q * 2 ^ i + 2 ^ j) j, ap (λ k. k * 2 ^ j) first, ap (λ k. k * 2 ^ j) last, mod-lt (q * 2 ^ i) (pow_pos j), mod-lt (q * 2 ^ i + 2 ^ j) (pow_pos j)))

same_family_in : (v w : Range) → w.prefix ≤ width w.family → v.family ≡ w.family → (IsTrue (nat_le w.prefix v.prefix && (first_bits w.family w.prefix v.bits == first_bits w.family w.prefix w.bits))) ↔ ((address : ℕ) → IsIn address v → IsIn address w)
same_family_in v w fits family =
    let narrow = width v.family - v.prefix in
    let wide = width w.family - w.prefix in
    let width_is : width v.family ≡ width w.family = ap width family in (
      λ e.
          let parts = and_parts (nat_le w.prefix v.prefix) _ e in
          let longer : w.prefix ≤ v.prefix = leb-true _ _ parts.0 in
          λ address is. coarser address v.bits narrow wide (omega arith) is ∙ eqb-true _ _ parts.1,
      λ inside.
          let larger : narrow ≤ wide = no_smaller v.bits w.bits narrow wide inside in
          and_from _ _ (le-leb w.prefix v.prefix (omega arith)) (eq-eqb _ _ (inside v.bits refl)),
    )

pub in_range_exact : (v w : Range) → w.prefix ≤ width w.family → IsTrue (in_range v w) ↔ IsInRange v w
in_range_exact v w fits = (
  λ e.
      let parts = and_parts (same_family v.family w.family) _ e in
      let family = family_same v.family w.family parts.0 in
      (family, (same_family_in v w fits family).0 parts.1),
  λ r. and_from _ _ (subst (λ f. IsTrue (same_family v.family f)) r.0 (same_itself v.family)) ((same_family_in v w fits r.0).1 r.1),
)
