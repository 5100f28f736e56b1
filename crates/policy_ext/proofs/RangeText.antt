-- What is written of a range is a text of it.
use Rattle.std.proofs.Common.{◌≡◌, ℕ, zero, suc, ◌+◌, ◌*◌, ◌/◌, ◌%◌, ◌^◌, ◌<◌, ◌≤◌, ◌==◌, inl, inr, Bool, true, false, List, [], ◌∷◌, length, cond, refl, sym, arith, append_assoc}
use Rattle.std.proofs.Math.Nat.{pow-suc}
use Rattle.std.proofs.lemmas.Bool.{eqb-false}
use Rattle.std.proofs.lemmas.Fmt.{digits_is_IsNumeral}
use Rattle.std.proofs.lemmas.Nat.{shr-shr}
use Rattle.std.specs.Fmt.{digits, digits_onto, digit_glyph}
use Rattle.std.specs.Str.Parse.{digits_value}
use Rattle.policy_ext.specs.declared.ip_addr.Family.{Family}
use Rattle.policy_ext.specs.declared.ip_addr.Family.TheVariants.{V4, V6}
use Rattle.policy_ext.specs.IpAddr.{IsIpv4, IsGroup, IsFull, Range, IsAddress, IsRange, FitsWidth, width}
use Rattle.policy_ext.specs.IpText.{ipv4_text, group_text, address_text, range_text}

onto_short : (k n j : ℕ) (acc : List ℕ) → n < 16 ^ suc j → length (digits_onto k 16 false n acc) ≤ suc j + length acc
onto_short zero n j acc small = omega arith
onto_short (suc k) n j acc small = by (n / 16 == 0) refl j small (λ i h. onto_short k (n / 16) i (digit_glyph false (n % 16) ∷ acc) h) where
  by : (t : Bool) → (n / 16 == 0) ≡ t → (j : ℕ) → n < 16 ^ suc j → ((i : ℕ) → n / 16 < 16 ^ suc i → length (digits_onto k 16 false (n / 16) (digit_glyph false (n % 16) ∷ acc)) ≤ suc i + suc (length acc)) → length (cond t (digit_glyph false (n % 16) ∷ acc) (digits_onto k 16 false (n / 16) (digit_glyph false (n % 16) ∷ acc))) ≤ suc j + length acc
  by true is j small later = omega arith
  by false is zero small later = absurd (eqb-false (n / 16) 0 is (omega arith))
  by false is (suc j) small later = omega (arith, later j (omega (arith, pow-suc 16 (suc j))))

short_digits : (n : ℕ) → n < 65536 → length (digits 16 false n) ≤ 4
unfolding digits
short_digits n h = omega (arith, onto_short 64 n 3 [] h)

group_is : (bits : ℕ) → IsGroup (group_text bits) × (digits_value 16 (group_text bits) ≡ bits % 65536)
group_is bits = let num = digits_is_IsNumeral 16 false (omega arith) (omega arith) (bits % 65536) (omega arith) in ((num.0, short_digits (bits % 65536) (omega arith)), num.1)

four_value : (n : ℕ) → n < 2 ^ 64 → ((n / 2 ^ 48 % 65536 * 65536 + n / 2 ^ 32 % 65536) * 65536 + n / 2 ^ 16 % 65536) * 65536 + n % 65536 ≡ n
four_value n h = omega (arith, shr-shr n 16 16, shr-shr n 32 16)

ipv6_written : (bits : ℕ) → bits < 2 ^ 128 → IsFull (address_text V6 bits) bits
ipv6_written bits small =
    let h = bits / 2 ^ 64 in
    let l = bits % 2 ^ 64 in
    let a = group_is (h / 2 ^ 48) in
    let b = group_is (h / 2 ^ 32) in
    let c = group_is (h / 2 ^ 16) in
    let d = group_is h in
    let e = group_is (l / 2 ^ 48) in
    let f = group_is (l / 2 ^ 32) in
    let g = group_is (l / 2 ^ 16) in
    let k = group_is l in
    record {
      groups = group_text (h / 2 ^ 48) ∷ group_text (h / 2 ^ 32) ∷ group_text (h / 2 ^ 16) ∷ group_text h ∷ group_text (l / 2 ^ 48) ∷ group_text (l / 2 ^ 32) ∷ group_text (l / 2 ^ 16) ∷ group_text l ∷ [];
      eight = refl;
      each = (a.0, (b.0, (c.0, (d.0, (e.0, (f.0, (g.0, (k.0, tt))))))));
      spelled = simp append_assoc;
      value = sym (rw (a.1, b.1, c.1, d.1, e.1, f.1, g.1, k.1) (omega (arith, four_value h (omega arith), four_value l (omega arith))));
    }

ipv4_written : (bits : ℕ) → bits < 2 ^ 32 → IsIpv4 (ipv4_text bits) bits
ipv4_written bits small = record { first = bits / 16777216; second = bits / 65536 % 256; third = bits / 256 % 256; fourth = bits % 256; first_fits = omega arith; second_fits = omega arith; third_fits = omega arith; fourth_fits = omega arith; spelled = refl; value = omega (arith, shr-shr bits 8 8, shr-shr bits 16 8) }

pub range_written : (v : Range) → FitsWidth v.family v.bits v.prefix → IsRange (range_text v) v
range_written v fits = record { address = address_text v.family v.bits; is = of v.family v.bits fits.bits_fit; spelled = inr (refl, fits.prefix_fits) } where
  of : (f : Family) (bits : ℕ) → bits < 2 ^ width f → IsAddress f (address_text f bits) bits
  of V4 bits small = ipv4_written bits small
  of V6 bits small = inl (ipv6_written bits small)
