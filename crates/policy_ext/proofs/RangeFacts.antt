-- Ranges of addresses: what is read is written so, and what is written so is read.
use Rattle.std.proofs.Common.{◌≡◌, ◌↔◌, ℕ, ◌^◌, ◌<◌, ◌≤◌, ◌⊎◌, inl, inr, false, List, [], ◌∷◌, ◌++◌, Option, Some, None, refl, sym, ap, ◌∙◌, arith, subst}
use Rattle.std.specs.Char.{digit_value}
use Rattle.std.specs.Fmt.{decimal}
use Rattle.std.specs.List.{AllByRecursion, join_with_byte}
use Rattle.std.specs.Option.{option_map}
use Rattle.std.proofs.lemmas.Option.{same_Some}
use Rattle.policy_ext.specs.declared.ip_addr.Family.{Family}
use Rattle.policy_ext.specs.declared.ip_addr.Family.TheVariants.{V4, V6}
use Rattle.policy_ext.specs.NumberReading.{cut, plain_of}
use Rattle.policy_ext.specs.IpAddr.{IsIpv4, IsGroup, IsIpv6, Range, IsAddress, IsRange, width}
use Rattle.policy_ext.specs.IpReading.{or_else, of_family, address_of, range_from, range_of, ipv4_of, ipv6_of}
use Rattle.policy_ext.proofs.NumberFacts.{bind, mapped, cut_found}
use Rattle.policy_ext.proofs.LackFacts.{has, has_append, has_next, digits_lack, decimal_lacks, cut_none, cut_lacking}
use Rattle.policy_ext.proofs.Ipv4Facts.{plain_found, plain_is, ipv4_found, ipv4_is}
use Rattle.policy_ext.proofs.Ipv6Facts.{ipv6_found, ipv6_is}

joined_lacks : (c : ℕ) (gs : List (List ℕ)) → (58 ≡ c → ⊥) → 16 ≤ digit_value c → AllByRecursion IsGroup gs → has c (join_with_byte 58 gs) ≡ false
unfolding has
joined_lacks c [] n h each = refl
joined_lacks c (g ∷ []) n h each = digits_lack 16 c g h each.0.0.1
joined_lacks c (g ∷ k ∷ gs) n h each = has_append c g _ (digits_lack 16 c g h each.0.0.1) (has_next c 58 _ n (joined_lacks c (k ∷ gs) n h each.1))

ipv4_lacks_slash : (text : List ℕ) (bits : ℕ) → IsIpv4 text bits → has 47 text ≡ false
ipv4_lacks_slash text bits v =
    ap (has 47) v.spelled
    ∙ has_append 47 (decimal v.first) _ (decimal_lacks 47 v.first (omega arith) (omega (arith, v.first_fits))) (has_next 47 46 _ (λ e. omega (arith, e))
    (has_append 47 (decimal v.second) _ (decimal_lacks 47 v.second (omega arith) (omega (arith, v.second_fits))) (has_next 47 46 _ (λ e. omega (arith, e))
    (has_append 47 (decimal v.third) _ (decimal_lacks 47 v.third (omega arith) (omega (arith, v.third_fits))) (has_next 47 46 _ (λ e. omega (arith, e)) (decimal_lacks 47 v.fourth (omega arith) (omega (arith, v.fourth_fits))))))))

ipv6_lacks : (c : ℕ) (text : List ℕ) (bits : ℕ) → (58 ≡ c → ⊥) → 16 ≤ digit_value c → IsIpv6 text bits → has c text ≡ false
ipv6_lacks c text bits n h (inl f) = ap (has c) f.spelled ∙ joined_lacks c f.groups n h f.each
ipv6_lacks c text bits n h (inr s) = ap (has c) s.spelled ∙ has_append c (join_with_byte 58 s.left) _ (joined_lacks c s.left n h s.left_each) (has_next c 58 _ n (has_next c 58 _ n (joined_lacks c s.right n h s.right_each)))

address_lacks_slash : (f : Family) (text : List ℕ) (bits : ℕ) → IsAddress f text bits → has 47 text ≡ false
address_lacks_slash V4 text bits v = ipv4_lacks_slash text bits v
address_lacks_slash V6 text bits v = ipv6_lacks 47 text bits (λ e. omega (arith, e)) (omega arith) v

address_by : (text : List ℕ) (a : Family × ℕ) (o p : Option ℕ) → ipv4_of text ≡ o → ipv6_of text ≡ p → or_else (of_family V4) o (option_map (of_family V6) p) ≡ Some a → IsAddress a.0 text a.1
address_by text a (Some bits) p is other e = subst (λ (x : Family × ℕ). IsAddress x.0 text x.1) (same_Some _ _ e) (ipv4_found text bits is)
address_by text a None (Some bits) is other e = subst (λ (x : Family × ℕ). IsAddress x.0 text x.1) (same_Some _ _ e) (ipv6_found text bits other)
address_by text a None None is other e = cc

address_found : (text : List ℕ) (a : Family × ℕ) → address_of text ≡ Some a → IsAddress a.0 text a.1
address_found text a e = address_by text a (ipv4_of text) (ipv6_of text) refl refl e

not_ipv4 : (text : List ℕ) → has 46 text ≡ false → ipv4_of text ≡ None
not_ipv4 text h = rw (cut_none 46 text h) refl

address_is : (f : Family) (text : List ℕ) (bits : ℕ) → IsAddress f text bits → address_of text ≡ Some (f, bits)
address_is V4 text bits v = rw (ipv4_is text bits v) refl
address_is V6 text bits v = rw (not_ipv4 text (ipv6_lacks 46 text bits (λ e. omega (arith, e)) (omega arith) v)) (rw (ipv6_is text bits v) refl)

width_fits : (f : Family) → width f < 2 ^ 64
width_fits V4 = omega arith
width_fits V6 = omega arith

range_by : (text : List ℕ) (v : Range) (o : Option (List ℕ × List ℕ)) → cut 47 text ≡ o → range_from text o ≡ Some v → IsRange text v
range_by text v (Some p) is e =
    let a = bind _ (address_of p.0) v e in
    let n = mapped _ (plain_of (width a.0.0) p.1) v a.2 in
    let address = address_found p.0 a.0 a.1 in
    let plain = plain_found (width a.0.0) p.1 n.0 (width_fits a.0.0) n.1 in
    subst (IsRange text) n.2 (record { address = p.0; is = address; spelled = inr (cut_found 47 text p.0 p.1 is ∙ ap (λ (l : List ℕ). p.0 ++ 47 ∷ l) plain.0, plain.1) })
range_by text v None is e =
    let a = mapped _ (address_of text) v e in
    subst (IsRange text) a.2 (record { address = text; is = address_found text a.0 a.1; spelled = inl (refl, refl) })

range_found : (text : List ℕ) (v : Range) → range_of text ≡ Some v → IsRange text v
range_found text v e = range_by text v (cut 47 text) refl e

range_spelled : (text address : List ℕ) (v : Range) → IsAddress v.family address v.bits → ((text ≡ address) × (v.prefix ≡ width v.family)) ⊎ ((text ≡ address ++ 47 ∷ decimal v.prefix) × (v.prefix ≤ width v.family)) → range_of text ≡ Some v
range_spelled text address v is (inl whole) =
    ap range_of whole.0 ∙ rw (cut_none 47 address (address_lacks_slash v.family address v.bits is)) (rw (address_is v.family address v.bits is) (ap (λ (n : ℕ). Some (record v { prefix = n })) (sym whole.1)))
range_spelled text address v is (inr cut) =
    ap range_of cut.0 ∙ rw (cut_lacking 47 address (decimal v.prefix) (address_lacks_slash v.family address v.bits is)) (rw (address_is v.family address v.bits is) (rw (plain_is (width v.family) v.prefix (width_fits v.family) cut.1) refl))

pub range_exact : (text : List ℕ) (v : Range) → (range_of text ≡ Some v) ↔ IsRange text v
range_exact text v = (range_found text v, λ r. range_spelled text r.address v r.is r.spelled)
