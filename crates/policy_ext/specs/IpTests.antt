-- Which addresses a range holds, and what is asked of ranges: as sets of addresses (`Is..`), and by bits.
use Rattle.std.specs.Prelude.{ℕ, ◌*◌, ◌-◌, ◌/◌, ◌^◌, ◌≡◌, ◌⊎◌, Bool, true, false, ◌&&◌, ◌||◌, ◌==◌, nat_le}
use Rattle.policy_ext.specs.declared.ip_addr.Family.{Family}
use Rattle.policy_ext.specs.declared.ip_addr.Family.TheVariants.{V4, V6}
use Rattle.policy_ext.specs.IpAddr.{Range, width}

-- the first bits of an address, as many as `prefix` says
abbrev pub first_bits : Family → ℕ → ℕ → ℕ
first_bits family prefix bits = bits / 2 ^ (width family - prefix)

-- The address lies in the range: they share the first bits that count.
abbrev pub IsIn : ℕ → Range → Type 0
IsIn address range =
    first_bits range.family range.prefix address ≡ first_bits range.family range.prefix range.bits

-- The range v lies inside w: one family, and each address of v is one of w.
abbrev pub IsInRange : Range → Range → Type 0
IsInRange v w = (v.family ≡ w.family) × ((address : ℕ) → IsIn address v → IsIn address w)

-- 127.0.0.0/8, ::1/128, 224.0.0.0/4 and ff00::/8
abbrev pub loopback_v4 : Range
loopback_v4 = record { family = V4; bits = 127 * 2 ^ 24; prefix = 8 }

abbrev pub loopback_v6 : Range
loopback_v6 = record { family = V6; bits = 1; prefix = 128 }

abbrev pub multicast_v4 : Range
multicast_v4 = record { family = V4; bits = 224 * 2 ^ 24; prefix = 4 }

abbrev pub multicast_v6 : Range
multicast_v6 = record { family = V6; bits = 255 * 2 ^ 120; prefix = 8 }

abbrev pub IsLoopback : Range → Type 0
IsLoopback v = IsInRange v loopback_v4 ⊎ (v ≡ loopback_v6)

abbrev pub IsMulticast : Range → Type 0
IsMulticast v = IsInRange v multicast_v4 ⊎ IsInRange v multicast_v6

-- the same by bits
abbrev pub same_family : Family → Family → Bool
same_family V4 V4 = true
same_family V4 V6 = false
same_family V6 V4 = false
same_family V6 V6 = true

-- one family, at least as long a prefix, and the first bits that count for w are the same
abbrev pub in_range : Range → Range → Bool
in_range v w = same_family v.family w.family && (nat_le w.prefix v.prefix &&
    (first_bits w.family w.prefix v.bits == first_bits w.family w.prefix w.bits))

abbrev pub same_range : Range → Range → Bool
same_range v w = same_family v.family w.family && ((v.bits == w.bits) && (v.prefix == w.prefix))

abbrev pub loopback : Range → Bool
loopback v = in_range v loopback_v4 || same_range v loopback_v6

abbrev pub multicast : Range → Bool
multicast v = in_range v multicast_v4 || in_range v multicast_v6
