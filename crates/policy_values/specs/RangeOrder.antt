-- The order of ranges of IP addresses.
use Rattle.std.specs.Prelude.{ℕ, refl}
use Rattle.std.specs.declared.cmp.Ordering.{Ordering}
use Rattle.std.specs.Coded.{Coded, coded_ℕ, coded×, code_by}
use Rattle.std.specs.Ordering.{nat_cmp, ordering_then}
use Rattle.policy_ext.specs.declared.ip_addr.Family.{Family}
use Rattle.policy_ext.specs.declared.ip_addr.Family.TheVariants.{V4, V6}
use Rattle.policy_ext.specs.contracts.ip_addr.Family.{the_row as family_row}
use Rattle.policy_ext.specs.IpAddr.{Range}

-- the place of a family: IPv4 comes first
abbrev pub family_rank : Family → ℕ
family_rank V4 = 0
family_rank V6 = 1

-- ranges by family, then by the bits of their addresses, then by their prefixes
abbrev pub range_cmp : Range → Range → Ordering
range_cmp v w = ordering_then (nat_cmp (family_rank v.family) (family_rank w.family))
    (ordering_then (nat_cmp v.bits w.bits) (nat_cmp v.prefix w.prefix))

-- a range is stored as the tuple of its parts
abbrev pub coded_range : Coded Range
coded_range =
    code_by (Family × (ℕ × ℕ))
    (coded× family_row.coded (coded× coded_ℕ coded_ℕ))
    (λ r. (r.family, (r.bits, r.prefix)))
    (λ p. record { family = p.0; bits = p.1.0; prefix = p.1.1 })
    (λ _. refl)
