-- What is written of a range: IPv4 as four numbers, IPv6 as eight groups in lower case without needless zeros
-- in front, and always the prefix.
use Rattle.std.specs.Prelude.{ℕ, ◌/◌, ◌%◌, ◌^◌, false, List, ◌∷◌, ◌++◌}
use Rattle.std.specs.Fmt.{decimal, digits}
use Rattle.policy_ext.specs.declared.ip_addr.Family.{Family}
use Rattle.policy_ext.specs.declared.ip_addr.Family.TheVariants.{V4, V6}
use Rattle.policy_ext.specs.IpAddr.{Range}

abbrev pub ipv4_text : ℕ → List ℕ
ipv4_text bits = decimal (bits / 16777216) ++ 46 ∷ (decimal (bits / 65536 % 256) ++ 46 ∷
    (decimal (bits / 256 % 256) ++ 46 ∷ decimal (bits % 256)))

-- the last group of these bits
abbrev pub group_text : ℕ → List ℕ
group_text bits = digits 16 false (bits % 65536)

-- the last four groups of these bits
abbrev pub four_groups : ℕ → List ℕ
four_groups bits = group_text (bits / 2 ^ 48) ++ 58 ∷ (group_text (bits / 2 ^ 32) ++ 58 ∷
    (group_text (bits / 2 ^ 16) ++ 58 ∷ group_text bits))

abbrev pub address_text : Family → ℕ → List ℕ
address_text V4 bits = ipv4_text bits
address_text V6 bits = four_groups (bits / 2 ^ 64) ++ 58 ∷ four_groups (bits % 2 ^ 64)

abbrev pub range_text : Range → List ℕ
range_text v = address_text v.family v.bits ++ 47 ∷ decimal v.prefix
