-- The texts of IP addresses and of ranges of them.
use Rattle.std.specs.Prelude.{ℕ, ◌+◌, ◌*◌, ◌-◌, ◌^◌, ◌≡◌, ◌<◌, ◌≤◌, ◌⊎◌, List, ◌∷◌, ◌++◌, length, map}
use Rattle.std.specs.Fmt.{decimal}
use Rattle.std.specs.Int.Digits.{number_from_digits}
use Rattle.std.specs.List.{AllByRecursion, join_with_byte}
use Rattle.std.specs.Str.Parse.{IsNumeral, digits_value}
use Rattle.policy_ext.specs.declared.ip_addr.Family.{Family}
use Rattle.policy_ext.specs.declared.ip_addr.Family.TheVariants.{V4, V6}

-- IPv4 is four numbers up to 255 without needless zeros in front, joined by points (46). The first has the
-- highest bits.
pub record IsIpv4 (text : List ℕ) (bits : ℕ) : Type 0 where
  pub first : ℕ
  pub second : ℕ
  pub third : ℕ
  pub fourth : ℕ
  pub first_fits : first ≤ 255
  pub second_fits : second ≤ 255
  pub third_fits : third ≤ 255
  pub fourth_fits : fourth ≤ 255
  pub spelled : text ≡ decimal first ++ 46 ∷ (decimal second ++ 46 ∷ (decimal third ++ 46 ∷ decimal fourth))
  pub value : bits ≡ ((first * 256 + second) * 256 + third) * 256 + fourth

-- A group is one to four hexadecimal digits, of either case.
abbrev pub IsGroup : List ℕ → Type 0
IsGroup text = IsNumeral 16 text × (length text ≤ 4)

-- the number that groups of 16 bits are together, the first the highest
abbrev pub number_of_groups : List (List ℕ) → ℕ
number_of_groups groups = number_from_digits 65536 (map (digits_value 16) groups)

-- IPv6 in full is eight groups, joined by colons (58).
pub record IsFull (text : List ℕ) (bits : ℕ) : Type 0 where
  pub groups : List (List ℕ)
  pub eight : length groups ≡ 8
  pub each : AllByRecursion IsGroup groups
  pub spelled : text ≡ join_with_byte 58 groups
  pub value : bits ≡ number_of_groups groups

-- IPv6 may have one `::`, which stands for the one or more groups that lack, all of them 0.
pub record IsShortened (text : List ℕ) (bits : ℕ) : Type 0 where
  pub left : List (List ℕ)
  pub right : List (List ℕ)
  pub few : length left + length right < 8
  pub left_each : AllByRecursion IsGroup left
  pub right_each : AllByRecursion IsGroup right
  pub spelled : text ≡ join_with_byte 58 left ++ 58 ∷ (58 ∷ join_with_byte 58 right)
  pub value : bits ≡ number_of_groups left * 65536 ^ (8 - length left) + number_of_groups right

abbrev pub IsIpv6 : List ℕ → ℕ → Type 0
IsIpv6 text bits = IsFull text bits ⊎ IsShortened text bits

-- how many bits an address has
abbrev pub width : Family → ℕ
width V4 = 32
width V6 = 128

-- A range: an address, and how many of its first bits each address of the range shares with it.
pub record Range : Type 0 where
  pub family : Family
  pub bits : ℕ
  pub prefix : ℕ

-- the address has no more bits than its family, and the prefix counts no more
pub record FitsWidth (family : Family) (bits prefix : ℕ) : Type 0 where
  pub bits_fit : bits < 2 ^ width family
  pub prefix_fits : prefix ≤ width family

abbrev pub IsAddress : Family → List ℕ → ℕ → Type 0
IsAddress V4 text bits = IsIpv4 text bits
IsAddress V6 text bits = IsIpv6 text bits

-- A range's text is an address, then perhaps a slash (47) and the prefix without needless zeros in front.
-- Without it all bits count.
pub record IsRange (text : List ℕ) (v : Range) : Type 0 where
  pub address : List ℕ
  pub is : IsAddress v.family address v.bits
  pub spelled : ((text ≡ address) × (v.prefix ≡ width v.family)) ⊎
      ((text ≡ address ++ 47 ∷ decimal v.prefix) × (v.prefix ≤ width v.family))
