-- How addresses and ranges are read, step by step.
use Rattle.std.specs.Prelude.{ℕ, ◌+◌, ◌*◌, ◌-◌, ◌^◌, ◌<◌, ◌≤◌, Bool, false, ◌&&◌, ◌==◌, nat_lt, List, [], ◌∷◌, length, drop, if◌then◌else◌, Option, Some, None}
use Rattle.std.specs.List.{slice_split}
use Rattle.std.specs.Option.{option_and_then, option_map}
use Rattle.policy_ext.specs.declared.ip_addr.Family.{Family}
use Rattle.policy_ext.specs.declared.ip_addr.Family.TheVariants.{V4, V6}
use Rattle.policy_ext.specs.NumberReading.{number_of, cut, onto, plain_of}
use Rattle.policy_ext.specs.IpAddr.{Range, width}

-- a number up to 255 and what follows the point after it
abbrev pub octet_at : List ℕ → Option (ℕ × List ℕ)
octet_at text = option_and_then (λ p. option_map (λ n. (n, p.1)) (plain_of 255 p.0)) (cut 46 text)

abbrev pub ipv4_of : List ℕ → Option ℕ
ipv4_of text = option_and_then
    (λ a. option_and_then
    (λ b. option_and_then
    (λ c. option_map (λ d. ((a.0 * 256 + b.0) * 256 + c.0) * 256 + d) (plain_of 255 c.1)) (octet_at b.1))
    (octet_at a.1))
    (octet_at text)

abbrev pub group_of : List ℕ → Option ℕ
group_of text = if nat_lt 4 (length text) then None else number_of 16 text

-- `count` groups were read, and `bits` is their number
pub record HaveRoom (count bits : ℕ) : Type 0 where
  pub few : count ≤ 8
  pub small : bits < 65536 ^ count

-- one more group, after those that were counted
abbrev pub with_group_of : ℕ × ℕ → List ℕ → Option (ℕ × ℕ)
with_group_of read text =
    if read.0 == 8 then None else option_map (λ n. (read.0 + 1, read.1 * 65536 + n)) (group_of text)

abbrev pub groups_after : ℕ × ℕ → List (List ℕ) → Option (ℕ × ℕ)
groups_after read [] = Some read
groups_after read (g ∷ gs) = option_and_then (λ next. groups_after next gs) (with_group_of read g)

abbrev pub is_colon : ℕ → Bool
is_colon b = b == 58

abbrev pub no_groups : ℕ × ℕ
no_groups = (0, 0)

abbrev pub groups_of : List ℕ → Option (ℕ × ℕ)
groups_of text =
    if length text == 0 then Some no_groups else groups_after no_groups (slice_split is_colon text)

abbrev pub starts_with_colon : List ℕ → Bool
starts_with_colon [] = false
starts_with_colon (b ∷ bs) = b == 58

-- what stands before and after the first `::`
abbrev pub cut_double : List ℕ → Option (List ℕ × List ℕ)
cut_double [] = None
cut_double (b ∷ bs) =
    if b == 58 && starts_with_colon bs then Some ([], drop 1 bs) else option_map (onto b) (cut_double bs)

abbrev pub full_of : ℕ × ℕ → Option ℕ
full_of read = if read.0 == 8 then Some read.1 else None

abbrev pub shortened_of : ℕ × ℕ → ℕ × ℕ → Option ℕ
shortened_of left right =
    if nat_lt (left.0 + right.0) 8 then Some (left.1 * 65536 ^ (8 - left.0) + right.1) else None

abbrev pub ipv6_from : List ℕ → Option (List ℕ × List ℕ) → Option ℕ
ipv6_from text (Some p) =
    option_and_then (λ l. option_and_then (λ r. shortened_of l r) (groups_of p.1)) (groups_of p.0)
ipv6_from text None = option_and_then full_of (groups_of text)

abbrev pub ipv6_of : List ℕ → Option ℕ
ipv6_of text = ipv6_from text (cut_double text)

abbrev pub or_else : {X Y : Type 0} → (X → Y) → Option X → Option Y → Option Y
or_else f (Some x) other = Some (f x)
or_else f None other = other

abbrev pub of_family : Family → ℕ → Family × ℕ
of_family f bits = (f, bits)

abbrev pub address_of : List ℕ → Option (Family × ℕ)
address_of text = or_else (of_family V4) (ipv4_of text) (option_map (of_family V6) (ipv6_of text))

abbrev pub range_from : List ℕ → Option (List ℕ × List ℕ) → Option Range
range_from text (Some p) = option_and_then
    (λ a. option_map (λ n. record { family = a.0; bits = a.1; prefix = n }) (plain_of (width a.0) p.1))
    (address_of p.0)
range_from text None =
    option_map (λ a. record { family = a.0; bits = a.1; prefix = width a.0 }) (address_of text)

abbrev pub range_of : List ℕ → Option Range
range_of text = range_from text (cut 47 text)
