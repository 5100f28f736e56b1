-- IPv6: what is read is written so, and what is written so is read.
use Rattle.std.proofs.Common.{◌≡◌, ℕ, suc, ◌+◌, ◌*◌, ◌<◌, ◌≤◌, inl, inr, ◌==◌, ◌&&◌, Bool, true, false, List, [], ◌∷◌, ◌++◌, map, drop, length, Option, Some, None, nat_lt, cond, refl, sym, ap, ◌∙◌, arith, append_assoc, length-append, append-nil}
use Rattle.std.proofs.Math.Nat.{pow-le-pow_right}
use Rattle.std.proofs.lemmas.Bool.{ltb-true, lt-ltb, ltb-false, le-ltb, eqb-true, eqb-false, and_parts, ne_eqb}
use Rattle.std.proofs.lemmas.Int.Digits.{digits_value-lt}
use Rattle.std.proofs.lemmas.List.Splits.{join_with_byte-slice_split}
use Rattle.std.specs.Char.{digit_value}
use Rattle.std.specs.Int.Digits.{number_from_digits_after}
use Rattle.std.specs.List.{AllByRecursion, join_with_byte, slice_split}
use Rattle.std.specs.Option.{option_and_then, option_map}
use Rattle.std.specs.Str.Parse.{AllDigits, IsNumeral, digits_value}
use Rattle.std.proofs.lemmas.Option.{same_Some}
use Rattle.policy_ext.specs.NumberReading.{number_of, onto}
use Rattle.policy_ext.specs.IpAddr.{IsGroup, number_of_groups, IsFull, IsShortened, IsIpv6}
use Rattle.policy_ext.specs.IpReading.{group_of, with_group_of, groups_after, is_colon, no_groups, groups_of, starts_with_colon, cut_double, full_of, ipv6_from, ipv6_of}
use Rattle.policy_ext.proofs.NumberFacts.{bind, mapped, unless, guard, number_found, number_is}

group_found : (text : List ℕ) (n : ℕ) → group_of text ≡ Some n → IsGroup text × (n ≡ digits_value 16 text)
group_found text n e =
    let few = unless (nat_lt 4 (length text)) (number_of 16 text) n e in
    let num = number_found 16 text n few.1 in
    ((num.0, ltb-false _ _ few.0), num.1)

group_is : (text : List ℕ) → IsGroup text → group_of text ≡ Some (digits_value 16 text)
group_is text g = rw (le-ltb 4 (length text) g.1) (number_is 16 text (omega arith) g.0 (omega (arith, digits_value-lt 16 text g.0.1, pow-le-pow_right {n = 16} (omega arith) g.1)))

with_group_found : (read next : ℕ × ℕ) (text : List ℕ) → with_group_of read text ≡ Some next → IsGroup text × (read.0 ≡ 8 → ⊥) × (next ≡ (read.0 + 1, read.1 * 65536 + digits_value 16 text))
with_group_found read next text e =
    let room = unless (read.0 == 8) _ next e in
    let one = mapped _ (group_of text) next room.1 in
    let g = group_found text one.0 one.1 in
    (g.0, eqb-false _ _ room.0, sym one.2 ∙ ap (λ n. (read.0 + 1, read.1 * 65536 + n)) g.1)

-- these groups, after those that were counted, give this
record AreAfter (read out : ℕ × ℕ) (gs : List (List ℕ)) : Type 0 where
  pub each : AllByRecursion IsGroup gs
  pub count : out.0 ≡ read.0 + length gs
  pub few : out.0 ≤ 8
  pub value : out.1 ≡ number_from_digits_after 65536 read.1 (map (digits_value 16) gs)

after_found : (read out : ℕ × ℕ) (gs : List (List ℕ)) → read.0 ≤ 8 → groups_after read gs ≡ Some out → AreAfter read out gs
after_found read out [] low e = let is : read ≡ out = same_Some _ _ e in record { each = tt; count = omega (arith, ap (λ (p : ℕ × ℕ). p.0) is); few = omega (arith, ap (λ (p : ℕ × ℕ). p.0) is); value = ap (λ (p : ℕ × ℕ). p.1) (sym is) }
after_found read out (g ∷ gs) low e =
    let next = bind _ (with_group_of read g) out e in
    let one = with_group_found read next.0 g next.1 in
    let rest = after_found (read.0 + 1, read.1 * 65536 + digits_value 16 g) out gs (omega (arith, one.1)) (ap (λ (p : ℕ × ℕ). groups_after p gs) (sym one.2) ∙ next.2) in
    record { each = (one.0, rest.each); count = omega (arith, rest.count); few = rest.few; value = rest.value }

after_is : (read : ℕ × ℕ) (gs : List (List ℕ)) → AllByRecursion IsGroup gs → read.0 + length gs ≤ 8 → groups_after read gs ≡ Some (read.0 + length gs, number_from_digits_after 65536 read.1 (map (digits_value 16) gs))
after_is read [] each few = ap (λ (n : ℕ). Some (n, read.1)) (omega arith)
after_is read (g ∷ gs) each few =
    let rest = after_is (read.0 + 1, read.1 * 65536 + digits_value 16 g) gs each.1 (omega arith) in
    let count : read.0 + 1 + length gs ≡ read.0 + suc (length gs) = omega arith in
    rw (ne_eqb read.0 8 (λ e. absurd (omega (arith, e))), group_is g each.0) (rest ∙ ap (λ (n : ℕ). Some (n, number_from_digits_after 65536 (read.1 * 65536 + digits_value 16 g) (map (digits_value 16) gs))) count)

-- the groups of a text, and what reading counts of them
pub record AreGroups (text : List ℕ) (out : ℕ × ℕ) : Type 0 where
  pub groups : List (List ℕ)
  pub each : AllByRecursion IsGroup groups
  pub count : out.0 ≡ length groups
  pub few : out.0 ≤ 8
  pub spelled : text ≡ join_with_byte 58 groups
  pub value : out.1 ≡ number_of_groups groups

groups_found : (text : List ℕ) (out : ℕ × ℕ) → groups_of text ≡ Some out → AreGroups text out
groups_found [] out e = let is : no_groups ≡ out = same_Some _ _ e in record { groups = []; each = tt; count = ap (λ (p : ℕ × ℕ). p.0) (sym is); few = omega (arith, ap (λ (p : ℕ × ℕ). p.0) is); spelled = refl; value = ap (λ (p : ℕ × ℕ). p.1) (sym is) }
groups_found (b ∷ bs) out e =
    let some : groups_after no_groups (slice_split is_colon (b ∷ bs)) ≡ Some out = ap (λ (t : Bool). cond t (Some no_groups) (groups_after no_groups (slice_split is_colon (b ∷ bs)))) (sym (ne_eqb (suc (length bs)) 0 (λ e. absurd (omega (arith, e))))) ∙ e in
    let after = after_found no_groups out (slice_split is_colon (b ∷ bs)) (omega arith) some in
    record { groups = slice_split is_colon (b ∷ bs); each = after.each; count = omega (arith, after.count); few = after.few; spelled = sym (join_with_byte-slice_split 58 (b ∷ bs)); value = after.value }

colon_free : (c : ℕ) → digit_value c < 16 → (c == 58) ≡ false
colon_free c h = ne_eqb c 58 (λ e. absurd (omega (arith, h, ap digit_value e)))

split_digits : (ds rest : List ℕ) → AllDigits 16 ds → slice_split is_colon (ds ++ 58 ∷ rest) ≡ ds ∷ slice_split is_colon rest
split_digits [] rest all = refl
split_digits (c ∷ ds) rest all = rw (colon_free c all.0, split_digits ds rest all.1) refl

split_last : (ds : List ℕ) → AllDigits 16 ds → slice_split is_colon ds ≡ ds ∷ []
split_last [] all = refl
split_last (c ∷ ds) all = rw (colon_free c all.0, split_last ds all.1) refl

split_joined : (g : List ℕ) (gs : List (List ℕ)) → AllByRecursion IsGroup (g ∷ gs) → slice_split is_colon (join_with_byte 58 (g ∷ gs)) ≡ g ∷ gs
split_joined g [] each = split_last g each.0.0.1
split_joined g (h ∷ gs) each = split_digits g (join_with_byte 58 (h ∷ gs)) each.0.0.1 ∙ ap (λ (l : List (List ℕ)). g ∷ l) (split_joined h gs each.1)

joined_long : (g : List ℕ) (gs : List (List ℕ)) → AllByRecursion IsGroup (g ∷ gs) → 0 < length (join_with_byte 58 (g ∷ gs))
joined_long g [] each = each.0.0.0
joined_long g (h ∷ gs) each = omega (arith, length-append g (58 ∷ join_with_byte 58 (h ∷ gs)))

groups_is : (gs : List (List ℕ)) → AllByRecursion IsGroup gs → length gs ≤ 8 → groups_of (join_with_byte 58 gs) ≡ Some (length gs, number_of_groups gs)
groups_is [] each few = refl
groups_is (g ∷ gs) each few =
    let long = joined_long g gs each in
    let after = after_is no_groups (g ∷ gs) each (omega arith) in
    let count : 0 + suc (length gs) ≡ suc (length gs) = omega arith in
    rw (ne_eqb (length (join_with_byte 58 (g ∷ gs))) 0 (λ e. absurd (omega (arith, long, e)))) (rw (split_joined g gs each) (after ∙ ap (λ (n : ℕ). Some (n, number_of_groups (g ∷ gs))) count))

-- cutting at the first two colons
colon_first : (bs : List ℕ) → starts_with_colon bs ≡ true → bs ≡ 58 ∷ drop 1 bs
colon_first [] e = cc
colon_first (b ∷ bs) e = ap (λ (x : ℕ). x ∷ bs) (eqb-true b 58 e)

double_step : (b : ℕ) (bs : List ℕ) (p : List ℕ × List ℕ) (t : Bool) → (b == 58 && starts_with_colon bs) ≡ t → ((q : List ℕ × List ℕ) → cut_double bs ≡ Some q → bs ≡ q.0 ++ 58 ∷ (58 ∷ q.1)) → cond {A = Option (List ℕ × List ℕ)} t (Some ([], drop 1 bs)) (option_map (onto b) (cut_double bs)) ≡ Some p → b ∷ bs ≡ p.0 ++ 58 ∷ (58 ∷ p.1)
double_step b bs p true is later e =
    let tests = and_parts _ _ is in
    let here : b ∷ bs ≡ 58 ∷ (58 ∷ drop 1 bs) = ap (λ (x : ℕ). x ∷ bs) (eqb-true b 58 tests.0) ∙ ap (λ (l : List ℕ). 58 ∷ l) (colon_first bs tests.1) in
    here ∙ ap (λ (q : List ℕ × List ℕ). q.0 ++ 58 ∷ (58 ∷ q.1)) (same_Some _ _ e)
double_step b bs p false is later e =
    let one = mapped (onto b) (cut_double bs) p e in
    ap (λ (l : List ℕ). b ∷ l) (later one.0 one.1) ∙ ap (λ (q : List ℕ × List ℕ). q.0 ++ 58 ∷ (58 ∷ q.1)) one.2

double_found : (bs : List ℕ) (p : List ℕ × List ℕ) → cut_double bs ≡ Some p → bs ≡ p.0 ++ 58 ∷ (58 ∷ p.1)
double_found [] p e = cc
double_found (b ∷ bs) p e = double_step b bs p (b == 58 && starts_with_colon bs) refl (double_found bs) e

onto_all : List ℕ → List ℕ × List ℕ → List ℕ × List ℕ
onto_all front p = (front ++ p.0, p.1)

onto_none : (o : Option (List ℕ × List ℕ)) → o ≡ option_map (onto_all []) o
unfolding onto_all
onto_none (Some p) = refl
onto_none None = refl

onto_more : (b : ℕ) (front : List ℕ) (o : Option (List ℕ × List ℕ)) → option_map (onto b) (option_map (onto_all front) o) ≡ option_map (onto_all (b ∷ front)) o
unfolding onto_all
onto_more b front (Some p) = refl
onto_more b front None = refl

onto_join : (front more : List ℕ) (o : Option (List ℕ × List ℕ)) → option_map (onto_all front) (option_map (onto 58) (option_map (onto_all more) o)) ≡ option_map (onto_all (front ++ 58 ∷ more)) o
unfolding onto_all
onto_join front more (Some p) = ap (λ (l : List ℕ). Some (l, p.1)) (sym (append_assoc front (58 ∷ more) p.0))
onto_join front more None = refl

double_digits : (ds rest : List ℕ) → AllDigits 16 ds → cut_double (ds ++ rest) ≡ option_map (onto_all ds) (cut_double rest)
double_digits [] rest all = onto_none (cut_double rest)
double_digits (c ∷ ds) rest all = rw (colon_free c all.0) (ap (option_map (onto c)) (double_digits ds rest all.1) ∙ onto_more c ds (cut_double rest))

digits_first : (ds rest : List ℕ) → IsNumeral 16 ds → starts_with_colon (ds ++ rest) ≡ false
digits_first [] rest is = absurd (omega (arith, is.0))
digits_first (c ∷ ds) rest is = colon_free c is.1.0

joined_first : (g : List ℕ) (gs : List (List ℕ)) (rest : List ℕ) → AllByRecursion IsGroup (g ∷ gs) → starts_with_colon (join_with_byte 58 (g ∷ gs) ++ rest) ≡ false
joined_first g [] rest each = digits_first g rest each.0.0
joined_first g (h ∷ gs) rest each = rw (append_assoc g (58 ∷ join_with_byte 58 (h ∷ gs)) rest) (digits_first g _ each.0.0)

double_joined : (gs : List (List ℕ)) (rest : List ℕ) → AllByRecursion IsGroup gs → cut_double (join_with_byte 58 gs ++ rest) ≡ option_map (onto_all (join_with_byte 58 gs)) (cut_double rest)
double_joined [] rest each = onto_none (cut_double rest)
double_joined (g ∷ []) rest each = double_digits g rest each.0.0.1
double_joined (g ∷ h ∷ gs) rest each =
    let later = join_with_byte 58 (h ∷ gs) in
    let skipped = double_digits g (58 ∷ (later ++ rest)) each.0.0.1 in
    let here : cut_double (58 ∷ (later ++ rest)) ≡ option_map (onto 58) (cut_double (later ++ rest)) = rw (joined_first h gs rest each.1) refl in
    ap cut_double (append_assoc g (58 ∷ later) rest) ∙ skipped ∙ ap (option_map (onto_all g)) (here ∙ ap (option_map (onto 58)) (double_joined (h ∷ gs) rest each.1)) ∙ onto_join g later (cut_double rest)

full_found : (text : List ℕ) (bits : ℕ) → option_and_then full_of (groups_of text) ≡ Some bits → IsFull text bits
full_found text bits e =
    let read = bind full_of (groups_of text) bits e in
    let all = groups_found text read.0 read.1 in
    let kept = guard (read.0.0 == 8) (Some read.0.1) bits read.2 in
    record { groups = all.groups; eight = sym all.count ∙ eqb-true _ _ kept.0; each = all.each; spelled = all.spelled; value = sym (same_Some _ _ kept.1) ∙ all.value }

shortened_found : (text : List ℕ) (p : List ℕ × List ℕ) (bits : ℕ) → text ≡ p.0 ++ 58 ∷ (58 ∷ p.1) → ipv6_from text (Some p) ≡ Some bits → IsShortened text bits
shortened_found text p bits cut e =
    let l = bind _ (groups_of p.0) bits e in
    let r = bind _ (groups_of p.1) bits l.2 in
    let left = groups_found p.0 l.0 l.1 in
    let right = groups_found p.1 r.0 r.1 in
    let kept = guard (nat_lt (l.0.0 + r.0.0) 8) _ bits r.2 in
    record {
      left = left.groups;
      right = right.groups;
      few = omega (arith, left.count, right.count, ltb-true _ _ kept.0);
      left_each = left.each;
      right_each = right.each;
      spelled = cut ∙ ap (λ (x : List ℕ). x ++ 58 ∷ (58 ∷ p.1)) left.spelled ∙ ap (λ (x : List ℕ). join_with_byte 58 left.groups ++ 58 ∷ (58 ∷ x)) right.spelled;
      value = sym (same_Some _ _ kept.1) ∙ rw (left.count, left.value, right.value) refl;
    }

from_found : (text : List ℕ) (o : Option (List ℕ × List ℕ)) (bits : ℕ) → cut_double text ≡ o → ipv6_from text o ≡ Some bits → IsIpv6 text bits
from_found text (Some p) bits is e = inr (shortened_found text p bits (double_found text p is) e)
from_found text None bits is e = inl (full_found text bits e)

pub ipv6_found : (text : List ℕ) (bits : ℕ) → ipv6_of text ≡ Some bits → IsIpv6 text bits
ipv6_found text bits e = from_found text (cut_double text) bits refl e

no_double : (gs : List (List ℕ)) → AllByRecursion IsGroup gs → cut_double (join_with_byte 58 gs) ≡ None
no_double gs each = ap cut_double (sym (append-nil (join_with_byte 58 gs))) ∙ double_joined gs [] each

at_double : (gs : List (List ℕ)) (rest : List ℕ) → AllByRecursion IsGroup gs → cut_double (join_with_byte 58 gs ++ 58 ∷ (58 ∷ rest)) ≡ Some (join_with_byte 58 gs, rest)
unfolding onto_all
at_double gs rest each = double_joined gs (58 ∷ (58 ∷ rest)) each ∙ ap (λ (l : List ℕ). Some (l, rest)) (append-nil (join_with_byte 58 gs))

full_is : (text : List ℕ) (bits : ℕ) → IsFull text bits → ipv6_of text ≡ Some bits
full_is text bits f =
    let read = groups_is f.groups f.each (omega (arith, f.eight)) in
    ap ipv6_of f.spelled ∙ rw (no_double f.groups f.each) (rw (read) (rw (f.eight) (ap Some (sym f.value))))

shortened_is : (text : List ℕ) (bits : ℕ) → IsShortened text bits → ipv6_of text ≡ Some bits
shortened_is text bits s =
    let l = groups_is s.left s.left_each (omega (arith, s.few)) in
    let r = groups_is s.right s.right_each (omega (arith, s.few)) in
    ap ipv6_of s.spelled ∙ rw (at_double s.left (join_with_byte 58 s.right) s.left_each) (rw (l, r) (rw (lt-ltb (length s.left + length s.right) 8 s.few) (ap Some (sym s.value))))

pub ipv6_is : (text : List ℕ) (bits : ℕ) → IsIpv6 text bits → ipv6_of text ≡ Some bits
ipv6_is text bits (inl f) = full_is text bits f
ipv6_is text bits (inr s) = shortened_is text bits s
