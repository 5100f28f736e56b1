-- The functions that texts are read by are the grammars.
use Rattle.std.proofs.Common.{◌≡◌, ◌↔◌, ◌≤◌, ℕ, Bool, true, false, ◌&&◌, List, ℤ, pos, Option, Some, None, option_map, refl, sym, ap, ◌∙◌, subst, arith}
use Rattle.std.specs.Prelude.{nat_le}
use Rattle.std.proofs.lemmas.Bool.Decides.{nat_tests}
use Rattle.std.proofs.lemmas.Int.{ints}
use Rattle.std.proofs.lemmas.Option.{same_Some}
use Rattle.jiff.proofs.Family.{epoch_day_same}
use Rattle.jiff.specs.Types.{Date}
use Rattle.jiff.specs.Words.{IsYmd, days_in_month, epoch_day}
use Rattle.policy_ext.specs.DateTime.{IsDateTime}
use Rattle.policy_ext.specs.DateTimeReading.{IsDayOf, date_at}
use Rattle.policy_ext.specs.DateTimeValue.{has_date, civil, dated, date_of, datetime_from, datetime_of}
use Rattle.policy_ext.specs.Decimal.{IsDecimal}
use Rattle.policy_ext.specs.DecimalReading.{decimal_of}
use Rattle.policy_ext.specs.Duration.{IsDuration}
use Rattle.policy_ext.specs.DurationReading.{duration_of}
use Rattle.policy_ext.specs.IpAddr.{Range, IsRange}
use Rattle.policy_ext.specs.IpReading.{range_of}
use Rattle.policy_ext.proofs.DecimalFacts.{decimal_exact}
use Rattle.policy_ext.proofs.DurationFacts.{duration_exact}
use Rattle.policy_ext.proofs.RangeFacts.{range_exact}
use Rattle.policy_ext.proofs.DayFacts.{same_nat}
use Rattle.policy_ext.proofs.DateTimeFacts.{datetime_exact, datetime_none}

-- options that are the same for each value are the same
pub same_values : {X : Type 0} (r o : Option X) → ((v : X) → (r ≡ Some v) ↔ (o ≡ Some v)) → r ≡ o
same_values (Some x) o h = sym ((h x).0 refl)
same_values None (Some y) h = (h y).1 refl
same_values None None h = refl

all_hold : (a b c d e : Bool) → a ≡ true → b ≡ true → c ≡ true → d ≡ true → e ≡ true → (a && (b && (c && (d && e)))) ≡ true
all_hold a b c d e h i j k l = rw (h, i, j, k, l) refl

passes : (m n : ℕ) → m ≤ n → nat_le m n ≡ true
passes m n h = grind (arith, nat_tests)

-- a date of the calendar passes the test
has_date_of : (y m d : ℕ) (date : Date) → IsYmd (pos y) (pos m) (pos d) date → has_date y m d ≡ true
has_date_of y m d date is =
    let month : date.month ≡ m = same_nat is.1 in
    let day : date.day ≡ d = same_nat is.2 in
    let last : d ≤ days_in_month (pos y) m = subst (λ k. k ≤ days_in_month (pos y) m) day (subst (λ k. date.day ≤ days_in_month (pos y) k) month (subst (λ k. date.day ≤ days_in_month k date.month) is.0 date.day_in.1)) in
    let year = is.0 in
    let in_years = date.year_in in
    all_hold (nat_le y 9999) (nat_le 1 m) (nat_le m 12) (nat_le 1 d) (nat_le d (days_in_month (pos y) m))
    (passes y 9999 (omega (arith, ints))) (passes 1 m (omega (arith, date.month_in.0))) (passes m 12 (omega (arith, date.month_in.1))) (passes 1 d (omega (arith, date.day_in.0))) (passes d (days_in_month (pos y) m) last)

day_found : (y m d : ℕ) (n : ℤ) (b : Bool) (e : has_date y m d ≡ b) → option_map (λ t. epoch_day t) (dated y m d b e) ≡ Some n → IsDayOf y m d n
day_found y m d n true e h = (civil y m d e, (refl, refl, refl), sym (same_Some _ _ h))
day_found y m d n false e h = absurd (cc)

day_is : (y m d : ℕ) (n : ℤ) (b : Bool) (e : has_date y m d ≡ b) (date : Date) → IsYmd (pos y) (pos m) (pos d) date → n ≡ epoch_day date → option_map (λ t. epoch_day t) (dated y m d b e) ≡ Some n
day_is y m d n true e date is v = ap Some (epoch_day_same (civil y m d e) date (sym is.0) (sym (same_nat is.1)) (sym (same_nat is.2)) ∙ sym v)
day_is y m d n false e date is v = let has = has_date_of y m d date is in absurd (cc)

-- the function is the relation
pub datetime_of_exact : (text : List ℕ) (v : ℤ) → (datetime_of text ≡ Some v) ↔ IsDateTime text v
datetime_of_exact text v = by (date_at text) refl
  where
    by : (o : Option (ℕ × ℕ × ℕ × List ℕ)) → date_at text ≡ o → (datetime_from o ≡ Some v) ↔ IsDateTime text v
    by (Some p) e = datetime_exact text p (option_map (λ t. epoch_day t) (date_of p.0 p.1 p.2)) v e (λ n. (day_found p.0 p.1 p.2 n (has_date p.0 p.1 p.2) refl, λ of. day_is p.0 p.1 p.2 n (has_date p.0 p.1 p.2) refl of.0 of.1 of.2))
    by None e = datetime_none text v e

pub decimal_of_exact : (text : List ℕ) (v : ℤ) → (decimal_of text ≡ Some v) ↔ IsDecimal text v
decimal_of_exact = decimal_exact

pub range_of_exact : (text : List ℕ) (v : Range) → (range_of text ≡ Some v) ↔ IsRange text v
range_of_exact = range_exact

pub duration_of_exact : (text : List ℕ) (v : ℤ) → (duration_of text ≡ Some v) ↔ IsDuration text v
duration_of_exact = duration_exact
