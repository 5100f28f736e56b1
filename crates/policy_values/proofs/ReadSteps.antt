-- What readers of extension values answer, as the functions of texts.
use Rattle.std.proofs.Common.{◌≡◌, ◌↔◌, ℕ, List, ℤ, Option, Some}
use Rattle.policy_ext.specs.Decimal.{IsDecimal}
use Rattle.policy_ext.specs.Duration.{IsDuration}
use Rattle.policy_ext.specs.DateTime.{IsDateTime}
use Rattle.policy_ext.specs.IpAddr.{Range, IsRange}
use Rattle.policy_ext.proofs.Readings.{same_values, decimal_of_exact, range_of_exact, datetime_of_exact, duration_of_exact}
use Rattle.policy_values.specs.Readings.{decimal_in, range_in, datetime_in, duration_in, ReadsGrammars}

through : {X : Type 0} {P : X → Type 0} (r o : Option X) → ((v : X) → (r ≡ Some v) ↔ P v) → ((v : X) → (o ≡ Some v) ↔ P v) → r ≡ o
through r o h k = same_values r o (λ v. (λ e. (k v).1 ((h v).0 e), λ e. (h v).1 ((k v).0 e)))

pub decimal_read : (text : List ℕ) (r : Option ℤ) → ((v : ℤ) → (r ≡ Some v) ↔ IsDecimal text v) → r ≡ decimal_in text
unfolding decimal_in
decimal_read text r h = through r (decimal_in text) h (decimal_of_exact text)

pub range_read : (text : List ℕ) (r : Option Range) → ((v : Range) → (r ≡ Some v) ↔ IsRange text v) → r ≡ range_in text
unfolding range_in
range_read text r h = through r (range_in text) h (range_of_exact text)

pub datetime_read : (text : List ℕ) (r : Option ℤ) → ((v : ℤ) → (r ≡ Some v) ↔ IsDateTime text v) → r ≡ datetime_in text
unfolding datetime_in
datetime_read text r h = through r (datetime_in text) h (datetime_of_exact text)

pub duration_read : (text : List ℕ) (r : Option ℤ) → ((v : ℤ) → (r ≡ Some v) ↔ IsDuration text v) → r ≡ duration_in text
unfolding duration_in
duration_read text r h = through r (duration_in text) h (duration_of_exact text)

pub reads_grammars : ReadsGrammars
unfolding decimal_in range_in datetime_in duration_in
reads_grammars = (decimal_of_exact, range_of_exact, datetime_of_exact, duration_of_exact)
