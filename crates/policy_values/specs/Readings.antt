-- The value of an extension type that a text stands for.
use Rattle.std.specs.Prelude.{◌≡◌, ◌↔◌, ℕ, ℤ, List, Option, Some}
use Rattle.policy_ext.specs.Decimal.{IsDecimal}
use Rattle.policy_ext.specs.Duration.{IsDuration}
use Rattle.policy_ext.specs.DateTime.{IsDateTime}
use Rattle.policy_ext.specs.IpAddr.{Range, IsRange}
use Rattle.policy_ext.specs.IpReading.{range_of}
use Rattle.policy_ext.specs.DecimalReading.{decimal_of}
use Rattle.policy_ext.specs.DateTimeValue.{datetime_of}
use Rattle.policy_ext.specs.DurationReading.{duration_of}

-- what a text stands for, as the grammar of each has it
unfoldable pub decimal_in : List ℕ → Option ℤ
decimal_in text = decimal_of text

unfoldable pub range_in : List ℕ → Option Range
range_in text = range_of text

unfoldable pub datetime_in : List ℕ → Option ℤ
datetime_in text = datetime_of text

unfoldable pub duration_in : List ℕ → Option ℤ
duration_in text = duration_of text

-- each reads a text as a value exactly where the grammar relates them
abbrev pub ReadsGrammars : Type 0
ReadsGrammars =
    ((text : List ℕ) (v : ℤ) → (decimal_in text ≡ Some v) ↔ IsDecimal text v)
    × ((text : List ℕ) (v : Range) → (range_in text ≡ Some v) ↔ IsRange text v)
    × ((text : List ℕ) (v : ℤ) → (datetime_in text ≡ Some v) ↔ IsDateTime text v)
    × ((text : List ℕ) (v : ℤ) → (duration_in text ≡ Some v) ↔ IsDuration text v)
