-- Fields of ascending keys and their look-ups.
use Rattle.std.specs.Prelude.{◌≡◌, ℕ, List}
use Rattle.policy_values.specs.Value.{Fields, no_fields, field, field_at}
use Rattle.table_loader.specs.Order.{IsBelowAll}

-- keys ascend in the fields, whatever stands in their values
abbrev pub KeysAscend : Fields → Type 0
KeysAscend no_fields = Unit {0}
KeysAscend (field k v fs) = IsBelowAll k fs × KeysAscend fs

-- fields of ascending keys are equal where look-ups find the same in both
abbrev pub FieldsAreTheirLookups : Type 0
FieldsAreTheirLookups =
    (fs gs : Fields) → KeysAscend fs → KeysAscend gs →
    ((k : List ℕ) → field_at fs k ≡ field_at gs k) → fs ≡ gs
