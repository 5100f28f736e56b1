-- Values that are written and read again.
use Rattle.std.specs.Prelude.{◌≡◌, Some}
use Rattle.json_values.specs.Values.{value_of}
use Rattle.policy_values.specs.Value.{Val}
use Rattle.serde_json.specs.Data.{Data}
use Rattle.json_response.specs.ValueJson.{value_data}

-- what is written of the value is read as it
unfoldable pub IsReadBack : Val → Type 0
IsReadBack v = value_of (value_data v) ≡ Some v

-- what is written of the value, and read as it
pub record IsWritten (v : Val) (d : Data) : Type 0 where
  pub written : d ≡ value_data v
  pub read_back : IsReadBack v
