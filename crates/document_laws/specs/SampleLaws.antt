-- The texts that are made of seeds and sizes are documents that keep every rule.
use Rattle.std.specs.Prelude.{◌≡◌, ℕ, ◌<◌, ◌^◌, List, Some, Ok}
use Rattle.json_document.specs.Reading.{IsRead}
use Rattle.json_document.specs.declared.document.Document.{Document}
use Rattle.json_document.specs.declared.shape.Shape.TheVariants.{Whole}
use Rattle.json_samples.specs.Sample.{sample_document}
use Rattle.json_values.specs.Json.{json_of}
use Rattle.manifest_computation.specs.Rules.{KeepRules}
use Rattle.serde_json.specs.Data.{Data}

-- the text is JSON, and read as a document with one request that keeps every rule
pub record IsSoundText (text : List ℕ) : Type 0 where
  pub value : Data
  pub document : Document
  pub is_json : json_of text ≡ Some value
  pub is_read : IsRead Whole value (Ok document)
  pub keeps_rules : KeepRules document.schema document.policies document.request document.entities

-- so is each text that is made of a seed and a size, whatever the seed, and however long the text
abbrev pub SamplesAreSound : Type 0
SamplesAreSound = (seed size : ℕ) → size < 2 ^ 64 → IsSoundText (sample_document seed size)
