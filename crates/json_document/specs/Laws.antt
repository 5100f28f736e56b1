-- Laws of reading.
use Rattle.std.specs.Prelude.{◌≡◌, Result, Ok}
use Rattle.serde_json.specs.Data.{Data}
use Rattle.json_document.specs.Reading.{IsRead}
use Rattle.json_document.specs.declared.document.Document.{Document}
use Rattle.json_document.specs.declared.place.Place.{Place}
use Rattle.json_document.specs.declared.shape.Shape.{Shape}

-- a value that is a document of a shape is no other one, and has no fault
abbrev pub OneReading : Type 0
OneReading = (shape : Shape) (v : Data) (d : Document) (r : Result Document Place) →
    IsRead shape v (Ok d) → IsRead shape v r → r ≡ Ok d
