-- Laws of what documents are read as.
use Rattle.std.specs.Prelude.{◌≡◌, Result}
use Rattle.json_document.specs.Reading.{IsRead}
use Rattle.json_document.specs.declared.document.Document.{Document}
use Rattle.json_document.specs.declared.place.Place.{Place}
use Rattle.json_document.specs.declared.shape.Shape.{Shape}
use Rattle.serde_json.specs.Data.{Data}

-- a JSON value is at most one document of a shape, and where it is none it has one place of its first fault
abbrev pub ReadingsAreUnique : Type 0
ReadingsAreUnique = (shape : Shape) (v : Data) (r s : Result Document Place) →
    IsRead shape v r → IsRead shape v s → r ≡ s
