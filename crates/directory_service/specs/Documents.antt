-- What is read of the bytes of a document.
use Rattle.std.specs.Prelude.{◌≡◌, ◌++◌, ℕ, List, Result, Ok, Err, codes, string_bytes}
use Rattle.json_document.specs.PlaceText.{place_text}
use Rattle.json_document.specs.Reading.{IsReadAs}
use Rattle.json_document.specs.declared.document.Document.{Document}
use Rattle.json_document.specs.declared.place.Place.{Place}
use Rattle.json_document.specs.declared.shape.Shape.TheVariants as shape
use Rattle.directory_service.specs.declared.reply.Reply.{Reply}
use Rattle.directory_service.specs.declared.status.Status.TheVariants as status

-- the reply that the document is at fault, with this text
abbrev pub IsFault : List ℕ → Reply → Type 0
IsFault text r = (r.status ≡ status.Document) × (string_bytes r.text ≡ text)

-- the document that the bytes are, or the reply with the place of its first fault
abbrev pub IsReading : List ℕ → Result Document Reply → Type 0
IsReading bytes (Ok d) = IsReadAs shape.Whole bytes (Ok d)
IsReading bytes (Err r) =
    (place : Place) × IsReadAs shape.Whole bytes (Err place) × IsFault (place_text place ++ codes "\n") r
