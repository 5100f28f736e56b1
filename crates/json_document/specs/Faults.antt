-- Reading that may end at a fault's place.
use Rattle.std.specs.Prelude.{◌≡◌, ◌⊎◌, ⊤, Result, Ok, Err}
use Rattle.json_document.specs.declared.place.Place.{Place}
use Rattle.json_document.specs.declared.place.DocumentFault.{DocumentFault}
use Rattle.json_document.specs.declared.place.DocumentFault.TheVariants as fault

-- the fault is that which reading comes to; memory may always run out
abbrev pub Fails : {Y : Type 0} → DocumentFault → Result Y Place → Type 0
Fails fault.OutOfMemory read = ⊤
Fails (fault.Place p) read = read ≡ Err p

-- what a function gives, as `view` sees it, is what reading comes to
abbrev pub ComesTo : {X Y : Type 0} → (X → Y) → Result X DocumentFault → Result Y Place → Type 0
ComesTo view (Ok x) read = read ≡ Ok (view x)
ComesTo view (Err e) read = Fails e read

-- what a function gives is what reading may come to
abbrev pub MayComeTo : {X : Type 0} → Result X DocumentFault → (Result X Place → Type 0) → Type 0
MayComeTo (Ok x) P = P (Ok x)
MayComeTo (Err fault.OutOfMemory) P = ⊤
MayComeTo (Err (fault.Place p)) P = P (Err p)

-- the first and then, where it is read, the next; the first fault is that of the whole
abbrev pub Then : {A B : Type 0} → (Result A Place → Type 0) →
    (A → Result B Place → Type 0) → Result B Place → Type 0
Then {A} First Next r = ((p : Place) × First (Err p) × (r ≡ Err p)) ⊎ ((x : A) × First (Ok x) × Next x r)
