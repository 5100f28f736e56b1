-- Why no manifest is read or typed.
use Rattle.std.specs.Prelude.{◌≡◌, Option, Some}
use Rattle.manifest_core.specs.declared.error.MismatchedEntityManifestError.{MismatchedEntityManifestError as Mismatch}
use Rattle.manifest_core.specs.declared.error.EntityManifestFromJsonError.{EntityManifestFromJsonError}
use Rattle.manifest_core.specs.declared.error.EntityManifestFromJsonError.TheVariants.{SerdeJsonParseError, MismatchedEntityManifest, OutOfMemory}

-- it is what is wrong, or memory ran out
abbrev pub IsMismatch : Option Mismatch → EntityManifestFromJsonError → Type 0
IsMismatch o SerdeJsonParseError = ⊥
IsMismatch o (MismatchedEntityManifest m) = o ≡ Some m
IsMismatch o OutOfMemory = Unit {0}
