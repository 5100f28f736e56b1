-- What a JSON value says, from what is read of it.
use Rattle.std.proofs.Common.{◌≡◌, Option, None, Some, List, sym, subst}
use Rattle.std.specs.Option.{IsSomeAnd}
use Rattle.schema_core.specs.Schema.{SchemaData}
use Rattle.manifest_core.specs.declared.error.EntityManifestFromJsonError.{EntityManifestFromJsonError}
use Rattle.manifest_core.specs.declared.error.EntityManifestFromJsonError.TheVariants.{SerdeJsonParseError, MismatchedEntityManifest, OutOfMemory}
use Rattle.manifest_core.specs.Manifest.{Manifest}
use Rattle.manifest_core.specs.Refusals.{IsMismatch}
use Rattle.manifest_core.specs.Reading.{Entry, AreDistinct}
use Rattle.manifest_core.specs.Placed.{entries_fault}
use Rattle.manifest_core.specs.Said.{AreTypedOf, IsSaid, IsManifestRefused}

-- where there are no entries there are none that are distinct
pub none_said : (o : Option (List Entry)) → None ≡ o → ¬ (IsSomeAnd o AreDistinct)
none_said None e h = absurd h
none_said (Some es) e h = cc

pub refused : (s : SchemaData) (es : List Entry) → AreDistinct es → (e : EntityManifestFromJsonError) → IsMismatch (entries_fault s es) e → IsManifestRefused s (Some es) e
refused s es once SerdeJsonParseError h = absurd h
refused s es once (MismatchedEntityManifest f) h = (once, h)
refused s es once OutOfMemory h = tt

pub said : (s : SchemaData) (o : Option (List Entry)) (es : List Entry) → Some es ≡ o → AreDistinct es → (m : Manifest) → (entries_fault s es ≡ None) × AreTypedOf s es m → IsSaid s o m
said s o es is once m h = subst (λ p. IsSaid s p m) is (once, h.0, h.1)

pub refused_by : (s : SchemaData) (o : Option (List Entry)) (es : List Entry) → Some es ≡ o → AreDistinct es → (e : EntityManifestFromJsonError) → IsMismatch (entries_fault s es) e → IsManifestRefused s o e
refused_by s o es is once e h = subst (λ p. IsManifestRefused s p e) is (refused s es once e h)

-- a request type that stands twice makes it no manifest
pub repeated_said : (o : Option (List Entry)) (es : List Entry) → Some es ≡ o → ¬ (AreDistinct es) → ¬ (IsSomeAnd o AreDistinct)
repeated_said o es is twice h = twice (subst (λ p. IsSomeAnd p AreDistinct) (sym is) h)
