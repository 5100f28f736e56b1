-- What is typed stays as it is when it is typed again.
use Rattle.std.specs.Prelude.{◌≡◌, [], ◌∷◌, None}
use Rattle.std.specs.List.{AllByRecursion}
use Rattle.schema_core.specs.Schema.{SchemaData}
use Rattle.access_tries.specs.Table.{IsTable}
use Rattle.access_tries.specs.Paths.{IsSame}
use Rattle.manifest_core.specs.Manifest.{Manifest}
use Rattle.manifest_core.specs.Mismatches.{first_mismatch, AreTyped}

-- what each trie of a manifest keeps
abbrev pub AreTables : Manifest → Type 0
AreTables m = AllByRecursion (λ e. IsTable e.1) m

-- the same request types, with tries of the same paths and marks
abbrev pub AreSameEntries : Manifest → Manifest → Type 0
AreSameEntries [] [] = Unit {0}
AreSameEntries (a ∷ ms) (b ∷ ns) = (a.0 ≡ b.0) × IsSame a.1 b.1 × AreSameEntries ms ns
AreSameEntries ms ns = ⊥

-- what is typed has no mismatch where the manifest that it is of has none, and typed again it stays the same
pub record TypedStays : Type 0 where
  pub fits : (s : SchemaData) (m n : Manifest) → AreTables m → AreTables n →
      first_mismatch s m ≡ None → AreTyped s m n → first_mismatch s n ≡ None
  pub stays : (s : SchemaData) (m n o : Manifest) → AreTyped s m n → AreTyped s n o → AreSameEntries n o
