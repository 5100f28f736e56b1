-- How kinds are stored, and how they are seen.
use Rattle.std.specs.Prelude.{◌≡◌, ◌⊎◌, ℕ, List, Option, refl}
use Rattle.std.proofs.Common.{inl, inr}
use Rattle.std.specs.Coded.{Coded, coded×, coded⊎, coded_ℕ, coded_list, coded_option, code_by}
use Rattle.schema_types.specs.Ty.{Ty, Attrs}
use Rattle.schema_types.specs.TyCode.{coded_ty, coded_attrs}
use Rattle.schema_core.specs.Kinds.{Kind, standard, enumerated}

abbrev pub coded_names : Coded (List (List ℕ))
coded_names = coded_list (coded_list coded_ℕ)

abbrev pub Parts : Type 0
Parts = (Attrs × Option Ty) ⊎ List (List ℕ)

abbrev pub parts_of : Kind → Parts
parts_of (standard xs t) = inl (xs, t)
parts_of (enumerated ids) = inr ids

abbrev pub of_parts : Parts → Kind
of_parts (inl p) = standard p.0 p.1
of_parts (inr ids) = enumerated ids

pub there_and_back : (k : Kind) → of_parts (parts_of k) ≡ k
there_and_back (standard xs t) = refl
there_and_back (enumerated ids) = refl

-- a kind is stored as one of two tuples
abbrev pub coded_kind : Coded Kind
coded_kind = code_by Parts (coded⊎ (coded× coded_attrs (coded_option coded_ty)) coded_names)
    parts_of of_parts there_and_back
