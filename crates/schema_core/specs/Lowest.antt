-- The lowest of names: of one that is there already, and of the names in a type that do not pass a test.
use Rattle.std.specs.Prelude.{ℕ, Bool, cond, List, [], ◌∷◌, Option, Some, None}
use Rattle.policy_values.specs.Uid.{text_cmp}
use Rattle.policy_values.specs.Least.{lower_of}
use Rattle.schema_types.specs.Ty.{Ty, set_of, record_of, entity, action, extension, Attrs, no_attrs, attr}
use Rattle.schema_core.specs.Inside.{is_known_extension}
use Rattle.schema_core.specs.Kinds.{Kind, standard, enumerated}

module _ (passes : List ℕ → Bool) where
  abbrev pub lowest_name : Option (List ℕ) → List ℕ → Option (List ℕ)
  lowest_name low n = cond (passes n) low (lower_of text_cmp low (Some n))

  abbrev pub lowest_names : Option (List ℕ) → List (List ℕ) → Option (List ℕ)
  lowest_names low [] = low
  lowest_names low (n ∷ ns) = lowest_names (lowest_name low n) ns

abbrev pub Next : Type 0
Next = Option (List ℕ) → Ty → Option (List ℕ)

-- from one type without parts to the next
abbrev mutual
  pub lowest_inside : Next → Option (List ℕ) → Ty → Option (List ℕ)
  lowest_inside f low (set_of t) = lowest_inside f low t
  lowest_inside f low (record_of xs o) = lowest_within f low xs
  lowest_inside f low (action n xs) = lowest_within f low xs
  lowest_inside f low t = f low t

  pub lowest_within : Next → Option (List ℕ) → Attrs → Option (List ℕ)
  lowest_within f low no_attrs = low
  lowest_within f low (attr k t q xs) = lowest_within f (lowest_inside f low t) xs

abbrev pub lowest_of : Next → Option (List ℕ) → Kind → Option (List ℕ)
lowest_of f low (standard xs None) = lowest_within f low xs
lowest_of f low (standard xs (Some t)) = lowest_inside f (lowest_within f low xs) t
lowest_of f low (enumerated ids) = low

-- by entity types that are not declared
abbrev pub undeclared_next : (List ℕ → Bool) → Next
undeclared_next declared low (entity ns) = lowest_names declared low ns
undeclared_next declared low t = low

-- by extension types that there are not
abbrev pub unknown_next : Next
unknown_next low (extension n) = lowest_name is_known_extension low n
unknown_next low t = low
