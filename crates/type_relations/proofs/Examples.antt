-- The joins of a dozen types, worked out by hand.
use Rattle.std.proofs.Common.{◌≡◌, ℕ, true, false, List, [], ◌∷◌, map, Result, Ok, Err, codes, refl}
use Rattle.std.specs.Prelude.{find, eqb}
use Rattle.std.specs.Option.{option_map_or}
use Rattle.schema_types.specs.declared.kinds.Primitive.TheVariants.{Bool as BoolType, Long}
use Rattle.schema_types.specs.declared.kinds.OpenTag.TheVariants.{OpenAttributes, ClosedAttributes}
use Rattle.schema_types.specs.declared.kinds.LubHelp.{LubHelp}
use Rattle.schema_types.specs.declared.kinds.LubHelp.TheVariants.{AttributeQualifier, RecordWidth, EntityType, EntityRecord, None as Other}
use Rattle.schema_types.specs.Ty.{Ty, never, true_type, false_type, primitive, any_set, set_of, record_of, any_entity, entity, no_attrs, attr}
use Rattle.type_relations.specs.declared.mode.SubtypeMode.{SubtypeMode}
use Rattle.type_relations.specs.declared.mode.SubtypeMode.TheVariants.{Strict, Permissive}
use Rattle.type_relations.specs.Join.{join, join_all}

abbrev long : Ty
long = primitive Long

abbrev required : Ty
required = record_of (attr (codes "a") long true no_attrs) ClosedAttributes

abbrev optional : Ty
optional = record_of (attr (codes "a") long false no_attrs) ClosedAttributes

abbrev user : Ty
user = entity (codes "User" ∷ [])

abbrev dozen : List Ty
dozen = never ∷ true_type ∷ false_type ∷ primitive BoolType ∷ long ∷ any_set ∷ set_of long ∷ required ∷ optional ∷ record_of no_attrs OpenAttributes ∷ user ∷ any_entity ∷ []

-- a join is one of the dozen, counted from 0 to b, or the first letter of why there is none (q for qualifiers)
abbrev letters : List (ℕ × Result Ty LubHelp)
letters =
    (48, Ok never) ∷ (49, Ok true_type) ∷ (50, Ok false_type) ∷ (51, Ok (primitive BoolType)) ∷ (52, Ok long) ∷ (53, Ok any_set) ∷ (54, Ok (set_of long)) ∷ (55, Ok required) ∷ (56, Ok optional) ∷
    (57, Ok (record_of no_attrs OpenAttributes)) ∷ (97, Ok user) ∷ (98, Ok any_entity) ∷ (113, Err AttributeQualifier) ∷ (119, Err RecordWidth) ∷ (101, Err EntityType) ∷ (114, Err EntityRecord) ∷ []

abbrev read : ℕ → Result Ty LubHelp
read c = option_map_or (λ p. p.1) (find (λ p. eqb p.0 c) letters) (Err Other)

abbrev Joins : SubtypeMode → List (List ℕ) → Type 0
Joins m rows = map (λ t. map (join m t) dozen) dozen ≡ map (map read) rows

strict_joins : Joins Strict (codes "0123456789ab" ∷ codes "1133nnnnnnnn" ∷ codes "2323nnnnnnnn" ∷ codes "3333nnnnnnnn" ∷ codes "4nnn4nnnnnnn" ∷ codes "5nnnn55nnnnn" ∷ codes "6nnnn56nnnnn" ∷ codes "7nnnnnn7qwrr" ∷
    codes "8nnnnnnq8wrr" ∷ codes "9nnnnnnww9rr" ∷ codes "annnnnnrrrae" ∷ codes "bnnnnnnrrreb" ∷ [])
strict_joins = refl

permissive_joins : Joins Permissive (codes "0123456789ab" ∷ codes "1133nnnnnnnn" ∷ codes "2323nnnnnnnn" ∷ codes "3333nnnnnnnn" ∷ codes "4nnn4nnnnnnn" ∷ codes "5nnnn55nnnnn" ∷ codes "6nnnn56nnnnn" ∷ codes "7nnnnnn789rr" ∷
    codes "8nnnnnn889rr" ∷ codes "9nnnnnn999rr" ∷ codes "annnnnnrrrab" ∷ codes "bnnnnnnrrrbb" ∷ [])
permissive_joins = refl

-- entities of two types, and records without a common key
union : join_all Permissive (user ∷ entity (codes "Photo" ∷ []) ∷ []) ≡ Ok (entity (codes "Photo" ∷ codes "User" ∷ []))
union = refl

no_common_key : join_all Permissive (required ∷ record_of (attr (codes "b") long false no_attrs) ClosedAttributes ∷ []) ≡ Ok (record_of no_attrs OpenAttributes)
no_common_key = refl
