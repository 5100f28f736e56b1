-- The least type above two types, in two modes: by a table of the two kinds.
use Rattle.std.specs.Prelude.{◌≡◌, ℕ, Bool, true, false, ◌&&◌, ◌||◌, not, cond, List, [], ◌∷◌, Result, Ok, Err}
use Rattle.std.specs.Ordering.{is_eq, match_ordering}
use Rattle.policy_values.specs.Uid.{text_cmp}
use Rattle.schema_types.specs.Names.{texts_cmp, union}
use Rattle.schema_types.specs.declared.kinds.Primitive.{Primitive}
use Rattle.schema_types.specs.declared.kinds.Primitive.TheVariants.{Bool as BoolType, Long, String}
use Rattle.schema_types.specs.declared.kinds.OpenTag.{OpenTag}
use Rattle.schema_types.specs.declared.kinds.OpenTag.TheVariants.{OpenAttributes, ClosedAttributes}
use Rattle.schema_types.specs.declared.kinds.LubHelp.{LubHelp}
use Rattle.schema_types.specs.declared.kinds.LubHelp.TheVariants.{AttributeQualifier, RecordWidth, EntityType, EntityRecord, None as Other}
use Rattle.schema_types.specs.Ty.{Ty, never, true_type, false_type, primitive, any_set, set_of, record_of, any_entity, entity, action, extension, Attrs, no_attrs, attr}
use Rattle.type_relations.specs.declared.mode.SubtypeMode.{SubtypeMode}
use Rattle.type_relations.specs.declared.mode.SubtypeMode.TheVariants.{Strict, Permissive}
use Rattle.type_relations.specs.declared.join.LubError.{LubError}
use Rattle.type_relations.specs.declared.join.LubError.TheVariants.{Help, OutOfMemory}

abbrev pub result_map : {A B E : Type 0} → (A → B) → Result A E → Result B E
result_map f (Ok a) = Ok (f a)
result_map f (Err e) = Err e

abbrev pub text_eq : List ℕ → List ℕ → Bool
text_eq k l = is_eq (text_cmp k l)

abbrev pub texts_eq : List (List ℕ) → List (List ℕ) → Bool
texts_eq ms ns = is_eq (texts_cmp ms ns)

abbrev pub bool_eq : Bool → Bool → Bool
bool_eq true b = b
bool_eq false b = not b

abbrev pub either_open : OpenTag → OpenTag → OpenTag
either_open ClosedAttributes ClosedAttributes = ClosedAttributes
either_open o p = OpenAttributes

abbrev pub same_keys : Attrs → Attrs → Bool
same_keys no_attrs no_attrs = true
same_keys (attr k t q xs) (attr l u r ys) = text_eq k l && same_keys xs ys
same_keys xs ys = false

-- open where one is open or a key was lost
abbrev pub wide_open : OpenTag → OpenTag → Attrs → Attrs → Attrs → OpenTag
wide_open o p xs ys zs = cond (same_keys zs xs && same_keys zs ys) (either_open o p) OpenAttributes

abbrev pub is_record : Ty → Bool
is_record (record_of xs o) = true
is_record t = false

abbrev pub is_entity : Ty → Bool
is_entity any_entity = true
is_entity (entity ns) = true
is_entity (action n xs) = true
is_entity t = false

-- why types of two kinds have no join
abbrev pub apart : Ty → Ty → LubHelp
apart t u = cond (is_entity t && is_entity u) EntityType
    (cond ((is_entity t && is_record u) || (is_record t && is_entity u)) EntityRecord Other)

-- a primitive type with a truth value's type
abbrev pub join_bool : Primitive → Result Ty LubHelp
join_bool BoolType = Ok (primitive BoolType)
join_bool p = Err Other

abbrev pub join_primitive : Primitive → Primitive → Result Ty LubHelp
join_primitive BoolType BoolType = Ok (primitive BoolType)
join_primitive Long Long = Ok (primitive Long)
join_primitive String String = Ok (primitive String)
join_primitive p q = Err Other

-- entities that are not of the same types: strict none, permissive any entity
abbrev pub join_apart : SubtypeMode → Result Ty LubHelp
join_apart Strict = Err EntityType
join_apart Permissive = Ok any_entity

-- strict: the same types; permissive: the types of both
abbrev pub join_entities : SubtypeMode → List (List ℕ) → List (List ℕ) → Result Ty LubHelp
join_entities Strict ms ns = cond (texts_eq ms ns) (Ok (entity ms)) (Err EntityType)
join_entities Permissive ms ns = Ok (entity (union ms ns))

-- actions of one type: the strict join of their attributes
abbrev pub join_actions : SubtypeMode → List ℕ → List ℕ →
    Attrs → Attrs → Result Attrs LubHelp → Result Ty LubHelp
join_actions m k n xs ys joined = cond (text_eq k n)
    (cond (same_keys xs ys) (result_map (action k) joined) (Err RecordWidth)) (join_apart m)

-- strict: records of the same keys, with the joined attributes; permissive: with those that both have and
-- that have a join
abbrev pub join_records : SubtypeMode → Attrs → Attrs → OpenTag →
    OpenTag → Result Attrs LubHelp → Attrs → Result Ty LubHelp
join_records Strict xs ys o p joined shared =
    cond (same_keys xs ys) (result_map (λ zs. record_of zs (either_open o p)) joined) (Err RecordWidth)
join_records Permissive xs ys o p joined shared = Ok (record_of shared (wide_open o p xs ys shared))

-- strict: one attribute before it, where both or neither is required
abbrev pub join_first : List ℕ → Bool → Bool → Result Ty LubHelp → Result Attrs LubHelp → Result Attrs LubHelp
join_first k q r (Err h) rest = Err h
join_first k q r (Ok t) rest = cond (bool_eq q r) (result_map (attr k t q) rest) (Err AttributeQualifier)

-- permissive: one attribute before it, where its types have a join
abbrev pub keep : List ℕ → Bool → Result Ty LubHelp → Attrs → Attrs
keep k q (Ok t) xs = attr k t q xs
keep k q (Err h) xs = xs

abbrev mutual
  pub join : SubtypeMode → Ty → Ty → Result Ty LubHelp
  join m never u = Ok u
  join m true_type never = Ok true_type
  join m true_type true_type = Ok true_type
  join m true_type false_type = Ok (primitive BoolType)
  join m true_type (primitive p) = join_bool p
  join m false_type never = Ok false_type
  join m false_type true_type = Ok (primitive BoolType)
  join m false_type false_type = Ok false_type
  join m false_type (primitive p) = join_bool p
  join m (primitive p) never = Ok (primitive p)
  join m (primitive p) true_type = join_bool p
  join m (primitive p) false_type = join_bool p
  join m (primitive p) (primitive q) = join_primitive p q
  join m any_set never = Ok any_set
  join m any_set any_set = Ok any_set
  join m any_set (set_of u) = Ok any_set
  join m (set_of t) never = Ok (set_of t)
  join m (set_of t) any_set = Ok any_set
  join m (set_of t) (set_of u) = result_map set_of (join m t u)
  join m (record_of xs o) never = Ok (record_of xs o)
  join m (record_of xs o) (record_of ys p) = join_records m xs ys o p (join_attrs xs ys) (shared xs ys)
  join m any_entity never = Ok any_entity
  join m any_entity any_entity = Ok any_entity
  join m any_entity (entity ns) = join_apart m
  join m any_entity (action n ys) = join_apart m
  join m (entity ms) never = Ok (entity ms)
  join m (entity ms) any_entity = join_apart m
  join m (entity ms) (entity ns) = join_entities m ms ns
  join m (entity ms) (action n ys) = join_apart m
  join m (action k xs) never = Ok (action k xs)
  join m (action k xs) any_entity = join_apart m
  join m (action k xs) (entity ns) = join_apart m
  join m (action k xs) (action n ys) = join_actions m k n xs ys (join_attrs xs ys)
  join m (extension k) never = Ok (extension k)
  join m (extension k) (extension n) = cond (text_eq k n) (Ok (extension k)) (Err Other)
  join m t u = Err (apart t u)

  -- the strict join of attributes with the same keys: the first key whose types or marks don't join says why
  -- there is none
  pub join_attrs : Attrs → Attrs → Result Attrs LubHelp
  join_attrs (attr k t q xs) (attr l u r ys) = join_first k q r (join Strict t u) (join_attrs xs ys)
  join_attrs xs ys = Ok no_attrs

  -- the permissive join of ascending attributes: the common keys whose types have a join, each required where
  -- both are
  pub shared : Attrs → Attrs → Attrs
  shared no_attrs ys = no_attrs
  shared (attr k t q xs) no_attrs = no_attrs
  shared (attr k t q xs) (attr l u r ys) = match_ordering (text_cmp k l) (shared xs (attr l u r ys))
      (keep k (q && r) (join Permissive t u) (shared xs ys)) (shared (attr k t q xs) ys)

-- a list is joined from the left
abbrev pub join_rest : SubtypeMode → Result Ty LubHelp → List Ty → Result Ty LubHelp
join_rest m (Err h) us = Err h
join_rest m (Ok t) [] = Ok t
join_rest m (Ok t) (u ∷ us) = join_rest m (join m t u) us

-- from the type of no value on
abbrev pub join_all : SubtypeMode → List Ty → Result Ty LubHelp
join_all m ts = join_rest m (Ok never) ts

-- the refusal is the join's; lack of memory is free
abbrev pub IsLubError : Result Ty LubHelp → LubError → Type 0
IsLubError r (Help h) = r ≡ Err h
IsLubError r OutOfMemory = Unit {0}
