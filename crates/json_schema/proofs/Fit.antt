-- What is read of types is such as a schema holds.
use Rattle.std.proofs.Common.{◌≡◌, inl, inr, ℕ, List, [], ◌∷◌, Bool, true, false, ◌||◌, Option, Some, None, option_map, if◌then◌else◌, codes, refl, sym, subst, ap}
use Rattle.std.specs.Prelude.{IfSome, IsSomeAnd, find, option_and_then, bytes_eq}
use Rattle.std.specs.List.{AllByRecursion}
use Rattle.std.specs.Option.{option_map_or}
use Rattle.std.proofs.lemmas.Bool.{and_from}
use Rattle.std.proofs.lemmas.Map.Lookups.{exact_bytes}
use Rattle.policy_values.specs.declared.entity_uid.EntityUID.{EntityUID}
use Rattle.policy_values.specs.Uid.{text_cmp}
use Rattle.policy_values.specs.Ties.{equal_of}
use Rattle.schema_types.specs.declared.ty.AttributeType.{AttributeType}
use Rattle.schema_types.specs.Ty.{Ty, set_of, entity, extension, Attrs}
use Rattle.schema_types.specs.TyView.{attrs_of}
use Rattle.policy_values.specs.Reaches.{has}
use Rattle.schema_core.specs.Declarations.{IsRefused, declared_outline, type_entry_at, action_entry_at}
use Rattle.schema_core.specs.Entries.{TypeEntry, ActionEntry, Declarations}
use Rattle.schema_core.specs.Inside.{some_inside, some_within, is_of_extension, is_known_extension, is_held, are_held, attrs_extend}
use Rattle.schema_core.specs.Kinds.{standard, enumerated, is_enum, kind_extends, is_held_kind}
use Rattle.schema_core.specs.Outline.{IsNamedExtension}
use Rattle.schema_core.specs.declared.fault.SchemaFault.{SchemaFault}
use Rattle.schema_core.specs.declared.fault.SchemaFault.TheVariants.{DuplicateAction, ActionTypeDeclared, EmptyEnum, NotAnAction, UndeclaredType, UndeclaredAction, ActionCycle, EnumHasAncestor, NotClosed, ActionNotClosed, BadType, BadContext, UnknownExtension, OutOfMemory}
use Rattle.serde_json.specs.Data as json
use Rattle.serde_json.specs.Data.{Data, null, boolean, number, array, object, Items, no_items, item, Members, no_members, member}
use Rattle.serde_json.specs.Find.{get, as_array, as_object}
use Rattle.json_values.specs.Json.{◌>>=◌, has_only, list_of}
use Rattle.json_values.specs.Lists.{with_first, with_field}
use Rattle.json_values.specs.Names.{name_of, name_of_text, uid_of, names_of, uids_of}
use Rattle.json_schema.specs.Types.{Entries, type_named, type_form, attribute, optional, type_of, type_of_members, attributes_of, attributes_of_members, attribute_of, attribute_of_members}
use Rattle.json_schema.specs.Schema.{texts_of_items, attributes_at, tags_at, enumerated_of, standard_of, standard_names, declared_as, entity_type_of, entity_types_of_members, entity_types_of, action_names, action_in, action_of, actions_of_items, declarations_of, schema_of}
use Rattle.json_schema.specs.Laws.{is_never_read, NoneIsRead}

-- a schema may hold the type, and there are the extension types in it
abbrev IsFit : Ty → Type 0
IsFit t = (is_held t ≡ true) × ((n : List ℕ) → some_inside (is_of_extension n) t ≡ true → is_known_extension n ≡ true)

abbrev AreFit : Attrs → Type 0
AreFit xs = (are_held xs ≡ true) × ((n : List ℕ) → some_within (is_of_extension n) xs ≡ true → is_known_extension n ≡ true)

chosen : {A : Type 0} (P : A → Type 0) (b : Bool) (o p : Option A) → (b ≡ true → IfSome o P) → IfSome p P → IfSome (if b then o else p) P
chosen P true o p x y = x refl
chosen P false o p x y = y

mapped : {A B : Type 0} (P : B → Type 0) (f : A → B) (o : Option A) → IfSome o (λ x. P (f x)) → IfSome (option_map f o) P
mapped P f None h = tt
mapped P f (Some x) h = h

bound : {A B : Type 0} (P : B → Type 0) (o : Option A) (f : A → Option B) → ((x : A) → IfSome (f x) P) → IfSome (o >>= f) P
bound P None f h = tt
bound P (Some x) f h = h x

bound_by : {A B : Type 0} (Q : A → Type 0) (P : B → Type 0) (o : Option A) (f : A → Option B) → IfSome o Q → ((x : A) → Q x → IfSome (f x) P) → IfSome (o >>= f) P
bound_by Q P None f q h = tt
bound_by Q P (Some x) f q h = h x q

within : {A B : Type 0} (P : B → Type 0) (f : A → Option B) (o : Option A) → ((x : A) → IfSome (f x) P) → IfSome (option_and_then f o) P
within P f None h = tt
within P f (Some x) h = h x

either : (a b : Bool) (P : Type 0) → (a ≡ true → P) → (b ≡ true → P) → (a || b) ≡ true → P
either true b P f g e = f refl
either false b P f g e = g e

abbrev FitAttribute : AttributeType → Type 0
FitAttribute x = IsFit x.attr_type

none_named : (n : List ℕ) → false ≡ true → is_known_extension n ≡ true
none_named n e = cc

extension_fit : (t : List ℕ) → is_known_extension t ≡ true → IsFit (extension t)
extension_fit t e = (refl, λ n h. subst (λ (m : List ℕ). is_known_extension m ≡ true) (sym (exact_bytes n t (equal_of (text_cmp n t) h))) e)

named_fit : (t : List ℕ) → IfSome (type_named t) IsFit
named_fit t =
    chosen IsFit (bytes_eq t (codes "Bool")) _ _ (λ _. (refl, none_named))
    (chosen IsFit (bytes_eq t (codes "Long")) _ _ (λ _. (refl, none_named))
    (chosen IsFit (bytes_eq t (codes "String")) _ _ (λ _. (refl, none_named))
    (chosen IsFit (is_known_extension t) _ _ (extension_fit t) tt)))

form_fit : (k : List ℕ) (d : Data) (inner : Option Ty) (attributes : Option Entries) → IfSome inner IsFit → IfSome attributes (λ es. AreFit (attrs_of es)) → IfSome (type_form k d inner attributes) IsFit
form_fit k d inner attributes f g =
    chosen IsFit (bytes_eq k (codes "set")) _ _ (λ _. mapped IsFit set_of inner f)
    (chosen IsFit (bytes_eq k (codes "entity")) _ _ (λ _. entity_fit (name_of d))
    (chosen IsFit (bytes_eq k (codes "record")) _ _ (λ _. mapped IsFit _ attributes g) tt))
  where
    entity_fit : (o : Option (List ℕ)) → IfSome (option_map (λ n. entity (n ∷ [])) o) IsFit
    entity_fit None = tt
    entity_fit (Some n) = (refl, none_named)

with_fit : (k : List ℕ) (a : Option AttributeType) (es : Option Entries) → IfSome a FitAttribute → IfSome es (λ xs. AreFit (attrs_of xs)) → IfSome (with_field k a es) (λ xs. AreFit (attrs_of xs))
with_fit k None es f g = tt
with_fit k (Some a) None f g = tt
with_fit k (Some a) (Some es) f g = (and_from _ _ f.0 g.0, λ n. either _ _ _ (f.1 n) (g.1 n))

mutual
  type_fit : (d : Data) → IfSome (type_of d) IsFit
  type_fit null = tt
  type_fit (boolean b) = tt
  type_fit (number n) = tt
  type_fit (json.string t) = named_fit t
  type_fit (array ds) = tt
  type_fit (object ms) = members_fit ms

  members_fit : (ms : Members) → IfSome (type_of_members ms) IsFit
  members_fit no_members = tt
  members_fit (member k d no_members) = form_fit k d (type_of d) (attributes_of d) (type_fit d) (attributes_fit d)
  members_fit (member k d (member l e ms)) = tt

  attributes_fit : (d : Data) → IfSome (attributes_of d) (λ es. AreFit (attrs_of es))
  attributes_fit null = tt
  attributes_fit (boolean b) = tt
  attributes_fit (number n) = tt
  attributes_fit (json.string t) = tt
  attributes_fit (array ds) = tt
  attributes_fit (object ms) = entries_fit ms

  entries_fit : (ms : Members) → IfSome (attributes_of_members ms) (λ es. AreFit (attrs_of es))
  entries_fit no_members = (refl, none_named)
  entries_fit (member k d ms) = with_fit k (attribute_of d) (attributes_of_members ms) (attribute_fit d) (entries_fit ms)

  attribute_fit : (d : Data) → IfSome (attribute_of d) FitAttribute
  attribute_fit null = tt
  attribute_fit (boolean b) = tt
  attribute_fit (number n) = tt
  attribute_fit (json.string t) = mapped FitAttribute attribute (type_named t) (named_fit t)
  attribute_fit (array ds) = tt
  attribute_fit (object ms) = attribute_members_fit ms

  attribute_members_fit : (ms : Members) → IfSome (attribute_of_members ms) FitAttribute
  attribute_members_fit no_members = tt
  attribute_members_fit (member k d no_members) =
      chosen FitAttribute (bytes_eq k (codes "optional")) _ _ (λ _. mapped FitAttribute optional (type_of d) (type_fit d))
      (mapped FitAttribute attribute (type_form k d (type_of d) (attributes_of d)) (form_fit k d (type_of d) (attributes_of d) (type_fit d) (attributes_fit d)))
  attribute_members_fit (member k d (member l e ms)) = tt

attributes_at_fit : (o : Option Data) → IfSome (attributes_at o) AreFit
attributes_at_fit None = (refl, none_named)
attributes_at_fit (Some d) = mapped AreFit attrs_of (attributes_of d) (attributes_fit d)

tags_at_fit : (o : Option Data) → IfSome (tags_at o) (λ t. IfSome t IsFit)
tags_at_fit None = tt
tags_at_fit (Some d) = mapped (λ t. IfSome t IsFit) Some (type_of d) (type_fit d)

-- a schema may hold the types of the entity type, and it lists none where it is enumerated
record IsFitType (t : TypeEntry) : Type 0 where
  held : is_held_kind t.kind ≡ true
  extensions : (n : List ℕ) → kind_extends t.kind n ≡ true → is_known_extension n ≡ true
  lists : is_enum t.kind ≡ true → t.member_of ≡ []

standard_fit : (name : List ℕ) (member_of : List (List ℕ)) (xs : Attrs) (t : Option Ty) → AreFit xs → IfSome t IsFit → IsFitType (record { name = name; member_of = member_of; kind = standard xs t })
standard_fit name member_of xs None f g = record { held = f.0; extensions = f.1; lists = λ e. cc }
standard_fit name member_of xs (Some t) f g = record { held = and_from _ _ f.0 g.0; extensions = λ n. either _ _ _ (f.1 n) (g.1 n); lists = λ e. cc }

entity_type_fit : (k : List ℕ) (d : Data) → IfSome (entity_type_of k d) IsFitType
unfolding entity_type_of
entity_type_fit k d = bound IsFitType (name_of_text k) _ (λ name. bound IsFitType (as_object d) _ (λ ms. declared_fit name ms (get (codes "enum") d)))
  where
    declared_fit : (name : List ℕ) (ms : Members) (o : Option Data) → IfSome (declared_as name ms d o) IsFitType
    declared_fit name ms None = chosen IsFitType (has_only standard_names ms) (standard_of name d) None
        (λ _. bound IsFitType (names_of (get (codes "memberOf") d)) _ (λ member_of. bound_by AreFit IsFitType (attributes_at (get (codes "attributes") d)) _ (attributes_at_fit (get (codes "attributes") d))
        (λ xs f. bound_by (λ t. IfSome t IsFit) IsFitType (tags_at (get (codes "tags") d)) _ (tags_at_fit (get (codes "tags") d)) (λ t g. standard_fit name member_of xs t f g)))) tt
    declared_fit name ms (Some listed) = chosen IsFitType (has_only (codes "enum" ∷ []) ms) (enumerated_of name listed) None
        (λ _. bound IsFitType (as_array listed) _ (λ items. bound IsFitType (texts_of_items items) _ (λ choices. record { held = refl; extensions = none_named; lists = λ _. refl }))) tt

all_with : {A : Type 0} (P : A → Type 0) (o : Option A) (os : Option (List A)) → IfSome o P → IfSome os (AllByRecursion P) → IfSome (with_first o os) (AllByRecursion P)
all_with P None os f g = tt
all_with P (Some x) None f g = tt
all_with P (Some x) (Some xs) f g = (f, g)

types_fit : (ms : Members) → IfSome (entity_types_of_members ms) (AllByRecursion IsFitType)
types_fit no_members = tt
types_fit (member k d ms) = all_with IsFitType (entity_type_of k d) (entity_types_of_members ms) (entity_type_fit k d) (types_fit ms)

types_at_fit : (o : Option Data) → IfSome (entity_types_of o) (AllByRecursion IsFitType)
types_at_fit None = tt
types_at_fit (Some d) = within (AllByRecursion IsFitType) entity_types_of_members (as_object d) types_fit

abbrev IsFitAction : ActionEntry → Type 0
IsFitAction a = AreFit a.context

action_fit : (d : Data) → IfSome (action_of d) IsFitAction
unfolding action_of
action_fit d = bound IsFitAction (as_object d) _ (λ ms. chosen IsFitAction (has_only action_names ms) (action_in d) None (λ _. in_fit) tt)
  where
    in_fit : IfSome (action_in d) IsFitAction
    in_fit = bound IsFitAction (option_and_then uid_of (get (codes "id") d)) _ (λ id. bound IsFitAction (names_of (get (codes "principals") d)) _ (λ principals. bound IsFitAction (names_of (get (codes "resources") d)) _
        (λ resources. bound IsFitAction (uids_of (get (codes "memberOf") d)) _ (λ member_of. bound_by AreFit IsFitAction (attributes_at (get (codes "context") d)) _ (attributes_at_fit (get (codes "context") d)) (λ xs f. f)))))

actions_fit : (ds : Items) → IfSome (actions_of_items ds) (AllByRecursion IsFitAction)
actions_fit no_items = tt
actions_fit (item d ds) = all_with IsFitAction (action_of d) (actions_of_items ds) (action_fit d) (actions_fit ds)

record AreFitDeclarations (d : Declarations) : Type 0 where
  types : AllByRecursion IsFitType d.entity_types
  actions : AllByRecursion IsFitAction d.actions

schema_fit : (v : Data) → IfSome (schema_of v) AreFitDeclarations
unfolding schema_of
schema_fit v = bound AreFitDeclarations (as_object v) _ (λ ms. chosen AreFitDeclarations (has_only (codes "entityTypes" ∷ codes "actions" ∷ []) ms) (declarations_of (get (codes "entityTypes") v) (get (codes "actions") v)) None
    (λ _. bound AreFitDeclarations (list_of (get (codes "actions") v)) _ (λ items. bound_by (AllByRecursion IsFitType) AreFitDeclarations (entity_types_of (get (codes "entityTypes") v)) _ (types_at_fit (get (codes "entityTypes") v))
    (λ ts f. bound_by (AllByRecursion IsFitAction) AreFitDeclarations (actions_of_items items) _ (actions_fit items) (λ acts g. record { types = f; actions = g })))) tt)

found_fit : {A : Type 0} (P : A → Type 0) (p : A → Bool) (xs : List A) → AllByRecursion P xs → IfSome (find p xs) P
found_fit P p [] h = tt
found_fit P p (x ∷ xs) h = chosen P (p x) (Some x) (find p xs) (λ _. h.0) (found_fit P p xs h.1)

-- what is found is fit, so that it has not what no fit one has
clash : {A B : Type 0} (P : A → Type 0) (Q : B → Type 0) (f : A → B) (o : Option A) → IfSome o P → IsSomeAnd (option_map f o) Q → ((x : A) → P x → Q (f x) → ⊥) → ⊥
clash P Q f None p q never = q
clash P Q f (Some x) p q never = never x p q

lists_none : (o : Option TypeEntry) (y : List ℕ) → IfSome o IsFitType → IsSomeAnd (option_map (λ t. t.kind) o) (λ k. is_enum k ≡ true) → option_map_or (λ t. has text_cmp t.member_of y) o false ≡ true → ⊥
lists_none None y f e h = cc
lists_none (Some t) y f e h = let none = f.lists e in cc (subst (λ (ns : List (List ℕ)). has text_cmp ns y ≡ true) none h)

module _ (d : Declarations) (fit : AreFitDeclarations d) where
  type_found : (x : List ℕ) → IfSome (type_entry_at d x) IsFitType
  type_found x = found_fit IsFitType _ d.entity_types fit.types

  action_found : (u : EntityUID) → IfSome (action_entry_at d u) IsFitAction
  action_found u = found_fit IsFitAction _ d.actions fit.actions

  extension_known : (n : List ℕ) → is_known_extension n ≡ false → IsNamedExtension (declared_outline d) n → ⊥
  extension_known n unknown (inl (x, h)) = clash IsFitType (λ k. kind_extends k n ≡ true) (λ t. t.kind) (type_entry_at d x) (type_found x) h (λ t f e. cc (f.extensions n e, unknown))
  extension_known n unknown (inr (u, h)) = clash IsFitAction (λ xs. attrs_extend xs n ≡ true) (λ a. a.context) (action_entry_at d u) (action_found u) h (λ a f e. cc (f.1 n e, unknown))

  none_refuses : (f : SchemaFault) → is_never_read f ≡ true → ¬ IsRefused d f
  none_refuses (DuplicateAction u) e h = cc
  none_refuses (ActionTypeDeclared x) e h = cc
  none_refuses (EmptyEnum x) e h = cc
  none_refuses (NotAnAction u) e h = cc
  none_refuses (UndeclaredType x) e h = cc
  none_refuses (UndeclaredAction u) e h = cc
  none_refuses (ActionCycle u) e h = cc
  none_refuses (EnumHasAncestor x) e h = let l = h.2.holds in lists_none (type_entry_at d x) l.1.0 (type_found x) l.0 l.1.1
  none_refuses (NotClosed x) e h = absurd h.1
  none_refuses (ActionNotClosed u) e h = absurd h.1
  none_refuses (BadType x) e h = clash IsFitType (λ k. is_held_kind k ≡ false) (λ t. t.kind) (type_entry_at d x) (type_found x) h.1.holds (λ t f g. cc (f.held, g))
  none_refuses (BadContext u) e h = clash IsFitAction (λ xs. are_held xs ≡ false) (λ a. a.context) (action_entry_at d u) (action_found u) h.1.1.holds (λ a f g. cc (f.0, g))
  none_refuses (UnknownExtension n) e h = extension_known n h.1.2.holds.0 h.1.2.holds.1
  none_refuses OutOfMemory e h = cc

pub none_is_read : NoneIsRead
none_is_read v d e = none_refuses d (subst (λ (o : Option Declarations). IfSome o AreFitDeclarations) e (schema_fit v))
