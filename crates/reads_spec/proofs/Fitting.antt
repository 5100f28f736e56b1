-- What a path leads to fits the type that the schema has for the path.
use Rattle.std.proofs.Common.{◌≡◌, ◌⊎◌, ℕ, Bool, true, false, not, ◌||◌, List, [], ◌∷◌, ◌++◌, map, Option, Some, None, refl, sym, ap, ◌∙◌, subst, arith, inl, inr}
use Rattle.std.specs.Prelude.{cond, is_some, IsTrue, IfSome}
use Rattle.std.specs.List.{AllByRecursion}
use Rattle.std.specs.Option.{option_and_then, option_map, option_map_or, option_to_list}
use Rattle.std.specs.Ordering.{is_eq}
use Rattle.std.proofs.lemmas.Bool.{and_parts}
use Rattle.policy_values.specs.Basename.{is_action_type}
use Rattle.policy_values.specs.declared.entity_uid.EntityUID.{EntityUID}
use Rattle.policy_values.specs.Uid.{text_cmp}
use Rattle.policy_values.specs.Value.{Val, entity as id, rec, Fields, no_fields, field, field_at}
use Rattle.entity_store.specs.declared.request.Request.{Request}
use Rattle.entity_store.specs.Request.{principal_of, action_of, resource_of}
use Rattle.entity_store.specs.Store.{StoredEntity, Store, entity_at}
use Rattle.policy_expressions.specs.declared.kinds.Var.TheVariants.{Principal, Action, Resource, Context}
use Rattle.policy_core.specs.Eval.{variable_value}
use Rattle.type_relations.specs.Attributes.{or_none}
use Rattle.type_relations.specs.Member.{Member, Typed, Undeclared, IsDeclared, type_of}
use Rattle.schema_types.specs.Attrs.{attr_at}
use Rattle.schema_types.specs.Names.{has_name, only_name}
use Rattle.schema_types.specs.declared.kinds.Primitive.TheVariants.{Bool as BoolType, Long, String}
use Rattle.schema_types.specs.declared.kinds.OpenTag.{OpenTag}
use Rattle.schema_types.specs.declared.kinds.OpenTag.TheVariants.{OpenAttributes, ClosedAttributes}
use Rattle.schema_types.specs.declared.ty.AttributeType.{AttributeType}
use Rattle.schema_types.specs.Ty.{Ty, primitive, record_of, any_entity, entity, action, Attrs, no_attrs, attr, is_open}
use Rattle.schema_core.specs.EnvData.{EnvData, declared_action, undeclared_action, id_type, literal_type, context_type_in}
use Rattle.schema_core.specs.Faults.{IsSchema}
use Rattle.schema_core.specs.Inside.{is_held, are_held}
use Rattle.schema_core.specs.Kinds.{Kind, standard, enumerated, attributes_in, tags_in, is_held_kind}
use Rattle.schema_core.specs.Schema.{SchemaData, TypeData, ActionData, type_at, action_at}
use Rattle.reads_spec.specs.Paths.{Root, variable, an_id, Step, along, any_tag, Chain, AccessPath}
use Rattle.typing_spec.specs.Environment.{declared_attributes, declared_tags}
use Rattle.reads_spec.specs.PathTypes.{type_along, step_on, types_along, root_type, chains, chains_in}
use Rattle.reads_spec.specs.Restrict.{cut, cut_fields, root_value, values_in, step_in_entity, step}
use Rattle.reads_spec.specs.Cover.{IsMemberOf, AreMembersOf, HasTypes, KeepsTypes}
use Rattle.reads_spec.proofs.Lists.{same_text, IsIn, in_left, in_right, in_map}
use Rattle.reads_spec.proofs.Cuts.{uid_at}

-- a record's fields are declared and fit their types, and a step from an id is typed as the id's own type has it
abbrev mutual
  pub Fits : SchemaData → Option Ty → Val → Type 0
  Fits d o (id u) = (n : Step) → step_on d o n ≡ type_along d (entity (u.entity_type ∷ [])) n
  Fits d (Some (record_of xs p)) (rec fs) = FitFields d xs fs
  Fits d o (rec fs) = ⊥
  Fits d o v = Unit {0}

  pub FitFields : SchemaData → Attrs → Fields → Type 0
  FitFields d xs no_fields = Unit {0}
  FitFields d xs (field n v fs) = ((a : AttributeType) × (attr_at xs n ≡ Some a) × Fits d (Some a.attr_type) v) × FitFields d xs fs

-- there is a type that all the values fit
abbrev pub FitAll : SchemaData → Option Ty → Fields → Type 0
FitAll d o no_fields = Unit {0}
FitAll d None (field k v fs) = ⊥
FitAll d (Some t) (field k v fs) = Fits d (Some t) v × FitAll d (Some t) fs

-- attributes and tags of a stored entity fit what the schema has for its type
abbrev pub EntityFits : SchemaData → StoredEntity → Type 0
EntityFits d e = FitFields d (or_none (declared_attributes d e.uid.entity_type)) e.attrs × FitAll d (declared_tags d e.uid.entity_type) e.tags

listed_one : (o : Option Val) (w : Val) → IsIn w (option_to_list o) → o ≡ Some w
listed_one None w i = absurd i
listed_one (Some v) w (inl e) = ap Some e
listed_one (Some v) w (inr i) = absurd i

-- a field that is found fits
pub field_fits : (d : SchemaData) (xs : Attrs) (fs : Fields) (n : List ℕ) (u : Val) → FitFields d xs fs → field_at fs n ≡ Some u → Fits d (option_map (λ a. a.attr_type) (attr_at xs n)) u
field_fits d xs no_fields n u h k = absurd (cc)
field_fits d xs (field m v fs) n u h k = here (is_eq (text_cmp n m)) refl k (field_fits d xs fs n u h.1)
  where
    here : (b : Bool) → is_eq (text_cmp n m) ≡ b → (cond b (Some v) (field_at fs n)) ≡ Some u → (field_at fs n ≡ Some u → Fits d (option_map (λ a. a.attr_type) (attr_at xs n)) u) → Fits d (option_map (λ a. a.attr_type) (attr_at xs n)) u
    here true e g f = let i : v ≡ u = cc in rw (same_text n m e, h.0.1) (subst (Fits d (Some h.0.0.attr_type)) i h.0.2)
    here false e g f = f g

pub one_fits : (d : SchemaData) (o : Option Ty) (fs : Fields) (u : Val) → FitAll d o fs → IsIn u (values_in fs) → Fits d o u
one_fits d o no_fields u h k = absurd k
one_fits d None (field m v fs) u h k = absurd h
one_fits d (Some t) (field m v fs) u h (inl e) = subst (Fits d (Some t)) e h.0
one_fits d (Some t) (field m v fs) u h (inr k) = one_fits d (Some t) fs u h.1 k

-- the entity at an id, where there is one, fits
abbrev pub FitsThere : SchemaData → Store → Val → Type 0
FitsThere d s (id x) = (e : StoredEntity) → entity_at s x ≡ Some e → EntityFits d e
FitsThere d s v = Unit {0}

-- a value one step on fits the type one step on
pub step_fits : (d : SchemaData) (s : Store) (o : Option Ty) (v w : Val) (n : Step) → FitsThere d s v → Fits d o v → IsIn w (step s v n) → Fits d (step_on d o n) w
step_fits d s o (id x) w n all h i = subst (λ p. Fits d p w) (sym (h n)) (here (entity_at s x) refl n i)
  where
    here : (r : Option StoredEntity) → entity_at s x ≡ r → (n : Step) → IsIn w (step_in_entity r n) → Fits d (type_along d (entity (x.entity_type ∷ [])) n) w
    here None e n i = absurd i
    here (Some e) f (along k) i = subst (λ y. Fits d (type_along d (entity (y.entity_type ∷ [])) (along k)) w) (uid_at s x e f) (field_fits d (or_none (declared_attributes d e.uid.entity_type)) e.attrs k w (all e f).0 (listed_one (field_at e.attrs k) w i))
    here (Some e) f any_tag i = subst (λ y. Fits d (declared_tags d y.entity_type) w) (uid_at s x e f) (one_fits d (declared_tags d e.uid.entity_type) e.tags w (all e f).1 i)
step_fits d s (Some (record_of xs p)) (rec fs) w (along k) all h i = field_fits d xs fs k w h (listed_one (field_at fs k) w i)
step_fits d s o (rec fs) w any_tag all h i = absurd i
step_fits d s o (rec fs) w (along k) all h i = absurd h
step_fits d s o v w n all h i = absurd i

-- no field has an undeclared key
pub field_undeclared : (d : SchemaData) (xs : Attrs) (fs : Fields) (n : List ℕ) → FitFields d xs fs → option_map (λ a. a.attr_type) (attr_at xs n) ≡ None → field_at fs n ≡ None
field_undeclared d xs no_fields n h k = refl
field_undeclared d xs (field m v fs) n h k = here (is_eq (text_cmp n m)) refl (field_undeclared d xs fs n h.1 k)
  where
    here : (b : Bool) → is_eq (text_cmp n m) ≡ b → field_at fs n ≡ None → cond b (Some v) (field_at fs n) ≡ None
    here true e f = let t : Some h.0.0.attr_type ≡ None = sym (ap (option_map (λ a. a.attr_type)) h.0.1) ∙ ap (λ l. option_map (λ a. a.attr_type) (attr_at xs l)) (sym (same_text n m e)) ∙ k in absurd (cc)
    here false e f = f

-- nothing lies an undeclared step on
pub step_undeclared : (d : SchemaData) (s : Store) (o : Option Ty) (v : Val) (n : Step) → FitsThere d s v → Fits d o v → step_on d o n ≡ None → step s v n ≡ []
step_undeclared d s o (id x) n all h k = here (entity_at s x) refl n (sym (h n) ∙ k)
  where
    no_values : (t : Option Ty) (fs : Fields) → FitAll d t fs → t ≡ None → values_in fs ≡ []
    no_values t no_fields f e = refl
    no_values None (field m v fs) f e = absurd f
    no_values (Some t) (field m v fs) f e = absurd (cc)

    here : (r : Option StoredEntity) → entity_at s x ≡ r → (n : Step) → type_along d (entity (x.entity_type ∷ [])) n ≡ None → step_in_entity r n ≡ []
    here None e n i = refl
    here (Some e) f (along k) i = ap option_to_list (field_undeclared d (or_none (declared_attributes d e.uid.entity_type)) e.attrs k (all e f).0 (ap (λ y. type_along d (entity (y.entity_type ∷ [])) (along k)) (uid_at s x e f) ∙ i))
    here (Some e) f any_tag i = no_values (declared_tags d e.uid.entity_type) e.tags (all e f).1 (ap (λ y. declared_tags d y.entity_type) (uid_at s x e f) ∙ i)
step_undeclared d s (Some (record_of xs p)) (rec fs) (along m) all h k = ap option_to_list (field_undeclared d xs fs m h k)
step_undeclared d s o (rec fs) any_tag all h k = refl
step_undeclared d s o (rec fs) (along m) all h k = absurd h
step_undeclared d s o v n all h k = refl

-- steps one after another
pub types_along-append : (d : SchemaData) (o : Option Ty) (ns ms : List Step) → types_along d o (ns ++ ms) ≡ types_along d (types_along d o ns) ms
types_along-append d o [] ms = refl
types_along-append d o (n ∷ ns) ms = types_along-append d (step_on d o n) ns ms

-- the chains of a declared field
pub chains_at : (xs : Attrs) (n : List ℕ) (a : AttributeType) → attr_at xs n ≡ Some a → IsIn (n ∷ []) (chains_in xs) × ((c : Chain) → IsIn c (chains a.attr_type) → IsIn (n ∷ c) (chains_in xs))
chains_at no_attrs n a h = absurd (cc)
chains_at (attr k t q xs) n a h = here (is_eq (text_cmp n k)) refl h (chains_at xs n a)
  where
    Held : Attrs → Type 0
    Held ys = IsIn (n ∷ []) (chains_in ys) × ((c : Chain) → IsIn c (chains a.attr_type) → IsIn (n ∷ c) (chains_in ys))

    here : (b : Bool) → is_eq (text_cmp n k) ≡ b → cond b (Some (record { attr_type = t; is_required = q })) (attr_at xs n) ≡ Some a → (attr_at xs n ≡ Some a → Held xs) → Held (attr k t q xs)
    here true e g ih =
        let s : k ≡ n = sym (same_text n k e) in
        let f : t ≡ a.attr_type = ap (λ o. option_map_or (λ b. b.attr_type) o t) g in
        (inl (ap (λ x. x ∷ []) s), λ c i. inr (in_left (n ∷ c) (map (λ c. k ∷ c) (chains t)) (chains_in xs) (rw (s, f) (in_map (λ c. n ∷ c) c (chains a.attr_type) i))))
    here false e g ih =
        let i = ih g in
        (inr (in_right (n ∷ []) (map (λ c. k ∷ c) (chains t)) (chains_in xs) i.0), λ c j. inr (in_right (n ∷ c) (map (λ c. k ∷ c) (chains t)) (chains_in xs) (i.1 c j)))

-- a value that fits stays whole where all chains of the type are kept
mutual
  pub cut_whole : (d : SchemaData) (o : Option Ty) (v : Val) (k : Chain → Bool) → Fits d o v → ((c : Chain) → IsIn c (option_map_or chains o []) → k c ≡ true) → cut v k ≡ v
  cut_whole d (Some (record_of xs p)) (rec fs) k m h = ap rec (cut_fields_whole d xs fs k m h)
  cut_whole d o (rec fs) k m h = absurd m
  cut_whole d o v k m h = refl

  pub cut_fields_whole : (d : SchemaData) (xs : Attrs) (fs : Fields) (k : Chain → Bool) → FitFields d xs fs → ((c : Chain) → IsIn c (chains_in xs) → k c ≡ true) → cut_fields fs k ≡ fs
  cut_fields_whole d xs no_fields k m h = refl
  cut_fields_whole d xs (field n v fs) k m h =
      let i = chains_at xs n m.0.0 m.0.1 in
      let f = cut_whole d (Some m.0.0.attr_type) v (λ c. k (n ∷ c)) m.0.2 (λ c j. h (n ∷ c) (i.1 c j)) in
      rw (h (n ∷ []) i.0) (λ j. field n (f j) (cut_fields_whole d xs fs k m.1 h j))

-- members of types that a schema may hold fit them
attr_held : (xs : Attrs) (n : List ℕ) (a : AttributeType) → IsTrue (are_held xs) → attr_at xs n ≡ Some a → IsTrue (is_held a.attr_type)
attr_held no_attrs n a h k = absurd (cc)
attr_held (attr m t q xs) n a h k = here (is_eq (text_cmp n m)) k (attr_held xs n a (and_parts (is_held t) (are_held xs) h).1)
  where
    here : (b : Bool) → cond b (Some (record { attr_type = t; is_required = q })) (attr_at xs n) ≡ Some a → (attr_at xs n ≡ Some a → IsTrue (is_held a.attr_type)) → IsTrue (is_held a.attr_type)
    here true g ih = let f : t ≡ a.attr_type = ap (λ o. option_map_or (λ b. b.attr_type) o t) g in rw (← f) (and_parts (is_held t) (are_held xs) h).0
    here false g ih = ih g

one_type : (n m : List ℕ) → IsTrue (has_name (n ∷ []) m) → m ≡ n
one_type n m h = same_text m n (or_none_true (is_eq (text_cmp m n)) h)
  where
    or_none_true : (b : Bool) → (b || false) ≡ true → b ≡ true
    or_none_true true h = refl
    or_none_true false h = absurd (cc)

closed_only : (p : OpenTag) → not (is_open p) ≡ true → p ≡ ClosedAttributes
closed_only ClosedAttributes h = refl
closed_only OpenAttributes h = absurd (cc)

ids_fit : (d : SchemaData) (ns : List (List ℕ)) (u : EntityUID) → IsTrue (is_some (only_name ns)) → IsTrue (has_name ns u.entity_type) → Fits d (Some (entity ns)) (id u)
ids_fit d [] u h m = absurd (cc)
ids_fit d (n ∷ []) u h m = λ k. rw (one_type n u.entity_type m) refl
ids_fit d (n ∷ o ∷ ns) u h m = absurd (cc)

mutual
  pub member_fits : (d : SchemaData) (t : Ty) (v : Val) → IsTrue (is_held t) → Member t v → Fits d (Some t) v
  member_fits d (entity ns) (id u) h m = ids_fit d ns u h m
  member_fits d any_entity (id u) h m = absurd (cc)
  member_fits d (action n xs) (id u) h m = absurd (cc)
  member_fits d (primitive BoolType) (id u) h m = absurd m
  member_fits d (primitive Long) (id u) h m = absurd m
  member_fits d (primitive String) (id u) h m = absurd m
  member_fits d t (id u) h m = absurd m
  member_fits d (record_of xs p) (rec fs) h m =
      let i = and_parts (not (is_open p)) (are_held xs) h in
      members_fit d p xs fs (closed_only p i.0) i.1 m.1
  member_fits d (primitive BoolType) (rec fs) h m = absurd m
  member_fits d (primitive Long) (rec fs) h m = absurd m
  member_fits d (primitive String) (rec fs) h m = absurd m
  member_fits d t (rec fs) h m = absurd m
  member_fits d t v h m = tt

  pub members_fit : (d : SchemaData) (p : OpenTag) (xs : Attrs) (fs : Fields) → p ≡ ClosedAttributes → IsTrue (are_held xs) → Typed p xs fs → FitFields d xs fs
  members_fit d p xs no_fields c h m = tt
  members_fit d OpenAttributes xs (field n v fs) c h m = absurd (cc)
  members_fit d ClosedAttributes xs (field n v fs) c h m = (here (attr_at xs n) refl m.0 (λ a. member_fits d a.attr_type v), members_fit d ClosedAttributes xs fs c h m.1)
    where
      here : (o : Option AttributeType) → attr_at xs n ≡ o → Undeclared ClosedAttributes o ⊎ (IsDeclared o × Member (type_of o) v) → ((a : AttributeType) → IsTrue (is_held a.attr_type) → Member a.attr_type v → Fits d (Some a.attr_type) v) → (a : AttributeType) × (attr_at xs n ≡ Some a) × Fits d (Some a.attr_type) v
      here None e (inl i) f = absurd i
      here None e (inr i) f = absurd i.0
      here (Some a) e (inl i) f = absurd i
      here (Some a) e (inr i) f = (a, e, f a (attr_held xs n a h e) i.1)

-- what a schema declares may be held
module _ (d : SchemaData) (schema : IsSchema d) where
  kind_held : (n : List ℕ) (t : TypeData) → type_at d n ≡ Some t → IsTrue (is_held_kind t.kind)
  kind_held n t e = subst (λ o. IfSome (option_map (λ t. t.kind) o) (λ k. IsTrue (is_held_kind k))) e (schema.types.kinds n)

  attributes_held : (n : List ℕ) → IsTrue (are_held (or_none (declared_attributes d n)))
  attributes_held n = here (type_at d n) refl
    where
      of_kind : (k : Kind) → IsTrue (is_held_kind k) → IsTrue (are_held (attributes_in k))
      of_kind (standard xs None) h = h
      of_kind (standard xs (Some t)) h = (and_parts (are_held xs) (is_held t) h).0
      of_kind (enumerated ids) h = refl

      here : (o : Option TypeData) → type_at d n ≡ o → IsTrue (are_held (or_none (option_map (λ t. attributes_in t.kind) o)))
      here None e = refl
      here (Some t) e = of_kind t.kind (kind_held n t e)

  -- a value of the type of tags
  tag_fits : (n : List ℕ) (v : Val) → IsMemberOf (declared_tags d n) v → Fits d (declared_tags d n) v
  tag_fits n v m = here (type_at d n) refl m
    where
      of_kind : (k : Kind) → IsTrue (is_held_kind k) → IsMemberOf (tags_in k) v → Fits d (tags_in k) v
      of_kind (standard xs None) h m = absurd m
      of_kind (standard xs (Some t)) h m = member_fits d t v (and_parts (are_held xs) (is_held t) h).1 m
      of_kind (enumerated ids) h m = absurd m

      here : (o : Option TypeData) → type_at d n ≡ o → IsMemberOf (option_and_then (λ t. tags_in t.kind) o) v → Fits d (option_and_then (λ t. tags_in t.kind) o) v
      here None e m = absurd m
      here (Some t) e m = of_kind t.kind (kind_held n t e) m

  tags_fit : (n : List ℕ) (fs : Fields) → AreMembersOf (declared_tags d n) fs → FitAll d (declared_tags d n) fs
  tags_fit n fs m = here (declared_tags d n) (tag_fits n) fs m
    where
      here : (o : Option Ty) → ((v : Val) → IsMemberOf o v → Fits d o v) → (fs : Fields) → AreMembersOf o fs → FitAll d o fs
      here o f no_fields m = tt
      here None f (field k v fs) m = absurd m.0
      here (Some t) f (field k v fs) m = (f v m.0, here (Some t) f fs m.1)

  -- nothing lies one step on from an id of a type that is not declared
  no_step : (n : List ℕ) → type_at d n ≡ None → (k : Step) → type_along d (entity (n ∷ [])) k ≡ None
  no_step n e (along k) = rw e refl
  no_step n e any_tag = rw e refl

  pub literal_fits : (u : EntityUID) → Fits d (literal_type d u) (id u)
  literal_fits u = here (action_at d u) refl (type_at d u.entity_type) refl
    where
      here : (a : Option ActionData) → action_at d u ≡ a → (t : Option TypeData) → type_at d u.entity_type ≡ t → Fits d (id_type u a t) (id u)
      here (Some a) e (Some t) f k =
          let acts : is_action_type u.entity_type ≡ true = schema.names.actions u (rw e refl) in
          let none : is_action_type u.entity_type ≡ false = schema.names.types u.entity_type (rw f refl) in
          absurd (cc)
      here (Some a) e None f (along k) = sym (no_step u.entity_type f (along k))
      here (Some a) e None f any_tag = sym (no_step u.entity_type f any_tag)
      here None e (Some t) f k = refl
      here None e None f k = sym (no_step u.entity_type f k)

  -- an id of the type of a literal
  same_type : (u w : EntityUID) → IsMemberOf (literal_type d w) (id u) → u.entity_type ≡ w.entity_type
  same_type u w m = here (action_at d w) (type_at d w.entity_type) m
    where
      here : (a : Option ActionData) (t : Option TypeData) → IsMemberOf (id_type w a t) (id u) → u.entity_type ≡ w.entity_type
      here (Some a) t m = m
      here None (Some t) m = one_type w.entity_type u.entity_type m
      here None None m = absurd m

  pub entity_fits : (e : StoredEntity) → HasTypes d e → EntityFits d e
  entity_fits e h = (
    members_fit d ClosedAttributes (or_none (declared_attributes d e.uid.entity_type)) e.attrs refl (attributes_held e.uid.entity_type) h.attributes,
    tags_fit e.uid.entity_type e.tags h.tags,
  )

pub all_fit : (d : SchemaData) → IsSchema d → (P : EntityUID → Type 0) (s : Store) → AllByRecursion (λ e. P e.uid → HasTypes d e) s → AllByRecursion (λ e. P e.uid → EntityFits d e) s
all_fit d schema P [] h = tt
all_fit d schema P (e ∷ es) h = (λ p. entity_fits d schema e (h.0 p), all_fit d schema P es h.1)

pub root_fits : (d : SchemaData) (g : EnvData) (ps : List AccessPath) (q : Request) (s : Store) → KeepsTypes d g ps q s → (r : Root) → Fits d (root_type d g r) (root_value q r)
root_fits d g ps q s h (an_id u) = literal_fits d h.valid u
root_fits d (declared_action e) ps q s h (variable Principal) = ids_fit d (e.environment.principal ∷ []) (principal_of q) refl (h.entries Principal)
root_fits d (declared_action e) ps q s h (variable Resource) = ids_fit d (e.environment.resource ∷ []) (resource_of q) refl (h.entries Resource)
root_fits d (declared_action e) ps q s h (variable Action) = λ k. literal_fits d h.valid e.environment.action k ∙ ap (λ n. type_along d (entity (n ∷ [])) k) (sym (same_type d h.valid (action_of q) e.environment.action (h.entries Action)))
root_fits d (declared_action e) ps q s h (variable Context) = member_fits d (context_type_in (declared_action e)) (variable_value Context q) h.closed (h.entries Context)
root_fits d undeclared_action ps q s h (variable v) = absurd (here h.closed)
  where
    here : false ≡ true → ⊥
    here e = grind arith
