-- Values that have the types that a schema has for what paths lead to, where what is required plays no part.
use Rattle.std.proofs.Common.{◌≡◌, ◌⊎◌, ℕ, Bool, true, false, List, [], ◌∷◌, Option, Some, None, refl, sym, ap, subst, inl, inr}
use Rattle.std.specs.Prelude.{cond, if◌then◌else◌}
use Rattle.std.specs.List.{AllByRecursion}
use Rattle.std.specs.Option.{option_map, option_to_list}
use Rattle.std.specs.Ordering.{is_eq}
use Rattle.policy_values.specs.Uid.{text_cmp}
use Rattle.policy_values.specs.Value.{Val, entity as id, rec, Fields, no_fields, field, field_at}
use Rattle.entity_store.specs.declared.request.Request.{Request}
use Rattle.entity_store.specs.Store.{StoredEntity, Store, entity_at}
use Rattle.type_relations.specs.Attributes.{or_none}
use Rattle.type_relations.specs.Member.{Member, Typed, Undeclared, IsDeclared, type_of}
use Rattle.schema_types.specs.Attrs.{attr_at}
use Rattle.schema_types.specs.declared.kinds.OpenTag.{OpenTag}
use Rattle.schema_types.specs.declared.kinds.OpenTag.TheVariants.{ClosedAttributes}
use Rattle.schema_types.specs.declared.ty.AttributeType.{AttributeType}
use Rattle.schema_types.specs.Ty.{Ty, record_of, entity, Attrs}
use Rattle.schema_core.specs.EnvData.{EnvData}
use Rattle.schema_core.specs.Faults.{IsSchema}
use Rattle.schema_core.specs.Schema.{SchemaData}
use Rattle.typing_spec.specs.Environment.{declared_attributes, declared_tags}
use Rattle.reads_spec.specs.Paths.{Root, variable, an_id, Step, along, any_tag, Chain, AccessPath}
use Rattle.reads_spec.specs.PathTypes.{type_along, step_on, types_along, root_type}
use Rattle.reads_spec.specs.Restrict.{cut, cut_fields, root_value, values_in, step_in_entity, step, walk}
use Rattle.reads_spec.specs.Cover.{IsMemberOf, AreMembersOf, HasTypes, KeepsTypes}
use Rattle.reads_spec.proofs.Cuts.{uid_at, all_at}
use Rattle.reads_spec.proofs.Fitting.{Fits, FitFields, FitAll, EntityFits, entity_fits, root_fits}
use Rattle.reads_spec.proofs.Lists.{same_text, IsIn, flat_map_out}

module _ (d : SchemaData) where
  -- a step from an id is typed as the id's own type has it; fields are declared, and have their types
  abbrev mutual
    pub Has : Option Ty → Val → Type 0
    Has o (id u) = (n : Step) → step_on d o n ≡ type_along d (entity (u.entity_type ∷ [])) n
    Has (Some (record_of xs p)) (rec fs) = HaveAll xs fs
    Has o (rec fs) = ⊥
    Has o v = IsMemberOf o v

    pub HaveAll : Attrs → Fields → Type 0
    HaveAll xs no_fields = Unit {0}
    HaveAll xs (field n v fs) = ((a : AttributeType) × (attr_at xs n ≡ Some a) × Has (Some a.attr_type) v) × HaveAll xs fs

  -- each value has the type
  abbrev pub HaveOne : Option Ty → Fields → Type 0
  HaveOne o no_fields = Unit {0}
  HaveOne o (field k v fs) = Has o v × HaveOne o fs

  -- attributes and tags of an entity have the types that its own type declares
  abbrev pub EntityHas : StoredEntity → Type 0
  EntityHas e = HaveAll (or_none (declared_attributes d e.uid.entity_type)) e.attrs × HaveOne (declared_tags d e.uid.entity_type) e.tags

  -- ---- of what conforms

  declared_member : (p : OpenTag) (o : Option AttributeType) (a : AttributeType) (v : Val) → o ≡ Some a → Undeclared p o ⊎ (IsDeclared o × Member (type_of o) v) → Member a.attr_type v
  declared_member p None a v e h = absurd (cc)
  declared_member p (Some b) a v e (inl i) = absurd i
  declared_member p (Some b) a v e (inr i) = let same : b ≡ a = cc in subst (λ z. Member z.attr_type v) same i.1

  mutual
    has_type : (t : Ty) (v : Val) → Fits d (Some t) v → Member t v → Has (Some t) v
    has_type t (id u) f m = f
    has_type (record_of xs p) (rec fs) f m = have_types p xs fs f m.1
    has_type t (rec fs) f m = absurd f
    has_type t v f m = m

    have_types : (p : OpenTag) (xs : Attrs) (fs : Fields) → FitFields d xs fs → Typed p xs fs → HaveAll xs fs
    have_types p xs no_fields f m = tt
    have_types p xs (field n v fs) f m = ((f.0.0, f.0.1, has_type f.0.0.attr_type v f.0.2 (declared_member p (attr_at xs n) f.0.0 v f.0.1 m.0)), have_types p xs fs f.1 m.1)

  tags_have : (o : Option Ty) (fs : Fields) → FitAll d o fs → AreMembersOf o fs → HaveOne o fs
  tags_have o no_fields f m = tt
  tags_have None (field k v fs) f m = absurd f
  tags_have (Some t) (field k v fs) f m = (has_type t v f.0 m.0, tags_have (Some t) fs f.1 m.1)

  entity_has : (e : StoredEntity) → EntityFits d e → HasTypes d e → EntityHas e
  entity_has e f h = (
    have_types ClosedAttributes (or_none (declared_attributes d e.uid.entity_type)) e.attrs f.0 h.attributes,
    tags_have (declared_tags d e.uid.entity_type) e.tags f.1 h.tags,
  )

  has_root : (o : Option Ty) (v : Val) → Fits d o v → IsMemberOf o v → Has o v
  has_root None v f m = absurd m
  has_root (Some t) v f m = has_type t v f m

  -- ---- of what is left of it

  mutual
    has_cut : (o : Option Ty) (v : Val) (k : Chain → Bool) → Has o v → Has o (cut v k)
    has_cut (Some (record_of xs p)) (rec fs) k h = have_cut xs fs k h
    has_cut o (rec fs) k h = absurd h
    has_cut o v k h = h

    pub have_cut : (xs : Attrs) (fs : Fields) (k : Chain → Bool) → HaveAll xs fs → HaveAll xs (cut_fields fs k)
    have_cut xs no_fields k h = tt
    have_cut xs (field n v fs) k h = by (k (n ∷ [])) (has_cut (Some h.0.0.attr_type) v (λ c. k (n ∷ c)) h.0.2) (have_cut xs fs k h.1)
      where
        by : (b : Bool) → Has (Some h.0.0.attr_type) (cut v (λ c. k (n ∷ c))) → HaveAll xs (cut_fields fs k) → HaveAll xs (if b then field n (cut v (λ c. k (n ∷ c))) (cut_fields fs k) else cut_fields fs k)
        by true i j = ((h.0.0, h.0.1, i), j)
        by false i j = j

  pub one_cut : (o : Option Ty) (fs : Fields) (k : Chain → Bool) → HaveOne o fs → HaveOne o (cut_fields fs k)
  one_cut o no_fields k h = tt
  one_cut o (field n v fs) k h = by (k (n ∷ [])) (has_cut o v (λ c. k (n ∷ c)) h.0) (one_cut o fs k h.1)
    where
      by : (b : Bool) → Has o (cut v (λ c. k (n ∷ c))) → HaveOne o (cut_fields fs k) → HaveOne o (if b then field n (cut v (λ c. k (n ∷ c))) (cut_fields fs k) else cut_fields fs k)
      by true i j = (i, j)
      by false i j = j

  -- ---- one step on

  listed_one : (o : Option Val) (w : Val) → IsIn w (option_to_list o) → o ≡ Some w
  listed_one None w i = absurd i
  listed_one (Some v) w (inl e) = ap Some e
  listed_one (Some v) w (inr i) = absurd i

  field_has : (xs : Attrs) (fs : Fields) (n : List ℕ) (w : Val) → HaveAll xs fs → field_at fs n ≡ Some w → Has (option_map (λ a. a.attr_type) (attr_at xs n)) w
  field_has xs no_fields n w h k = absurd (cc)
  field_has xs (field m v fs) n w h k = here (is_eq (text_cmp n m)) refl k (field_has xs fs n w h.1)
    where
      here : (b : Bool) → is_eq (text_cmp n m) ≡ b → (cond b (Some v) (field_at fs n)) ≡ Some w → (field_at fs n ≡ Some w → Has (option_map (λ a. a.attr_type) (attr_at xs n)) w) → Has (option_map (λ a. a.attr_type) (attr_at xs n)) w
      here true e g f = let i : v ≡ w = cc in rw (same_text n m e, h.0.1) (subst (Has (Some h.0.0.attr_type)) i h.0.2)
      here false e g f = f g

  tag_has : (o : Option Ty) (fs : Fields) (w : Val) → HaveOne o fs → IsIn w (values_in fs) → Has o w
  tag_has o no_fields w h k = absurd k
  tag_has o (field m v fs) w h (inl e) = subst (Has o) e h.0
  tag_has o (field m v fs) w h (inr k) = tag_has o fs w h.1 k

  module _ (s : Store) (all : AllByRecursion EntityHas s) where
    step_has : (o : Option Ty) (v w : Val) (n : Step) → Has o v → IsIn w (step s v n) → Has (step_on d o n) w
    step_has o (id x) w n h i = subst (λ p. Has p w) (sym (h n)) (here (entity_at s x) refl n i)
      where
        here : (r : Option StoredEntity) → entity_at s x ≡ r → (n : Step) → IsIn w (step_in_entity r n) → Has (type_along d (entity (x.entity_type ∷ [])) n) w
        here None e n i = absurd i
        here (Some e) f (along k) i = subst (λ y. Has (type_along d (entity (y.entity_type ∷ [])) (along k)) w) (uid_at s x e f) (field_has (or_none (declared_attributes d e.uid.entity_type)) e.attrs k w (all_at EntityHas s x e all f).0 (listed_one (field_at e.attrs k) w i))
        here (Some e) f any_tag i = subst (λ y. Has (declared_tags d y.entity_type) w) (uid_at s x e f) (tag_has (declared_tags d e.uid.entity_type) e.tags w (all_at EntityHas s x e all f).1 i)
    step_has (Some (record_of xs p)) (rec fs) w (along k) h i = field_has xs fs k w h (listed_one (field_at fs k) w i)
    step_has o (rec fs) w any_tag h i = absurd i
    step_has o (rec fs) w (along k) h i = absurd h
    step_has o v w n h i = absurd i

    -- along steps
    pub walk_has : (ns : List Step) (o : Option Ty) (v w : Val) → Has o v → IsIn w (walk s v ns) → Has (types_along d o ns) w
    walk_has [] o v w h (inl e) = subst (Has o) e h
    walk_has [] o v w h (inr i) = absurd i
    walk_has (n ∷ ns) o v w h i =
        let t = flat_map_out (λ z. walk s z ns) w (step s v n) i in
        walk_has ns (step_on d o n) t.from w (step_has o v t.from n h t.among) t.gives

-- the store, and the values of roots
pub store_has : (d : SchemaData) → IsSchema d → (s : Store) → AllByRecursion (HasTypes d) s → AllByRecursion (EntityHas d) s
store_has d valid [] h = tt
store_has d valid (e ∷ es) h = (entity_has d e (entity_fits d valid e h.0) h.0, store_has d valid es h.1)

pub root_has : (d : SchemaData) (g : EnvData) (ps : List AccessPath) (q : Request) (s : Store) → KeepsTypes d g ps q s → (r : Root) → Has d (root_type d g r) (root_value q r)
root_has d g ps q s h (an_id u) = root_fits d g ps q s h (an_id u)
root_has d g ps q s h (variable v) = has_root d (root_type d g (variable v)) (root_value q (variable v)) (root_fits d g ps q s h (variable v)) (h.entries v)
