-- What paths in the shape of an expression lead to is of types below that of the expression.
use Rattle.std.proofs.Common.{◌≡◌, ◌⊎◌, ℕ, Bool, true, false, List, [], ◌∷◌, ◌++◌, Option, Some, None, IsTrue, cond, refl, sym, ◌∙◌, subst, IfSome, inl, inr}
use Rattle.std.specs.Option.{option_map}
use Rattle.std.specs.Ordering.{is_eq}
use Rattle.policy_values.specs.Uid.{text_cmp}
use Rattle.schema_types.specs.Attrs.{attr_at}
use Rattle.schema_types.specs.declared.ty.AttributeType.{AttributeType}
use Rattle.schema_types.specs.Ty.{Ty, never, record_of, any_entity, entity, action, Attrs, no_attrs, attr}
use Rattle.schema_core.specs.EnvData.{EnvData}
use Rattle.schema_core.specs.Schema.{SchemaData}
use Rattle.type_relations.specs.Join.{is_entity}
use Rattle.typing_spec.specs.Rules.{tag_type, attribute_of}
use Rattle.reads_spec.specs.Paths.{Step, along, any_tag, AccessPath, beyond, Shape, no_shape, at_path, set_shape, record_shape, one_of, FieldShapes, no_field_shapes, field_shape, shape_at, paths, extended}
use Rattle.reads_spec.specs.PathTypes.{step_on, root_type, path_type}
use Rattle.reads_spec.proofs.Fitting.{types_along-append}
use Rattle.reads_spec.proofs.Lists.{IsIn}
use Rattle.entity_manifest.specs.DeclaredPaths.{is_of_ids}
use Rattle.entity_manifest.proofs.Below.{is_plain, Below, AttrsBelow, below_self, below_trans, below_plain, attr_below}

pub in_append : {A : Type 0} (y : A) (xs ys : List A) → IsIn y (xs ++ ys) → IsIn y xs ⊎ IsIn y ys
in_append y [] ys h = inr h
in_append y (x ∷ xs) ys (inl e) = inl (inl e)
in_append y (x ∷ xs) ys (inr h) = by (in_append y xs ys h)
  where
    by : IsIn y xs ⊎ IsIn y ys → IsIn y (x ∷ xs) ⊎ IsIn y ys
    by (inl i) = inl (inr i)
    by (inr i) = inr i

-- the attribute, or the type of tags, of a type below another is below that of the other
attribute_below : (d : SchemaData) (u t : Ty) (n : List ℕ) (b : AttributeType) → Below u t → attribute_of d t n ≡ Some b → IfSome (attribute_of d u n) (λ a. Below a.attr_type b.attr_type)
attribute_below d never t n b h e = tt
attribute_below d (record_of xs o) (record_of ys p) n b h e = attr_below xs ys n b h e
attribute_below d (action k xs) (action l ys) n b h e = attr_below xs ys n b h e
attribute_below d (entity ms) (entity ns) n b h e = rw (h, e) (below_self b.attr_type)
attribute_below d any_entity t n b h e = tt
attribute_below d (record_of xs o) t n b h e = absurd (cc)
attribute_below d (action k xs) t n b h e = absurd (cc)
attribute_below d (entity ms) t n b h e = absurd (cc)
attribute_below d u t n b h e = tt

tag_below : (d : SchemaData) (u t w : Ty) → Below u t → tag_type d t ≡ Some w → IfSome (tag_type d u) (λ v. Below v w)
tag_below d (entity ms) (entity ns) w h e = rw (h, e) (below_self w)
tag_below d (entity ms) t w h e = absurd (cc)
tag_below d u t w h e = tt

module _ (d : SchemaData) (g : EnvData) where
  -- paths lead to what is of a type below; a set is of a plain type, and a record of a record's
  abbrev mutual
    pub OfShape : Ty → Shape → Type 0
    OfShape t no_shape = Unit {0}
    OfShape t (at_path p) = IfSome (path_type d g p) (λ u. Below u t)
    OfShape t (set_shape a) = IsTrue (is_plain t)
    OfShape (record_of xs o) (record_shape fs) = OfFields xs fs
    OfShape t (record_shape fs) = ⊥
    OfShape t (one_of a b) = OfShape t a × OfShape t b

    pub OfFields : Attrs → FieldShapes → Type 0
    OfFields no_attrs no_field_shapes = Unit {0}
    OfFields (attr k t q xs) (field_shape l a fs) = (k ≡ l) × OfShape t a × OfFields xs fs
    OfFields xs fs = ⊥

  when_below : (o : Option Ty) (t u : Ty) → Below t u → IfSome o (λ w. Below w t) → IfSome o (λ w. Below w u)
  when_below None t u h k = tt
  when_below (Some w) t u h k = below_trans w t u k h

  -- so they do for each type above it
  mutual
    pub shape_above : (t u : Ty) (a : Shape) → Below t u → OfShape t a → OfShape u a
    shape_above t u no_shape h k = tt
    shape_above t u (at_path p) h k = when_below (path_type d g p) t u h k
    shape_above t u (set_shape a) h k = below_plain t u k h
    shape_above (record_of xs o) (record_of ys p) (record_shape fs) h k = fields_above xs ys fs h k
    shape_above (record_of xs o) u (record_shape fs) h k = absurd (cc)
    shape_above t u (record_shape fs) h k = absurd k
    shape_above t u (one_of a b) h k = (shape_above t u a h k.0, shape_above t u b h k.1)

    fields_above : (xs ys : Attrs) (fs : FieldShapes) → AttrsBelow xs ys → OfFields xs fs → OfFields ys fs
    fields_above no_attrs no_attrs fs h k = k
    fields_above (attr k t q xs) (attr l u r ys) (field_shape m a fs) h i = (sym h.0 ∙ i.0, shape_above t u a h.1 i.1, fields_above xs ys fs h.2 i.2)
    fields_above (attr k t q xs) (attr l u r ys) no_field_shapes h i = absurd i
    fields_above no_attrs (attr l u r ys) fs h k = absurd h
    fields_above (attr k t q xs) no_attrs fs h i = absurd h

  -- one step on
  further : (p : AccessPath) (n : Step) → path_type d g (beyond p (n ∷ [])) ≡ step_on d (path_type d g p) n
  further p n = types_along-append d (root_type d g p.root) p.steps (n ∷ [])

  fields_at : (xs : Attrs) (fs : FieldShapes) (n : List ℕ) (b : AttributeType) → attr_at xs n ≡ Some b → OfFields xs fs → OfShape b.attr_type (shape_at fs n)
  fields_at no_attrs fs n b e h = absurd (cc)
  fields_at (attr k t q xs) no_field_shapes n b e h = absurd h
  fields_at (attr k t q xs) (field_shape l a fs) n b e h = rw (← h.0) (at_key (is_eq (text_cmp n k)) e (λ f. fields_at xs fs n b f h.2))
    where
      at_key : (c : Bool) → cond c (Some (record { attr_type = t; is_required = q })) (attr_at xs n) ≡ Some b → (attr_at xs n ≡ Some b → OfShape b.attr_type (shape_at fs n)) → OfShape b.attr_type (cond c a (shape_at fs n))
      at_key true f rest = let same : t ≡ b.attr_type = cc in subst (λ w. OfShape w a) same h.1
      at_key false f rest = rest f

  pub field_shapes : (t : Ty) (n : List ℕ) (b : AttributeType) (a : Shape) → attribute_of d t n ≡ Some b → OfShape t a → OfShape b.attr_type (extended a (along n))
  field_shapes t n b no_shape e h = tt
  field_shapes t n b (at_path p) e h = rw (further p (along n)) (by (path_type d g p) h)
    where
      attribute : (o : Option AttributeType) → IfSome o (λ a. Below a.attr_type b.attr_type) → IfSome (option_map (λ a. a.attr_type) o) (λ u. Below u b.attr_type)
      attribute None i = tt
      attribute (Some a) i = i

      by : (o : Option Ty) → IfSome o (λ u. Below u t) → IfSome (step_on d o (along n)) (λ u. Below u b.attr_type)
      by None i = tt
      by (Some u) i = attribute (attribute_of d u n) (attribute_below d u t n b i e)
  field_shapes t n b (set_shape a) e h = tt
  field_shapes (record_of xs o) n b (record_shape fs) e h = fields_at xs fs n b e h
  field_shapes t n b (record_shape fs) e h = absurd h
  field_shapes t n b (one_of x y) e h = (field_shapes t n b x e h.0, field_shapes t n b y e h.1)

  pub tag_shapes : (t w : Ty) (a : Shape) → tag_type d t ≡ Some w → OfShape t a → OfShape w (extended a any_tag)
  tag_shapes t w no_shape e h = tt
  tag_shapes t w (at_path p) e h = rw (further p any_tag) (by (path_type d g p) h)
    where
      by : (o : Option Ty) → IfSome o (λ u. Below u t) → IfSome (step_on d o any_tag) (λ u. Below u w)
      by None i = tt
      by (Some u) i = tag_below d u t w i e
  tag_shapes t w (set_shape a) e h = tt
  tag_shapes t w (record_shape fs) e h = tt
  tag_shapes t w (one_of x y) e h = (tag_shapes t w x e h.0, tag_shapes t w y e h.1)

  -- paths in the shape of what is of an entity type lead to ids
  abbrev pub AreOfIds : List AccessPath → Type 0
  AreOfIds ps = (p : AccessPath) → IsIn p ps → IfSome (path_type d g p) (λ u. IsTrue (is_of_ids u))

  below_ids : (u t : Ty) → is_entity t ≡ true → Below u t → IsTrue (is_of_ids u)
  below_ids never t e h = refl
  below_ids any_entity t e h = refl
  below_ids (entity ms) t e h = refl
  below_ids (action m xs) t e h = refl
  below_ids (record_of xs o) (record_of ys p) e h = e
  below_ids (record_of xs o) t e h = absurd (cc)
  below_ids u any_entity e h = absurd (cc)
  below_ids u (entity ns) e h = absurd (cc)
  below_ids u (action n ys) e h = absurd (cc)
  below_ids u t e h = absurd (cc)

  pub paths_to_ids : (t : Ty) (a : Shape) → is_entity t ≡ true → OfShape t a → AreOfIds (paths a)
  paths_to_ids t no_shape e h p i = absurd i
  paths_to_ids t (at_path r) e h p (inr i) = absurd i
  paths_to_ids t (at_path r) e h p (inl same) = subst (λ z. IfSome (path_type d g z) (λ u. IsTrue (is_of_ids u))) same (by (path_type d g r) h)
    where
      by : (o : Option Ty) → IfSome o (λ u. Below u t) → IfSome o (λ u. IsTrue (is_of_ids u))
      by None i = tt
      by (Some u) i = below_ids u t e i
  paths_to_ids t (set_shape a) e h p i = absurd (no_both t e h)
    where
      no_both : (t : Ty) → is_entity t ≡ true → is_plain t ≡ true → ⊥
      no_both any_entity j k = cc
      no_both (entity ns) j k = cc
      no_both (action n xs) j k = cc
      no_both t j k = cc
  paths_to_ids (record_of xs o) (record_shape fs) e h p i = absurd (cc)
  paths_to_ids t (record_shape fs) e h p i = absurd h
  paths_to_ids t (one_of a b) e h p i = by (in_append p (paths a) (paths b) i) (paths_to_ids t a e h.0 p) (paths_to_ids t b e h.1 p)
    where
      by : IsIn p (paths a) ⊎ IsIn p (paths b) → (IsIn p (paths a) → IfSome (path_type d g p) (λ u. IsTrue (is_of_ids u))) → (IsIn p (paths b) → IfSome (path_type d g p) (λ u. IsTrue (is_of_ids u))) →
          IfSome (path_type d g p) (λ u. IsTrue (is_of_ids u))
      by (inl j) f k = f j
      by (inr j) f k = k j
