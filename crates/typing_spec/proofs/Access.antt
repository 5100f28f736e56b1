-- `.`, `has`, `getTag` and `hasTag`.
use Rattle.std.proofs.Common.{◌≡◌, ℕ, Bool, true, false, ◌&&◌, ◌||◌, List, [], ◌∷◌, Option, Some, None, is_some, IsTrue, refl, sym, ap, subst, IfSome}
use Rattle.std.specs.Prelude.{if◌then◌else◌, option_map}
use Rattle.std.specs.Option.{option_and_then, option_map_or}
use Rattle.policy_values.specs.declared.entity_uid.EntityUID.{EntityUID}
use Rattle.policy_values.specs.Basename.{is_action_type}
use Rattle.policy_values.specs.Value.{Val, truth, string, entity as id, rec, Fields, no_fields, field, field_at}
use Rattle.entity_store.specs.Store.{StoredEntity, Store, entity_at}
use Rattle.schema_types.specs.declared.kinds.OpenTag.{OpenTag}
use Rattle.schema_types.specs.declared.kinds.OpenTag.TheVariants.{OpenAttributes, ClosedAttributes}
use Rattle.schema_types.specs.declared.ty.AttributeType.{AttributeType}
use Rattle.schema_types.specs.Attrs.{attr_at}
use Rattle.schema_types.specs.Ty.{Ty, true_type, primitive, record_of, any_entity, entity, action, Attrs, is_open}
use Rattle.schema_core.specs.Faults.{IsSchema}
use Rattle.schema_core.specs.Kinds.{attributes_in, tags_in}
use Rattle.schema_core.specs.Schema.{TypeData, SchemaData, type_at}
use Rattle.type_relations.specs.Attributes.{or_none, may_have}
use Rattle.type_relations.specs.Join.{text_eq, is_entity}
use Rattle.schema_types.specs.declared.kinds.Primitive.TheVariants.{String}
use Rattle.type_relations.specs.Member.{Member, Typed}
use Rattle.policy_core.specs.declared.outcome.EvalError.TheVariants.{MissingAttribute, MissingTag}
use Rattle.policy_core.specs.declared.outcome.Outcome.{Outcome}
use Rattle.policy_core.specs.declared.outcome.Outcome.TheVariants.{Value, Error}
use Rattle.policy_core.specs.Eval.{with_value}
use Rattle.policy_core.specs.Operators.{found_or, tag_of, get_tag_value, has_tag_of, has_tag_value, attr_of, attr_value, has_of, has_value}
use Rattle.typing_spec.specs.Holds.{HasAttribute, HasTag}
use Rattle.typing_spec.specs.Conforms.{AreTags, StoreConforms}
use Rattle.typing_spec.specs.Environment.{declared_attributes, declared_tags}
use Rattle.typing_spec.specs.Rules.{possible, is_string, tag_type, may_have_tags, has_tag_type, get_tag_type, attribute_of, safe_type, attr_type, declared_has, has_type}
use Rattle.typing_spec.specs.Signatures.{bool_type}
use Rattle.typing_spec.specs.Sound.{IsOfType, IsTruth}
use Rattle.typing_spec.proofs.Basics.{any_some}
use Rattle.typing_spec.proofs.Fields.{FitsAttribute, declared_fits, undeclared_absent}
use Rattle.typing_spec.proofs.Ids.{only_one_name}
use Rattle.typing_spec.proofs.Kept.{IsKept}
use Rattle.typing_spec.proofs.Operators.{two, two_of, string_member, id_member}
use Rattle.plain_lemmas.proofs.Booleans.{and_parts_of}
use Rattle.typing_spec.proofs.Stored.{FoundAt, found_at, typed_found, action_found, untagged_found}

true_of : (b : Bool) → Value (truth b) ≡ Value (truth true) → b ≡ true
true_of true e = refl
true_of false e = absurd (cc)

-- what may be read is there, and of its type
safe_found : (known : Bool) (a : AttributeType) (o : Option Val) → FitsAttribute o a → (known ≡ true → is_some o ≡ true) → IfSome (safe_type known a) (λ w. IsOfType w (found_or MissingAttribute o))
safe_found known a (Some v) h k = by (a.is_required || known)
  where
    by : (b : Bool) → IfSome (if b then Some a.attr_type else None) (λ w. Member w v)
    by true = h
    by false = tt
safe_found true a None h k = absurd (let f : false ≡ true = k refl in cc)
safe_found false a None h k = subst (λ b. IfSome (if b || false then Some a.attr_type else None) (λ w. IsOfType w (found_or MissingAttribute None))) (sym h) tt

safe_in : (known : Bool) (x : Option AttributeType) (o : Option Val) → IfSome x (FitsAttribute o) → (known ≡ true → is_some o ≡ true) → IfSome (option_and_then (safe_type known) x) (λ w. IsOfType w (found_or MissingAttribute o))
safe_in known None o h k = tt
safe_in known (Some a) o h k = safe_found known a o h k

-- `has` of what is declared
has_truth : (known on_record : Bool) (a : AttributeType) (b : Bool) → (known ≡ true → b ≡ true) → ((a.is_required && on_record) ≡ true → b ≡ true) → Member (if known || (a.is_required && on_record) then true_type else bool_type) (truth b)
has_truth true on_record a b h k = h refl
has_truth false on_record a b h k = by (a.is_required && on_record) refl
  where
    by : (c : Bool) → (a.is_required && on_record) ≡ c → Member (if c then true_type else bool_type) (truth b)
    by true e = k e
    by false e = tt

required_there : (a : AttributeType) (o : Option Val) → FitsAttribute o a → (a.is_required && true) ≡ true → is_some o ≡ true
required_there a (Some v) h e = refl
required_there a None h e = let f : (false && true) ≡ true = subst (λ b. (b && true) ≡ true) h e in absurd (cc)

no_record : (q : Bool) (P : Type 0) → (q && false) ≡ true → P
no_record true P e = absurd (cc)
no_record false P e = absurd (cc)

pub possible_truth : (m b : Bool) → (m ≡ false → b ≡ false) → Member (possible m) (truth b)
possible_truth true b h = tt
possible_truth false b h = h refl

absent : (o : Option Val) → o ≡ None → is_some o ≡ false
absent o e = ap is_some e

module _ (schema : SchemaData) (ok : IsSchema schema) (s : Store) (stored : StoreConforms schema s) where
  -- the attributes of an entity of the type, which may be absent
  attr_at_entity : (n k : List ℕ) (x : EntityUID) (known : Bool) → x.entity_type ≡ n → (known ≡ true → has_of (entity_at s x) k ≡ true) →
      IfSome (option_and_then (safe_type known) (attr_at (or_none (declared_attributes schema n)) k)) (λ w. IsOfType w (attr_of x (entity_at s x) k))
  attr_at_entity n k x known e h = by (type_at schema n) refl (entity_at s x) (found_at schema ok s x stored) h
    where
      by : (o : Option TypeData) → type_at schema n ≡ o → (r : Option StoredEntity) → IfSome r (FoundAt schema ok x) → (known ≡ true → has_of r k ≡ true) →
          IfSome (option_and_then (safe_type known) (attr_at (or_none (option_map (λ t. attributes_in t.kind) o)) k)) (λ w. IsOfType w (attr_of x r k))
      by None p r f i = tt
      by (Some t) p None f i = any_some (λ w. IsOfType w (attr_of x None k)) (option_and_then (safe_type known) (attr_at (attributes_in t.kind) k)) (λ w. tt)
      by (Some t) p (Some r) f i =
          let c = typed_found schema ok x r t f (subst (λ m. type_at schema m ≡ Some t) (sym e) p) in
          safe_in known (attr_at (attributes_in t.kind) k) (field_at r.attrs k) (declared_fits ClosedAttributes (attributes_in t.kind) r.attrs k c.attributes.0 c.attributes.1) i

  attr_member : (t : Ty) (v : Val) (k : List ℕ) (known : Bool) → IsKept t → Member t v → (known ≡ true → has_value v k s ≡ Value (truth true)) → IfSome (attr_type schema known t k) (λ w. IsOfType w (attr_value v k s))
  attr_member (record_of xs o) (rec fs) k known a m h =
      safe_in known (attr_at xs k) (field_at fs k) (declared_fits o xs fs k m.0 m.1) (λ e. true_of (is_some (field_at fs k)) (h e))
  attr_member (entity (n ∷ [])) (id x) k known a m h = attr_at_entity n k x known (only_one_name n x.entity_type m) (λ e. true_of (has_of (entity_at s x) k) (h e))
  attr_member (entity []) v k known a m h = absurd (cc)
  attr_member (entity (n ∷ l ∷ ns)) v k known a m h = absurd (cc)
  attr_member (action n xs) v k known a m h = subst (λ ys. IfSome (attr_type schema known (action n ys) k) (λ w. IsOfType w (attr_value v k s))) (sym a.1) tt
  attr_member (record_of xs o) v k known a m h = absurd m
  attr_member (entity (n ∷ [])) v k known a m h = absurd m
  attr_member t v k known a m h = tt

  pub attr_of_type : (t : Ty) (o : Outcome) (k : List ℕ) (known : Bool) → IsKept t → IsOfType t o → (known ≡ true → HasAttribute k s o) → IfSome (attr_type schema known t k) (λ w. IsOfType w (with_value o (λ v. attr_value v k s)))
  attr_of_type t (Value v) k known a m h = attr_member t v k known a m h
  attr_of_type t (Error e) k known a m h = any_some (λ w. IsOfType w (Error e)) (attr_type schema known t k) (λ w. m)

  -- `has`: of a declared attribute, or of one that is not declared
  has_by : (known on_record may : Bool) (x : Option AttributeType) (b : Bool) → (known ≡ true → b ≡ true) → IfSome x (λ a. (a.is_required && on_record) ≡ true → b ≡ true) → (x ≡ None → may ≡ false → b ≡ false) →
      Member (option_map_or (λ a. if known || (a.is_required && on_record) then true_type else bool_type) x (possible may)) (truth b)
  has_by known on_record may (Some a) b h i j = has_truth known on_record a b h i
  has_by known on_record may None b h i j = possible_truth may b (j refl)

  has_at_entity : (n k : List ℕ) (x : EntityUID) (known : Bool) → x.entity_type ≡ n → (known ≡ true → has_of (entity_at s x) k ≡ true) →
      Member (option_map_or (declared_has known (entity (n ∷ []))) (attribute_of schema (entity (n ∷ [])) k) (possible (may_have (declared_attributes schema) (entity (n ∷ [])) k))) (truth (has_of (entity_at s x) k))
  has_at_entity n k x known e h =
      has_by known false (may_have (declared_attributes schema) (entity (n ∷ [])) k) (attribute_of schema (entity (n ∷ [])) k) (has_of (entity_at s x) k) h
      (any_some (λ a. (a.is_required && false) ≡ true → has_of (entity_at s x) k ≡ true) (attribute_of schema (entity (n ∷ [])) k) (λ a f. no_record a.is_required (has_of (entity_at s x) k ≡ true) f))
      (lacks (type_at schema n) refl (entity_at s x) (found_at schema ok s x stored))
    where
      lacks : (o : Option TypeData) → type_at schema n ≡ o → (r : Option StoredEntity) → IfSome r (FoundAt schema ok x) →
          attr_at (or_none (option_map (λ t. attributes_in t.kind) o)) k ≡ None → may_have (λ m. option_map (λ t. attributes_in t.kind) o) (entity (n ∷ [])) k ≡ false → has_of r k ≡ false
      lacks None p r f g i = absurd (cc)
      lacks (Some t) p None f g i = refl
      lacks (Some t) p (Some r) f g i =
          let c = typed_found schema ok x r t f (subst (λ m. type_at schema m ≡ Some t) (sym e) p) in
          absent (field_at r.attrs k) (undeclared_absent (attributes_in t.kind) r.attrs k c.attributes.1 g)

  has_at_action : (n k : List ℕ) (x : EntityUID) → x.entity_type ≡ n → IsTrue (is_action_type n) → has_of (entity_at s x) k ≡ false
  has_at_action n k x e a = by (entity_at s x) (found_at schema ok s x stored)
    where
      by : (r : Option StoredEntity) → IfSome r (FoundAt schema ok x) → has_of r k ≡ false
      by None f = refl
      by (Some r) f = let c = action_found schema ok x r f (subst (λ m. is_action_type m ≡ true) (sym e) a) in ap (λ fs. is_some (field_at fs k)) c.attributes

  open_record : (o : OpenTag) (xs : Attrs) (fs : Fields) (k : List ℕ) → Typed o xs fs → attr_at xs k ≡ None → (is_open o || is_some (attr_at xs k)) ≡ false → is_some (field_at fs k) ≡ false
  open_record OpenAttributes xs fs k m e f = absurd (cc)
  open_record ClosedAttributes xs fs k m e f = absent (field_at fs k) (undeclared_absent xs fs k m e)

  required_in : (x : Option AttributeType) (o : Option Val) → IfSome x (FitsAttribute o) → IfSome x (λ a. (a.is_required && true) ≡ true → is_some o ≡ true)
  required_in None o h = tt
  required_in (Some a) o h = required_there a o h

  has_member : (t : Ty) (v : Val) (k : List ℕ) (known : Bool) → IsKept t → Member t v → (known ≡ true → has_value v k s ≡ Value (truth true)) → IfSome (has_type schema known t k) (λ w. IsOfType w (has_value v k s))
  has_member (record_of xs o) (rec fs) k known a m h =
      has_by known true (is_open o || is_some (attr_at xs k)) (attr_at xs k) (is_some (field_at fs k)) (λ e. true_of (is_some (field_at fs k)) (h e))
      (required_in (attr_at xs k) (field_at fs k) (declared_fits o xs fs k m.0 m.1)) (λ e f. open_record o xs fs k m.1 e f)
  has_member (entity (n ∷ [])) (id x) k known a m h = has_at_entity n k x known (only_one_name n x.entity_type m) (λ e. true_of (has_of (entity_at s x) k) (h e))
  has_member (entity []) v k known a m h = absurd (cc)
  has_member (entity (n ∷ l ∷ ns)) v k known a m h = absurd (cc)
  has_member any_entity (id x) k known a m h = tt
  has_member (action n xs) (id x) k known a m h =
      subst (λ ys. IfSome (has_type schema known (action n ys) k) (λ w. IsOfType w (has_value (id x) k s))) (sym a.1) (has_at_action n k x m a.0)
  has_member (record_of xs o) v k known a m h = absurd m
  has_member (entity (n ∷ [])) v k known a m h = absurd m
  has_member any_entity v k known a m h = absurd m
  has_member (action n xs) v k known a m h = absurd m
  has_member t v k known a m h = tt

  pub has_of_type : (t : Ty) (o : Outcome) (k : List ℕ) (known : Bool) → IsKept t → IsOfType t o → (known ≡ true → HasAttribute k s o) → IfSome (has_type schema known t k) (λ w. IsOfType w (with_value o (λ v. has_value v k s)))
  has_of_type t (Value v) k known a m h = has_member t v k known a m h
  has_of_type t (Error e) k known a m h = any_some (λ w. IsOfType w (Error e)) (has_type schema known t k) (λ w. m)

  -- `hasTag`
  tags_at : (t : Ty) (x : EntityUID) (k : List ℕ) → IsKept t → is_entity t ≡ true → Member t (id x) → may_have_tags schema t ≡ false → has_tag_of (entity_at s x) k ≡ false
  tags_at any_entity x k a z m e = absurd (cc)
  tags_at (entity (n ∷ [])) x k a z m e = by (entity_at s x) (found_at schema ok s x stored)
    where
      none : (o : Option Ty) → (is_some o || false) ≡ false → o ≡ None
      none None f = refl
      none (Some t) f = absurd (cc)

      by : (r : Option StoredEntity) → IfSome r (FoundAt schema ok x) → has_tag_of r k ≡ false
      by None f = refl
      by (Some r) f =
          let p : declared_tags schema x.entity_type ≡ None = subst (λ l. declared_tags schema l ≡ None) (sym (only_one_name n x.entity_type m)) (none (declared_tags schema n) e) in
          ap (λ fs. is_some (field_at fs k)) (untagged_found schema ok x r f p)
  tags_at (action n xs) x k a z m e = by (entity_at s x) (found_at schema ok s x stored)
    where
      by : (r : Option StoredEntity) → IfSome r (FoundAt schema ok x) → has_tag_of r k ≡ false
      by None f = refl
      by (Some r) f = let c = action_found schema ok x r f (subst (λ l. is_action_type l ≡ true) (sym m) a.0) in ap (λ fs. is_some (field_at fs k)) c.tags
  tags_at (entity []) x k a z m e = absurd (cc)
  tags_at (entity (n ∷ l ∷ ns)) x k a z m e = absurd (cc)
  tags_at t x k a z m e = absurd (cc)

  string_in : (u : Ty) (w : Val) → is_string u ≡ true → Member u w → (k : List ℕ) × (w ≡ string k)
  string_in (primitive String) w e m = string_member w m
  string_in u w e m = absurd (cc)

  pub has_tag_of_type : (t u : Ty) (o p : Outcome) → IsKept t → IsOfType t o → IsOfType u p → IfSome (has_tag_type schema t u) (λ w. IsOfType w (two o p (λ v w. has_tag_value v w s)))
  has_tag_of_type t u o p a h i = by (is_entity t && is_string u) refl
    where
      by : (b : Bool) → (is_entity t && is_string u) ≡ b → IfSome (if b then Some (possible (may_have_tags schema t)) else None) (λ w. IsOfType w (two o p (λ v w. has_tag_value v w s)))
      by false e = tt
      by true e =
          let r = and_parts_of (is_entity t) (is_string u) e in
          two_of t u (possible (may_have_tags schema t)) o p (λ v w. has_tag_value v w s) h i (λ v w m n.
          let c = id_member t v r.0 m in
          let d = string_in u w r.1 n in
          subst (λ v. IsOfType (possible (may_have_tags schema t)) (has_tag_value v w s)) (sym c.1)
          (subst (λ w. IsOfType (possible (may_have_tags schema t)) (has_tag_value (id c.0) w s)) (sym d.1)
          (possible_truth (may_have_tags schema t) (has_tag_of (entity_at s c.0) d.0) (tags_at t c.0 d.0 a r.0 (subst (Member t) c.1 m)))))

  -- `getTag` of a tag that is there
  tag_in : (t : Ty) (fs : Fields) (k : List ℕ) → AreTags (Some t) fs → is_some (field_at fs k) ≡ true → IsOfType t (found_or MissingTag (field_at fs k))
  tag_in t no_fields k h e = absurd (cc)
  tag_in t (field l v fs) k h e = by (text_eq k l) (tag_in t fs k h.1) e
    where
      by : (b : Bool) → (is_some (field_at fs k) ≡ true → IsOfType t (found_or MissingTag (field_at fs k))) → is_some (if b then Some v else field_at fs k) ≡ true → IsOfType t (found_or MissingTag (if b then Some v else field_at fs k))
      by true rest f = h.0
      by false rest f = rest f

  tag_at : (n : List ℕ) (x : EntityUID) (k : List ℕ) → x.entity_type ≡ n → has_tag_of (entity_at s x) k ≡ true → IfSome (declared_tags schema n) (λ w. IsOfType w (tag_of x (entity_at s x) k))
  tag_at n x k e h = by (type_at schema n) refl (entity_at s x) (found_at schema ok s x stored) h
    where
      tags : (ts : Option Ty) (r : StoredEntity) → AreTags ts r.tags → has_tag_of (Some r) k ≡ true → IfSome ts (λ w. IsOfType w (tag_of x (Some r) k))
      tags None r f g = tt
      tags (Some w) r f g = tag_in w r.tags k f g

      by : (o : Option TypeData) → type_at schema n ≡ o → (r : Option StoredEntity) → IfSome r (FoundAt schema ok x) → has_tag_of r k ≡ true → IfSome (option_and_then (λ t. tags_in t.kind) o) (λ w. IsOfType w (tag_of x r k))
      by None p r f g = tt
      by (Some t) p None f g = absurd (cc)
      by (Some t) p (Some r) f g = let c = typed_found schema ok x r t f (subst (λ m. type_at schema m ≡ Some t) (sym e) p) in tags (tags_in t.kind) r c.tags g

  tag_member : (t : Ty) (x : EntityUID) (k : List ℕ) → Member t (id x) → has_tag_of (entity_at s x) k ≡ true → IfSome (tag_type schema t) (λ w. IsOfType w (get_tag_value (id x) (string k) s))
  tag_member (entity (n ∷ [])) x k m h = tag_at n x k (only_one_name n x.entity_type m) h
  tag_member (entity []) x k m h = tt
  tag_member (entity (n ∷ l ∷ ns)) x k m h = tt
  tag_member t x k m h = tt

  pub get_tag_of_type : (t u : Ty) (o p : Outcome) (known : Bool) → IsOfType t o → IsOfType u p → (known ≡ true → HasTag s o p) → IfSome (get_tag_type schema known t u) (λ w. IsOfType w (two o p (λ v w. get_tag_value v w s)))
  get_tag_of_type t u o p known h i k = by ((is_entity t && is_string u) && known) refl
    where
      at : (o p : Outcome) → is_entity t ≡ true → is_string u ≡ true → IsOfType t o → IsOfType u p → HasTag s o p → IfSome (tag_type schema t) (λ w. IsOfType w (two o p (λ v w. get_tag_value v w s)))
      at (Error e) p y z h i k = any_some (λ w. IsOfType w (Error e)) (tag_type schema t) (λ w. h)
      at (Value v) (Error e) y z h i k = any_some (λ w. IsOfType w (Error e)) (tag_type schema t) (λ w. i)
      at (Value v) (Value w) y z h i k =
          let c = id_member t v y h in
          let d = string_in u w z i in
          let f : has_tag_value (id c.0) (string d.0) s ≡ Value (truth true) = subst (λ w. has_tag_value (id c.0) w s ≡ Value (truth true)) d.1 (subst (λ v. has_tag_value v w s ≡ Value (truth true)) c.1 k) in
          subst (λ v. IfSome (tag_type schema t) (λ x. IsOfType x (get_tag_value v w s))) (sym c.1)
          (subst (λ w. IfSome (tag_type schema t) (λ x. IsOfType x (get_tag_value (id c.0) w s))) (sym d.1)
          (tag_member t c.0 d.0 (subst (Member t) c.1 h) (true_of (has_tag_of (entity_at s c.0) d.0) f)))

      by : (b : Bool) → ((is_entity t && is_string u) && known) ≡ b → IfSome (if b then tag_type schema t else None) (λ w. IsOfType w (two o p (λ v w. get_tag_value v w s)))
      by false e = tt
      by true e =
          let r = and_parts_of (is_entity t && is_string u) known e in
          let z = and_parts_of (is_entity t) (is_string u) r.0 in
          at o p z.0 z.1 h i (k r.1)

-- what a true test of `has` or `hasTag` makes known
module _ (s : Store) where
  pub has_then : (k : List ℕ) (o : Outcome) → IsTruth (with_value o (λ v. has_value v k s)) → HasAttribute k s o
  has_then k (Value v) h = h
  has_then k (Error e) h = tt

  true_there : (v : Val) (k : List ℕ) → IsOfType true_type (has_value v k s) → has_value v k s ≡ Value (truth true)
  true_there (id x) k h = ap (λ b. Value (truth b)) h
  true_there (rec fs) k h = ap (λ b. Value (truth b)) h
  true_there v k h = absurd h

  -- what is typed True makes it known, value or not
  pub has_always : (k : List ℕ) (o : Outcome) → IsOfType true_type (with_value o (λ v. has_value v k s)) → HasAttribute k s o
  has_always k (Value v) h = true_there v k h
  has_always k (Error e) h = tt

  pub has_tag_then : (o p : Outcome) → IsTruth (two o p (λ v w. has_tag_value v w s)) → HasTag s o p
  has_tag_then (Value v) (Value w) h = h
  has_tag_then (Value v) (Error e) h = tt
  has_tag_then (Error e) p h = tt
