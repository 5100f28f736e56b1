-- Ids that are listed.
use Rattle.std.proofs.Common.{◌≡◌, ℕ, Bool, true, false, ◌&&◌, List, Option, Some, None, is_none, IsSome, refl, sym, ap, ◌∙◌, if◌then◌else◌}
use Rattle.std.specs.Option.{option_or, option_map, option_map_or, option_and_then}
use Rattle.policy_values.specs.Reaches.{has}
use Rattle.policy_values.specs.declared.entity_uid.EntityUID.{EntityUID}
use Rattle.policy_values.specs.Uid.{text_cmp}
use Rattle.policy_values.specs.Value.{Val, truth, long, string, entity, set, rec, decimal, ip, datetime, duration, Vals, no_vals, val, Fields, no_fields, field}
use Rattle.schema_core.specs.Kinds.{Kind, standard, enumerated}
use Rattle.schema_core.specs.Schema.{SchemaData, TypeData, type_at}
use Rattle.typing_spec.specs.Conforms.{is_listed, is_listed_in, lists_ids, lists_all, lists_fields}
use Rattle.policy_scope.specs.Names.{choices_in, others_listed}
use Rattle.conformance.specs.Ids.{unlisted_in, unlisted_in_all, unlisted_in_fields}
use Rattle.conformance.specs.RequestRules.{listed_fault}
use Rattle.conformance.proofs.Options.{none_first, none_rest, neither}
use Rattle.plain_lemmas.proofs.Booleans.{and_parts_of, equal_by_both_ways}

module _ (u : EntityUID) {X : Type 0} (f : List (List ℕ) → X) where
  pub kind_lists : (k : Kind) → option_map f (option_and_then (others_listed u) (choices_in k)) ≡ None → is_listed_in k u.eid ≡ true
  kind_lists (standard xs t) h = refl
  kind_lists (enumerated ids) h = by (has text_cmp ids u.eid) h
    where
      by : (b : Bool) → option_map f (if b then None else Some ids) ≡ None → b ≡ true
      by true e = refl
      by false e = absurd (cc e)

  pub lists_kind : (k : Kind) → is_listed_in k u.eid ≡ true → option_map f (option_and_then (others_listed u) (choices_in k)) ≡ None
  lists_kind (standard xs t) h = refl
  lists_kind (enumerated ids) h = ap (λ b. option_map f (if b then None else Some ids)) h

  type_lists : (o : Option TypeData) → option_map f (option_and_then (others_listed u) (option_and_then (λ t. choices_in t.kind) o)) ≡ None → option_map_or (λ t. is_listed_in t.kind u.eid) o true ≡ true
  type_lists None h = refl
  type_lists (Some t) h = kind_lists t.kind h

  lists_type : (o : Option TypeData) → option_map_or (λ t. is_listed_in t.kind u.eid) o true ≡ true → option_map f (option_and_then (others_listed u) (option_and_then (λ t. choices_in t.kind) o)) ≡ None
  lists_type None h = refl
  lists_type (Some t) h = lists_kind t.kind h

module _ (schema : SchemaData) where
  pub listed : (u : EntityUID) → listed_fault schema u ≡ None → is_listed schema u ≡ true
  listed u h = type_lists u _ (type_at schema u.entity_type) h

  -- a value that holds listed ids alone holds no other
  id_listed : (u : EntityUID) → (if is_listed schema u then None else Some u) ≡ None → is_listed schema u ≡ true
  id_listed u h = by (is_listed schema u) h
    where
      by : (b : Bool) → (if b then None else Some u) ≡ None → b ≡ true
      by true e = refl
      by false e = absurd (cc e)

  mutual
    ids_listed : (v : Val) → unlisted_in schema v ≡ None → lists_ids schema v ≡ true
    ids_listed (entity u) h = id_listed u h
    ids_listed (set vs) h = all_listed vs h
    ids_listed (rec fs) h = fields_listed fs h
    ids_listed v h = refl

    all_listed : (vs : Vals) → unlisted_in_all schema vs ≡ None → lists_all schema vs ≡ true
    all_listed no_vals h = refl
    all_listed (val v vs) h = λ i. ids_listed v (none_first _ _ h) i && all_listed vs (none_rest _ _ h) i

    pub fields_listed : (fs : Fields) → unlisted_in_fields schema fs ≡ None → lists_fields schema fs ≡ true
    fields_listed no_fields h = refl
    fields_listed (field k v fs) h = λ i. ids_listed v (none_first _ _ h) i && fields_listed fs (none_rest _ _ h) i

  mutual
    none_unlisted : (v : Val) → lists_ids schema v ≡ true → unlisted_in schema v ≡ None
    none_unlisted (entity u) h = ap (λ b. if b then None else Some u) h
    none_unlisted (set vs) h = none_unlisted_all vs h
    none_unlisted (rec fs) h = none_unlisted_fields fs h
    none_unlisted v h = refl

    none_unlisted_all : (vs : Vals) → lists_all schema vs ≡ true → unlisted_in_all schema vs ≡ None
    none_unlisted_all no_vals h = refl
    none_unlisted_all (val v vs) h = let b = and_parts_of (lists_ids schema v) (lists_all schema vs) h in neither _ _ (none_unlisted v b.0) (none_unlisted_all vs b.1)

    pub none_unlisted_fields : (fs : Fields) → lists_fields schema fs ≡ true → unlisted_in_fields schema fs ≡ None
    none_unlisted_fields no_fields h = refl
    none_unlisted_fields (field k v fs) h = let b = and_parts_of (lists_ids schema v) (lists_fields schema fs) h in neither _ _ (none_unlisted v b.0) (none_unlisted_fields fs b.1)

  -- what is found as unlisted is not listed, so that it is a fault
  abbrev IsUnlisted : Option EntityUID → Type 0
  IsUnlisted None = Unit {0}
  IsUnlisted (Some u) = is_listed schema u ≡ false

  first_unlisted : (a b : Option EntityUID) → IsUnlisted a → IsUnlisted b → IsUnlisted (option_or a b)
  first_unlisted None b h k = k
  first_unlisted (Some u) b h k = h

  id_unlisted : (u : EntityUID) → IsUnlisted (if is_listed schema u then None else Some u)
  id_unlisted u = by (is_listed schema u) refl
    where
      by : (b : Bool) → is_listed schema u ≡ b → IsUnlisted (if b then None else Some u)
      by true e = tt
      by false e = e

  mutual
    unlisted : (v : Val) → IsUnlisted (unlisted_in schema v)
    unlisted (entity u) = id_unlisted u
    unlisted (set vs) = unlisted_all vs
    unlisted (rec fs) = unlisted_fields fs
    unlisted v = tt

    unlisted_all : (vs : Vals) → IsUnlisted (unlisted_in_all schema vs)
    unlisted_all no_vals = tt
    unlisted_all (val v vs) = first_unlisted _ _ (unlisted v) (unlisted_all vs)

    unlisted_fields : (fs : Fields) → IsUnlisted (unlisted_in_fields schema fs)
    unlisted_fields no_fields = tt
    unlisted_fields (field k v fs) = first_unlisted _ _ (unlisted v) (unlisted_fields fs)

  pub no_unlisted : (fs : Fields) → option_and_then (listed_fault schema) (unlisted_in_fields schema fs) ≡ None → unlisted_in_fields schema fs ≡ None
  no_unlisted fs h = by (unlisted_in_fields schema fs) (unlisted_fields fs) h
    where
      by : (o : Option EntityUID) → IsUnlisted o → option_and_then (listed_fault schema) o ≡ None → o ≡ None
      by None k e = refl
      by (Some u) k e = absurd (cc (listed u e, k))

  nothing : (o : Option EntityUID) → is_none o ≡ true → o ≡ None
  nothing None h = refl
  nothing (Some u) h = absurd (cc h)

  -- a value holds listed ids alone exactly where none is found that is not
  pub none_unlisted_is : (v : Val) → is_none (unlisted_in schema v) ≡ lists_ids schema v
  none_unlisted_is v = equal_by_both_ways (is_none (unlisted_in schema v)) (lists_ids schema v) (λ h. ids_listed v (nothing (unlisted_in schema v) h)) (λ h. ap is_none (none_unlisted v h))
