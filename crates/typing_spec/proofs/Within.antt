-- `in`.
use Rattle.std.proofs.Common.{◌≡◌, ℕ, Bool, true, false, not, ◌&&◌, ◌||◌, ◌⊎◌, inl, inr, List, [], ◌∷◌, Option, Some, None, is_some, IsTrue, Ok, refl, sym, ap, subst, ◌∙◌, map, IfSome, IsSomeAnd}
use Rattle.std.specs.Prelude.{if◌then◌else◌, option_map}
use Rattle.std.specs.List.{AllByRecursion, list_any}
use Rattle.std.specs.Option.{option_and_then, option_map_or}
use Rattle.policy_values.specs.Reaches.{has}
use Rattle.policy_values.specs.Basename.{is_action_type}
use Rattle.policy_values.specs.declared.entity_uid.EntityUID.{EntityUID}
use Rattle.policy_values.specs.Uid.{text_cmp, uid_cmp, uid_eq}
use Rattle.policy_values.specs.Value.{Val, truth, entity as id, set as set_val, Vals, no_vals, val}
use Rattle.policy_values.specs.ValueOrder.{set_of as ordered}
use Rattle.entity_store.specs.declared.request.Request.{Request}
use Rattle.entity_store.specs.Request.{principal_of, action_of, resource_of}
use Rattle.entity_store.specs.Store.{StoredEntity, Store, entity_at}
use Rattle.schema_types.specs.Ty.{Ty, any_entity, entity, action, set_of as set_type}
use Rattle.schema_core.specs.EnvData.{LinkedEnvironment, declared_action}
use Rattle.schema_core.specs.Faults.{IsSchema}
use Rattle.schema_core.specs.Schema.{TypeData, ActionData, SchemaData, type_at, action_at, type_below, action_below}
use Rattle.type_relations.specs.Join.{text_eq, is_entity}
use Rattle.type_relations.specs.Member.{Member, Members}
use Rattle.policy_expressions.specs.declared.kinds.Literal.TheVariants as literal
use Rattle.policy_expressions.specs.declared.kinds.Var.TheVariants.{Principal, Action, Resource, Context}
use Rattle.policy_core.specs.declared.outcome.Outcome.{Outcome}
use Rattle.policy_core.specs.declared.outcome.Outcome.TheVariants.{Value, Error}
use Rattle.policy_core.specs.Eval.{eval, eval_all, in_prefix, set_outcome}
use Rattle.policy_core.specs.Operators.{above, within, or_within, within_any, in_value}
use Rattle.policy_expressions.specs.Tree.{lit, var, set, Trees, no_trees, tree, Mark}
use Rattle.policy_expressions.specs.Plain.{Plain}
use Rattle.typing_spec.specs.Conforms.{IsAllowedAncestor, StoreConforms, RequestConforms, IsOf, IdConforms, is_listed_in}
use Rattle.schema_core.specs.Within.{is_type_within, is_action_within}
use Rattle.typing_spec.specs.Environment.{known_id, known_ids, listed_ids}
use Rattle.typing_spec.specs.Rules.{possible, is_entity_set, type_in, action_among, entity_among, id_in, in_listed, in_type}
use Rattle.typing_spec.specs.Signatures.{bool_type}
use Rattle.typing_spec.specs.Sound.{IsOfType}
use Rattle.typing_spec.proofs.Access.{possible_truth}
use Rattle.typing_spec.proofs.Ids.{IsKnownAs, same_uid, text_itself}
use Rattle.plain_lemmas.proofs.Booleans.{and_parts_of, false_of_not_true, not_both, or_false_left, or_false_right}
use Rattle.typing_spec.proofs.Kept.{same_text}
use Rattle.typing_spec.proofs.Basics.{mapped}
use Rattle.typing_spec.proofs.Lists.{EachIs, AllIs, ordered_all}
use Rattle.typing_spec.proofs.Operators.{two, id_member}
use Rattle.typing_spec.proofs.Stored.{FoundAt, found_at, typed_found, action_found, declared_is_no_action, action_is_one, undeclared_found}

and_not : (a b : Bool) → (a && b) ≡ false → a ≡ true → b ≡ false
and_not true b h e = h
and_not false b h e = cc

-- what is true of some
none_of : {X : Type 0} (f : X → Bool) (P : X → Type 0) (xs : List X) → ((x : X) → f x ≡ false → P x) → list_any f xs ≡ false → AllByRecursion P xs
none_of f P [] h e = tt
none_of f P (x ∷ xs) h e = (h x (or_false_left (f x) (list_any f xs) e), none_of f P xs h (or_false_right (f x) (list_any f xs) e))

-- an ancestor is one of those that are allowed
allowed : (schema : SchemaData) (e : StoredEntity) (u : EntityUID) (us : List EntityUID) → AllByRecursion (IsAllowedAncestor schema e) us → list_any (uid_eq u) us ≡ true → type_below schema e.uid.entity_type u.entity_type ≡ true
allowed schema e u [] h i = cc
allowed schema e u (y ∷ ys) h i = by (uid_eq u y) refl (allowed schema e u ys h.1) i
  where
    by : (b : Bool) → uid_eq u y ≡ b → (list_any (uid_eq u) ys ≡ true → type_below schema e.uid.entity_type u.entity_type ≡ true) → (b || list_any (uid_eq u) ys) ≡ true → type_below schema e.uid.entity_type u.entity_type ≡ true
    by true f rest j = subst (λ z. type_below schema e.uid.entity_type z.entity_type ≡ true) (sym (same_uid u y f)) h.0.below
    by false f rest j = rest j

module _ (schema : SchemaData) (ok : IsSchema schema) (s : Store) (stored : StoreConforms schema s) where
  -- the entity is not in what its type can't be in
  out_by_type : (x u : EntityUID) → is_action_type x.entity_type ≡ false → is_type_within schema x.entity_type u.entity_type ≡ false → within x u s ≡ false
  out_by_type x u a h = both (uid_eq x u) (above (entity_at s x) u) itself (by (entity_at s x) (found_at schema ok s x stored))
    where
      both : (b c : Bool) → b ≡ false → c ≡ false → (b || c) ≡ false
      both b c e f = λ i. e i || f i

      itself : uid_eq x u ≡ false
      itself = false_of_not_true (uid_eq x u) (λ e. not_both (text_eq x.entity_type u.entity_type) (ap (λ z. text_eq x.entity_type z.entity_type) (sym (same_uid x u e)) ∙ text_itself x.entity_type) (or_false_left (text_eq x.entity_type u.entity_type) (type_below schema x.entity_type u.entity_type) h))

      by : (r : Option StoredEntity) → IfSome r (FoundAt schema ok x) → above r u ≡ false
      by None f = refl
      by (Some e) f = false_of_not_true (list_any (uid_eq u) e.ancestors) (λ i. found (type_at schema x.entity_type) refl i)
        where
          found : (o : Option TypeData) → type_at schema x.entity_type ≡ o → list_any (uid_eq u) e.ancestors ≡ true → ⊥
          found (Some t) p i =
              let c = typed_found schema ok x e t f p in
              let b : type_below schema x.entity_type u.entity_type ≡ true = subst (λ y. type_below schema y.entity_type u.entity_type ≡ true) (sym f.uid) (allowed schema e u e.ancestors c.ancestors i) in
              not_both (type_below schema x.entity_type u.entity_type) b (or_false_right (text_eq x.entity_type u.entity_type) (type_below schema x.entity_type u.entity_type) h)
          found None p i = undeclared_found schema ok x e f a p

  -- the action is not in what it can't be in
  out_by_id : (x u : EntityUID) → is_action_type x.entity_type ≡ true → uid_eq x u ≡ false → action_below schema x u ≡ false → within x u s ≡ false
  out_by_id x u a h i = (λ j. h j || by (entity_at s x) (found_at schema ok s x stored) j)
    where
      by : (r : Option StoredEntity) → IfSome r (FoundAt schema ok x) → above r u ≡ false
      by None f = refl
      by (Some e) f = let c = action_found schema ok x e f a in c.ancestors u ∙ subst (λ y. action_below schema y u ≡ false) f.uid i

  -- an action is among no other action's descendants where the other is none
  no_action_above : (x u : EntityUID) → is_action_type u.entity_type ≡ false → action_below schema x u ≡ false
  no_action_above x u a = by (action_at schema u) (action_is_one schema ok u)
    where
      by : (o : Option ActionData) → (is_some o ≡ true → is_action_type u.entity_type ≡ true) → option_map_or (λ b. has uid_cmp b.descendants x) o false ≡ false
      by None h = refl
      by (Some b) h = absurd (not_both (is_action_type u.entity_type) (h refl) a)

  no_type_above : (n m : List ℕ) → is_action_type m ≡ true → type_below schema n m ≡ false
  no_type_above n m a = by (type_at schema m) (declared_is_no_action schema ok m)
    where
      by : (o : Option TypeData) → (is_some o ≡ true → is_action_type m ≡ false) → option_map_or (λ t. has text_cmp t.descendants n) o false ≡ false
      by None h = refl
      by (Some t) h = absurd (not_both (is_action_type m) a (h refl))

  -- ids of two types, of which one is of actions, differ
  kinds_differ : (x u : EntityUID) (b : Bool) → is_action_type x.entity_type ≡ b → is_action_type u.entity_type ≡ not b → uid_eq x u ≡ false
  kinds_differ x u b e f = false_of_not_true (uid_eq x u) (λ g. differ b (sym e ∙ ap (λ z. is_action_type z.entity_type) (same_uid x u g) ∙ f))
    where
      differ : (b : Bool) → b ≡ not b → ⊥
      differ true h = cc
      differ false h = cc

  types_differ : (x u : EntityUID) → is_action_type x.entity_type ≡ false → is_action_type u.entity_type ≡ true → text_eq x.entity_type u.entity_type ≡ false
  types_differ x u a b = false_of_not_true (text_eq x.entity_type u.entity_type) (λ e. not_both (is_action_type u.entity_type) b (ap is_action_type (sym (same_text x.entity_type u.entity_type e)) ∙ a))

  -- the id is in none of them
  abbrev IsOut : EntityUID → List EntityUID → Type 0
  IsOut x us = AllByRecursion (λ u. within x u s ≡ false) us

  out_of_types : (name : List ℕ) (x : EntityUID) (us : List EntityUID) → x.entity_type ≡ name → is_action_type name ≡ false → list_any (λ u. is_type_within schema name u.entity_type) us ≡ false → IsOut x us
  out_of_types name x us e a h =
      none_of (λ u. is_type_within schema name u.entity_type) (λ u. within x u s ≡ false) us (λ u f.
      out_by_type x u (subst (λ n. is_action_type n ≡ false) (sym e) a) (subst (λ n. is_type_within schema n u.entity_type ≡ false) (sym e) f)) h

  out_of_actions : (x : EntityUID) (us : List EntityUID) → is_action_type x.entity_type ≡ true → action_among schema x us ≡ false → IsOut x us
  out_of_actions x us a h = none_of (λ u. is_action_type u.entity_type && is_action_within schema x u) (λ u. within x u s ≡ false) us (λ u f. by u (is_action_type u.entity_type) refl f) h
    where
      by : (u : EntityUID) (b : Bool) → is_action_type u.entity_type ≡ b → (b && is_action_within schema x u) ≡ false → within x u s ≡ false
      by u true e f = out_by_id x u a (or_false_left (uid_eq x u) (action_below schema x u) f) (or_false_right (uid_eq x u) (action_below schema x u) f)
      by u false e f = out_by_id x u a (kinds_differ x u true a e) (no_action_above x u e)

  out_of_entities : (x : EntityUID) (us : List EntityUID) → is_action_type x.entity_type ≡ false → entity_among schema x us ≡ false → IsOut x us
  out_of_entities x us a h = none_of (λ u. not (is_action_type u.entity_type) && is_type_within schema x.entity_type u.entity_type) (λ u. within x u s ≡ false) us (λ u f. by u (is_action_type u.entity_type) refl f) h
    where
      by : (u : EntityUID) (b : Bool) → is_action_type u.entity_type ≡ b → (not b && is_type_within schema x.entity_type u.entity_type) ≡ false → within x u s ≡ false
      by u false e f = out_by_type x u a f
      by u true e f = out_by_type x u a (λ i. types_differ x u a e i || no_type_above x.entity_type u.entity_type e i)

  -- the value of the right side, where its ids are listed
  abbrev Lists : List EntityUID → Val → Type 0
  Lists us v = (v ≡ set_val (ordered (map id us))) ⊎ ((u : EntityUID) × (us ≡ u ∷ []) × (v ≡ id u))

  abbrev IsOutOf : EntityUID → Val → Type 0
  IsOutOf x v = (u : EntityUID) × (v ≡ id u) × (within x u s ≡ false)

  each_out : (x : EntityUID) (us : List EntityUID) → IsOut x us → EachIs (IsOutOf x) (map id us)
  each_out x [] h = tt
  each_out x (u ∷ us) h = ((u, refl, h.0), each_out x us h.1)

  none_within : (x : EntityUID) (vs : Vals) → AllIs (IsOutOf x) vs → within_any x vs s ≡ Value (truth false)
  none_within x no_vals h = refl
  none_within x (val v vs) h =
      subst (λ w. within_any x (val w vs) s ≡ Value (truth false)) (sym h.0.1)
      ((λ i. or_within (h.0.2 i) (none_within x vs h.1 i)))

  out_value : (x : EntityUID) (us : List EntityUID) (v : Val) → Lists us v → IsOut x us → in_value (id x) v s ≡ Value (truth false)
  out_value x us v (inl e) h = subst (λ w. in_value (id x) w s ≡ Value (truth false)) (sym e) (none_within x (ordered (map id us)) (ordered_all (IsOutOf x) (map id us) (each_out x us h)))
  out_value x us v (inr e) h =
      subst (λ w. in_value (id x) w s ≡ Value (truth false)) (sym e.2) (ap (λ b. Value (truth b)) (subst (IsOut x) e.1 h).0)

  -- `in` of an entity and an entity or a set of entities is a boolean
  set_truth : (x : EntityUID) (t : Ty) (vs : Vals) → is_entity t ≡ true → Members t vs → (b : Bool) × (within_any x vs s ≡ Value (truth b))
  set_truth x t no_vals e h = (false, refl)
  set_truth x t (val v vs) e h =
      let c = id_member t v e h.0 in
      let r = set_truth x t vs e h.1 in
      (within x c.0 s || r.0, subst (λ w. within_any x (val w vs) s ≡ Value (truth (within x c.0 s || r.0))) (sym c.1) (ap (λ o. or_within (within x c.0 s) o) r.1))

  in_truth : (x : EntityUID) (u : Ty) (w : Val) → (is_entity u || is_entity_set u) ≡ true → Member u w → (b : Bool) × (in_value (id x) w s ≡ Value (truth b))
  in_truth x any_entity (id y) e m = (within x y s, refl)
  in_truth x (entity ns) (id y) e m = (within x y s, refl)
  in_truth x (action n xs) (id y) e m = (within x y s, refl)
  in_truth x (set_type t) (set_val vs) e m = set_truth x t vs e m
  in_truth x any_entity w e m = absurd m
  in_truth x (entity ns) w e m = absurd m
  in_truth x (action n xs) w e m = absurd m
  in_truth x (set_type t) w e m = absurd m
  in_truth x u w e m = absurd (cc)

  false_value : (b : Bool) (o : Outcome) → o ≡ Value (truth b) → o ≡ Value (truth false) → b ≡ false
  false_value true o h i = let e : Value (truth true) ≡ Value (truth false) = sym h ∙ i in cc
  false_value false o h i = refl

  abbrev id_of : Outcome → EntityUID → EntityUID
  id_of (Value (id u)) x = u
  id_of o x = x

  module _ (env : LinkedEnvironment) (q : Request) (whole : RequestConforms schema q) (of : IsOf schema q env) where
    pub known_is : (x : Plain) → IfSome (known_id (declared_action env) x) (IsKnownAs (eval x q s))
    known_is (lit (literal.EntityUID u) m) = refl
    known_is (var Action m) = ap (λ u. Value (id u)) of.action
    known_is (lit (literal.Bool u) m) = tt
    known_is (lit (literal.Long u) m) = tt
    known_is (lit (literal.String u) m) = tt
    known_is (var Principal m) = tt
    known_is (var Resource m) = tt
    known_is (var Context m) = tt
    known_is x = tt

    known_all : (xs : Trees (Mark (Unit {0}))) → IfSome (known_ids (declared_action env) xs) (λ us. eval_all xs q s ≡ Ok (map id us))
    known_all no_trees = refl
    known_all (tree x xs) = by (known_id (declared_action env) x) (known_is x) (known_ids (declared_action env) xs) (known_all xs)
      where
        by : (a : Option EntityUID) → IfSome a (IsKnownAs (eval x q s)) → (o : Option (List EntityUID)) → IfSome o (λ us. eval_all xs q s ≡ Ok (map id us)) →
            IfSome (option_and_then (λ u. option_map (λ us. u ∷ us) o) a) (λ us. in_prefix (λ v. v) (eval x q s) (eval_all xs q s) ≡ Ok (map id us))
        by None h o i = tt
        by (Some u) h None i = tt
        by (Some u) h (Some us) i = λ j. in_prefix (λ v. v) (h j) (i j)

    abbrev value_in : Val → Outcome → Val
    value_in w (Value v) = v
    value_in w (Error e) = w

    one_value : (v w : Val) → Value v ≡ Value w → v ≡ w
    one_value v w e = ap (value_in v) e

    -- the ids that are listed are those of the value
    listed : (y : Plain) (w : Val) → eval y q s ≡ Value w → IfSome (listed_ids (declared_action env) y) (λ us. Lists us w)
    listed (set xs m) w e = by (known_ids (declared_action env) xs) (known_all xs)
      where
        by : (o : Option (List EntityUID)) → IfSome o (λ us. eval_all xs q s ≡ Ok (map id us)) → IfSome o (λ us. Lists us w)
        by None h = tt
        by (Some us) h = inl (one_value w (set_val (ordered (map id us))) (sym e ∙ ap set_outcome h))
    listed y w e = mapped (IsKnownAs (eval y q s)) (λ us. Lists us w) (λ u. u ∷ []) (known_id (declared_action env) y) (known_is y) (λ u h. inr (u, refl, one_value w (id u) (sym e ∙ h)))

    declared : (u : EntityUID) → IdConforms schema u → is_action_type u.entity_type ≡ false
    declared u h = declared_is_no_action schema ok u.entity_type (by (type_at schema u.entity_type) h)
      where
        by : (o : Option TypeData) → IsSomeAnd o (λ t. IsTrue (is_listed_in t.kind u.eid)) → is_some o ≡ true
        by None h = absurd h
        by (Some t) h = refl

    by_type : (name : List ℕ) (x : EntityUID) (us : List EntityUID) (w : Val) (b : Bool) → x.entity_type ≡ name → is_action_type x.entity_type ≡ false → Lists us w → in_value (id x) w s ≡ Value (truth b) → Member (type_in schema (Some name) us) (truth b)
    by_type name x us w b e a l h =
        possible_truth (list_any (λ u. is_type_within schema name u.entity_type) us) b (λ f.
        false_value b (in_value (id x) w s) h (out_value x us w l (out_of_types name x us e (subst (λ n. is_action_type n ≡ false) e a) f)))

    by_id : (x : EntityUID) (us : List EntityUID) (w : Val) (b : Bool) → Lists us w → in_value (id x) w s ≡ Value (truth b) → Member (id_in schema x us) (truth b)
    by_id x us w b l h = by (is_action_type x.entity_type) refl
      where
        by : (c : Bool) → is_action_type x.entity_type ≡ c → Member (possible (if c then action_among schema x us else entity_among schema x us)) (truth b)
        by true e = possible_truth (action_among schema x us) b (λ f. false_value b (in_value (id x) w s) h (out_value x us w l (out_of_actions x us e f)))
        by false e = possible_truth (entity_among schema x us) b (λ f. false_value b (in_value (id x) w s) h (out_value x us w l (out_of_entities x us e f)))

    same_id : (x y : EntityUID) → Value (id x) ≡ Value (id y) → x ≡ y
    same_id x y e = ap (λ o. id_of o x) e

    listed_member : (x : Plain) (a : EntityUID) (us : List EntityUID) (w : Val) (b : Bool) → eval x q s ≡ Value (id a) → Lists us w → in_value (id a) w s ≡ Value (truth b) → Member (in_listed schema (declared_action env) x us) (truth b)
    listed_member (var Principal m) a us w b e l h =
        let p = same_id (principal_of q) a e in
        by_type env.environment.principal a us w b (subst (λ u. u.entity_type ≡ env.environment.principal) p of.principal) (subst (λ u. is_action_type u.entity_type ≡ false) p (declared (principal_of q) whole.principal)) l h
    listed_member (var Resource m) a us w b e l h =
        let p = same_id (resource_of q) a e in
        by_type env.environment.resource a us w b (subst (λ u. u.entity_type ≡ env.environment.resource) p of.resource) (subst (λ u. is_action_type u.entity_type ≡ false) p (declared (resource_of q) whole.resource)) l h
    listed_member (var Action m) a us w b e l h =
        let p = sym of.action ∙ same_id (action_of q) a e in
        by_id env.environment.action us w b l (subst (λ u. in_value (id u) w s ≡ Value (truth b)) (sym p) h)
    listed_member (lit (literal.EntityUID u) m) a us w b e l h = by_id u us w b l (subst (λ u. in_value (id u) w s ≡ Value (truth b)) (sym (same_id u a e)) h)
    listed_member (lit (literal.Bool u) m) a us w b e l h = tt
    listed_member (lit (literal.Long u) m) a us w b e l h = tt
    listed_member (lit (literal.String u) m) a us w b e l h = tt
    listed_member (var Context m) a us w b e l h = tt
    listed_member x a us w b e l h = tt

    in_member : (x y : Plain) (a : EntityUID) (w : Val) (b : Bool) → eval x q s ≡ Value (id a) → eval y q s ≡ Value w → in_value (id a) w s ≡ Value (truth b) → Member (option_map_or (in_listed schema (declared_action env) x) (listed_ids (declared_action env) y) bool_type) (truth b)
    in_member x y a w b e f h = by (listed_ids (declared_action env) y) (listed y w f)
      where
        by : (o : Option (List EntityUID)) → IfSome o (λ us. Lists us w) → Member (option_map_or (in_listed schema (declared_action env) x) o bool_type) (truth b)
        by None l = tt
        by (Some us) l = listed_member x a us w b e l h

    pub in_of_type : (x y : Plain) (t u : Ty) → IsOfType t (eval x q s) → IsOfType u (eval y q s) → IfSome (in_type schema (declared_action env) x y t u) (λ w. IsOfType w (two (eval x q s) (eval y q s) (λ v w. in_value v w s)))
    in_of_type x y t u h i = by (is_entity t && (is_entity u || is_entity_set u)) refl
      where
        at : is_entity t ≡ true → (is_entity u || is_entity_set u) ≡ true → (o p : Outcome) → eval x q s ≡ o → eval y q s ≡ p → IsOfType t o → IsOfType u p → IsOfType (option_map_or (in_listed schema (declared_action env) x) (listed_ids (declared_action env) y) bool_type) (two o p (λ v w. in_value v w s))
        at a b (Error e) p f g h i = h
        at a b (Value v) (Error e) f g h i = i
        at a b (Value v) (Value w) f g h i =
            let c = id_member t v a h in
            let r = in_truth c.0 u w b i in
            subst (λ v. IsOfType (option_map_or (in_listed schema (declared_action env) x) (listed_ids (declared_action env) y) bool_type) (in_value v w s)) (sym c.1)
            (subst (λ o. IsOfType (option_map_or (in_listed schema (declared_action env) x) (listed_ids (declared_action env) y) bool_type) o) (sym r.1)
            (in_member x y c.0 w r.0 (f ∙ ap Value c.1) g r.1))

        by : (b : Bool) → (is_entity t && (is_entity u || is_entity_set u)) ≡ b → IfSome (if b then Some (option_map_or (in_listed schema (declared_action env) x) (listed_ids (declared_action env) y) bool_type) else None) (λ w. IsOfType w (two (eval x q s) (eval y q s) (λ v w. in_value v w s)))
        by false e = tt
        by true e = let r = and_parts_of (is_entity t) (is_entity u || is_entity_set u) e in at r.0 r.1 (eval x q s) (eval y q s) refl refl h i
