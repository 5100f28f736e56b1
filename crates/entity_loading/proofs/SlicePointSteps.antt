-- Where values point, under more tests and under tests made of tests.
use Rattle.std.proofs.Common.{◌≡◌, Bool, true, false, ◌&&◌, ◌||◌, List, [], ◌∷◌, refl, ap, ◌∙◌}
use Rattle.std.specs.List.{list_any}
use Rattle.std.proofs.lemmas.Bool.{and_parts, and_from}
use Rattle.policy_values.specs.declared.entity_uid.EntityUID.{EntityUID}
use Rattle.policy_values.specs.Uid.{text_cmp, uid_eq}
use Rattle.policy_values.specs.Value.{Val, entity, rec, Fields, no_fields, field, field_at}
use Rattle.entity_store.specs.Store.{StoredEntity}
use Rattle.access_tries.specs.declared.edge.Edge.TheVariants.{Field, AnyTag}
use Rattle.access_tries.specs.Edges.{Address}
use Rattle.reads_spec.specs.Restrict.{values_in}
use Rattle.reads_spec.proofs.Lists.{same_text}
use Rattle.plain_lemmas.proofs.Booleans.{and_over_or, or_exchange, or_left_true, or_right_true, or_weaker}
use Rattle.std.specs.Prelude.{ℕ, Some, if◌then◌else◌}
use Rattle.std.specs.Ordering.{is_eq}
use Rattle.entity_loading.specs.Needs.{Test, points, fields_point, entity_points}
use Rattle.entity_loading.proofs.PlacePointSteps.{points_none, fields_point_none, any_point_none}

-- ---- more addresses pass

mutual
  pub points_more : (v : Val) (t u : Test) → ((a : Address) → t a ≡ true → u a ≡ true) → (x : EntityUID) (a : Address) → points v t x a ≡ true → points v u x a ≡ true
  points_more (entity y) t u h x a p = let b = and_parts (uid_eq y x) (t a) p in and_from (uid_eq y x) (u a) b.0 (h a b.1)
  points_more (rec fs) t u h x a p = fields_point_more fs t u h x a p
  points_more v t u h x a p = absurd (cc)

  pub fields_point_more : (fs : Fields) (t u : Test) → ((a : Address) → t a ≡ true → u a ≡ true) → (x : EntityUID) (a : Address) → fields_point fs t x a ≡ true → fields_point fs u x a ≡ true
  fields_point_more no_fields t u h x a p = absurd (cc)
  fields_point_more (field n v fs) t u h x a p =
      or_weaker (points v (λ b. t (Field n ∷ b)) x a) (fields_point fs t x a) (points v (λ b. u (Field n ∷ b)) x a) (fields_point fs u x a)
      (λ i. points_more v (λ b. t (Field n ∷ b)) (λ b. u (Field n ∷ b)) (λ b. h (Field n ∷ b)) x a i) (λ i. fields_point_more fs t u h x a i) p

-- ---- tests made of tests

mutual
  points_or : (v : Val) (t u : Test) (x : EntityUID) (a : Address) → points v (λ b. t b || u b) x a ≡ (points v t x a || points v u x a)
  points_or (entity y) t u x a = and_over_or (uid_eq y x) (t a) (u a)
  points_or (rec fs) t u x a = fields_point_or fs t u x a
  points_or v t u x a = refl

  fields_point_or : (fs : Fields) (t u : Test) (x : EntityUID) (a : Address) → fields_point fs (λ b. t b || u b) x a ≡ (fields_point fs t x a || fields_point fs u x a)
  fields_point_or no_fields t u x a = refl
  fields_point_or (field n v fs) t u x a =
      ap (λ c. c || fields_point fs (λ b. t b || u b) x a) (points_or v (λ b. t (Field n ∷ b)) (λ b. u (Field n ∷ b)) x a)
      ∙ ap (λ c. (points v (λ b. t (Field n ∷ b)) x a || points v (λ b. u (Field n ∷ b)) x a) || c) (fields_point_or fs t u x a)
      ∙ or_exchange (points v (λ b. t (Field n ∷ b)) x a) (points v (λ b. u (Field n ∷ b)) x a) (fields_point fs t x a) (fields_point fs u x a)

some_point_or : (vs : List Val) (t u : Test) (x : EntityUID) (a : Address) → list_any (λ v. points v (λ b. t b || u b) x a) vs ≡ (list_any (λ v. points v t x a) vs || list_any (λ v. points v u x a) vs)
some_point_or [] t u x a = refl
some_point_or (v ∷ vs) t u x a =
    ap (λ c. c || list_any (λ w. points w (λ b. t b || u b) x a) vs) (points_or v t u x a)
    ∙ ap (λ c. (points v t x a || points v u x a) || c) (some_point_or vs t u x a)
    ∙ or_exchange (points v t x a) (points v u x a) (list_any (λ w. points w t x a) vs) (list_any (λ w. points w u x a) vs)

pub entity_points_or : (e : StoredEntity) (t u : Test) (x : EntityUID) (a : Address) → entity_points e (λ b. t b || u b) x a ≡ (entity_points e t x a || entity_points e u x a)
entity_points_or e t u x a =
    ap (λ c. c || list_any (λ v. points v (λ b. t (AnyTag ∷ b) || u (AnyTag ∷ b)) x a) (values_in e.tags)) (fields_point_or e.attrs t u x a)
    ∙ ap (λ c. (fields_point e.attrs t x a || fields_point e.attrs u x a) || c) (some_point_or (values_in e.tags) (λ b. t (AnyTag ∷ b)) (λ b. u (AnyTag ∷ b)) x a)
    ∙ or_exchange (fields_point e.attrs t x a) (fields_point e.attrs u x a) (list_any (λ v. points v (λ b. t (AnyTag ∷ b)) x a) (values_in e.tags)) (list_any (λ v. points v (λ b. u (AnyTag ∷ b)) x a) (values_in e.tags))

pub entity_points_none : (e : StoredEntity) (x : EntityUID) (a : Address) → entity_points e (λ b. false) x a ≡ false
entity_points_none e x a = ap (λ c. c || list_any (λ v. points v (λ b. false) x a) (values_in e.tags)) (fields_point_none e.attrs x a) ∙ any_point_none (values_in e.tags) x a

pub entity_points_when : (c : Bool) (e : StoredEntity) (t : Test) (x : EntityUID) (a : Address) → entity_points e (λ b. c && t b) x a ≡ (c && entity_points e t x a)
entity_points_when true e t x a = refl
entity_points_when false e t x a = entity_points_none e x a

points_when : (c : Bool) (v : Val) (t : Test) (x : EntityUID) (a : Address) → points v (λ b. c && t b) x a ≡ (c && points v t x a)
points_when true v t x a = refl
points_when false v t x a = points_none v x a

pub points_any : {X : Type 0} (g : X → Bool) (h : X → Test) (ls : List X) (v : Val) (x : EntityUID) (a : Address) → points v (λ b. list_any (λ l. g l && h l b) ls) x a ≡ list_any (λ l. g l && points v (h l) x a) ls
points_any g h [] v x a = points_none v x a
points_any g h (l ∷ ls) v x a =
    points_or v (λ b. g l && h l b) (λ b. list_any (λ m. g m && h m b) ls) x a
    ∙ ap (λ c. c || points v (λ b. list_any (λ m. g m && h m b) ls) x a) (points_when (g l) v (h l) x a)
    ∙ ap (λ c. (g l && points v (h l) x a) || c) (points_any g h ls v x a)

-- ---- the value of a field

pub field_points : (fs : Fields) (n : List ℕ) (w : Val) (t : Test) (x : EntityUID) (a : Address) → field_at fs n ≡ Some w → points w (λ b. t (Field n ∷ b)) x a ≡ true → fields_point fs t x a ≡ true
field_points no_fields n w t x a h p = absurd (cc)
field_points (field m v fs) n w t x a h p = by (is_eq (text_cmp n m)) refl h (λ k. field_points fs n w t x a k p)
  where
    by : (b : Bool) → is_eq (text_cmp n m) ≡ b → (if b then Some v else field_at fs n) ≡ Some w → (field_at fs n ≡ Some w → fields_point fs t x a ≡ true) → fields_point (field m v fs) t x a ≡ true
    by true e k f =
        let same : v ≡ w = cc in
        or_left_true (points v (λ b. t (Field m ∷ b)) x a) (fields_point fs t x a) (rw (← same_text n m e) (rw same p))
    by false e k f = or_right_true (points v (λ b. t (Field m ∷ b)) x a) (fields_point fs t x a) (f k)
