-- Where values and entities lead, under tests and cuts.
use Rattle.std.proofs.Common.{◌≡◌, ◌⊎◌, ℕ, Bool, true, false, ◌&&◌, ◌||◌, List, [], ◌∷◌, ◌++◌, map, Some, refl, sym, ◌∙◌, inl, inr}
use Rattle.std.specs.Prelude.{if◌then◌else◌}
use Rattle.std.specs.List.{list_any}
use Rattle.std.specs.Ordering.{is_eq}
use Rattle.std.proofs.lemmas.Bool.{and_parts, and_from, or_cases, false≢true}
use Rattle.policy_values.specs.declared.entity_uid.EntityUID.{EntityUID}
use Rattle.policy_values.specs.Uid.{text_cmp, uid_eq}
use Rattle.entity_store.specs.Store.{StoredEntity}
use Rattle.policy_values.specs.Value.{Val, truth, long, string, entity, set, rec, decimal, ip, datetime, duration, Fields, no_fields, field, field_at}
use Rattle.access_tries.specs.declared.edge.Edge.TheVariants.{Field, AnyTag}
use Rattle.access_tries.specs.Edges.{Address}
use Rattle.access_tries.specs.Paths.{edge_of}
use Rattle.reads_spec.specs.Paths.{Chain, Step, along, any_tag, steps_of}
use Rattle.reads_spec.specs.Restrict.{cut, cut_fields, values_in}
use Rattle.reads_spec.proofs.Lists.{same_text}
use Rattle.plain_lemmas.proofs.Booleans.{and_over_or, or_exchange, or_left_true, or_right_true, or_weaker}
use Rattle.reads_spec.proofs.Order.{cases}
use Rattle.reads_spec.proofs.Words.{any_out}
use Rattle.entity_loading.proofs.PlacePointSteps.{fields_point_none, any_point_none}
use Rattle.entity_loading.specs.Needs.{Test, points, fields_point, entity_points}

-- ---- either test

module _ (x : EntityUID) (a : Address) where
  mutual
    pub points_or : (v : Val) (t u : Test) → points v (λ b. t b || u b) x a ≡ (points v t x a || points v u x a)
    points_or (entity y) t u = and_over_or (uid_eq y x) (t a) (u a)
    points_or (rec fs) t u = fields_or fs t u
    points_or (truth b) t u = refl
    points_or (long b) t u = refl
    points_or (string b) t u = refl
    points_or (set b) t u = refl
    points_or (decimal b) t u = refl
    points_or (ip b) t u = refl
    points_or (datetime b) t u = refl
    points_or (duration b) t u = refl

    fields_or : (fs : Fields) (t u : Test) → fields_point fs (λ b. t b || u b) x a ≡ (fields_point fs t x a || fields_point fs u x a)
    fields_or no_fields t u = refl
    fields_or (field n v fs) t u =
        (λ i. points_or v (λ b. t (Field n ∷ b)) (λ b. u (Field n ∷ b)) i || fields_or fs t u i)
        ∙ or_exchange (points v (λ b. t (Field n ∷ b)) x a) (points v (λ b. u (Field n ∷ b)) x a) (fields_point fs t x a) (fields_point fs u x a)

  any_or : (vs : List Val) (t u : Test) → list_any (λ v. points v (λ b. t b || u b) x a) vs ≡ (list_any (λ v. points v t x a) vs || list_any (λ v. points v u x a) vs)
  any_or [] t u = refl
  any_or (v ∷ vs) t u =
      (λ i. points_or v t u i || any_or vs t u i) ∙ or_exchange (points v t x a) (points v u x a) (list_any (λ w. points w t x a) vs) (list_any (λ w. points w u x a) vs)

  pub entity_or : (e : StoredEntity) (t u : Test) → entity_points e (λ b. t b || u b) x a ≡ (entity_points e t x a || entity_points e u x a)
  entity_or e t u =
      (λ i. fields_or e.attrs t u i || any_or (values_in e.tags) (λ b. t (AnyTag ∷ b)) (λ b. u (AnyTag ∷ b)) i)
      ∙ or_exchange (fields_point e.attrs t x a) (fields_point e.attrs u x a) (list_any (λ v. points v (λ b. t (AnyTag ∷ b)) x a) (values_in e.tags)) (list_any (λ v. points v (λ b. u (AnyTag ∷ b)) x a) (values_in e.tags))

  entity_none : (e : StoredEntity) → entity_points e (λ b. false) x a ≡ false
  entity_none e = (λ i. fields_point_none e.attrs x a i || any_point_none (values_in e.tags) x a i)

  entity_and : (e : StoredEntity) (c : Bool) (t : Test) → entity_points e (λ b. c && t b) x a ≡ (c && entity_points e t x a)
  entity_and e true t = refl
  entity_and e false t = entity_none e

  -- some of several tests, each where something holds
  pub entity_any : {P : Type 0} (e : StoredEntity) (c : P → Bool) (f : P → Test) (ps : List P) → entity_points e (λ b. list_any (λ p. c p && f p b) ps) x a ≡ list_any (λ p. c p && entity_points e (f p) x a) ps
  entity_any e c f [] = entity_none e
  entity_any e c f (p ∷ ps) =
      entity_or e (λ b. c p && f p b) (λ b. list_any (λ q. c q && f q b) ps) ∙ (λ i. entity_and e (c p) (f p) i || entity_any e c f ps i)

-- ---- more tests

module _ (x : EntityUID) (a : Address) where
  mutual
    pub points_more : (v : Val) (t u : Test) → ((b : Address) → t b ≡ true → u b ≡ true) → points v t x a ≡ true → points v u x a ≡ true
    points_more (entity y) t u f h = let p = and_parts (uid_eq y x) (t a) h in and_from (uid_eq y x) (u a) p.0 (f a p.1)
    points_more (rec fs) t u f h = fields_more fs t u f h
    points_more (truth b) t u f h = h
    points_more (long b) t u f h = h
    points_more (string b) t u f h = h
    points_more (set b) t u f h = h
    points_more (decimal b) t u f h = h
    points_more (ip b) t u f h = h
    points_more (datetime b) t u f h = h
    points_more (duration b) t u f h = h

    pub fields_more : (fs : Fields) (t u : Test) → ((b : Address) → t b ≡ true → u b ≡ true) → fields_point fs t x a ≡ true → fields_point fs u x a ≡ true
    fields_more no_fields t u f h = h
    fields_more (field n v fs) t u f h =
        or_weaker (points v (λ b. t (Field n ∷ b)) x a) (fields_point fs t x a) (points v (λ b. u (Field n ∷ b)) x a) (fields_point fs u x a)
        (points_more v (λ b. t (Field n ∷ b)) (λ b. u (Field n ∷ b)) (λ b. f (Field n ∷ b))) (fields_more fs t u f) h

  -- a value leads on only where steps pass, with the address behind them
  abbrev pub Passes : Test → Type 0
  Passes t = (ms : List Step) × (t (map edge_of ms ++ a) ≡ true)

  mutual
    points_some : (v : Val) (t : Test) → points v t x a ≡ true → Passes t
    points_some (entity y) t h = ([], (and_parts (uid_eq y x) (t a) h).1)
    points_some (rec fs) t h = fields_some fs t h
    points_some (truth b) t h = absurd (false≢true h)
    points_some (long b) t h = absurd (false≢true h)
    points_some (string b) t h = absurd (false≢true h)
    points_some (set b) t h = absurd (false≢true h)
    points_some (decimal b) t h = absurd (false≢true h)
    points_some (ip b) t h = absurd (false≢true h)
    points_some (datetime b) t h = absurd (false≢true h)
    points_some (duration b) t h = absurd (false≢true h)

    fields_some : (fs : Fields) (t : Test) → fields_point fs t x a ≡ true → Passes t
    fields_some no_fields t h = absurd (false≢true h)
    fields_some (field n v fs) t h = either (or_cases (points v (λ b. t (Field n ∷ b)) x a) (fields_point fs t x a) h) (points_some v (λ b. t (Field n ∷ b))) (fields_some fs t)
      where
        either : (points v (λ b. t (Field n ∷ b)) x a ≡ true) ⊎ (fields_point fs t x a ≡ true) → (points v (λ b. t (Field n ∷ b)) x a ≡ true → Passes (λ b. t (Field n ∷ b))) → (fields_point fs t x a ≡ true → Passes t) → Passes t
        either (inl i) f g = let r = f i in (along n ∷ r.0, r.1)
        either (inr i) f g = g i

  -- and so does an entity
  pub entity_some : (e : StoredEntity) (t : Test) → entity_points e t x a ≡ true → Passes t
  entity_some e t h = elim (or_cases (fields_point e.attrs t x a) (list_any (λ v. points v (λ b. t (AnyTag ∷ b)) x a) (values_in e.tags)) h) [
    | inl i ↦ fields_some e.attrs t i
    | inr i ↦
        let v = any_out (λ v. points v (λ b. t (AnyTag ∷ b)) x a) (values_in e.tags) i in
        let r = points_some v.0 (λ b. t (AnyTag ∷ b)) v.2 in
        (any_tag ∷ r.0, r.1)
  ]

  -- ---- cuts: a part leads to all, where it has each chain that goes on to pass
  abbrev pub Enough : (Chain → Bool) → Test → Type 0
  Enough k t = (c : Chain) (b : Address) → t (map edge_of (steps_of c) ++ b) ≡ true → k c ≡ true

  mutual
    value_kept : (v : Val) (k : Chain → Bool) (t : Test) → Enough k t → points v t x a ≡ true → points (cut v k) t x a ≡ true
    value_kept (entity y) k t e h = h
    value_kept (rec fs) k t e h = fields_kept fs k t (λ n c b. e (n ∷ c) b) h
    value_kept (truth b) k t e h = h
    value_kept (long b) k t e h = h
    value_kept (string b) k t e h = h
    value_kept (set b) k t e h = h
    value_kept (decimal b) k t e h = h
    value_kept (ip b) k t e h = h
    value_kept (datetime b) k t e h = h
    value_kept (duration b) k t e h = h

    pub fields_kept : (fs : Fields) (k : Chain → Bool) (t : Test) → ((n : List ℕ) (c : Chain) (b : Address) → t (Field n ∷ (map edge_of (steps_of c) ++ b)) ≡ true → k (n ∷ c) ≡ true) → fields_point fs t x a ≡ true → fields_point (cut_fields fs k) t x a ≡ true
    fields_kept no_fields k t e h = h
    fields_kept (field n v fs) k t e h =
        by (cases (k (n ∷ []))) (or_cases (points v (λ b. t (Field n ∷ b)) x a) (fields_point fs t x a) h)
        (value_kept v (λ c. k (n ∷ c)) (λ b. t (Field n ∷ b)) (λ c b. e n c b)) (fields_kept fs k t e)
      where
        by : (k (n ∷ []) ≡ true) ⊎ (k (n ∷ []) ≡ false) → (points v (λ b. t (Field n ∷ b)) x a ≡ true) ⊎ (fields_point fs t x a ≡ true)
            → (points v (λ b. t (Field n ∷ b)) x a ≡ true → points (cut v (λ c. k (n ∷ c))) (λ b. t (Field n ∷ b)) x a ≡ true) → (fields_point fs t x a ≡ true → fields_point (cut_fields fs k) t x a ≡ true)
            → fields_point (cut_fields (field n v fs) k) t x a ≡ true
        by (inl i) (inl j) f g = rw i (or_left_true (points (cut v (λ c. k (n ∷ c))) (λ b. t (Field n ∷ b)) x a) (fields_point (cut_fields fs k) t x a) (f j))
        by (inl i) (inr j) f g = rw i (or_right_true (points (cut v (λ c. k (n ∷ c))) (λ b. t (Field n ∷ b)) x a) (fields_point (cut_fields fs k) t x a) (g j))
        by (inr i) (inl j) f g = let r = points_some v (λ b. t (Field n ∷ b)) j in absurd (false≢true (sym i ∙ e n [] (map edge_of r.0 ++ a) r.1))
        by (inr i) (inr j) f g = rw i (g j)

  -- the same of tags
  pub tags_kept : (fs : Fields) (k : Chain → Bool) (t : Test) → ((n : List ℕ) → Enough (λ c. k (n ∷ c)) t) → list_any (λ v. points v t x a) (values_in fs) ≡ true → list_any (λ v. points v t x a) (values_in (cut_fields fs k)) ≡ true
  tags_kept no_fields k t e h = h
  tags_kept (field n v fs) k t e h =
      by (cases (k (n ∷ []))) (or_cases (points v t x a) (list_any (λ w. points w t x a) (values_in fs)) h) (value_kept v (λ c. k (n ∷ c)) t (e n)) (tags_kept fs k t e)
    where
      by : (k (n ∷ []) ≡ true) ⊎ (k (n ∷ []) ≡ false) → (points v t x a ≡ true) ⊎ (list_any (λ w. points w t x a) (values_in fs) ≡ true)
          → (points v t x a ≡ true → points (cut v (λ c. k (n ∷ c))) t x a ≡ true) → (list_any (λ w. points w t x a) (values_in fs) ≡ true → list_any (λ w. points w t x a) (values_in (cut_fields fs k)) ≡ true)
          → list_any (λ w. points w t x a) (values_in (cut_fields (field n v fs) k)) ≡ true
      by (inl i) (inl j) f g = rw i (or_left_true (points (cut v (λ c. k (n ∷ c))) t x a) (list_any (λ w. points w t x a) (values_in (cut_fields fs k))) (f j))
      by (inl i) (inr j) f g = rw i (or_right_true (points (cut v (λ c. k (n ∷ c))) t x a) (list_any (λ w. points w t x a) (values_in (cut_fields fs k))) (g j))
      by (inr i) (inl j) f g = let r = points_some v t j in absurd (false≢true (sym i ∙ e n [] (map edge_of r.0 ++ a) r.1))
      by (inr i) (inr j) f g = rw i (g j)

  -- a part leads nowhere else
  mutual
    value_cut : (v : Val) (k : Chain → Bool) (t : Test) → points (cut v k) t x a ≡ true → points v t x a ≡ true
    value_cut (entity y) k t h = h
    value_cut (rec fs) k t h = fields_cut fs k t h
    value_cut (truth b) k t h = h
    value_cut (long b) k t h = h
    value_cut (string b) k t h = h
    value_cut (set b) k t h = h
    value_cut (decimal b) k t h = h
    value_cut (ip b) k t h = h
    value_cut (datetime b) k t h = h
    value_cut (duration b) k t h = h

    pub fields_cut : (fs : Fields) (k : Chain → Bool) (t : Test) → fields_point (cut_fields fs k) t x a ≡ true → fields_point fs t x a ≡ true
    fields_cut no_fields k t h = h
    fields_cut (field n v fs) k t h = by (k (n ∷ [])) h (value_cut v (λ c. k (n ∷ c)) (λ b. t (Field n ∷ b))) (fields_cut fs k t)
      where
        by : (b : Bool) → fields_point (if b then field n (cut v (λ c. k (n ∷ c))) (cut_fields fs k) else cut_fields fs k) t x a ≡ true
            → (points (cut v (λ c. k (n ∷ c))) (λ b. t (Field n ∷ b)) x a ≡ true → points v (λ b. t (Field n ∷ b)) x a ≡ true) → (fields_point (cut_fields fs k) t x a ≡ true → fields_point fs t x a ≡ true)
            → (points v (λ b. t (Field n ∷ b)) x a || fields_point fs t x a) ≡ true
        by true g p q = or_weaker (points (cut v (λ c. k (n ∷ c))) (λ b. t (Field n ∷ b)) x a) (fields_point (cut_fields fs k) t x a) (points v (λ b. t (Field n ∷ b)) x a) (fields_point fs t x a) p q g
        by false g p q = or_right_true (points v (λ b. t (Field n ∷ b)) x a) (fields_point fs t x a) (q g)

  pub tags_cut : (fs : Fields) (k : Chain → Bool) (t : Test) → list_any (λ v. points v t x a) (values_in (cut_fields fs k)) ≡ true → list_any (λ v. points v t x a) (values_in fs) ≡ true
  tags_cut no_fields k t h = h
  tags_cut (field n v fs) k t h = by (k (n ∷ [])) h (value_cut v (λ c. k (n ∷ c)) t) (tags_cut fs k t)
    where
      by : (b : Bool) → list_any (λ w. points w t x a) (values_in (if b then field n (cut v (λ c. k (n ∷ c))) (cut_fields fs k) else cut_fields fs k)) ≡ true
          → (points (cut v (λ c. k (n ∷ c))) t x a ≡ true → points v t x a ≡ true) → (list_any (λ w. points w t x a) (values_in (cut_fields fs k)) ≡ true → list_any (λ w. points w t x a) (values_in fs) ≡ true)
          → (points v t x a || list_any (λ w. points w t x a) (values_in fs)) ≡ true
      by true g p q = or_weaker (points (cut v (λ c. k (n ∷ c))) t x a) (list_any (λ w. points w t x a) (values_in (cut_fields fs k))) (points v t x a) (list_any (λ w. points w t x a) (values_in fs)) p q g
      by false g p q = or_right_true (points v t x a) (list_any (λ w. points w t x a) (values_in fs)) (q g)

  -- from a field that is there
  pub in_fields : (fs : Fields) (t : Test) (n : List ℕ) (v : Val) → field_at fs n ≡ Some v → points v (λ b. t (Field n ∷ b)) x a ≡ true → fields_point fs t x a ≡ true
  in_fields no_fields t n v e h = absurd (cc)
  in_fields (field m w fs) t n v e h = by (is_eq (text_cmp n m)) refl e (in_fields fs t n v)
    where
      by : (b : Bool) → is_eq (text_cmp n m) ≡ b → (if b then Some w else field_at fs n) ≡ Some v → (field_at fs n ≡ Some v → points v (λ b. t (Field n ∷ b)) x a ≡ true → fields_point fs t x a ≡ true) → fields_point (field m w fs) t x a ≡ true
      by true f g ih = let same : w ≡ v = cc in or_left_true (points w (λ b. t (Field m ∷ b)) x a) (fields_point fs t x a) (rw (same, ← same_text n m f) h)
      by false f g ih = or_right_true (points w (λ b. t (Field m ∷ b)) x a) (fields_point fs t x a) (ih g h)
