-- Over the rounds: what paths reach is asked for, and nothing else.
use Rattle.std.proofs.Common.{◌≡◌, ◌⊎◌, ◌-◌, ◌<◌, ◌≤◌, ℕ, Bool, true, false, ◌&&◌, ◌||◌, List, [], ◌∷◌, ◌++◌, Option, Some, None, length, map, refl, sym, ap, ◌∙◌, subst, append_assoc, inl, inr, arith}
use Rattle.std.specs.Prelude.{max}
use Rattle.std.specs.List.{list_any}
use Rattle.std.specs.Option.{option_to_list}
use Rattle.std.proofs.Math.Nat.{le-max_left, le-max_right, max-le}
use Rattle.std.proofs.lemmas.List.{map-append}
use Rattle.std.proofs.lemmas.List.Folds.{list_any-append}
use Rattle.std.proofs.lemmas.Bool.{and_parts, and_from, or_cases}
use Rattle.policy_values.specs.declared.entity_uid.EntityUID.{EntityUID}
use Rattle.policy_values.specs.Uid.{uid_eq}
use Rattle.policy_values.specs.Value.{Val, entity, rec, Fields, field_at}
use Rattle.entity_store.specs.declared.request.Request.{Request}
use Rattle.entity_store.specs.Store.{StoredEntity, Store, entity_at}
use Rattle.access_tries.specs.declared.edge.Edge.TheVariants.{AnyTag, Root}
use Rattle.access_tries.specs.declared.edge.EntityRoot.{EntityRoot}
use Rattle.access_tries.specs.declared.table.Link.{Link}
use Rattle.access_tries.specs.Edges.{Address, edge_cmp, edge_eq}
use Rattle.access_tries.specs.Paths.{edge_of, address_of}
use Rattle.access_tries.specs.Table.{Table, links_at}
use Rattle.access_tries.specs.Views.{whole}
use Rattle.access_tries.specs.EdgeLaws.{exact_edge}
use Rattle.policy_values.specs.Ties.{equal_of}
use Rattle.reads_spec.specs.Paths.{Step, along, any_tag, AccessPath, beyond}
use Rattle.reads_spec.specs.Restrict.{root_value, values_in, step, step_in_entity, step_in_record, walk}
use Rattle.reads_spec.proofs.Lists.{IsIn, any_in, same_uid, uid_self, in_flat_map, flat_map_out}
use Rattle.plain_lemmas.proofs.Booleans.{or_false, or_left_true, or_right_true, or_weaker, true_of_or_false}
use Rattle.reads_spec.proofs.Words.{any_out}
use Rattle.reads_spec.proofs.Cuts.{walk_on}
use Rattle.entity_loading.specs.declared.place.Place.{Place}
use Rattle.entity_loading.specs.Answered.{answer_points}
use Rattle.entity_loading.specs.Begun.{root_points, roots_point}
use Rattle.entity_loading.specs.Leads.{RootLeads}
use Rattle.std.specs.Ordering.{is_eq}
use Rattle.std.specs.BTreeSet.{BTreeSet, contains}
use Rattle.entity_loading.proofs.PlaceSteps.{exact_place}
use Rattle.entity_loading.specs.Places.{place_cmp, IsPlaced, IsBelowSome, node_of}
use Rattle.entity_loading.specs.Needs.{Test, sees, needs, points, fields_point, entity_points, Adds}
use Rattle.entity_loading.specs.Reached.{IsReached, either_needs, IsExplored, IsAnswerLed, AreReachedAsked, AreThere}
use Rattle.entity_loading.proofs.SlicePointSteps.{points_more, points_any, field_points, entity_points_or, entity_points_none, entity_points_when}

-- the edges behind a path
pub behind_path : (p : AccessPath) (ns : List Step) (a : Address) → address_of (beyond p ns) ++ a ≡ address_of p ++ (map edge_of ns ++ a)
behind_path p ns a = ap (λ es. Root p.root ∷ (es ++ a)) (map-append edge_of p.steps ns) ∙ append_assoc (address_of p) (map edge_of ns) a

-- nothing is added where the store has no such entity
pub adds_none : (ns : Table) (p : Place) (o : Option StoredEntity) → None ≡ o → (ps : List Place) → Adds ns (answer_points o (node_of ns p)) ps ps
adds_none ns p o none ps = subst (λ z. Adds ns (answer_points z (node_of ns p)) ps ps) none (record { each = λ b x a. sym (or_false (needs b ns ps x a)) })

-- ---- one place

module _ (ns : Table) (q : Request) (s : Store) where
  -- a place that is reached, and its entity, which leads on
  reached_further : (p : Place) (b : Bool) (x : EntityUID) (a : Address) → ((c : Address) → sees b (node_of ns p) c ≡ true → IsReached b ns q s p.uid c)
      → (o : Option StoredEntity) → entity_at s p.uid ≡ o → IsAnswerLed (node_of ns p) o → answer_points o (node_of ns p) b x a ≡ true → IsReached b ns q s x a
  reached_further p b x a sound None at led h = absurd (cc)
  reached_further p b x a sound (Some e) at led h =
      let l = led b x a h in
      let more = l.first ∷ l.rest.steps in
      let r = sound (map edge_of more ++ a) l.rest.passes in
      let values : step s (entity p.uid) l.first ≡ step_in_entity (Some e) l.first = ap (λ o. step_in_entity o l.first) at in
      record {
        path = beyond r.path more;
        reached = walk_on s (root_value q r.path.root) (entity p.uid) (entity x) r.path.steps more r.reached
            (in_flat_map (λ w. walk s w l.rest.steps) l.value (entity x) (step s (entity p.uid) l.first) (subst (IsIn l.value) (sym values) l.among) (l.rest.reaches s));
        passes = ap (sees b (whole ns)) (behind_path r.path more a) ∙ r.passes;
      }

  module _ (reached rest next : List Place) (p : Place) (t : IsExplored ns q s reached ((p ∷ rest) ++ next)) where
    of_place : (b : Bool) (x : EntityUID) (a : Address) → (uid_eq p.uid x && sees b (node_of ns p) a) ≡ true → either_needs b ns reached ((p ∷ rest) ++ next) x a ≡ true
    of_place b x a h = or_right_true (needs b ns reached x a) (needs b ns ((p ∷ rest) ++ next) x a) (or_left_true (uid_eq p.uid x && sees b (node_of ns p) a) (needs b ns (rest ++ next) x a) h)

    of_rest : (b : Bool) (x : EntityUID) (a : Address) → needs b ns (rest ++ next) x a ≡ true → either_needs b ns reached ((p ∷ rest) ++ next) x a ≡ true
    of_rest b x a h = or_right_true (needs b ns reached x a) (needs b ns ((p ∷ rest) ++ next) x a) (or_right_true (uid_eq p.uid x && sees b (node_of ns p) a) (needs b ns (rest ++ next) x a) h)

    -- a place that was reached before
    pub explored_again : IsIn p reached → IsExplored ns q s reached (rest ++ next)
    explored_again there = record {
      begun = λ b r x a h. still b x a (t.begun b r x a h);
      followed = λ b y e at x a h. still b x a (t.followed b y e at x a h);
      sound = λ b x a h. t.sound b x a (or_weaker (needs b ns reached x a) (needs b ns (rest ++ next) x a) (needs b ns reached x a) (needs b ns ((p ∷ rest) ++ next) x a) (λ i. i) (or_right_true (uid_eq p.uid x && sees b (node_of ns p) a) (needs b ns (rest ++ next) x a)) h);
    }
      where
        by : (b : Bool) (x : EntityUID) (a : Address) → ((uid_eq p.uid x && sees b (node_of ns p) a) ≡ true) ⊎ (needs b ns (rest ++ next) x a ≡ true) → either_needs b ns reached (rest ++ next) x a ≡ true
        by b x a (inl i) = or_left_true (needs b ns reached x a) (needs b ns (rest ++ next) x a) (any_in (λ r. uid_eq r.uid x && sees b (node_of ns r) a) p reached there i)
        by b x a (inr i) = or_right_true (needs b ns reached x a) (needs b ns (rest ++ next) x a) i

        either : (b : Bool) (x : EntityUID) (a : Address) → (needs b ns reached x a ≡ true) ⊎ (needs b ns ((p ∷ rest) ++ next) x a ≡ true) → either_needs b ns reached (rest ++ next) x a ≡ true
        either b x a (inl i) = or_left_true (needs b ns reached x a) (needs b ns (rest ++ next) x a) i
        either b x a (inr i) = by b x a (or_cases (uid_eq p.uid x && sees b (node_of ns p) a) (needs b ns (rest ++ next) x a) i)

        still : (b : Bool) (x : EntityUID) (a : Address) → either_needs b ns reached ((p ∷ rest) ++ next) x a ≡ true → either_needs b ns reached (rest ++ next) x a ≡ true
        still b x a h = either b x a (or_cases (needs b ns reached x a) (needs b ns ((p ∷ rest) ++ next) x a) h)

    -- a place that is followed
    module _ (reached' next' : List Place) (placed : IsPlaced p reached reached') (adds : Adds ns (answer_points (entity_at s p.uid) (node_of ns p)) next next') (led : IsAnswerLed (node_of ns p) (entity_at s p.uid)) where
      of_next : (b : Bool) (x : EntityUID) (a : Address) → needs b ns next' x a ≡ true → either_needs b ns reached' (rest ++ next') x a ≡ true
      of_next b x a h = or_right_true (needs b ns reached' x a) (needs b ns (rest ++ next') x a) (list_any-append (λ r. uid_eq r.uid x && sees b (node_of ns r) a) rest next' ∙ or_right_true (needs b ns rest x a) (needs b ns next' x a) h)

      of_old : (b : Bool) (x : EntityUID) (a : Address) → needs b ns rest x a ≡ true → either_needs b ns reached' (rest ++ next') x a ≡ true
      of_old b x a h = or_right_true (needs b ns reached' x a) (needs b ns (rest ++ next') x a) (list_any-append (λ r. uid_eq r.uid x && sees b (node_of ns r) a) rest next' ∙ or_left_true (needs b ns rest x a) (needs b ns next' x a) h)

      needs_now : (b : Bool) (x : EntityUID) (a : Address) → needs b ns reached' x a ≡ (needs b ns reached x a || (uid_eq p.uid x && sees b (node_of ns p) a))
      needs_now b x a = placed.tests (λ r. uid_eq r.uid x && sees b (node_of ns r) a)

      reached_still : (b : Bool) (x : EntityUID) (a : Address) → ((needs b ns reached x a || (uid_eq p.uid x && sees b (node_of ns p) a)) ≡ true) → either_needs b ns reached' (rest ++ next') x a ≡ true
      reached_still b x a h = or_left_true (needs b ns reached' x a) (needs b ns (rest ++ next') x a) (needs_now b x a ∙ h)

      rest_still : (b : Bool) (x : EntityUID) (a : Address) → (needs b ns rest x a ≡ true) ⊎ (needs b ns next x a ≡ true) → either_needs b ns reached' (rest ++ next') x a ≡ true
      rest_still b x a (inl i) = of_old b x a i
      rest_still b x a (inr i) = of_next b x a (adds.each b x a ∙ or_left_true (needs b ns next x a) (answer_points (entity_at s p.uid) (node_of ns p) b x a) i)

      pending_still : (b : Bool) (x : EntityUID) (a : Address) → ((uid_eq p.uid x && sees b (node_of ns p) a) ≡ true) ⊎ (needs b ns (rest ++ next) x a ≡ true) → either_needs b ns reached' (rest ++ next') x a ≡ true
      pending_still b x a (inl i) = reached_still b x a (or_right_true (needs b ns reached x a) (uid_eq p.uid x && sees b (node_of ns p) a) i)
      pending_still b x a (inr i) = rest_still b x a (or_cases (needs b ns rest x a) (needs b ns next x a) (sym (list_any-append (λ r. uid_eq r.uid x && sees b (node_of ns r) a) rest next) ∙ i))

      more : (b : Bool) (x : EntityUID) (a : Address) → (needs b ns reached x a ≡ true) ⊎ (needs b ns ((p ∷ rest) ++ next) x a ≡ true) → either_needs b ns reached' (rest ++ next') x a ≡ true
      more b x a (inl i) = reached_still b x a (or_left_true (needs b ns reached x a) (uid_eq p.uid x && sees b (node_of ns p) a) i)
      more b x a (inr i) = pending_still b x a (or_cases (uid_eq p.uid x && sees b (node_of ns p) a) (needs b ns (rest ++ next) x a) i)

      still : (b : Bool) (x : EntityUID) (a : Address) → either_needs b ns reached ((p ∷ rest) ++ next) x a ≡ true → either_needs b ns reached' (rest ++ next') x a ≡ true
      still b x a h = more b x a (or_cases (needs b ns reached x a) (needs b ns ((p ∷ rest) ++ next) x a) h)

      -- what entities lead to that are reached now
      split : (b : Bool) (y : EntityUID) (e : StoredEntity) (x : EntityUID) (a : Address) → entity_points e (needs b ns reached' y) x a ≡ (entity_points e (needs b ns reached y) x a || (uid_eq p.uid y && entity_points e (sees b (node_of ns p)) x a))
      split b y e x a =
          ap (λ f. entity_points e f x a) (λ i c. needs_now b y c i)
          ∙ entity_points_or e (needs b ns reached y) (λ c. uid_eq p.uid y && sees b (node_of ns p) c) x a
          ∙ ap (λ c. entity_points e (needs b ns reached y) x a || c) (entity_points_when (uid_eq p.uid y) e (sees b (node_of ns p)) x a)

      new_followed : (b : Bool) (y : EntityUID) (e : StoredEntity) → entity_at s y ≡ Some e → (x : EntityUID) (a : Address) → (uid_eq p.uid y && entity_points e (sees b (node_of ns p)) x a) ≡ true → either_needs b ns reached' (rest ++ next') x a ≡ true
      new_followed b y e at x a h =
          let c = and_parts (uid_eq p.uid y) (entity_points e (sees b (node_of ns p)) x a) h in
          let here : entity_at s p.uid ≡ Some e = ap (entity_at s) (same_uid p.uid y c.0) ∙ at in
          of_next b x a (adds.each b x a ∙ or_right_true (needs b ns next x a) (answer_points (entity_at s p.uid) (node_of ns p) b x a) (ap (λ o. answer_points o (node_of ns p) b x a) here ∙ c.1))

      followed_now : (b : Bool) (y : EntityUID) (e : StoredEntity) → entity_at s y ≡ Some e → (x : EntityUID) (a : Address) → (entity_points e (needs b ns reached y) x a ≡ true) ⊎ ((uid_eq p.uid y && entity_points e (sees b (node_of ns p)) x a) ≡ true) → either_needs b ns reached' (rest ++ next') x a ≡ true
      followed_now b y e at x a (inl i) = still b x a (t.followed b y e at x a i)
      followed_now b y e at x a (inr i) = new_followed b y e at x a i

      -- whatever is asked for now is reached
      new_sound : (b : Bool) (x : EntityUID) (a : Address) → (needs b ns next x a ≡ true) ⊎ (answer_points (entity_at s p.uid) (node_of ns p) b x a ≡ true) → IsReached b ns q s x a
      new_sound b x a (inl i) = t.sound b x a (of_rest b x a (list_any-append (λ r. uid_eq r.uid x && sees b (node_of ns r) a) rest next ∙ or_right_true (needs b ns rest x a) (needs b ns next x a) i))
      new_sound b x a (inr i) = reached_further p b x a (λ c j. t.sound b p.uid c (of_place b p.uid c (and_from (uid_eq p.uid p.uid) (sees b (node_of ns p) c) (uid_self p.uid) j))) (entity_at s p.uid) refl led i

      rest_sound : (b : Bool) (x : EntityUID) (a : Address) → (needs b ns rest x a ≡ true) ⊎ (needs b ns next' x a ≡ true) → IsReached b ns q s x a
      rest_sound b x a (inl i) = t.sound b x a (of_rest b x a (list_any-append (λ r. uid_eq r.uid x && sees b (node_of ns r) a) rest next ∙ or_left_true (needs b ns rest x a) (needs b ns next x a) i))
      rest_sound b x a (inr i) = new_sound b x a (or_cases (needs b ns next x a) (answer_points (entity_at s p.uid) (node_of ns p) b x a) (sym (adds.each b x a) ∙ i))

      reached_sound : (b : Bool) (x : EntityUID) (a : Address) → (needs b ns reached x a ≡ true) ⊎ ((uid_eq p.uid x && sees b (node_of ns p) a) ≡ true) → IsReached b ns q s x a
      reached_sound b x a (inl i) = t.sound b x a (or_left_true (needs b ns reached x a) (needs b ns ((p ∷ rest) ++ next) x a) i)
      reached_sound b x a (inr i) = t.sound b x a (of_place b x a i)

      sound_now : (b : Bool) (x : EntityUID) (a : Address) → (needs b ns reached' x a ≡ true) ⊎ (needs b ns (rest ++ next') x a ≡ true) → IsReached b ns q s x a
      sound_now b x a (inl i) = reached_sound b x a (or_cases (needs b ns reached x a) (uid_eq p.uid x && sees b (node_of ns p) a) (sym (needs_now b x a) ∙ i))
      sound_now b x a (inr i) = rest_sound b x a (or_cases (needs b ns rest x a) (needs b ns next' x a) (sym (list_any-append (λ r. uid_eq r.uid x && sees b (node_of ns r) a) rest next') ∙ i))

      pub explored_more : IsExplored ns q s reached' (rest ++ next')
      explored_more = record {
        begun = λ b r x a h. still b x a (t.begun b r x a h);
        followed = λ b y e at x a h. followed_now b y e at x a (or_cases (entity_points e (needs b ns reached y) x a) (uid_eq p.uid y && entity_points e (sees b (node_of ns p)) x a) (sym (split b y e x a) ∙ h));
        sound = λ b x a h. sound_now b x a (or_cases (needs b ns reached' x a) (needs b ns (rest ++ next') x a) h);
      }

  -- ---- the start

  led_to : (b : Bool) (r : EntityRoot) (x : EntityUID) (a : Address) → points (root_value q r) (λ c. sees b (whole ns) (Root r ∷ c)) x a ≡ true → roots_point ns q b x a ≡ true
  led_to b r x a h = from (any_out (λ (l : Link). edge_eq l.edge (Root r) && points (root_value q r) (sees b (record { nodes = ns; number = l.number })) x a) (links_at ns 0) (sym (split b) ∙ h))
    where
      split : (c : Bool) → points (root_value q r) (λ d. sees c (whole ns) (Root r ∷ d)) x a ≡ list_any (λ (l : Link). edge_eq l.edge (Root r) && points (root_value q r) (sees c (record { nodes = ns; number = l.number })) x a) (links_at ns 0)
      split false = points_any (λ (l : Link). edge_eq l.edge (Root r)) (λ l. sees false (record { nodes = ns; number = l.number })) (links_at ns 0) (root_value q r) x a
      split true = points_any (λ (l : Link). edge_eq l.edge (Root r)) (λ l. sees true (record { nodes = ns; number = l.number })) (links_at ns 0) (root_value q r) x a

      from : (l : Link) × IsIn l (links_at ns 0) × ((edge_eq l.edge (Root r) && points (root_value q r) (sees b (record { nodes = ns; number = l.number })) x a) ≡ true) → roots_point ns q b x a ≡ true
      from (l, among, i) =
          let c = and_parts (edge_eq l.edge (Root r)) (points (root_value q r) (sees b (record { nodes = ns; number = l.number })) x a) i in
          let same = exact_edge l.edge (Root r) (equal_of (edge_cmp l.edge (Root r)) c.0) in
          any_in (λ (k : Link). root_points b (record { nodes = ns; number = k.number }) q k.edge x a) l (links_at ns 0) among (ap (λ e. root_points b (record { nodes = ns; number = l.number }) q e x a) same ∙ c.1)

  pub explored_start : (start : List Place) → Adds ns (roots_point ns q) [] start → ((b : Bool) (x : EntityUID) (a : Address) → roots_point ns q b x a ≡ true → RootLeads ns q b x a) → IsExplored ns q s [] start
  explored_start start adds led = record {
    begun = λ b r x a h. adds.each b x a ∙ led_to b r x a h;
    followed = λ b y e at x a h. let none = entity_points_none e x a in absurd (cc (none, h));
    sound = λ b x a h. from b x a (led b x a (sym (adds.each b x a) ∙ h));
  }
    where
      from : (b : Bool) (x : EntityUID) (a : Address) → RootLeads ns q b x a → IsReached b ns q s x a
      from b x a l = record { path = record { root = l.root; steps = l.rest.steps }; reached = l.rest.reaches s; passes = l.rest.passes }

  -- ---- the end

  module _ (reached : List Place) (t : IsExplored ns q s reached []) where
    at_last : (b : Bool) (x : EntityUID) (a : Address) → either_needs b ns reached [] x a ≡ true → needs b ns reached x a ≡ true
    at_last b x a h = true_of_or_false (needs b ns reached x a) h

    in_field : (b : Bool) (fs : Fields) (n : Step) (w : Val) (u : Test) → IsIn w (step_in_record fs n) → (x : EntityUID) (a : Address) → points w (λ c. u (edge_of n ∷ c)) x a ≡ true → fields_point fs u x a ≡ true
    in_field b fs any_tag w u h x a p = absurd h
    in_field b fs (along n) w u h x a p = by (field_at fs n) refl h
      where
        by : (o : Option Val) → field_at fs n ≡ o → IsIn w (option_to_list o) → fields_point fs u x a ≡ true
        by None at i = absurd i
        by (Some v) at (inl same) = field_points fs n w u x a (at ∙ ap Some same) p
        by (Some v) at (inr i) = absurd i

    in_entity : (b : Bool) (e : StoredEntity) (n : Step) (w : Val) (u : Test) → IsIn w (step_in_entity (Some e) n) → (x : EntityUID) (a : Address) → points w (λ c. u (edge_of n ∷ c)) x a ≡ true → entity_points e u x a ≡ true
    in_entity b e (along n) w u h x a p = or_left_true (fields_point e.attrs u x a) (list_any (λ v. points v (λ c. u (AnyTag ∷ c)) x a) (values_in e.tags)) (in_field b e.attrs (along n) w u h x a p)
    in_entity b e any_tag w u h x a p = or_right_true (fields_point e.attrs u x a) (list_any (λ v. points v (λ c. u (AnyTag ∷ c)) x a) (values_in e.tags)) (any_in (λ v. points v (λ c. u (AnyTag ∷ c)) x a) w (values_in e.tags) h p)

    -- all to which a value points was asked for, and so is all to which a value points that is one step on
    one_step : (b : Bool) (v : Val) (u : Test) → ((x : EntityUID) (a : Address) → points v u x a ≡ true → needs b ns reached x a ≡ true) → (n : Step) (w : Val) → IsIn w (step s v n)
        → (x : EntityUID) (a : Address) → points w (λ c. u (edge_of n ∷ c)) x a ≡ true → needs b ns reached x a ≡ true
    one_step b (rec fs) u f n w h x a p = f x a (in_field b fs n w u h x a p)
    one_step b (entity y) u f n w h x a p = by (entity_at s y) refl h
      where
        by : (o : Option StoredEntity) → entity_at s y ≡ o → IsIn w (step_in_entity o n) → needs b ns reached x a ≡ true
        by None at i = absurd i
        by (Some e) at i =
            at_last b x a (t.followed b y e at x a (in_entity b e n w (needs b ns reached y) i x a
            (points_more w (λ c. u (edge_of n ∷ c)) (λ c. needs b ns reached y (edge_of n ∷ c)) (λ c j. f y (edge_of n ∷ c) (and_from (uid_eq y y) (u (edge_of n ∷ c)) (uid_self y) j)) x a p)))
    one_step b v u f n w h x a p = absurd h

    walked : (b : Bool) (ms : List Step) (v : Val) (u : Test) → ((x : EntityUID) (a : Address) → points v u x a ≡ true → needs b ns reached x a ≡ true)
        → (x : EntityUID) (a : Address) → IsIn (entity x) (walk s v ms) → u (map edge_of ms ++ a) ≡ true → needs b ns reached x a ≡ true
    walked b [] v u f x a (inl same) p = f x a (rw same (and_from (uid_eq x x) (u a) (uid_self x) p))
    walked b [] v u f x a (inr h) p = absurd h
    walked b (n ∷ ms) v u f x a h p =
        let r = flat_map_out (λ w. walk s w ms) (entity x) (step s v n) h in
        walked b ms r.from (λ c. u (edge_of n ∷ c)) (one_step b v u f n r.from r.among) x a r.gives p

    pub all_reached : AreReachedAsked ns q s reached
    all_reached b x a = (
      λ h. t.sound b x a (or_left_true (needs b ns reached x a) false h),
      λ r. walked b r.path.steps (root_value q r.path.root) (λ c. sees b (whole ns) (Root r.path.root ∷ c)) (λ y c h. at_last b y c (t.begun b r.path.root y c h)) x a r.reached r.passes,
    )

-- ---- rounds end

-- the number of the nodes from the first on at which something is pending
abbrev pub height : ℕ → List Place → ℕ
height n [] = 0
height n (p ∷ ps) = max (n - p.number) (height n ps)

height_of : (n : ℕ) (p : Place) (ps : List Place) → IsIn p ps → n - p.number ≤ height n ps
height_of n p [] h = absurd h
height_of n p (z ∷ ps) (inl same) = rw same (le-max_left (n - p.number) (height n ps))
height_of n p (z ∷ ps) (inr h) = let later = height_of n p ps h in let more = le-max_right (n - z.number) (height n ps) in omega (arith, later, more)

height_within : (n k : ℕ) (ps : List Place) → ((p : Place) → IsIn p ps → n - p.number ≤ k) → height n ps ≤ k
height_within n k [] h = omega arith
height_within n k (p ∷ ps) h = max-le (h p (inl refl)) (height_within n k ps (λ q i. h q (inr i)))

-- later places leave less
pub lower : (ns : Table) (pending next : List Place) → 0 < length pending → AreThere ns pending → ((p : Place) → IsIn p next → IsBelowSome ns pending p) → height (length ns) next < height (length ns) pending
lower ns [] next some there below = absurd (omega (arith, some))
lower ns (z ∷ pending) next some there below =
    let first = height_of (length ns) z (z ∷ pending) (inl refl) in
    let in_table = there z (inl refl) in
    let least = height_within (length ns) (height (length ns) (z ∷ pending) - 1) next (λ p i. further p (below p i)) in
    omega (arith, first, in_table, least)
  where
    further : (p : Place) → IsBelowSome ns (z ∷ pending) p → length ns - p.number ≤ height (length ns) (z ∷ pending) - 1
    further p b = let later = b.below.later in let in_table = b.below.there in let most = height_of (length ns) b.from (z ∷ pending) b.among in omega (arith, later, in_table, most)

-- a place that a set has is among its places
pub among_places : (p : Place) (s : BTreeSet Place) → contains place_cmp s p ≡ true → IsIn p s.keys
among_places p s h =
    let a = any_out (λ q. is_eq (place_cmp p q)) s.keys h in
    subst (λ q. IsIn q s.keys) (sym (exact_place p a.0 (equal_of (place_cmp p a.0) a.2))) a.1
