-- A round goes on: nothing is missed, and nothing else is asked for.
use Rattle.std.proofs.Common.{◌≡◌, ◌<◌, length, Bool, true, false, ◌&&◌, ◌||◌, List, [], ◌∷◌, map, Option, Some, None, refl, sym, ap, ◌∙◌, subst, inl, inr}
use Rattle.std.specs.List.{list_any}
use Rattle.std.proofs.lemmas.Bool.{and_parts, and_from, or_cases, false≢true}
use Rattle.policy_values.specs.declared.entity_uid.EntityUID.{EntityUID}
use Rattle.policy_values.specs.Uid.{uid_eq}
use Rattle.entity_store.specs.declared.request.Request.{Request}
use Rattle.entity_store.specs.Store.{StoredEntity, Store, entity_at}
use Rattle.access_tries.specs.declared.edge.Edge.TheVariants.{AnyTag}
use Rattle.access_tries.specs.Edges.{Address}
use Rattle.access_tries.specs.Paths.{edge_of}
use Rattle.access_tries.specs.Table.{Table}
use Rattle.reads_spec.specs.Paths.{steps_of}
use Rattle.reads_spec.specs.Restrict.{values_in}
use Rattle.reads_spec.proofs.Lists.{IsIn, any_in, same_uid, uid_self}
use Rattle.plain_lemmas.proofs.Booleans.{or_left_true, or_right_true, or_weaker}
use Rattle.reads_spec.proofs.Words.{any_out}
use Rattle.entity_loading.specs.Answered.{answer_points, answers_point}
use Rattle.entity_loading.specs.Begun.{roots_point}
use Rattle.entity_loading.specs.Leads.{RootLeads}
use Rattle.entity_loading.specs.Places.{node_of}
use Rattle.entity_loading.specs.Needs.{Adds, sees, needs, points, fields_point, entity_points}
use Rattle.entity_loading.specs.declared.place.Place.{Place}
use Rattle.entity_loader.specs.Answers.{IsHonest}
use Rattle.entity_loader.specs.declared.loader.EntityRequest.{EntityRequest}
use Rattle.entity_loading.specs.Keeping.{Found}
use Rattle.entity_loading.specs.Ordered.{HasOrder}
use Rattle.entity_loading.specs.Reached.{IsReached}
use Rattle.entity_loading.specs.Rounds.{AsksFor, AreHonestAt, IsRound, IsComplete, IsSound}
use Rattle.std.specs.Option.{option_map}
use Rattle.entity_loading.specs.KeptPart.{IsState, IsBegun, IsLoaded, AreAlike, along}
use Rattle.entity_store.specs.FromParents.{without_links}
use Rattle.entity_loading.proofs.KeptSteps.{kept_more, kept_start}
use Rattle.entity_loading.proofs.PointSteps.{entity_or, entity_any, fields_kept, tags_kept, fields_cut, tags_cut}
use Rattle.entity_loading.proofs.ReachSteps.{prefix_leads, start_reached, entity_leads, further_reached, reached_asked}

module _ (exact : Bool) (s : Store) (ns : Table) (ps : List Place) (found : Found) (t : AreHonestAt exact s ns ps found) where
  -- a place whose entity leads there
  record From (b : Bool) (y x : EntityUID) (a : Address) (e : StoredEntity) : Type 0 where
    place : Place
    among : IsIn place ps
    id : uid_eq place.uid y ≡ true
    leads : entity_points e (sees b (node_of ns place)) x a ≡ true

  from_of : (b : Bool) (y x : EntityUID) (a : Address) (e : StoredEntity) → entity_points e (needs b ns ps y) x a ≡ true → From b y x a e
  from_of b y x a e h =
      let r = any_out (λ p. uid_eq p.uid y && entity_points e (sees b (node_of ns p)) x a) ps (sym (entity_any x a e (λ p. uid_eq p.uid y) (λ p. sees b (node_of ns p)) ps) ∙ h) in
      let c = and_parts (uid_eq r.0.uid y) (entity_points e (sees b (node_of ns r.0)) x a) r.2 in
      record { place = r.0; among = r.1; id = c.0; leads = c.1 }

  needed : (b : Bool) (p : Place) → IsIn p ps → (a : Address) → sees b (node_of ns p) a ≡ true → needs b ns ps p.uid a ≡ true
  needed b p i a h = any_in (λ q. uid_eq q.uid p.uid && sees b (node_of ns q) a) p ps i (and_from (uid_eq p.uid p.uid) (sees b (node_of ns p) a) (uid_self p.uid) h)

  asked_for : (p : Place) → IsIn p ps → list_any (λ q. uid_eq q.uid p.uid) ps ≡ true
  asked_for p i = any_in (λ q. uid_eq q.uid p.uid) p ps i (uid_self p.uid)

  -- an honest answer leads wherever the entity of the store does
  given_leads : (b : Bool) (p : Place) → IsIn p ps → (e : StoredEntity) → entity_at s p.uid ≡ Some e → (x : EntityUID) (a : Address) → entity_points e (sees b (node_of ns p)) x a ≡ true
      → (r : EntityRequest) → AsksFor ns ps p.uid r → (o : Option StoredEntity) → IsHonest exact s r o → answer_points o (node_of ns p) b x a ≡ true
  given_leads b p i e at_e x a h r asks None g = let none : entity_at s p.uid ≡ None = ap (entity_at s) (sym asks.id) ∙ g in absurd (cc (none, at_e))
  given_leads b p i e at_e x a h r asks (Some d) g =
      let stored : Some g.stored ≡ Some e = sym (ap (entity_at s) (sym asks.id) ∙ g.at) ∙ at_e in
      let same : g.stored ≡ e = cc in
      subst (λ z. entity_points z (sees b (node_of ns p)) x a ≡ true) (sym g.is)
      (or_weaker (fields_point g.stored.attrs (sees b (node_of ns p)) x a) (list_any (λ v. points v (λ c. sees b (node_of ns p) (AnyTag ∷ c)) x a) (values_in g.stored.tags)) _ _
      (fields_kept x a g.stored.attrs (g.keep.chains g.stored.uid) (sees b (node_of ns p))
      (λ n c k j. g.chains (n ∷ c) (asks.each false (map edge_of (steps_of (n ∷ c))) ∙ needed false p i (map edge_of (steps_of (n ∷ c))) (prefix_leads b ns p.number (map edge_of (steps_of (n ∷ c))) k j))))
      (tags_kept x a g.stored.tags (g.keep.tags g.stored.uid) (λ c. sees b (node_of ns p) (AnyTag ∷ c))
      (λ n c k j. g.tags (n ∷ c) (asks.each false (AnyTag ∷ map edge_of (steps_of c)) ∙ needed false p i (AnyTag ∷ map edge_of (steps_of c)) (prefix_leads b ns p.number (AnyTag ∷ map edge_of (steps_of c)) k j))))
      (subst (λ z. entity_points z (sees b (node_of ns p)) x a ≡ true) (sym same) h))

  -- and nowhere else
  given_led : (b : Bool) (p : Place) (x : EntityUID) (a : Address) (r : EntityRequest) → AsksFor ns ps p.uid r → (o : Option StoredEntity) → IsHonest exact s r o → answer_points o (node_of ns p) b x a ≡ true
      → (e : StoredEntity) × (entity_at s p.uid ≡ Some e) × (entity_points e (sees b (node_of ns p)) x a ≡ true)
  given_led b p x a r asks None g h = absurd (false≢true h)
  given_led b p x a r asks (Some d) g h = (
    g.stored,
    ap (entity_at s) (sym asks.id) ∙ g.at,
    or_weaker _ _ (fields_point g.stored.attrs (sees b (node_of ns p)) x a) (list_any (λ v. points v (λ c. sees b (node_of ns p) (AnyTag ∷ c)) x a) (values_in g.stored.tags))
        (fields_cut x a g.stored.attrs (g.keep.chains g.stored.uid) (sees b (node_of ns p)))
        (tags_cut x a g.stored.tags (g.keep.tags g.stored.uid) (λ c. sees b (node_of ns p) (AnyTag ∷ c)))
        (subst (λ z. entity_points z (sees b (node_of ns p)) x a ≡ true) g.is h),
  )

  answers_lead : (b : Bool) (y : EntityUID) (e : StoredEntity) → entity_at s y ≡ Some e → (x : EntityUID) (a : Address) → entity_points e (needs b ns ps y) x a ≡ true → answers_point ns found ps b x a ≡ true
  answers_lead b y e at_e x a h =
      let f = from_of b y x a e h in
      let r = t.each f.place.uid (asked_for f.place f.among) in
      any_in (λ p. answer_points (found p.uid) (node_of ns p) b x a) f.place ps f.among
      (given_leads b f.place f.among e (ap (entity_at s) (same_uid f.place.uid y f.id) ∙ at_e) x a f.leads r.0 r.1 (found f.place.uid) r.2)

  module _ (next asked after : List Place) (q : Request) (adds : Adds ns (answers_point ns found ps) [] next) (noted : (b : Bool) (x : EntityUID) (a : Address) → needs b ns after x a ≡ (needs b ns asked x a || needs b ns ps x a)) where
    pub complete_next : IsComplete ns q s asked ps → IsComplete ns q s after next
    complete_next c = record {
      begun = λ b x a h. or_left_true (needs b ns after x a) (needs b ns next x a) (noted b x a ∙ c.begun b x a h);
      followed = λ b y e at_e x a h. elim (or_cases (entity_points e (needs b ns asked y) x a) (entity_points e (needs b ns ps y) x a) (sym (split b y e x a) ∙ h)) [
        | inl i ↦ or_left_true (needs b ns after x a) (needs b ns next x a) (noted b x a ∙ c.followed b y e at_e x a i)
        | inr i ↦ or_right_true (needs b ns after x a) (needs b ns next x a) (adds.each b x a ∙ answers_lead b y e at_e x a i)
      ];
    }
      where
        split : (b : Bool) (y : EntityUID) (e : StoredEntity) (x : EntityUID) (a : Address) → entity_points e (needs b ns after y) x a ≡ (entity_points e (needs b ns asked y) x a || entity_points e (needs b ns ps y) x a)
        split b y e x a = ap (λ u. entity_points e u x a) (λ i c. noted b y c i) ∙ entity_or x a e (needs b ns asked y) (needs b ns ps y)

    pub sound_next : HasOrder s → IsSound ns q s asked ps → IsSound ns q s after next
    sound_next order k = record {
      reached = λ b x a h. elim (or_cases (needs b ns after x a) (needs b ns next x a) h) [
        | inl i ↦ k.reached b x a (sym (noted b x a) ∙ i)
        | inr i ↦ from_answer b x a (sym (adds.each b x a) ∙ i)
      ];
    }
      where
        from_answer : (b : Bool) (x : EntityUID) (a : Address) → answers_point ns found ps b x a ≡ true → IsReached b ns q s x a
        from_answer b x a h =
            let r = any_out (λ p. answer_points (found p.uid) (node_of ns p) b x a) ps h in
            let g = t.each r.0.uid (asked_for r.0 r.1) in
            let e = given_led b r.0 x a g.0 g.1 (found r.0.uid) g.2 r.2 in
            further_reached b ns q s r.0.uid x (sees b (node_of ns r.0)) a (entity_leads s r.0.uid e.0 (sees b (node_of ns r.0)) x a e.1 (order.each r.0.uid e.0 e.1) e.2)
            (λ c j. k.reached b r.0.uid c (or_right_true (needs b ns asked r.0.uid c) (needs b ns ps r.0.uid c) (needed b r.0 r.1 c j)))

-- before the first round
module _ (ns : Table) (q : Request) (s : Store) (start : List Place) (adds : Adds ns (roots_point ns q) [] start) where
  pub complete_start : IsComplete ns q s [] start
  complete_start = record { begun = λ b x a h. adds.each b x a ∙ h; followed = λ b y e at_e x a h. absurd (nothing_asked b y e x a h) }
    where
      nothing_asked : (b : Bool) (y : EntityUID) (e : StoredEntity) (x : EntityUID) (a : Address) → entity_points e (needs b ns [] y) x a ≡ true → ⊥
      nothing_asked b y e x a h = false≢true (sym (entity_any x a e (λ p. uid_eq p.uid y) (λ p. sees b (node_of ns p)) []) ∙ h)

  pub sound_start : ((b : Bool) (x : EntityUID) (a : Address) → roots_point ns q b x a ≡ true → RootLeads ns q b x a) → IsSound ns q s [] start
  sound_start leads = record { reached = λ b x a h. start_reached b ns q s x a (leads b x a (sym (adds.each b x a) ∙ h)) }

-- after the last round what is reached is what was asked for
pub asked_reached : (ns : Table) (q : Request) (s : Store) (asked : List Place) → IsComplete ns q s asked [] → (b : Bool) (x : EntityUID) (a : Address) → IsReached b ns q s x a → needs b ns asked x a ≡ true
asked_reached ns q s asked c b x a r =
    reached_asked b ns q s asked (λ y e at_e z d h. alone (needs b ns asked z d) (c.followed b y e at_e z d h)) (λ z d h. alone (needs b ns asked z d) (c.begun b z d h)) x a r
  where
    alone : (p : Bool) → (p || false) ≡ true → p ≡ true
    alone true h = refl
    alone false h = h

-- ---- one round more

pub state_next : (exact : Bool) (ns : Table) (q : Request) (s : Store) (start asked ps next after : List Place) (old new : Found) → IsBegun ns q s start → IsState exact ns q s asked ps old → IsRound exact s ns ps old new next
    → ((p : Place) → IsIn p ps → p.number < length ns) → ((b : Bool) (x : EntityUID) (a : Address) → needs b ns after x a ≡ (needs b ns asked x a || needs b ns ps x a)) → IsState exact ns q s after next new
state_next exact ns q s start asked ps next after old new begun t r there noted = record {
  complete = complete_next exact s ns ps r.found r.honest next asked after q r.asked noted t.complete;
  sound = sound_next exact s ns ps r.found r.honest next asked after q r.asked noted begun.order t.sound;
  part = kept_more exact s ns ps r.found r.honest there begun.order asked old t.part new after r.kept noted;
}

pub state_start : (exact : Bool) (ns : Table) (q : Request) (s : Store) (start : List Place) (old : Found) → IsBegun ns q s start → ((x : EntityUID) → old x ≡ None) → IsState exact ns q s [] start old
state_start exact ns q s start old begun none = record {
  complete = complete_start ns q s start begun.asked;
  sound = sound_start ns q s start begun.asked begun.leads;
  part = kept_start exact s ns old none;
}

-- what is loaded, where what is found is alike what is kept
pub loaded : (exact : Bool) (ns : Table) (q : Request) (s found : Store) (asked : List Place) (kept : Found) → IsState exact ns q s asked [] kept → AreAlike (entity_at found) kept → IsLoaded exact ns q s found
loaded exact ns q s found asked kept t alike = record {
  choice = t.part.choice;
  is = λ x. alike x ∙ ap (option_map without_links) (t.part.is x);
  chains = λ x c r. t.part.chains x c (asked_reached ns q s asked t.complete false x (along c) r);
  tags = λ x n c r. t.part.tags x n c (asked_reached ns q s asked t.complete false x (AnyTag ∷ along c) r);
  only_chains = λ e x c h. t.sound.reached false x (along c) (or_left_true (needs false ns asked x (along c)) (needs false ns [] x (along c)) (t.part.only_chains e x c h));
  only_tags = λ e x n c h. t.sound.reached false x (AnyTag ∷ along c) (or_left_true (needs false ns asked x (AnyTag ∷ along c)) (needs false ns [] x (AnyTag ∷ along c)) (t.part.only_tags e x n c h));
}
