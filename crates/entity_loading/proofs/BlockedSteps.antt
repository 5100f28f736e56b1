-- What blocks, by one address.
use Rattle.std.proofs.Common.{◌≡◌, ◌⊎◌, ℕ, Bool, true, false, ◌&&◌, List, [], ◌∷◌, Option, Some, None, map, refl, sym, ap, ◌∙◌, subst, inl, inr}
use Rattle.std.proofs.lemmas.Bool.{and_parts, and_from}
use Rattle.policy_values.specs.declared.entity_uid.EntityUID.{EntityUID}
use Rattle.policy_values.specs.Uid.{uid_eq}
use Rattle.entity_store.specs.declared.request.Request.{Request}
use Rattle.entity_store.specs.Store.{StoredEntity, Store, entity_at}
use Rattle.policy_values.specs.Value.{Val, truth, long, string, entity, set, rec, decimal, ip, datetime, duration, Fields, no_fields, field}
use Rattle.access_tries.specs.declared.edge.Edge.TheVariants.{Field, AnyTag, Root}
use Rattle.access_tries.specs.Edges.{Address}
use Rattle.access_tries.specs.Paths.{edge_of}
use Rattle.access_tries.specs.Table.{Table}
use Rattle.reads_spec.specs.Restrict.{values_in}
use Rattle.reads_spec.proofs.Lists.{IsIn, any_in, same_uid, uid_self}
use Rattle.reads_spec.proofs.Words.{any_out}
use Rattle.entity_loading.specs.declared.place.Place.{Place}
use Rattle.entity_loading.specs.Answered.{AnswerBlocks, SomeAnswerBlocks}
use Rattle.entity_loading.specs.Begun.{SomeRootBlocks}
use Rattle.entity_loading.specs.Places.{node_of}
use Rattle.entity_loading.specs.CannotGoOn.{Tests, tests_of, behind, GoesOn, Demands, Sticks, FieldsBlock, SomeBlocks, EntityBlocks, CannotStep}
use Rattle.entity_loading.specs.Needs.{Test, sees}
use Rattle.entity_loading.specs.Blocked.{IsBlockedInStore, IsBlocked}
use Rattle.entity_loading.specs.Reached.{IsReached, AreReachedAsked}

abbrev test : Tests → Bool → Test
test t false = t.leads
test t true = t.marks

-- one address that passes is why something holds of the tests
record By (P : Tests → Type 0) (t : Tests) : Type 0 where
  marked : Bool
  address : Address
  passes : test t marked address ≡ true
  so : (w : Tests) → test w marked address ≡ true → P w

by_demand : (P : Tests → Type 0) (t : Tests) → ((w : Tests) → Demands w → P w) → Demands t → By P t
by_demand P t f (r, ns, h) = record { marked = true; address = Root r ∷ map edge_of ns; passes = h; so = λ w k. f w (r, ns, k) }

by_end : (P : Tests → Type 0) (t : Tests) → ((w : Tests) → GoesOn w ⊎ Demands w → P w) → GoesOn t ⊎ Demands t → By P t
by_end P t f (inl (n, h)) = record { marked = false; address = edge_of n ∷ []; passes = h; so = λ w k. f w (inl (n, k)) }
by_end P t f (inr d) = by_demand P t (λ w k. f w (inr k)) d

by_weaker : (P Q : Tests → Type 0) (t : Tests) → ((w : Tests) → P w → Q w) → By P t → By Q t
by_weaker P Q t f b = record { marked = b.marked; address = b.address; passes = b.passes; so = λ w h. f w (b.so w h) }

-- behind an edge the address is one longer
by_field : (n : List ℕ) (P : Tests → Type 0) (t : Tests) → By P (behind (Field n) t) → By (λ w. P (behind (Field n) w)) t
by_field n P t b = from b.marked b.passes b.so
  where
    from : (m : Bool) → test (behind (Field n) t) m b.address ≡ true → ((w : Tests) → test w m b.address ≡ true → P w) → By (λ w. P (behind (Field n) w)) t
    from false h f = record { marked = false; address = Field n ∷ b.address; passes = h; so = λ w k. f (behind (Field n) w) k }
    from true h f = record { marked = true; address = Field n ∷ b.address; passes = h; so = λ w k. f (behind (Field n) w) k }

by_tag : (P : Tests → Type 0) (t : Tests) → By P (behind AnyTag t) → By (λ w. P (behind AnyTag w)) t
by_tag P t b = from b.marked b.passes b.so
  where
    from : (m : Bool) → test (behind AnyTag t) m b.address ≡ true → ((w : Tests) → test w m b.address ≡ true → P w) → By (λ w. P (behind AnyTag w)) t
    from false h f = record { marked = false; address = AnyTag ∷ b.address; passes = h; so = λ w k. f (behind AnyTag w) k }
    from true h f = record { marked = true; address = AnyTag ∷ b.address; passes = h; so = λ w k. f (behind AnyTag w) k }

mutual
  by_value : (v : Val) (t : Tests) (u : Val) → Sticks v t u → By (λ w. Sticks v w u) t
  by_value (entity y) t u h = absurd h
  by_value (rec fs) t u (inl (e, d)) = by_demand (λ w. Sticks (rec fs) w u) t (λ w k. inl (e, k)) d
  by_value (rec fs) t u (inr h) = by_weaker (λ w. FieldsBlock fs w u) (λ w. Sticks (rec fs) w u) t (λ w k. inr k) (by_fields fs t u h)
  by_value (truth b) t u (e, h) = by_end (λ w. Sticks (truth b) w u) t (λ w k. (e, k)) h
  by_value (long b) t u (e, h) = by_end (λ w. Sticks (long b) w u) t (λ w k. (e, k)) h
  by_value (string b) t u (e, h) = by_end (λ w. Sticks (string b) w u) t (λ w k. (e, k)) h
  by_value (set b) t u (e, h) = by_end (λ w. Sticks (set b) w u) t (λ w k. (e, k)) h
  by_value (decimal b) t u (e, h) = by_end (λ w. Sticks (decimal b) w u) t (λ w k. (e, k)) h
  by_value (ip b) t u (e, h) = by_end (λ w. Sticks (ip b) w u) t (λ w k. (e, k)) h
  by_value (datetime b) t u (e, h) = by_end (λ w. Sticks (datetime b) w u) t (λ w k. (e, k)) h
  by_value (duration b) t u (e, h) = by_end (λ w. Sticks (duration b) w u) t (λ w k. (e, k)) h

  by_fields : (fs : Fields) (t : Tests) (u : Val) → FieldsBlock fs t u → By (λ w. FieldsBlock fs w u) t
  by_fields no_fields t u h = absurd h
  by_fields (field n v fs) t u (inl h) = by_weaker (λ w. Sticks v (behind (Field n) w) u) (λ w. FieldsBlock (field n v fs) w u) t (λ w k. inl k) (by_field n (λ w. Sticks v w u) t (by_value v (behind (Field n) t) u h))
  by_fields (field n v fs) t u (inr h) = by_weaker (λ w. FieldsBlock fs w u) (λ w. FieldsBlock (field n v fs) w u) t (λ w k. inr k) (by_fields fs t u h)

by_some : (vs : List Val) (t : Tests) (u : Val) → SomeBlocks vs t u → By (λ w. SomeBlocks vs w u) t
by_some [] t u h = absurd h
by_some (v ∷ vs) t u (inl h) = by_weaker (λ w. Sticks v w u) (λ w. SomeBlocks (v ∷ vs) w u) t (λ w k. inl k) (by_value v t u h)
by_some (v ∷ vs) t u (inr h) = by_weaker (λ w. SomeBlocks vs w u) (λ w. SomeBlocks (v ∷ vs) w u) t (λ w k. inr k) (by_some vs t u h)

by_entity : (e : StoredEntity) (t : Tests) (u : Val) → EntityBlocks e t u → By (λ w. EntityBlocks e w u) t
by_entity e t u (inl h) = by_weaker (λ w. FieldsBlock e.attrs w u) (λ w. EntityBlocks e w u) t (λ w k. inl k) (by_fields e.attrs t u h)
by_entity e t u (inr h) = by_weaker (λ w. SomeBlocks (values_in e.tags) (behind AnyTag w) u) (λ w. EntityBlocks e w u) t (λ w k. inr k) (by_tag (λ w. SomeBlocks (values_in e.tags) w u) t (by_some (values_in e.tags) (behind AnyTag t) u h))

-- ---- of places, and of paths

module _ (ns : Table) (q : Request) (s : Store) (ps : List Place) (found : AreReachedAsked ns q s ps) where
  -- what blocks at a place is blocked
  pub place_blocked : (u : Val) → SomeAnswerBlocks ns (entity_at s) ps u → IsBlockedInStore ns q s u
  place_blocked u h = from (entity_at s h.place.uid) refl h.sticks
    where
      from : (o : Option StoredEntity) → entity_at s h.place.uid ≡ o → AnswerBlocks o (tests_of (node_of ns h.place)) u → IsBlockedInStore ns q s u
      from None at k = absurd k
      from (Some e) at k = record {
        id = h.place.uid;
        stored = e;
        at = at;
        below = λ b. sees b (node_of ns h.place);
        reached = λ b a i. (found b h.place.uid a).0 (any_in (λ p. uid_eq p.uid h.place.uid && sees b (node_of ns p) a) h.place ps h.among (and_from (uid_eq h.place.uid h.place.uid) (sees b (node_of ns h.place) a) (uid_self h.place.uid) i));
        sticks = k;
      }

  -- and what is blocked blocks at a place
  pub blocked_placed : (u : Val) → IsBlockedInStore ns q s u → SomeAnswerBlocks ns (entity_at s) ps u
  blocked_placed u h =
      let b = by_entity h.stored (record { leads = h.below false; marks = h.below true }) u h.sticks in
      placed b.marked b.address (h.reached b.marked b.address (at_test b.marked b.address b.passes)) b.so
    where
      at_test : (m : Bool) (a : Address) → test (record { leads = h.below false; marks = h.below true }) m a ≡ true → h.below m a ≡ true
      at_test false a k = k
      at_test true a k = k

      seen : (m : Bool) (p : Place) (a : Address) → sees m (node_of ns p) a ≡ true → test (tests_of (node_of ns p)) m a ≡ true
      seen false p a k = k
      seen true p a k = k

      placed : (m : Bool) (a : Address) → IsReached m ns q s h.id a → ((w : Tests) → test w m a ≡ true → EntityBlocks h.stored w u) → SomeAnswerBlocks ns (entity_at s) ps u
      placed m a r so =
          let w = any_out (λ p. uid_eq p.uid h.id && sees m (node_of ns p) a) ps ((found m h.id a).1 r) in
          let c = and_parts (uid_eq w.0.uid h.id) (sees m (node_of ns w.0) a) w.2 in
          let at : entity_at s w.0.uid ≡ Some h.stored = ap (entity_at s) (same_uid w.0.uid h.id c.0) ∙ h.at in
          record { place = w.0; among = w.1; sticks = subst (λ o. AnswerBlocks o (tests_of (node_of ns w.0)) u) (sym at) (so (tests_of (node_of ns w.0)) (seen m w.0 a c.1)) }

  pub blocked_whole : (o : Option Val) → ((u : Val) → SomeRootBlocks ns q u → ⊥) → CannotStep (SomeAnswerBlocks ns (entity_at s) ps) o → CannotStep (IsBlocked ns q s) o
  blocked_whole None free h = λ u k. elim k [
    | inl r ↦ free u r
    | inr b ↦ h u (blocked_placed u b)
  ]
  blocked_whole (Some u) free h = inr (place_blocked u h)

-- ---- places, one after another

-- whatever blocks at a place blocks at one of those that are left
pub record IsLooking (ns : Table) (found : EntityUID → Option StoredEntity) (all left : List Place) : Type 0 where
  pub later : (u : Val) → SomeAnswerBlocks ns found all u → SomeAnswerBlocks ns found left u
  pub among : (p : Place) → IsIn p left → IsIn p all

pub looking_start : (ns : Table) (found : EntityUID → Option StoredEntity) (all left : List Place) → left ≡ all → IsLooking ns found all left
looking_start ns found all left same = rw same (record { later = λ u h. h; among = λ p h. h })

module _ (ns : Table) (found : EntityUID → Option StoredEntity) (all left : List Place) (p : Place) (rest : List Place) (is : left ≡ p ∷ rest) (t : IsLooking ns found all left) where
  pub looking_more : ((u : Val) → AnswerBlocks (found p.uid) (tests_of (node_of ns p)) u → ⊥) → IsLooking ns found all rest
  looking_more free = record { later = λ u h. on u (t.later u h); among = λ z h. t.among z (subst (IsIn z) (sym is) (inr h)) }
    where
      on : (u : Val) → SomeAnswerBlocks ns found left u → SomeAnswerBlocks ns found rest u
      on u h = by (subst (IsIn h.place) is h.among)
        where
          by : IsIn h.place (p ∷ rest) → SomeAnswerBlocks ns found rest u
          by (inl same) = absurd (free u (subst (λ z. AnswerBlocks (found z.uid) (tests_of (node_of ns z)) u) (sym same) h.sticks))
          by (inr i) = record { place = h.place; among = i; sticks = h.sticks }

  pub looking_found : (u : Val) → AnswerBlocks (found p.uid) (tests_of (node_of ns p)) u → SomeAnswerBlocks ns found all u
  looking_found u h = record { place = p; among = t.among p (subst (IsIn p) (sym is) (inl refl)); sticks = h }

pub looking_done : (ns : Table) (found : EntityUID → Option StoredEntity) (all left : List Place) → left ≡ [] → IsLooking ns found all left → (u : Val) → SomeAnswerBlocks ns found all u → ⊥
looking_done ns found all left none t u h = let k = t.later u h in subst (IsIn k.place) none k.among
