-- What is reached by parents in a part of the entities.
use Rattle.std.proofs.Common.{◌≡◌, ◌↔◌, ◌⊎◌, Bool, true, List, Option, Some, None, Contains, refl, sym, ap, ◌∙◌, subst, inl, inr}
use Rattle.std.specs.Prelude.{IsSomeAnd, IsSome}
use Rattle.std.specs.Option.{option_map}
use Rattle.policy_values.specs.declared.entity_uid.EntityUID.{EntityUID}
use Rattle.policy_values.specs.Reaches.{Reaches, last, more}
use Rattle.policy_values.specs.Repeated.{IsRepeated}
use Rattle.entity_store.specs.declared.entities.EntitiesError.{EntitiesError}
use Rattle.entity_store.specs.declared.entities.EntitiesError.TheVariants.{Duplicate, Cycle, OutOfMemory}
use Rattle.entity_store.specs.Store.{StoredEntity, entity_at}
use Rattle.entity_store.specs.FromParents.{ids_of, Lists, without_links, IsFromParents, IsRefused}
use Rattle.table_loader.specs.Parents.{AreSomeOf, IsClosedUpward, PartsAreStores, GivenRowsAreClosed, AreLookedUp, AncestorsAreAll, OthersAreAll, ClosedAgain}

-- an id that lists another has an entity
lister : (es : List StoredEntity) (x y : EntityUID) → Lists es x y → IsSome (entity_at es x)
lister es x y h = here (entity_at es x) h
  where
    here : (o : Option StoredEntity) → IsSomeAnd o (λ e. Contains e.ancestors y) → IsSome o
    here None h = absurd h
    here (Some e) h = refl

-- the same entity lists the same ids
listed_by : (es fs : List StoredEntity) (x y : EntityUID) → entity_at es x ≡ entity_at fs x → Lists es x y → Lists fs x y
listed_by es fs x y same h = subst (λ o. IsSomeAnd o (λ e. Contains e.ancestors y)) same h

module _ (part all : List StoredEntity) (some : AreSomeOf part all) where
  -- where the part has an entity, it is that of all
  pub same_at : (x : EntityUID) → IsSome (entity_at part x) → entity_at part x ≡ entity_at all x
  same_at x h = here (entity_at part x) refl h
    where
      here : (o : Option StoredEntity) → entity_at part x ≡ o → IsSome o → o ≡ entity_at all x
      here None e h = absurd (cc)
      here (Some e) f h = sym (some x e f)

  list_more : (x y : EntityUID) → Lists part x y → Lists all x y
  list_more x y h = listed_by part all x y (same_at x (lister part x y h)) h

  reach_more : (x y : EntityUID) → Reaches (Lists part) x y → Reaches (Lists all) x y
  reach_more x y (last h) = last (list_more x y h)
  reach_more x y (more {y = z} h r) = more (list_more x z h) (reach_more z y r)

-- a part that is closed upward has what is reached from its entities
module _ (part all : List StoredEntity) (closed : IsClosedUpward part all) where
  reach_up : (x y : EntityUID) → IsSome (entity_at part x) → Reaches (Lists all) x y → Reaches (Lists part) x y
  reach_up x y own (last h) = last (listed_by all part x y (sym (same_at part all closed.some x own)) h)
  reach_up x y own (more {y = z} h r) =
      let k : Lists part x z = listed_by all part x z (sym (same_at part all closed.some x own)) h in
      more k (reach_up z y (closed.up x z k (goes_on z y r)) r)
    where
      goes_on : (z y : EntityUID) → Reaches (Lists all) z y → IsSome (entity_at all z)
      goes_on z y (last h) = lister all z y h
      goes_on z y (more {y = w} h r) = lister all z w h

  pub reached_up : (x y : EntityUID) → IsSome (entity_at part x) → Reaches (Lists part) x y ↔ Reaches (Lists all) x y
  reached_up x y own = (reach_more part all closed.some x y, reach_up x y own)

pub no_cycles : PartsAreStores
no_cycles part all some none = (own, why)
  where
    own : (x : EntityUID) → ¬ Reaches (Lists part) x x
    own x h = none x (reach_more part all some x x h)

    why : ((x : EntityUID) → ¬ IsRepeated (ids_of part) x) → (e : EntitiesError) → IsRefused part e → e ≡ OutOfMemory
    why once (Duplicate x) h = absurd (once x h.holds)
    why once (Cycle x) h = absurd (own x h.1.holds)
    why once OutOfMemory h = refl

pub given_closed : GivenRowsAreClosed
given_closed given absent all agree closed = record {
  some = agree.there;
  up = λ x y h k. here y (closed x y h) k;
}
  where
    here : (y : EntityUID) → IsSome (entity_at given y) ⊎ Contains absent y → IsSome (entity_at all y) → IsSome (entity_at given y)
    here y (inl h) k = h
    here y (inr h) k = let n : IsSome {T = StoredEntity} None = subst IsSome (agree.not_there y h) k in absurd (cc)

-- where all that is reached was looked up, the same is reached in both
reach_same : (seen : EntityUID → Bool) (es fs : List StoredEntity) → AreLookedUp seen es fs →
    (x y : EntityUID) → seen x ≡ true → ((z : EntityUID) → Reaches (Lists es) x z → seen z ≡ true) → Reaches (Lists es) x y → Reaches (Lists fs) x y
reach_same seen es fs are x y own above (last h) = last (listed_by es fs x y (are x own) h)
reach_same seen es fs are x y own above (more {y = z} h r) =
    more (listed_by es fs x z (are x own) h) (reach_same seen es fs are z y (above z (last h)) (λ w k. above w (more h k)) r)

reach_back : (seen : EntityUID → Bool) (es fs : List StoredEntity) → AreLookedUp seen es fs →
    (x y : EntityUID) → seen x ≡ true → ((z : EntityUID) → Reaches (Lists es) x z → seen z ≡ true) → Reaches (Lists fs) x y → Reaches (Lists es) x y
reach_back seen es fs are x y own above (last h) = last (listed_by fs es x y (sym (are x own)) h)
reach_back seen es fs are x y own above (more {y = z} h r) =
    let k : Lists es x z = listed_by fs es x z (sym (are x own)) h in
    more k (reach_back seen es fs are z y (above z (last k)) (λ w j. above w (more k j)) r)

pub ancestors_all : AncestorsAreAll
ancestors_all seen found all are t s of_t of_s x own above y = (
  λ h. (of_s.ancestors x y).1 (reach_same seen found all are x y own up ((of_t.ancestors x y).0 h)),
  λ h. (of_t.ancestors x y).1 (reach_back seen found all are x y own up ((of_s.ancestors x y).0 h)),
)
  where
    up : (z : EntityUID) → Reaches (Lists found) x z → seen z ≡ true
    up z r = above z ((of_t.ancestors x z).1 r)

pub others_all : OthersAreAll
others_all seen found all are t s of_t of_s x own = of_t.kept x ∙ ap (option_map without_links) (are x own) ∙ sym (of_s.kept x)

joined : (es : List StoredEntity) (x y z : EntityUID) → Reaches (Lists es) x y → Reaches (Lists es) y z → Reaches (Lists es) x z
joined es x y z (last h) r = more h r
joined es x y z (more {y = w} h k) r = more h (joined es w y z k r)

flat : (es s : List StoredEntity) → IsFromParents es s → (x y : EntityUID) → Reaches (Lists s) x y → Reaches (Lists es) x y
flat es s made x y (last h) = (made.ancestors x y).0 h
flat es s made x y (more {y = z} h r) = joined es x z y ((made.ancestors x z).0 h) (flat es s made z y r)

pub closed_twice : ClosedAgain
closed_twice es s made x y = ((λ h. last h), (λ r. (made.ancestors x y).1 (flat es s made x y r)))
