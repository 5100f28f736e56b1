-- An honest loader is refused for a path that blocks, for a fault, or for lack of memory.
use Rattle.std.proofs.Common.{◌≡◌, ◌<◌, length, Bool, ◌&&◌, List, Option, Some, None, sym, ap, ◌∙◌, subst}
use Rattle.std.specs.Prelude.{IsSomeAnd}
use Rattle.policy_values.specs.Uid.{uid_eq}
use Rattle.entity_store.specs.declared.request.Request.{Request}
use Rattle.entity_store.specs.Store.{StoredEntity, Store, entity_at}
use Rattle.policy_values.specs.Value.{Val}
use Rattle.access_tries.specs.Table.{Table}
use Rattle.reads_spec.specs.Merge.{merge_entities}
use Rattle.reads_spec.proofs.Lists.{IsIn, any_in, uid_self}
use Rattle.plain_lemmas.proofs.Booleans.{or_right_true}
use Rattle.std.proofs.lemmas.Bool.{and_from}
use Rattle.entity_loading.specs.Answered.{AnswerBlocks, SomeAnswerBlocks}
use Rattle.entity_loading.specs.Places.{node_of}
use Rattle.entity_loading.specs.CannotGoOn.{tests_of, EntityBlocks, RefusedBy}
use Rattle.entity_loading.specs.Needs.{sees, needs}
use Rattle.entity_loading.specs.declared.follow.FollowError.{FollowError}
use Rattle.entity_loading.specs.declared.follow.FollowError.TheVariants as follow
use Rattle.entity_loading.specs.declared.place.Place.{Place}
use Rattle.entity_loader.specs.Answers.{IsHonest}
use Rattle.entity_loader.specs.State.{LoaderState, Continues}
use Rattle.entity_loader.specs.declared.loader.EntityRequest.{EntityRequest}
use Rattle.entity_loading.specs.Causes.{IsRight}
use Rattle.entity_loading.specs.Keeping.{Found, AreNotTaken, refusal_of}
use Rattle.entity_loading.specs.KeptPart.{IsState}
use Rattle.entity_loading.specs.Ordered.{HasOrder}
use Rattle.entity_loading.specs.Right.{CannotStep, IsRoundError}
use Rattle.entity_loading.specs.Rounds.{AsksFor, AreHonestAt}
use Rattle.entity_loading.specs.declared.error.EntitySliceError.{EntitySliceError}
use Rattle.entity_loading.specs.declared.error.EntitySliceError.TheVariants as error
use Rattle.entity_loading.proofs.KeptSteps.{merges}
use Rattle.entity_loading.proofs.RoundSteps.{rose_later}

pub right_refused : (exact : Bool) (s : Store) (ns : Table) (ps : List Place) (kept : Found) (old new : LoaderState) (e : EntitySliceError) → IsRight (λ v. ⊥) old new e → IsRoundError exact s ns ps kept old new e
right_refused exact s ns ps kept old new (error.IncompatibleEntityManifest e) h = absurd h
right_refused exact s ns ps kept old new error.LoaderFault h = h
right_refused exact s ns ps kept old new error.OutOfMemory h = tt
right_refused exact s ns ps kept old new (error.PartialRequest e) h = absurd h
right_refused exact s ns ps kept old new (error.WrongNumberOfEntities e) h = absurd h
right_refused exact s ns ps kept old new (error.WrongNumberOfAncestors n m) h = absurd h
right_refused exact s ns ps kept old new (error.InconsistentLoader u k d) h = absurd h

pub taken_refused : (exact : Bool) (s : Store) (ns : Table) (ps : List Place) (kept found : Found) (old new : LoaderState) → AreHonestAt exact s ns ps found → (e : EntitySliceError) → AreNotTaken ns ps kept found e → IsRoundError exact s ns ps kept old new e
taken_refused exact s ns ps kept found old new t (error.IncompatibleEntityManifest e) h = (found, t, h)
taken_refused exact s ns ps kept found old new t (error.InconsistentLoader u k d) h = (found, t, h)
taken_refused exact s ns ps kept found old new t error.OutOfMemory h = tt
taken_refused exact s ns ps kept found old new t error.LoaderFault h = absurd h
taken_refused exact s ns ps kept found old new t (error.PartialRequest e) h = absurd h
taken_refused exact s ns ps kept found old new t (error.WrongNumberOfEntities e) h = absurd h
taken_refused exact s ns ps kept found old new t (error.WrongNumberOfAncestors n m) h = absurd h

pub right_later : (P Q : Val → Type 0) (old mid new : LoaderState) → Continues old mid → ((v : Val) → P v → Q v) → (e : EntitySliceError) → IsRight P mid new e → IsRight Q old new e
right_later P Q old mid new g f (error.IncompatibleEntityManifest e) h = f e.value h
right_later P Q old mid new g f error.LoaderFault h = rose_later old.faults mid.faults new.faults g.faults h
right_later P Q old mid new g f error.OutOfMemory h = tt
right_later P Q old mid new g f (error.PartialRequest e) h = absurd h
right_later P Q old mid new g f (error.WrongNumberOfEntities e) h = absurd h
right_later P Q old mid new g f (error.WrongNumberOfAncestors n m) h = absurd h
right_later P Q old mid new g f (error.InconsistentLoader u k d) h = absurd h

pub follow_right : (P Q : Val → Type 0) (old new : LoaderState) → ((v : Val) → P v → Q v) → (e : FollowError) → RefusedBy P e → IsRight Q old new (refusal_of e)
follow_right P Q old new f (follow.Incompatible v) h = f v h
follow_right P Q old new f follow.OutOfMemory h = tt

module _ (exact : Bool) (ns : Table) (q : Request) (s : Store) (asked ps : List Place) (kept : Found) (t : IsState exact ns q s asked ps kept) (order : HasOrder s) (there : (p : Place) → IsIn p ps → p.number < length ns) where
  blocked : (found : Found) → AreHonestAt exact s ns ps found → (v : Val) → SomeAnswerBlocks ns found ps v → CannotStep ns q s v
  blocked found a v h =
      let r = a.each h.place.uid (any_in (λ p. uid_eq p.uid h.place.uid) h.place ps h.among (uid_self h.place.uid)) in
      by r.0 r.1 (found h.place.uid) r.2 h.sticks
    where
      by : (r : EntityRequest) → AsksFor ns ps h.place.uid r → (o : Option StoredEntity) → IsHonest exact s r o → AnswerBlocks o (tests_of (node_of ns h.place)) v → CannotStep ns q s v
      by r asks None g k = absurd k
      by r asks (Some d) g k = record {
        id = h.place.uid;
        stored = g.stored;
        at = ap (entity_at s) (sym asks.id) ∙ g.at;
        keep = g.keep;
        below = λ b. sees b (node_of ns h.place);
        reached = λ b c j. t.sound.reached b h.place.uid c (or_right_true (needs b ns asked h.place.uid c) (needs b ns ps h.place.uid c)
            (any_in (λ p. uid_eq p.uid h.place.uid && sees b (node_of ns p) c) h.place ps h.among (and_from (uid_eq h.place.uid h.place.uid) (sees b (node_of ns h.place) c) (uid_self h.place.uid) j)));
        sticks = subst (λ z. EntityBlocks z (tests_of (node_of ns h.place)) v) g.is k;
      }

  pub refused_right : (old mid new : LoaderState) → Continues old mid → (e : EntitySliceError) → IsRoundError exact s ns ps kept mid new e → IsRight (CannotStep ns q s) old new e
  refused_right old mid new g (error.IncompatibleEntityManifest e) h = blocked h.0 h.1 e.value h.2
  refused_right old mid new g (error.InconsistentLoader u k d) h = by k h.2
    where
      by : (o : Option StoredEntity) → (h.0 u ≡ Some d) × IsSomeAnd o (λ j. (kept u ≡ Some j) × (merge_entities j d ≡ None)) → ⊥
      by None p = p.1
      by (Some j) p = merges exact s ns ps h.0 h.1 there order asked kept t.part u j d p.1.0 p.0 p.1.1
  refused_right old mid new g error.LoaderFault h = rose_later old.faults mid.faults new.faults g.faults h
  refused_right old mid new g error.OutOfMemory h = tt
  refused_right old mid new g (error.PartialRequest e) h = absurd h
  refused_right old mid new g (error.WrongNumberOfEntities e) h = absurd h
  refused_right old mid new g (error.WrongNumberOfAncestors n m) h = absurd h
