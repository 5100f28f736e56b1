-- Steps of rounds.
use Rattle.std.proofs.Common.{◌≡◌, ◌⊎◌, ℕ, zero, suc, ◌+◌, ◌≤◌, ◌<◌, Bool, true, is_some, List, [], ◌∷◌, length, Option, Some, None, refl, ap, ◌∙◌, arith, inl, inr}
use Rattle.std.specs.Prelude.{IsSomeAnd, slice_get}
use Rattle.std.specs.List.{AllZip}
use Rattle.byte_streams.specs.Steps.{Rose}
use Rattle.policy_values.specs.declared.entity_uid.EntityUID.{EntityUID}
use Rattle.entity_store.specs.Store.{StoredEntity, Store}
use Rattle.policy_values.specs.Value.{Val}
use Rattle.access_tries.specs.Table.{Table}
use Rattle.reads_spec.specs.Merge.{merge_entities}
use Rattle.reads_spec.proofs.Cuts.{uid_at}
use Rattle.reads_spec.proofs.Lists.{IsIn}
use Rattle.entity_loading.specs.declared.place.Place.{Place}
use Rattle.entity_loading.specs.Answered.{AnswerBlocks}
use Rattle.entity_loading.specs.Begun.{PathsWithin, IsFirst}
use Rattle.entity_loading.specs.Places.{Allows, IsBelowSome, node_of}
use Rattle.entity_loading.specs.CannotGoOn.{tests_of}
use Rattle.entity_loader.specs.Answers.{Fits, IsHonest}
use Rattle.entity_loader.specs.State.{LoaderState, Continues}
use Rattle.entity_loader.specs.declared.loader.EntityRequest.{EntityRequest}
use Rattle.entity_loading.specs.Answering.{AreStray}
use Rattle.entity_loading.specs.Causes.{Differ, CauseOf, IsRight}
use Rattle.entity_loading.specs.Keeping.{Found, AreNotTaken}
use Rattle.entity_loading.specs.Rounds.{Sticks}
use Rattle.entity_loading.specs.declared.error.EntitySliceError.{EntitySliceError}
use Rattle.entity_loading.specs.declared.error.EntitySliceError.TheVariants as error
use Rattle.plain_lemmas.proofs.Lists.{is_some_within, zip_length}

-- all places are at nodes that are there, and none of them before this one; this many steps stand above each
pub record AreDeep (ns : Table) (round : ℕ) (ps : List Place) : Type 0 where
  pub later : (q : Place) → IsIn q ps → round ≤ q.number
  pub there : (q : Place) → IsIn q ps → q.number < length ns
  pub allows : (q : Place) → IsIn q ps → (n : ℕ) → PathsWithin ns n → Allows n round (node_of ns q)

pub deep_first : (ns : Table) (ps : List Place) → ((q : Place) → IsIn q ps → IsFirst ns q) → AreDeep ns 0 ps
deep_first ns ps h = record { later = λ q i. omega arith; there = λ q i. (h q i).there; allows = λ q i. (h q i).allows }

pub deep_more : (ns : Table) (round : ℕ) (ps next : List Place) → AreDeep ns round ps → ((q : Place) → IsIn q next → IsBelowSome ns ps q) → AreDeep ns (round + 1) next
deep_more ns round ps next d below = record {
  later = λ q i. let b = below q i in let h = b.below.later in let k = d.later b.from b.among in omega (arith, h, k);
  there = λ q i. (below q i).below.there;
  allows = λ q i n w. let b = below q i in b.below.allows n round (d.allows b.from b.among n w);
}

-- ---- counts

pub rose_later : (a b c : ℕ) → a ≤ b → Rose b c → Rose a c
rose_later a b c h (inl r) = inl (omega (arith, h, r))
rose_later a b c h (inr r) = inr r

pub cause_later : (P : Val → Type 0) (old mid new : LoaderState) → Continues old mid → (e : EntitySliceError) → CauseOf P mid new e → CauseOf P old new e
cause_later P old mid new g (error.PartialRequest e) h = h
cause_later P old mid new g (error.IncompatibleEntityManifest e) h = h
cause_later P old mid new g (error.WrongNumberOfEntities e) h = (h.0, rose_later old.strays mid.strays new.strays g.strays h.1)
cause_later P old mid new g (error.WrongNumberOfAncestors n m) h = (h.0, rose_later old.strays mid.strays new.strays g.strays h.1)
cause_later P old mid new g (error.InconsistentLoader u k d) (inl h) = inl (h.0, rose_later old.strays mid.strays new.strays g.strays h.1)
cause_later P old mid new g (error.InconsistentLoader u k d) (inr h) = inr h
cause_later P old mid new g error.LoaderFault h = rose_later old.faults mid.faults new.faults g.faults h
cause_later P old mid new g error.OutOfMemory h = tt

pub cause_weaker : (P Q : Val → Type 0) (old new : LoaderState) → ((v : Val) → P v → Q v) → (e : EntitySliceError) → CauseOf P old new e → CauseOf Q old new e
cause_weaker P Q old new f (error.PartialRequest e) h = h
cause_weaker P Q old new f (error.IncompatibleEntityManifest e) h = f e.value h
cause_weaker P Q old new f (error.WrongNumberOfEntities e) h = h
cause_weaker P Q old new f (error.WrongNumberOfAncestors n m) h = h
cause_weaker P Q old new f (error.InconsistentLoader u k d) h = h
cause_weaker P Q old new f error.LoaderFault h = h
cause_weaker P Q old new f error.OutOfMemory h = tt

pub goes_later : (old mid new : LoaderState) → Continues old mid → Continues mid new → Continues old new
goes_later old mid new a b = record {
  known = λ s h. b.known s (a.known s h);
  exact = b.exact ∙ a.exact;
  faults = let f = a.faults in let g = b.faults in omega (arith, f, g);
  strays = let f = a.strays in let g = b.strays in omega (arith, f, g);
  honest = λ s h. b.honest s (a.known s h) ∙ a.honest s h;
}

pub goes_on_here : (old : LoaderState) → Continues old old
goes_on_here old = record { known = λ s h. h; exact = refl; faults = omega arith; strays = omega arith; honest = λ s h. refl }

-- what is not kept, with its cause
pub not_taken : (ns : Table) (ps : List Place) (old new : LoaderState) (kept found : Found) → ((x : EntityUID) (e : StoredEntity) → kept x ≡ Some e → e.uid ≡ x) → ((x : EntityUID) (e : StoredEntity) → found x ≡ Some e → e.uid ≡ x)
    → (e : EntitySliceError) → AreNotTaken ns ps kept found e → CauseOf (Sticks ns) old new e
not_taken ns ps old new kept found ku fu (error.IncompatibleEntityManifest e) h = sticks (found h.place.uid) h.sticks
  where
    sticks : (o : Option StoredEntity) → AnswerBlocks o (tests_of (node_of ns h.place)) e.value → Sticks ns e.value
    sticks None g = absurd g
    sticks (Some d) g = record { entity = d; number = h.place.number; sticks = g }
not_taken ns ps old new kept found ku fu (error.InconsistentLoader u k d) h = inr (by k h.1)
  where
    by : (o : Option StoredEntity) → IsSomeAnd o (λ j. (kept u ≡ Some j) × (merge_entities j d ≡ None)) → IsSomeAnd o (λ j. Differ u j d)
    by None g = absurd g
    by (Some j) g = (ku u j g.0, fu u d h.0, g.1)
not_taken ns ps old new kept found ku fu error.OutOfMemory h = tt
not_taken ns ps old new kept found ku fu (error.PartialRequest e) h = absurd h
not_taken ns ps old new kept found ku fu (error.WrongNumberOfEntities e) h = absurd h
not_taken ns ps old new kept found ku fu (error.WrongNumberOfAncestors n m) h = absurd h
not_taken ns ps old new kept found ku fu error.LoaderFault h = absurd h

-- answers that do not fit, with their cause
pub stray_cause : (P : Val → Type 0) (rs : List EntityRequest) (os : List (Option StoredEntity)) (old new : LoaderState) → AllZip Fits rs os ⊎ Rose old.strays new.strays → (e : EntitySliceError) → AreStray rs os e → CauseOf P old new e
stray_cause P rs os old new (inl f) (error.InconsistentLoader u k d) h = absurd (h.1 f)
stray_cause P rs os old new (inr r) (error.InconsistentLoader u k d) h = inl (h.0, r)
stray_cause P rs os old new f error.OutOfMemory h = tt
stray_cause P rs os old new f (error.PartialRequest e) h = absurd h
stray_cause P rs os old new f (error.IncompatibleEntityManifest e) h = absurd h
stray_cause P rs os old new f (error.WrongNumberOfEntities e) h = absurd h
stray_cause P rs os old new f (error.WrongNumberOfAncestors n m) h = absurd h
stray_cause P rs os old new f error.LoaderFault h = absurd h

-- no honest loader strays
pub stray_right : (P : Val → Type 0) (rs : List EntityRequest) (os : List (Option StoredEntity)) (old new : LoaderState) → AllZip Fits rs os → (e : EntitySliceError) → AreStray rs os e → IsRight P old new e
stray_right P rs os old new f (error.InconsistentLoader u k d) h = absurd (h.1 f)
stray_right P rs os old new f error.OutOfMemory h = tt
stray_right P rs os old new f (error.PartialRequest e) h = absurd h
stray_right P rs os old new f (error.IncompatibleEntityManifest e) h = absurd h
stray_right P rs os old new f (error.WrongNumberOfEntities e) h = absurd h
stray_right P rs os old new f (error.WrongNumberOfAncestors n m) h = absurd h
stray_right P rs os old new f error.LoaderFault h = absurd h

pub other_number : (rs : List EntityRequest) (os : List (Option StoredEntity)) (old new : LoaderState) → AllZip Fits rs os ⊎ Rose old.strays new.strays → (length rs ≡ length os → ⊥) → Rose old.strays new.strays
other_number rs os old new (inl f) h = absurd (h (zip_length Fits rs os f))
other_number rs os old new (inr r) h = r

pub honest_zip : (exact : Bool) (s : Store) (rs : List EntityRequest) (os : List (Option StoredEntity)) → AllZip (IsHonest exact s) rs os → AllZip Fits rs os
honest_zip exact s [] [] all = tt
honest_zip exact s [] (o ∷ os) all = absurd all
honest_zip exact s (r ∷ rs) [] all = absurd all
honest_zip exact s (r ∷ rs) (o ∷ os) all = (fits o all.0, honest_zip exact s rs os all.1)
  where
    fits : (a : Option StoredEntity) → IsHonest exact s r a → Fits r a
    fits None h = tt
    fits (Some e) h = ap (λ z. z.uid) h.is ∙ uid_at s r.entity_id h.stored h.at

-- ---- places

pub one_of : (ps : List Place) → (ps ≡ [] → ⊥) → (q : Place) × IsIn q ps
one_of [] h = absurd (h refl)
one_of (q ∷ ps) h = (q, inl refl)

-- while something is pending, some path is as long as there were rounds
pub longest : (ns : Table) (round : ℕ) (ps : List Place) → AreDeep ns round ps → (ps ≡ [] → ⊥) → (n : ℕ) → PathsWithin ns n → round + 1 ≤ n + 1
longest ns round ps d some n w =
    let q = one_of ps some in
    let short = d.allows q.0 q.1 n w [] (is_some_within ns q.0.number (d.there q.0 q.1)) in
    omega (arith, short)

pub round_within : (ns : Table) (round : ℕ) (ps : List Place) → AreDeep ns round ps → (ps ≡ [] → ⊥) → round < length ns
round_within ns round ps d some = let q = one_of ps some in let a = d.later q.0 q.1 in let b = d.there q.0 q.1 in omega (arith, a, b)
