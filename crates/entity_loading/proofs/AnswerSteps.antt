-- Steps of answers.
use Rattle.std.proofs.Common.{◌≡◌, Bool, true, false, cond, ◌||◌, List, [], ◌∷◌, length, map, Option, Some, None, refl, sym, ap, subst, ◌∙◌, arith}
use Rattle.std.specs.BTreeMap.{BTreeMap, get}
use Rattle.std.specs.List.{list_any, AllZip, AllByRecursion}
use Rattle.std.specs.List.Sorted.{IsStrictlySortedBy}
use Rattle.std.specs.Ordering.{is_eq, ordering_reverse}
use Rattle.std.specs.declared.cmp.Ordering.TheVariants.{Less}
use Rattle.policy_values.specs.declared.entity_uid.EntityUID.{EntityUID}
use Rattle.policy_values.specs.Uid.{uid_cmp, uid_eq, uid_cmp_total}
use Rattle.entity_store.specs.Store.{StoredEntity, Store}
use Rattle.reads_spec.proofs.Lists.{same_uid, uid_self}
use Rattle.entity_loader.specs.declared.loader.EntityRequest.{EntityRequest}
use Rattle.entity_loader.specs.Answers.{Fits, IsHonest}
use Rattle.entity_loading.specs.Answering.{AreUnderIds, answered, IsPut, IsStrayAnswer, AreStray, AreHonest}
use Rattle.entity_loading.specs.declared.error.EntitySliceError.{EntitySliceError}
use Rattle.entity_loading.specs.declared.error.EntitySliceError.TheVariants as error

-- ---- one answer more

pub record IsFinding (rs : List EntityRequest) (os : List (Option StoredEntity)) (rest : List EntityRequest) (left : List (Option StoredEntity)) (found : BTreeMap EntityUID StoredEntity) : Type 0 where
  pub found_is : (x : EntityUID) → answered (get uid_cmp found x) rest left x ≡ answered None rs os x
  pub fits : AllZip Fits rs os → AllZip Fits rest left
  pub ids : AreUnderIds found
  pub lengths : length rest ≡ length left

module _ (rs : List EntityRequest) (os : List (Option StoredEntity)) (rest more : List EntityRequest) (left later : List (Option StoredEntity)) (r : EntityRequest) (found : BTreeMap EntityUID StoredEntity)
    (split : rest ≡ r ∷ more) (t : IsFinding rs os rest left found) where
  pub finding_put : (e : StoredEntity) (new : BTreeMap EntityUID StoredEntity) → left ≡ Some e ∷ later → ((x : EntityUID) → get uid_cmp new x ≡ cond (uid_eq r.entity_id x) (Some e) (get uid_cmp found x)) → e.uid ≡ r.entity_id → IsFinding rs os more later new
  finding_put e new at put is = record {
    found_is = λ x. ap (λ o. answered o more later x) (put x) ∙ (λ i. answered (get uid_cmp found x) (sym split i) (sym at i) x) ∙ t.found_is x;
    fits = λ f. (whole (t.fits f)).1;
    ids = λ x d h. one x d (uid_eq r.entity_id x) refl h;
    lengths = let n = t.lengths in let a = ap length split in let b = ap length at in omega (arith, n, a, b);
  }
    where
      whole : AllZip Fits rest left → AllZip Fits (r ∷ more) (Some e ∷ later)
      whole f = subst (λ xs. AllZip Fits xs (Some e ∷ later)) split (subst (AllZip Fits rest) at f)

      one : (x : EntityUID) (d : StoredEntity) (b : Bool) → uid_eq r.entity_id x ≡ b → get uid_cmp new x ≡ Some d → d.uid ≡ x
      one x d true e2 h = let same : Some e ≡ Some d = sym (put x ∙ ap (λ c. cond c (Some e) (get uid_cmp found x)) e2) ∙ h in let eq : e ≡ d = cc in ap (λ z. z.uid) (sym eq) ∙ is ∙ same_uid r.entity_id x e2
      one x d false e2 h = t.ids x d (sym (put x ∙ ap (λ c. cond c (Some e) (get uid_cmp found x)) e2) ∙ h)

  pub finding_skip : left ≡ None ∷ later → IsFinding rs os more later found
  finding_skip at = record {
    found_is = λ x. (λ i. answered (get uid_cmp found x) (sym split i) (sym at i) x) ∙ t.found_is x;
    fits = λ f. (whole (t.fits f)).1;
    ids = t.ids;
    lengths = let n = t.lengths in let a = ap length split in let b = ap length at in omega (arith, n, a, b);
  }
    where
      whole : AllZip Fits rest left → AllZip Fits (r ∷ more) (None ∷ later)
      whole f = subst (λ xs. AllZip Fits xs (None ∷ later)) split (subst (AllZip Fits rest) at f)

  -- an answer with another id does not fit
  pub stray : (e : StoredEntity) → left ≡ Some e ∷ later → (e.uid ≡ r.entity_id → ⊥) → AllZip Fits rs os → ⊥
  stray e at other f = other ((whole (t.fits f)).0)
    where
      whole : AllZip Fits rest left → AllZip Fits (r ∷ more) (Some e ∷ later)
      whole f = subst (λ xs. AllZip Fits xs (Some e ∷ later)) split (subst (AllZip Fits rest) at f)

module _ (rs : List EntityRequest) (os : List (Option StoredEntity)) (rest more : List EntityRequest) (left later : List (Option StoredEntity)) (r : EntityRequest) (found : BTreeMap EntityUID StoredEntity)
    (split : rest ≡ r ∷ more) (t : IsFinding rs os rest left found) where
  pub finding_next : (a : Option StoredEntity) (new : BTreeMap EntityUID StoredEntity) → left ≡ a ∷ later → IsPut r.entity_id a (get uid_cmp found) (get uid_cmp new) → IsFinding rs os more later new
  finding_next (Some e) new at put = finding_put rs os rest more left later r found split t e new at put.0 put.1
  finding_next None new at same =
      let u = finding_skip rs os rest more left later r found split t at in
      record {
        found_is = λ x. ap (λ o. answered o more later x) (same x) ∙ u.found_is x;
        fits = u.fits;
        ids = λ x d h. u.ids x d (sym (same x) ∙ h);
        lengths = u.lengths;
      }

  pub stray_found : (a : Option StoredEntity) → left ≡ a ∷ later → (c : EntitySliceError) → IsStrayAnswer r.entity_id a c → AreStray rs os c
  stray_found None at c h = absurd h
  stray_found (Some e) at (error.InconsistentLoader u k d) h = (
    λ same. h.3 (sym (ap (λ z. z.uid) h.1) ∙ same ∙ h.2),
    stray rs os rest more left later r found split t e at h.3,
  )
  stray_found (Some e) at error.OutOfMemory h = tt
  stray_found (Some e) at (error.PartialRequest c) h = absurd h
  stray_found (Some e) at (error.IncompatibleEntityManifest c) h = absurd h
  stray_found (Some e) at (error.WrongNumberOfEntities c) h = absurd h
  stray_found (Some e) at (error.WrongNumberOfAncestors n m) h = absurd h
  stray_found (Some e) at error.LoaderFault h = absurd h

-- no answer is left
pub finding_short : (rs : List EntityRequest) (os : List (Option StoredEntity)) (rest : List EntityRequest) (left : List (Option StoredEntity)) (found : BTreeMap EntityUID StoredEntity)
    → left ≡ [] → IsFinding rs os rest left found → (x : EntityUID) → get uid_cmp found x ≡ answered None rs os x
finding_short rs os rest left found e t x = sym (over rest) ∙ ap (λ l. answered (get uid_cmp found x) rest l x) (sym e) ∙ t.found_is x
  where
    over : (ks : List EntityRequest) → answered (get uid_cmp found x) ks [] x ≡ get uid_cmp found x
    over [] = refl
    over (k ∷ ks) = refl

pub finding_done : (rs : List EntityRequest) (os : List (Option StoredEntity)) (rest : List EntityRequest) (left : List (Option StoredEntity)) (found : BTreeMap EntityUID StoredEntity)
    → rest ≡ [] → IsFinding rs os rest left found → (x : EntityUID) → get uid_cmp found x ≡ answered None rs os x
finding_done rs os rest left found e t x = ap (λ l. answered (get uid_cmp found x) l left x) (sym e) ∙ t.found_is x

-- ---- honest answers

-- after a request with this id none has it
apart : (x y : EntityUID) → uid_cmp x y ≡ Less → uid_eq y x ≡ false
apart x y h = ap is_eq (uid_cmp_total.antisymm y x ∙ ap ordering_reverse h)

apart_too : (x y : EntityUID) → uid_cmp x y ≡ Less → uid_eq x y ≡ false
apart_too x y h = ap is_eq h

step_past : (o : Option StoredEntity) (r : EntityRequest) (rs : List EntityRequest) (a : Option StoredEntity) (os : List (Option StoredEntity)) (x : EntityUID) → uid_eq r.entity_id x ≡ false → answered o (r ∷ rs) (a ∷ os) x ≡ answered o rs os x
step_past o r rs None os x h = refl
step_past o r rs (Some e) os x h = ap (λ c. answered (cond c (Some e) o) rs os x) h

step_here : (r : EntityRequest) (rs : List EntityRequest) (a : Option StoredEntity) (os : List (Option StoredEntity)) → answered None (r ∷ rs) (a ∷ os) r.entity_id ≡ answered a rs os r.entity_id
step_here r rs None os = refl
step_here r rs (Some e) os = ap (λ c. answered (cond c (Some e) None) rs os r.entity_id) (uid_self r.entity_id)

fresh : (o : Option StoredEntity) (x : EntityUID) (rs : List EntityRequest) (os : List (Option StoredEntity)) → AllByRecursion (λ y. uid_cmp x y ≡ Less) (map (λ r. r.entity_id) rs) → answered o rs os x ≡ o
fresh o x [] os h = refl
fresh o x (r ∷ rs) [] h = refl
fresh o x (r ∷ rs) (a ∷ os) h = step_past o r rs a os x (apart x r.entity_id h.0) ∙ fresh o x rs os h.1

others_none : (o : Option StoredEntity) (rs : List EntityRequest) (os : List (Option StoredEntity)) (x : EntityUID) → list_any (λ r. uid_eq r.entity_id x) rs ≡ false → answered o rs os x ≡ o
others_none o [] os x h = refl
others_none o (r ∷ rs) [] x h = refl
others_none o (r ∷ rs) (a ∷ os) x h = by (uid_eq r.entity_id x) refl h (others_none o rs os x)
  where
    by : (b : Bool) → uid_eq r.entity_id x ≡ b → (b || list_any (λ k. uid_eq k.entity_id x) rs) ≡ false → (list_any (λ k. uid_eq k.entity_id x) rs ≡ false → answered o rs os x ≡ o) → answered o (r ∷ rs) (a ∷ os) x ≡ o
    by true e f ih = absurd (cc)
    by false e f ih = step_past o r rs a os x e ∙ ih f

module _ (exact : Bool) (s : Store) where
  moved : (r : EntityRequest) (rs : List EntityRequest) (a : Option StoredEntity) (os : List (Option StoredEntity)) (ks : List EntityRequest)
      → AllByRecursion (λ y. uid_cmp r.entity_id y ≡ Less) (map (λ k. k.entity_id) ks) → AllByRecursion (λ k. IsHonest exact s k (answered None rs os k.entity_id)) ks
      → AllByRecursion (λ k. IsHonest exact s k (answered None (r ∷ rs) (a ∷ os) k.entity_id)) ks
  moved r rs a os [] up all = tt
  moved r rs a os (k ∷ ks) up all = (rw (step_past None r rs a os k.entity_id (apart_too r.entity_id k.entity_id up.0)) all.0, moved r rs a os ks up.1 all.1)

  honest_each : (rs : List EntityRequest) (os : List (Option StoredEntity)) → IsStrictlySortedBy uid_cmp (map (λ r. r.entity_id) rs) → AllZip (IsHonest exact s) rs os → AllByRecursion (λ r. IsHonest exact s r (answered None rs os r.entity_id)) rs
  unfolding IsStrictlySortedBy
  honest_each [] os up all = tt
  honest_each (r ∷ rs) [] up all = absurd all
  honest_each (r ∷ rs) (a ∷ os) up all = (
    rw (step_here r rs a os, fresh a r.entity_id rs os up.0) all.0,
    moved r rs a os rs up.0 (honest_each rs os up.1 all.1),
  )

  each_at : (f g : EntityUID → Option StoredEntity) → ((x : EntityUID) → f x ≡ g x) → (rs : List EntityRequest) → AllByRecursion (λ r. IsHonest exact s r (g r.entity_id)) rs → AllByRecursion (λ r. IsHonest exact s r (f r.entity_id)) rs
  each_at f g e [] all = tt
  each_at f g e (r ∷ rs) all = (rw (e r.entity_id) all.0, each_at f g e rs all.1)

  pub honest_all : (rs : List EntityRequest) (os : List (Option StoredEntity)) (f : EntityUID → Option StoredEntity) → IsStrictlySortedBy uid_cmp (map (λ r. r.entity_id) rs) → AllZip (IsHonest exact s) rs os
      → ((x : EntityUID) → f x ≡ answered None rs os x) → AreHonest exact s rs f
  honest_all rs os f up all is = record {
    each = each_at f (λ x. answered None rs os x) is rs (honest_each rs os up all);
    others = λ x h. is x ∙ others_none None rs os x h;
  }
