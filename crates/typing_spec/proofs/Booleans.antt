-- `&&`, `||` and `if`.
use Rattle.std.proofs.Common.{◌≡◌, Bool, true, false, List, [], ◌++◌, ◌⊎◌, inl, inr, Option, Some, None, refl, sym, ap, subst, ◌∙◌, IfSome}
use Rattle.policy_values.specs.Value.{Val, truth}
use Rattle.entity_store.specs.declared.request.Request.{Request}
use Rattle.entity_store.specs.Store.{Store}
use Rattle.schema_types.specs.declared.kinds.Primitive.TheVariants.{Bool as BoolType}
use Rattle.schema_types.specs.Ty.{Ty, true_type, false_type, primitive}
use Rattle.type_relations.specs.Member.{Member}
use Rattle.policy_core.specs.declared.outcome.EvalError.{EvalError}
use Rattle.policy_core.specs.declared.outcome.Outcome.{Outcome}
use Rattle.policy_core.specs.declared.outcome.Outcome.TheVariants.{Value, Error}
use Rattle.policy_core.specs.Eval.{truth_of, truth_outcome, choose}
use Rattle.typing_spec.specs.Capability.{Capability, common}
use Rattle.typing_spec.specs.Holds.{AllHold}
use Rattle.typing_spec.specs.Rules.{and_type, or_type}
use Rattle.typing_spec.specs.Typing.{and_caps, or_caps}
use Rattle.policy_core.specs.Allowed.{IsAllowedError}
use Rattle.typing_spec.specs.Sound.{IsOfType, IsTruth, Keeps}
use Rattle.typing_spec.proofs.Basics.{all_append, common_left, common_right}

abbrev pub IsBoolean : Ty → Type 0
IsBoolean true_type = Unit {0}
IsBoolean false_type = Unit {0}
IsBoolean (primitive BoolType) = Unit {0}
IsBoolean t = ⊥

pub boolean_member : (t : Ty) → IsBoolean t → (v : Val) → Member t v → (b : Bool) × (v ≡ truth b) × Member t (truth b)
boolean_member t k (truth b) h = (b, refl, h)
boolean_member true_type k v h = absurd h
boolean_member false_type k v h = absurd h
boolean_member (primitive BoolType) k v h = absurd h
boolean_member t k v h = absurd k

-- an outcome of a boolean type is a boolean or an allowed error
pub by_truth : (t : Ty) (P : Outcome → Type 0) (o : Outcome) → IsBoolean t → IsOfType t o → ((b : Bool) → Member t (truth b) → P (Value (truth b))) → ((e : EvalError) → IsAllowedError e → P (Error e)) → P o
by_truth t P (Value v) k h f g = let m = boolean_member t k v h in subst (λ x. P (Value x)) (sym m.1) (f m.0 m.2)
by_truth t P (Error e) k h f g = g e h

-- what is typed False is never true
pub never_true : (o : Outcome) → IsOfType false_type o → IsTruth o → ⊥
never_true o h = by_truth false_type (λ o. IsTruth o → ⊥) o tt h (λ b m e. cc) (λ e m f. cc)

pub not_false : (o : Outcome) → IsOfType true_type o → o ≡ Value (truth false) → ⊥
not_false o h = by_truth true_type (λ o. o ≡ Value (truth false) → ⊥) o tt h (λ b m e. cc) (λ e m f. cc)

-- the outcome of an operand of `&&` or `||` is itself
pub operand : (t : Ty) (o : Outcome) → IsBoolean t → IsOfType t o → truth_outcome (truth_of o) ≡ o
operand t o k h = by_truth t (λ o. truth_outcome (truth_of o) ≡ o) o k h (λ b m. refl) (λ e m. refl)

-- `&&`
record AndRule (t u w : Ty) : Type 0 where
  left : IsBoolean t
  right : IsBoolean u
  no : Member t (truth false) → Member w (truth false)
  yes : (b : Bool) → Member t (truth true) → Member u (truth b) → Member w (truth b)
  true_only : w ≡ true_type → (t ≡ true_type) × (u ≡ true_type)

and_rule : (t u : Ty) → IfSome (and_type t u) (AndRule t u)
and_rule true_type true_type = record { left = tt; right = tt; no = λ h. h; yes = λ b h k. k; true_only = λ e. (refl, refl) }
and_rule true_type false_type = record { left = tt; right = tt; no = λ h. refl; yes = λ b h k. k; true_only = λ e. absurd (cc) }
and_rule true_type (primitive BoolType) = record { left = tt; right = tt; no = λ h. tt; yes = λ b h k. k; true_only = λ e. absurd (cc) }
and_rule (primitive BoolType) true_type = record { left = tt; right = tt; no = λ h. tt; yes = λ b h k. tt; true_only = λ e. absurd (cc) }
and_rule (primitive BoolType) false_type = record { left = tt; right = tt; no = λ h. refl; yes = λ b h k. k; true_only = λ e. absurd (cc) }
and_rule (primitive BoolType) (primitive BoolType) = record { left = tt; right = tt; no = λ h. tt; yes = λ b h k. k; true_only = λ e. absurd (cc) }
and_rule t u = tt

abbrev pub and_out : Outcome → Outcome → Outcome
and_out o p = choose (truth_of o) (truth_outcome (truth_of p)) (Value (truth false))

module _ (q : Request) (s : Store) where
  -- an operator that makes nothing known
  pub plain_keeps : (w : Ty) (o p : Outcome) → IsOfType w o → p ≡ o → Keeps q s w [] o p
  plain_keeps w o p h e = record { value = h; same = e; if_true = λ _. tt; always = λ _. tt }

  and_caps_hold : (u : Ty) (cs ds : List Capability) → AllHold q s cs → AllHold q s ds → AllHold q s (and_caps u cs ds)
  and_caps_hold false_type cs ds h k = tt
  and_caps_hold u cs ds h k = all_append q s cs ds h k

  -- the promise, where the typed right side has another outcome p'
  abbrev AndKeeps : Ty → List Capability → Ty → List Capability → Outcome → Outcome → Outcome → Type 0
  AndKeeps w cs u ds p p' o = (IsTruth o → AllHold q s cs) → Keeps q s w (and_caps u cs ds) (and_out o p) (and_out o p')

  and_when : (t u w : Ty) → AndRule t u w → (cs ds : List Capability) (o p p' : Outcome) → IsOfType t o → (AllHold q s cs → Keeps q s u ds p p') → (t ≡ true_type → AllHold q s cs) → AndKeeps w cs u ds p p' o
  and_when t u w r cs ds o p p' h k a =
      by_truth t (AndKeeps w cs u ds p p') o r.left h
      (λ b m f. at b m f)
      (λ e m f. record { value = m; same = refl; if_true = λ i. absurd (cc); always = known })
    where
      known : w ≡ true_type → AllHold q s (and_caps u cs ds)
      known e = let i = r.true_only e in and_caps_hold u cs ds (a i.0) ((k (a i.0)).always i.1)

      at : (b : Bool) → Member t (truth b) → (IsTruth (Value (truth b)) → AllHold q s cs) → Keeps q s w (and_caps u cs ds) (and_out (Value (truth b)) p) (and_out (Value (truth b)) p')
      at false m f = record { value = r.no m; same = refl; if_true = λ i. absurd (cc); always = known }
      at true m f =
          let c = f refl in
          let n = k c in
          record {
            value = by_truth u (λ p. IsOfType w (truth_outcome (truth_of p))) p r.right n.value (λ b i. r.yes b m i) (λ e i. i);
            same = ap (λ x. truth_outcome (truth_of x)) n.same;
            if_true = λ i. and_caps_hold u cs ds c (n.if_true (sym (operand u p r.right n.value) ∙ i));
            always = known;
          }

  pub and_keeps : (t u : Ty) (cs ds : List Capability) (o o' p p' : Outcome) → Keeps q s t cs o o' → (AllHold q s cs → Keeps q s u ds p p') →
      IfSome (and_type t u) (λ w. Keeps q s w (and_caps u cs ds) (and_out o p) (and_out o' p'))
  and_keeps t u cs ds o o' p p' h k = elim_rule (and_type t u) (and_rule t u)
    where
      elim_rule : (x : Option Ty) → IfSome x (AndRule t u) → IfSome x (λ w. Keeps q s w (and_caps u cs ds) (and_out o p) (and_out o' p'))
      elim_rule None r = tt
      elim_rule (Some w) r =
          subst (λ x. Keeps q s w (and_caps u cs ds) (and_out o p) (and_out x p')) (sym h.same)
          (and_when t u w r cs ds o p p' h.value k h.always h.if_true)

  -- a left side that is never true leaves the right one unreached
  pub and_false_keeps : (cs : List Capability) (o o' p p' : Outcome) → Keeps q s false_type cs o o' → Keeps q s false_type [] (and_out o p) (and_out o' p')
  and_false_keeps cs o o' p p' h =
      subst (λ x. Keeps q s false_type [] (and_out o p) (and_out x p')) (sym h.same)
      (by_truth false_type (λ o. Keeps q s false_type [] (and_out o p) (and_out o p')) o tt h.value
      (λ b m. at b m)
      (λ e m. plain_keeps false_type (Error e) (Error e) m refl))
    where
      at : (b : Bool) → Member false_type (truth b) → Keeps q s false_type [] (and_out (Value (truth b)) p) (and_out (Value (truth b)) p')
      at false m = plain_keeps false_type (Value (truth false)) (Value (truth false)) refl refl
      at true m = absurd (cc)

-- `||`
record OrRule (t u w : Ty) : Type 0 where
  left : IsBoolean t
  right : IsBoolean u
  yes : Member t (truth true) → Member w (truth true)
  no : (b : Bool) → Member t (truth false) → Member u (truth b) → Member w (truth b)
  true_only : w ≡ true_type → u ≡ true_type

or_rule : (t u : Ty) → IfSome (or_type t u) (OrRule t u)
or_rule false_type true_type = record { left = tt; right = tt; yes = λ h. refl; no = λ b h k. k; true_only = λ e. refl }
or_rule false_type false_type = record { left = tt; right = tt; yes = λ h. h; no = λ b h k. k; true_only = λ e. absurd (cc) }
or_rule false_type (primitive BoolType) = record { left = tt; right = tt; yes = λ h. tt; no = λ b h k. k; true_only = λ e. absurd (cc) }
or_rule (primitive BoolType) true_type = record { left = tt; right = tt; yes = λ h. refl; no = λ b h k. k; true_only = λ e. refl }
or_rule (primitive BoolType) false_type = record { left = tt; right = tt; yes = λ h. tt; no = λ b h k. tt; true_only = λ e. absurd (cc) }
or_rule (primitive BoolType) (primitive BoolType) = record { left = tt; right = tt; yes = λ h. tt; no = λ b h k. k; true_only = λ e. absurd (cc) }
or_rule t u = tt

abbrev pub or_out : Outcome → Outcome → Outcome
or_out o p = choose (truth_of o) (Value (truth true)) (truth_outcome (truth_of p))

module _ (q : Request) (s : Store) where
  or_caps_hold : (t u : Ty) (cs ds : List Capability) (o o' p p' : Outcome) → Keeps q s t cs o o' → Keeps q s u ds p p' → IsTruth o ⊎ IsTruth p → AllHold q s (or_caps t u cs ds)
  or_caps_hold t true_type cs ds o o' p p' h k e = k.always refl
  or_caps_hold t false_type cs ds o o' p p' h k (inl e) = h.if_true e
  or_caps_hold t false_type cs ds o o' p p' h k (inr e) = absurd (never_true p k.value e)
  or_caps_hold false_type u cs ds o o' p p' h k (inl e) = absurd (never_true o h.value e)
  or_caps_hold false_type u cs ds o o' p p' h k (inr e) = k.if_true e
  or_caps_hold t u cs ds o o' p p' h k (inl e) = common_left q s cs ds (h.if_true e)
  or_caps_hold t u cs ds o o' p p' h k (inr e) = common_right q s cs ds (k.if_true e)

  -- where `||` is true, one side is
  or_parts : (t u : Ty) (o p : Outcome) → IsBoolean t → IsBoolean u → IsOfType t o → IsOfType u p → IsTruth (or_out o p) → IsTruth o ⊎ IsTruth p
  or_parts t u o p k l h i =
      by_truth t (λ o. IsTruth (or_out o p) → IsTruth o ⊎ IsTruth p) o k h (λ b m. at b) (λ e m f. absurd (cc))
    where
      at : (b : Bool) → IsTruth (or_out (Value (truth b)) p) → IsTruth (Value (truth b)) ⊎ IsTruth p
      at true f = inl refl
      at false f = inr (sym (operand u p l i) ∙ f)

  or_value : (t u w : Ty) → OrRule t u w → (o p : Outcome) → IsOfType t o → IsOfType u p → IsOfType w (or_out o p)
  or_value t u w r o p h i = by_truth t (λ o. IsOfType w (or_out o p)) o r.left h at (λ e m. m)
    where
      at : (b : Bool) → Member t (truth b) → IsOfType w (or_out (Value (truth b)) p)
      at true m = r.yes m
      at false m = by_truth u (λ p. IsOfType w (truth_outcome (truth_of p))) p r.right i (λ b n. r.no b m n) (λ e n. n)

  pub or_keeps : (t u : Ty) (cs ds : List Capability) (o o' p p' : Outcome) → Keeps q s t cs o o' → Keeps q s u ds p p' →
      IfSome (or_type t u) (λ w. Keeps q s w (or_caps t u cs ds) (or_out o p) (or_out o' p'))
  or_keeps t u cs ds o o' p p' h k = elim_rule (or_type t u) (or_rule t u)
    where
      elim_rule : (x : Option Ty) → IfSome x (OrRule t u) → IfSome x (λ w. Keeps q s w (or_caps t u cs ds) (or_out o p) (or_out o' p'))
      elim_rule None r = tt
      elim_rule (Some w) r = record {
        value = or_value t u w r o p h.value k.value;
        same = λ i. or_out (h.same i) (k.same i);
        if_true = λ e. or_caps_hold t u cs ds o o' p p' h k (or_parts t u o p r.left r.right h.value k.value e);
        always = λ e. subst (λ v. AllHold q s (or_caps t v cs ds)) (sym (r.true_only e)) (k.always (r.true_only e));
      }

  pub or_true_keeps : (cs : List Capability) (o o' p p' : Outcome) → Keeps q s true_type cs o o' → Keeps q s true_type cs (or_out o p) (or_out o' p')
  or_true_keeps cs o o' p p' h =
      subst (λ x. Keeps q s true_type cs (or_out o p) (or_out x p')) (sym h.same)
      (by_truth true_type (λ o. Keeps q s true_type cs (or_out o p) (or_out o p')) o tt h.value at
      (λ e m. record { value = m; same = refl; if_true = λ _. h.always refl; always = λ _. h.always refl }))
    where
      at : (b : Bool) → Member true_type (truth b) → Keeps q s true_type cs (or_out (Value (truth b)) p) (or_out (Value (truth b)) p')
      at true m = record { value = refl; same = refl; if_true = λ _. h.always refl; always = λ _. h.always refl }
      at false m = absurd (cc)

-- `if`
-- a type that has the members of both branches, and is that of true alone only where both are
pub record IsAbove (t u w : Ty) : Type 0 where
  pub left : (v : Val) → Member t v → Member w v
  pub right : (v : Val) → Member u v → Member w v
  pub true_only : w ≡ true_type → (t ≡ true_type) × (u ≡ true_type)

abbrev pub if_out : Outcome → Outcome → Outcome → Outcome
if_out o p r = choose (truth_of o) p r

module _ (q : Request) (s : Store) where
  pub if_true_keeps : (u : Ty) (cs ds : List Capability) (o o' p p' r r' : Outcome) → Keeps q s true_type cs o o' → (AllHold q s cs → Keeps q s u ds p p') → Keeps q s u (ds ++ cs) (if_out o p r) (if_out o' p' r')
  if_true_keeps u cs ds o o' p p' r r' h k =
      subst (λ x. Keeps q s u (ds ++ cs) (if_out o p r) (if_out x p' r')) (sym h.same)
      (by_truth true_type (λ o. Keeps q s u (ds ++ cs) (if_out o p r) (if_out o p' r')) o tt h.value at
      (λ e m. record { value = m; same = refl; if_true = λ i. absurd (cc); always = known }))
    where
      c : AllHold q s cs
      c = h.always refl

      known : u ≡ true_type → AllHold q s (ds ++ cs)
      known e = all_append q s ds cs ((k c).always e) c

      at : (b : Bool) → Member true_type (truth b) → Keeps q s u (ds ++ cs) (if_out (Value (truth b)) p r) (if_out (Value (truth b)) p' r')
      at true m = record { value = (k c).value; same = (k c).same; if_true = λ i. all_append q s ds cs ((k c).if_true i) c; always = known }
      at false m = absurd (cc)

  pub if_false_keeps : (u : Ty) (cs ds : List Capability) (o o' p p' r r' : Outcome) → Keeps q s false_type cs o o' → Keeps q s u ds r r' → Keeps q s u ds (if_out o p r) (if_out o' p' r')
  if_false_keeps u cs ds o o' p p' r r' h k =
      subst (λ x. Keeps q s u ds (if_out o p r) (if_out x p' r')) (sym h.same)
      (by_truth false_type (λ o. Keeps q s u ds (if_out o p r) (if_out o p' r')) o tt h.value at
      (λ e m. record { value = m; same = refl; if_true = λ i. absurd (cc); always = k.always }))
    where
      at : (b : Bool) → Member false_type (truth b) → Keeps q s u ds (if_out (Value (truth b)) p r) (if_out (Value (truth b)) p' r')
      at false m = k
      at true m = absurd (cc)

  pub wider : (t w : Ty) (o : Outcome) → ((v : Val) → Member t v → Member w v) → IsOfType t o → IsOfType w o
  wider t w (Value v) f h = f v h
  wider t w (Error e) f h = h

  pub if_keeps : (t u w : Ty) (cs ds es : List Capability) (o o' p p' r r' : Outcome) → IsAbove t u w → Keeps q s (primitive BoolType) cs o o' → (AllHold q s cs → Keeps q s t ds p p') → Keeps q s u es r r' →
      Keeps q s w (common es (ds ++ cs)) (if_out o p r) (if_out o' p' r')
  if_keeps t u w cs ds es o o' p p' r r' a h k l =
      subst (λ x. Keeps q s w (common es (ds ++ cs)) (if_out o p r) (if_out x p' r')) (sym h.same)
      (by_truth (primitive BoolType) (λ o. (IsTruth o → AllHold q s cs) → Keeps q s w (common es (ds ++ cs)) (if_out o p r) (if_out o p' r')) o tt h.value at
      (λ e m f. record { value = m; same = refl; if_true = λ i. absurd (cc); always = known }) h.if_true)
    where
      known : w ≡ true_type → AllHold q s (common es (ds ++ cs))
      known e = common_left q s es (ds ++ cs) (l.always (a.true_only e).1)

      at : (b : Bool) → Member (primitive BoolType) (truth b) → (IsTruth (Value (truth b)) → AllHold q s cs) → Keeps q s w (common es (ds ++ cs)) (if_out (Value (truth b)) p r) (if_out (Value (truth b)) p' r')
      at true m f =
          let c = f refl in
          record { value = wider t w p a.left (k c).value; same = (k c).same; if_true = λ i. common_right q s es (ds ++ cs) (all_append q s ds cs ((k c).if_true i) c); always = known }
      at false m f = record { value = wider u w r a.right l.value; same = l.same; if_true = λ i. common_left q s es (ds ++ cs) (l.if_true i); always = known }
