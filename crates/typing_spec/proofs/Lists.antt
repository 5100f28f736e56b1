-- Sets and records.
use Rattle.std.proofs.Common.{◌≡◌, ℕ, Bool, true, false, not, ◌||◌, ◌⊎◌, inr, List, [], ◌∷◌, Option, Some, None, IsTrue, Result, Ok, Err, Ordering, refl, sym, ap, subst, cond, map, IfSome}
use Rattle.std.specs.Ordering.{match_ordering}
use Rattle.std.specs.declared.cmp.Ordering.TheVariants.{Less, Equal, Greater}
use Rattle.policy_values.specs.Value.{Val, Vals, no_vals, val, Fields, field, fields_of}
use Rattle.policy_values.specs.ValueOrder.{val_cmp, insert_val, insert_all, set_of as ordered}
use Rattle.schema_types.specs.declared.kinds.OpenTag.TheVariants.{ClosedAttributes}
use Rattle.schema_types.specs.declared.ty.AttributeType.{AttributeType}
use Rattle.schema_types.specs.Attrs.{attr_at}
use Rattle.schema_types.specs.Required.{required_attrs}
use Rattle.schema_types.specs.Ty.{Ty, set_of, Attrs, no_attrs, attr}
use Rattle.type_relations.specs.Join.{text_eq}
use Rattle.type_relations.specs.Member.{has_field, type_of, Undeclared, IsDeclared, HasRequired, Member, Members, Typed}
use Rattle.type_relations.proofs.MemberLaws.{member_sub}
use Rattle.policy_core.specs.declared.outcome.EvalError.{EvalError}
use Rattle.policy_core.specs.declared.outcome.Outcome.{Outcome}
use Rattle.policy_core.specs.declared.outcome.Outcome.TheVariants.{Value, Error}
use Rattle.policy_core.specs.Eval.{in_prefix, set_outcome, record_outcome}
use Rattle.typing_spec.specs.Rules.{set_type}
use Rattle.policy_core.specs.Allowed.{IsAllowedError}
use Rattle.typing_spec.specs.Sound.{IsOfType}
use Rattle.typing_spec.specs.Typing.{Typing, record_type}
use Rattle.typing_spec.proofs.Ids.{text_itself}
use Rattle.typing_spec.proofs.Kept.{AllKept, AllBelow, IsSetOf, set_above}

-- each value is of the type in its place
abbrev pub AreMembers : List Ty → List Val → Type 0
AreMembers [] [] = Unit {0}
AreMembers (t ∷ ts) (v ∷ vs) = Member t v × AreMembers ts vs
AreMembers ts vs = ⊥

-- values of the types, or an allowed error
abbrev pub AreOf : List Ty → Result (List Val) EvalError → Type 0
AreOf ts (Ok vs) = AreMembers ts vs
AreOf ts (Err e) = IsAllowedError e

pub prefix_of : (t : Ty) (ts : List Ty) (o : Outcome) (r : Result (List Val) EvalError) → IsOfType t o → AreOf ts r → AreOf (t ∷ ts) (in_prefix (λ v. v) o r)
prefix_of t ts (Error e) r h i = h
prefix_of t ts (Value v) (Ok vs) h i = (h, i)
prefix_of t ts (Value v) (Err e) h i = i

-- the elements of a set
abbrev pub EachIs : (Val → Type 0) → List Val → Type 0
EachIs P [] = Unit {0}
EachIs P (v ∷ vs) = P v × EachIs P vs

abbrev pub AllIs : (Val → Type 0) → Vals → Type 0
AllIs P no_vals = Unit {0}
AllIs P (val v vs) = P v × AllIs P vs

inserted : (P : Val → Type 0) (v : Val) (ws : Vals) → P v → AllIs P ws → AllIs P (insert_val v ws)
inserted P v no_vals h i = (h, tt)
inserted P v (val w ws) h i = by (val_cmp v w) (inserted P v ws h i.1)
  where
    by : (o : Ordering) → AllIs P (insert_val v ws) → AllIs P (match_ordering o (val v (val w ws)) (val w ws) (val w (insert_val v ws)))
    by Less rest = (h, i)
    by Equal rest = i
    by Greater rest = (i.0, rest)

pub ordered_all : (P : Val → Type 0) (vs : List Val) → EachIs P vs → AllIs P (ordered vs)
ordered_all P [] h = tt
ordered_all P (v ∷ vs) h = inserted P v (insert_all vs no_vals) h.0 (ordered_all P vs h.1)

members_of : (t : Ty) (vs : Vals) → AllIs (Member t) vs → Members t vs
members_of t no_vals h = tt
members_of t (val v vs) h = (h.0, members_of t vs h.1)

widen : (ts : List Ty) (vs : List Val) (w : Ty) → AllBelow ts w → AreMembers ts vs → EachIs (Member w) vs
widen [] [] w h i = tt
widen (t ∷ ts) (v ∷ vs) w h i = (member_sub t w v h.0 i.0, widen ts vs w h.1 i.1)
widen [] (v ∷ vs) w h i = absurd i
widen (t ∷ ts) [] w h i = absurd i

pub set_of_type : (ts : List Ty) (r : Result (List Val) EvalError) → AllKept ts → AreOf ts r → IfSome (set_type ts) (λ w. IsOfType w (set_outcome r))
set_of_type ts r a h = by (set_type ts) (set_above ts a)
  where
    at : (e : Ty) → AllBelow ts e → (r : Result (List Val) EvalError) → AreOf ts r → IsOfType (set_of e) (set_outcome r)
    at e b (Ok vs) i = members_of e (ordered vs) (ordered_all (Member e) vs (widen ts vs e b i))
    at e b (Err x) i = i

    by : (o : Option Ty) → IfSome o (IsSetOf ts) → IfSome o (λ w. IsOfType w (set_outcome r))
    by None i = tt
    by (Some w) i = subst (λ w. IsOfType w (set_outcome r)) (sym i.is) (at i.element i.below r h)

-- the fields of a record, each under the key of its operand and of the operand's type
abbrev pub AreFields : List (List ℕ × Typing) → List (List ℕ × Val) → Type 0
AreFields [] [] = Unit {0}
AreFields (y ∷ ys) (f ∷ fs) = (y.0 ≡ f.0) × Member y.1.type f.1 × AreFields ys fs
AreFields ys fs = ⊥

abbrev pub AreFieldsOf : List (List ℕ × Typing) → Result (List (List ℕ × Val)) EvalError → Type 0
AreFieldsOf ys (Ok fs) = AreFields ys fs
AreFieldsOf ys (Err e) = IsAllowedError e

pub prefix_field : (k : List ℕ) (x : Typing) (ys : List (List ℕ × Typing)) (o : Outcome) (r : Result (List (List ℕ × Val)) EvalError) → IsOfType x.type o → AreFieldsOf ys r → AreFieldsOf ((k, x) ∷ ys) (in_prefix (λ v. (k, v)) o r)
prefix_field k x ys (Error e) r h i = h
prefix_field k x ys (Value v) (Ok fs) h i = (refl, h, i)
prefix_field k x ys (Value v) (Err e) h i = i

-- no key stands twice
abbrev pub IsNew : List ℕ → List (List ℕ × Typing) → Type 0
IsNew k [] = Unit {0}
IsNew k (y ∷ ys) = (text_eq y.0 k ≡ false) × IsNew k ys

abbrev pub AreNew : List (List ℕ × Typing) → Type 0
AreNew [] = Unit {0}
AreNew (y ∷ ys) = IsNew y.0 ys × AreNew ys

abbrev attrs_in : List (List ℕ × Typing) → Attrs
attrs_in ys = required_attrs (map (λ e. (e.0, e.1.type)) ys)

required_more : (xs : Attrs) (k : List ℕ) (v : Val) (fs : Fields) → HasRequired xs fs → HasRequired xs (field k v fs)
required_more no_attrs k v fs h = tt
required_more (attr l t q xs) k v fs h = (by (text_eq l k) q (has_field fs l) h.0, required_more xs k v fs h.1)
  where
    by : (b q c : Bool) → IsTrue (not q || c) → IsTrue (not q || (b || c))
    by true true c i = refl
    by true false c i = refl
    by false q c i = i

has_first : (k l : List ℕ) (v : Val) (fs : Fields) → k ≡ l → IsTrue (has_field (field l v fs) k)
has_first k l v fs e = subst (λ m. (text_eq k m || has_field fs k) ≡ true) e (ap (λ b. b || has_field fs k) (text_itself k))

typed_more : (k : List ℕ) (t : Ty) (xs : Attrs) (ys : List (List ℕ × Typing)) (fs : List (List ℕ × Val)) → IsNew k ys → AreFields ys fs → Typed ClosedAttributes xs (fields_of fs) → Typed ClosedAttributes (attr k t true xs) (fields_of fs)
typed_more k t xs [] [] n h i = tt
typed_more k t xs (y ∷ ys) (f ∷ fs) n h i =
    (subst (λ b. Fits (cond b (Some (record { attr_type = t; is_required = true })) (attr_at xs f.0))) (sym (subst (λ m. text_eq m k ≡ false) h.0 n.0)) i.0, typed_more k t xs ys fs n.1 h.2 i.1)
  where
    Fits : Option AttributeType → Type 0
    Fits a = Undeclared ClosedAttributes a ⊎ (IsDeclared a × Member (type_of a) f.1)
typed_more k t xs [] (f ∷ fs) n h i = absurd h
typed_more k t xs (y ∷ ys) [] n h i = absurd h

typed_first : (k l : List ℕ) (t : Ty) (xs : Attrs) (v : Val) → k ≡ l → Member t v → Undeclared ClosedAttributes (attr_at (attr k t true xs) l) ⊎ (IsDeclared (attr_at (attr k t true xs) l) × Member (type_of (attr_at (attr k t true xs) l)) v)
typed_first k l t xs v e m =
    let f : text_eq l k ≡ true = subst (λ n. text_eq n k ≡ true) e (text_itself k) in
    subst (λ b. Undeclared ClosedAttributes (cond b (Some (record { attr_type = t; is_required = true })) (attr_at xs l)) ⊎ (IsDeclared (cond b (Some (record { attr_type = t; is_required = true })) (attr_at xs l)) × Member (type_of (cond b (Some (record { attr_type = t; is_required = true })) (attr_at xs l))) v))
    (sym f) (inr (tt, m))

record_members : (ys : List (List ℕ × Typing)) (fs : List (List ℕ × Val)) → AreNew ys → AreFields ys fs → HasRequired (attrs_in ys) (fields_of fs) × Typed ClosedAttributes (attrs_in ys) (fields_of fs)
record_members [] [] n h = (tt, tt)
record_members (y ∷ ys) (f ∷ fs) n h =
    let r = record_members ys fs n.1 h.2 in (
      (has_first y.0 f.0 f.1 (fields_of fs) h.0, required_more (attrs_in ys) f.0 f.1 (fields_of fs) r.0),
      (typed_first y.0 f.0 y.1.type (attrs_in ys) f.1 h.0 h.1, typed_more y.0 y.1.type (attrs_in ys) ys fs n.0 h.2 r.1),
    )
record_members [] (f ∷ fs) n h = absurd h
record_members (y ∷ ys) [] n h = absurd h

pub record_of_type : (ys : List (List ℕ × Typing)) (r : Result (List (List ℕ × Val)) EvalError) → AreNew ys → AreFieldsOf ys r → IsOfType (record_type ys) (record_outcome r)
record_of_type ys (Ok fs) n h = record_members ys fs n h
record_of_type ys (Err e) n h = h
