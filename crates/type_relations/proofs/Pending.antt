-- What is left of a walk over a map of attributes.
use Rattle.std.proofs.Common.{◌≡◌, inl, inr, ℕ, List, [], ◌∷◌, Bool, Option, Some, None, Bor, sym, subst}
use Rattle.std.specs.Prelude.{◌↔◌, ◌⊎◌, MatchOption}
use Rattle.schema_types.specs.declared.kinds.OpenTag.{OpenTag}
use Rattle.type_relations.specs.declared.mode.SubtypeMode.{SubtypeMode}
use Rattle.type_relations.specs.Subtype.{IsPermissive, IsOpen, Subtype, SubRequired, SubAttrs, Covers}
use Rattle.type_relations.proofs.SubtypeLaws.{covers_rest, covers_of_attrs}
use Rattle.schema_types.specs.Ty.{Ty, Attrs, attr}
use Rattle.policy_values.specs.declared.text.Text.{Text}
use Rattle.schema_types.specs.declared.ty.AttributeType.{AttributeType}

abbrev Entries : Type 0
Entries = List (List ℕ × AttributeType)

-- what is still to come: an entry that was taken already, and those behind it
abbrev pub pending : Option (Bor Text × Bor AttributeType) → Entries → Entries
pending None es = []
pending (Some d) es = (d.0.now, d.1.now) ∷ es

pub pending_next : (o : Option (Bor Text × Bor AttributeType)) (es rest : Entries) → MatchOption o ((es ≡ []) × (rest ≡ [])) (λ x. es ≡ (x.0.now, x.1.now) ∷ rest) → pending o rest ≡ es
pending_next None es rest h = sym h.0
pending_next (Some x) es rest h = sym h

covers_step : (m : SubtypeMode) (k : List ℕ) (t : Ty) (q : Bool) (xs : Attrs) (l : List ℕ) (u : Ty) (r : Bool) (ys : Attrs) → Covers m (attr k t q xs) (attr l u r ys) → Covers m xs ys
covers_step m k t q xs l u r ys (inl h) = h.3
covers_step m k t q xs l u r ys (inr h) = covers_rest m xs l u r ys h

-- where the first attributes match, the rest decides
pub covers_turn : (m : SubtypeMode) (A : Type 0) (ws expected zs : Attrs) (k : List ℕ) (t : Ty) (q : Bool) (xs : Attrs) (l : List ℕ) (u : Ty) (r : Bool) (ys : Attrs) → (A ↔ Covers m ws expected) → ws ≡ attr k t q xs → expected ≡ attr l u r ys → zs ≡ ys → k ≡ l → Subtype m t u × SubRequired m q r → A ↔ Covers m xs zs
covers_turn m A ws expected zs k t q xs l u r ys inv w d z e b = (
  λ a. subst (λ v. Covers m xs v) (sym z) (covers_step m k t q xs l u r ys (subst (λ v. Covers m (attr k t q xs) v) d (subst (λ v. Covers m v expected) w (inv.0 a)))),
  λ h. inv.1 (subst (λ v. Covers m v expected) (sym w) (subst (λ v. Covers m (attr k t q xs) v) (sym d) (inl (e, b.0, b.1, subst (λ v. Covers m xs v) z h)))),
)

covered_either : (m : SubtypeMode) (p : OpenTag) (xs ys : Attrs) → (IsPermissive m × IsOpen p × Covers m xs ys) ⊎ SubAttrs m xs ys → Covers m xs ys
covered_either m p xs ys (inl h) = h.2
covered_either m p xs ys (inr h) = covers_of_attrs m xs ys h

-- in an open record one walk decides
pub one_walk : (m : SubtypeMode) (p : OpenTag) (xs ys : Attrs) (A : Type 0) → IsPermissive m → IsOpen p → (A ↔ Covers m xs ys) → A ↔ ((IsPermissive m × IsOpen p × Covers m xs ys) ⊎ SubAttrs m xs ys)
one_walk m p xs ys A a b c = (λ h. inl (a, b, c.0 h), λ h. c.1 (covered_either m p xs ys h))
