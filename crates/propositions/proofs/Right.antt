-- What is known of propositions is so.
use Rattle.std.proofs.Common.{◌≡◌, ◌<◌, ℕ, zero, suc, Bool, true, false, not, ◌&&◌, ◌||◌, List, [], ◌∷◌, ◌++◌, Option, Some, None, length, refl, sym, ap, subst, ◌∙◌, slice_index_or, set, get_or-set_other, get_or-set_same, ◌⊎◌, inl, inr}
use Rattle.std.proofs.Common.{is_some}
use Rattle.std.proofs.lemmas.List.{set-set, set-get_or}
use Rattle.std.proofs.lemmas.Bool.{cases_eq}
use Rattle.propositions.specs.declared.circuit.Gate.{Gate}
use Rattle.propositions.specs.declared.circuit.Gate.TheVariants.{Constant, Atom, Negation, Both, Either}
use Rattle.propositions.specs.Circuits.{gate_holds, values_after, values, holds}
use Rattle.propositions.specs.Known.{Agrees, not_known, both_known, either_known, gate_known, known_after, known_of}

abbrev IsRight : Option Bool → Bool → Type 0
IsRight None b = Unit {0}
IsRight (Some a) b = b ≡ a

abbrev AreRight : List (Option Bool) → List Bool → Type 0
AreRight [] [] = Unit {0}
AreRight (k ∷ ks) (b ∷ bs) = IsRight k b × AreRight ks bs
AreRight ks bs = ⊥

right_at : (ks : List (Option Bool)) (bs : List Bool) → AreRight ks bs → (i : ℕ) → IsRight (slice_index_or ks i None) (slice_index_or bs i false)
right_at [] [] h i = tt
right_at [] (b ∷ bs) h i = absurd h
right_at (k ∷ ks) [] h i = absurd h
right_at (k ∷ ks) (b ∷ bs) h zero = h.0
right_at (k ∷ ks) (b ∷ bs) h (suc i) = right_at ks bs h.1 i

one_more : (ks : List (Option Bool)) (bs : List Bool) (k : Option Bool) (b : Bool) → AreRight ks bs → IsRight k b → AreRight (ks ++ k ∷ []) (bs ++ b ∷ [])
one_more [] [] k b h i = (i, tt)
one_more [] (c ∷ bs) k b h i = absurd h
one_more (l ∷ ks) [] k b h i = absurd h
one_more (l ∷ ks) (c ∷ bs) k b h i = (h.0, one_more ks bs k b h.1 i)

not_right : (x : Option Bool) (b : Bool) → IsRight x b → IsRight (not_known x) (not b)
not_right None b h = tt
not_right (Some a) b h = ap not h

both_right : (x y : Option Bool) (a b : Bool) → IsRight x a → IsRight y b → IsRight (both_known x y) (a && b)
both_right None None a b p q = tt
both_right None (Some true) a b p q = tt
both_right None (Some false) true b p q = q
both_right None (Some false) false b p q = refl
both_right (Some true) None a b p q = tt
both_right (Some true) (Some c) true b p q = q
both_right (Some true) (Some c) false b p q = cc
both_right (Some false) y true b p q = cc
both_right (Some false) y false b p q = refl

either_right : (x y : Option Bool) (a b : Bool) → IsRight x a → IsRight y b → IsRight (either_known x y) (a || b)
either_right None None a b p q = tt
either_right None (Some false) a b p q = tt
either_right None (Some true) true b p q = refl
either_right None (Some true) false b p q = q
either_right (Some false) None a b p q = tt
either_right (Some false) (Some c) false b p q = q
either_right (Some false) (Some c) true b p q = cc
either_right (Some true) y true b p q = refl
either_right (Some true) y false b p q = cc

module _ (v : ℕ → Bool) (atoms : List (Option Bool)) (agrees : Agrees v atoms) where
  atom_right : (i : ℕ) (o : Option Bool) → slice_index_or atoms i None ≡ o → IsRight o (v i)
  atom_right i None e = tt
  atom_right i (Some b) e = agrees i b e

  gate_right : (ks : List (Option Bool)) (bs : List Bool) → AreRight ks bs → (g : Gate) → IsRight (gate_known atoms ks g) (gate_holds v bs g)
  gate_right ks bs h (Constant b) = refl
  gate_right ks bs h (Atom i) = atom_right i (slice_index_or atoms i None) refl
  gate_right ks bs h (Negation x) = not_right (slice_index_or ks x None) (slice_index_or bs x false) (right_at ks bs h x)
  gate_right ks bs h (Both x y) = both_right (slice_index_or ks x None) (slice_index_or ks y None) (slice_index_or bs x false) (slice_index_or bs y false) (right_at ks bs h x) (right_at ks bs h y)
  gate_right ks bs h (Either x y) = either_right (slice_index_or ks x None) (slice_index_or ks y None) (slice_index_or bs x false) (slice_index_or bs y false) (right_at ks bs h x) (right_at ks bs h y)

  after_right : (ks : List (Option Bool)) (bs : List Bool) → AreRight ks bs → (gs : List Gate) → AreRight (known_after atoms ks gs) (values_after v bs gs)
  after_right ks bs h [] = h
  after_right ks bs h (g ∷ gs) = after_right (ks ++ gate_known atoms ks g ∷ []) (bs ++ gate_holds v bs g ∷ []) (one_more ks bs (gate_known atoms ks g) (gate_holds v bs g) h (gate_right ks bs h g)) gs

  -- what is known of a proposition is so
  pub known_right : (gs : List Gate) (n : ℕ) (b : Bool) → slice_index_or (known_of atoms gs) n None ≡ Some b → holds v gs n ≡ b
  unfolding holds
  known_right gs n b e = subst (λ k. IsRight k (slice_index_or (values v gs) n false)) e (right_at (known_of atoms gs) (values v gs) (after_right [] [] tt gs) n)

-- of one atom more, once it is supposed
pub agrees_set : (v : ℕ → Bool) (atoms : List (Option Bool)) (k : ℕ) (b : Bool) → Agrees v atoms → k < length atoms → v k ≡ b → Agrees v (set atoms k (Some b))
agrees_set v atoms k b h lt e i c is = by (cases_eq i k)
  where
    some_back : {x y : Bool} → Some x ≡ Some y → x ≡ y
    some_back p = cc p

    by : (i ≡ k) ⊎ (i ≡ k → ⊥) → v i ≡ c
    by (inl same) = ap v same ∙ e ∙ some_back (sym (get_or-set_same atoms k (Some b) None lt) ∙ ap (λ j. slice_index_or (set atoms k (Some b)) j None) (sym same) ∙ is)
    by (inr other) = h i c (sym (get_or-set_other atoms k i (Some b) None other) ∙ is)

pub either_way : {P : Type 0} (b : Bool) → (b ≡ false → P) → (b ≡ true → P) → P
either_way true low high = high refl
either_way false low high = low refl

-- what is supposed of an atom last is what counts, and what was known of it before comes back
pub restored : (old one two : List (Option Bool)) (k : ℕ) → slice_index_or old k None ≡ None → one ≡ set old k (Some false) → two ≡ set one k (Some true) → set two k None ≡ old
restored old one two k none p q =
    ap (λ xs. set xs k None) q ∙ set-set one k (Some true) None ∙ ap (λ xs. set xs k None) p ∙ set-set old k (Some false) None
    ∙ ap (λ o. set old k o) (sym none) ∙ set-get_or old k None

pub second_set : (old one : List (Option Bool)) (k : ℕ) → one ≡ set old k (Some false) → set one k (Some true) ≡ set old k (Some true)
second_set old one k p = ap (λ xs. set xs k (Some true)) p ∙ set-set old k (Some false) (Some true)

pub none_at : (xs : List (Option Bool)) (k : ℕ) (o : Option Bool) → o ≡ slice_index_or xs k o → is_some o ≡ false → slice_index_or xs k None ≡ None
none_at xs k None e h = sym e
none_at xs k (Some b) e h = cc
