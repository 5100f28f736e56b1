-- Capabilities that are alike are alike for every use.
use Rattle.std.proofs.Common.{◌≡◌, Bool, true, false, ◌&&◌, ◌||◌, ◌⊎◌, inl, inr, List, [], ◌∷◌, ◌++◌, ap, refl, sym, ◌∙◌, cond}
use Rattle.std.specs.Prelude.{◌↔◌, fold}
use Rattle.std.specs.Bool.{Decides}
use Rattle.std.specs.Cmp.{IsEquivalence, IsPartialEquivalence, equiv, on_equiv, first_so, second_so}
use Rattle.std.proofs.lemmas.Bool.Decides.{Decides-and, Decides-or, Decides-at}
use Rattle.std.proofs.lemmas.Map.Steps.{list_any_congr}
use Rattle.std.proofs.lemmas.Cmp.{and_equiv}
use Rattle.std.specs.Hash as fed
use Rattle.std.specs.Hash.DefaultHasher as sip
use Rattle.typing_spec.specs.Bare.{coded_text, same_tree}
use Rattle.typing_spec.specs.BareLaws.{same_decides, same_stored_equiv, same_tree_decides, same_tree_equiv}
use Rattle.typing_spec.specs.PathLaws.{same_path}
use Rattle.typing_spec.specs.Capability.{Access, Attribute, Tag, Capability, SameAccess, AreAlike, IsKnown, same_access, is_alike, has_cap, common, is_covered, same_known, access_fed, capability_fed, print_of}

pub same_access_decides : (x y : Access) → Decides (same_access x y) (SameAccess x y)
same_access_decides (Attribute m) (Attribute n) = same_decides coded_text m n
same_access_decides (Tag k) (Tag l) = same_tree_decides k l
same_access_decides x y = (λ h. absurd (cc), λ h. absurd h)

same_access_symm : (x y : Access) → same_access x y ≡ same_access y x
same_access_symm (Attribute m) (Attribute n) = same_stored_equiv.symm (coded_text.code m) (coded_text.code n)
same_access_symm (Tag k) (Tag l) = same_tree_equiv.symm k l
same_access_symm (Attribute m) (Tag l) = refl
same_access_symm (Tag k) (Attribute n) = refl

same_access_trans : (x y z : Access) → same_access x y ≡ true → same_access y z ≡ true → same_access x z ≡ true
same_access_trans (Attribute m) (Attribute n) (Attribute o) h g =
    same_stored_equiv.congr (coded_text.code m) (coded_text.code n) (coded_text.code o) h ∙ g
same_access_trans (Tag k) (Tag l) (Tag m) h g = same_tree_equiv.congr k l m h ∙ g
same_access_trans x y z h g = cc

same_access_refl : (x : Access) → same_access x x ≡ true
same_access_refl (Attribute n) = same_stored_equiv.refl (coded_text.code n)
same_access_refl (Tag k) = same_tree_equiv.refl k

same_access_equiv : IsEquivalence same_access
same_access_equiv = equiv (record { symm = same_access_symm; trans = same_access_trans }) same_access_refl

pub alike_decides : (k m : Capability) → Decides (is_alike k m) (AreAlike k m)
alike_decides k m =
    Decides-and (same_tree k.on m.on) (same_access k.what m.what)
    (same_tree_decides k.on m.on) (same_access_decides k.what m.what)

pub alike_equiv : IsEquivalence is_alike
alike_equiv =
    and_equiv (on_equiv (λ k. k.on) same_tree_equiv)
    (on_equiv (λ k. k.what) same_access_equiv)

-- the test for known capabilities decides whether they are known
pub known_decides : (cs : List Capability) (k : Capability) → Decides (has_cap cs k) (IsKnown cs k)
known_decides [] k = (λ h. absurd (cc), λ h. absurd h)
known_decides (c ∷ cs) k = Decides-or (is_alike k c) (has_cap cs k) (alike_decides k c) (known_decides cs k)

-- a list and another behind it know what either knows
pub known_append : (cs ds : List Capability) (k : Capability) →
    IsKnown (cs ++ ds) k ↔ (IsKnown cs k ⊎ IsKnown ds k)
known_append [] ds k = (inr, elim [ inl h ↦ absurd h | inr h ↦ h ])
known_append (c ∷ cs) ds k =
    let e = known_append cs ds k in (
      elim [ inl h ↦ inl (inl h) | inr h ↦ elim (e.0 h) [ inl a ↦ inl (inr a) | inr b ↦ inr b ] ],
      elim [ inl h ↦ elim h [ inl a ↦ inl a | inr b ↦ inr (e.1 (inl b)) ] | inr h ↦ inr (e.1 (inr h)) ],
    )

-- what is known is known of all that is alike
pub has_alike : (cs : List Capability) (k m : Capability) → is_alike k m ≡ true → has_cap cs k ≡ has_cap cs m
has_alike cs k m h = list_any_congr alike_equiv k m cs h

chosen : (t a s d : Bool) → (a ≡ true → d ≡ t) → ((t && a) || (s && d)) ≡ ((a || s) && d)
chosen true true s d h = sym (h refl)
chosen false true true d h = refl
chosen false true false d h = sym (h refl)
chosen true false s d h = refl
chosen false false s d h = refl

has_cond : (t : Bool) (c : Capability) (cs : List Capability) (k : Capability) →
    has_cap (cond t (c ∷ cs) cs) k ≡ ((t && is_alike k c) || has_cap cs k)
has_cond true c cs k = refl
has_cond false c cs k = refl

has_common : (cs ds : List Capability) (k : Capability) →
    has_cap (common cs ds) k ≡ (has_cap cs k && has_cap ds k)
has_common [] ds k = refl
has_common (c ∷ cs) ds k =
    has_cond (has_cap ds c) c (common cs ds) k
    ∙ ap (λ b. (has_cap ds c && is_alike k c) || b) (has_common cs ds k)
    ∙ chosen (has_cap ds c) (is_alike k c) (has_cap cs k) (has_cap ds k) (λ h. has_alike ds k c h)

-- what two lists have in common are those that both know
pub known_common : (cs ds : List Capability) (k : Capability) →
    IsKnown (common cs ds) k ↔ (IsKnown cs k × IsKnown ds k)
known_common cs ds k =
    let d = known_decides (common cs ds) k in
    let e = Decides-at (has_cap (common cs ds) k) (has_cap cs k && has_cap ds k) (has_common cs ds k)
    (Decides-and (has_cap cs k) (has_cap ds k) (known_decides cs k) (known_decides ds k)) in
    (λ h. e.0 (d.1 h), λ h. d.0 (e.1 h))

or_left : (a b : Bool) → a ≡ true → (a || b) ≡ true
or_left true b h = refl
or_left false b h = cc

or_right : (a b : Bool) → b ≡ true → (a || b) ≡ true
or_right true b h = refl
or_right false b h = h

covered_from : (cs ds : List Capability) →
    ((k : Capability) → has_cap cs k ≡ true → has_cap ds k ≡ true) → is_covered cs ds ≡ true
covered_from [] ds h = refl
covered_from (c ∷ cs) ds h =
    (Decides-and (has_cap ds c) (is_covered cs ds) (λ p. p, λ p. p) (λ p. p, λ p. p)).1 (
      h c (or_left (is_alike c c) (has_cap cs c) (alike_equiv.refl c)),
      covered_from cs ds (λ k e. h k (or_right (is_alike k c) (has_cap cs k) e)),
    )

covered_step : (ds : List Capability) (c k : Capability) (a s : Bool) → a ≡ is_alike k c →
    has_cap ds c ≡ true → (s ≡ true → has_cap ds k ≡ true) → (a || s) ≡ true → has_cap ds k ≡ true
covered_step ds c k true s e h r p = has_alike ds k c (sym e) ∙ h
covered_step ds c k false s e h r p = r p

covered_has : (cs ds : List Capability) → is_covered cs ds ≡ true →
    (k : Capability) → has_cap cs k ≡ true → has_cap ds k ≡ true
covered_has [] ds h k p = cc
covered_has (c ∷ cs) ds h k p =
    covered_step ds c k (is_alike k c) (has_cap cs k) refl (first_so (has_cap ds c) (is_covered cs ds) h)
    (covered_has cs ds (second_so (has_cap ds c) (is_covered cs ds) h) k) p

and_swap : (a b : Bool) → (a && b) ≡ (b && a)
and_swap true true = refl
and_swap true false = refl
and_swap false true = refl
and_swap false false = refl

-- lists know the same exactly where each capability is known to both or to neither
pub same_known_decides : (cs ds : List Capability) →
    Decides (same_known cs ds) ((k : Capability) → IsKnown cs k ↔ IsKnown ds k)
same_known_decides cs ds = (
  λ h k.
      let c = known_decides cs k in
      let d = known_decides ds k in (
        λ p. d.0 (covered_has cs ds (first_so (is_covered cs ds) (is_covered ds cs) h) k (c.1 p)),
        λ p. c.0 (covered_has ds cs (second_so (is_covered cs ds) (is_covered ds cs) h) k (d.1 p)),
      ),
  λ h. (Decides-and (is_covered cs ds) (is_covered ds cs) (λ p. p, λ p. p) (λ p. p, λ p. p)).1 (
    covered_from cs ds (λ k p. (known_decides ds k).1 ((h k).0 ((known_decides cs k).0 p))),
    covered_from ds cs (λ k p. (known_decides cs k).1 ((h k).1 ((known_decides ds k).0 p))),
  ),
)

pub known_partial : IsPartialEquivalence same_known
known_partial = record {
  symm = λ cs ds. and_swap (is_covered cs ds) (is_covered ds cs);
  trans = λ cs ds es h g.
      let p = (same_known_decides cs ds).0 h in
      let q = (same_known_decides ds es).0 g in
      (same_known_decides cs es).1 (λ k. (λ r. (q k).0 ((p k).0 r), λ r. (p k).1 ((q k).1 r)));
}

pub known_equiv : IsEquivalence same_known
known_equiv = equiv known_partial (λ cs. (same_known_decides cs cs).1 (λ k. (λ p. p, λ p. p)))

access_fed_alike : (x y : Access) → SameAccess x y → access_fed x ≡ access_fed y
access_fed_alike (Attribute m) (Attribute n) h = ap access_fed (ap Attribute h)
access_fed_alike (Tag k) (Tag l) h = ap (λ ws. fed.u8 1 ++ ws) (same_path k l h)
access_fed_alike x y h = absurd h

fed_alike : (k m : Capability) → AreAlike k m → capability_fed k ≡ capability_fed m
fed_alike k m h = λ i. same_path k.on m.on h.0 i ++ access_fed_alike k.what m.what h.1 i

-- capabilities that are alike have one print
pub same_print : (k m : Capability) → AreAlike k m → print_of k ≡ print_of m
same_print k m h = ap (λ ws. sip.finish (fold sip.write sip.initial ws)) (fed_alike k m h)

-- capabilities that are alike are hashed alike
pub hash_alike : (k m : Capability) → is_alike k m ≡ true → capability_fed k ≡ capability_fed m
hash_alike k m h =
    fed_alike k m ((alike_decides k m).0 h)

-- being alike goes both ways, and each capability is alike with itself
pub alike_itself : (k : Capability) → AreAlike k k
alike_itself k = (alike_decides k k).0 (alike_equiv.refl k)

pub alike_back : (k m : Capability) → AreAlike k m → AreAlike m k
alike_back k m h = (alike_decides m k).0 (alike_equiv.symm m k ∙ (alike_decides k m).1 h)
