-- One name on one side.
use Rattle.std.proofs.Common.{◌≡◌, ℕ, List, [], ◌∷◌, Bool, true, false, not, ◌||◌, ap, sym, subst, refl}
use Rattle.std.specs.Prelude.{◌↔◌}
use Rattle.std.specs.declared.cmp.Ordering.{Ordering}
use Rattle.std.specs.Ordering.{is_eq}
use Rattle.std.proofs.lemmas.Map.Lookups.{exact_bytes}
use Rattle.policy_values.specs.Uid.{text_cmp}
use Rattle.policy_values.specs.Ties.{equal_of}
use Rattle.schema_types.specs.Names.{has_name, AreApart}
use Rattle.type_relations.proofs.UnionLaws.{own_text}
use Rattle.plain_lemmas.proofs.Booleans.{false_of_not, false_of_not_true}

same : (q n : List ℕ) → has_name (n ∷ []) q ≡ true → q ≡ n
same q n h = exact_bytes q n (equal_of (text_cmp q n) (or_false (is_eq (text_cmp q n)) h)) where
  or_false : (b : Bool) → (b || false) ≡ true → b ≡ true
  or_false true h = refl
  or_false false h = cc

own : (n : List ℕ) → has_name (n ∷ []) n ≡ true
own n = ap (λ b. b || false) (own_text n)

no_not : (b : Bool) → (b ≡ true → ⊥) → not b ≡ true
no_not false f = refl
no_not true f = absurd (f refl)

pub without : (ms : List (List ℕ)) (n : List ℕ) → (not (has_name ms n) ≡ true) ↔ AreApart ms (n ∷ [])
without ms n = (
  λ h q e. false_of_not_true (has_name (n ∷ []) q) (λ k. let d = false_of_not (has_name ms n) h in let s = subst (λ x. has_name ms x ≡ true) (same q n k) e in cc (d, s)),
  λ f. no_not (has_name ms n) (λ k. let d = f n k in let s = own n in cc (d, s)),
)

pub outside : (n : List ℕ) (ns : List (List ℕ)) → (not (has_name ns n) ≡ true) ↔ AreApart (n ∷ []) ns
outside n ns = (
  λ h q e. subst (λ x. has_name ns x ≡ false) (sym (same q n e)) (false_of_not (has_name ns n) h),
  λ f. ap not (f n (own n)),
)

pub differing : (m n : List ℕ) (o : Ordering) → text_cmp n m ≡ o → (not (is_eq o || false) ≡ true) ↔ AreApart (m ∷ []) (n ∷ [])
differing m n o e = subst (λ p. (not (is_eq p || false) ≡ true) ↔ AreApart (m ∷ []) (n ∷ [])) e (without (m ∷ []) n)
