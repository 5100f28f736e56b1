-- Answers one after another.
use Rattle.std.proofs.Common.{◌≡◌, ℕ, zero, suc, ◌<◌, ◌≤◌, Bool, true, false, List, [], ◌∷◌, ◌++◌, Option, Some, None, take, length, get_or, arith, subst, refl, sym, ap, ◌∙◌, Contains, inl, inr}
use Rattle.std.specs.Prelude.{filter, IsSomeAnd}
use Rattle.std.specs.declared.vec.Vec.{Vec}
use Rattle.std.specs.declared.alloc.Global.{Global}
use Rattle.std.proofs.lemmas.List.{take_all}
use Rattle.std.proofs.lemmas.List.Elements.{Contains-append_left, Contains-push, Contains-push_cases}
use Rattle.entity_store.specs.Store.{StoredEntity, Store, entity_at}
use Rattle.reads_spec.proofs.Cuts.{uid_at}
use Rattle.entity_loader.specs.declared.loader.EntityRequest.{EntityRequest}
use Rattle.entity_loader.specs.declared.loader.AncestorsRequest.{AncestorsRequest}
use Rattle.entity_loader.specs.Answers.{Fits, IsHonest, IsHonestList, IsListed}
use Rattle.std.specs.List.{AllZip}
use Rattle.policy_values.specs.declared.entity_uid.EntityUID.{EntityUID}
use Rattle.plain_lemmas.proofs.Lists.{zip_length}

-- one more of each
pub zip_more : {X Y : Type 0} (R : X → Y → Type 0) (xs : List X) (ys : List Y) (i : ℕ) (x : X) (y : Y) → i < length xs → x ≡ get_or xs i x → AllZip R (take i xs) ys → R x y → AllZip R (take (suc i) xs) (ys ++ y ∷ [])
zip_more R [] ys i x y h is all r = absurd (omega (arith, h))
zip_more R (z ∷ xs) [] zero x y h is all r = (subst (λ w. R w y) is r, tt)
zip_more R (z ∷ xs) (w ∷ ys) zero x y h is all r = absurd all
zip_more R (z ∷ xs) [] (suc i) x y h is all r = absurd all
zip_more R (z ∷ xs) (w ∷ ys) (suc i) x y h is all r = (all.0, zip_more R xs ys i x y (omega (arith, h)) is all.1 r)

pub none_left : (xs : List EntityUID) → [] ≡ filter (λ y. false) xs
none_left [] = refl
none_left (x ∷ xs) = none_left xs

pub zip_all : {X Y : Type 0} (R : X → Y → Type 0) (xs : List X) (ys : List Y) (i : ℕ) → length xs ≤ i → AllZip R (take i xs) ys → AllZip R xs ys
zip_all R xs ys i h all = subst (λ l. AllZip R l ys) (take_all i xs h) all

pub zip_weaker : {X Y : Type 0} (R S : X → Y → Type 0) → ((x : X) (y : Y) → R x y → S x y) → (xs : List X) (ys : List Y) → AllZip R xs ys → AllZip S xs ys
zip_weaker R S f [] [] all = tt
zip_weaker R S f [] (y ∷ ys) all = absurd all
zip_weaker R S f (x ∷ xs) [] all = absurd all
zip_weaker R S f (x ∷ xs) (y ∷ ys) all = (f x y all.0, zip_weaker R S f xs ys all.1)

-- an honest answer is of the id that was asked for
pub honest_fits : (exact : Bool) (s : Store) (r : EntityRequest) (a : Option StoredEntity) → IsHonest exact s r a → Fits r a
honest_fits exact s r None h = tt
honest_fits exact s r (Some e) h = ap (λ o. o.uid) h.is ∙ uid_at s r.entity_id h.stored h.at

-- one more id is looked at
module _ (all done found : List EntityUID) (y : EntityUID) (t : IsListed all done found) where
  pub listed_more : Contains all y → IsListed all (done ++ y ∷ []) (found ++ y ∷ [])
  listed_more h = record {
    enough = λ z c k. elim (Contains-push_cases done y z c) [
      | inl before ↦ Contains-append_left found (y ∷ []) z (t.enough z before k)
      | inr same ↦ subst (λ w. Contains (found ++ y ∷ []) w) same (Contains-push found y)
    ];
    in_first = λ z c. elim (Contains-push_cases found y z c) [
      | inl before ↦ t.in_first z before
      | inr same ↦ subst (λ w. Contains all w) same h
    ];
    in_second = λ z c. elim (Contains-push_cases found y z c) [
      | inl before ↦ Contains-append_left done (y ∷ []) z (t.in_second z before)
      | inr same ↦ subst (λ w. Contains (done ++ y ∷ []) w) same (Contains-push done y)
    ];
  }

  pub listed_other : (Contains all y → ⊥) → IsListed all (done ++ y ∷ []) found
  listed_other h = record {
    enough = λ z c k. elim (Contains-push_cases done y z c) [
      | inl before ↦ t.enough z before k
      | inr same ↦ absurd (h (subst (λ w. Contains all w) (sym same) k))
    ];
    in_first = t.in_first;
    in_second = λ z c. Contains-append_left done (y ∷ []) z (t.in_second z c);
  }

-- what an entity of the store has among the ids
pub honest_list : (s : Store) (r : AncestorsRequest) (e : StoredEntity) (ys : Vec EntityUID Global) → entity_at s r.entity_id ≡ Some e → IsListed e.ancestors r.ancestors.items ys.items → IsHonestList true s r ys
honest_list s r e ys at t = record {
  enough = λ y c h. t.enough y c (subst (λ o. IsSomeAnd o (λ f. Contains f.ancestors y)) at h);
  given = λ y c. subst (λ o. IsSomeAnd o (λ f. Contains f.ancestors y)) (sym at) (t.in_first y c);
  exactly = λ _ y c. t.in_second y c;
}
