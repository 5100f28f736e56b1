-- Capabilities that are alike hold alike.
use Rattle.std.proofs.Common.{List, [], ◌∷◌, inl, inr, subst}
use Rattle.entity_store.specs.declared.request.Request.{Request}
use Rattle.entity_store.specs.Store.{Store}
use Rattle.policy_core.specs.declared.outcome.Outcome.{Outcome}
use Rattle.policy_core.specs.Eval.{eval}
use Rattle.typing_spec.specs.Capability.{Access, Attribute, Tag, Capability, SameAccess, AreAlike, IsKnown}
use Rattle.typing_spec.specs.CapabilityLaws.{alike_itself, alike_back}
use Rattle.typing_spec.specs.Holds.{HasAttribute, HasTag, IsThere, Holds, AllHold}
use Rattle.policy_core.proofs.LawSteps.{same_outcome}

module _ (q : Request) (s : Store) where
  access_there : (x y : Access) (o : Outcome) → SameAccess x y → IsThere x q s o → IsThere y q s o
  access_there (Attribute m) (Attribute n) o e h = subst (λ k. HasAttribute k s o) e h
  access_there (Tag k) (Tag l) o e h = subst (λ p. HasTag s o p) (same_outcome q s k l e) h
  access_there x y o e h = absurd e

  pub alike_holds : (k m : Capability) → AreAlike k m → Holds q s k → Holds q s m
  alike_holds k m e h =
      access_there k.what m.what (eval m.on q s) e.1 (subst (λ o. IsThere k.what q s o) (same_outcome q s k.on m.on e.0) h)

  pub known_holds : (cs : List Capability) (k : Capability) → AllHold q s cs → IsKnown cs k → Holds q s k
  known_holds [] k h e = absurd e
  known_holds (c ∷ cs) k h e = elim e [ inl a ↦ alike_holds c k (alike_back k c a) h.0 | inr b ↦ known_holds cs k h.1 b ]

  pub all_hold : (cs : List Capability) → ((k : Capability) → IsKnown cs k → Holds q s k) → AllHold q s cs
  all_hold [] h = tt
  all_hold (c ∷ cs) h = (h c (inl (alike_itself c)), all_hold cs (λ k e. h k (inr e)))
