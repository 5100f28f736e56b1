-- Options, and lists of capabilities.
use Rattle.std.proofs.Common.{◌≡◌, Bool, true, false, List, [], ◌∷◌, ◌++◌, Option, Some, None, refl, cond, IfSome}
use Rattle.std.specs.Prelude.{option_map}
use Rattle.std.specs.Option.{option_and_then}
use Rattle.entity_store.specs.declared.request.Request.{Request}
use Rattle.entity_store.specs.Store.{Store}
use Rattle.typing_spec.specs.Capability.{Capability, has_cap, common}
use Rattle.typing_spec.specs.CapabilityLaws.{known_decides}
use Rattle.typing_spec.specs.Holds.{Holds, AllHold}
use Rattle.typing_spec.proofs.HoldSteps as steps

pub when_some : {A B : Type 0} (P : A → Type 0) (Q : B → Type 0) (f : A → Option B) (o : Option A) → IfSome o P → ((x : A) → P x → IfSome (f x) Q) → IfSome (option_and_then f o) Q
when_some P Q f None h k = tt
when_some P Q f (Some x) h k = k x h

pub mapped : {A B : Type 0} (P : A → Type 0) (Q : B → Type 0) (f : A → B) (o : Option A) → IfSome o P → ((x : A) → P x → Q (f x)) → IfSome (option_map f o) Q
mapped P Q f None h k = tt
mapped P Q f (Some x) h k = k x h

pub any_some : {A : Type 0} (P : A → Type 0) (o : Option A) → ((x : A) → P x) → IfSome o P
any_some P None k = tt
any_some P (Some x) k = k x

pub both_some : {A : Type 0} (P Q R : A → Type 0) (o : Option A) → IfSome o P → IfSome o Q → ((x : A) → P x → Q x → R x) → IfSome o R
both_some P Q R None h i k = tt
both_some P Q R (Some x) h i k = k x h i

-- what is promised once H holds
pub later : {A : Type 0} (H : Type 0) (P : A → Type 0) (o : Option A) → (H → IfSome o P) → IfSome o (λ x. H → P x)
later H P None k = tt
later H P (Some x) k = k

module _ (q : Request) (s : Store) where
  pub all_append : (cs ds : List Capability) → AllHold q s cs → AllHold q s ds → AllHold q s (cs ++ ds)
  all_append [] ds h k = k
  all_append (c ∷ cs) ds h k = (h.0, all_append cs ds h.1 k)

  pub known_holds : (cs : List Capability) (k : Capability) → AllHold q s cs → has_cap cs k ≡ true → Holds q s k
  known_holds cs k h e = steps.known_holds q s cs k h ((known_decides cs k).0 e)

  filter_step : (k : Capability) (ks : List Capability) (b : Bool) → (b ≡ true → Holds q s k) → AllHold q s ks → AllHold q s (cond b (k ∷ ks) ks)
  filter_step k ks true f h = (f refl, h)
  filter_step k ks false f h = h

  -- what two lists have in common holds where the first does, and where the second does
  pub common_left : (cs ds : List Capability) → AllHold q s cs → AllHold q s (common cs ds)
  common_left [] ds h = tt
  common_left (k ∷ cs) ds h = filter_step k (common cs ds) (has_cap ds k) (λ _. h.0) (common_left cs ds h.1)

  pub common_right : (cs ds : List Capability) → AllHold q s ds → AllHold q s (common cs ds)
  common_right [] ds h = tt
  common_right (k ∷ cs) ds h = filter_step k (common cs ds) (has_cap ds k) (known_holds ds k h) (common_right cs ds h)
