-- What the atoms of propositions stand for.
use Rattle.std.specs.Prelude.{◌≡◌, ℕ, Bool, List, Some, slice_get}
use Rattle.entity_store.specs.declared.request.Request.{Request}
use Rattle.entity_store.specs.Store.{Store}
use Rattle.policy_core.specs.Eval.{eval}
use Rattle.condition_truth.specs.Truth.{is_yes, is_value}
use Rattle.condition_compare.specs.declared.asked.Asked.{Asked}
use Rattle.condition_compare.specs.declared.asked.Asked.TheVariants.{SharedPermit, SharedForbid, HasValue, Holds}

-- a request and a store, and whether some policy that two sets share permits there, and forbids
pub record World : Type 0 where
  pub permitted : Bool
  pub forbidden : Bool
  pub request : Request
  pub store : Store

-- whether the answer to what is asked is yes
abbrev pub answer_in : World → Asked → Bool
answer_in w SharedPermit = w.permitted
answer_in w SharedForbid = w.forbidden
answer_in w (HasValue e) = is_value (eval e.now w.request w.store)
answer_in w (Holds e) = is_yes (eval e.now w.request w.store)

-- v says of each atom what is answered to what is asked there
pub record Matches (w : World) (asked : List Asked) (v : ℕ → Bool) : Type 0 where
  pub at : (i : ℕ) (x : Asked) → slice_get asked i ≡ Some x → v i ≡ answer_in w x

-- what was asked before is still asked, at its place
pub record KeepsAsked (old new : List Asked) : Type 0 where
  pub before : (w : World) (v : ℕ → Bool) → Matches w new v → Matches w old v
