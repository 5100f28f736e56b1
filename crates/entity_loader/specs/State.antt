-- What contracts see of a loader.
use Rattle.std.specs.Prelude.{◌≡◌, ◌⊎◌, ℕ, ◌+◌, ◌≤◌, ◌^◌, Bool, Option, Some}
use Rattle.entity_store.specs.Store.{Store}

pub record LoaderState : Type 0 where
  -- the store that the loader stands for, where it says it
  pub store : Option Store
  -- whether it answers no more than what is asked
  pub exact : Bool
  -- how often a call has failed
  pub faults : ℕ
  -- how often an answer was not for what was asked
  pub strays : ℕ
  -- how often entities were asked for
  pub rounds : ℕ
  -- how often ancestors were asked for
  pub lists : ℕ

-- a store that is known stays known, and the same; no count falls, and a loader that says its store does
-- not stray
pub record Continues (old new : LoaderState) : Type 0 where
  pub known : (s : Store) → old.store ≡ Some s → new.store ≡ Some s
  pub exact : new.exact ≡ old.exact
  pub faults : old.faults ≤ new.faults
  pub strays : old.strays ≤ new.strays
  pub honest : (s : Store) → old.store ≡ Some s → new.strays ≡ old.strays

-- a count went up by one, or it stands at the last value of u64
abbrev pub Ticks : ℕ → ℕ → Type 0
Ticks old new = (new ≡ old + 1) ⊎ ((new ≡ old) × (2 ^ 64 ≤ new + 1))
