-- What a loader of what was looked up says.
use Rattle.std.specs.Prelude.{ℕ, true, Option}
use Rattle.entity_store.specs.Store.{Store}
use Rattle.entity_loader.specs.State.{LoaderState}

-- a loader that answers just what is asked, and counts the calls in which something was asked for that was
-- not looked up
abbrev pub loader_state : Option Store → ℕ → ℕ → ℕ → LoaderState
loader_state told faults asked listed =
    record { store = told; exact = true; faults = faults; strays = 0; rounds = asked; lists = listed }
