use Rattle.std.proofs.Common.{◌≡◌, ◌++◌, string_bytes, ℕ, ◌*◌, List}
use Rattle.std.specs.Fn.{iterate}
use Rattle.json_samples.specs.Sample.{next_state, users_text}
use Rattle.json_samples.proofs.texts.add_users.Given as goal

-- the users so far, and the state after their draws
pub record IsSoFar (seed size i state : ℕ) (before text : List ℕ) : Type 0 where
  pub written : text ≡ before ++ users_text seed size i
  pub state_is : state ≡ iterate next_state (3 * i) seed

abbrev pub invariant-loop-i : goal.invariant-loop-i
invariant-loop-i l = IsSoFar l.fn.seed l.size l.i l.draws.state (string_bytes l.initial.text) (string_bytes l.text)
