-- What always holds, holds in each world.
use Rattle.std.proofs.Common.{◌≡◌, ℕ, Bool, true, false, not, ◌||◌, refl, sym, ◌∙◌}
use Rattle.propositions.specs.Circuits.{holds}
use Rattle.condition_compare.specs.Outlines.{State, Says}
use Rattle.condition_compare.specs.Worlds.{World}
use Rattle.condition_compare.proofs.Answering.{assigned, assigned_matches}

implied : (a b : Bool) → not a || b ≡ true → a ≡ true → b ≡ true
implied true b h k = h
implied false b h k = absurd (cc)

pub concluded : (s : State) (f g : World → Bool) (n : ℕ) → Says s (λ w. not (f w) || g w) n → ((v : ℕ → Bool) → holds v s.gates n ≡ true) → (w : World) → f w ≡ true → g w ≡ true
concluded s f g n says always w h =
    implied (f w) (g w) (sym (says.says w (assigned w s.asked) (assigned_matches w s.asked)) ∙ always (assigned w s.asked)) h
