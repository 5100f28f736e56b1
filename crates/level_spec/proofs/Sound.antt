-- Levels are sound.
use Rattle.std.proofs.Common.{◌≡◌, true, [], Option, Some, None, sym, ◌∙◌}
use Rattle.std.specs.Prelude.{IfSome}
use Rattle.policy_values.specs.declared.entity_uid.EntityUID.{EntityUID}
use Rattle.entity_store.specs.Request.{action_of}
use Rattle.policy_core.specs.Eval.{eval}
use Rattle.schema_core.specs.EnvData.{declared_action}
use Rattle.typing_spec.specs.Typing.{Typing, types}
use Rattle.level_spec.specs.Cut.{cut}
use Rattle.level_spec.specs.Levels.{passes}
use Rattle.level_spec.specs.Sound.{LevelsAreSound}
use Rattle.level_spec.proofs.Fits.{Fits, fits}
use Rattle.level_spec.proofs.Same.{same}

pub levels_sound : LevelsAreSound
levels_sound d schema g q request of s store n e filled keys = here (types d (declared_action g) [] e) (fits d schema g q request of s store e filled keys [] tt)
  where
    own : (a : EntityUID) → Some g.environment.action ≡ Some a → a ≡ action_of q
    own a h = let f : g.environment.action ≡ a = cc in sym f ∙ sym of.action

    here : (o : Option Typing) → IfSome o (λ r. Fits q s e r.tree) → IfSome o (λ r. passes (Some g.environment.action) n r.tree ≡ true → eval e q (cut n q s) ≡ eval e q s)
    here None k = tt
    here (Some r) k = λ p. same q s n (Some g.environment.action) own e r.tree k p
