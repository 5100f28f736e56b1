-- What is found of an edit in each environment of a schema.
use Rattle.std.specs.Prelude.{⊤, Bool, true, false, List, [], ◌∷◌}
use Rattle.schema_core.specs.EnvData.{EnvData}
use Rattle.schema_core.specs.Schema.{SchemaData}
use Rattle.policy_set.specs.Data.{PolicyData}
use Rattle.policy_compare.specs.Compared.{AllowsAtMost}
use Rattle.edit_service.specs.declared.change.Change.{Change}
use Rattle.edit_service.specs.declared.change.Change.TheVariants.{Same, UnknownNarrower, UnknownWider, UnknownOther}

-- by whether the edit gives nothing, and whether it takes nothing
abbrev pub change_of : Bool → Bool → Change
change_of true true = Same
change_of true false = UnknownNarrower
change_of false true = UnknownWider
change_of false false = UnknownOther

module _ (schema : SchemaData) (before after : List PolicyData) where
  -- what is claimed holds, on each request of the environment and each store, where both conform: that no
  -- decision becomes Allow, that none becomes Deny, both, or nothing
  abbrev pub Holds : EnvData → Change → Type 0
  Holds env Same = AllowsAtMost schema env before after × AllowsAtMost schema env after before
  Holds env UnknownNarrower = AllowsAtMost schema env before after
  Holds env UnknownWider = AllowsAtMost schema env after before
  Holds env UnknownOther = ⊤

  -- one for each environment, in their order, and each holds
  abbrev pub AllHold : List EnvData → List Change → Type 0
  AllHold [] [] = ⊤
  AllHold (env ∷ envs) (c ∷ cs) = Holds env c × AllHold envs cs
  AllHold envs cs = ⊥
