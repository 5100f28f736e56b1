-- Paths, each with all that it goes on from.
use Rattle.std.specs.Prelude.{◌≡◌, Bool, true, false, ◌||◌, List, [], ◌∷◌}
use Rattle.std.specs.List.{list_any}
use Rattle.access_tries.specs.Edges.{Address}
use Rattle.access_tries.specs.Paths.{AccessPath, address_of, is_prefix_of}
use Rattle.policy_expressions.specs.Tree.{Tree}
use Rattle.schema_core.specs.EnvData.{EnvData}
use Rattle.schema_core.specs.Schema.{SchemaData}
use Rattle.reads_spec.specs.Paths.{Shape, at_path}
use Rattle.reads_spec.specs.Reads.{with_step, reads, shape_of}

-- whether one of the paths goes on from these edges
abbrev pub covers : List AccessPath → Address → Bool
covers ps es = list_any (λ p. is_prefix_of es (address_of p)) ps

-- the new paths, those that are left, and all that they go on from are the old ones and more
pub record Adds (old more new left : List AccessPath) : Type 0 where
  pub prefixes : (es : Address) → (covers new es || covers left es) ≡ (covers old es || covers more es)

-- whether the shape is a path itself
abbrev pub is_path : Shape → Bool
is_path (at_path p) = true
is_path a = false

-- the path that the shape is itself, if it has a step
abbrev pub own_path : Shape → List AccessPath
own_path (at_path p) = with_step (p ∷ [])
own_path a = []

-- what the expression reads is added, but for the path that its result is itself
abbrev pub AddsButOwn :
    SchemaData → EnvData → {A : Type 0} → Tree A → List AccessPath → List AccessPath → Type 0
AddsButOwn schema env e old new = Adds old (reads schema env e) new (own_path (shape_of e))
