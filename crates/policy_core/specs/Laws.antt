-- Laws of evaluation.
use Rattle.std.specs.Prelude.{◌≡◌}
use Rattle.entity_store.specs.declared.request.Request.{Request}
use Rattle.entity_store.specs.Store.{Store}
use Rattle.policy_expressions.specs.Tree.{Tree}
use Rattle.policy_expressions.specs.Shape.{SameShape}
use Rattle.policy_core.specs.Eval.{eval}

-- trees of one shape have one outcome, whatever their marks
abbrev pub ShapeDecides : Type 0 → Type 0 → Type 0
ShapeDecides A B =
    (x : Tree A) (u : Tree B) → SameShape x u → (q : Request) (s : Store) → eval x q s ≡ eval u q s
