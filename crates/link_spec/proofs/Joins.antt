-- `&&` of two parts of a scope.
use Rattle.std.proofs.Common.{◌≡◌, Bool, true, false, List, ◌++◌, Option, Some, refl, ap, ◌∙◌}
use Rattle.policy_expressions.specs.Tree.{conj}
use Rattle.policy_expressions.specs.Plain.{Plain, unmarked}
use Rattle.schema_core.specs.EnvData.{EnvData}
use Rattle.schema_core.specs.Schema.{SchemaData}
use Rattle.typing_spec.specs.Capability.{Capability}
use Rattle.typing_spec.specs.Typing.{Typed, Typing}
use Rattle.findings.specs.Finding.{Finding}
use Rattle.policy_expressions.specs.declared.kinds.Loc.{Loc}
use Rattle.typecheck_rules.specs.Expected.{a_boolean}
use Rattle.typecheck_rules.specs.Walked.{Success, expect, ended, two_walked}
use Rattle.typecheck_rules.specs.Operators.{place, and_walked}
use Rattle.typecheck_rules.specs.Walk.{walked}
use Rattle.link_spec.specs.Parts.{Part, part, part_typing, joined}

-- an operator of two operands that have typings, where its rule gives one
pub two_end : (rule : Typing → Typing → Option Typing) (failed : Typed) (own : List Finding) (a b c : Typing) → rule a b ≡ Some c → two_walked rule failed own (Success a) (Success b) ≡ Success c
two_end rule failed own a b c h = ap (λ o. ended true o failed own) h

both_walk : (l r : Option Loc) (p q : Part) → and_walked unmarked r (expect a_boolean l (Success (part_typing p))) (λ ds. Success (part_typing q)) (Success (part_typing q)) ≡ Success (part_typing (joined p q))
both_walk l r p q = by p.meets p.sure p.tree q.meets q.sure q.tree
  where
    by : (m s : Bool) (x : Typed) (n t : Bool) (y : Typed) →
        and_walked unmarked r (expect a_boolean l (Success (part_typing (part m s x)))) (λ ds. Success (part_typing (part n t y))) (Success (part_typing (part n t y))) ≡ Success (part_typing (joined (part m s x) (part n t y)))
    by false s x n t y = refl
    by true true x false t y = refl
    by true true x true true y = refl
    by true true x true false y = refl
    by true false x false t y = refl
    by true false x true true y = refl
    by true false x true false y = refl

module _ (schema : SchemaData) (env : EnvData) where
  -- whatever is known before
  abbrev pub Comes : Plain → Part → Type 0
  Comes x p = (cs : List Capability) → walked schema env cs x ≡ Success (part_typing p)

  pub joins : (x y : Plain) (p q : Part) → Comes x p → Comes y q → Comes (conj x y unmarked) (joined p q)
  joins x y p q h k cs =
      (λ j. and_walked unmarked (place y) (expect a_boolean (place x) (h cs j)) (λ ds. k (cs ++ ds) j) (k cs j)) ∙ both_walk (place x) (place y) p q
