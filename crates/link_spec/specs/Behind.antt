-- The check of a condition, by its scope and the walk of its body.
use Rattle.std.specs.Prelude.{Bool, true, false, []}
use Rattle.schema_types.specs.Ty.{Ty, true_type, false_type}
use Rattle.policy_expressions.specs.Tree.{conj}
use Rattle.policy_expressions.specs.Plain.{unmarked}
use Rattle.typing_spec.specs.Signatures.{bool_type}
use Rattle.typing_spec.specs.Typing.{at, unreached}
use Rattle.typecheck_rules.specs.Check.{Check, Irrelevant, Fail, check_of}
use Rattle.typecheck_rules.specs.Walked as walk
use Rattle.typecheck_rules.specs.Walked.{Walked, findings_of}
use Rattle.link_spec.specs.Parts.{Part}

-- the type of a condition whose scope is met: that of its body, but where the scope may be false, no True
abbrev pub behind_type : Bool → Ty → Ty
behind_type false true_type = bool_type
behind_type sure t = t

abbrev pub behind : Part → Walked → Check
behind p (walk.Success b) =
    check_of (behind_type p.sure b.type)
    (conj p.tree b.tree (at (behind_type p.sure b.type) unmarked)) []
behind p (walk.Fail t fs) = Fail fs

-- behind a scope that fails with no finding of its own: what is found of the body, unless a part before has
-- not been met
abbrev pub refused : Bool → Walked → Check
refused true w = Fail (findings_of w)
refused false w = Irrelevant unreached

-- where the scope is not met the body is not reached
abbrev pub check_behind : Part → Bool → Walked → Check
check_behind p true w = behind p w
check_behind p false w = Irrelevant (conj p.tree unreached (at false_type unmarked))
