-- The call's risks, as the definitions have them.
use Rattle.std.specs.Prelude.{List, Option, map}
use Rattle.std.specs.Option.{option_map}
use Rattle.std.specs.Map.Iter.{deref}
use Rattle.std.specs.declared.alloc.Global.{Global}
use Rattle.std.specs.declared.vec.Vec.{Vec}
use denote.Ref.{Bor}
use Rattle.typing_spec.specs.Typing.{Typed}
use Rattle.condition_risks.specs.declared.risk.Risk.{Risk as RiskFound}
use Rattle.condition_risks.specs.declared.risk.Risk.TheVariants.{Missing, IntegerOverflow, ExtensionOverflow}
use Rattle.condition_risks.specs.declared.sides.Sides.{Sides as SidesFound}
use Rattle.condition_risks.specs.Risks.{Risk, missing, integer_overflow, extension_overflow}
use Rattle.condition_risks.specs.Sides.{Found, Sides, sides_of}

abbrev pub risk_of : RiskFound → Risk
risk_of (Missing x) = missing x.now
risk_of (IntegerOverflow e) = integer_overflow e.now
risk_of (ExtensionOverflow e) = extension_overflow e.now

-- the expression that it speaks of
abbrev pub expression_of : Risk → Typed
expression_of (missing x) = x
expression_of (integer_overflow e) = e
expression_of (extension_overflow e) = e

-- expressions that are referred to
abbrev pub expressions : List (Bor Typed) → List Typed
expressions xs = map deref xs

abbrev pub found_of : Option (Vec (Bor Typed) Global) → Found
found_of o = option_map (λ v. expressions v.items) o

abbrev pub sides_found : SidesFound → Sides
sides_found k = sides_of (found_of k.if_true) (found_of k.if_false)
