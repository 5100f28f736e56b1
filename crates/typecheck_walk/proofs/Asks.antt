-- Only `getTag` looks at what is known of a tag.
use Rattle.std.proofs.Common.{◌≡◌, Bool, refl}
use Rattle.schema_core.specs.Schema.{SchemaData}
use Rattle.schema_core.specs.EnvData.{EnvData}
use Rattle.policy_expressions.specs.Plain.{Plain}
use Rattle.policy_expressions.specs.Tree.{Mark}
use Rattle.policy_expressions.specs.declared.kinds.BinaryOp.{BinaryOp}
use Rattle.policy_expressions.specs.declared.kinds.BinaryOp.TheVariants.{Eq, Less, LessEq, Add, Sub, Mul, In, Contains, ContainsAll, ContainsAny, GetTag, HasTag}
use Rattle.typecheck_rules.specs.Walked.{Walked}
use Rattle.typecheck_rules.specs.Operators.{binary_walked}
use Rattle.typecheck_walk.specs.Asked.{asked}

module _ (schema : SchemaData) (env : EnvData) where
  pub asks_tag : (o : BinaryOp) (k : Bool) (x y : Plain) (m : Mark (Unit {0})) (v w : Walked) → binary_walked schema env o (asked o k) x y m v w ≡ binary_walked schema env o k x y m v w
  asks_tag Eq k x y m v w = refl
  asks_tag Less k x y m v w = refl
  asks_tag LessEq k x y m v w = refl
  asks_tag Add k x y m v w = refl
  asks_tag Sub k x y m v w = refl
  asks_tag Mul k x y m v w = refl
  asks_tag In k x y m v w = refl
  asks_tag Contains k x y m v w = refl
  asks_tag ContainsAll k x y m v w = refl
  asks_tag ContainsAny k x y m v w = refl
  asks_tag GetTag k x y m v w = refl
  asks_tag HasTag k x y m v w = refl
