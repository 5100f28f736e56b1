-- Findings, as plain data: why an expression has no type, and where.
use Rattle.std.specs.Prelude.{ℕ, Bool, List, Option}
use Rattle.policy_expressions.specs.declared.kinds.Loc.{Loc}
use Rattle.schema_types.specs.Ty.{Ty}
use Rattle.schema_types.specs.declared.kinds.LubHelp.{LubHelp}
use Rattle.findings.specs.declared.access.AttributeAccess.{AttributeAccess}
use Rattle.findings.specs.declared.helps.UnexpectedTypeHelp.{UnexpectedTypeHelp}
use Rattle.findings.specs.declared.helps.LubContext.{LubContext}

-- what is wrong
pub data Kind : Type 0 where
  -- an operand of none of the types expected: these, its own, and what may help
  UnexpectedType : List Ty → Ty → Option UnexpectedTypeHelp → Kind
  -- types without a join: these, why, and where they stand
  IncompatibleTypes : List Ty → LubHelp → LubContext → Kind
  -- an attribute that is not declared, and whether it may be there all the same
  UnsafeAttributeAccess : AttributeAccess → Bool → Kind
  -- an attribute that may be absent
  UnsafeOptionalAttributeAccess : AttributeAccess → Kind
  -- a tag that may be absent: the types of the entity, where they are known, and how the tag prints
  UnsafeTagAccess : Option (List (List ℕ)) → List ℕ → Kind
  -- a tag of entities without tags: their type, where it is known
  NoTagsAllowed : Option (List ℕ) → Kind
  -- a function of this name
  UndefinedFunction : List ℕ → Kind
  -- how many arguments a function takes, and how many there are
  WrongNumberArguments : ℕ → ℕ → Kind
  -- a text that a constructor of extension values can't read: what is said of it
  FunctionArgumentValidation : List ℕ → Kind
  EmptySetForbidden : Kind
  -- an argument of a constructor of extension values that is no literal
  NonLitExtConstructor : Kind

pub record Finding : Type 0 where
  pub kind : Kind
  pub loc : Option Loc
