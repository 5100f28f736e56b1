-- Typing looks at capabilities only for what is known by them.
use Rattle.std.specs.Prelude.{◌≡◌, ◌↔◌, ⊤, List, Option, Some, None}
use Rattle.schema_core.specs.Schema.{SchemaData}
use Rattle.schema_core.specs.EnvData.{EnvData}
use Rattle.policy_expressions.specs.Plain.{Plain}
use Rattle.typing_spec.specs.Capability.{Capability, IsKnown}
use Rattle.typing_spec.specs.Typing.{Typing, types}

-- each capability is known to both lists or to neither
abbrev pub KnowTheSame : List Capability → List Capability → Type 0
KnowTheSame cs ds = (k : Capability) → IsKnown cs k ↔ IsKnown ds k

-- of the same type, with the same typed expression, and making the same known
pub record AreSame (a b : Typing) : Type 0 where
  pub type : a.type ≡ b.type
  pub tree : a.tree ≡ b.tree
  pub caps : KnowTheSame a.caps b.caps

-- neither has a typing, or both have the same
abbrev pub TypedTheSame : Option Typing → Option Typing → Type 0
TypedTheSame None None = ⊤
TypedTheSame (Some a) (Some b) = AreSame a b
TypedTheSame a b = ⊥

-- where the same is known before an expression, it has the same typing: the order of capabilities, and how
-- often each is listed, do not matter
abbrev pub WhatIsKnownDecides : Type 0
WhatIsKnownDecides =
    (schema : SchemaData) (env : EnvData) (cs ds : List Capability) → KnowTheSame cs ds → (e : Plain) →
    TypedTheSame (types schema env cs e) (types schema env ds e)
