-- Names as code refers to them.
use Rattle.std.specs.Prelude.{Option}
use Rattle.policy_expressions.specs.declared.kinds.Loc.{Loc}
use Rattle.policy_scope.specs.declared.names.Mention.{Mention}
use Rattle.policy_scope.specs.declared.names.Mention.TheVariants.{Id, EntityType}
use Rattle.findings.specs.Mentioned.{Mentioned, an_id, a_type}

-- the name that is referred to
abbrev pub mentioned : Mention → Mentioned
mentioned (Id uid) = an_id uid.now
mentioned (EntityType ty) = a_type ty.now

-- the same with the place
abbrev pub pair_of : Mention × Option Loc → Mentioned × Option Loc
pair_of r = (mentioned r.0, r.1)
