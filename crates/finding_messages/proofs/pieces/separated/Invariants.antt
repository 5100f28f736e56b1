use Rattle.std.proofs.Common.{◌≡◌, ◌++◌, string_bytes}
use Rattle.std.specs.Prelude.{flat_map}
use Rattle.std.specs.List.{join_by}
use Rattle.schema_types.specs.TyText.{ty_text}
use Rattle.finding_messages.proofs.pieces.separated.Given as goal

-- the text so far, and then the types that are left, each behind the separator
abbrev pub invariant-loop-t : goal.invariant-loop-t
invariant-loop-t l = string_bytes l.text ++ flat_map (λ t. l.by ++ ty_text t) l.t-iterator.rest.now ≡ join_by ty_text l.by l.types
