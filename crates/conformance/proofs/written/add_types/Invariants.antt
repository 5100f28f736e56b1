use Rattle.std.proofs.Common.{◌≡◌, ◌++◌, drop, string_bytes}
use Rattle.conformance.specs.Written.{further_types}
use Rattle.conformance.proofs.written.add_types.Given as goal

-- the text so far, and then the types that are left
abbrev pub invariant-loop-ty : goal.invariant-loop-ty
invariant-loop-ty l = string_bytes l.text ++ further_types (drop l.ty-index l.types) ≡ string_bytes l.fn.text ++ further_types l.types
