use Rattle.std.proofs.Common.{◌≡◌, true, ℕ, List}
use Rattle.std.specs.Io.KnownBytes.{Consumes}
use Rattle.byte_streams.specs.Lines.{is_plain}
use Rattle.byte_streams.proofs.lines.Lines.skip_rest.Given as goal

abbrev pub invariant-loop : goal.invariant-loop
invariant-loop g l = (bytes : List ℕ) × (is_plain bytes ≡ true) × Consumes l.initial.self l.self bytes
