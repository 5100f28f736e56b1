-- What contracts see of a source and of a sink.
use Rattle.std.specs.Prelude.{ℕ, List, Option}

pub record SourceState : Type 0 where
  -- the bytes that are left, where the source says them
  pub left : Option (List ℕ)
  -- how many bytes its reads have given so far
  pub taken : ℕ
  -- how often a read has failed
  pub faults : ℕ

pub record SinkState : Type 0 where
  -- the bytes that it holds, where the sink says them
  pub holds : Option (List ℕ)
  -- how often a write has failed
  pub faults : ℕ
