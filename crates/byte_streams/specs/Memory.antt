-- What the sources and sinks in memory have left, gave and hold.
use Rattle.std.specs.Prelude.{drop, Some}
use Rattle.byte_streams.specs.State.{SourceState, SinkState}
use Rattle.byte_streams.specs.declared.memory.SliceSource.{SliceSource}
use Rattle.byte_streams.specs.declared.memory.MemorySource.{MemorySource}
use Rattle.byte_streams.specs.declared.memory.MemorySink.{MemorySink}

abbrev pub slice_state : SliceSource → SourceState
slice_state s = record { left = Some (drop s.at s.bytes.now); taken = s.at; faults = 0 }

abbrev pub memory_state : MemorySource → SourceState
memory_state s = record { left = Some (drop s.at s.bytes.items); taken = s.at; faults = s.faults }

abbrev pub sink_state : MemorySink → SinkState
sink_state s = record { holds = Some s.bytes.items; faults = s.faults }
