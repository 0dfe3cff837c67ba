-- Sources and sinks in memory.
use Rattle.std.specs.Prelude.{ℕ, List, ◌++◌, drop, take, Result, Ok, Err}
use Rattle.io_edges.specs.Cause.{next_count}
use Rattle.io_edges.specs.declared.source.Failed.{Failed}
use Rattle.io_edges.specs.declared.sink.SinkRefused.{SinkRefused}
use Rattle.io_edges.specs.declared.sink.SinkRefused.TheVariants.{Failed as write_failed, NoMemory}

-- The bytes that a source has left or a sink holds, the numbers of the calls that fail, and how many calls and faults
-- there were.
pub record MemoryEnd : Type 0 where
  pub bytes : List ℕ
  pub fails : List ℕ
  pub calls : ℕ
  pub faults : ℕ

-- before the first call
abbrev pub unused : List ℕ → List ℕ → MemoryEnd
unused bytes fails = record { bytes = bytes; fails = fails; calls = 0; faults = 0 }

-- after a call with no fault that leaves these bytes
abbrev pub called : MemoryEnd → List ℕ → MemoryEnd
called memory bytes = record memory { bytes = bytes; calls = next_count memory.calls }

-- after a call that is a fault
abbrev pub faulted : MemoryEnd → MemoryEnd
faulted memory = record memory { calls = next_count memory.calls; faults = next_count memory.faults }

-- a source after a read: a fault, or as many bytes are gone as were given
abbrev pub after_read : MemoryEnd → Result ℕ Failed → MemoryEnd
after_read memory (Ok n) = called memory (drop n memory.bytes)
after_read memory (Err e) = faulted memory

-- a sink after a write: a fault, out of memory, or the bytes that were taken are at the end
abbrev pub after_write : MemoryEnd → List ℕ → Result ℕ SinkRefused → MemoryEnd
after_write memory piece (Ok n) = called memory (memory.bytes ++ take n piece)
after_write memory piece (Err write_failed) = faulted memory
after_write memory piece (Err NoMemory) = called memory memory.bytes
