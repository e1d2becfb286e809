-- A sink in memory, as its contracts see it.
use Rattle.std.specs.Prelude.{ℕ, List, min}
use Rattle.tac_io.specs.Calls.{Calls}
use Rattle.tac_io.specs.declared.memory.sink.MemSink.{MemSink}

-- the bytes that it took
abbrev pub sink_bytes : MemSink → List ℕ
sink_bytes s = s.bytes.items

-- how many more bytes it has room for
abbrev pub sink_room : MemSink → ℕ
sink_room s = s.room

-- the most bytes that a write takes
abbrev pub sink_most : MemSink → ℕ
sink_most s = s.most_at_once

-- its writes, and the count of its faults
abbrev pub sink_calls : MemSink → Calls
sink_calls s = s.faults

-- how many bytes it had taken at each write that failed
abbrev pub sink_failures : MemSink → List ℕ
sink_failures s = s.failures.places

-- how many bytes a write takes of this many
abbrev pub sink_share : MemSink → ℕ → ℕ
sink_share s many = min many (min (sink_most s) (sink_room s))
