use Rattle.std.proofs.Common.{◌+◌, ◌-◌, ◌≡◌, ◌≤◌, [], ◌∷◌, take, vec_len, IsTrue}
use Rattle.tac_io.specs.Known.{known_then}
use Rattle.tac_io.proofs.WholeFiles.{IsReading}
use Rattle.tac_io.proofs.reading.read_file.Given as goal

abbrev pub invariant-loop-bytes : goal.invariant-loop-bytes
invariant-loop-bytes g l = record {
  within : l.filled ≤ vec_len l.bytes;
  limited : vec_len l.bytes ≤ l.limit + 1;
  going : l.filled ≤ l.limit;
  reading : IsReading (g.F.Files.state l.fn.files).content l.name (take l.filled l.bytes.items) (g.F.Files.state l.files).left;
  selected : IsTrue (g.F.Files.state l.files).selected;
  names : (g.F.Files.state l.files).names ≡ known_then (g.F.Files.state l.fn.files).names (l.name ∷ []);
  content : (g.F.Files.state l.files).content ≡ (g.F.Files.state l.fn.files).content;
  quiet : (g.F.Files.state l.files).faults ≡ (g.F.Files.state l.fn.files).faults;
}

abbrev pub decreases-loop-bytes : goal.decreases-loop-bytes
decreases-loop-bytes g l = l.limit + 1 - l.filled
