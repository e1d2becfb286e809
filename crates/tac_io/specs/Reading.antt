-- The results of reading a whole file.
use Rattle.std.specs.Prelude.{◌≡◌, ℕ, ◌<◌, List, length, Some, IfSome, Result, Ok, Err, Option}
use Rattle.tac_io.specs.Counts.{Rose}
use Rattle.tac_io.specs.declared.reading.FileFault.{FileFault}
use Rattle.tac_io.specs.declared.reading.FileFault.TheVariants.{Failed, TooLong, Memory}

-- These are the bytes of the file of that name, if the files are known.
abbrev pub IsFile : Option (List ℕ → Option (List ℕ)) → List ℕ → List ℕ → Type 0
IsFile content name bytes = IfSome content (λ files. files name ≡ Some bytes)

-- the file with that name has more than `limit` bytes, if files are known
abbrev pub IsTooLong : Option (List ℕ → Option (List ℕ)) → List ℕ → ℕ → Type 0
IsTooLong content name limit = IfSome content (λ files. (bytes : List ℕ) × (files name ≡ Some bytes) × (limit < length bytes))

-- If the result is `Failed`, the count of faults rose; otherwise it did not change.
abbrev pub HasFileCause : {T : Type 0} → ℕ → ℕ → Result T FileFault → Type 0
HasFileCause before now (Ok bytes) = now ≡ before
HasFileCause before now (Err Failed) = Rose before now
HasFileCause before now (Err TooLong) = now ≡ before
HasFileCause before now (Err Memory) = now ≡ before
