-- The calls of an object in memory.
use Rattle.std.specs.Prelude.{ℕ, ◌+◌, ◌-◌, ◌^◌, List, Contains, min, Result, is_err, if◌then◌else◌}

-- The calls that are to fail, counted from 1; how many were made; how many failed. A count stays at the last value of a u64.
pub record Calls : Type 0 where
  pub failing : List ℕ
  pub made : ℕ
  pub faults : ℕ

-- no call was made yet
abbrev pub no_calls_yet : List ℕ → Calls
no_calls_yet failing = record { failing = failing; made = 0; faults = 0 }

abbrev pub one_call_more : ℕ → ℕ
one_call_more count = min (count + 1) (2 ^ 64 - 1)

-- the next call is to fail
abbrev pub IsNextToFail : Calls → Type 0
IsNextToFail calls = Contains calls.failing (one_call_more calls.made)

-- the count of faults after a call with this result
abbrev pub count_after : {T E : Type 0} → ℕ → Result T E → ℕ
count_after faults result = if is_err result then one_call_more faults else faults

-- the calls after one more, with this result
abbrev pub after_call : {T E : Type 0} → Calls → Result T E → Calls
after_call calls result = record {
  failing = calls.failing;
  made = one_call_more calls.made;
  faults = count_after calls.faults result;
}
