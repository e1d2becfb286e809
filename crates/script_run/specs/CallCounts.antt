-- How many calls the agents have made.
use Rattle.std.specs.Prelude.{ℕ, [], slice_index, slice_index_or}
use Rattle.script_run.specs.declared.game.call_counts.GoodCounts.{GoodCounts}
use Rattle.script_run.specs.declared.game.call_counts.CallCounts.{CallCounts}

-- an agent that has made no call
abbrev pub no_calls_counted : GoodCounts
no_calls_counted = record { calls = [] }

-- the agent's calls in the auction of a good
abbrev pub count_at : CallCounts → ℕ → ℕ → ℕ
count_at counts agent good = slice_index (slice_index_or counts.of_agent agent no_calls_counted).calls good
