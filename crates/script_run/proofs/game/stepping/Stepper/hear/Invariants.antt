use Rattle.std.proofs.Common.{◌+◌, ◌*◌, ◌≤◌, length, vec_capacity, vec_len}
use Rattle.script_run.specs.Prelude.{REPLY_TEXT}
use Rattle.script_run.proofs.SteppedLines.{HearsOn}
use Rattle.script_run.proofs.game.stepping.Stepper.hear.Given as goal

abbrev pub invariant-loop-part : goal.invariant-loop-part
invariant-loop-part l = record {
  hears : HearsOn l.fn.self l.self l.piece l.rest;
  number : l.self.number + length l.rest ≤ l.fn.self.number + length l.piece;
  room : vec_len l.self.run.text + length l.rest * REPLY_TEXT ≤ vec_capacity l.self.run.text;
  capacity : vec_capacity l.fn.self.run.text ≤ vec_capacity l.self.run.text;
}

abbrev pub decreases-loop-part : goal.decreases-loop-part
decreases-loop-part l = length l.rest
