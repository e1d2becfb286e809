use Rattle.std.proofs.Common.{◌≡◌, ◌+◌, ◌-◌, ◌*◌, ◌≤◌, vec_capacity, vec_len, IsTrue}
use Rattle.script_run.specs.Prelude.{REPLY_TEXT, TEXT_BYTES}
use Rattle.script_run.proofs.HeardToEnd.{IsHearing}
use Rattle.script_run.proofs.game.stepping.hear_lines.Given as goal

abbrev pub invariant-pieces : goal.invariant-pieces
invariant-pieces g l = record {
  hearing : IsHearing l.game (record { files = g.F.Files.state l.fn.files; sink = g.K.Sink.state l.fn.out })
      (record { files = g.F.Files.state l.files; sink = g.K.Sink.state l.out }) l.stepper l.given;
  number : l.stepper.number ≤ l.given + 1;
  within : l.given ≤ TEXT_BYTES;
  len : vec_len l.stepper.run.text ≡ 0;
  room : 1024 * REPLY_TEXT ≤ vec_capacity l.stepper.run.text;
  selected : IsTrue (g.F.Files.state l.files).selected;
  names : (g.F.Files.state l.files).names ≡ (g.F.Files.state l.fn.files).names;
  content : (g.F.Files.state l.files).content ≡ (g.F.Files.state l.fn.files).content;
}

abbrev pub decreases-pieces : goal.decreases-pieces
decreases-pieces g l = TEXT_BYTES + 1 - l.given
