-- A script's lines, as its bytes come.
use Rattle.std.proofs.Common.{◌≡◌, ℕ, ◌+◌, ◌<◌, Bool, true, false, cond, List, [], ◌∷◌, ◌++◌, length, refl, sym, ap, ◌∙◌, subst, arith, append_assoc, Option, Some, None, ◌==◌, nat_lt, codes, Result, Ok, Err, bytes_eq}
use Rattle.std.proofs.lemmas.Bool.Decides.{nat_tests}
use Rattle.std.proofs.lemmas.Slice.Eq.{bytes_eq-Decides}
use Rattle.script_run.specs.{parts_of, has_end, GameFile, HasRunGame, IsGranted, PlaysGameLine, judge_game_line, judged_game_line, heard_from, IsHeld, agent_of, replies, script_reason_number, IsStepping, StopsAtLine}
use Rattle.tac_io.proofs.LineEnds.{no_end-append}
use Rattle.script_run.specs.declared.fault.ScriptReason.{ScriptReason}
use Rattle.script_run.specs.declared.fault.ScriptReason.TheVariants.{Form}
use Rattle.script_run.specs.declared.fault.ScriptFault.{ScriptFault}
use Rattle.script_run.specs.declared.fault.ScriptFault.TheVariants as scripts
use Rattle.script_run.specs.declared.game.lines.GameLine.{GameLine}
use Rattle.script_run.specs.declared.game.stepping.Stepper.{Stepper}
use Rattle.script_run.specs.GameLines.{asks_of, request_line, game_line_of}
use Rattle.script_run.proofs.Hearing.{heard_next}

-- ---- a line that is longer than any good one

long_asks : (agent : Option ℕ) (request : List ℕ) → 512 < length request → asks_of agent request ≡ Err Form
long_asks None request long = refl
long_asks (Some agent) request long = let test : nat_lt 512 (length request) ≡ true = grind (arith, nat_tests) in rw test refl

long_agent_line : (line : List ℕ) → 514 < length line → request_line line ≡ Err Form
long_agent_line [] long = refl
long_agent_line (digit ∷ []) long = refl
long_agent_line (digit ∷ space ∷ request) long = by_test (space == 32)
  where
    by_test : (b : Bool) → cond b (asks_of (agent_of (digit ∷ [])) request) (Err Form) ≡ Err Form
    by_test true = long_asks (agent_of (digit ∷ [])) request (omega (arith, long))
    by_test false = refl

no_tick : (line : List ℕ) (b : Bool) → bytes_eq line (codes "tick") ≡ b → 514 < length line → b ≡ false
no_tick line true is long = let same : line ≡ codes "tick" = (bytes_eq-Decides line (codes "tick")).0 is in let four : length line ≡ 4 = ap length same in absurd (omega (arith, four, long))
no_tick line false is long = refl

long_line_of : (line : List ℕ) → 514 < length line → game_line_of line ≡ Err Form
unfolding game_line_of
long_line_of line long = let test : bytes_eq line (codes "tick") ≡ false = no_tick line (bytes_eq line (codes "tick")) refl long in rw test (long_agent_line line long)

pub long_line : (lines : List GameLine) (line : List ℕ) → 514 < length line → judge_game_line lines line ≡ Err Form
long_line lines line long = ap (judged_game_line lines) (long_line_of line long)

-- ---- the steps

pub begun : (game : GameFile) (stepper : Stepper) → HasRunGame game [] [] stepper.run → IsHeld [] stepper.held → stepper.number ≡ 1 → IsStepping game [] [] stepper
begun game stepper ran held number = record { lines = []; rest = []; ran = ran; held = held; number = number; no_end = refl; heard = λ more. refl }

module _ (game : GameFile) (given written : List ℕ) (stepper stepper' : Stepper) (s : IsStepping game given written stepper) where
  -- more of a line came
  pub joined : (part : List ℕ) → stepper'.run ≡ stepper.run → stepper'.number ≡ stepper.number → ((rest : List ℕ) → IsHeld rest stepper.held → IsHeld (rest ++ part) stepper'.held) → has_end part ≡ false →
      IsStepping game (given ++ part) written stepper'
  joined part same number held none = record {
    lines = s.lines;
    rest = s.rest ++ part;
    ran = subst (HasRunGame game s.lines written) (sym same) s.ran;
    held = held s.rest s.held;
    number = number ∙ s.number;
    no_end = no_end-append s.rest part s.no_end none;
    heard = λ more. ap (λ (l : List ℕ). heard_from [] (parts_of 10 l)) (append_assoc given part more)
        ∙ (s.heard (part ++ more) ∙ ap (λ (l : List ℕ). heard_from s.lines (parts_of 10 l)) (sym (append_assoc s.rest part more)));
  }

  -- the end of a line came, whatever follows
  at_end : (read : Result GameLine ScriptReason) → judge_game_line s.lines s.rest ≡ read → (more : List ℕ) → heard_from [] (parts_of 10 ((given ++ 10 ∷ []) ++ more)) ≡ heard_from s.lines (parts_of 10 (s.rest ++ 10 ∷ more))
  at_end read is more = ap (λ (l : List ℕ). heard_from [] (parts_of 10 l)) (append_assoc given (10 ∷ []) more) ∙ s.heard (10 ∷ more)

  pub ended : (asked : GameLine) → judge_game_line s.lines s.rest ≡ Ok asked → HasRunGame game (asked ∷ s.lines) written stepper'.run → IsHeld [] stepper'.held → stepper'.number ≡ stepper.number + 1 →
      IsStepping game (given ++ 10 ∷ []) written stepper'
  ended asked is ran held number =
      let before = s.number in
      record {
        lines = asked ∷ s.lines;
        rest = [];
        ran = ran;
        held = held;
        number = omega (arith, number, before);
        no_end = refl;
        heard = λ more. at_end (Ok asked) is more ∙ heard_next s.lines s.rest more (Ok asked) s.no_end is;
      }

  -- a line is bad
  pub stopped : (why : ScriptReason) (line reason : ℕ) → line ≡ stepper.number → reason ≡ script_reason_number why → judge_game_line s.lines s.rest ≡ Err why → written ++ stepper'.run.text.items ≡ replies game s.lines →
      StopsAtLine game (given ++ 10 ∷ []) written stepper' (scripts.Line line reason)
  stopped why line reason at due is text = (
    s.lines,
    λ more. at_end (Err why) is more ∙ (heard_next s.lines s.rest more (Err why) s.no_end is
        ∙ (λ i. (s.lines, Err (sym (at ∙ s.number) i, sym due i)))),
    text,
  )

  -- the step at the end of a line failed, though memory was not refused
  pub failed : (fault : ScriptFault) (line : List ℕ) → line ≡ s.rest → PlaysGameLine game s.lines written (record { number = stepper.number; bytes = line }) stepper'.run (Err fault) → IsGranted (Err fault) →
      StopsAtLine game (given ++ 10 ∷ []) written stepper' fault
  failed (scripts.Line number reason) line is steps granted =
      stopped steps.0 number reason steps.1 steps.2 (subst (λ (l : List ℕ). judge_game_line s.lines l ≡ Err steps.0) is steps.3) steps.4
  failed scripts.TooLong line is steps granted = absurd steps
  failed scripts.Failed line is steps granted = absurd steps
  failed scripts.Memory line is steps granted = absurd granted

-- a bad line stays bad, with more bytes behind it
pub stopped_before : (game : GameFile) (given after written : List ℕ) (stepper : Stepper) (fault : ScriptFault) → StopsAtLine game given written stepper fault → StopsAtLine game (given ++ after) written stepper fault
stopped_before game given after written stepper (scripts.Line line reason) stop = (
  stop.0,
  λ more. ap (λ (l : List ℕ). heard_from [] (parts_of 10 l)) (append_assoc given after more) ∙ stop.1 (after ++ more),
  stop.2,
)
stopped_before game given after written stepper scripts.TooLong stop = stop
stopped_before game given after written stepper scripts.Failed stop = stop
stopped_before game given after written stepper scripts.Memory stop = stop

-- ---- the lines of a piece

-- the front of a piece was played, and the rest is still to be
pub record HearsOn (before after : Stepper) (piece rest : List ℕ) : Type 0 where
  pub front : List ℕ
  pub cut : piece ≡ front ++ rest
  pub stepping : (game : GameFile) (given written : List ℕ) → IsStepping game given written before → IsStepping game (given ++ front) written after

module _ (before after held : Stepper) (piece rest part : List ℕ) (hears : HearsOn before after piece rest) (same : held.run ≡ after.run) (number : held.number ≡ after.number)
    (joins : (line : List ℕ) → IsHeld line after.held → IsHeld (line ++ part) held.held) (none : has_end part ≡ false) where
  part_joined : (game : GameFile) (given written : List ℕ) → IsStepping game given written before → IsStepping game ((given ++ hears.front) ++ part) written held
  part_joined game given written s = joined game (given ++ hears.front) written after held (hears.stepping game given written s) part same number joins none

  -- the last part of a piece has no line end
  pub hears_all : rest ≡ part → (game : GameFile) (given written : List ℕ) → IsStepping game given written before → IsStepping game (given ++ piece) written held
  hears_all last game given written s =
      let bytes : (given ++ hears.front) ++ part ≡ given ++ piece =
      append_assoc given hears.front part ∙ ap (λ (l : List ℕ). given ++ l) (ap (λ (l : List ℕ). hears.front ++ l) (sym last) ∙ sym hears.cut) in
      subst (λ (l : List ℕ). IsStepping game l written held) bytes (part_joined game given written s)

  module _ (left : List ℕ) (cut : rest ≡ part ++ 10 ∷ left) where
    abbrev front : List ℕ
    front = hears.front ++ (part ++ 10 ∷ [])

    cut_behind : piece ≡ front ++ left
    cut_behind =
        hears.cut
        ∙ (ap (λ (l : List ℕ). hears.front ++ l) (cut ∙ sym (append_assoc part (10 ∷ []) left)) ∙ sym (append_assoc hears.front (part ++ 10 ∷ []) left))

    bytes_so_far : (given : List ℕ) → ((given ++ hears.front) ++ part) ++ 10 ∷ [] ≡ given ++ front
    bytes_so_far given = append_assoc (given ++ hears.front) part (10 ∷ []) ∙ append_assoc given hears.front (part ++ 10 ∷ [])

    -- a line was good
    pub hears_more : (ended : Stepper) → ((game : GameFile) (given written : List ℕ) → IsStepping game given written held → IsStepping game (given ++ 10 ∷ []) written ended) → HearsOn before ended piece left
    hears_more ended good = record {
      front = front;
      cut = cut_behind;
      stepping = λ game given written s. subst (λ (l : List ℕ). IsStepping game l written ended) (bytes_so_far given) (good game ((given ++ hears.front) ++ part) written (part_joined game given written s));
    }

    -- a line was bad
    pub hears_bad : (ended : Stepper) (fault : ScriptFault) → ((game : GameFile) (given written : List ℕ) → IsStepping game given written held → StopsAtLine game (given ++ 10 ∷ []) written ended fault) →
        (game : GameFile) (given written : List ℕ) → IsStepping game given written before → StopsAtLine game (given ++ piece) written ended fault
    hears_bad ended fault bad game given written s =
        let stop : StopsAtLine game (given ++ front) written ended fault =
        subst (λ (l : List ℕ). StopsAtLine game l written ended fault) (bytes_so_far given) (bad game ((given ++ hears.front) ++ part) written (part_joined game given written s)) in
        let bytes : (given ++ front) ++ left ≡ given ++ piece = append_assoc given front left ∙ ap (λ (l : List ℕ). given ++ l) (sym cut_behind) in
        subst (λ (l : List ℕ). StopsAtLine game l written ended fault) bytes (stopped_before game (given ++ front) left written ended fault stop)
