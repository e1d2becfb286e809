-- What a game that is played line by line tells, once it ends.
use Rattle.std.proofs.Common.{◌≡◌, ℕ, ◌<◌, ◌≤◌, Bool, true, false, List, [], ◌++◌, length, refl, sym, ap, ◌∙◌, subst, arith, append_assoc, append-nil, inl, inr, ◌⊎◌, nat_lt, Result, Ok, Err, take_all}
use Rattle.std.proofs.lemmas.Bool.Decides.{nat_tests}
use Rattle.std.proofs.lemmas.List.{take-append-le}
use Rattle.script_run.specs.{TEXT_BYTES, parts_of, SinkState, known_then, GameFile, TookWhole, Heard, heard, heard_from, heard_lines, Reading, Before, Standing, Overlong, Open, script_standing, standing_after, replies, BadLine, IsPrompt, Tells, IsStepping, HasAnswered, TookMore}
use Rattle.tac_io.proofs.KnownPieces.{known_then-nothing, known_then-twice}
use Rattle.script_run.specs.declared.fault.StepFault.{StepFault}
use Rattle.script_run.specs.declared.game.lines.GameLine.{GameLine}
use Rattle.script_run.specs.declared.game.stepping.Stepper.{Stepper}
use Rattle.script_run.proofs.Hearing.{heard_rest}

-- ---- what was heard of bytes within the limit

pub heard_within : (given : List ℕ) → length given ≤ TEXT_BYTES → heard given ≡ heard_from [] (parts_of 10 given)
heard_within given short = ap (λ (l : List ℕ). heard_from [] (parts_of 10 l)) (take_all TEXT_BYTES given short)

-- the lines so far, and the rest
pub heard_so_far : (game : GameFile) (given written : List ℕ) (stepper : Stepper) → length given ≤ TEXT_BYTES → (s : IsStepping game given written stepper) → heard given ≡ (s.lines, Ok s.rest)
heard_so_far game given written stepper short s =
    heard_within given short
    ∙ (ap (λ (l : List ℕ). heard_from [] (parts_of 10 l)) (sym (append-nil given)) ∙ (s.heard []
    ∙ (ap (λ (l : List ℕ). heard_from s.lines (parts_of 10 l)) (append-nil s.rest) ∙ heard_rest s.lines s.rest s.no_end)))

-- ---- how a script stands

-- a script within the limit
pub stands_within : (given : List ℕ) (reading : Reading) (lines : List GameLine) (end : Result (List ℕ) BadLine) → length given ≤ TEXT_BYTES → heard given ≡ (lines, end) →
    script_standing given reading ≡ standing_after lines end false reading
stands_within given reading lines end short is =
    let test : nat_lt TEXT_BYTES (length given) ≡ false = grind (arith, nat_tests) in
    ap (λ (h : Heard). standing_after h.0 h.1 (nat_lt TEXT_BYTES (length given)) reading) is ∙ ap (λ (b : Bool). standing_after lines end b reading) test

-- and one that is longer, whose lines are good so far
pub stands_beyond : (given : List ℕ) (reading : Reading) (lines : List GameLine) (rest : List ℕ) → TEXT_BYTES < length given → heard given ≡ (lines, Ok rest) → script_standing given reading ≡ Overlong
stands_beyond given reading lines rest long is =
    let test : nat_lt TEXT_BYTES (length given) ≡ true = grind (arith, nat_tests) in
    ap (λ (h : Heard). standing_after h.0 h.1 (nat_lt TEXT_BYTES (length given)) reading) is ∙ ap (λ (b : Bool). standing_after lines (Ok rest) b reading) test

-- the bytes beyond the limit are not heard
pub heard_beyond : (given more : List ℕ) → length given ≡ TEXT_BYTES → heard (given ++ more) ≡ heard given
heard_beyond given more full =
    let within : TEXT_BYTES ≤ length given = omega (arith, full) in
    ap (λ (l : List ℕ). heard_from [] (parts_of 10 l)) (take-append-le TEXT_BYTES given more within)

pub open_stands : (lines : List GameLine) (end : Result (List ℕ) BadLine) → (standing_after lines end false Before ≡ Open) ⊎ ((bad : BadLine) × (end ≡ Err bad))
open_stands lines (Ok rest) = inl refl
open_stands lines (Err bad) = inr (bad, refl)

-- ---- what was answered

-- the replies to all lines so far were written
pub took_replies : (game : GameFile) (given : List ℕ) (start sink : SinkState) (stepper : Stepper) → length given ≤ TEXT_BYTES → HasAnswered game given start stepper sink →
    TookWhole start sink (replies game (heard_lines given))
took_replies game given start sink stepper short has =
    subst (TookWhole start sink) (has.all ∙ ap (λ (h : Heard). replies game h.0) (sym (heard_so_far game given has.written stepper short has.stepping))) has.took

-- a sink that took some replies, and then more
pub prompt_after : (game : GameFile) (before last : List ℕ) (start sink sink' : SinkState) → length last ≤ 1024 → TookWhole start sink (replies game (heard_lines before)) → TookMore sink sink' →
    IsPrompt game (before ++ last) start sink'
prompt_after game before last start sink sink' short took more = record {
  before = before;
  last = last;
  both = refl;
  one_read = short;
  more = more.0;
  answered = more.1 ∙ (ap (λ answered. known_then answered more.0) took.0 ∙ known_then-twice start.taken (replies game (heard_lines before)) more.0);
}

pub took_none : (sink : SinkState) → TookMore sink sink
took_none sink = ([], sym (known_then-nothing sink.taken))

-- the same where nothing was read since
pub prompt_now : (game : GameFile) (given : List ℕ) (start sink sink' : SinkState) → TookWhole start sink (replies game (heard_lines given)) → TookMore sink sink' → IsPrompt game given start sink'
prompt_now game given start sink sink' took more =
    subst (λ (l : List ℕ). IsPrompt game l start sink') (append-nil given) (prompt_after game given [] start sink sink' (omega arith) took more)

pub tells_as : (game : GameFile) (given : List ℕ) (reading : Reading) (stands : Standing) (sink sink' : SinkState) (result : Result (Unit {0}) StepFault) → script_standing given reading ≡ stands →
    Tells game given stands sink sink' result → Tells game given (script_standing given reading) sink sink' result
tells_as game given reading stands sink sink' result is tells = subst (λ (s : Standing). Tells game given s sink sink' result) (sym is) tells

-- what was answered stays answered
pub prompt_kept : (game : GameFile) (given : List ℕ) (sink sink' sink'' : SinkState) → IsPrompt game given sink sink' → TookMore sink' sink'' → IsPrompt game given sink sink''
prompt_kept game given sink sink' sink'' prompt more =
    let answered : List ℕ = replies game (heard_lines prompt.before) in
    record {
      before = prompt.before;
      last = prompt.last;
      both = prompt.both;
      one_read = prompt.one_read;
      more = prompt.more ++ more.0;
      answered = more.1 ∙ (ap (λ taken. known_then taken more.0) prompt.answered ∙ (known_then-twice sink.taken (answered ++ prompt.more) more.0
          ∙ ap (known_then sink.taken) (append_assoc answered prompt.more more.0)));
    }

-- where nothing came, nothing is to be answered
pub prompt_nothing : (game : GameFile) (sink : SinkState) → IsPrompt game [] sink sink
prompt_nothing game sink = record { before = []; last = []; both = refl; one_read = omega arith; more = []; answered = sym (known_then-nothing sink.taken) }
