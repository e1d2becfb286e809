-- A script that is heard piece by piece, up to what ends the game.
use Rattle.std.proofs.Common.{◌≡◌, ℕ, ◌+◌, ◌<◌, ◌≤◌, false, List, [], ◌++◌, length, length-append, take, refl, sym, ap, ◌∙◌, subst, arith, inl, inr, ◌⊎◌, Result, Ok, Err}
use Rattle.script_run.specs.{TEXT_BYTES, parts_of, Rose, FilesState, SinkState, IsAtEnd, then_known, GameFile, TookWhole, TookPart, HasRunGame, Heard, heard, heard_from, heard_lines, Reading, AtEnd, AtFault, Before, Standing, Whole, BadAt, Overlong, BrokenOff, Open, script_standing, standing_after, replies, BadLine, HasReadCause, IsPrompt, StopsThere, StepsGame, Tells, Answered, EndsScript, HasAnswered, HearsLines, IsStepping, TookMore}
use Rattle.tac_io.proofs.KnownPieces.{known_then-nothing, then_known-nothing, then_known-twice}
use Rattle.tac_io.proofs.WholeFiles.{still_at_end}
use Rattle.script_run.specs.declared.fault.StepFault.{StepFault}
use Rattle.script_run.specs.declared.fault.StepFault.TheVariants.{Line, TooLong, Unread, Unwritten, Memory}
use Rattle.script_run.specs.declared.game.lines.GameLine.{GameLine}
use Rattle.script_run.specs.declared.game.run.GameRun.{GameRun}
use Rattle.script_run.specs.declared.game.stepping.Stepper.{Stepper}
use Rattle.script_run.proofs.Answering.{all_written}
use Rattle.script_run.proofs.SteppedGames.{heard_beyond, heard_so_far, heard_within, open_stands, prompt_after, prompt_now, stands_beyond, stands_within, tells_as, took_none, took_replies}

-- the files that are read and the sink that is written
pub record HeardOutside : Type 0 where
  pub files : FilesState
  pub sink : SinkState

-- the selected file gave so many bytes, and all lines in them were answered
pub record IsHearing (game : GameFile) (before after : HeardOutside) (stepper : Stepper) (count : ℕ) : Type 0 where
  pub given : List ℕ
  pub count_is : count ≡ length given
  pub within : count ≤ TEXT_BYTES
  pub answered : HasAnswered game given before.sink stepper after.sink
  pub left : before.files.left ≡ then_known given after.files.left
  pub quiet : after.files.faults ≡ before.files.faults

-- nothing was read yet
pub hears_nothing : (game : GameFile) (files : FilesState) (start : SinkState) (stepper : Stepper) → stepper.run.text.items ≡ [] → IsStepping game [] [] stepper → IsHearing game (record { files = files; sink = start }) (record { files = files; sink = start }) stepper 0
hears_nothing game files start stepper none s = record {
  given = [];
  count_is = refl;
  within = omega arith;
  answered = record { written = []; stepping = s; all = all_written game [] [] stepper none s; took = (sym (known_then-nothing start.taken), refl, refl) };
  left = sym (then_known-nothing files.left);
  quiet = refl;
}

module _ (game : GameFile) (files : FilesState) (start : SinkState) where
  -- what ended the game
  ends : (given : List ℕ) (reading : Reading) (stands : Standing) (files' : FilesState) (sink' : SinkState) (result : Result (Unit {0}) StepFault) → script_standing given reading ≡ stands →
      files.left ≡ then_known given files'.left → StopsThere reading files'.left → HasReadCause stands files.faults files'.faults → Tells game given stands start sink' result →
      IsPrompt game given start sink' → StepsGame game files files' start sink' result
  ends given reading stands files' sink' result is left stops cause tells prompt = inr (
    given,
    reading,
    (left, stops, subst (λ (s : Standing). HasReadCause s files.faults files'.faults) (sym is) cause),
    tells_as game given reading stands start sink' result is tells,
    prompt,
  )

  module _ (files' : FilesState) (sink : SinkState) (stepper : Stepper) (count : ℕ) (h : IsHearing game (record { files = files; sink = start }) (record { files = files'; sink = sink }) stepper count) where
    short : length h.given ≤ TEXT_BYTES
    short = let is = h.count_is in let low = h.within in omega (arith, is, low)

    so_far : heard h.given ≡ ((h.answered.stepping).lines, Ok (h.answered.stepping).rest)
    so_far = heard_so_far game h.given h.answered.written stepper short h.answered.stepping

    took : TookWhole start sink (replies game (heard_lines h.given))
    took = took_replies game h.given start sink stepper short h.answered

    prompt : IsPrompt game h.given start sink
    prompt = prompt_now game h.given start sink sink took (took_none sink)

    -- a read failed
    pub unread : (files'' : FilesState) → files''.left ≡ files'.left → Rose files'.faults files''.faults → StepsGame game files files'' start sink (Err Unread)
    unread files'' same rose =
        ends h.given AtFault BrokenOff files'' sink (Err Unread) (stands_within h.given AtFault (h.answered.stepping).lines (Ok (h.answered.stepping).rest) short so_far)
        (h.left ∙ ap (then_known h.given) (sym same)) tt (subst (λ (n : ℕ). Rose n files''.faults) h.quiet rose) (refl, took) prompt

    module _ (files'' : FilesState) (piece : List ℕ) (n : ℕ) (gave : files'.left ≡ then_known (take n piece) files''.left) (calm : files''.faults ≡ files'.faults) where
      quiet : files''.faults ≡ files.faults
      quiet = calm ∙ h.quiet

      left : files.left ≡ then_known (h.given ++ take n piece) files''.left
      left = h.left ∙ (ap (then_known h.given) gave ∙ then_known-twice files''.left h.given (take n piece))

      -- the script is at its end
      module _ (none : n ≡ 0) (end : IsAtEnd files'.left) where
        left_at_end : files.left ≡ then_known h.given files''.left
        left_at_end = h.left ∙ ap (then_known h.given) (gave ∙ (ap (λ (k : ℕ). then_known (take k piece) files''.left) none ∙ then_known-nothing files''.left))

        pub at_end : (result : Result GameRun StepFault) → EndsScript game (h.answered.stepping).lines (h.answered.stepping).rest h.answered.written result → HearsLines game files files'' start sink result
        at_end (Ok run) ended =
            let lines_are : (h.answered.stepping).lines ≡ heard_lines h.given = ap (λ (x : Heard). x.0) (sym so_far) in
            let whole : script_standing h.given AtEnd ≡ Whole =
            stands_within h.given AtEnd (h.answered.stepping).lines (Ok (h.answered.stepping).rest) short so_far
            ∙ ap (λ (rest : List ℕ). standing_after (h.answered.stepping).lines (Ok rest) false AtEnd) ended.0 in (
              h.given,
              (left_at_end, still_at_end files'.left files''.left piece n none gave end, subst (λ (x : Standing). HasReadCause x files.faults files''.faults) (sym whole) quiet),
              whole,
              subst (λ (lines : List GameLine). HasRunGame game lines (replies game lines) run) lines_are (subst (λ (w : List ℕ). HasRunGame game (h.answered.stepping).lines w run) h.answered.all ended.1),
              took,
            )
        at_end (Err (Line line reason)) ended =
            ends h.given AtEnd (BadAt line reason) files'' sink (Err (Line line reason))
            (stands_within h.given AtEnd (h.answered.stepping).lines (Ok (h.answered.stepping).rest) short so_far ∙ ended)
            left_at_end (still_at_end files'.left files''.left piece n none gave end) quiet (refl, took) prompt
        at_end (Err TooLong) ended = absurd ended
        at_end (Err Unread) ended = absurd ended
        at_end (Err Unwritten) ended = absurd ended
        at_end (Err Memory) ended = absurd ended

      -- more bytes came than a script may have
      pub too_long : count ≡ TEXT_BYTES → 0 < length (take n piece) → length (take n piece) ≤ 1024 → StepsGame game files files'' start sink (Err TooLong)
      too_long full some few =
          let bytes : List ℕ = take n piece in
          let all : length h.given ≡ TEXT_BYTES = sym h.count_is ∙ full in
          let same : heard (h.given ++ bytes) ≡ heard h.given = heard_beyond h.given bytes all in
          let long : TEXT_BYTES < length (h.given ++ bytes) = omega (arith, all, some, length-append h.given bytes) in
          ends (h.given ++ bytes) Before Overlong files'' sink (Err TooLong) (stands_beyond (h.given ++ bytes) Before (h.answered.stepping).lines (h.answered.stepping).rest long (same ∙ so_far)) left tt quiet
          (refl, subst (λ (x : Heard). TookWhole start sink (replies game x.0)) (sym same) took)
          (prompt_after game h.given bytes start sink sink few took (took_none sink))

      -- the lines of a piece were answered
      module _ (sink' : SinkState) (within : count + length (take n piece) ≤ TEXT_BYTES) (few : length (take n piece) ≤ 1024) (more : TookMore sink sink') where
        short' : length (h.given ++ take n piece) ≤ TEXT_BYTES
        short' = let is = h.count_is in omega (arith, is, within, length-append h.given (take n piece))

        pub answered_fault : (fault : StepFault) (stepper' : Stepper) → Answered game (h.given ++ take n piece) start stepper' sink' (Err fault) → StepsGame game files files'' start sink' (Err fault)
        answered_fault (Line line reason) stepper' answer =
            let is : heard (h.given ++ take n piece) ≡ (answer.0, Err (line, reason)) = heard_within (h.given ++ take n piece) short' ∙ answer.1 in
            ends (h.given ++ take n piece) Before (BadAt line reason) files'' sink' (Err (Line line reason)) (stands_within (h.given ++ take n piece) Before answer.0 (Err (line, reason)) short' is) left tt quiet
            (refl, subst (λ (x : Heard). TookWhole start sink' (replies game x.0)) (sym is) answer.2)
            (prompt_after game h.given (take n piece) start sink sink' few took more)
        answered_fault Unwritten stepper' answer = by_stand (open_stands (heard_from [] (parts_of 10 (h.given ++ take n piece))).0 (heard_from [] (parts_of 10 (h.given ++ take n piece))).1)
          where
            is : heard (h.given ++ take n piece) ≡ heard_from [] (parts_of 10 (h.given ++ take n piece))
            is = heard_within (h.given ++ take n piece) short'

            part : TookPart start sink' (replies game (heard_lines (h.given ++ take n piece)))
            part = subst (λ (x : Heard). TookPart start sink' (replies game x.0)) (sym is) answer

            stands : script_standing (h.given ++ take n piece) Before ≡ standing_after (heard_from [] (parts_of 10 (h.given ++ take n piece))).0 (heard_from [] (parts_of 10 (h.given ++ take n piece))).1 false Before
            stands = stands_within (h.given ++ take n piece) Before (heard_from [] (parts_of 10 (h.given ++ take n piece))).0 (heard_from [] (parts_of 10 (h.given ++ take n piece))).1 short' is

            kept : IsPrompt game (h.given ++ take n piece) start sink'
            kept = prompt_after game h.given (take n piece) start sink sink' few took more

            by_stand : (standing_after (heard_from [] (parts_of 10 (h.given ++ take n piece))).0 (heard_from [] (parts_of 10 (h.given ++ take n piece))).1 false Before ≡ Open)
                ⊎ ((bad : BadLine) × ((heard_from [] (parts_of 10 (h.given ++ take n piece))).1 ≡ Err bad)) → StepsGame game files files'' start sink' (Err Unwritten)
            by_stand (inl open_so) = ends (h.given ++ take n piece) Before Open files'' sink' (Err Unwritten) (stands ∙ open_so) left tt quiet part kept
            by_stand (inr bad) =
                ends (h.given ++ take n piece) Before (BadAt bad.0.0 bad.0.1) files'' sink' (Err Unwritten)
                (stands ∙ ap (λ (e : Result (List ℕ) BadLine). standing_after (heard_from [] (parts_of 10 (h.given ++ take n piece))).0 e false Before) bad.1) left tt quiet part kept
        answered_fault TooLong stepper' answer = absurd answer
        answered_fault Unread stepper' answer = absurd answer
        answered_fault Memory stepper' answer = absurd answer

        pub goes_on : (stepper' : Stepper) (count' : ℕ) → count' ≡ count + length (take n piece) → HasAnswered game (h.given ++ take n piece) start stepper' sink' → IsHearing game (record { files = files; sink = start }) (record { files = files''; sink = sink' }) stepper' count'
        goes_on stepper' count' is answer =
            let was = h.count_is in
            record {
              given = h.given ++ take n piece;
              count_is = omega (arith, is, was, length-append h.given (take n piece));
              within = omega (arith, is, within);
              answered = answer;
              left = left;
              quiet = quiet;
            }
