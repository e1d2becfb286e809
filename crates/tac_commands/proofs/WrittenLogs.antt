-- Reading a written log again, and auditing it.
use Rattle.std.proofs.Common.{◌≡◌, ℕ, ◌≤◌, List, ◌++◌, length, refl, sym, ap, ◌∙◌, subst, inl, inr, append_assoc, ◌⊎◌, codes, Ok}
use Rattle.std.proofs.lemmas.List.{append_cancel_left}
use Rattle.tac_commands.specs.{TEXT_BYTES, GameFile, ClosedGame, first_lines, histories_text, play_part, sheet_part, IsHead, IsPlayed, HaveOneHistory, LoggedGame, logged_text, IsSound, WritesDue, IsFlawText, IsSaidSound, read_as, logged_or_fault, Outcome, Done, Unsound, Refused, EndsInSoundLog, IsOnlyGameIn}
use Rattle.auction_rules.specs.History.{Entry}
use Rattle.line_protocol.specs.Heads.{Head}
use Rattle.log_reader.proofs.LogTexts.{only_log}
use Rattle.tac_commands.specs.declared.file_kinds.FileKind.TheVariants.{Log}
use Rattle.tac_commands.specs.declared.refusals.Refusal.TheVariants.{Memory}
use Rattle.tac_commands.specs.Runs.{StopsAt}
use Rattle.tac_commands.proofs.LoggedNumbers.{head_is, game_in, game_is, same_histories}

-- the text that follows is that of the log
text_of : (game : GameFile) (log : LoggedGame) (before text : List ℕ) → EndsInSoundLog game log before (before ++ text) → text ≡ logged_text log
text_of game log before text ends = append_cancel_left before text (logged_text log) ends.due

pub read_again : (game : GameFile) (log : LoggedGame) (before text : List ℕ) → EndsInSoundLog game log before (before ++ text) → length text ≤ TEXT_BYTES → read_as Log text ≡ Ok log
read_again game log before text ends short =
    let same = text_of game log before text ends in
    ap logged_or_fault (only_log text log (ends.logged (subst (λ (t : List ℕ). length t ≤ TEXT_BYTES) same short)) short same)

-- a text that begins with the part of the game of a log
begins : (game : GameFile) (log : LoggedGame) → logged_text log ≡ play_part log.head (game_in game log) ++ sheet_part log.scores
begins game log =
    sym (append_assoc (first_lines log.head) (histories_text log.histories log.cash) (sheet_part log.scores))
    ∙ ap (λ (histories : List (List Entry)). (first_lines log.head ++ histories_text histories log.cash) ++ sheet_part log.scores) (sym (same_histories game log))

pub one_log : ((head other_head : Head) (closed other : ClosedGame) (rest other_rest : List ℕ) → IsHead head → IsHead other_head → IsPlayed closed → IsPlayed other →
    play_part head closed ++ rest ≡ play_part other_head other ++ other_rest → (head ≡ other_head) × HaveOneHistory closed other × (rest ≡ other_rest)) →
    (game : GameFile) (log : LoggedGame) (before text : List ℕ) → EndsInSoundLog game log before (before ++ text) → IsOnlyGameIn text log
one_log law game log before text ends = λ other_game other other_before other_ends.
    let one = law log.head other.head (game_in game log) (game_in other_game other) (sheet_part log.scores) (sheet_part other.scores)
    (head_is log.head ends.ranged.head) (head_is other.head other_ends.ranged.head) (game_is game log ends.ranged) (game_is other_game other other_ends.ranged)
    (sym (begins game log) ∙ (sym (text_of game log before text ends) ∙ (text_of other_game other other_before text other_ends ∙ begins other_game other))) in
    (one.0, sym (same_histories game log) ∙ (one.1.histories ∙ same_histories other_game other), one.1.cash)

-- ---- what an audit may write of a sound log

abbrev SaysSound : Outcome → Type 0
SaysSound outcome = (outcome ≡ Done (codes "sound\n")) ⊎ (outcome ≡ Refused Memory)

written : (outcome : Outcome) → WritesDue (λ (text : List ℕ). text ≡ codes "sound\n") outcome → SaysSound outcome
written (Done text) due = inl (ap Done due)
written (Refused Memory) due = inr refl
written outcome due = absurd due

stopped : (game : GameFile) (log : LoggedGame) (outcome : Outcome) → IsSound game log → StopsAt (IsSound game log) (IsFlawText game log) outcome → SaysSound outcome
stopped game log (Unsound text) sound stops = absurd (stops.0 sound)
stopped game log (Refused Memory) sound stops = inr refl
stopped game log outcome sound stops = absurd stops

pub says_sound : (game : GameFile) (log : LoggedGame) → IsSound game log → IsSaidSound game log
says_sound game log sound files files' outcome (inl run) = written outcome run.1.0
says_sound game log sound files files' outcome (inr run) = stopped game log outcome sound run.0
