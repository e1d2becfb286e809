-- The first bad line of game files.
use Rattle.std.proofs.Common.{◌≡◌, ℕ, ◌≤◌, ◌↔◌, true, false, ltb, List, length, Result, Ok, Err, refl, sym, ap, ◌∙◌, le-ltb}
use Rattle.reading_laws.specs.{BadLine, reason_number, or_game_fault, GameFile, game_lines, game_in, game_of, IsFirstBadLine}
use Rattle.text_forms.proofs.PrintedLines.{left_ahead}
use Rattle.game_text.specs.declared.fault.GameFault.TheVariants.{Line}
use Rattle.game_text.proofs.GameLaws.{game_in_is, game_in_again}
use Rattle.reading_laws.specs.Games.{IsGameText, IsRefusedGameAt}
use Rattle.reading_laws.proofs.Steady.{any_line, Never}
use Rattle.reading_laws.proofs.Law.{left_of, is_first, is_refused}
use Rattle.reading_laws.proofs.LineSteps.{IsBadAt, BadLineOf, one_place}
use Rattle.reading_laws.proofs.GameSteps.{game_closes}

-- ---- what is shown of a bad line

pub bad_line_of : {A : Type 0} (r : Result A BadLine) (line reason : ℕ) → or_game_fault r ≡ Err (Line line reason) → BadLineOf r line
bad_line_of (Ok x) line reason e = absurd cc
bad_line_of (Err bad) line reason e = record { bad = bad; is = refl; at = cc }

pub shown : {A : Type 0} (r : Result A BadLine) (bad : BadLine) (line : ℕ) → r ≡ Err bad → IsBadAt bad line → or_game_fault r ≡ Err (Line line (reason_number bad.reason))
shown r bad line e at = ap or_game_fault e ∙ ap (λ (n : ℕ). Err (Line n (reason_number bad.reason))) at

-- ---- the law

found : (text : List ℕ) (game : GameFile) → game_in (left_of true text) ≡ Ok game → IsGameText text
found text game e = let is = game_in_is (left_of true text) game e in (game, is.1, is.0)

only : (text : List ℕ) → IsGameText text → (game : GameFile) × (game_in (left_of true text) ≡ Ok game)
only text is =
    let ahead = left_ahead (game_lines is.0) (left_of true text) is.2 in
    (is.0, ap game_in ahead.2 ∙ game_in_again is.0 ahead.1 ahead.0 is.1)

short_game : (text : List ℕ) → length text ≤ 1048576 → game_of text ≡ or_game_fault (game_in (left_of true text))
unfolding game_of
short_game text short = let long : ltb 1048576 (length text) ≡ false = le-ltb _ _ short in rw long refl

pub game_law : (text : List ℕ) (line : ℕ) → length text ≤ 1048576 → IsRefusedGameAt text line ↔ IsFirstBadLine IsGameText text line
game_law text line short = (
  λ r. let bad = bad_line_of (game_in (left_of true text)) line r.0 (sym (short_game text short) ∙ r.1) in is_first IsBadAt any_line Never true game_in IsGameText found only game_closes one_place text (λ fault w. w.place.refused) line bad.bad bad.is bad.at,
  λ is. let r = is_refused IsBadAt any_line Never true game_in IsGameText found only game_closes text line (λ fault w. absurd w.place.refused) is in (reason_number r.0.reason, short_game text short ∙ shown (game_in (left_of true text)) r.0 line r.1 r.2),
)
