-- The first bad line of account files.
use Rattle.std.proofs.Common.{◌≡◌, ℕ, ◌≤◌, ◌↔◌, true, false, ltb, List, length, Ok, refl, sym, ap, ◌∙◌, le-ltb}
use Rattle.reading_laws.specs.{TEXT_BYTES, reason_number, or_game_fault, AccountFile, account_lines, account_in, account_of, IsFirstBadLine}
use Rattle.text_forms.proofs.PrintedLines.{left_ahead}
use Rattle.game_text.proofs.AccountLaws.{account_in_is, account_in_again}
use Rattle.reading_laws.specs.Games.{IsTextOfAccount, IsRefusedAccountAt}
use Rattle.reading_laws.proofs.Steady.{any_line, Never}
use Rattle.reading_laws.proofs.Law.{left_of, is_first, is_refused}
use Rattle.reading_laws.proofs.LineSteps.{IsBadAt, one_place}
use Rattle.reading_laws.proofs.AccountSteps.{account_closes}
use Rattle.reading_laws.proofs.GameLaw.{bad_line_of, shown}

found : (text : List ℕ) (account : AccountFile) → account_in (left_of true text) ≡ Ok account → IsTextOfAccount text
found text account e = let is = account_in_is (left_of true text) account e in (account, is.1, is.0)

only : (text : List ℕ) → IsTextOfAccount text → (account : AccountFile) × (account_in (left_of true text) ≡ Ok account)
only text is =
    let ahead = left_ahead (account_lines is.0) (left_of true text) is.2 in
    (is.0, ap account_in ahead.2 ∙ account_in_again is.0 ahead.1 ahead.0 is.1)

short_account : (text : List ℕ) → length text ≤ TEXT_BYTES → account_of text ≡ or_game_fault (account_in (left_of true text))
unfolding account_of
short_account text short = let long : ltb TEXT_BYTES (length text) ≡ false = le-ltb _ _ short in rw long refl

pub account_law : (text : List ℕ) (line : ℕ) → length text ≤ TEXT_BYTES → IsRefusedAccountAt text line ↔ IsFirstBadLine IsTextOfAccount text line
account_law text line short = (
  λ r. let bad = bad_line_of (account_in (left_of true text)) line r.0 (sym (short_account text short) ∙ r.1) in is_first IsBadAt any_line Never true account_in IsTextOfAccount found only account_closes one_place text (λ fault w. w.place.refused) line bad.bad bad.is bad.at,
  λ is. let r = is_refused IsBadAt any_line Never true account_in IsTextOfAccount found only account_closes text line (λ fault w. absurd w.place.refused) is in (reason_number r.0.reason, short_account text short ∙ shown (account_in (left_of true text)) r.0 line r.1 r.2),
)
