-- What the way in which a script stands says of the whole script.
use Rattle.std.proofs.Common.{◌≡◌, ℕ, ◌+◌, ◌<◌, ◌≤◌, Bool, true, false, List, [], ◌∷◌, ◌++◌, length, length-append, refl, sym, ap, ◌∙◌, arith, append-nil, nat_lt, Result, Ok, Err}
use Rattle.std.proofs.lemmas.Bool.Decides.{nat_tests}
use Rattle.text_forms.specs.Words.{parts_of}
use Rattle.script_run.specs.declared.fault.ScriptReason.TheVariants.{NoLineEnd}
use Rattle.script_run.specs.declared.game.lines.GameLine.{GameLine}
use Rattle.script_run.specs.{TEXT_BYTES, game_script, heard, heard_from, heard_lines, Reading, AtEnd, AtFault, Before, Whole, BadAt, Overlong, script_standing, standing_after, BadLine, script_reason_number}
use Rattle.script_run.proofs.Hearing.{bad_stays, lines_in, script_heard}
use Rattle.script_run.proofs.SteppedGames.{heard_within}

-- ---- a whole script

whole_so : (lines : List GameLine) (end : Result (List ℕ) BadLine) (long : Bool) (reading : Reading) → standing_after lines end long reading ≡ Whole →
    (end ≡ Ok []) × (long ≡ false) × (reading ≡ AtEnd)
whole_so lines (Err bad) long reading is = absurd cc
whole_so lines (Ok rest) true reading is = absurd cc
whole_so lines (Ok rest) false AtFault is = absurd cc
whole_so lines (Ok rest) false Before is = absurd cc
whole_so lines (Ok []) false AtEnd is = (refl, refl, refl)
whole_so lines (Ok (byte ∷ rest)) false AtEnd is = absurd cc

within : (given : List ℕ) → nat_lt TEXT_BYTES (length given) ≡ false → length given ≤ TEXT_BYTES
within given test = grind (arith, nat_tests)

beyond : (given : List ℕ) → nat_lt TEXT_BYTES (length given) ≡ true → TEXT_BYTES < length given
beyond given test = grind (arith, nat_tests)

pub record IsWhole (given : List ℕ) (reading : Reading) : Type 0 where
  pub read : reading ≡ AtEnd
  pub within : length given ≤ TEXT_BYTES
  pub good : game_script given ≡ Ok (heard_lines given)

pub whole_is : (given : List ℕ) (reading : Reading) → script_standing given reading ≡ Whole → IsWhole given reading
whole_is given reading is =
    let so = whole_so (heard given).0 (heard given).1 (nat_lt TEXT_BYTES (length given)) reading is in
    let short = within given so.1 in
    record {
      read = so.2;
      within = short;
      good = script_heard given ∙ (ap lines_in (sym (heard_within given short)) ∙ ap (λ (end : Result (List ℕ) BadLine). lines_in (heard_lines given, end)) so.0);
    }

-- ---- a bad line

-- the script has a bad line whatever comes, or its last line has no end
data IsBadSo (lines : List GameLine) (end : Result (List ℕ) BadLine) (reading : Reading) (bad : BadLine) : Type 0 where
  Decided : end ≡ Err bad → IsBadSo lines end reading bad
  AtLast : reading ≡ AtEnd → lines_in (lines, end) ≡ Err bad → IsBadSo lines end reading bad

bad_so : (lines : List GameLine) (end : Result (List ℕ) BadLine) (long : Bool) (reading : Reading) (line reason : ℕ) → standing_after lines end long reading ≡ BadAt line reason → IsBadSo lines end reading (line, reason)
bad_so lines (Err bad) long reading line reason is =
    let at : bad.0 ≡ line = cc in
    let why : bad.1 ≡ reason = cc in
    Decided (λ i. Err (at i, why i))
bad_so lines (Ok rest) true reading line reason is = absurd cc
bad_so lines (Ok rest) false AtFault line reason is = absurd cc
bad_so lines (Ok rest) false Before line reason is = absurd cc
bad_so lines (Ok []) false AtEnd line reason is = absurd cc
bad_so lines (Ok (byte ∷ rest)) false AtEnd line reason is =
    let at : length lines + 1 ≡ line = cc in
    let why : script_reason_number NoLineEnd ≡ reason = cc in
    AtLast refl (λ i. Err (at i, why i))

-- such a script is refused for that line, if it is not too long
pub bad_is : (given rest : List ℕ) (reading : Reading) (line reason : ℕ) → script_standing given reading ≡ BadAt line reason → (reading ≡ AtEnd → rest ≡ []) → length (given ++ rest) ≤ TEXT_BYTES →
    game_script (given ++ rest) ≡ Err (line, reason)
bad_is given rest reading line reason is all short = by_so (bad_so (heard given).0 (heard given).1 (nat_lt TEXT_BYTES (length given)) reading line reason is)
  where
    short' : length given ≤ TEXT_BYTES
    short' = omega (arith, short, length-append given rest)

    heard_as : (end : Result (List ℕ) BadLine) → (heard given).1 ≡ end → heard_from [] (parts_of 10 given) ≡ (heard_lines given, end)
    heard_as end same = sym (heard_within given short') ∙ ap (λ (e : Result (List ℕ) BadLine). (heard_lines given, e)) same

    by_so : IsBadSo (heard given).0 (heard given).1 reading (line, reason) → game_script (given ++ rest) ≡ Err (line, reason)
    by_so (Decided same) = script_heard (given ++ rest) ∙ ap lines_in (bad_stays [] (heard_lines given) given rest (line, reason) (heard_as (Err (line, reason)) same))
    by_so (AtLast read same) =
        let bytes : given ++ rest ≡ given = ap (λ (l : List ℕ). given ++ l) (all read) ∙ append-nil given in
        ap game_script bytes ∙ (script_heard given ∙ (ap lines_in (sym (heard_within given short')) ∙ same))

-- ---- a script that is too long

overlong_so : (lines : List GameLine) (end : Result (List ℕ) BadLine) (long : Bool) (reading : Reading) → standing_after lines end long reading ≡ Overlong → long ≡ true
overlong_so lines (Err bad) long reading is = absurd cc
overlong_so lines (Ok rest) true reading is = refl
overlong_so lines (Ok rest) false AtFault is = absurd cc
overlong_so lines (Ok rest) false Before is = absurd cc
overlong_so lines (Ok []) false AtEnd is = absurd cc
overlong_so lines (Ok (byte ∷ rest)) false AtEnd is = absurd cc

pub overlong_is : (given : List ℕ) (reading : Reading) → script_standing given reading ≡ Overlong → TEXT_BYTES < length given
overlong_is given reading is = beyond given (overlong_so (heard given).0 (heard given).1 (nat_lt TEXT_BYTES (length given)) reading is)
