-- The scores computed for the eight agents are a sheet.
use Rattle.std.proofs.Common.{◌≡◌, ℕ, ◌<◌, List, length, map, get_or, sym, ap, ◌∙◌, subst, arith, Result, Ok, Some, slice_get, IfOk}
use Rattle.std.proofs.lemmas.List.{length-map, get_or-map}
use Rattle.std.proofs.lemmas.Option.{slice_get_within, get_or_from_slice_get}
use Rattle.tac_base.specs.declared.memory.Memory.{Memory}
use Rattle.game_text.specs.Games.{GameFile}
use Rattle.settlement.specs.Settlement.{Settlement}
use Rattle.settlement.specs.Sheets.{Scored, IsDueScore, IsSheet}

pub sheet_of : (game : GameFile) (settlement : Settlement) (found : List (Result Scored Memory)) (scores : List Scored) → map Ok scores ≡ found → length found ≡ 8 →
    ((agent : ℕ) (d : Result Scored Memory) → agent < 8 → IfOk (get_or found agent d) (IsDueScore game settlement agent)) → IsSheet game settlement scores
sheet_of game settlement found scores is count due = record { count = eight; due = each }
  where
    eight : length scores ≡ 8
    eight = sym (length-map scores Ok) ∙ ap (λ (xs : List (Result Scored Memory)). length xs) is ∙ count

    each : (agent : ℕ) (scored : Scored) → slice_get scores agent ≡ Some scored → IsDueScore game settlement agent scored
    each agent scored here =
        let within = slice_get_within scores agent scored here in
        let read =
        sym (ap (λ (xs : List (Result Scored Memory)). get_or xs agent (Ok scored)) is)
        ∙ (get_or-map Ok scores agent scored (Ok scored) within ∙ ap Ok (get_or_from_slice_get scores agent scored scored here)) in
        subst (λ (r : Result Scored Memory). IfOk r (IsDueScore game settlement agent)) read (due agent (Ok scored) (omega (arith, within, eight)))
