-- The log of a game is written in two parts.
use Rattle.std.proofs.Common.{◌++◌, refl, sym, subst, inl, inr, Ok, Err}
use Rattle.tacd.specs.{SinkState, GameFile, sheet_part, TookPart, TookWhole, Memory, EndsOrStops, LogAllows, first_part}
use Rattle.game_log.specs.declared.fault.LogWriteFault.TheVariants as log
use Rattle.game_log.proofs.Writing.{then_whole, then_some}
use Rattle.game_log.specs.SheetWritten.{WritesSheet}
use Rattle.tacd.specs.declared.answer.Played.{Played}
use Rattle.tac_commands.specs.declared.ends.End.TheVariants as ends

-- a write of the first part failed
pub cut_in_first : (game : GameFile) (played : Played) (s0 s1 : SinkState) → TookPart s0 s1 (first_part played) → EndsOrStops (LogAllows game played) s0 s1 ends.WriteFault
cut_in_first game played s0 s1 some = inr (inl (first_part played, Memory, refl, some))

module _ (game : GameFile) (played : Played) (s0 s1 s2 : SinkState) (first : TookWhole s0 s1 (first_part played)) where
  -- both parts were written
  pub whole : WritesSheet game played.closed s1 s2 (Ok tt) → EndsOrStops (LogAllows game played) s0 s2 ends.Done
  whole second = inl (
    first_part played ++ sheet_part second.0,
    record { sheet = second.0; scores = second.1; due = refl },
    then_whole (first_part played) (sheet_part second.0) s0 s1 s2 first second.2,
  )

  -- a write of the second part failed
  pub cut_in_second : WritesSheet game played.closed s1 s2 (Err log.Failed) → EndsOrStops (LogAllows game played) s0 s2 ends.WriteFault
  cut_in_second second = inl (
    first_part played ++ sheet_part second.0,
    inl (record { sheet = second.0; scores = second.1; due = refl }),
    then_some (first_part played) (sheet_part second.0) s0 s1 s2 first second.2,
  )

  -- memory was refused for the second part, which is to be told
  pub without_second : WritesSheet game played.closed s1 s2 (Err log.Memory) → EndsOrStops (LogAllows game played) s0 s2 (ends.Refused Memory)
  without_second same = inr (inl (first_part played, Memory, refl, (refl, subst (λ (s : SinkState). TookWhole s0 s (first_part played)) (sym same) first)))
