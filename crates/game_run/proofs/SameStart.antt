-- A session that began later is one from before, if nothing was sent and no call failed in between.
use Rattle.std.proofs.Common.{◌≡◌, ℕ, List, ◌∙◌, ap, subst}
use Rattle.std.specs.List.{concat}
use Rattle.game_run.specs.Prelude.{NoReadFails, NoWriteFails, LinkState, known_then, TakesSome, LineGot, Cause, Session, EndsBy, IsServed, SendsAll, pieces_of, Dialect}
use Rattle.tac_io.proofs.KnownPieces.{last_read_fails_then, last_write_fails_then, no_read_fails_twice, no_write_fails_twice}
use Rattle.line_protocol.specs.declared.saying.Said.{Said}
use Rattle.line_protocol.specs.declared.admission.Cause.TheVariants as causes

module _ (before now after : LinkState) (same : now.sent ≡ before.sent) (reads : NoReadFails before now) (writes : NoWriteFails before now) where
  -- the session with its link as it was
  abbrev earlier : Session → Session
  earlier session = record session { before = before; after = after }

  abbrev later : Session → Session
  later session = record session { before = now; after = after }

  all_from : (text : Said → List ℕ) (session : Session) → SendsAll text (later session) → SendsAll text (earlier session)
  all_from text session all = (all.0 ∙ ap (λ sent. known_then sent (concat (pieces_of text session))) same, no_write_fails_twice before now after writes all.1)

  none_from : NoReadFails now after → NoReadFails before after
  none_from none = no_read_fails_twice before now after reads none

  ends_from : (text : Said → List ℕ) (session : Session) (cause : Cause) → EndsBy cause text (later session) → EndsBy cause text (earlier session)
  ends_from text session causes.Quit end = (end.0, all_from text session end.1, none_from end.2)
  ends_from text session causes.End end = (end.0, end.1, all_from text session end.2, none_from end.3)
  ends_from text session causes.ReadFault end = (end.0, all_from text session end.1, last_read_fails_then before now after reads end.2)
  ends_from text session causes.WriteFault end = let cut = end.0 in (
    record {
      whole = cut.whole;
      last = cut.last;
      pieces = cut.pieces;
      cut = subst (λ sent. TakesSome (known_then sent (concat cut.whole)) after.sent cut.last) same cut.cut;
      failed = last_write_fails_then before now after writes cut.failed;
    },
    none_from end.1,
  )
  ends_from text session causes.Budget end = (end.0, all_from text session end.1, none_from end.2)

  pub served_from : (dialect : Dialect) (answers : List (LineGot × List ℕ)) (session : Session) (cause : Cause) → IsServed dialect answers (later session) cause → IsServed dialect answers (earlier session) cause
  served_from dialect answers session cause served = record {
    read = served.read;
    from = served.from;
    items = served.items;
    few = served.few;
    lawful = served.lawful;
    end = ends_from dialect.text session cause served.end;
  }
