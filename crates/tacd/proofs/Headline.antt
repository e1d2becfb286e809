-- The headline follows from what is proved of a service.
use Rattle.std.proofs.Common.{◌≡◌, ℕ, ◌≤◌, List, ap, ◌∙◌, subst, arith, inl}
use Rattle.tac_base.specs.Goods.{clock}
use Rattle.tacd.specs.Prelude.{LinkState, TookWhole, log_text, PlayedGame, Outside, Service}
use Rattle.line_protocol.specs.Heads.{Head, Serve}
use Rattle.log_text.specs.LoggedGames.{IsLoggedCash}
use Rattle.trade_ledger.specs.declared.cash_calls.CashCall.{CashCall}
use Rattle.trade_ledger.specs.declared.cash_calls.CashCall.TheVariants.{Post, Read}
use Rattle.trade_ledger.specs.declared.cash_calls.CashReply.{CashReply}
use Rattle.trade_ledger.specs.declared.cash_calls.CashReply.TheVariants.{Cash, Done}
use Rattle.tacd.specs.declared.answer.Answer.{Answer}
use Rattle.tacd.specs.Finishing.{hosted_by}
use Rattle.tacd.specs.{Serves, WritesTrueLog}
use Rattle.tacd.specs.ServedLinks.{IsVouchedService}
use Rattle.game_run.proofs.SameLinks.{played_game}
use Rattle.tacd.proofs.PostedCash.{cash_of_posts}
use Rattle.tacd.proofs.ServedLinks.{vouched_by_links}

-- what is logged of the cash book was called by an agent or by the clock
logged_caller : (caller : ℕ) (call : CashCall) (reply : CashReply) → IsLoggedCash caller call reply → caller ≤ clock
logged_caller caller (Post good position nets) Done is = is.0
logged_caller caller (Post good position nets) (Cash dollars) is = absurd is
logged_caller caller (Read agent) Done is = absurd is
logged_caller caller (Read agent) (Cash dollars) is = let low = is.0 in let small : caller ≤ 8 = omega (arith, low) in small

module _ {L : Type 0} (state : L → LinkState) (service : Service) (before after : Outside L) (answer : Answer L) (zero : answer.code ≡ 0) where
  true_log : IsVouchedService state service before after answer → WritesTrueLog state service before after answer.ended.items
  true_log v =
      let play : PlayedGame = record { verdicts = v.end.verdicts; ends = v.end.ends; closed = v.played.closed } in
      let head = v.end.head ∙ ap (Serve play.verdicts play.ends) (v.in_time zero) in
      record {
        game = v.game;
        file = v.file;
        played = play;
        sheet = v.log.sheet;
        written = subst (λ (text : List ℕ). TookWhole before.out after.out text) (v.log.due ∙ ap (λ (h : Head). log_text h play.closed v.log.sheet) head) v.written;
        over = played_game state (hosted_by service v.game) play before.links after.links answer.ended.items v.end.played;
        callers = λ k e inside. logged_caller _ _ _ (v.log.sound.ranged.cash k e inside);
        scores = v.log.scores;
        cash = cash_of_posts v.game play.closed v.end.played.lawful.legal_game;
      }

  -- a service whose code is 0 wrote the log of a game that was played
  pub writes_true_log : Serves state service before after answer → WritesTrueLog state service before after answer.ended.items
  writes_true_log serves = true_log (vouched_by_links state service before after answer (inl zero) serves)
