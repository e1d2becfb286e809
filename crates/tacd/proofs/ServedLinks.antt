-- The links of a served game are links of its log, which is vouched for by them.
use Rattle.std.proofs.Common.{◌≡◌, ℕ, ◌<◌, List, [], take, None, Some, refl, sym, ap, ◌∙◌, subst, arith, inl, inr, ◌==◌, Bool, false, MatchBool, Option}
use Rattle.tacd.specs.Prelude.{GameFile, AuctionHistory, Scored, FilesState, LinkState, LinksState, TookWhole, Seated, LoggedGame, Dialect, GameEnd, seats_given, HostedGame, IsSeated, IsGameEnd, PlayedGame, HasWelcome, IsLinkOfLog, IsVouched, fresh_link, Refusal, IsVouchedText, code_of, exit_text, Outcome, Done, Lapsed, Unsound, Stopped, Refused, refusal_end, Outside, IsCutShort, Reports, Runs, StopsAt, Service}
use Rattle.line_protocol.specs.declared.saying.Said.{Said}
use Rattle.line_protocol.specs.Heads.{Head, Serve, head_of}
use Rattle.link_audit.proofs.FarEnds.{vouched_from}
use Rattle.link_audit.proofs.FreshLinks.{fresh}
use Rattle.link_audit.proofs.OneLines.{HasNoEnd, json_line, said_line}
use Rattle.tac_commands.specs.declared.refusals.Refusal.TheVariants as refusals
use Rattle.tac_commands.specs.declared.services.Form.{Form}
use Rattle.tac_commands.specs.declared.services.Form.TheVariants.{Lines, Json}
use Rattle.tac_commands.specs.{WritesDue, dialect_in, log_of_game, link_steps}
use Rattle.tac_commands.proofs.SoundLogs.{auctions_again}
use Rattle.tac_commands.proofs.WrittenLogs.{read_again}
use Rattle.tacd.specs.declared.answer.Answer.{Answer}
use Rattle.tacd.specs.declared.answer.Played.{Played}
use Rattle.tacd.specs.{IsGameFile, IsLogOf, Serves, at_pace, hosted_by}
use Rattle.tacd.specs.ServedLinks.{IsSeatedWith, IsVouchedBy, IsVouchedService, HasLog, SaysYes, links_of, played_log}
use Rattle.tacd.proofs.ServiceCauses.{IsServedOr}

-- ---- the links of the log

module _ {L : Type 0} (state : L → LinkState) (hosted : HostedGame) (links links' : LinksState L) (end : GameEnd L) (is : IsGameEnd state hosted links links' end) (sheet : List Scored)
    (agent : ℕ) (asked said : List ℕ) (s : IsSeatedWith state (links_of state is) agent asked said) where
  abbrev played : PlayedGame
  played = record { verdicts = is.verdicts; ends = is.ends; closed = end.closed }

  -- what the log has in place of that game
  abbrev played_by : List AuctionHistory → PlayedGame
  played_by auctions = record { verdicts = is.verdicts; ends = is.ends; closed = record { auctions = auctions; cash = end.closed.cash } }

  abbrev log_with : Head → LoggedGame
  log_with head = log_of_game head end.closed sheet

  seated : IsSeated hosted played (seats_given hosted.game (take s.place is.verdicts)) agent (state s.before) (state s.after)
  seated = is.played.taken.each s.place s.before (Seated agent) s.after s.came s.listed s.left

  served : IsLinkOfLog hosted (log_with (Serve is.verdicts is.ends is.missed)) agent asked said
  served =
      let again = auctions_again hosted.game (Serve is.verdicts is.ends is.missed) end.closed sheet is.played.lawful.legal_game.setups in
      let found = fresh hosted played (seats_given hosted.game (take s.place is.verdicts)) agent (state s.before) (state s.after) asked said s.bytes seated in
      record {
        place = s.place;
        listed = s.listed;
        after = found.0;
        sent = found.1;
        seated = subst (λ (auctions : List AuctionHistory). IsSeated hosted (played_by auctions) (seats_given hosted.game (take s.place is.verdicts)) agent (fresh_link asked) found.0) (sym again) found.2;
      }

  pub link_of_log : IsLinkOfLog hosted (log_with (head_of end.head)) agent asked said
  link_of_log = subst (λ (head : Head). IsLinkOfLog hosted (log_with head) agent asked said) (sym is.head) served

-- ---- what the log says of them

-- the replies of both forms are lines
reply_lines : (form : Form) (reply : Said) → HasNoEnd ((dialect_in form).text reply)
reply_lines Lines reply = said_line reply
reply_lines Json reply = json_line reply

module _ (game : GameFile) (dialect : Dialect) (log : LoggedGame) (agent : ℕ) (asked said : List ℕ) (v : IsVouched game dialect log agent asked said) where
  said_yes : (outcome : Outcome) → WritesDue (IsVouchedText game dialect log asked said) outcome → SaysYes agent outcome
  said_yes (Done text) due = inl (due.0, (due.2.yes agent).1 v, ap Done due.3)
  said_yes (Refused refusals.Memory) due = inr refl
  said_yes outcome due = absurd due

  not_no : (IsDue : List ℕ → Type 0) (outcome : Outcome) → StopsAt ((other : ℕ) × IsVouched game dialect log other asked said) IsDue outcome → SaysYes agent outcome
  not_no IsDue (Unsound text) stops = absurd (stops.0 (agent, v))
  not_no IsDue (Refused refusals.Memory) stops = inr refl
  not_no IsDue outcome stops = absurd stops

  says_yes : (files files' : FilesState) (outcome : Outcome) → Runs (link_steps game dialect log asked said) files files' outcome → SaysYes agent outcome
  says_yes files files' outcome (inl run) = said_yes outcome run.1.0
  says_yes files files' outcome (inr run) = not_no _ outcome run.0

-- ---- a service

low_ill : (code : ℕ) → 0 < code → code < 6 → HasLog code → ⊥
low_ill code some few (inl zero) = omega (arith, some, zero)
low_ill code some few (inr six) = omega (arith, few, six)

high_ill : (code : ℕ) → 6 < code → HasLog code → ⊥
high_ill code many (inl zero) = omega (arith, many, zero)
high_ill code many (inr six) = omega (arith, many, six)

refused_ill : (refusal : Refusal) → HasLog (refusal_end refusal).0 → ⊥
refused_ill refusals.Usage well = low_ill 1 (omega arith) (omega arith) well
refused_ill (refusals.GameLine line reason) well = low_ill 2 (omega arith) (omega arith) well
refused_ill refusals.GameTooLong well = low_ill 2 (omega arith) (omega arith) well
refused_ill refusals.ReadFault well = low_ill 3 (omega arith) (omega arith) well
refused_ill refusals.LinkFault well = low_ill 5 (omega arith) (omega arith) well
refused_ill refusals.Memory well = high_ill 7 (omega arith) well
refused_ill (refusals.TextLine line reason) well = high_ill 8 (omega arith) well
refused_ill refusals.TextTooLong well = high_ill 8 (omega arith) well

module _ {L : Type 0} (state : L → LinkState) (service : Service) (before after : Outside L) (answer : Answer L) where
  module _ (game : GameFile) (file : IsGameFile before.files service.game game) (text : List ℕ) (written : TookWhole before.out after.out text) (played : Played) (kept : answer.played ≡ Some played)
      (end : IsGameEnd state (hosted_by service game) before.links after.links (record { closed = played.closed; head = played.head; links = answer.ended }))
      (due : IsLogOf game played text) (in_time : answer.code ≡ 0 → end.missed ≡ 0) where
    vouched_by : (agent : ℕ) (asked said : List ℕ) → IsSeatedWith state (links_of state end) agent asked said → HasWelcome game agent said → IsVouchedBy game (dialect_in service.form) (played_log played due.sheet) agent asked said
    vouched_by agent asked said s whole =
        let link = link_of_log state (hosted_by service game) before.links after.links (record { closed = played.closed; head = played.head; links = answer.ended }) end due.sheet agent asked said s in
        let v : IsVouched game (dialect_in service.form) (played_log played due.sheet) agent asked said = vouched_from (hosted_by service game) (reply_lines service.form) (played_log played due.sheet) agent asked said link whole in
        record { vouched = v; judged = says_yes game (dialect_in service.form) (played_log played due.sheet) agent asked said v }

    pub vouched_service : IsVouchedService state service before after answer
    vouched_service = record {
      game = game;
      file = file;
      text = text;
      written = written;
      played = played;
      kept = kept;
      log = due;
      read = read_again game (played_log played due.sheet) [] text due.sound;
      end = end;
      in_time = in_time;
      vouched = vouched_by;
    }

  -- the text of a code was written
  module _ (well : HasLog answer.code) where
    not_four : (answer.code == 4) ≡ false
    not_four = elim well [ inl is ↦ ap (λ (n : ℕ). n == 4) is | inr is ↦ ap (λ (n : ℕ). n == 4) is ]

    reported : (outcome : Outcome) → Reports outcome before.out after.out answer.code → (answer.code ≡ code_of outcome) × TookWhole before.out after.out (exit_text outcome)
    reported outcome told =
        subst (λ (b : Bool). MatchBool b (IsCutShort outcome before.out after.out) ((answer.code ≡ code_of outcome) × TookWhole before.out after.out (exit_text outcome))) not_four told

    by_played : (game : GameFile) → IsGameFile before.files service.game game → (kept : Option Played) → answer.played ≡ kept → (outcome : Outcome) →
        IsServedOr state (hosted_by service game) (at_pace service.pace before) after kept answer.ended outcome → (answer.code ≡ code_of outcome) × TookWhole before.out after.out (exit_text outcome) →
        IsVouchedService state service before after answer
    by_played game file None is (Refused refusals.LinkFault) plays told = absurd (low_ill 5 (omega arith) (omega arith) (subst HasLog told.0 well))
    by_played game file None is (Refused refusals.Memory) plays told = absurd (high_ill 7 (omega arith) (subst HasLog told.0 well))
    by_played game file None is outcome plays told = absurd plays
    by_played game file (Some played) is (Done text) plays told = vouched_service game file text told.1 played is plays.0 plays.2.0 (λ _. plays.2.1)
    by_played game file (Some played) is (Lapsed text) plays told =
        let six : answer.code ≡ 6 = told.0 in
        vouched_service game file text told.1 played is plays.0 plays.2.0 (λ zero. absurd (omega (arith, zero, six)))
    by_played game file (Some played) is (Stopped text refusals.Memory) plays told = absurd (high_ill 7 (omega arith) (subst HasLog told.0 well))
    by_played game file (Some played) is outcome plays told = absurd plays.2

    -- the log that a service wrote is vouched for by its links
    pub vouched_by_links : Serves state service before after answer → IsVouchedService state service before after answer
    vouched_by_links (outcome, inl serves, reports) = by_played serves.0 serves.1 answer.played refl outcome serves.2 (reported outcome reports)
    vouched_by_links (outcome, inr refuses, reports) = absurd (refused_ill refuses.0 (subst HasLog ((reported outcome reports).0 ∙ ap code_of refuses.1) well))
