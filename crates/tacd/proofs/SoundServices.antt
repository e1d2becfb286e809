-- The log of a game that was played over links is sound.
use Rattle.std.proofs.Common.{◌≡◌, ℕ, suc, ◌+◌, ◌<◌, ◌≤◌, Bool, true, false, cond, List, [], ◌∷◌, length, map, take, get_or, replicate, refl, sym, ap, ◌∙◌, subst, arith, Option, ◌==◌, ◌||◌, nat_lt, length-take-le}
use Rattle.std.specs.List.{list_any}
use Rattle.std.specs.Global.{Vec}
use Rattle.std.proofs.lemmas.List.{get_or-map, get_or-replicate, length-map}
use Rattle.std.proofs.lemmas.List.Elements.{All-get_or}
use Rattle.std.proofs.lemmas.List.FromFn.{get_or-map-range_with_len}
use Rattle.std.proofs.lemmas.List.Sums.{count_by-le-length}
use mathlib.Core.Logic.{dite}
use native.Mathlib.Decide.{dec_le}
use Rattle.tac_base.specs.declared.calls.Call.{Call}
use Rattle.tac_base.specs.Goods.{agents, clock}
use Rattle.tacd.specs.{GameFile, Entry, AuctionHistory, Scored, Verdict, logged_text, seatings, IsService, IsSoundHead, WaitsForAll, IsSheetOf, free_seats, seats_given, CameTo, IsSeated, LinkState, LinksState, TickWait, TickerState, HostedGame, IsPlayedOver, IsGameEnd, missed_of, PlayedGame, IsPlayedBy, GameEnd, Outcome, Done, Lapsed, Stopped, Memory, IsTextOfPlayed, WritesLog, IsLogOf, PlayedAllows}
use Rattle.game_text.specs.Schedule.{clock_calls}
use Rattle.auction_rules.specs.Setup.{Setup}
use Rattle.auction_rules.specs.BookRules.{Legal}
use Rattle.auction_rules.specs.Legal.{IsLegalHistory}
use Rattle.auction_rules.proofs.SameRules.{legal_by_book}
use Rattle.trade_ledger.proofs.SamePosts.{matched_from_posted}
use Rattle.turn_lock.specs.Part.{part_from, part}
use Rattle.trade_ledger.specs.declared.cash_calls.CashEntry.{CashEntry}
use Rattle.auction_core.specs.Setups.{setup_of}
use Rattle.line_protocol.specs.declared.admission.Cause.{Cause}
use Rattle.line_protocol.specs.Heads.{Head, Serve, head_of}
use Rattle.log_text.specs.SoundLog as sound
use Rattle.game_log.specs.ShownGames.{IsShowable}
use Rattle.agent_gate.specs.Transcript.{IsTranscript}
use Rattle.agent_gate.specs.Turns.{made_at}
use Rattle.game_run.specs.GameSessions.{caller_parts}
use Rattle.game_run.proofs.ByIndex.{taken_in_turn}
use Rattle.game_run.proofs.KeptSeats.{seat_was_free}
use Rattle.game_run.proofs.Transcripts.{scheduled_in}
use Rattle.script_run.specs.LawfulGames.{closed_history, calls_by, IsLawfulGame}
use Rattle.tac_commands.specs.SoundTexts.{log_of_game, EndsInSoundLog}
use Rattle.tac_commands.proofs.SoundLogs.{text_is, ends_soundly}
use Rattle.tacd.specs.declared.answer.Played.{Played}
use Rattle.tacd.proofs.SeatedOnce.{is_taken, taken_after, given_once, same_kept}

-- ---- a caller without a part has no entry

none_of : {E : Type 0} (caller_of : E → ℕ) (caller n : ℕ) (history : List E) → part_from caller_of caller n history ≡ [] → list_any (λ e. caller_of e == caller) history ≡ false
none_of caller_of caller n [] none = refl
none_of {E} caller_of caller n (e ∷ history) none = by_test (caller_of e == caller) none (none_of caller_of caller (n + 1) history)
  where
    by_test : (b : Bool) → cond b ((n, e) ∷ part_from caller_of caller (n + 1) history) (part_from caller_of caller (n + 1) history) ≡ []
        → (part_from caller_of caller (n + 1) history ≡ [] → list_any (λ (x : E). caller_of x == caller) history ≡ false) → (b || list_any (λ (x : E). caller_of x == caller) history) ≡ false
    by_test true is rest = absurd (let never : suc (length (part_from caller_of caller (n + 1) history)) ≡ 0 = ap length is in omega (arith, never))
    by_test false is rest = rest is

-- ---- the histories

module _ (game : GameFile) (over : PlayedGame) (played : IsPlayedBy game over) where
  count : length over.closed.auctions ≡ 28
  count = sym (length-map over.closed.auctions (λ (a : AuctionHistory). a.setup)) ∙ ap length played.legal_game.setups

  -- an auction of the good, if it has none
  abbrev none_at : ℕ → AuctionHistory
  none_at good = record { setup = setup_of good game; history = [] }

  abbrev auction_at : ℕ → AuctionHistory
  auction_at good = get_or over.closed.auctions good (none_at good)

  inside : (good : ℕ) → good < 28 → good < length over.closed.auctions
  inside good low = let many = count in omega (arith, low, many)

  setup_there : (good : ℕ) → good < 28 → (auction_at good).setup ≡ setup_of good game
  setup_there good low =
      sym (get_or-map (λ (a : AuctionHistory). a.setup) over.closed.auctions good (none_at good) (setup_of good game) (inside good low))
      ∙ (ap (λ (l : List Setup). get_or l good (setup_of good game)) played.legal_game.setups
      ∙ get_or-map-range_with_len (λ (g : ℕ). setup_of g game) 0 28 good good (setup_of good game) low (omega arith))

  history_there : (good : ℕ) → good < 28 → closed_history over.closed good ≡ (auction_at good).history
  history_there good low = get_or-map (λ (a : AuctionHistory). a.history) over.closed.auctions good (none_at good) [] (inside good low)

  part_there : (good caller : ℕ) → good < 28 → get_or (caller_parts over.closed caller) good [] ≡ part (λ (e : Entry). e.caller) (closed_history over.closed good) caller
  part_there good caller low =
      get_or-map (λ (a : AuctionHistory). part (λ (e : Entry). e.caller) a.history caller) over.closed.auctions good (none_at good) [] (inside good low)
      ∙ ap (λ (h : List Entry). part (λ (e : Entry). e.caller) h caller) (sym (history_there good low))

  on_schedule : (good : ℕ) → good < 28 → calls_by clock (closed_history over.closed good) ≡ clock_calls game good
  on_schedule good low =
      let calls = λ (p : List (ℕ × Entry)). map (λ (q : ℕ × Entry). q.1.call) p in
      let wide : length (caller_parts over.closed clock) ≡ 28 = length-map over.closed.auctions (λ (a : AuctionHistory). part (λ (e : Entry). e.caller) a.history clock) ∙ count in
      ap calls (sym (part_there good clock low))
      ∙ (sym (get_or-map calls (caller_parts over.closed clock) good [] [] (omega (arith, low, wide)))
      ∙ (ap (λ (l : List (List Call)). get_or l good []) (scheduled_in game over.closed played.clock_transcript)
      ∙ get_or-map-range_with_len (clock_calls game) 0 28 good good [] low (omega arith)))

  pub lawful : IsLawfulGame game over.closed
  lawful = record {
    setups = played.legal_game.setups;
    legal = λ good low. subst (λ (h : List Entry). Legal (setup_of good game) h) (sym (history_there good low))
        (subst (λ (s : Setup). Legal s (auction_at good).history) (setup_there good low)
        (legal_by_book _ _ (All-get_or (λ (a : AuctionHistory). IsLegalHistory a.setup a.history) over.closed.auctions good (none_at good) (inside good low) played.legal_game.legal)));
    scheduled = on_schedule;
    cash = played.legal_game.cash;
    matched = matched_from_posted (map (λ (a : AuctionHistory). a.history) over.closed.auctions) over.closed.cash played.legal_game.matched;
  }

  -- an agent without a seat has no entry
  absent : (head : Head) (sheet : List Scored) (agent : ℕ) → IsTranscript agent over.closed [] → sound.HasNoEntry (log_of_game head over.closed sheet) agent
  absent head sheet agent none = record {
    calls = λ good low. none_of (λ (e : Entry). e.caller) agent 0 (closed_history over.closed good)
        (sym (part_there good agent low) ∙ (ap (λ (l : List (List (ℕ × Entry))). get_or l good []) none.calls ∙ get_or-map-range_with_len (λ (g : ℕ). made_at g []) 0 28 good good [] low (omega arith)));
    cash = none_of (λ (e : CashEntry). e.caller) agent 0 over.closed.cash none.cash;
  }

-- ---- the head

few_links : {A : Type 0} (verdicts : List Verdict) (pending : Option A) (n : ℕ) → (n < length verdicts → length (take n verdicts) < 64) → n ≡ 64 → length verdicts ≤ 64
few_links verdicts pending n may is = dite (dec_le (length verdicts) 64) (λ low. low)
    (λ high. let lt : n < length verdicts = omega (arith, is, high) in
    let many = length-take-le n verdicts (omega (arith, lt)) in
    let few = may lt in absurd (omega (arith, is, many, few)))

few_missed : (ticker ticker' : TickerState) (missed : ℕ) → WaitsForAll ticker ticker' missed → missed ≤ 54
few_missed ticker ticker' missed all =
    let many : length all.waits ≡ 54 = sym (length-map all.waits (λ (w : TickWait). w.tick)) ∙ ap length all.all_ticks in
    let few = count_by-le-length (λ (w : TickWait). w.lapsed) all.waits in
    let lapses = all.lapses in
    omega (arith, many, few, lapses)

module _ {L : Type 0} (state : L → LinkState) (hosted : HostedGame) (before after : LinksState L) (over : PlayedGame) (links : List L)
    (played : IsPlayedOver state hosted before after over links) where
  -- an agent's seat is taken if it was given
  seat_is : (agent : ℕ) → agent ≤ 7 → is_taken (seats_given hosted.game over.verdicts) agent ≡ nat_lt 0 (seatings over.verdicts agent)
  seat_is agent low =
      let free : get_or (replicate 8 false) agent false ≡ false = get_or-replicate 8 agent false false (omega (arith, low)) in
      taken_after (free_seats hosted.game) over.verdicts agent (omega (arith, low)) ∙ ap (λ (b : Bool). b || nat_lt 0 (seatings over.verdicts agent)) free

  once : (agent : ℕ) → agent ≤ 7 → seatings over.verdicts agent ≤ 1
  once agent low =
      let given = given_once (λ seats verdict link link'. CameTo (IsSeated hosted over) seats verdict (state link) (state link')) (λ seats a link link' sits. seat_was_free seats sits.line a sits.seat)
      (free_seats hosted.game) played.taken.given over.verdicts links agent (omega (arith, low)) (taken_in_turn state hosted (IsSeated hosted over) over.verdicts before after links played.taken) in
      omega (arith, given)

  each_end : map (λ (end : ℕ × Cause). end.0) over.ends ≡ sound.logged_seats over.verdicts
  each_end = played.lawful.each_end
      ∙ same_kept (is_taken (seats_given hosted.game over.verdicts)) (λ agent. nat_lt 0 (seatings over.verdicts agent)) agents
      (seat_is 0 (omega arith), (seat_is 1 (omega arith), (seat_is 2 (omega arith), (seat_is 3 (omega arith), (seat_is 4 (omega arith), (seat_is 5 (omega arith), (seat_is 6 (omega arith), (seat_is 7 (omega arith), tt))))))))

  pub service : (missed : ℕ) (sheet : List Scored) → missed ≤ 54 → IsService (log_of_game (Serve over.verdicts over.ends missed) over.closed sheet) over.verdicts over.ends missed
  service missed sheet few = record {
    few_links = few_links over.verdicts after.pending 64 (λ lt. (played.all.no_more 64 lt).0) refl;
    seats_differ = once;
    each_end = each_end;
    few_missed = few;
    absent = λ agent low none. absent hosted.game over played.lawful (Serve over.verdicts over.ends missed) sheet agent
        (played.lawful.absent agent (omega (arith, low)) (seat_is agent low ∙ ap (nat_lt 0) none));
  }

module _ {L : Type 0} (state : L → LinkState) (hosted : HostedGame) (links links' : LinksState L) (ticker ticker' : TickerState) where
  -- a game that was played over links, with a sheet of it
  served_soundly : (end : GameEnd L) (sheet : List Scored) (told : List ℕ) → IsGameEnd state hosted links links' end → WaitsForAll ticker ticker' (missed_of (head_of end.head)) →
      IsShowable hosted.game (head_of end.head) end.closed → IsSheetOf hosted.game end.closed sheet → told ≡ logged_text (log_of_game (head_of end.head) end.closed sheet) →
      EndsInSoundLog hosted.game (log_of_game (head_of end.head) end.closed sheet) [] told
  served_soundly end sheet told is waits shown scores due =
      let over : PlayedGame = record { verdicts = is.verdicts; ends = is.ends; closed = end.closed } in
      ends_soundly hosted.game (head_of end.head) end.closed sheet [] told (lawful hosted.game over is.played.lawful) scores
      (subst (λ (h : Head). IsSoundHead (log_of_game h end.closed sheet) h) (sym is.head)
      (service state hosted links links' over end.links.items is.played is.missed sheet
      (subst (λ (h : Head). missed_of h ≤ 54) is.head (few_missed ticker ticker' (missed_of (head_of end.head)) waits))))
      shown due

  -- the ticks that lapsed are those that the head counts
  pub waits_for_missed : (played : Played) (ended : Vec L) (is : IsGameEnd state hosted links links' (record { closed = played.closed; head = played.head; links = ended }))
      → WaitsForAll ticker ticker' (missed_of (head_of played.head)) → WaitsForAll ticker ticker' is.missed
  waits_for_missed played ended is waits = subst (λ (n : ℕ). WaitsForAll ticker ticker' n) (ap missed_of is.head) waits

  module _ (played : Played) (ended : Vec L) (is : IsGameEnd state hosted links links' (record { closed = played.closed; head = played.head; links = ended }))
      (waits : WaitsForAll ticker ticker' (missed_of (head_of played.head))) (shown : IsShowable hosted.game (head_of played.head) played.closed) where
    log_soundly : (told : List ℕ) → IsTextOfPlayed hosted.game played told → IsLogOf hosted.game played told
    log_soundly told log = record {
      sheet = log.sheet;
      scores = log.scores;
      due = log.due;
      sound = served_soundly (record { closed = played.closed; head = played.head; links = ended }) log.sheet told is waits shown log.scores (log.due ∙ text_is (head_of played.head) played.closed log.sheet);
    }

    -- the log of that game that is written is sound
    pub reports_soundly : (outcome : Outcome) → WritesLog hosted.game played outcome → PlayedAllows hosted.game played is.missed outcome
    reports_soundly (Done told) allows = (log_soundly told allows.0, sym (ap missed_of is.head) ∙ allows.1)
    reports_soundly (Lapsed told) allows = (log_soundly told allows.0, subst (λ (n : ℕ). 0 < n) (ap missed_of is.head) allows.1)
    reports_soundly (Stopped told Memory) allows = allows
    reports_soundly outcome allows = absurd allows
