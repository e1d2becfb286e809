-- The cash of the sheet of a game that one thread plays is what its posts add up to.
use Rattle.std.proofs.Common.{◌≡◌, ℕ, zero, suc, ◌+◌, ◌-◌, ◌≤◌, ◌<◌, Bool, true, false, cond, List, [], ◌∷◌, ◌++◌, length, map, fold, reverse, get_or, set, refl, sym, ap, ◌∙◌, arith, ℤ, pos, ◌+ℤ◌, Option, Some, None, nat_le, nat_lt, replicate, Result, Ok, Err, append-nil, length-set}
use Rattle.std.specs.List.{enumerate_from}
use Rattle.std.proofs.lemmas.Int.{ints}
use Rattle.std.proofs.lemmas.Bool.Decides.{nat_tests}
use Rattle.std.proofs.lemmas.List.{reverse-reverse, get_or_past}
use mathlib.Core.Logic.{dite}
use native.Mathlib.Decide.{dec_le}
use Rattle.tac_commands.specs.Prelude.{Call, Trade, GameFile, clock, all_trades, dollars, nets, Done, CashEntry, cash_total, post_for, due_post, setup_of, rules_by, AuctionHistory, cash_gained, RequestFault, GameLine, Tick, Asks, auction_with, played, ticked_often, whole_game, closed_game}
use Rattle.tac_base.specs.declared.calls.Call.TheVariants as calls
use Rattle.tac_base.specs.declared.calls.Reply.{Reply}
use Rattle.tac_base.specs.declared.numbers.Kind.{Kind}
use Rattle.tac_base.specs.declared.numbers.Kind.TheVariants.{Ticket}
use Rattle.tac_base.specs.Kinds.{kind_of}
use Rattle.auction_rules.specs.declared.units.BidUnit.{BidUnit}
use Rattle.auction_rules.specs.History.{Entry}
use Rattle.auction_rules.specs.BookRules.{entry_of, entry_by, trades_by, refusal}
use Rattle.auction_rules.specs.Legal.{entries_of}
use Rattle.auction_rules.specs.TicketMatch.{arriving, pair_trade}
use Rattle.auction_rules.specs.BookPairs.{pairs}
use Rattle.trade_ledger.specs.declared.cash_calls.CashCall.TheVariants.{Post}
use Rattle.trade_ledger.proofs.CashSteps.{cash_total-snoc}
use Rattle.trade_ledger.proofs.Matching.{dollars-append}
use Rattle.trade_ledger.proofs.Trading.{get_or-nine}
use Rattle.line_protocol.specs.declared.asking.Request.{Request}
use Rattle.line_protocol.specs.declared.asking.Request.TheVariants as requests
use Rattle.line_protocol.specs.declared.saying.Said.{Said}
use Rattle.line_protocol.specs.declared.saying.Said.TheVariants as said
use Rattle.game_text.specs.Schedule.{calls_at}
use Rattle.script_run.specs.GameStates.{GameState, past_at, entry_at, called, reading_of, readings_of, call_turn, cash_turn, turn, clocked, ticked}
use Rattle.tac_commands.specs.Cash.{IsCashOfPosts}

-- ---- what a party gains

-- in the trades of all pasts
abbrev gained : List (List Entry) → ℕ → ℤ
gained [] party = pos 0
gained (past ∷ pasts) party = dollars (all_trades past) party +ℤ gained pasts party

-- one entry more
gained_more : (pasts : List (List Entry)) (good : ℕ) (e : Entry) (party : ℕ) → good < length pasts → gained (set pasts good (e ∷ get_or pasts good [])) party ≡ gained pasts party +ℤ dollars e.trades party
gained_more [] good e party inside = absurd (omega arith)
gained_more (past ∷ pasts) zero e party inside = omega (arith, ints, dollars-append e.trades (all_trades past) party)
gained_more (past ∷ pasts) (suc good) e party inside = omega (arith, ints, gained_more pasts good e party (omega arith))

-- in pasts without entries nothing
gained_none : (n : ℕ) (party : ℕ) → gained (replicate n []) party ≡ pos 0
gained_none zero party = refl
gained_none (suc n) party = omega (arith, ints, gained_none n party)

-- nothing stands past the last
set_past : (pasts : List (List Entry)) (good : ℕ) (past : List Entry) → length pasts ≤ good → set pasts good past ≡ pasts
set_past [] good past far = refl
set_past (first ∷ pasts) zero past far = absurd (omega arith)
set_past (first ∷ pasts) (suc good) past far = ap (λ (ps : List (List Entry)). first ∷ ps) (set_past pasts good past (omega arith))

-- ---- there are no trades of a good past the last

none_match : (units : List BidUnit) → pairs [] units ≡ []
none_match [] = refl
none_match (unit ∷ units) = none_match units

ticket_past : (good : ℕ) → 28 ≤ good → kind_of good ≡ Ticket
ticket_past good far =
    let no_flight : nat_lt good 8 ≡ false = grind (arith, nat_tests, far) in
    let no_hotel : nat_lt good 16 ≡ false = grind (arith, nat_tests, far) in
    rw no_flight (rw no_hotel refl)

no_trades : (game : GameFile) (good caller : ℕ) (call : Call) → 28 ≤ good → (entry_of (setup_of good game) [] caller call).trades ≡ []
no_trades game good caller call far = by_refusal (refusal (setup_of good game).rules [] caller call)
  where
    by_refusal : (o : Option Reply) → (entry_by (setup_of good game) [] caller call o).trades ≡ []
    by_refusal (Some reply) = refl
    by_refusal None =
        ap (λ (k : Kind). trades_by (rules_by game good k) good [] caller call) (ticket_past good far)
        ∙ ap (map (pair_trade good)) (none_match (arriving 0 caller call))

-- ---- what a post gives a party

post_adds : (cash : List CashEntry) (good position : ℕ) (e : Entry) (party : ℕ) → party ≤ 8 → cash_total (cash ++ due_post good position e) party ≡ cash_total cash party +ℤ dollars e.trades party
post_adds cash good position e party low = by_trades e.trades
  where
    by_trades : (trades : List Trade) → cash_total (cash ++ post_for trades (record { caller = e.caller; call = Post good position (record { dollars = nets trades }); reply = Done })) party ≡ cash_total cash party +ℤ dollars trades party
    by_trades [] = ap (λ (l : List CashEntry). cash_total l party) (append-nil cash) ∙ omega (arith, ints)
    by_trades (t ∷ trades) =
        cash_total-snoc cash (record { caller = e.caller; call = Post good position (record { dollars = nets (t ∷ trades) }); reply = Done }) party
        ∙ ap (λ (z : ℤ). cash_total cash party +ℤ z) (get_or-nine (dollars (t ∷ trades)) party low)

-- ---- the game, step by step

-- the total of each party is what it gained
record IsEven (state : GameState) : Type 0 where
  pub count : length state.pasts ≡ 28
  pub totals : (party : ℕ) → party ≤ 8 → cash_total state.cash party ≡ gained state.pasts party

-- what a call makes of the gain; a good past the last has no past, and no trade
gained_called : (game : GameFile) (caller good : ℕ) (call : Call) (pasts : List (List Entry)) (party : ℕ) → length pasts ≡ 28 →
    gained (set pasts good (entry_at game pasts caller good call ∷ past_at pasts good)) party ≡ gained pasts party +ℤ dollars (entry_at game pasts caller good call).trades party
gained_called game caller good call pasts party count = dite (dec_le 28 good) past_last (λ near. gained_more pasts good (entry_at game pasts caller good call) party (omega (arith, count, near)))
  where
    past_last : 28 ≤ good →
        gained (set pasts good (entry_at game pasts caller good call ∷ past_at pasts good)) party ≡ gained pasts party +ℤ dollars (entry_at game pasts caller good call).trades party
    past_last far =
        let beyond : length pasts ≤ good = omega (arith, count, far) in
        let none : (entry_at game pasts caller good call).trades ≡ [] = ap (λ (h : List Entry). (entry_of (setup_of good game) h caller call).trades) (get_or_past pasts good [] beyond) ∙ no_trades game good caller call far in
        let nothing : gained pasts party ≡ gained pasts party +ℤ dollars [] party = omega (arith, ints) in
        let same : gained pasts party +ℤ dollars [] party ≡ gained pasts party +ℤ dollars (entry_at game pasts caller good call).trades party =
        ap (λ (ts : List Trade). gained pasts party +ℤ dollars ts party) (sym none) in
        ap (λ (ps : List (List Entry)). gained ps party) (set_past pasts good (entry_at game pasts caller good call ∷ past_at pasts good) beyond) ∙ (nothing ∙ same)

even_called : (game : GameFile) (caller good : ℕ) (call : Call) (state : GameState) → IsEven state → IsEven (called game caller good call state)
even_called game caller good call state even =
    let e : Entry = entry_at game state.pasts caller good call in
    record {
      count = length-set state.pasts good (e ∷ past_at state.pasts good) ∙ even.count;
      totals = λ party low. post_adds state.cash good (length (past_at state.pasts good)) e party low
          ∙ (ap (λ (z : ℤ). z +ℤ dollars e.trades party) (even.totals party low) ∙ sym (gained_called game caller good call state.pasts party even.count));
    }

-- a choice of two games
either_turn : (b : Bool) (x y : Said × GameState) → IsEven x.1 → IsEven y.1 → IsEven (cond b x y).1
either_turn true x y first second = first
either_turn false x y first second = second

either : (b : Bool) (x y : GameState) → IsEven x → IsEven y → IsEven (cond b x y)
either true x y first second = first
either false x y first second = second

even_call : (game : GameFile) (agent good : ℕ) (call : Call) (state : GameState) → IsEven state → IsEven (call_turn game agent good call state).1
even_call game agent good call state even =
    either_turn (nat_le 1024 (entries_of (past_at state.pasts good) agent)) (said.Spent, state)
    (said.At (length (past_at state.pasts good)) (entry_at game state.pasts agent good call).reply, called game agent good call state) even (even_called game agent good call state even)

even_reading : (agent : ℕ) (state : GameState) → IsEven state → IsEven (cash_turn agent state).1
even_reading agent state even =
    either_turn (nat_le 1024 (readings_of state.cash agent)) (said.Spent, state)
    (said.Cash (length state.cash) (cash_total state.cash agent), record { pasts = state.pasts; cash = state.cash ++ reading_of state.cash agent ∷ []; ticks = state.ticks }) even
    (record { count = even.count; totals = λ party low. cash_total-snoc state.cash (reading_of state.cash agent) party ∙ same party low })
  where
    same : (party : ℕ) → party ≤ 8 → cash_total state.cash party +ℤ pos 0 ≡ gained state.pasts party
    same party low = omega (arith, ints, even.totals party low)

even_turn : (game : GameFile) (agent : ℕ) (asked : Result Request RequestFault) (state : GameState) → IsEven state → IsEven (turn game agent asked state).1
even_turn game agent (Ok (requests.Bid good points)) state even = even_call game agent good (calls.Bid points) state even
even_turn game agent (Ok (requests.Withdraw good)) state even = even_call game agent good calls.Withdraw state even
even_turn game agent (Ok (requests.Own good)) state even = even_call game agent good calls.Own state even
even_turn game agent (Ok (requests.Quote good)) state even = even
even_turn game agent (Ok requests.Cash) state even = even_reading agent state even
even_turn game agent (Ok requests.Quit) state even = even
even_turn game agent (Err fault) state even = even

even_clocked : (game : GameFile) (due : List (ℕ × Call)) (state : GameState) → IsEven state → IsEven (clocked game due state)
even_clocked game [] state even = even
even_clocked game ((good, call) ∷ due) state even = even_clocked game due (called game clock good call state) (even_called game clock good call state even)

even_ticked : (game : GameFile) (state : GameState) → IsEven state → IsEven (ticked game state)
even_ticked game state even =
    either (nat_le 54 state.ticks) state (clocked game (calls_at game (state.ticks + 1)) (record { pasts = state.pasts; cash = state.cash; ticks = state.ticks + 1 })) even
    (even_clocked game (calls_at game (state.ticks + 1)) (record { pasts = state.pasts; cash = state.cash; ticks = state.ticks + 1 }) (record { count = even.count; totals = even.totals }))

even_played : (game : GameFile) (lines : List GameLine) → IsEven (played game lines)
even_played game [] = record { count = refl; totals = λ party low. sym (gained_none 28 party) }
even_played game (Tick ∷ lines) = even_ticked game (played game lines) (even_played game lines)
even_played game (Asks agent asked ∷ lines) = even_turn game agent asked (played game lines) (even_played game lines)

even_often : (game : GameFile) (n : ℕ) (state : GameState) → IsEven state → IsEven (ticked_often game n state)
even_often game zero state even = even
even_often game (suc n) state even = even_ticked game (ticked_often game n state) (even_often game n state even)

-- ---- the closed game

-- what a party gains in the auctions is what it gained in their pasts
cash_from : (game : GameFile) (good : ℕ) (before : ℤ) (pasts : List (List Entry)) (party : ℕ) →
    fold ◌+ℤ◌ before (map (λ (a : AuctionHistory). dollars (all_trades (reverse a.history)) party) (map (auction_with game) (enumerate_from good pasts))) ≡ before +ℤ gained pasts party
cash_from game good before [] party = omega (arith, ints)
cash_from game good before (past ∷ pasts) party =
    let there : dollars (all_trades (reverse (reverse past))) party ≡ dollars (all_trades past) party = ap (λ (h : List Entry). dollars (all_trades h) party) (reverse-reverse past) in
    cash_from game (good + 1) (before +ℤ dollars (all_trades (reverse (reverse past))) party) pasts party ∙ omega (arith, ints, there)

pub cash_of_script : (game : GameFile) (lines : List GameLine) → IsCashOfPosts (closed_game game lines)
cash_of_script game lines =
    λ i. each 0 (omega arith) i ∷ each 1 (omega arith) i ∷ each 2 (omega arith) i ∷ each 3 (omega arith) i ∷ each 4 (omega arith) i ∷ each 5 (omega arith) i ∷ each 6 (omega arith) i ∷ each 7 (omega arith) i ∷ []
  where
    each : (party : ℕ) → party ≤ 8 → cash_gained (closed_game game lines).auctions party ≡ cash_total (closed_game game lines).cash party
    each party low =
        let even = even_often game (54 - (played game lines).ticks) (played game lines) (even_played game lines) in
        let whole = cash_from game 0 (pos 0) (whole_game game lines).pasts party in
        let none : pos 0 +ℤ gained (whole_game game lines).pasts party ≡ gained (whole_game game lines).pasts party = omega (arith, ints) in
        whole ∙ (none ∙ sym (even.totals party low))
