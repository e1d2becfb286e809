-- Each step of a game that one thread plays keeps its histories legal.
use Rattle.std.proofs.Common.{◌≡◌, ℕ, zero, suc, ◌+◌, ◌-◌, ◌<◌, ◌≤◌, Bool, true, false, cond, List, [], ◌∷◌, ◌++◌, length, get_or, refl, sym, ap, ◌∙◌, subst, arith, length-set, ◌==◌, nat_le, replicate, sum_by, None, Some, Result, Ok, Err, All, append-nil}
use Rattle.std.specs.List.{AllByRecursion}
use Rattle.std.proofs.lemmas.Bool.Decides.{nat_tests}
use Rattle.std.proofs.lemmas.List.Sums.{sum_by-cons}
use mathlib.Core.Logic.{dite}
use native.Mathlib.Decide.{ℕ_discrete}
use Rattle.script_run.specs.{Call, Trade, clock, GameFile, calls_at, Entry, nets, IsLawful, entries_of, Post, Done, CashEntry, IsLegalCash, posts_of, post_for, due_post, setup_of, IsDueCall, calls_until, Request, RequestFault, Said, GameState, opening, past_at, entry_at, called, reading_of, readings_of, call_turn, cash_turn, turn, clocked, ticked, played, ticked_often, whole_game, IsAskedInRange, IsLine}
use Rattle.tac_base.specs.declared.calls.Call.TheVariants as calls
use Rattle.auction_rules.proofs.Histories.{entry_caller, lawful_more}
use Rattle.trade_ledger.proofs.CashSteps.{legal_snoc}
use Rattle.clock_events.proofs.MadeCalls.{calls_of_good}
use Rattle.line_protocol.specs.declared.asking.Request.TheVariants as requests
use Rattle.line_protocol.specs.declared.saying.Said.TheVariants as said
use Rattle.script_run.specs.declared.game.lines.GameLine.{GameLine}
use Rattle.script_run.specs.declared.game.lines.GameLine.TheVariants.{Tick, Asks}
use Rattle.script_run.proofs.ClockParts.{clock_made, agent_made, clocked_made, past_there, past_elsewhere, IsOfGood, tick_low, until_next}
use Rattle.script_run.proofs.Counted.{one_if, one_if_other, one_if_le, with_entry}
use Rattle.script_run.proofs.OwedPosts.{owed, owed_more, posts_more, posts_read}

-- ---- whatever the clock has called

-- the entries of each past are those of the rules, an agent has no more than its cap, and the posts are those that are due
pub record IsLawfulState (game : GameFile) (state : GameState) : Type 0 where
  pub count : length state.pasts ≡ 28
  pub lawful : (good : ℕ) → IsLawful (setup_of good game) (past_at state.pasts good)
  pub called : (good : ℕ) → AllByRecursion (λ (e : Entry). e.caller ≤ clock) (past_at state.pasts good)
  pub few : (good agent : ℕ) → agent ≤ 7 → entries_of (past_at state.pasts good) agent ≤ 1024
  pub cash : IsLegalCash state.cash
  pub matched : (w : CashEntry → ℕ) → sum_by w (posts_of state.cash) ≡ owed w 0 state.pasts

-- what holds of all pasts stays so if it holds of the one with an entry more
each_past : (P : ℕ → List Entry → Type 0) (pasts : List (List Entry)) (good : ℕ) (e : Entry) → good < length pasts → P good (e ∷ past_at pasts good) →
    ((other : ℕ) → P other (past_at pasts other)) → (other : ℕ) → P other (past_at (with_entry pasts good e) other)
each_past P pasts good e inside here all other = dite (ℕ_discrete good other)
    (λ is. subst (P other) (sym (past_there pasts good other e inside is)) (subst (λ (g : ℕ). P g (e ∷ past_at pasts g)) is here))
    (λ ne. subst (P other) (sym (past_elsewhere pasts good other e ne)) (all other))

still_few : (e : Entry) (past : List Entry) (agent : ℕ) → entries_of past agent ≤ 1024 → (e.caller ≡ agent → entries_of past agent < 1024) → entries_of (e ∷ past) agent ≤ 1024
still_few e past agent few room =
    let more : entries_of (e ∷ past) agent ≡ one_if (e.caller == agent) + entries_of past agent = sum_by-cons (λ (x : Entry). one_if (x.caller == agent)) e past in
    dite (ℕ_discrete e.caller agent)
    (λ is. let lt = room is in let le = one_if_le (e.caller == agent) in omega (arith, more, lt, le))
    (λ ne. let none = one_if_other e.caller agent ne in omega (arith, more, none, few))

legal_due : (cash : List CashEntry) (good position : ℕ) (e : Entry) → IsLegalCash cash → IsLegalCash (cash ++ due_post good position e)
legal_due cash good position e legal = by_trades e.trades
  where
    by_trades : (trades : List Trade) → IsLegalCash (cash ++ post_for trades (record { caller = e.caller; call = Post good position (record { dollars = nets e.trades }); reply = Done }))
    by_trades [] = subst IsLegalCash (sym (append-nil cash)) legal
    by_trades (t ∷ trades) = legal_snoc cash (record { caller = e.caller; call = Post good position (record { dollars = nets e.trades }); reply = Done }) legal tt refl

-- a call
lawful_called : (game : GameFile) (state : GameState) (caller good : ℕ) (call : Call) → caller ≤ 8 → good ≤ 27 → (caller ≤ 7 → entries_of (past_at state.pasts good) caller < 1024) →
    IsLawfulState game state → IsLawfulState game (called game caller good call state)
lawful_called game state caller good call low there room is =
    let e : Entry = entry_at game state.pasts caller good call in
    let by : e.caller ≡ caller = entry_caller (setup_of good game) (past_at state.pasts good) caller call in
    let count = is.count in
    let inside : good < length state.pasts = omega (arith, count, there) in
    record {
      count = length-set state.pasts good (e ∷ past_at state.pasts good) ∙ is.count;
      lawful = each_past (λ g past. IsLawful (setup_of g game) past) state.pasts good e inside (lawful_more (setup_of good game) (past_at state.pasts good) caller call (is.lawful good)) is.lawful;
      called = each_past (λ g past. AllByRecursion (λ (x : Entry). x.caller ≤ clock) past) state.pasts good e inside (omega (arith, by, low), is.called good) is.called;
      few = λ other agent le. each_past (λ g past. entries_of past agent ≤ 1024) state.pasts good e inside
          (still_few e (past_at state.pasts good) agent (is.few good agent le) (λ mine. subst (λ (k : ℕ). entries_of (past_at state.pasts good) k < 1024) (sym by ∙ mine) (room (omega (arith, by, mine, le)))))
          (λ g. is.few g agent le) other;
      cash = legal_due state.cash good (length (past_at state.pasts good)) e is.cash;
      matched = λ w. posts_more w state.cash good (length (past_at state.pasts good)) e
          ∙ (ap (λ (n : ℕ). n + sum_by w (due_post good (length (past_at state.pasts good)) e)) (is.matched w) ∙ sym (owed_more w good state.pasts e inside));
    }

-- calls of the clock
lawful_clocked : (game : GameFile) (due : List (ℕ × Call)) (state : GameState) → AllByRecursion IsOfGood due → IsLawfulState game state → IsLawfulState game (clocked game due state)
lawful_clocked game [] state low is = is
lawful_clocked game ((good, call) ∷ due) state low is =
    lawful_clocked game due (called game clock good call state) low.1 (lawful_called game state clock good call (omega arith) low.0 (λ agent. absurd (omega (arith, agent))) is)

-- ---- with the clock's calls

-- the clock made the calls of the ticks so far, of each good in order
pub record IsOnTime (game : GameFile) (state : GameState) : Type 0 where
  pub lawful : IsLawfulState game state
  pub ticks : state.ticks ≤ 54
  pub made : (good : ℕ) → clock_made (past_at state.pasts good) ≡ calls_until game state.ticks good

either_turn : (game : GameFile) (b : Bool) (x y : Said × GameState) → (b ≡ true → IsOnTime game x.1) → (b ≡ false → IsOnTime game y.1) → IsOnTime game (cond b x y).1
either_turn game true x y first second = first refl
either_turn game false x y first second = second refl

time_call : (game : GameFile) (agent good : ℕ) (call : Call) (state : GameState) → agent ≤ 7 → good ≤ 27 → IsOnTime game state → IsOnTime game (call_turn game agent good call state).1
time_call game agent good call state low there is =
    either_turn game (nat_le 1024 (entries_of (past_at state.pasts good) agent)) (said.Spent, state)
    (said.At (length (past_at state.pasts good)) (entry_at game state.pasts agent good call).reply, called game agent good call state)
    (λ spent. is)
    (λ left. let room : entries_of (past_at state.pasts good) agent < 1024 = grind (arith, nat_tests, left) in let count = is.lawful.count in record {
      lawful = lawful_called game state agent good call (omega (arith, low)) there (λ _. room) is.lawful;
      ticks = is.ticks;
      made = λ other. agent_made game state agent good other call low (omega (arith, count, there)) ∙ is.made other;
    })

time_reading : (game : GameFile) (agent : ℕ) (state : GameState) → IsOnTime game state → IsOnTime game (cash_turn agent state).1
time_reading game agent state is =
    either_turn game (nat_le 1024 (readings_of state.cash agent)) (said.Spent, state) _ (λ spent. is)
    (λ left. record {
      lawful = record {
        count = is.lawful.count;
        lawful = is.lawful.lawful;
        called = is.lawful.called;
        few = is.lawful.few;
        cash = legal_snoc state.cash (reading_of state.cash agent) is.lawful.cash refl refl;
        matched = λ w. posts_read w state.cash agent ∙ is.lawful.matched w;
      };
      ticks = is.ticks;
      made = is.made;
    })

time_turn : (game : GameFile) (agent : ℕ) (asked : Result Request RequestFault) (state : GameState) → agent ≤ 7 → IsAskedInRange asked → IsOnTime game state → IsOnTime game (turn game agent asked state).1
time_turn game agent (Ok (requests.Bid good points)) state low range is = time_call game agent good (calls.Bid points) state low range.0 is
time_turn game agent (Ok (requests.Withdraw good)) state low range is = time_call game agent good calls.Withdraw state low range is
time_turn game agent (Ok (requests.Own good)) state low range is = time_call game agent good calls.Own state low range is
time_turn game agent (Ok (requests.Quote good)) state low range is = is
time_turn game agent (Ok requests.Cash) state low range is = time_reading game agent state is
time_turn game agent (Ok requests.Quit) state low range is = is
time_turn game agent (Err fault) state low range is = is

-- the ticks of a clocked game are those before
clocked_ticks : (game : GameFile) (due : List (ℕ × Call)) (state : GameState) → (clocked game due state).ticks ≡ state.ticks
clocked_ticks game [] state = refl
clocked_ticks game ((good, call) ∷ due) state = clocked_ticks game due (called game clock good call state)

module _ (game : GameFile) (fit : (tick : ℕ) → 1 ≤ tick → tick ≤ 54 → All (IsDueCall tick) (calls_at game tick)) where
  -- the tick after others
  next_tick : (state : GameState) → state.ticks < 54 → IsOnTime game state →
      IsOnTime game (clocked game (calls_at game (state.ticks + 1)) (record { pasts = state.pasts; cash = state.cash; ticks = state.ticks + 1 }))
  next_tick state few is =
      let begun : GameState = record { pasts = state.pasts; cash = state.cash; ticks = state.ticks + 1 } in
      let low = tick_low game (state.ticks + 1) (fit (state.ticks + 1) (omega arith) (omega (arith, few))) in
      let same = clocked_ticks game (calls_at game (state.ticks + 1)) begun in
      let old : IsLawfulState game begun = record {
        count = is.lawful.count;
        lawful = is.lawful.lawful;
        called = is.lawful.called;
        few = is.lawful.few;
        cash = is.lawful.cash;
        matched = is.lawful.matched;
      } in
      record {
        lawful = lawful_clocked game (calls_at game (state.ticks + 1)) begun low old;
        ticks = omega (arith, same, few);
        made = λ good. clocked_made game (calls_at game (state.ticks + 1)) begun good low is.lawful.count
            ∙ (ap (λ (l : List Call). l ++ calls_of_good (calls_at game (state.ticks + 1)) good) (is.made good) ∙ (until_next game state.ticks good few ∙ ap (λ (n : ℕ). calls_until game n good) (sym same)));
      }

  either : (b : Bool) (x y : GameState) → (b ≡ true → IsOnTime game x) → (b ≡ false → IsOnTime game y) → IsOnTime game (cond b x y)
  either true x y first second = first refl
  either false x y first second = second refl

  time_ticked : (state : GameState) → IsOnTime game state → IsOnTime game (ticked game state)
  time_ticked state is =
      either (nat_le 54 state.ticks) state (clocked game (calls_at game (state.ticks + 1)) (record { pasts = state.pasts; cash = state.cash; ticks = state.ticks + 1 }))
      (λ over. is) (λ left. let few : state.ticks < 54 = grind (arith, nat_tests, left) in next_tick state few is)

  opened : IsOnTime game opening
  opened = record {
    lawful = record {
      count = refl;
      lawful = λ good. nowhere (IsLawful (setup_of good game)) 28 good tt;
      called = λ good. nowhere (AllByRecursion (λ (e : Entry). e.caller ≤ clock)) 28 good tt;
      few = λ good agent le. nowhere (λ past. entries_of past agent ≤ 1024) 28 good (omega arith);
      cash = λ position e found. absurd (let never : None ≡ Some e = found in cc);
      matched = λ w. refl;
    };
    ticks = omega arith;
    made = λ good. nowhere (λ past. clock_made past ≡ []) 28 good refl;
  }
    where
      nowhere : (P : List Entry → Type 0) (n place : ℕ) → P [] → P (get_or (replicate n []) place [])
      nowhere P zero place is = is
      nowhere P (suc n) zero is = is
      nowhere P (suc n) (suc place) is = nowhere P n place is

  pub time_played : (lines : List GameLine) → AllByRecursion IsLine lines → IsOnTime game (played game lines)
  time_played [] low = opened
  time_played (Tick ∷ lines) low = time_ticked (played game lines) (time_played lines low.1)
  time_played (Asks agent asked ∷ lines) low = time_turn game agent asked (played game lines) low.0.0 low.0.1 (time_played lines low.1)

  -- one tick more, where one is left
  ticked_once : (state : GameState) → state.ticks < 54 → (ticked game state).ticks ≡ state.ticks + 1
  ticked_once state few =
      let test : nat_le 54 state.ticks ≡ false = grind (arith, nat_tests, few) in
      ap (λ (b : Bool). (cond b state (clocked game (calls_at game (state.ticks + 1)) (record { pasts = state.pasts; cash = state.cash; ticks = state.ticks + 1 }))).ticks) test
      ∙ clocked_ticks game (calls_at game (state.ticks + 1)) (record { pasts = state.pasts; cash = state.cash; ticks = state.ticks + 1 })

  time_often : (n : ℕ) (state : GameState) → n + state.ticks ≤ 54 → IsOnTime game state → IsOnTime game (ticked_often game n state) × ((ticked_often game n state).ticks ≡ n + state.ticks)
  time_often zero state few is = (is, omega arith)
  time_often (suc n) state few is =
      let before = time_often n state (omega (arith, few)) is in
      let at = before.1 in
      (time_ticked (ticked_often game n state) before.0, ticked_once (ticked_often game n state) (omega (arith, at, few)) ∙ omega (arith, at))

  -- a whole game has all ticks
  pub time_whole : (lines : List GameLine) → AllByRecursion IsLine lines → IsOnTime game (whole_game game lines) × ((whole_game game lines).ticks ≡ 54)
  time_whole lines low =
      let is = time_played lines low in
      let few = is.ticks in
      let all = time_often (54 - (played game lines).ticks) (played game lines) (omega (arith, few)) is in
      (all.0, all.1 ∙ omega (arith, few))
