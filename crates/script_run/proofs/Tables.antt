-- The counts beside a game after a call, a reading, and the calls of a tick.
use Rattle.std.proofs.Common.{◌≡◌, ℕ, zero, suc, ◌+◌, ◌*◌, ◌<◌, ◌≤◌, Bool, true, false, cond, List, [], ◌∷◌, ◌++◌, length, refl, sym, ap, ◌∙◌, subst, arith, ne_eqb, add-one, get_or, drop, length-set, slice_index, ◌==◌, ◌&&◌, count_by, All, Option, Some, None, nat_le, slice_get, replicate}
use Rattle.std.proofs.lemmas.Bool.Decides.{nat_tests}
use Rattle.std.proofs.lemmas.List.Sums.{sum_by-cons, sum_by-take-le, sum_by_more}
use Rattle.std.proofs.lemmas.List.Concat.{length-flat_map}
use Rattle.std.proofs.lemmas.List.FromFn.{get_or-range_with_len}
use Rattle.std.proofs.lemmas.Option.{get_or_from_slice_get, slice_get_within}
use mathlib.Core.Logic.{dite}
use native.Mathlib.Decide.{ℕ_discrete}
use Rattle.script_run.specs.{Call, Bid, Withdraw, Own, Update, Publish, Close, Reply, Said, At, Spent, GameFile, clock, Entry, cap, entries_of, part, cash_cap, setup_of, IsFit, tick_calls_of, IsFor, IsDueCall, count_at, no_calls_counted, GameState, opening, call_turn, clocked, past_at, entry_at, called, readings_of, reading_of, SeenGame, made, due, HasClockRoom, AreCounted}
use Rattle.auction_rules.proofs.Histories.{entry_caller}
use Rattle.game_text.specs.Schedule as schedule
use Rattle.script_run.specs.declared.game.call_counts.CallCounts.{CallCounts}
use Rattle.script_run.specs.declared.game.call_counts.GoodCounts.{GoodCounts}
use Rattle.script_run.proofs.Counted.{by, one_if, one_if_le, one_if_same, one_if_other, entries_called, made_called, made_below, made_most, part_posts, part_read, readings_posts, readings_read, and_false}

caps : (b : Bool) → b ≡ false → (cond {A = ℕ} b 64 1024 ≡ 1024) × (cond {A = ℕ} b 480 29696 ≡ 29696)
caps true h = absurd cc
caps false h = (refl, refl)

-- an agent's caps
pub agent_cap : (agent : ℕ) → agent ≤ 7 → (cap agent ≡ 1024) × (cash_cap agent ≡ 29696)
agent_cap agent le = caps (agent == clock) (ne_eqb agent clock (λ is. absurd (omega arith)))

-- the entries and the clock's entries after a call of any caller
entries_after : (game : GameFile) (state : GameState) (caller good other who : ℕ) (call : Call) → good < length state.pasts →
    entries_of (past_at (called game caller good call state).pasts other) who ≡ entries_of (past_at state.pasts other) who + one_if ((caller == who) && (good == other))
entries_after game state caller good other who call inside =
    entries_called state.pasts good other who (entry_at game state.pasts caller good call) inside
    ∙ ap (λ (by : ℕ). entries_of (past_at state.pasts other) who + one_if ((by == who) && (good == other))) (entry_caller (setup_of good game) (past_at state.pasts good) caller call)

made_after : (game : GameFile) (state : GameState) (caller good who : ℕ) (call : Call) → good < length state.pasts →
    made (called game caller good call state).pasts who ≡ made state.pasts who + one_if (caller == who)
made_after game state caller good who call inside =
    made_called state.pasts good who (entry_at game state.pasts caller good call) inside
    ∙ ap (λ (by : ℕ). made state.pasts who + one_if (by == who)) (entry_caller (setup_of good game) (past_at state.pasts good) caller call)

posted_after : (game : GameFile) (state : GameState) (caller good who : ℕ) (call : Call) → good < length state.pasts →
    length (part by state.cash who) ≤ made state.pasts who + readings_of state.cash who →
    length (part by (called game caller good call state).cash who) ≤ made (called game caller good call state).pasts who + readings_of (called game caller good call state).cash who
posted_after game state caller good who call inside posted =
    let e = entry_at game state.pasts caller good call in
    let part_is = part_posts state.cash good (length (past_at state.pasts good)) who e in
    let mine = ap (λ (by : ℕ). one_if (by == who)) (entry_caller (setup_of good game) (past_at state.pasts good) caller call) in
    let read_is = readings_posts state.cash good (length (past_at state.pasts good)) who e in
    let made_is = made_after game state caller good who call inside in
    omega (arith, part_is, read_is, made_is, posted)

goods_after : (game : GameFile) (state : GameState) (caller good : ℕ) (call : Call) → length (called game caller good call state).pasts ≡ length state.pasts
goods_after game state caller good call = length-set state.pasts good (entry_at game state.pasts caller good call ∷ past_at state.pasts good)

both_le : (a b : Bool) → one_if (a && b) ≤ one_if a
both_le true b = one_if_le b
both_le false b = omega arith

-- a count that rises by one at one place, if there was room
still_few : (agent good other place old new : ℕ) → new ≡ old + one_if ((agent == other) && (good == place)) → old ≤ 1024 → (agent ≡ other → good ≡ place → old < 1024) → new ≤ 1024
still_few agent good other place old new is few room = dite (ℕ_discrete agent other)
    (λ a. dite (ℕ_discrete good place)
    (λ g. let lt = room a g in let le = one_if_le ((agent == other) && (good == place)) in omega arith)
    (λ g. let none : one_if ((agent == other) && (good == place)) ≡ 0 = and_false (agent == other) (good == place) (ne_eqb good place g) in omega arith))
    (λ a. let none = one_if_other agent other a in let le = both_le (agent == other) (good == place) in omega arith)

-- ---- an agent's call

pub call_room : (game : GameFile) (state : GameState) (counts : CallCounts) (read : List ℕ) (agent good : ℕ) → AreCounted game state counts read → agent ≤ 7 → good ≤ 27 →
    count_at counts agent good < 1024 → (entries_of (past_at state.pasts good) agent < cap agent) × (length (part by state.cash agent) < cash_cap agent)
call_room game state counts read agent good is low there few =
    let cap_is = agent_cap agent low in
    let count = is.calls agent good low there in
    let goods = is.goods in
    let below = made_below state.pasts agent 1024 good (λ other. is.few_calls agent other low) (omega arith) in
    let posted = is.posted agent in
    let readings = is.few_readings agent low in
    (omega (arith, cap_is.0), omega (arith, cap_is.1, ap (λ (n : ℕ). n * 1024) goods))

pub counted_call : (game : GameFile) (state : GameState) (counts counts' : CallCounts) (read : List ℕ) (agent good : ℕ) (call : Call) → AreCounted game state counts read → agent ≤ 7 → good ≤ 27 →
    count_at counts agent good < 1024 →
    ((other place : ℕ) → other ≤ 7 → place ≤ 27 → count_at counts' other place ≡ count_at counts other place + one_if ((agent == other) && (good == place))) →
    AreCounted game (called game agent good call state) counts' read
counted_call game state counts counts' read agent good call is low there few more =
    let goods = is.goods in
    let inside : good < length state.pasts = omega arith in
    let count = is.calls agent good low there in
    let no_clock : one_if (agent == clock) ≡ 0 = one_if_other agent clock (λ e. absurd (omega arith)) in
    record {
      goods = goods_after game state agent good call ∙ goods;
      ticks = is.ticks;
      calls = λ other place low' there'. more other place low' there' ∙ (ap (λ (n : ℕ). n + one_if ((agent == other) && (good == place))) (is.calls other place low' there') ∙ sym (entries_after game state agent good place other call inside));
      few_calls = λ other place low'. still_few agent good other place (entries_of (past_at state.pasts place) other) _ (entries_after game state agent good place other call inside) (is.few_calls other place low')
          (λ a g. subst (λ (p : ℕ). entries_of (past_at state.pasts p) other < 1024) g (subst (λ (w : ℕ). entries_of (past_at state.pasts good) w < 1024) a (subst (λ (n : ℕ). n < 1024) count few)));
      readings = λ other low'. is.readings other low' ∙ sym (readings_posts state.cash good (length (past_at state.pasts good)) other (entry_at game state.pasts agent good call));
      few_readings = λ other low'. let same = readings_posts state.cash good (length (past_at state.pasts good)) other (entry_at game state.pasts agent good call) in let old = is.few_readings other low' in omega arith;
      no_reading = readings_posts state.cash good (length (past_at state.pasts good)) clock (entry_at game state.pasts agent good call) ∙ is.no_reading;
      posted = λ who. posted_after game state agent good who call inside (is.posted who);
      clock_each = λ place. let same = entries_after game state agent good place clock call inside in let none = both_le (agent == clock) (good == place) in let old = is.clock_each place in omega arith;
      clock_all = let same = made_after game state agent good clock call inside in let old = is.clock_all in omega arith;
    }

-- the answer to an agent with calls left
pub answered_call : (game : GameFile) (state state' : GameState) (agent good caller position : ℕ) (call : Call) (reply : Reply) → entries_of (past_at state.pasts good) agent < 1024 →
    caller ≡ agent → position ≡ length (past_at state.pasts good) → reply ≡ (entry_at game state.pasts caller good call).reply → state' ≡ called game caller good call state →
    ◌≡◌ {A = Said × GameState} (At position reply, state') (call_turn game agent good call state)
answered_call game state state' agent good caller position call reply few mine there replied after =
    let test : nat_le 1024 (entries_of (past_at state.pasts good) agent) ≡ false = grind (arith, nat_tests) in
    let at : reply ≡ (entry_at game state.pasts agent good call).reply = replied ∙ ap (λ (n : ℕ). (entry_at game state.pasts n good call).reply) mine in
    let next : state' ≡ called game agent good call state = after ∙ ap (λ (n : ℕ). called game n good call state) mine in
    (λ i. (At (there i) (at i), next i))
    ∙ sym (ap (λ (b : Bool). cond {A = Said × GameState} b (Spent, state) (At (length (past_at state.pasts good)) (entry_at game state.pasts agent good call).reply, called game agent good call state)) test)

-- ---- an agent's reading

pub read_room : (game : GameFile) (state : GameState) (counts : CallCounts) (read : List ℕ) (agent : ℕ) → AreCounted game state counts read → agent ≤ 7 →
    slice_index read agent < 1024 → length (part by state.cash agent) < cash_cap agent
read_room game state counts read agent is low few =
    let cap_is = agent_cap agent low in
    let count = is.readings agent low in
    let goods = is.goods in
    let most = made_most state.pasts agent 1024 (λ other. is.few_calls agent other low) in
    let posted = is.posted agent in
    omega (arith, cap_is.1, ap (λ (n : ℕ). n * 1024) goods)

pub counted_read : (game : GameFile) (state : GameState) (counts : CallCounts) (read read' : List ℕ) (agent : ℕ) → AreCounted game state counts read → agent ≤ 7 → slice_index read agent < 1024 →
    ((other : ℕ) → other ≤ 7 → slice_index read' other ≡ slice_index read other + one_if (agent == other)) →
    AreCounted game (record { pasts = state.pasts; cash = state.cash ++ reading_of state.cash agent ∷ []; ticks = state.ticks }) counts read'
counted_read game state counts read read' agent is low few more =
    let no_clock : one_if (agent == clock) ≡ 0 = one_if_other agent clock (λ e. absurd (omega arith)) in
    record {
      goods = is.goods;
      ticks = is.ticks;
      calls = is.calls;
      few_calls = is.few_calls;
      readings = λ other low'. more other low' ∙ (ap (λ (n : ℕ). n + one_if (agent == other)) (is.readings other low') ∙ sym (readings_read state.cash agent other));
      few_readings = λ other low'. read_few other low';
      no_reading = let more' = readings_read state.cash agent clock in let old = is.no_reading in omega arith;
      posted = λ who. let part_is = part_read state.cash agent who in let read_is = readings_read state.cash agent who in let old = is.posted who in omega arith;
      clock_each = is.clock_each;
      clock_all = is.clock_all;
    }
  where
    read_few : (other : ℕ) → other ≤ 7 → readings_of (state.cash ++ reading_of state.cash agent ∷ []) other ≤ 1024
    read_few other low' = let read_is = readings_read state.cash agent other in let count = is.readings other low' in dite (ℕ_discrete agent other)
        (λ same. let lt : slice_index read other < 1024 = subst (λ (w : ℕ). slice_index read w < 1024) same few in let le = one_if_le (agent == other) in omega arith)
        (λ ne. let none = one_if_other agent other ne in let old = is.few_readings other low' in omega arith)

-- ---- a call of the clock

pub clock_room : (game : GameFile) (state : GameState) (counts : CallCounts) (read : List ℕ) (good : ℕ) (call : Call) (left : List (ℕ × Call)) → AreCounted game state counts read →
    HasClockRoom game state ((good, call) ∷ left) → due game state.ticks ≤ 480 → (entries_of (past_at state.pasts good) clock < cap clock) × (length (part by state.cash clock) < cash_cap clock)
clock_room game state counts read good call left is room most =
    let each = room.each good in
    let all = room.all in
    let one = sum_by-cons (λ (c : ℕ × Call). one_if (c.0 == good)) (good, call) left in
    let this = one_if_same good good refl in
    let ticks = is.ticks in
    let posted = is.posted clock in
    let none = is.no_reading in
    (omega arith, omega arith)

pub counted_clock : (game : GameFile) (state : GameState) (counts : CallCounts) (read : List ℕ) (good : ℕ) (call : Call) (left : List (ℕ × Call)) → AreCounted game state counts read → good ≤ 27 →
    HasClockRoom game state ((good, call) ∷ left) → AreCounted game (called game clock good call state) counts read × HasClockRoom game (called game clock good call state) left
counted_clock game state counts read good call left is there room =
    let goods = is.goods in
    let inside : good < length state.pasts = omega arith in (
      record {
        goods = goods_after game state clock good call ∙ goods;
        ticks = is.ticks;
        calls = λ other place low there'. is.calls other place low there' ∙ sym (as_before other place low);
        few_calls = λ other place low. let same = as_before other place low in let old = is.few_calls other place low in omega arith;
        readings = λ other low. is.readings other low ∙ sym (readings_posts state.cash good (length (past_at state.pasts good)) other (entry_at game state.pasts clock good call));
        few_readings = λ other low. let same = readings_posts state.cash good (length (past_at state.pasts good)) other (entry_at game state.pasts clock good call) in let old = is.few_readings other low in omega arith;
        no_reading = readings_posts state.cash good (length (past_at state.pasts good)) clock (entry_at game state.pasts clock good call) ∙ is.no_reading;
        posted = λ who. posted_after game state clock good who call inside (is.posted who);
        clock_each = λ place. let now = each place in omega arith;
        clock_all = let now = all in omega arith;
      },
      record { each = each; all = all },
    )
  where
    as_before : (other place : ℕ) → other ≤ 7 → entries_of (past_at (called game clock good call state).pasts place) other ≡ entries_of (past_at state.pasts place) other
    as_before other place low =
        let goods = is.goods in
        let more = entries_after game state clock good place other call (omega arith) in
        let none = one_if_other clock other (λ e. absurd (omega arith)) in
        let le = both_le (clock == other) (good == place) in omega arith

    each : (place : ℕ) → entries_of (past_at (called game clock good call state).pasts place) clock + count_by (λ (c : ℕ × Call). c.0 == place) left ≤ state.ticks
    each place =
        let goods = is.goods in
        let more = entries_after game state clock good place clock call (omega arith) in
        let one = sum_by-cons (λ (c : ℕ × Call). one_if (c.0 == place)) (good, call) left in
        let old = room.each place in omega arith

    all : made (called game clock good call state).pasts clock + length left ≤ due game state.ticks
    all =
        let goods = is.goods in
        let more = made_after game state clock good clock call (omega arith) in
        let one = one_if_same clock clock refl in
        let old = room.all in omega arith

-- ---- the calls of a tick

-- the calls that are due by the last tick
pub due_most : (game : GameFile) (ticks : ℕ) → length (schedule.schedule game) ≡ 480 → due game ticks ≤ 480
due_most game ticks whole =
    let most = sum_by-take-le (λ (tick : ℕ). length (schedule.calls_at game tick)) schedule.ticks ticks in
    let all = length-flat_map (schedule.calls_at game) schedule.ticks in omega (arith, whole, most, all)

pub due_more : (game : GameFile) (ticks : ℕ) → ticks < 54 → due game (ticks + 1) ≡ due game ticks + length (schedule.calls_at game (ticks + 1))
due_more game ticks few =
    let next : get_or schedule.ticks ticks 0 ≡ ticks + 1 = get_or-range_with_len 1 54 ticks 0 few ∙ omega arith in
    sum_by_more (λ (tick : ℕ). length (schedule.calls_at game tick)) schedule.ticks ticks 0 (omega arith)
    ∙ ap (λ (t : ℕ). due game ticks + length (schedule.calls_at game t)) next

pub drop_here : {A : Type 0} (xs : List A) (n : ℕ) (x : A) → slice_get xs n ≡ Some x → drop n xs ≡ x ∷ drop (n + 1) xs
drop_here [] n x is = absurd cc
drop_here {A = A} (y ∷ xs) zero x is = let same : y ≡ x = cc in ap (λ (z : A). z ∷ xs) same
drop_here {A = A} (y ∷ xs) (suc n) x is = drop_here xs n x is
    ∙ (ap (λ (k : ℕ). x ∷ drop {A = A} k xs) (add-one n) ∙ sym (ap (λ (k : ℕ). x ∷ drop {A = A} k (y ∷ xs)) (add-one (suc n))))

pub drop_end : {A : Type 0} (xs : List A) (n : ℕ) → slice_get xs n ≡ None → drop n xs ≡ []
drop_end [] zero is = refl
drop_end [] (suc n) is = refl
drop_end (y ∷ xs) zero is = absurd cc
drop_end (y ∷ xs) (suc n) is = drop_end xs n is

pub drop_past : {A : Type 0} (xs : List A) (n : ℕ) → slice_get xs n ≡ None → drop (n + 1) xs ≡ []
drop_past [] n is = drop_nil (n + 1)
  where
    drop_nil : {A : Type 0} (k : ℕ) → drop {A = A} k [] ≡ []
    drop_nil zero = refl
    drop_nil (suc k) = refl
drop_past (y ∷ xs) zero is = absurd cc
drop_past {A = A} (y ∷ xs) (suc n) is = ap (λ (k : ℕ). drop {A = A} k (y ∷ xs)) (add-one (suc n)) ∙ (ap (λ (k : ℕ). drop {A = A} k xs) (sym (add-one n)) ∙ drop_past xs n is)

-- if the schedule gives no call, none is left
pub none_left : (game answered : GameFile) (tick n : ℕ) (got : Option (ℕ × Call)) → answered ≡ game → got ≡ slice_get (schedule.calls_at answered tick) n → got ≡ None →
    drop n (schedule.calls_at game tick) ≡ drop (n + 1) (schedule.calls_at game tick)
none_left game answered tick n got is asked none =
    let here : slice_get (schedule.calls_at game tick) n ≡ None = ap (λ (g : GameFile). slice_get (schedule.calls_at g tick) n) (sym is) ∙ (sym asked ∙ none) in
    drop_end (schedule.calls_at game tick) n here ∙ sym (drop_past (schedule.calls_at game tick) n here)

-- what the law of the schedule says of a call
pub fit_call : (tick good : ℕ) (call : Call) → IsFor tick good call → IsFit call
fit_call tick good (Bid points) is = absurd is
fit_call tick good Withdraw is = absurd is
fit_call tick good Own is = absurd is
fit_call tick good (Update at draw) is = omega (arith, is.0, is.1)
fit_call tick good Publish is = tt
fit_call tick good Close is = tt

pub call_at : (calls : List (ℕ × Call)) (n tick : ℕ) (call : ℕ × Call) → All (IsDueCall tick) calls → slice_get calls n ≡ Some call → IsDueCall tick call
call_at calls n tick call all is =
    subst (IsDueCall tick) (get_or_from_slice_get calls n call call is) (all n call (slice_get_within calls n call is))

-- the call of a good that stands next, and what it leaves
pub record ClockStep (seen : SeenGame) (counts : CallCounts) (read : List ℕ) (tick n : ℕ) (call : ℕ × Call) : Type 0 where
  pub fit : IsFit call.1
  pub room : entries_of (past_at seen.state.pasts call.0) clock < cap clock
  pub cash_room : length (part by seen.state.cash clock) < cash_cap clock
  pub counted : AreCounted seen.game (called seen.game clock call.0 call.1 seen.state) counts read
  pub next : HasClockRoom seen.game (called seen.game clock call.0 call.1 seen.state) (drop (n + 1) (schedule.calls_at seen.game tick))
  pub same :
      clocked seen.game (drop (n + 1) (schedule.calls_at seen.game tick)) (called seen.game clock call.0 call.1 seen.state)
      ≡ clocked seen.game (drop n (schedule.calls_at seen.game tick)) seen.state

pub clock_step : (game answered : GameFile) (state : GameState) (counts : CallCounts) (read : List ℕ) (tick n good : ℕ) (call : Call) → answered ≡ game → AreCounted game state counts read →
    All (IsDueCall tick) (schedule.calls_at answered tick) → length (schedule.schedule answered) ≡ 480 → slice_get (schedule.calls_at answered tick) n ≡ Some (good, call) → good ≤ 27 →
    HasClockRoom game state (drop n (schedule.calls_at game tick)) → ClockStep (record { game = game; state = state }) counts read tick n (good, call)
clock_step game answered state counts read tick n good call is counted due_all whole there low room =
    let here : slice_get (schedule.calls_at game tick) n ≡ Some (good, call) = subst (λ (g : GameFile). slice_get (schedule.calls_at g tick) n ≡ Some (good, call)) is there in
    let most : due game state.ticks ≤ 480 = due_most game state.ticks (subst (λ (g : GameFile). length (schedule.schedule g) ≡ 480) is whole) in
    let first : drop n (schedule.calls_at game tick) ≡ (good, call) ∷ drop (n + 1) (schedule.calls_at game tick) = drop_here (schedule.calls_at game tick) n (good, call) here in
    let room' = subst (HasClockRoom game state) first room in
    let rooms = clock_room game state counts read good call (drop (n + 1) (schedule.calls_at game tick)) counted room' most in
    let after = counted_clock game state counts read good call (drop (n + 1) (schedule.calls_at game tick)) counted low room' in
    record {
      fit = fit_call tick good call (call_at (schedule.calls_at answered tick) n tick (good, call) due_all there);
      room = rooms.0;
      cash_room = rooms.1;
      counted = after.0;
      next = after.1;
      same = ap (λ (l : List (ℕ × Call)). clocked game l state) (sym first);
    }

-- ---- where a tick begins

-- the tick that was begun
abbrev pub begun_tick : GameState → ℕ → GameState
begun_tick state tick = record { pasts = state.pasts; cash = state.cash; ticks = tick }

-- the invariant while the clock makes the calls of a tick
pub record IsTicking (game : GameFile) (first : GameState) (tick n : ℕ) (seen : SeenGame) : Type 0 where
  pub is : seen.game ≡ game
  pub ticks : tick ≡ seen.state.ticks
  pub room : HasClockRoom game seen.state (drop n (schedule.calls_at game tick))
  pub same : clocked game (drop n (schedule.calls_at game tick)) seen.state ≡ clocked game (schedule.calls_at game tick) first

-- where a tick begins, the clock may make its calls
pub tick_room : (game : GameFile) (state : GameState) (counts : CallCounts) (read : List ℕ) (tick : ℕ) → AreCounted game state counts read → state.ticks < 54 → tick ≡ state.ticks + 1 →
    ((good : ℕ) → tick_calls_of game tick good ≤ 1) → HasClockRoom game (begun_tick state tick) (schedule.calls_at game tick)
tick_room game state counts read tick is few next once = record {
  each = λ good. let old = is.clock_each good in let new = once good in omega arith;
  all = let old = is.clock_all in let more = due_more game state.ticks few ∙ ap (λ (t : ℕ). due game state.ticks + length (schedule.calls_at game t)) (sym next) in
      let now : due game tick ≡ due game (state.ticks + 1) = ap (due game) next in omega arith;
}

pub counted_tick : (game : GameFile) (state : GameState) (counts : CallCounts) (read : List ℕ) (tick : ℕ) → AreCounted game state counts read → state.ticks < 54 → tick ≡ state.ticks + 1 →
    AreCounted game (begun_tick state tick) counts read
counted_tick game state counts read tick is few next = record {
  goods = is.goods;
  ticks = omega arith;
  calls = is.calls;
  few_calls = is.few_calls;
  readings = is.readings;
  few_readings = is.few_readings;
  no_reading = is.no_reading;
  posted = is.posted;
  clock_each = λ good. let old = is.clock_each good in omega arith;
  clock_all = let old = is.clock_all in let more = due_more game state.ticks few in let now : due game tick ≡ due game (state.ticks + 1) = ap (due game) next in omega arith;
}

-- ---- before the first call

same_everywhere : {A : Type 0} (P : A → Type 0) (n k : ℕ) (x d : A) → P x → P d → P (get_or (replicate n x) k d)
same_everywhere P zero k x d is default = default
same_everywhere P (suc n) zero x d is default = is
same_everywhere P (suc n) (suc k) x d is default = same_everywhere P n k x d is default

pub no_count : (n k : ℕ) → ◌≡◌ {A = ℕ} (get_or (replicate n 0) k 0) 0
no_count n k = same_everywhere (λ (m : ℕ). ◌≡◌ {A = ℕ} m 0) n k 0 0 refl refl

pub no_counts : (counts : GoodCounts) (n agent good : ℕ) → ((place : ℕ) → get_or counts.calls place 0 ≡ 0) → get_or (get_or (replicate n counts) agent no_calls_counted).calls good 0 ≡ 0
no_counts counts n agent good none = same_everywhere (λ (c : GoodCounts). get_or c.calls good 0 ≡ 0) n agent counts no_calls_counted (none good) refl

no_entries : (good who : ℕ) → entries_of (past_at opening.pasts good) who ≡ 0
no_entries good who = same_everywhere (λ (past : List Entry). entries_of past who ≡ 0) 28 good [] [] refl refl

pub counted_opening : (game : GameFile) (counts : CallCounts) → ((agent good : ℕ) → count_at counts agent good ≡ 0) → AreCounted game opening counts (replicate 8 0)
counted_opening game counts none = record {
  goods = refl;
  ticks = omega arith;
  calls = λ agent good low there. none agent good ∙ sym (no_entries good agent);
  few_calls = λ agent good low. let zero' = no_entries good agent in omega arith;
  readings = λ agent low. no_count 8 agent;
  few_readings = λ agent low. omega arith;
  no_reading = refl;
  posted = λ who. omega arith;
  clock_each = λ good. let zero' = no_entries good clock in omega arith;
  clock_all = let zero' = made_most opening.pasts clock 0 (λ good. let none' = no_entries good clock in omega arith) in omega arith;
}
