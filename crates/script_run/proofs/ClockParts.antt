-- The clock's calls in the pasts of a game are those of its ticks.
use Rattle.std.proofs.Common.{◌≡◌, ◌≢◌, ℕ, ◌+◌, ◌-◌, ◌<◌, ◌≤◌, Bool, true, false, cond, List, [], ◌∷◌, ◌++◌, length, map, reverse, take, refl, sym, ap, ◌∙◌, subst, arith, append_assoc, eq-eqb, ne_eqb, length-set, ◌==◌, filter, All, flat_map, append-nil, get_or-set_same, get_or-set_other}
use Rattle.std.specs.List.{AllByRecursion}
use Rattle.std.proofs.lemmas.List.{reverse-append, map-append}
use Rattle.std.proofs.lemmas.List.Elements.{filter-append, recursion_from_All, All-weaker}
use mathlib.Core.Logic.{dite}
use native.Mathlib.Decide.{ℕ_discrete}
use Rattle.script_run.specs.Prelude.{Call, Bid, Withdraw, Own, Update, Publish, Close, clock, GameFile, calls_at, ticks, Entry, part, setup_of, IsFor, IsDueCall, calls_until}
use Rattle.auction_rules.proofs.Histories.{entry_caller, entry_call}
use Rattle.turn_lock.proofs.Parts.{part_mine, part_other}
use Rattle.auction_core.proofs.Counting.{by}
use Rattle.clock_events.proofs.MadeCalls.{calls_of_good}
use Rattle.clock_events.proofs.TickCalls.{tick_done}
use Rattle.script_run.specs.{GameState, past_at, entry_at, called, clocked, calls_by}
use Rattle.script_run.proofs.Counted.{with_entry}

-- the clock's calls in a past, the oldest first
abbrev pub clock_made : List Entry → List Call
clock_made past = calls_by clock (reverse past)

abbrev call_in : ℕ × Entry → Call
call_in p = p.1.call

-- an entry more
made_mine : (e : Entry) (past : List Entry) → e.caller ≡ clock → clock_made (e ∷ past) ≡ clock_made past ++ e.call ∷ []
made_mine e past mine =
    ap (calls_by clock) (reverse-append (e ∷ []) past)
    ∙ (ap (map call_in) (part_mine by (reverse past) e clock mine) ∙ map-append call_in (part by (reverse past) clock) ((length (reverse past), e) ∷ []))

made_other : (e : Entry) (past : List Entry) → e.caller ≢ clock → clock_made (e ∷ past) ≡ clock_made past
made_other e past ne = ap (calls_by clock) (reverse-append (e ∷ []) past) ∙ ap (map call_in) (part_other by (reverse past) e clock ne)

-- the past of a good with an entry more
pub past_there : (pasts : List (List Entry)) (good other : ℕ) (e : Entry) → good < length pasts → good ≡ other → past_at (with_entry pasts good e) other ≡ e ∷ past_at pasts other
past_there pasts good other e inside is =
    subst (λ (g : ℕ). past_at (with_entry pasts good e) g ≡ e ∷ past_at pasts g) is (get_or-set_same pasts good (e ∷ past_at pasts good) [] inside)

pub past_elsewhere : (pasts : List (List Entry)) (good other : ℕ) (e : Entry) → good ≢ other → past_at (with_entry pasts good e) other ≡ past_at pasts other
past_elsewhere pasts good other e ne = get_or-set_other pasts good other (e ∷ past_at pasts good) [] (λ is. ne (sym is))

-- an agent's call
pub agent_made : (game : GameFile) (state : GameState) (agent good other : ℕ) (call : Call) → agent ≤ 7 → good < length state.pasts →
    clock_made (past_at (called game agent good call state).pasts other) ≡ clock_made (past_at state.pasts other)
agent_made game state agent good other call low inside =
    let e : Entry = entry_at game state.pasts agent good call in
    let mine : e.caller ≡ agent = entry_caller (setup_of good game) (past_at state.pasts good) agent call in
    dite (ℕ_discrete good other)
    (λ is. ap clock_made (past_there state.pasts good other e inside is) ∙ made_other e (past_at state.pasts other) (λ clocks. absurd (omega (arith, clocks, mine, low))))
    (λ ne. ap clock_made (past_elsewhere state.pasts good other e ne))

-- a call of the clock
clock_called : (game : GameFile) (state : GameState) (good other : ℕ) (call : Call) → good < length state.pasts →
    clock_made (past_at (called game clock good call state).pasts other) ≡ clock_made (past_at state.pasts other) ++ cond (good == other) (call ∷ []) []
clock_called game state good other call inside =
    let e : Entry = entry_at game state.pasts clock good call in
    let asked : e.call ≡ call = entry_call (setup_of good game) (past_at state.pasts good) clock call in
    let old : List Call = clock_made (past_at state.pasts other) in
    dite (ℕ_discrete good other)
    (λ is. ap clock_made (past_there state.pasts good other e inside is) ∙ (made_mine e (past_at state.pasts other) (entry_caller (setup_of good game) (past_at state.pasts good) clock call)
    ∙ (ap (λ (c : Call). old ++ c ∷ []) asked
    ∙ sym (ap (λ (b : Bool). old ++ cond b (call ∷ []) []) (eq-eqb good other is)))))
    (λ ne. ap clock_made (past_elsewhere state.pasts good other e ne) ∙ (sym (append-nil old) ∙ sym (ap (λ (b : Bool). old ++ cond b (call ∷ []) []) (ne_eqb good other ne))))

first_of_good : (good other : ℕ) (call : Call) (calls : List (ℕ × Call)) → calls_of_good ((good, call) ∷ calls) other ≡ cond (good == other) (call ∷ []) [] ++ calls_of_good calls other
first_of_good good other call calls = by_test (good == other)
  where
    by_test : (b : Bool) → map (λ (c : ℕ × Call). c.1) (cond b ((good, call) ∷ filter (λ c. c.0 == other) calls) (filter (λ c. c.0 == other) calls)) ≡ cond b (call ∷ []) [] ++ calls_of_good calls other
    by_test true = refl
    by_test false = refl

-- a call is of a good
abbrev pub IsOfGood : ℕ × Call → Type 0
IsOfGood call = call.0 ≤ 27

-- calls of the clock in order
pub clocked_made : (game : GameFile) (calls : List (ℕ × Call)) (state : GameState) (other : ℕ) → AllByRecursion IsOfGood calls → length state.pasts ≡ 28 →
    clock_made (past_at (clocked game calls state).pasts other) ≡ clock_made (past_at state.pasts other) ++ calls_of_good calls other
clocked_made game [] state other low count = sym (append-nil (clock_made (past_at state.pasts other)))
clocked_made game ((good, call) ∷ calls) state other low count =
    let there : good ≤ 27 = low.0 in
    let long = length-set state.pasts good (entry_at game state.pasts clock good call ∷ past_at state.pasts good) in
    clocked_made game calls (called game clock good call state) other low.1 (long ∙ count)
    ∙ (ap (λ (l : List Call). l ++ calls_of_good calls other) (clock_called game state good other call (omega (arith, there, count)))
    ∙ (append_assoc (clock_made (past_at state.pasts other)) (cond (good == other) (call ∷ []) []) (calls_of_good calls other)
    ∙ ap (λ (l : List Call). clock_made (past_at state.pasts other) ++ l) (sym (first_of_good good other call calls))))

-- ---- a tick

due_low : (tick good : ℕ) (call : Call) → IsFor tick good call → good ≤ 27
due_low tick good (Bid points) is = absurd is
due_low tick good Withdraw is = absurd is
due_low tick good Own is = absurd is
due_low tick good (Update at draw) is = omega (arith, is.2)
due_low tick good Publish is = omega (arith, is.1)
due_low tick good Close is = is

pub tick_low : (game : GameFile) (tick : ℕ) → All (IsDueCall tick) (calls_at game tick) → AllByRecursion IsOfGood (calls_at game tick)
tick_low game tick due = recursion_from_All IsOfGood (calls_at game tick) (All-weaker (IsDueCall tick) IsOfGood (λ call is. due_low tick call.0 call.1 is) (calls_at game tick) due)

-- the calls of a good at one tick more
pub until_next : (game : GameFile) (n good : ℕ) → n < 54 → calls_until game n good ++ calls_of_good (calls_at game (n + 1)) good ≡ calls_until game (n + 1) good
until_next game n good few =
    let before : (n + 1) - 1 ≡ n = omega arith in
    let all : flat_map (calls_at game) (take n ticks) ++ calls_at game (n + 1) ≡ flat_map (calls_at game) (take (n + 1) ticks) =
    ap (λ (k : ℕ). flat_map (calls_at game) (take k ticks) ++ calls_at game (n + 1)) (sym before) ∙ tick_done game (n + 1) (omega arith) (omega (arith, few)) in
    let of : ℕ × Call → Bool = λ call. call.0 == good in
    sym (map-append (λ (call : ℕ × Call). call.1) (filter of (flat_map (calls_at game) (take n ticks))) (filter of (calls_at game (n + 1))))
    ∙ (ap (map (λ (call : ℕ × Call). call.1)) (sym (filter-append of (flat_map (calls_at game) (take n ticks)) (calls_at game (n + 1))))
    ∙ ap (λ (l : List (ℕ × Call)). calls_of_good l good) all)
