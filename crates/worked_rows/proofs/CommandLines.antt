-- Which words ask for a service, what the clock of one waited for, and what is written of outcomes.
use Rattle.std.proofs.Common.{◌≡◌, ℕ, suc, List, [], ◌∷◌, ◌++◌, length, take, Option, Some, None, map, refl, ap, ◌∙◌, arith, codes, replicate, ◌==◌}
use Rattle.std.specs.Fmt.{digits}
use Rattle.std.proofs.lemmas.List.Elements.{All-map}
use Rattle.tac_base.specs.Numerals.{numeral}
use Rattle.game_text.specs.Schedule.{ticks}
use Rattle.tac_io.specs.States.{TickWait, TickerState, SinkState}
use Rattle.tac_io.specs.Known.{known_then}
use Rattle.clock_events.specs.Clocking.{WaitsForAll}
use Rattle.tac_commands.specs.declared.services.Form.TheVariants.{Lines, Json}
use Rattle.tac_commands.specs.declared.refusals.Refusal.TheVariants as refusals
use Rattle.tac_commands.specs.Services.{service_of}
use Rattle.tac_commands.specs.Outcomes.{Done, Lapsed, Unsound, Stopped, Unread, Unwritten, Refused, exit_of}
use Rattle.tac_commands.specs.Reporting.{Reports}
use Rattle.worked_rows.proofs.Links.{counts_rise_or_stay, first_known}

-- no service: port 0, port 65536, a leading zero, pace 60001, no pace, and another form
services_have_a_port_a_pace_and_a_form :
    (service_of (codes "serve" ∷ codes "a.game" ∷ codes "7000" ∷ codes "10000" ∷ []) ≡ Some (record { game = codes "a.game"; port = 7000; pace = 10000; form = Lines }))
    × (service_of (codes "serve" ∷ codes "a.game" ∷ codes "1" ∷ codes "60000" ∷ codes "json" ∷ []) ≡ Some (record { game = codes "a.game"; port = 1; pace = 60000; form = Json }))
    × (map service_of (
    (codes "serve" ∷ codes "a.game" ∷ codes "0" ∷ codes "1" ∷ []) ∷ (codes "serve" ∷ codes "a.game" ∷ codes "65536" ∷ codes "1" ∷ [])
    ∷ (codes "serve" ∷ codes "a.game" ∷ codes "07000" ∷ codes "1" ∷ []) ∷ (codes "serve" ∷ codes "a.game" ∷ codes "1" ∷ codes "60001" ∷ [])
    ∷ (codes "serve" ∷ codes "a.game" ∷ codes "1" ∷ []) ∷ (codes "serve" ∷ codes "a.game" ∷ codes "1" ∷ codes "1" ∷ codes "xml" ∷ []) ∷ [])
    ≡ replicate 6 None)
unfolding numeral
services_have_a_port_a_pace_and_a_form = (refl, refl, refl)

-- a ticker at 500 milliseconds a tick
abbrev ticker : List TickWait → ℕ → TickerState
ticker waited faults = record { paced = Some (Some 500); waited = Some waited; faults = faults }

-- the wait for a tick at that pace: tick 7 lapsed, and was counted
abbrev wait : ℕ → TickWait
wait tick = record { tick = tick; lapsed = tick == 7; paced = Some (Some 500) }

abbrev waits : List TickWait
waits = map wait ticks

one_tick_lapsed : WaitsForAll (ticker [] 0) (ticker waits 1) 1
one_tick_lapsed = record {
  waits = waits;
  known = refl;
  all_ticks = refl;
  all_paced = All-map (λ (w : TickWait). w.paced ≡ Some (Some 500)) wait ticks (λ k d inside. refl);
  lapses = refl;
  rose = λ lapsed. counts_rise_or_stay.0;
  same = λ none. omega (arith, none);
  paced = refl;
}

codes_of_texts_and_refusals : (map exit_of (Done (codes "a") ∷ Lapsed (codes "a") ∷ Unsound (codes "a") ∷ Stopped (codes "a\n") refusals.Memory ∷ Unwritten (codes "a") ∷ Unread (codes "a\n") ∷ [])
    ≡ (0, codes "a") ∷ (6, codes "a") ∷ (9, codes "a") ∷ (7, codes "a\nmemory\n") ∷ (4, codes "a") ∷ (3, codes "a\nfault read\n") ∷ [])
    × (map (λ refusal. exit_of (Refused refusal)) (refusals.Usage ∷ refusals.GameLine 3 2 ∷ refusals.ReadFault ∷ refusals.LinkFault ∷ refusals.Memory ∷ [])
    ≡ (1, codes "usage\n") ∷ (2, codes "game 3 2\n") ∷ (3, codes "fault read\n") ∷ (5, codes "fault links\n") ∷ (7, codes "memory\n") ∷ [])
unfolding digits
codes_of_texts_and_refusals = (refl, refl)

-- a sink that took some bytes, and whose writes failed after so many bytes
abbrev sink : List ℕ → List ℕ → SinkState
sink taken failures = record { taken = Some taken; faults = length failures; failures = Some failures }

-- how many bytes are known
abbrev count_known : Option (List ℕ) → ℕ
count_known None = 0
count_known (Some bytes) = length bytes

text_is_written_with_its_code_or_cut : Reports (Lapsed (codes "ab")) (sink [] []) (sink (codes "ab") []) 6
    × Reports (Done (codes "ab")) (sink [] []) (sink (codes "a") (1 ∷ [])) 4
    × (Reports (Done (codes "ab")) (sink [] []) (sink (codes "a") []) 0 → ⊥)
    × (Reports (Done (codes "ab")) (sink [] []) (sink (codes "a") (0 ∷ [])) 4 → ⊥)
text_is_written_with_its_code_or_cut = (
  (refl, (refl, refl, refl)),
  (record { count = 1; proper = omega arith; taken = refl }, counts_rise_or_stay.0, refl),
  λ written. let e : ◌≡◌ {A = ℕ} 1 2 = ap count_known written.1.0 in omega (arith, e),
  λ cut. let e : ◌≡◌ {A = ℕ} 0 1 = ap first_known cut.2 in omega (arith, e),
)

replies_are_whole_before_a_failed_read_is_told : Reports (Unread (codes "ab\n")) (sink [] []) (sink (codes "ab\nfault read\n") []) 3
    × Reports (Unread (codes "ab\n")) (sink [] []) (sink (codes "ab\nfau") (6 ∷ [])) 4
    × (Reports (Unread (codes "ab\n")) (sink [] []) (sink (codes "a") (1 ∷ [])) 4 → ⊥)
replies_are_whole_before_a_failed_read_is_told = (
  (refl, (refl, refl, refl)),
  (sink (codes "ab\n") [], (refl, refl, refl), (record { count = 3; proper = omega arith; taken = refl }, counts_rise_or_stay.0, refl)),
  λ written. more_than_one written.0.taken written.1.0 written.2.0.count written.2.0.taken,
)
  where
    -- what was taken of the line comes after the whole reply
    more_than_one : (between : Option (List ℕ)) → between ≡ Some (codes "ab\n") → (count : ℕ) → Some (codes "a") ≡ known_then between (take count (codes "fault read\n")) → ⊥
    more_than_one between whole count taken =
        let behind : Some (codes "a") ≡ Some (codes "ab\n" ++ take count (codes "fault read\n")) = taken ∙ ap (λ known. known_then known (take count (codes "fault read\n"))) whole in
        let e : ◌≡◌ {A = ℕ} 1 (suc (suc (suc (length (take count (codes "fault read\n")))))) = ap count_known behind in
        omega (arith, e)
