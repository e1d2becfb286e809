-- The calls of the quiet game.
use Rattle.std.proofs.Common.{◌≡◌, ℕ, false, [], ◌∷◌, length, map, slice_get, Some, None, pos, refl}
use Rattle.std.specs.List.{range_with_len}
use Rattle.tac_base.specs.declared.calls.Call.TheVariants.{Update, Publish, Close}
use Rattle.game_text.specs.QuietGames.{quiet_game}
use Rattle.game_text.specs.Flights.{FlightTerms}
use Rattle.game_text.specs.Schedule.{calls_at, clock_calls, open_after, schedule, update_of}
use Rattle.floor.specs.Steps.{CallMade, DueTaken, WaitsNoted}
use Rattle.tac_io.specs.States.{TickWait}
use Rattle.clock_events.specs.Steps.{steps_at, steps_over}

-- each draw is one more than the draw before it
abbrev rising : FlightTerms
rising = record { first = 300; bound = pos 10; draws = range_with_len 101 53 }

each_tick_has_its_own_draw : map (λ tick. update_of tick (3, rising)) (1 ∷ 2 ∷ 53 ∷ []) ≡ (3, Update 1 101) ∷ (3, Update 2 102) ∷ (3, Update 53 153) ∷ []
each_tick_has_its_own_draw = refl

flights_alone_are_updated_first : map (slice_get (calls_at quiet_game 1)) (0 ∷ 8 ∷ []) ≡ Some (0, Update 1 10) ∷ None ∷ []
unfolding quiet_game calls_at
flights_alone_are_updated_first = refl

first_hotel_closes_and_seven_publish : map (slice_get (calls_at quiet_game 6)) (8 ∷ 9 ∷ 15 ∷ 16 ∷ []) ≡ Some (8, Close) ∷ Some (9, Publish) ∷ Some (15, Publish) ∷ None ∷ []
unfolding quiet_game calls_at open_after
first_hotel_closes_and_seven_publish = refl

last_hotel_closes_alone : map (slice_get (calls_at quiet_game 48)) (8 ∷ 9 ∷ []) ≡ Some (15, Close) ∷ None ∷ []
unfolding quiet_game calls_at open_after
last_hotel_closes_alone = refl

tickets_close_after_the_flights : map (slice_get (calls_at quiet_game 54)) (8 ∷ 19 ∷ 20 ∷ []) ≡ Some (16, Close) ∷ Some (27, Close) ∷ None ∷ []
unfolding quiet_game calls_at
tickets_close_after_the_flights = refl

-- the third hotel to close publishes twice before
all_calls_and_those_of_two_goods : (length (schedule quiet_game) ≡ 480)
    × (clock_calls quiet_game 10 ≡ Publish ∷ Publish ∷ Close ∷ [])
    × (clock_calls quiet_game 20 ≡ Close ∷ [])
unfolding quiet_game calls_at open_after
all_calls_and_those_of_two_goods = (refl, refl, refl)

-- the due of tick 54 is taken, and then its 20 calls are made
each_tick_begins_with_its_due : (map (λ n. slice_get (steps_at 2 quiet_game 54) n) (0 ∷ 1 ∷ 20 ∷ 21 ∷ []) ≡ Some (DueTaken 2 54) ∷ Some (CallMade 0 Close) ∷ Some (CallMade 27 Close) ∷ None ∷ [])
unfolding quiet_game calls_at open_after
each_tick_begins_with_its_due = refl

abbrev half_a_second : ℕ → TickWait
half_a_second tick = record { tick = tick; lapsed = false; paced = Some (Some 500) }

-- the 8 updates of tick 53 are made before tick 54 is waited for
next_tick_is_waited_for_after_the_calls : map (λ n. slice_get (steps_over 2 quiet_game (Some []) (half_a_second 53 ∷ half_a_second 54 ∷ [])) n) (0 ∷ 8 ∷ 9 ∷ 10 ∷ 31 ∷ 32 ∷ [])
    ≡ Some (DueTaken 2 53) ∷ Some (CallMade 7 (Update 53 10)) ∷ Some (WaitsNoted (Some (half_a_second 53 ∷ []))) ∷ Some (DueTaken 2 54) ∷ Some (WaitsNoted (Some (half_a_second 53 ∷ half_a_second 54 ∷ []))) ∷ None ∷ []
unfolding quiet_game calls_at open_after
next_tick_is_waited_for_after_the_calls = refl
