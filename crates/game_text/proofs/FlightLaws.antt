-- The line of a flight is read in its ranges as it was printed, and printed as it was read.
use Rattle.std.proofs.Common.{◌≡◌, ℕ, ◌≤◌, true, ◌&&◌, eqb, List, [], ◌∷◌, Ok, length, map, drop, get_or, refl, sym, ap, ◌∙◌, subst, arith, ℤ, pos, negsuc, ◌≤ℤ◌, eq-eqb, to_z, of_z, w8, w32, Fits, codes, unsigned_abs, replicate, eqb-true, length-drop}
use Rattle.std.specs.List.{list_all}
use Rattle.std.proofs.lemmas.Int.{ints, to_z-of_z}
use Rattle.std.proofs.lemmas.List.{length-map}
use Rattle.std.proofs.lemmas.List.Elements.{All-from_get_or}
use Rattle.tac_base.proofs.NumeralLaws.{both_true}
use Rattle.game_text.specs.{NotDue, within, is_in, all_in, row, row_text, IsBetween, AllBetween, FlightTerms, IsFlight, any, bound_column, flight_columns, flight_from, flight_of, flight_numbers, flight_text}
use Rattle.text_forms.proofs.Columns.{IsIn, in_column, in_from, in_within, same_columns, abs_pos, IsWithin, is_within, AreWithin, columns_within, within_columns}
use Rattle.text_forms.proofs.RowLaws.{row_is, row_again}
use Rattle.text_forms.proofs.PrintedLines.{IsLine, lacks_from, row_line}
use Rattle.text_forms.proofs.Reading.{bind_ok}
use Rattle.game_text.proofs.Choices.{chosen}

-- the numbers of a row in their ranges
pub record IsFlightRow (numbers : List ℤ) : Type 0 where
  pub number : IsWithin 0 4294967295 (get_or numbers 0 (pos 0))
  pub first : IsWithin 250 400 (get_or numbers 1 (pos 0))
  pub bound : IsIn bound_column (get_or numbers 2 (pos 0))
  pub tested : list_all (λ number. is_in any number) (drop 3 numbers) ≡ true
  pub draws : AreWithin 0 4294967295 (drop 3 numbers)
  pub whole : numbers ≡ get_or numbers 0 (pos 0) ∷ get_or numbers 1 (pos 0) ∷ get_or numbers 2 (pos 0) ∷ drop 3 numbers

pub flight_row : (numbers : List ℤ) → length numbers ≡ 56 → all_in flight_columns numbers ≡ true → IsFlightRow numbers
flight_row [] len h = absurd (omega arith)
flight_row (a ∷ []) len h = absurd (omega arith)
flight_row (a ∷ b ∷ []) len h = absurd (omega arith)
flight_row (a ∷ b ∷ c ∷ draws) len h =
    let one = both_true (is_in any a) (is_in (within 250 400) b && (is_in bound_column c && all_in (replicate 53 any) draws)) h in
    let two = both_true (is_in (within 250 400) b) (is_in bound_column c && all_in (replicate 53 any) draws) one.1 in
    let three = both_true (is_in bound_column c) (all_in (replicate 53 any) draws) two.1 in
    record {
      number = is_within 0 4294967295 a one.0;
      first = is_within 250 400 b two.0;
      bound = in_column bound_column c three.0;
      tested = sym (same_columns 53 any draws (omega (arith, len))) ∙ three.1;
      draws = columns_within 53 0 4294967295 draws (omega (arith, len)) three.1;
      whole = refl;
    }

-- the terms of a row
abbrev pub terms : List ℤ → FlightTerms
terms numbers = record { first = unsigned_abs (get_or numbers 1 (pos 0)); bound = get_or numbers 2 (pos 0); draws = map unsigned_abs (drop 3 numbers) }

pub row_terms : (numbers : List ℤ) → length numbers ≡ 56 → IsFlightRow numbers → IsFlight (terms numbers)
row_terms numbers len row = record {
  first_low = row.first.least;
  first_high = row.first.most;
  bound_low = row.bound.low;
  bound_high = row.bound.high;
  count = omega (arith, length-map (drop 3 numbers) unsigned_abs, length-drop 3 numbers, len);
  draws = row.draws.range;
}

-- ---- a flight that is made

fitting_draws : (draws : List ℕ) → ((i : ℕ) → Fits w32 (get_or draws i 0)) → AllBetween 0 4294967295 draws
fitting_draws draws fits = All-from_get_or (IsBetween 0 4294967295) draws 0 (λ i lt. (omega arith, let fit = (fits i).fits in omega (arith, fit)))

pub made_flight : (first : ℕ) (bound : ℤ) (draws kept : List ℕ) → 250 ≤ first → first ≤ 400 → negsuc 9 ≤ℤ bound → bound ≤ℤ pos 30 → length draws ≡ 53 → ((i : ℕ) → Fits w32 (get_or draws i 0)) → kept ≡ draws
    → IsFlight (record { first = first; bound = to_z w8 (of_z w8 bound); draws = kept })
made_flight first bound draws kept first_low first_high bound_low bound_high count fits same =
    let stays : to_z w8 (of_z w8 bound) ≡ bound = to_z-of_z w8 bound (search (arith, ints)) in
    rw (stays, same) (record { first_low = first_low; first_high = first_high; bound_low = bound_low; bound_high = bound_high; count = count; draws = fitting_draws draws fits })

-- ---- the line

pub flight_is : (good : ℕ) (line : List ℕ) (flight : FlightTerms) → flight_of good line ≡ Ok flight → (line ≡ flight_text good flight) × IsFlight flight
unfolding flight_of
flight_is good line flight e =
    let a = bind_ok (row (codes "flight") flight_columns line) (flight_from good) flight e in
    let numbers = a.0 in
    let r = row_is (codes "flight") flight_columns line numbers a.1 in
    let c = chosen (eqb (unsigned_abs (get_or numbers 0 (pos 0))) good) (terms numbers) NotDue flight a.2 in
    let row = flight_row numbers r.count r.range in
    let due : get_or numbers 0 (pos 0) ≡ pos good = row.number.same ∙ ap pos (eqb-true _ _ c.0) in
    let same : numbers ≡ flight_numbers good (terms numbers) =
    row.whole
    ∙ ap (λ (z : ℤ). z ∷ get_or numbers 1 (pos 0) ∷ get_or numbers 2 (pos 0) ∷ drop 3 numbers) due
    ∙ ap (λ (z : ℤ). pos good ∷ z ∷ get_or numbers 2 (pos 0) ∷ drop 3 numbers) row.first.same
    ∙ ap (λ (zs : List ℤ). pos good ∷ pos (unsigned_abs (get_or numbers 1 (pos 0))) ∷ get_or numbers 2 (pos 0) ∷ zs) row.draws.same
    in
    subst (λ (f : FlightTerms). (line ≡ flight_text good f) × IsFlight f) c.1 (r.text ∙ ap (row_text (codes "flight")) same, row_terms numbers r.count row)

flight_count : (good : ℕ) (flight : FlightTerms) → IsFlight flight → length (flight_numbers good flight) ≡ 56
flight_count good flight is = omega (arith, length-map flight.draws pos, is.count)

flight_range : (good : ℕ) (flight : FlightTerms) → good ≤ 255 → IsFlight flight → all_in flight_columns (flight_numbers good flight) ≡ true
flight_range good flight small is =
    rw (
      in_within 0 4294967295 good (omega arith) (omega arith),
      in_within 250 400 flight.first is.first_low is.first_high,
      in_from bound_column flight.bound is.bound_low is.bound_high,
    ) (within_columns 53 0 4294967295 flight.draws (omega (arith, is.count)) is.draws)

pub flight_again : (good : ℕ) (flight : FlightTerms) → good ≤ 255 → IsFlight flight → flight_of good (flight_text good flight) ≡ Ok flight
unfolding flight_of
flight_again good flight small is =
    let read = row_again (codes "flight") flight_columns (flight_numbers good flight) (lacks_from 32 (codes "flight") refl) refl (flight_count good flight is) (flight_range good flight small is) in
    rw (read, eq-eqb good good refl, abs_pos flight.draws) refl

-- a line of a flight has at most 678 bytes
pub flight_line : (good : ℕ) (flight : FlightTerms) → good ≤ 255 → IsFlight flight → IsLine 678 (flight_text good flight)
flight_line good flight small is =
    let count = flight_count good flight is in
    row_line 678 102 (codes "light") flight_columns (flight_numbers good flight) (lacks_from 10 (codes "flight") refl) refl (omega (arith, count)) refl refl count (flight_range good flight small is)
