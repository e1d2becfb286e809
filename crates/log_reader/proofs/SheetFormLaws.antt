-- The lines of a sheet are read as they are spelled.
use Rattle.std.proofs.Common.{◌≡◌, ℕ, ◌^◌, ◌≤◌, ◌<◌, true, false, cond, ◌&&◌, eqb, List, [], ◌∷◌, ◌++◌, Some, None, length, map, get_or, refl, sym, ap, ◌∙◌, subst, arith, ℤ, pos, negsuc, inl, inr, eq-eqb, eqb-true, codes, unsigned_abs, slice_index, bytes_eq}
use Rattle.std.specs.Fmt.{signed_decimal}
use Rattle.std.specs.List.{AllByRecursion}
use Rattle.std.proofs.lemmas.Int.{ints}
use Rattle.std.proofs.lemmas.Bool.Decides.{nat_tests}
use Rattle.std.proofs.lemmas.Option.{cond_some, same_Some}
use Rattle.tac_base.proofs.NumeralLaws.{both_true}
use Rattle.tac_base.proofs.Signed.{Lacks}
use Rattle.log_reader.specs.{text_of, within, is_in, all_in, row_text, Package, is_night, is_package, IsPackage, Tree, tree_lines, read_numbers, number_at, amount_column, any_column, score_columns, read_score, trip_columns, trip_in, checked, read_trip, package_of, read_count}
use Rattle.text_forms.proofs.Columns.{IsIn, in_column, in_from, is_within, in_within}
use Rattle.text_forms.proofs.RowLaws.{is_same}
use Rattle.packages.specs.declared.travel_packages.Package.TheVariants as packages
use Rattle.packages.proofs.Found.{IsFound, ranges_of}
use Rattle.line_protocol.proofs.JoinedWords.{lacks, same_or_not}
use Rattle.line_protocol.proofs.Numbers.{bound, either_way, is_word}
use Rattle.log_text.specs.{package_line, cert_line, IsNumber, IsShownPackage}
use Rattle.log_text.proofs.Cuts.{IsWord, line_lacks}
use Rattle.log_text.proofs.Trades.{known_word}
use Rattle.log_text.proofs.Histories.{signed_are}
use Rattle.log_text.proofs.ShownNumbers.{number_is}
use Rattle.log_text.proofs.SheetsAgain.{is_word_package, none_words, none_line, none_are, trip_numbers, three_nights, trip_are, not_none}
use Rattle.log_reader.proofs.RowForms.{numbers_is, numbers_again, Within, columns_of, each_within, two_numbers}

-- ---- scores

abbrev pub score_body : ℕ → ℕ → ℤ → ℕ → ℤ → List ℕ
score_body agent best cash short score = row_text (codes "score") (pos agent ∷ pos best ∷ cash ∷ pos short ∷ score ∷ [])

amount_few : (z : ℤ) → IsIn amount_column z → unsigned_abs z < 10 ^ 18
amount_few (pos n) is = let high = is.high in omega (arith, ints, high)
amount_few (negsuc n) is = let low = is.low in omega (arith, ints, low)

amount_again : (z : ℤ) → unsigned_abs z < 10 ^ 18 → is_in amount_column z ≡ true
amount_again (pos n) few = in_from amount_column (pos n) (omega (arith, ints)) (omega (arith, ints, few))
amount_again (negsuc n) few = in_from amount_column (negsuc n) (omega (arith, ints, few)) (omega (arith, ints))

-- what the numbers of a score are
record AreScore (numbers : List ℤ) : Type 0 where
  whole : row_text (codes "score") numbers ≡ score_body (number_at numbers 0) (number_at numbers 1) (get_or numbers 2 (pos 0)) (number_at numbers 3) (get_or numbers 4 (pos 0))
  best : number_at numbers 1 ≤ 14000
  cash : unsigned_abs (get_or numbers 2 (pos 0)) < 10 ^ 18
  short : number_at numbers 3 ≤ 4294967295
  score : unsigned_abs (get_or numbers 4 (pos 0)) < 10 ^ 18

score_numbers : (numbers : List ℤ) → length numbers ≡ 5 → all_in score_columns numbers ≡ true → AreScore numbers
score_numbers [] count h = absurd (omega (arith, count))
score_numbers (a ∷ []) count h = absurd (omega (arith, count))
score_numbers (a ∷ b ∷ []) count h = absurd (omega (arith, count))
score_numbers (a ∷ b ∷ c ∷ []) count h = absurd (omega (arith, count))
score_numbers (a ∷ b ∷ c ∷ d ∷ []) count h = absurd (omega (arith, count))
score_numbers (a ∷ b ∷ c ∷ d ∷ e ∷ []) count h =
    let one = both_true (is_in (within 0 7) a) (is_in (within 0 14000) b && (is_in amount_column c && (is_in any_column d && (is_in amount_column e && true)))) h in
    let two = both_true (is_in (within 0 14000) b) (is_in amount_column c && (is_in any_column d && (is_in amount_column e && true))) one.1 in
    let three = both_true (is_in amount_column c) (is_in any_column d && (is_in amount_column e && true)) two.1 in
    let four = both_true (is_in any_column d) (is_in amount_column e && true) three.1 in
    let five = both_true (is_in amount_column e) true four.1 in
    let agent = is_within 0 7 a one.0 in
    let best = is_within 0 14000 b two.0 in
    let short = is_within 0 4294967295 d four.0 in
    record {
      whole = λ i. row_text (codes "score") (agent.same i ∷ best.same i ∷ c ∷ short.same i ∷ e ∷ []);
      best = best.most;
      cash = amount_few c (in_column amount_column c three.0);
      short = short.most;
      score = amount_few e (in_column amount_column e five.0);
    }
score_numbers (a ∷ b ∷ c ∷ d ∷ e ∷ f ∷ more) count h = absurd (omega (arith, count))

-- the line of a score in its ranges
pub record IsScoreLine (agent : ℕ) (line : List ℕ) (best : ℕ) (cash : ℤ) (short : ℕ) (score : ℤ) : Type 0 where
  pub text : line ≡ score_body agent best cash short score
  pub best_range : best ≤ 14000
  pub cash_range : unsigned_abs cash < 10 ^ 18
  pub short_range : short ≤ 4294967295
  pub score_range : unsigned_abs score < 10 ^ 18

abbrev made_score : List ℤ → ℕ × ℤ × ℕ × ℤ
made_score numbers = (number_at numbers 1, get_or numbers 2 (pos 0), number_at numbers 3, get_or numbers 4 (pos 0))

pub score_is : (agent : ℕ) (line : List ℕ) (s : ℕ × ℤ × ℕ × ℤ) → read_score agent line ≡ Some s → IsScoreLine agent line s.0 s.1 s.2 s.3
unfolding read_score
score_is agent line s h =
    let b = bound (read_numbers (codes "score") score_columns line) (λ numbers. cond (eqb (number_at numbers 0) agent) (Some (made_score numbers)) None) s h in
    let r = numbers_is (codes "score") score_columns line b.0 b.1 in
    let are = score_numbers b.0 r.count r.range in
    let c = cond_some (eqb (number_at b.0 0) agent) (made_score b.0) s b.2 in
    subst (λ (x : ℕ × ℤ × ℕ × ℤ). IsScoreLine agent line x.0 x.1 x.2 x.3) c.1 (record {
      text = r.text ∙ are.whole ∙ ap (λ (a : ℕ). score_body a (number_at b.0 1) (get_or b.0 2 (pos 0)) (number_at b.0 3) (get_or b.0 4 (pos 0))) (eqb-true (number_at b.0 0) agent c.0);
      best_range = are.best;
      cash_range = are.cash;
      short_range = are.short;
      score_range = are.score;
    })

pub score_again : (agent best : ℕ) (cash : ℤ) (short : ℕ) (score : ℤ) → agent ≤ 7 → best ≤ 14000 → unsigned_abs cash < 10 ^ 18 → short ≤ 4294967295 → unsigned_abs score < 10 ^ 18 →
    read_score agent (score_body agent best cash short score) ≡ Some (best, cash, short, score)
unfolding read_score
score_again agent best cash short score low few paid lacking total =
    let read = numbers_again (codes "score") score_columns (pos agent ∷ pos best ∷ cash ∷ pos short ∷ score ∷ []) (lacks 32 (codes "score") refl) refl refl
    (rw (in_within 0 7 agent (omega arith) low, in_within 0 14000 best (omega arith) few, amount_again cash paid, in_within 0 4294967295 short (omega arith) lacking, amount_again score total) refl) in
    rw (read, eq-eqb agent agent refl) refl

-- ---- packages

abbrev byte_range : ℕ × ℕ
byte_range = (0, 255)

abbrev trip_ranges : List (ℕ × ℕ)
trip_ranges = byte_range ∷ byte_range ∷ byte_range ∷ byte_range ∷ byte_range ∷ byte_range ∷ byte_range ∷ byte_range ∷ []

trip_text : (numbers : List ℤ) → Within trip_ranges numbers → row_text (codes "package") numbers ≡ package_line (number_at numbers 0) (number_at numbers 1) (trip_in numbers)
trip_text [] h = absurd h
trip_text (a ∷ []) h = absurd h.1
trip_text (a ∷ b ∷ []) h = absurd h.1.1
trip_text (a ∷ b ∷ c ∷ []) h = absurd h.1.1.1
trip_text (a ∷ b ∷ c ∷ d ∷ []) h = absurd h.1.1.1.1
trip_text (a ∷ b ∷ c ∷ d ∷ e ∷ []) h = absurd h.1.1.1.1.1
trip_text (a ∷ b ∷ c ∷ d ∷ e ∷ f ∷ []) h = absurd h.1.1.1.1.1.1
trip_text (a ∷ b ∷ c ∷ d ∷ e ∷ f ∷ g ∷ []) h = absurd h.1.1.1.1.1.1.1
trip_text (a ∷ b ∷ c ∷ d ∷ e ∷ f ∷ g ∷ k ∷ []) h =
    λ i. row_text (codes "package") (h.0.same i ∷ h.1.0.same i ∷ h.1.1.0.same i ∷ h.1.1.1.0.same i ∷ h.1.1.1.1.0.same i ∷ h.1.1.1.1.1.0.same i ∷ h.1.1.1.1.1.1.0.same i ∷ h.1.1.1.1.1.1.1.0.same i ∷ [])
trip_text (a ∷ b ∷ c ∷ d ∷ e ∷ f ∷ g ∷ k ∷ l ∷ more) h = absurd h.1.1.1.1.1.1.1.1

trip_is : (agent client : ℕ) (line : List ℕ) (p : Package) → read_trip agent client line ≡ Some p → (line ≡ package_line agent client p) × IsPackage p
trip_is agent client line p h =
    let b = bound (read_numbers (codes "package") trip_columns line) (λ numbers. cond (eqb (number_at numbers 0) agent && eqb (number_at numbers 1) client) (checked (trip_in numbers)) None) p h in
    let r = numbers_is (codes "package") trip_columns line b.0 b.1 in
    let text = trip_text b.0 (each_within trip_ranges b.0 r.count r.range) in
    elim (either_way (eqb (number_at b.0 0) agent && eqb (number_at b.0 1) client) (checked (trip_in b.0)) None p b.2) [
      | inl is ↦
          let both = both_true (eqb (number_at b.0 0) agent) (eqb (number_at b.0 1) client) is.0 in
          let c = cond_some (is_package (trip_in b.0)) (trip_in b.0) p is.1 in (
            r.text ∙ text ∙ (λ i. package_line (eqb-true (number_at b.0 0) agent both.0 i) (eqb-true (number_at b.0 1) client both.1 i) (c.1 i)),
            subst IsPackage c.1 c.0,
          )
      | inr e ↦ absurd cc
    ]

pub package_is : (agent client : ℕ) (line : List ℕ) (p : Package) → package_of agent client line ≡ Some p → (line ≡ package_line agent client p) × IsPackage p
unfolding package_of
package_is agent client line p h =
    elim (either_way (bytes_eq line (package_line agent client packages.None)) (Some packages.None) (read_trip agent client line) p h) [
      | inl is ↦ subst (λ (x : Package). (line ≡ package_line agent client x) × IsPackage x) (same_Some packages.None p is.1) (is_word line (package_line agent client packages.None) is.0, refl)
      | inr other ↦ trip_is agent client line p other
    ]

-- the numbers of a trip have eight bits
record AreBytes (hotel arrive depart : ℕ) (nights : List ℕ) : Type 0 where
  hotel_byte : hotel ≤ 255
  arrive_byte : arrive ≤ 255
  depart_byte : depart ≤ 255
  first_byte : slice_index nights 0 ≤ 255
  second_byte : slice_index nights 1 ≤ 255
  third_byte : slice_index nights 2 ≤ 255

small_night : (arrive depart night : ℕ) → depart < 6 → is_night arrive depart night ≡ true → night ≤ 255
small_night arrive depart night lt h = grind (arith, nat_tests)

bytes_of : (hotel arrive depart : ℕ) (nights : List ℕ) → IsFound hotel arrive depart nights → AreBytes hotel arrive depart nights
bytes_of hotel arrive depart [] found = absurd (let three = found.three in omega (arith, three))
bytes_of hotel arrive depart (x ∷ []) found = absurd (let three = found.three in omega (arith, three))
bytes_of hotel arrive depart (x ∷ y ∷ []) found = absurd (let three = found.three in omega (arith, three))
bytes_of hotel arrive depart (x ∷ y ∷ z ∷ []) found =
    let first = both_true (is_night arrive depart x) (is_night arrive depart y && (is_night arrive depart z && true)) found.stays in
    let second = both_true (is_night arrive depart y) (is_night arrive depart z && true) first.1 in
    let third = both_true (is_night arrive depart z) true second.1 in
    let which = found.hotel_in in
    let from = found.arrive_in in
    let to = found.depart_in in
    record {
      hotel_byte = omega (arith, which);
      arrive_byte = omega (arith, from);
      depart_byte = omega (arith, to);
      first_byte = small_night arrive depart x to first.0;
      second_byte = small_night arrive depart y to second.0;
      third_byte = small_night arrive depart z to third.0;
    }
bytes_of hotel arrive depart (x ∷ y ∷ z ∷ w ∷ more) found = absurd (let three = found.three in omega (arith, three))

trip_range : (agent client hotel arrive depart : ℕ) (nights : List ℕ) → agent ≤ 7 → client ≤ 7 → AreBytes hotel arrive depart nights → all_in trip_columns (trip_numbers agent client hotel arrive depart nights) ≡ true
trip_range agent client hotel arrive depart nights low small are =
    rw (
      in_within 0 255 agent (omega arith) (omega (arith, low)),
      in_within 0 255 client (omega arith) (omega (arith, small)),
      in_within 0 255 hotel (omega arith) are.hotel_byte,
      in_within 0 255 arrive (omega arith) are.arrive_byte,
      in_within 0 255 depart (omega arith) are.depart_byte,
      in_within 0 255 (slice_index nights 0) (omega arith) are.first_byte,
      in_within 0 255 (slice_index nights 1) (omega arith) are.second_byte,
      in_within 0 255 (slice_index nights 2) (omega arith) are.third_byte,
    ) refl

trip_shown : (hotel arrive depart : ℕ) (nights : List ℕ) → IsFound hotel arrive depart nights → IsShownPackage (packages.Trip hotel arrive depart nights)
trip_shown hotel arrive depart nights found =
    let are = bytes_of hotel arrive depart nights found in (
      byte hotel are.hotel_byte,
      byte arrive are.arrive_byte,
      byte depart are.depart_byte,
      record {
        count = found.three;
        first = byte (slice_index nights 0) are.first_byte;
        second = byte (slice_index nights 1) are.second_byte;
        third = byte (slice_index nights 2) are.third_byte;
      },
    )
  where
    byte : (n : ℕ) → n ≤ 255 → IsNumber n
    byte n le = omega (arith, le)

trip_words : (agent client hotel arrive depart : ℕ) (nights : List ℕ) → agent ≤ 7 → client ≤ 7 → IsFound hotel arrive depart nights →
    AllByRecursion IsWord (codes "package" ∷ map signed_decimal (trip_numbers agent client hotel arrive depart nights))
trip_words agent client hotel arrive depart nights low small found =
    (is_word_package, signed_are (trip_numbers agent client hotel arrive depart nights) (trip_are agent client hotel arrive depart nights (omega (arith, low)) (omega (arith, small)) (trip_shown hotel arrive depart nights found)))

pub package_again : (agent client : ℕ) (p : Package) → agent ≤ 7 → client ≤ 7 → IsPackage p → package_of agent client (package_line agent client p) ≡ Some p
unfolding package_of
package_again agent client packages.None low small is = rw (is_same (package_line agent client packages.None)) refl
package_again agent client (packages.Trip hotel arrive depart nights) low small is =
    let found = ranges_of hotel arrive depart nights is in
    let numbers = trip_numbers agent client hotel arrive depart nights in
    let line = row_text (codes "package") numbers in
    let read = numbers_again (codes "package") trip_columns numbers (lacks 32 (codes "package") refl) refl refl (trip_range agent client hotel arrive depart nights low small (bytes_of hotel arrive depart nights found)) in
    let three = three_nights nights found.three in
    let packed : is_package (packages.Trip hotel arrive depart (slice_index nights 0 ∷ slice_index nights 1 ∷ slice_index nights 2 ∷ [])) ≡ true = subst (λ (ns : List ℕ). is_package (packages.Trip hotel arrive depart ns) ≡ true) three is in
    let differ : bytes_eq line (package_line agent client packages.None) ≡ false = elim (same_or_not line (package_line agent client packages.None)) [
      | inl same ↦ absurd (not_none agent client numbers [] [] (omega (arith, low)) (omega (arith, small)) refl (trip_words agent client hotel arrive depart nights low small found) (ap (λ (t : List ℕ). (t ++ 10 ∷ []) ++ []) (sym same)))
      | inr other ↦ other
    ]
    in
    rw (differ, read, eq-eqb agent agent refl, eq-eqb client client refl, packed) (ap (λ (ns : List ℕ). Some (packages.Trip hotel arrive depart ns)) (sym three))

-- ---- certificates

-- the bytes of a certificate after the line before it
abbrev pub agents_cert_text : ℕ → Tree → List ℕ
agents_cert_text agent tree = text_of (cert_line agent (length (tree_lines tree)) ∷ tree_lines tree)

abbrev pub count_body : ℕ → ℕ → List ℕ
count_body agent count = row_text (codes "cert") (pos agent ∷ pos count ∷ [])

pub count_is : (agent : ℕ) (line : List ℕ) (count : ℕ) → read_count agent line ≡ Some count → (line ≡ count_body agent count) × (count ≤ 4294967295)
unfolding read_count
count_is agent line count h =
    let ranges = (0, 7) ∷ (0, 4294967295) ∷ [] in
    let b = bound (read_numbers (codes "cert") (columns_of ranges) line) (λ numbers. cond (eqb (number_at numbers 0) agent) (Some (number_at numbers 1)) None) count h in
    let r = numbers_is (codes "cert") (columns_of ranges) line b.0 b.1 in
    let two = two_numbers 0 7 0 4294967295 b.0 (each_within ranges b.0 r.count r.range) in
    let c = cond_some (eqb (number_at b.0 0) agent) (number_at b.0 1) count b.2 in (
      r.text ∙ ap (row_text (codes "cert")) two.whole ∙ (λ i. count_body (eqb-true (number_at b.0 0) agent c.0 i) (c.1 i)),
      subst (λ (n : ℕ). n ≤ 4294967295) c.1 two.second,
    )

pub count_again : (agent count : ℕ) → agent ≤ 7 → count ≤ 4294967295 → read_count agent (count_body agent count) ≡ Some count
unfolding read_count
count_again agent count low few =
    let columns = columns_of ((0, 7) ∷ (0, 4294967295) ∷ []) in
    let read = numbers_again (codes "cert") columns (pos agent ∷ pos count ∷ []) (lacks 32 (codes "cert") refl) refl refl (rw (in_within 0 7 agent (omega arith) low, in_within 0 4294967295 count (omega arith) few) refl) in
    rw (read, eq-eqb agent agent refl) refl

-- ---- no line end within a line

pub package_lacks : (agent client : ℕ) (p : Package) → agent ≤ 7 → client ≤ 7 → IsPackage p → Lacks 10 (package_line agent client p)
package_lacks agent client packages.None low small is = subst (Lacks 10) (sym (none_line agent client)) (line_lacks (none_words agent client) (none_are agent client (omega (arith, low)) (omega (arith, small))))
package_lacks agent client (packages.Trip hotel arrive depart nights) low small is =
    line_lacks (codes "package" ∷ map signed_decimal (trip_numbers agent client hotel arrive depart nights)) (trip_words agent client hotel arrive depart nights low small (ranges_of hotel arrive depart nights is))

pub score_lacks : (agent best : ℕ) (cash : ℤ) (short : ℕ) (score : ℤ) → agent ≤ 7 → best ≤ 14000 → unsigned_abs cash < 10 ^ 18 → short ≤ 4294967295 → unsigned_abs score < 10 ^ 18 →
    Lacks 10 (score_body agent best cash short score)
score_lacks agent best cash short score low few paid lacking total =
    let numbers = pos agent ∷ pos best ∷ cash ∷ pos short ∷ score ∷ [] in
    line_lacks (codes "score" ∷ map signed_decimal numbers) (
      known_word (codes "score") refl refl,
      signed_are numbers (number_is agent (omega (arith, low)), (number_is best (omega (arith, few)), (omega (arith, paid), (number_is short lacking, (omega (arith, total), tt))))),
    )
