-- The lines of the hotel nights are read in their ranges as they were printed, and printed as they were read.
use Rattle.std.proofs.Common.{◌≡◌, ◌⊎◌, inl, inr, ℕ, ◌≤◌, Bool, true, false, cond, eqb, List, [], ◌∷◌, ◌++◌, Ok, Err, length, map, drop, refl, sym, ap, ◌∙◌, subst, arith, pos, lit≤, codes, unsigned_abs, bytes_eq, eqb-true}
use Rattle.std.specs.List.{join_with_byte, AllByRecursion}
use Rattle.std.proofs.lemmas.List.{length-map}
use Rattle.std.proofs.lemmas.List.Splits.{join_with_byte-slice_split}
use Rattle.game_text.specs.{BadLine, Reason, Keyword, WordCount, Spelling, words_of, Remaining, all_in, row, row_text, AllBetween, ◌>>=◌, read_by, plain_nights, AreNights, room_columns, rooms_from, read_rooms, rooms_text, quotes_of_words, quotes_of, quotes_text, night_lines, nights_in}
use Rattle.text_forms.proofs.Columns.{abs_pos, columns_within, within_columns}
use Rattle.text_forms.proofs.RowLaws.{row_is, row_again, same_word}
use Rattle.text_forms.proofs.PrintedLines.{IsLine, ahead, lacks_from, row_line}
use Rattle.text_forms.proofs.Reading.{Took, took_then, took_line, bind_ok, ok_is, read_took}
use Rattle.game_text.specs.declared.hotel_nights.HotelNights.{HotelNights}
use Rattle.game_text.proofs.Choices.{passed}
use Rattle.game_text.proofs.Versions.{by_version}

-- ---- the rooms

-- rooms in their range
pub record AreRooms (rooms : List ℕ) : Type 0 where
  pub count : length rooms ≡ 8
  pub range : AllBetween 1 64 rooms

rooms_is : (line rooms : List ℕ) → read_rooms line ≡ Ok rooms → (line ≡ rooms_text rooms) × AreRooms rooms
unfolding read_rooms
rooms_is line rooms e =
    let a = bind_ok (row (codes "rooms") room_columns line) rooms_from rooms e in
    let numbers = a.0 in
    let r = row_is (codes "rooms") room_columns line numbers a.1 in
    let count = r.count in
    let w = columns_within 8 1 64 numbers (omega (arith, count)) r.range in
    subst (λ (f : List ℕ). (line ≡ rooms_text f) × AreRooms f) (ok_is {E = Reason} (map unsigned_abs numbers) rooms a.2)
    (r.text ∙ ap (row_text (codes "rooms")) w.same, record { count = omega (arith, count, length-map numbers unsigned_abs); range = w.range })

rooms_count : (rooms : List ℕ) → AreRooms rooms → length (map pos rooms) ≡ 8
rooms_count rooms are = omega (arith, length-map rooms pos, are.count)

rooms_range : (rooms : List ℕ) → AreRooms rooms → all_in room_columns (map pos rooms) ≡ true
rooms_range rooms are = within_columns 8 1 64 rooms (omega (arith, are.count)) are.range

rooms_again : (rooms : List ℕ) → AreRooms rooms → read_rooms (rooms_text rooms) ≡ Ok rooms
unfolding read_rooms
rooms_again rooms are =
    let read = row_again (codes "rooms") room_columns (map pos rooms) (lacks_from 32 (codes "rooms") refl) refl (rooms_count rooms are) (rooms_range rooms are) in
    rw (read, abs_pos rooms) refl

rooms_line : (rooms : List ℕ) → AreRooms rooms → IsLine 678 (rooms_text rooms)
rooms_line rooms are =
    let count = rooms_count rooms are in
    row_line 678 114 (codes "ooms") room_columns (map pos rooms) (lacks_from 10 (codes "rooms") refl) refl (omega (arith, count)) refl refl count (rooms_range rooms are)

-- ---- the quotes

which_quotes : (minute live : Bool) (is : Bool) → cond minute (Ok false) (cond live (Ok true) (Err Spelling)) ≡ Ok is → ((minute ≡ true) × (false ≡ is)) ⊎ ((live ≡ true) × (true ≡ is))
which_quotes true live is e = inl (refl, ok_is {E = Reason} false is e)
which_quotes false true is e = inr (refl, ok_is {E = Reason} true is e)
which_quotes false false is e = absurd cc

of_quotes : (word : List ℕ) (live : Bool) → ((bytes_eq word (codes "minute") ≡ true) × (false ≡ live)) ⊎ ((bytes_eq word (codes "live") ≡ true) × (true ≡ live)) → join_with_byte 32 (codes "quotes" ∷ word ∷ []) ≡ quotes_text live
of_quotes word live (inl p) = subst (λ (b : Bool). join_with_byte 32 (codes "quotes" ∷ word ∷ []) ≡ quotes_text b) p.1 (ap (λ (w : List ℕ). join_with_byte 32 (codes "quotes" ∷ w ∷ [])) (same_word word (codes "minute") p.0))
of_quotes word live (inr p) = subst (λ (b : Bool). join_with_byte 32 (codes "quotes" ∷ word ∷ []) ≡ quotes_text b) p.1 (ap (λ (w : List ℕ). join_with_byte 32 (codes "quotes" ∷ w ∷ [])) (same_word word (codes "live") p.0))

quotes_words : (words : List (List ℕ)) (live : Bool) → quotes_of_words words ≡ Ok live → join_with_byte 32 words ≡ quotes_text live
quotes_words [] live e = absurd cc
quotes_words (first ∷ []) live e = let a = passed (bytes_eq first (codes "quotes")) Keyword _ live e in absurd cc
quotes_words (first ∷ second ∷ []) live e =
    let a = passed (bytes_eq first (codes "quotes")) Keyword _ live e in
    let which = which_quotes (bytes_eq second (codes "minute")) (bytes_eq second (codes "live")) live a.1 in
    ap (λ (w : List ℕ). join_with_byte 32 (w ∷ second ∷ [])) (same_word first (codes "quotes") a.0) ∙ of_quotes second live which
quotes_words (first ∷ second ∷ third ∷ words) live e =
    let a = passed (bytes_eq first (codes "quotes")) Keyword _ live e in
    let b = passed (eqb (length (second ∷ third ∷ words)) 1) WordCount _ live a.1 in
    absurd (let n = eqb-true (length (second ∷ third ∷ words)) 1 b.0 in omega (arith, n))

quotes_is : (line : List ℕ) (live : Bool) → quotes_of line ≡ Ok live → line ≡ quotes_text live
unfolding quotes_of
quotes_is line live e = sym (join_with_byte-slice_split 32 line) ∙ quotes_words (words_of line) live e

quotes_again : (live : Bool) → quotes_of (quotes_text live) ≡ Ok live
unfolding quotes_of
quotes_again true = refl
quotes_again false = refl

quotes_line : (live : Bool) → IsLine 678 (quotes_text live)
quotes_line true = record { lacks = lacks_from 10 (codes "quotes live") refl; kept = refl; short = lit≤ tt }
quotes_line false = record { lacks = lacks_from 10 (codes "quotes minute") refl; kept = refl; short = lit≤ tt }

-- ---- both lines, or none

pub plain_are : AreNights 1 plain_nights
plain_are = record { count = refl; range = (columns_within 8 1 64 (map pos plain_nights.rooms) (lit≤ tt) refl).range; plain = λ first. refl }

abbrev IsTaken : ℕ → Type 0
IsTaken version = (left : Remaining) (x : HotelNights × Remaining) → nights_in version left ≡ Ok x → Took left (night_lines version x.0) x.1 × AreNights version x.0

none_taken : IsTaken 1
unfolding nights_in
none_taken left x e = subst (λ (y : HotelNights × Remaining). Took left [] y.1 × AreNights 1 y.0) (ok_is {E = BadLine} (plain_nights, left) x e) (record { parts = refl; same = refl }, plain_are)

both_taken : IsTaken 2
unfolding nights_in
both_taken left x e =
    let a = bind_ok (read_by read_rooms left) (λ rooms. read_by quotes_of rooms.1 >>= λ quotes. Ok (record { rooms = rooms.0; live = quotes.0 }, quotes.1)) x e in
    let b = bind_ok (read_by quotes_of a.0.1) (λ quotes. Ok (record { rooms = a.0.0; live = quotes.0 }, quotes.1)) x a.2 in
    let p = read_took read_rooms left a.0 a.1 in
    let s = rooms_is p.0 a.0.0 p.2 in
    let q = read_took quotes_of a.0.1 b.0 b.1 in
    subst (λ (y : HotelNights × Remaining). Took left (night_lines 2 y.0) y.1 × AreNights 2 y.0) (ok_is {E = BadLine} (record { rooms = a.0.0; live = b.0.0 }, b.0.1) x b.2) (
      took_then left (rooms_text a.0.0 ∷ []) a.0.1 (quotes_text b.0.0 ∷ []) b.0.1 (took_line left a.0.1 p.0 (rooms_text a.0.0) s.0 p.1) (took_line a.0.1 b.0.1 q.0 (quotes_text b.0.0) (quotes_is q.0 b.0.0 q.2) q.1),
      record { count = s.1.count; range = s.1.range; plain = λ first. absurd (omega (arith, first)) },
    )

pub nights_took : (version : ℕ) → 1 ≤ version → version ≤ 2 → (left : Remaining) (x : HotelNights × Remaining) → nights_in version left ≡ Ok x → Took left (night_lines version x.0) x.1 × AreNights version x.0
nights_took version low high = by_version IsTaken version low high none_taken both_taken

-- what is printed of the nights of a version is read again, whatever lines follow
abbrev AreRead : ℕ → Type 0
AreRead version = (nights : HotelNights) → AreNights version nights → (numbers : List ℕ) (more : List (List ℕ)) (after : Remaining) → (m : List ℕ) × (nights_in version (ahead numbers (night_lines version nights ++ more) after) ≡ Ok (nights, ahead m more after))

none_read : AreRead 1
unfolding nights_in
none_read nights are numbers more after = (numbers, ap (λ (n : HotelNights). Ok (n, ahead numbers more after)) (sym (are.plain refl)))

both_read : AreRead 2
unfolding nights_in
both_read nights are numbers more after = (drop 1 (drop 1 numbers), rw (rooms_again nights.rooms (record { count = are.count; range = are.range }), quotes_again nights.live) refl)

pub nights_again : (version : ℕ) → 1 ≤ version → version ≤ 2 → (nights : HotelNights) → AreNights version nights → (numbers : List ℕ) (more : List (List ℕ)) (after : Remaining)
    → (m : List ℕ) × (nights_in version (ahead numbers (night_lines version nights ++ more) after) ≡ Ok (nights, ahead m more after))
nights_again version low high = by_version AreRead version low high none_read both_read

-- they are lines, and at most two
pub nights_are_lines : (version : ℕ) → 1 ≤ version → version ≤ 2 → (nights : HotelNights) → AreNights version nights → AllByRecursion (IsLine 678) (night_lines version nights)
nights_are_lines version low high nights =
    by_version (λ v. AreNights v nights → AllByRecursion (IsLine 678) (night_lines v nights)) version low high (λ are. tt)
    (λ are. (rooms_line nights.rooms (record { count = are.count; range = are.range }), (quotes_line nights.live, tt)))

pub few_nights : (version : ℕ) → 1 ≤ version → version ≤ 2 → (nights : HotelNights) → length (night_lines version nights) ≤ 2
few_nights version low high nights = by_version (λ v. length (night_lines v nights) ≤ 2) version low high (lit≤ tt) (lit≤ tt)
