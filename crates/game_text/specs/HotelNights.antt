-- The lines of the hotel nights, which only files of version 2 have: how many rooms each night has, and when its quote changes.
use Rattle.std.specs.Prelude.{◌≡◌, ℕ, ◌==◌, not, if◌then◌else◌, List, [], ◌∷◌, Bool, true, false, ℤ, pos, unsigned_abs, length, Result, Ok, Err, map, replicate, codes, slice_index_or, bytes_eq}
use Rattle.tac_base.specs.declared.limits.TheConstants.{NIGHT_ROOMS}
use Rattle.text_forms.specs.declared.lines.BadLine.{BadLine}
use Rattle.text_forms.specs.declared.lines.Reason.{Reason}
use Rattle.text_forms.specs.declared.lines.Reason.TheVariants.{Keyword, WordCount, Spelling}
use Rattle.text_forms.specs.declared.rows.Column.{Column}
use Rattle.text_forms.specs.Words.{words_of}
use Rattle.text_forms.specs.Lines.{Remaining}
use Rattle.text_forms.specs.Rows.{within, row, row_text, AllBetween}
use Rattle.text_forms.specs.Steps.{◌>>=◌, read_by}
use Rattle.game_text.specs.declared.hotel_nights.HotelNights.{HotelNights}

-- the nights of every game of version 1: 16 rooms each, and quotes that are not live
abbrev pub plain_nights : HotelNights
plain_nights = record { rooms = replicate 8 16; live = false }

-- the nights of a game of this version, in their ranges
pub record AreNights (version : ℕ) (nights : HotelNights) : Type 0 where
  pub count : length nights.rooms ≡ 8
  pub range : AllBetween 1 NIGHT_ROOMS nights.rooms
  pub plain : version ≡ 1 → nights ≡ plain_nights

-- ---- the rooms, by good 8..15

-- the rooms of each of goods 8 to 15, 1 to 64
abbrev pub room_columns : List Column
room_columns = replicate 8 (within 1 NIGHT_ROOMS)

-- the rooms in a row
abbrev pub rooms_from : List ℤ → Result (List ℕ) Reason
rooms_from numbers = Ok (map unsigned_abs numbers)

-- the rooms in a line, or the first reason that applies
unfoldable pub read_rooms : List ℕ → Result (List ℕ) Reason
read_rooms line = row (codes "rooms") room_columns line >>= rooms_from

-- the line of the rooms
abbrev pub rooms_text : List ℕ → List ℕ
rooms_text rooms = row_text (codes "rooms") (map pos rooms)

-- ---- the quotes: live or not

-- whether the word says that quotes are live
abbrev pub live_of : List ℕ → Result Bool Reason
live_of word =
    if bytes_eq word (codes "minute") then Ok false
    else if bytes_eq word (codes "live") then Ok true
    else Err Spelling

-- whether the words of a line say that quotes are live
abbrev pub quotes_of_words : List (List ℕ) → Result Bool Reason
quotes_of_words [] = Err Keyword
quotes_of_words (first ∷ words) =
    if not (bytes_eq first (codes "quotes")) then Err Keyword
    else if not (length words == 1) then Err WordCount
    else live_of (slice_index_or words 0 [])

-- whether the quotes in a line are live, or the first reason that applies
unfoldable pub quotes_of : List ℕ → Result Bool Reason
quotes_of line = quotes_of_words (words_of line)

-- the line of the quotes
abbrev pub quotes_text : Bool → List ℕ
quotes_text live = if live then codes "quotes live" else codes "quotes minute"

-- ---- both lines

-- the lines of the hotel nights in a file of this version
abbrev pub night_lines : ℕ → HotelNights → List (List ℕ)
night_lines version nights = if version == 2 then rooms_text nights.rooms ∷ quotes_text nights.live ∷ [] else []

-- the two lines of the nights in a file of version 2
abbrev pub stated_nights_in : Remaining → Result (HotelNights × Remaining) BadLine
stated_nights_in left = do
  rooms ← read_by read_rooms left
  quotes ← read_by quotes_of rooms.1
  Ok (record { rooms = rooms.0; live = quotes.0 }, quotes.1)

-- the nights of a file of this version, 1 or 2
unfoldable pub nights_in : ℕ → Remaining → Result (HotelNights × Remaining) BadLine
nights_in version left = if version == 2 then stated_nights_in left else Ok (plain_nights, left)
