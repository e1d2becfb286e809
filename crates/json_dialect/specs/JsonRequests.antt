-- What a JSON line requests. The forms are our own; serde_json's definition of reading determines the value of a line.
use Rattle.std.specs.Prelude.{ℕ, suc, ◌==◌, nat_le, if◌then◌else◌, List, [], ℤ, pos, negsuc, unsigned_abs, Option, Some, None, Result, Ok, Err, codes, option_and_then, bytes_eq}
use Rattle.std.specs.Str.{is_utf8}
use Rattle.serde_json.specs.Data.{Data, Items, no_items, item, Members, no_members, member}
use Rattle.serde_json.specs.Read.{read}
use Rattle.serde_json.specs.Find.{as_array, as_i64, as_number, as_object, as_str, get_member}
use Rattle.tac_base.specs.declared.bids.Point.{Point}
use Rattle.bid_strings.specs.BidForm.{point_then, judged, paired}
use Rattle.line_protocol.specs.declared.asking.Request.{Request}
use Rattle.line_protocol.specs.declared.asking.RequestFault.{RequestFault}
use Rattle.line_protocol.specs.Requests.{read_good, with_points}
use Rattle.line_protocol.specs.declared.asking.Request.TheVariants as requests
use Rattle.line_protocol.specs.declared.asking.RequestFault.TheVariants as faults
use Rattle.text_forms.specs.Steps.{◌>>=◌}

-- the value that serde_json reads from a line; bytes that are not UTF-8 have none
abbrev pub value_of : List ℕ → Option Data
value_of line = if is_utf8 line then read line else None

-- ---- numbers

-- the value as a whole number, if it is one of 64 bits
abbrev pub whole : Data → Option ℤ
whole value = option_and_then as_i64 (as_number value)

-- a number, if it is at least 0 and at most a limit
abbrev pub json_at_most : ℕ → ℤ → Option ℕ
json_at_most limit (pos n) = if nat_le n limit then Some n else None
json_at_most limit (negsuc n) = None

-- a whole number in 0..99999
abbrev pub json_number : Data → Option ℕ
json_number value = option_and_then (json_at_most 99999) (whole value)

-- the number, if it is in -99999..99999
abbrev pub small : ℤ → Option ℤ
small units = if nat_le (unsigned_abs units) 99999 then Some units else None

-- a whole number in -99999..99999
abbrev pub signed_number_of : Data → Option ℤ
signed_number_of value = option_and_then small (whole value)

-- ---- points

-- a point is an array of two numbers, its units and its price
abbrev pub point_of_items : Items → Option Point
point_of_items no_items = None
point_of_items (item units no_items) = None
point_of_items (item units (item price no_items)) = paired (signed_number_of units) (json_number price)
point_of_items (item units (item price (item more items))) = None

-- the point of a value, if it is one
abbrev pub json_point : Data → Option Point
json_point value = option_and_then point_of_items (as_array value)

-- the points of the items of an array, if each is one
abbrev pub json_points_from : Items → Option (List Point)
json_points_from no_items = Some []
json_points_from (item point points) = point_then (json_point point) (json_points_from points)

-- the points of an array
abbrev pub json_points : Data → Option (List Point)
json_points value = option_and_then json_points_from (as_array value)

-- ---- objects

-- how many members there are
abbrev pub count_members : Members → ℕ
count_members no_members = 0
count_members (member key value members) = suc (count_members members)

-- the request about an auction that the word at `do` gives
abbrev pub about : List ℕ → Option Data → Result Request RequestFault
about word None = Err faults.Syntax
about word (Some auction) =
    if bytes_eq word (codes "withdraw") then (read_good (json_number auction) >>= λ good. Ok (requests.Withdraw good))
    else if bytes_eq word (codes "own") then (read_good (json_number auction) >>= λ good. Ok (requests.Own good))
    else if bytes_eq word (codes "quote") then (read_good (json_number auction) >>= λ good. Ok (requests.Quote good))
    else Err faults.Syntax

-- the request of the word `bid`, with an auction and points
abbrev pub bid : List ℕ → Option Data → Option Data → Result Request RequestFault
bid word None points = Err faults.Syntax
bid word (Some auction) None = Err faults.Syntax
bid word (Some auction) (Some points) =
    if bytes_eq word (codes "bid") then (read_good (json_number auction) >>= λ good. with_points good (judged (json_points points)))
    else Err faults.Syntax

-- the request of a word that needs no more: `cash` or `quit`
abbrev pub plain : List ℕ → Result Request RequestFault
plain word =
    if bytes_eq word (codes "cash") then Ok requests.Cash
    else if bytes_eq word (codes "quit") then Ok requests.Quit
    else Err faults.Syntax

-- the request of an object with this many members and this word at `do`: it has no other key, or `auction`, or `auction` and `points`
abbrev pub asked_by : List ℕ → ℕ → Option Data → Option Data → Result Request RequestFault
asked_by word count auction points =
    if count == 1 then plain word
    else if count == 2 then about word auction
    else if count == 3 then bid word auction points
    else Err faults.Syntax

-- the request of an object with this word at `do`, if it has one
abbrev pub asked_with : Option (List ℕ) → Members → Result Request RequestFault
asked_with None _ = Err faults.Syntax
asked_with (Some word) members = asked_by word (count_members members) (get_member (codes "auction") members) (get_member (codes "points") members)

-- the request of an object, if the value is one
abbrev pub asked_by_object : Option Members → Result Request RequestFault
asked_by_object None = Err faults.Syntax
asked_by_object (Some found) = asked_with (option_and_then as_str (get_member (codes "do") found)) found

-- the request of a value; a line without one is no request
-- Row: forms_of_a_request (worked_rows/proofs/Json.antt)
abbrev pub asked_by_value : Option Data → Result Request RequestFault
asked_by_value None = Err faults.Syntax
asked_by_value (Some value) = asked_by_object (as_object value)

-- what a line requests, or its first fault
unfoldable pub asks_json : List ℕ → Result Request RequestFault
asks_json line = asked_by_value (value_of line)
