-- Which hotel scripts are run, and what their run writes.
use Rattle.std.specs.Prelude.{ℕ, ◌==◌, nat_le, if◌then◌else◌, List, [], ◌∷◌, ◌++◌, length, map, count_by, replicate, pos, Result, Ok, Err, false, flat_map}
use Rattle.script_run.specs.Prelude.{AGENTS, AUCTION_ENTRIES, Setup, Entry, past_of, cap, trade_line}
use Rattle.auction_rules.specs.declared.rules.Rules.TheVariants.{Hotel as HotelRules}
use Rattle.script_run.specs.declared.fault.ScriptReason.{ScriptReason}
use Rattle.script_run.specs.declared.fault.ScriptReason.TheVariants.{TooMany, TooManyOfCaller}
use Rattle.script_run.specs.declared.hotel.lines.HotelLine.{HotelLine}
use Rattle.script_run.specs.ScriptLines.{BadLine, lines_of_text}
use Rattle.script_run.specs.HotelLines.{hotel_line_of, asked}
use Rattle.script_run.specs.Replies.{positioned_reply_line}

-- the number of lines of the caller
abbrev pub count_of_caller : List HotelLine → ℕ → ℕ
count_of_caller lines caller = count_by (λ line. (asked line).0 == caller) lines

-- a line after others, unless it is one too many: of the script, or of its caller
abbrev pub limited_hotel_line : List HotelLine → HotelLine → Result HotelLine ScriptReason
limited_hotel_line lines line =
    if nat_le AUCTION_ENTRIES (length lines) then Err TooMany
    else if nat_le (cap (asked line).0) (count_of_caller lines (asked line).0) then Err TooManyOfCaller
    else Ok line

-- what was read of a line after others, if it is allowed there
abbrev pub judged_hotel_line : List HotelLine → Result HotelLine ScriptReason → Result HotelLine ScriptReason
judged_hotel_line lines (Err reason) = Err reason
judged_hotel_line lines (Ok line) = limited_hotel_line lines line

-- what a line after others requests, or the first reason why it is bad
abbrev pub judge_hotel_line : List HotelLine → List ℕ → Result HotelLine ScriptReason
judge_hotel_line lines line = judged_hotel_line lines (hotel_line_of line)

-- the lines of a hotel script, the last line first, or the first bad line
abbrev pub script_of : List ℕ → Result (List HotelLine) BadLine
script_of text = lines_of_text judge_hotel_line text

-- the hotel of a script: the first night of Shoreline Shanties with 16 rooms, quotes that are not live and no endowments
abbrev pub one_hotel : Setup
one_hotel = record { good = 8; rules = HotelRules 16 false; endow = replicate AGENTS (pos 0) }

-- the history of a script's lines, the newest entry first
abbrev pub script_past : List HotelLine → List Entry
script_past lines = past_of one_hotel (map asked lines)

-- what is written of an entry at a position: the line of its reply, and then the lines of its trades
abbrev pub hotel_entry_text : ℕ → Entry → List ℕ
hotel_entry_text position e = positioned_reply_line position e.reply ++ flat_map trade_line e.trades

-- what is written of a history
abbrev pub past_text : List Entry → List ℕ
past_text [] = []
past_text (e ∷ past) = past_text past ++ hotel_entry_text (length past) e

-- what is written of a script
abbrev pub hotel_out : List HotelLine → List ℕ
hotel_out lines = past_text (script_past lines)
