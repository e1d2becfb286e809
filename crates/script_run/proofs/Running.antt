-- A script's lines, read one after the other.
use Rattle.std.proofs.Common.{◌≡◌, ℕ, suc, ◌<◌, List, [], ◌∷◌, ◌++◌, length, map, reverse, refl, sym, ap, ◌∙◌, subst, arith, Bool, true, false, cond, Some, ◌==◌, nat_le, slice_get, Result, Ok, Err}
use Rattle.std.proofs.lemmas.Bool.Decides.{nat_tests}
use Rattle.std.proofs.lemmas.List.{reverse-append, reverse-reverse, length-reverse}
use Rattle.std.proofs.lemmas.List.Sums.{sum_by-cons, sum_by_push}
use Rattle.script_run.specs.{parts_of, Trade, Entry, cap, entries_of, entry_of, part, AuctionHistory, asked, count_of_caller, judged_hotel_line, judge_hotel_line, one_hotel, script_past, hotel_entry_text, hotel_out, hotel_called, HasRunHotel, RunsHotelLine, RunsLines}
use Rattle.auction_rules.proofs.Histories.{entry_caller}
use Rattle.auction_core.proofs.Counting.{length-part}
use Rattle.script_run.specs.declared.hotel.lines.HotelLine.{HotelLine}
use Rattle.script_run.specs.declared.hotel.run.HotelRun.{HotelRun}
use Rattle.script_run.specs.declared.fault.ScriptReason.{ScriptReason}
use Rattle.script_run.specs.declared.fault.ScriptReason.TheVariants.{TooMany, TooManyOfCaller}
use Rattle.script_run.specs.declared.fault.ScriptFault.{ScriptFault}
use Rattle.script_run.specs.declared.fault.ScriptFault.TheVariants.{Line, TooLong, Failed, Memory}
use Rattle.script_run.proofs.ScriptReading.{HasRead, stops}

-- some lines of a script were run
pub record IsRunning (script rest : List ℕ) (run : HotelRun) : Type 0 where
  pub lines : List HotelLine
  pub number : ℕ
  pub ran : HasRunHotel lines run
  pub read : HasRead judge_hotel_line lines script rest number

-- a script's history has an entry for each line
pub length-script_past : (lines : List HotelLine) → length (script_past lines) ≡ length lines
length-script_past [] = refl
length-script_past (line ∷ lines) = ap suc (length-script_past lines)

-- ---- the auction of some lines

-- a line within the limits leaves its caller a call
pub has_room : (lines : List HotelLine) (read : Result HotelLine ScriptReason) (line : HotelLine) → judged_hotel_line lines read ≡ Ok line → count_of_caller lines (asked line).0 < cap (asked line).0
has_room lines (Err reason) line good = absurd cc
has_room lines (Ok first) line good = by_tests (nat_le 8256 (length lines)) (nat_le (cap (asked first).0) (count_of_caller lines (asked first).0)) refl good
  where
    below : (n m : ℕ) → nat_le n m ≡ false → m < n
    below n m h = grind (arith, nat_tests)

    by_tests : (a b : Bool) → nat_le (cap (asked first).0) (count_of_caller lines (asked first).0) ≡ b → ◌≡◌ {A = Result HotelLine ScriptReason} (cond a (Err TooMany) (cond b (Err TooManyOfCaller) (Ok first))) (Ok line) →
        count_of_caller lines (asked line).0 < cap (asked line).0
    by_tests true b is h = absurd cc
    by_tests false true is h = absurd cc
    by_tests false false is h =
        let same : first ≡ line = cc in
        subst (λ (l : HotelLine). count_of_caller lines (asked l).0 < cap (asked l).0) same (below (cap (asked first).0) (count_of_caller lines (asked first).0) is)

past_more : (line : HotelLine) (lines : List HotelLine) →
    reverse (script_past (line ∷ lines)) ≡ reverse (script_past lines) ++ entry_of one_hotel (script_past lines) (asked line).0 (asked line).1 ∷ []
past_more line lines = reverse-append (entry_of one_hotel (script_past lines) (asked line).0 (asked line).1 ∷ []) (script_past lines)

-- a script's history has a caller's entries for its lines
entries_script : (lines : List HotelLine) (caller : ℕ) → entries_of (reverse (script_past lines)) caller ≡ count_of_caller lines caller
entries_script [] caller = refl
entries_script (line ∷ lines) caller =
    let e : Entry = entry_of one_hotel (script_past lines) (asked line).0 (asked line).1 in
    ap (λ (h : List Entry). entries_of h caller) (past_more line lines)
    ∙ (sum_by_push (λ (x : Entry). cond (x.caller == caller) 1 0) (reverse (script_past lines)) e
    ∙ (let ih = entries_script lines caller in
    let own = ap {B = ℕ} (λ (c : ℕ). cond (c == caller) 1 0) (entry_caller one_hotel (script_past lines) (asked line).0 (asked line).1) in
    let more = sum_by-cons (λ (l : HotelLine). cond ((asked l).0 == caller) 1 0) line lines in
    omega (arith, ih, own, more)))

pub part_script : (lines : List HotelLine) (history : List Entry) (caller : ℕ) → history ≡ reverse (script_past lines) → length (part (λ (e : Entry). e.caller) history caller) ≡ count_of_caller lines caller
part_script lines history caller ran = length-part history caller ∙ (ap (λ (h : List Entry). entries_of h caller) ran ∙ entries_script lines caller)

pub length-script : (lines : List HotelLine) (history : List Entry) → history ≡ reverse (script_past lines) → length history ≡ length lines
length-script lines history ran = ap length ran ∙ (length-reverse (script_past lines) ∙ length-script_past lines)

-- ---- one line more

module _ (lines : List HotelLine) (line : HotelLine) (before : AuctionHistory) (hotel : before.setup ≡ one_hotel) (ran : before.history ≡ reverse (script_past lines)) where
  new_entry : entry_of before.setup (reverse before.history) (asked line).0 (asked line).1 ≡ entry_of one_hotel (script_past lines) (asked line).0 (asked line).1
  new_entry = λ i. entry_of (hotel i) ((ap (λ (h : List Entry). reverse h) ran ∙ reverse-reverse (script_past lines)) i) (asked line).0 (asked line).1

  pub history_more : (after : AuctionHistory) → after ≡ hotel_called before (asked line) → (after.setup ≡ one_hotel) × (after.history ≡ reverse (script_past (line ∷ lines)))
  history_more after is = (
    ap (λ (a : AuctionHistory). a.setup) is ∙ hotel,
    ap (λ (a : AuctionHistory). a.history) is ∙ ((λ i. ran i ++ new_entry i ∷ []) ∙ sym (past_more line lines)),
  )

  pub text_more : (old new : List ℕ) (position : ℕ) → old ≡ hotel_out lines → position ≡ length lines →
      new ≡ old ++ hotel_entry_text position (entry_of before.setup (reverse before.history) (asked line).0 (asked line).1) → new ≡ hotel_out (line ∷ lines)
  text_more old new position wrote at is = is ∙ (λ i. wrote i ++ hotel_entry_text ((at ∙ sym (length-script_past lines)) i) (new_entry i))

-- ---- the trades of the newest entry

last_trades : (history : List Entry) (e : Entry) → slice_get (map (λ (x : Entry). x.trades) (history ++ e ∷ [])) (length history) ≡ Some e.trades
last_trades [] e = refl
last_trades (x ∷ history) e = last_trades history e

pub newest_trades : (history next : List Entry) (e : Entry) (position : ℕ) (trades : List Trade) → next ≡ history ++ e ∷ [] → position ≡ length history →
    slice_get (map (λ (x : Entry). x.trades) next) position ≡ Some trades → trades ≡ e.trades
newest_trades history next e position trades is at found =
    let there = (λ i. slice_get (map (λ (x : Entry). x.trades) (is i)) (at i)) ∙ last_trades history e in
    let same : Some trades ≡ Some e.trades = sym found ∙ there in cc

-- what a bad line makes of the whole script
pub fails : (script rest line after : List ℕ) (run run' : HotelRun) (fault : ScriptFault) (running : IsRunning script rest run) →
    parts_of 10 rest ≡ line ∷ parts_of 10 after → RunsHotelLine running.lines line run' (Err fault) → RunsLines script (Err fault)
fails script rest line after run run' (Line number reason) running e stepped =
    let why = stepped.0 in
    stops judge_hotel_line running.lines script rest line after running.number why running.read e stepped.3
    ∙ (λ i. Err ((running.read.at ∙ sym stepped.1) i, sym stepped.2 i))
fails script rest line after run run' TooLong running e stepped = stepped
fails script rest line after run run' Failed running e stepped = stepped
fails script rest line after run run' Memory running e stepped = tt
