-- A made script is good: it has few ticks and few lines of an agent, and nobody ends its session.
use Rattle.std.proofs.Common.{◌≡◌, ◌≢◌, ℕ, suc, ◌+◌, ◌-◌, ◌*◌, ◌<◌, ◌≤◌, Bool, true, false, not, cond, List, [], ◌∷◌, ◌++◌, length, None, Some, Result, Ok, Err, refl, sym, ap, subst, ◌∙◌, inl, inr, ◌⊎◌, lit<, arith, decimal, append_assoc, ◌==◌, ◌&&◌, nat_le, nat_lt, codes, count_by, unsigned_abs, ℤ, pos, negsuc, Option, flat_map, bytes_eq, length-append}
use Rattle.std.specs.Fmt.{signed_decimal}
use Rattle.std.specs.List.{AllByRecursion, join_with_byte}
use Rattle.std.proofs.lemmas.Bool.Decides.{nat_tests}
use Rattle.std.proofs.lemmas.Fmt.{decimal_digit, length-decimal-le}
use Rattle.std.proofs.lemmas.List.Concat.{flat_map-cons}
use Rattle.std.proofs.lemmas.List.Elements.{recursion_from_All}
use Rattle.std.proofs.lemmas.List.Sums.{sum_by-cons, count_by-le-length}
use Rattle.std.proofs.lemmas.Bool.{and_right}
use Rattle.tac_base.specs.declared.bids.Point.{Point}
use Rattle.tac_base.specs.declared.bids.BidFault.{BidFault}
use Rattle.tac_base.specs.Bids.{fault_of}
use Rattle.tac_commands.specs.Prelude.{numeral, text_of, RequestFault, ◌>>=◌, read_good, with_points, request_of_words, request_of, bid_line, is_tick, IsBidLine, IsBidScript, GameLine, Tick, Asks, is_tick_line, is_line_of, is_quit, quits, ticks_of, count_of_agent, has_quit, judged_game_line, judge_game_line, game_script, IsGoodScript, IsBadScript, then_lines, script_lines_from, TEXT_BYTES}
use Rattle.tac_base.proofs.Signed.{Lacks, decimal_lacks}
use Rattle.text_forms.specs.Words.{parts_of, words_of}
use Rattle.text_forms.proofs.Joins.{parts_more}
use Rattle.text_forms.proofs.PrintedLines.{lacks_from, join_lacks}
use Rattle.bid_strings.specs.BidForm.{points_of, judged as judged_points}
use Rattle.bid_strings.specs.Spelling.{point_words, spelling, HasFiveDigits}
use Rattle.bid_strings.proofs.PointWords.{left_word, right_word}
use Rattle.bid_strings.proofs.Laws.{points_lack, lawful_points}
use Rattle.log_text.proofs.Cuts.{lacks_append}
use Rattle.script_run.specs.declared.fault.ScriptReason.{ScriptReason}
use Rattle.script_run.specs.HotelLines.{agent_of}
use Rattle.script_run.specs.GameLines.{asks_of, request_line, game_line_of}
use Rattle.script_run.proofs.ScriptReading.{line_first}
use Rattle.tac_commands.proofs.Unambiguous.{not_both}

-- ---- the line of a bid

-- what is asked after the agent and a space
abbrev request : ℕ → Point → List ℕ
request good point = codes "bid " ++ (decimal good ++ 32 ∷ spelling (point ∷ []))

line_spelled : (agent good : ℕ) (point : Point) → agent ≤ 7 → bid_line agent good point ≡ (48 + agent) ∷ 32 ∷ request good point
line_spelled agent good point few = ap (λ (d : List ℕ). d ++ (codes " bid " ++ (decimal good ++ 32 ∷ spelling (point ∷ [])))) (decimal_digit agent (omega (arith, few)))

no_quit_by : (good : Result ℕ RequestFault) (read : Result (List Point) BidFault) → is_quit (good >>= λ g. with_points g read) ≡ false
no_quit_by (Err fault) read = refl
no_quit_by (Ok good) (Ok points) = refl
no_quit_by (Ok good) (Err fault) = refl

no_quit_words : (words : List (List ℕ)) → is_quit (request_of_words (codes "bid" ∷ words)) ≡ false
no_quit_words [] = refl
no_quit_words (number ∷ []) = refl
no_quit_words (number ∷ word ∷ words) = no_quit_by (read_good (numeral 5 number)) (judged_points (points_of (join_with_byte 32 (word ∷ words))))

no_quit : (good : ℕ) (point : Point) → is_quit (request_of (request good point)) ≡ false
unfolding request_of
no_quit good point =
    ap (λ (words : List (List ℕ)). is_quit (request_of_words words)) (parts_more 32 (codes "bid") (decimal good ++ 32 ∷ spelling (point ∷ [])) (lacks_from 32 (codes "bid") refl))
    ∙ no_quit_words (words_of (decimal good ++ 32 ∷ spelling (point ∷ [])))

agent_is : (agent : ℕ) → agent ≤ 7 → agent_of ((48 + agent) ∷ []) ≡ Some agent
agent_is agent few =
    let test : (nat_le 48 (48 + agent) && nat_le (48 + agent) 55) ≡ true = grind (arith, nat_tests) in
    let same : 48 + agent - 48 ≡ agent = omega arith in
    rw test (ap Some same)

asks : (agent : ℕ) (asked : List ℕ) → agent ≤ 7 → length asked ≤ 512 → request_line ((48 + agent) ∷ 32 ∷ asked) ≡ Ok (Asks agent (request_of asked))
asks agent asked few short =
    let test : nat_lt 512 (length asked) ≡ false = grind (arith, nat_tests) in
    ap (λ (a : Option ℕ). asks_of a asked) (agent_is agent few) ∙ rw test refl

no_tick : (agent : ℕ) (asked : List ℕ) → agent ≤ 7 → bytes_eq ((48 + agent) ∷ 32 ∷ asked) (codes "tick") ≡ false
no_tick agent asked few = grind (arith, nat_tests)

bid_asks : (agent good : ℕ) (point : Point) → agent ≤ 7 → length (request good point) ≤ 512 → game_line_of (bid_line agent good point) ≡ Ok (Asks agent (request_of (request good point)))
unfolding game_line_of
bid_asks agent good point few short =
    ap game_line_of (line_spelled agent good point few) ∙ rw (no_tick agent (request good point) few) (asks agent (request good point) few short)

tick_asks : game_line_of (codes "tick") ≡ Ok Tick
unfolding game_line_of
tick_asks = refl

-- ---- its bytes

spelled : (point : Point) → flat_map point_words (point ∷ []) ≡ left_word point ∷ right_word point ∷ []
spelled point = flat_map-cons point_words point []

digits : (point : Point) → fault_of (point ∷ []) ≡ None → AllByRecursion HasFiveDigits (point ∷ [])
digits point lawful = lawful_points 0 0 (point ∷ []) lawful

signed_short : (z : ℤ) → unsigned_abs z < 100000 → length (signed_decimal z) ≤ 6
signed_short (pos n) small = let len = length-decimal-le 5 n (lit< tt) small (omega (arith, small)) in omega (arith, len)
signed_short (negsuc n) small = let len = length-decimal-le 5 (suc n) (lit< tt) small (omega (arith, small)) in omega (arith, len)

request_short : (good : ℕ) (point : Point) → good ≤ 27 → fault_of (point ∷ []) ≡ None → length (request good point) ≤ 100
request_short good point few lawful =
    let five = (digits point lawful).0 in
    let units = signed_short point.units five.units in
    let price = length-decimal-le 5 point.price (lit< tt) five.price (omega (arith, five.price)) in
    let number = length-decimal-le 2 good (lit< tt) (omega (arith, few)) (omega (arith, few)) in
    let words = ap (λ (ws : List (List ℕ)). length (join_with_byte 32 ws)) (spelled point) in
    let joined = length-append (left_word point) (32 ∷ right_word point) in
    let right = length-append (decimal point.price) (41 ∷ []) in
    let closed = length-append (join_with_byte 32 (flat_map point_words (point ∷ []))) (41 ∷ []) in
    let both = length-append (decimal good) (32 ∷ spelling (point ∷ [])) in
    omega (arith, units, price, number, words, joined, right, closed, both)

spelling_lacks : (point : Point) → fault_of (point ∷ []) ≡ None → Lacks 10 (spelling (point ∷ []))
spelling_lacks point lawful =
    (refl, lacks_append 10 (join_with_byte 32 (flat_map point_words (point ∷ []))) (41 ∷ []) (join_lacks 10 (flat_map point_words (point ∷ [])) refl (points_lack 10 (lit< tt) (point ∷ []) (digits point lawful))) (refl, tt))

bid_lacks : (agent good : ℕ) (point : Point) → agent ≤ 7 → good ≤ 27 → fault_of (point ∷ []) ≡ None → Lacks 10 (bid_line agent good point)
bid_lacks agent good point few_agents few lawful =
    lacks_append 10 (decimal agent) (codes " bid " ++ (decimal good ++ 32 ∷ spelling (point ∷ []))) (decimal_lacks 10 agent (lit< tt) (omega (arith, few_agents)))
    (lacks_append 10 (codes " bid ") (decimal good ++ 32 ∷ spelling (point ∷ [])) (lacks_from 10 (codes " bid ") refl)
    (lacks_append 10 (decimal good) (32 ∷ spelling (point ∷ [])) (decimal_lacks 10 good (lit< tt) (omega (arith, few))) (refl, spelling_lacks point lawful)))

-- ---- a line of a made script

abbrev IsEither : List ℕ → Type 0
IsEither line = (line ≡ codes "tick") ⊎ IsBidLine line

line_lacks : (line : List ℕ) → IsEither line → Lacks 10 line
line_lacks line (inl tick) = subst (Lacks 10) (sym tick) (lacks_from 10 (codes "tick") refl)
line_lacks line (inr bid) = subst (Lacks 10) (sym bid.spelled) (bid_lacks bid.agent bid.good bid.point bid.one_of_agents bid.one_of_goods bid.lawful)

line_short : (line : List ℕ) → IsEither line → length line ≤ 200
line_short line (inl tick) = let len = ap length tick in omega (arith, len)
line_short line (inr bid) =
    let len = ap length (bid.spelled ∙ line_spelled bid.agent bid.good bid.point bid.one_of_agents) in
    let short = request_short bid.good bid.point bid.one_of_goods bid.lawful in
    omega (arith, len, short)

text_cons : (line : List ℕ) (lines : List (List ℕ)) → text_of (line ∷ lines) ≡ line ++ 10 ∷ text_of lines
text_cons line lines = flat_map-cons (λ l. l ++ 10 ∷ []) line lines ∙ append_assoc line (10 ∷ []) (text_of lines)

text_cut : (lines : List (List ℕ)) → AllByRecursion IsEither lines → parts_of 10 (text_of lines) ≡ lines ++ [] ∷ []
text_cut [] all = refl
text_cut (line ∷ lines) all =
    ap (parts_of 10) (text_cons line lines) ∙ parts_more 10 line (text_of lines) (line_lacks line all.0) ∙ ap (λ (ls : List (List ℕ)). line ∷ ls) (text_cut lines all.1)

text_short : (lines : List (List ℕ)) → AllByRecursion IsEither lines → length (text_of lines) ≤ 201 * length lines
text_short [] all = omega arith
text_short (line ∷ lines) all =
    let len = ap length (text_cons line lines) in
    let more = length-append line (10 ∷ text_of lines) in
    let first = line_short line all.0 in
    let rest = text_short lines all.1 in
    omega (arith, len, more, first, rest)

-- ---- all lines

quits_not : (agent asking good : ℕ) (point : Point) → quits agent (Asks asking (request_of (request good point))) ≡ false
quits_not agent asking good point = ap (λ (b : Bool). (asking == agent) && b) (no_quit good point) ∙ and_right (asking == agent) false refl

has_quit_more : (line : GameLine) (before : List GameLine) (agent : ℕ) → quits agent line ≡ false → has_quit before agent ≡ false → has_quit (line ∷ before) agent ≡ false
has_quit_more line before agent here there = rw (here, there) refl

-- what the next line asks, which may stand here
record IsNext (before : List GameLine) (line : List ℕ) (asked : GameLine) : Type 0 where
  good : judge_game_line before line ≡ Ok asked
  quiet : (agent : ℕ) → quits agent asked ≡ false
  ticks : ticks_of (asked ∷ before) ≡ ticks_of before + cond (is_tick line) 1 0

next_tick : (before : List GameLine) (line : List ℕ) → line ≡ codes "tick" → ticks_of before + cond (is_tick line) 1 0 ≤ 54 → IsNext before line Tick
next_tick before line is ticks =
    let one = ap {B = ℕ} (λ (l : List ℕ). cond (is_tick l) 1 0) is in
    let test : nat_le 54 (ticks_of before) ≡ false = grind (arith, nat_tests) in
    let more = sum_by-cons (λ (l : GameLine). cond (is_tick_line l) 1 0) Tick before in
    record {
      good = ap (judge_game_line before) is ∙ ap (judged_game_line before) tick_asks ∙ rw test refl;
      quiet = λ agent. refl;
      ticks = omega (arith, one, more);
    }

next_bid : (before : List GameLine) (line : List ℕ) → IsBidLine line → ((agent : ℕ) → has_quit before agent ≡ false) → length before < 65000 → (asked : GameLine) × IsNext before line asked
next_bid before line bid quiet few =
    let asked = Asks bid.agent (request_of (request bid.good bid.point)) in
    let short = request_short bid.good bid.point bid.one_of_goods bid.lawful in
    let read : game_line_of line ≡ Ok asked = ap game_line_of bid.spelled ∙ bid_asks bid.agent bid.good bid.point bid.one_of_agents (omega (arith, short)) in
    let all = count_by-le-length (is_line_of bid.agent) before in
    let test : nat_le 65536 (count_of_agent before bid.agent) ≡ false = grind (arith, nat_tests) in
    let no : is_tick line ≡ false = ap is_tick (bid.spelled ∙ line_spelled bid.agent bid.good bid.point bid.one_of_agents) ∙ no_tick bid.agent (request bid.good bid.point) bid.one_of_agents in
    let none = ap {B = ℕ} (λ (b : Bool). cond b 1 0) no in
    let more = sum_by-cons (λ (l : GameLine). cond (is_tick_line l) 1 0) asked before in (
      asked,
      record {
        good = ap (judged_game_line before) read ∙ rw (quiet bid.agent, test) refl;
        quiet = λ agent. quits_not agent bid.agent bid.good bid.point;
        ticks = omega (arith, none, more);
      },
    )

next : (before : List GameLine) (line : List ℕ) → IsEither line → ((agent : ℕ) → has_quit before agent ≡ false) → length before < 65000 → ticks_of before + cond (is_tick line) 1 0 ≤ 54 → (asked : GameLine) × IsNext before line asked
next before line (inl tick) quiet few ticks = (Tick, next_tick before line tick ticks)
next before line (inr bid) quiet few ticks = next_bid before line bid quiet few

some_left : (rest : List (List ℕ)) → length (rest ++ [] ∷ []) ≢ 0
some_left rest e = let len = length-append rest ([] ∷ []) in omega (arith, len, e)

reads : (rest : List (List ℕ)) (before : List GameLine) → AllByRecursion IsEither rest → ((agent : ℕ) → has_quit before agent ≡ false) → ticks_of before + count_by is_tick rest ≤ 54 →
    length before + length rest ≤ 65000 → (lines : List GameLine) × (script_lines_from judge_game_line before (rest ++ [] ∷ []) ≡ Ok lines)
reads [] before all quiet ticks few = (before, refl)
reads (line ∷ rest) before all quiet ticks few =
    let counted = sum_by-cons (λ (l : List ℕ). cond (is_tick l) 1 0) line rest in
    let one = next before line all.0 quiet (omega (arith, few)) (omega (arith, ticks, counted)) in
    let same = one.1.ticks in
    let others = reads rest (one.0 ∷ before) all.1 (λ agent. has_quit_more one.0 before agent (one.1.quiet agent) (quiet agent)) (omega (arith, ticks, counted, same)) (omega (arith, few)) in (
      others.0,
      line_first judge_game_line before line (rest ++ [] ∷ []) (some_left rest)
          ∙ (ap (λ (r : Result GameLine ScriptReason). then_lines (length before + 1) r (λ l. script_lines_from judge_game_line (l ∷ before) (rest ++ [] ∷ []))) one.1.good
          ∙ others.1),
    )

count_both : (test : List ℕ → Bool) (lines : List (List ℕ)) → count_by test lines + count_by (λ line. not (test line)) lines ≡ length lines
count_both test [] = refl
count_both test (line ∷ lines) =
    let yes = sum_by-cons (λ (l : List ℕ). cond (test l) 1 0) line lines in
    let others = sum_by-cons (λ (l : List ℕ). cond (not (test l)) 1 0) line lines in
    let ih = count_both test lines in
    let one = one_of (test line) in
    omega (arith, yes, others, ih, one)
  where
    one_of : (b : Bool) → cond b 1 0 + cond (not b) 1 0 ≡ 1
    one_of true = refl
    one_of false = refl

made_is_good : (count : ℕ) (text : List ℕ) → count ≤ 50000 → IsBidScript count text → (lines : List GameLine) × IsGoodScript text lines
made_is_good count text few script =
    let all = recursion_from_All IsEither script.lines script.either in
    let both = count_both is_tick script.lines in
    let ticks = script.ticks in
    let bids = script.bids in
    let read = reads script.lines [] all (λ agent. refl) (omega (arith, ticks)) (omega (arith, both, ticks, bids, few)) in
    let len = ap length script.in_lines in
    let short = text_short script.lines all in (
      read.0,
      record {
        within = omega (arith, len, short, both, ticks, bids, few);
        good = ap game_script script.in_lines ∙ (ap (script_lines_from judge_game_line []) (text_cut script.lines all) ∙ read.1);
      },
    )

-- so it has no bad line, and is not too long
pub not_bad : (count : ℕ) (text : List ℕ) (line reason : ℕ) → count ≤ 50000 → IsBidScript count text → IsBadScript text line reason → ⊥
not_bad count text line reason few script bad = let good = made_is_good count text few script in not_both (game_script text) good.0 (line, reason) good.1.good bad.bad

pub not_long : (count : ℕ) (text : List ℕ) → count ≤ 50000 → IsBidScript count text → TEXT_BYTES < length text → ⊥
not_long count text few script long = let good = made_is_good count text few script in let within = good.1.within in absurd (omega (arith, within, long))
