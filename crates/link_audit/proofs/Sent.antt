-- What a session takes and sends, cut at its line ends.
use Rattle.std.proofs.Common.{◌≡◌, ℕ, zero, suc, ◌+◌, ◌<◌, ◌≤◌, List, [], ◌∷◌, ◌++◌, Bool, true, false, cond, map, length, take, drop, refl, sym, ap, ◌∙◌, subst, arith, ◌==◌, Result, if◌then◌else◌, flat_map, count_by, nat_le, append_assoc, length-append, take-append-drop}
use Rattle.std.specs.Prelude.{⊤}
use Rattle.std.specs.List.{AllByRecursion}
use Rattle.std.proofs.lemmas.List.{take-append-le}
use Rattle.std.proofs.lemmas.List.Sums.{sum_by-cons}
use Rattle.std.proofs.lemmas.List.Folds.{flat_map-map}
use Rattle.link_audit.specs.{LINE_BYTES, text_of, all_answers, ended_line, has_end, LineGot, Request, RequestFault, Said, Item, IsItem, AreItems, reply_line, Turn, said_of, whole_lines}
use Rattle.tac_io.specs.declared.line_got.LineGot.TheVariants as gots
use Rattle.tac_io.proofs.LineEnds.{no_end-front}
use Rattle.link_audit.proofs.Cuts.{whole_lines-line, whole_lines-none}
use Rattle.link_audit.proofs.Leading.{TheLine, first_line, other_lines}
use Rattle.link_audit.proofs.OneLines.{HasNoEnd}

-- ---- lines that were taken

-- a line that was read, or was too long
abbrev pub IsRead : TheLine → Type 0
IsRead (gots.Line, line) = ⊤
IsRead (gots.TooLong, line) = ⊤
IsRead (gots.End, line) = ⊥
IsRead (gots.Failed, line) = ⊥
IsRead (gots.Budget, line) = ⊥

is_read : (may_answer : List ℕ → Result Request RequestFault → Type 0) (got : LineGot) (line : List ℕ) (item : Item) → IsItem may_answer (got, line) item → IsRead (got, line)
is_read may_answer gots.Line line item is = tt
is_read may_answer gots.TooLong line item is = tt
is_read may_answer gots.End line item is = is
is_read may_answer gots.Failed line item is = is
is_read may_answer gots.Budget line item is = is

ended_read : (line : List ℕ) → (first_line (gots.End, []) (ended_line line ∷ [])).0 ≡ gots.Budget → ⊥
ended_read line is = by_test (nat_le (length line) LINE_BYTES) is
  where
    by_test : (b : Bool) → (first_line (gots.End, []) ((if b then (gots.Line, line) else (gots.TooLong, [])) ∷ [])).0 ≡ gots.Budget → ⊥
    by_test true h = cc
    by_test false h = cc

-- the lines that have items were read
pub items_read : (may_answer : List ℕ → Result Request RequestFault → Type 0) (lines : List TheLine) (items : List Item) → AreItems may_answer lines items → AllByRecursion IsRead lines
items_read may_answer [] items all = tt
items_read may_answer (line ∷ lines) [] all = absurd all
items_read may_answer (line ∷ lines) (item ∷ items) all = (is_read may_answer line.0 line.1 item all.0, items_read may_answer lines items all.1)

-- lines of first bytes are first lines of all bytes
pub answers_more : (before : List ℕ) (room : ℕ) (bytes more : List ℕ) (read rest : List TheLine) → AllByRecursion IsRead read → all_answers before room bytes ≡ read ++ rest
    → (later : List TheLine) × (all_answers before room (bytes ++ more) ≡ read ++ later)
answers_more before room bytes more [] rest are is = (all_answers before room (bytes ++ more), refl)
answers_more before zero bytes more (line ∷ read) rest are is = absurd (subst IsRead (sym (ap (first_line (gots.Budget, [])) is)) are.0)
answers_more before (suc room) [] more (line ∷ read) rest are is = absurd (subst IsRead (sym (ap (first_line (gots.End, [])) is)) are.0)
answers_more before (suc room) (byte ∷ bytes) more (line ∷ read) rest are is =
    by_test (byte == 10) is
    (λ h. answers_more [] room bytes more read rest are.1 h)
    (λ h. answers_more (before ++ byte ∷ []) room bytes more (line ∷ read) rest are h)
  where
    by_test : (b : Bool) → (if b then ended_line before ∷ all_answers [] room bytes else all_answers (before ++ byte ∷ []) room bytes) ≡ line ∷ (read ++ rest)
        → (all_answers [] room bytes ≡ read ++ rest → (later : List TheLine) × (all_answers [] room (bytes ++ more) ≡ read ++ later))
        → (all_answers (before ++ byte ∷ []) room bytes ≡ line ∷ (read ++ rest) → (later : List TheLine) × (all_answers (before ++ byte ∷ []) room (bytes ++ more) ≡ line ∷ (read ++ later)))
        → (later : List TheLine) × ((if b then ended_line before ∷ all_answers [] room (bytes ++ more) else all_answers (before ++ byte ∷ []) room (bytes ++ more)) ≡ line ∷ (read ++ later))
    by_test true h ended on =
        let first : ended_line before ≡ line = ap (first_line line) h in
        let found = ended (ap other_lines h) in
        (found.0, λ i. first i ∷ found.1 i)
    by_test false h ended on = on h

pub AreItems-length : (may_answer : List ℕ → Result Request RequestFault → Type 0) (lines : List TheLine) (items : List Item) → AreItems may_answer lines items → length lines ≡ length items
AreItems-length may_answer [] [] all = refl
AreItems-length may_answer [] (item ∷ items) all = absurd all
AreItems-length may_answer (line ∷ lines) [] all = absurd all
AreItems-length may_answer (line ∷ lines) (item ∷ items) all = let more = AreItems-length may_answer lines items all.1 in omega (arith, more)

abbrev is_end : ℕ → Bool
is_end byte = byte == 10

count_ends : (byte : ℕ) (bytes : List ℕ) → count_by is_end (byte ∷ bytes) ≡ cond (byte == 10) 1 0 + count_by is_end bytes
count_ends byte bytes = sum_by-cons (λ (b : ℕ). cond (is_end b) 1 0) byte bytes

-- lines that were read end in the bytes
pub ends_read : (before : List ℕ) (room : ℕ) (bytes : List ℕ) (read later : List TheLine) → AllByRecursion IsRead read → all_answers before room bytes ≡ read ++ later → length read ≤ count_by is_end bytes
ends_read before room bytes [] later are is = omega arith
ends_read before zero bytes (line ∷ read) later are is = absurd (subst IsRead (sym (ap (first_line (gots.Budget, [])) is)) are.0)
ends_read before (suc room) [] (line ∷ read) later are is = absurd (subst IsRead (sym (ap (first_line (gots.End, [])) is)) are.0)
ends_read before (suc room) (byte ∷ bytes) (line ∷ read) later are is =
    by_test (byte == 10) (count_ends byte bytes) is (λ h. ends_read [] room bytes read later are.1 h) (λ h. ends_read (before ++ byte ∷ []) room bytes (line ∷ read) later are h)
  where
    by_test : (b : Bool) → count_by is_end (byte ∷ bytes) ≡ cond b 1 0 + count_by is_end bytes
        → (if b then ended_line before ∷ all_answers [] room bytes else all_answers (before ++ byte ∷ []) room bytes) ≡ line ∷ (read ++ later)
        → (all_answers [] room bytes ≡ read ++ later → length read ≤ count_by is_end bytes)
        → (all_answers (before ++ byte ∷ []) room bytes ≡ line ∷ (read ++ later) → suc (length read) ≤ count_by is_end bytes)
        → suc (length read) ≤ count_by is_end (byte ∷ bytes)
    by_test true counted h ended on = let more = ended (ap other_lines h) in omega (arith, counted, more)
    by_test false counted h ended on = let more = on h in omega (arith, counted, more)

-- bytes after whose lines no more are taken fill the room
pub room_spent : (before : List ℕ) (room : ℕ) (bytes : List ℕ) (read : List TheLine) → AllByRecursion IsRead read → all_answers before room bytes ≡ read ++ (gots.Budget, []) ∷ [] → room ≤ length bytes
room_spent before zero bytes read are is = omega arith
room_spent before (suc room) [] [] are is = absurd (let kind : gots.End ≡ gots.Budget = ap (λ (l : List TheLine). (first_line (gots.End, []) l).0) is in cc)
room_spent before (suc room) [] (line ∷ read) are is = absurd (subst IsRead (sym (ap (first_line (gots.End, [])) is)) are.0)
room_spent before (suc room) (byte ∷ bytes) read are is =
    by_test (byte == 10) is (λ some h. room_spent [] room bytes some.0 some.1 h) (λ h. room_spent (before ++ byte ∷ []) room bytes read are h)
  where
    by_test : (b : Bool) → (if b then ended_line before ∷ all_answers [] room bytes else all_answers (before ++ byte ∷ []) room bytes) ≡ read ++ (gots.Budget, []) ∷ []
        → ((some : (lines : List TheLine) × AllByRecursion IsRead lines) → all_answers [] room bytes ≡ some.0 ++ (gots.Budget, []) ∷ [] → room ≤ length bytes)
        → (all_answers (before ++ byte ∷ []) room bytes ≡ read ++ (gots.Budget, []) ∷ [] → room ≤ length bytes)
        → suc room ≤ suc (length bytes)
    by_test false h ended on = let more = on h in omega (arith, more)
    by_test true h ended on = by_read read are h
      where
        by_read : (lines : List TheLine) → AllByRecursion IsRead lines → ended_line before ∷ all_answers [] room bytes ≡ lines ++ (gots.Budget, []) ∷ [] → suc room ≤ suc (length bytes)
        by_read [] none same = absurd (ended_read before (ap (λ (l : List TheLine). (first_line (gots.End, []) l).0) same))
        by_read (line ∷ lines) all same = let more = ended (lines, all.1) (ap other_lines same) in omega (arith, more)

-- the last of some items is that of the last line
pub last_item : (may_answer : List ℕ → Result Request RequestFault → Type 0) (f : Turn → Item) (lines : List TheLine) (turns : List Turn) (last : Turn) → AreItems may_answer lines (map f (turns ++ last ∷ []))
    → (first : List TheLine) × (line : TheLine) × (lines ≡ first ++ line ∷ []) × AreItems may_answer first (map f turns) × IsItem may_answer line (f last)
last_item may_answer f [] [] last all = absurd all
last_item may_answer f (line ∷ []) [] last all = ([], line, refl, tt, all.0)
last_item may_answer f (line ∷ next ∷ lines) [] last all = absurd all.1
last_item may_answer f [] (turn ∷ turns) last all = absurd all
last_item may_answer f (line ∷ lines) (turn ∷ turns) last all =
    let found = last_item may_answer f lines turns last all.1 in
    (line ∷ found.0, found.1, ap (λ (l : List TheLine). line ∷ l) found.2, (all.0, found.3), found.4)

-- ---- lines that were sent

-- lines, each with its end, are whole lines, and then come those of the rest
pub lines_whole : (lines : List (List ℕ)) (rest : List ℕ) → AllByRecursion HasNoEnd lines → whole_lines (text_of lines ++ rest) ≡ lines ++ whole_lines rest
lines_whole [] rest none = refl
lines_whole (line ∷ lines) rest none =
    let apart : text_of (line ∷ lines) ++ rest ≡ line ++ 10 ∷ (text_of lines ++ rest) = append_assoc (line ++ 10 ∷ []) (text_of lines) rest ∙ append_assoc line (10 ∷ []) (text_of lines ++ rest) in
    ap whole_lines apart ∙ (whole_lines-line [] line (text_of lines ++ rest) none.0 ∙ ap (λ (l : List (List ℕ)). line ∷ l) (lines_whole lines rest none.1))

module _ (text : Said → List ℕ) (one : (reply : Said) → HasNoEnd (text reply)) where
  replies_none : (turns : List Turn) → AllByRecursion HasNoEnd (map (λ turn. text (said_of turn)) turns)
  replies_none [] = tt
  replies_none (turn ∷ turns) = (one (said_of turn), replies_none turns)

  -- the welcome and replies were sent, and then a rest
  pub sent_whole : (welcome : List (List ℕ)) (turns : List Turn) (rest : List ℕ) → AllByRecursion HasNoEnd welcome
      → whole_lines ((text_of welcome ++ flat_map (reply_line text) turns) ++ rest) ≡ welcome ++ (map (λ turn. text (said_of turn)) turns ++ whole_lines rest)
  sent_whole welcome turns rest none =
      let apart : (text_of welcome ++ flat_map (reply_line text) turns) ++ rest ≡ text_of welcome ++ (text_of (map (λ turn. text (said_of turn)) turns) ++ rest) =
      append_assoc (text_of welcome) (flat_map (reply_line text) turns) rest
      ∙ ap (λ (l : List ℕ). text_of welcome ++ (l ++ rest)) (sym (flat_map-map (λ (line : List ℕ). line ++ 10 ∷ []) (λ turn. text (said_of turn)) turns)) in
      ap whole_lines apart
      ∙ (lines_whole welcome (text_of (map (λ turn. text (said_of turn)) turns) ++ rest) none
      ∙ ap (λ (l : List (List ℕ)). welcome ++ l) (lines_whole (map (λ turn. text (said_of turn)) turns) rest (replies_none turns)))

  -- the first bytes of a reply have no line end, if they are not all
  pub cut_reply : (turn : Turn) (count : ℕ) → count < length (reply_line text turn) → whole_lines (take count (reply_line text turn)) ≡ []
  cut_reply turn count proper =
      let reply : List ℕ = text (said_of turn) in
      let within : count ≤ length reply = omega (arith, proper, length-append reply (10 ∷ [])) in
      let first : take count (reply ++ 10 ∷ []) ≡ take count reply = take-append-le count reply (10 ∷ []) within in
      ap whole_lines first
      ∙ whole_lines-none [] (take count reply) (no_end-front (take count reply) (drop count reply) (ap has_end (take-append-drop count reply) ∙ one (said_of turn)))
