-- A link of a log is vouched for by what its far end saw: what it tried to send, and what it was sent.
use Rattle.std.proofs.Common.{Contains, ◌≡◌, ℕ, zero, suc, ◌+◌, ◌<◌, ◌≤◌, List, [], ◌∷◌, ◌++◌, Bool, true, false, map, length, take, None, Some, Err, slice_get, refl, sym, ap, ◌∙◌, subst, arith, inl, inr, ◌≢◌, ◌⊎◌, Option, Result, ◌||◌, if◌then◌else◌, fold, position, replicate, slice_index_or, flat_map, bytes_eq, count_by, ◌==◌, append_assoc, append-nil, length-append, length-take-le, eq-eqb}
use Rattle.std.specs.List.{AllZip, list_any}
use Rattle.std.proofs.Math.Seq.{take-append_seam}
use Rattle.std.proofs.lemmas.List.{length-map, take-append-le}
use Rattle.std.proofs.lemmas.List.Concat.{flat_map-append}
use Rattle.std.proofs.lemmas.List.Elements.{filter_map-append}
use Rattle.std.proofs.lemmas.Bool.{or_right}
use Rattle.std.proofs.lemmas.Option.{slice_get_within}
use Rattle.link_audit.specs.{Board, LINK_BYTES, SESSION_LINES, GoesOn, GameFile, AreNotes, board_of, AuctionHistory, ClosedGame, all_goods, all_answers, LineGot, Cause, Verdict, Seated, Syntax, WrongWord, Taken, Lost, Request, RequestFault, Said, LoggedGame, gives_seat, Seats, greeting_of, seat_verdict, seats_after, verdict_of, word_verdict, Item, Asks, Overlong, IsItem, AreItems, Session, reply_line, lines_of, IsTranscript, Turn, Called, CallDenied, CashRead, CashDenied, Quoted, Refused, Skipped, Quit, AreLawful, IsLawfulTurn, boards_shown, cash_by, cash_made, entry_made, has_left, item_of, made_at, said_of, shown_by, welcome_lines, welcome_text, free_seats, seats_given, HostedGame, AccountsFor, AllowsCause, HasNoLine, HasWelcome, IsLinkOfLog, IsVouched, MayAsk, MayUseUp, closed_in, fresh_link, logged_ends, logged_verdicts, whole_lines}
use Rattle.tac_io.specs.declared.line_got.LineGot.TheVariants as gots
use Rattle.line_protocol.specs.declared.admission.Cause.TheVariants as causes
use Rattle.line_protocol.specs.declared.asking.RequestFault.TheVariants as faults
use Rattle.agent_gate.proofs.WholeTexts.{EndsFor, ends_for}
use Rattle.agent_gate.specs.{ComesTo, IsUsedUp}
use Rattle.link_audit.proofs.Cuts.{no_line}
use Rattle.link_audit.proofs.Leading.{IsLast, TheLine, first_line, no_item}
use Rattle.link_audit.proofs.OneLines.{HasNoEnd, welcome_line}
use Rattle.link_audit.proofs.Sent.{AreItems-length, answers_more, cut_reply, ends_read, items_read, last_item, room_spent, sent_whole}
use Rattle.link_audit.proofs.FreshLinks.{gave_rest}

-- ---- the last turn

slice_get_front : {A : Type 0} (xs ys : List A) (n : ℕ) (x : A) → slice_get xs n ≡ Some x → slice_get (xs ++ ys) n ≡ Some x
slice_get_front [] ys n x at = absurd cc
slice_get_front (z ∷ xs) ys zero x at = at
slice_get_front (z ∷ xs) ys (suc n) x at = slice_get_front xs ys n x at

lawful_front : (turns : List Turn) (last : Turn) → AreLawful (turns ++ last ∷ []) → AreLawful turns
lawful_front turns last all n turn at =
    let inside = slice_get_within turns n turn at in
    let before : take n (turns ++ last ∷ []) ≡ take n turns = take-append-le n turns (last ∷ []) (omega (arith, inside)) in
    subst (λ (past : List Turn). IsLawfulTurn past turn × (has_left past ≡ false)) before (all n turn (slice_get_front turns (last ∷ []) n turn at))

-- the agent has not left by the turns before another
lawful_stays : (turns : List Turn) (last : Turn) → AreLawful (turns ++ last ∷ []) → has_left turns ≡ false
lawful_stays turns last all =
    subst (λ (past : List Turn). has_left past ≡ false) (take-append_seam turns (last ∷ [])) (all (length turns) last (at_end turns)).1
  where
    at_end : (before : List Turn) → slice_get (before ++ last ∷ []) (length before) ≡ Some last
    at_end [] = refl
    at_end (turn ∷ before) = at_end before

-- a line that was refused leaves nothing
module _ (agent : ℕ) (closed : ClosedGame) (turns : List Turn) (fault : RequestFault) where
  same_made : (good : ℕ) → made_at good (turns ++ Refused fault ∷ []) ≡ made_at good turns
  same_made good = filter_map-append (entry_made good) turns (Refused fault ∷ []) ∙ append-nil (made_at good turns)

  same_cash : cash_made agent (turns ++ Refused fault ∷ []) ≡ cash_made agent turns
  same_cash = flat_map-append (cash_by agent) turns (Refused fault ∷ []) ∙ append-nil (cash_made agent turns)

  same_boards : (good : ℕ) → boards_shown good (turns ++ Refused fault ∷ []) ≡ boards_shown good turns
  same_boards good = filter_map-append (shown_by good) turns (Refused fault ∷ []) ∙ append-nil (boards_shown good turns)

  abbrev AreShown : (ℕ → List (ℕ × Board)) → Type 0
  AreShown shown = AllZip (λ (auction : AuctionHistory) (good : ℕ). AreNotes (board_of auction) auction.history (length auction.history) (shown good)) closed.auctions all_goods

  without_refused : IsTranscript agent closed (turns ++ Refused fault ∷ []) → IsTranscript agent closed turns
  without_refused t = record {
    calls = t.calls ∙ (λ i. map (λ (good : ℕ). same_made good i) all_goods);
    cash = t.cash ∙ same_cash;
    boards = subst AreShown (λ i. λ (good : ℕ). same_boards good i) t.boards;
  }

-- a turn's item is not one for want of memory, or the turn is that
tells : (turn : Turn) → (item_of turn ≢ Asks (Err faults.Memory)) ⊎ (turn ≡ Refused faults.Memory)
tells (Called request good position entry posted) = inl (λ is. absurd cc)
tells (CallDenied request good) = inl (λ is. absurd cc)
tells (CashRead position dollars) = inl (λ is. absurd cc)
tells CashDenied = inl (λ is. absurd cc)
tells (Quoted good board) = inl (λ is. absurd cc)
tells (Refused faults.Syntax) = inl (λ is. absurd cc)
tells (Refused faults.NoSuchAuction) = inl (λ is. absurd cc)
tells (Refused (faults.Bid fault)) = inl (λ is. absurd cc)
tells (Refused faults.Memory) = inr refl
tells Skipped = inl (λ is. absurd cc)
tells Quit = inl (λ is. absurd cc)

may_item : (may_answer : List ℕ → Result Request RequestFault → Type 0) (got : LineGot) (line : List ℕ) (item : Item) → IsItem may_answer (got, line) item → item ≢ Asks (Err faults.Memory)
    → IsItem (MayAsk may_answer) (got, line) item
may_item may_answer gots.Line line (Asks asked) is other = (is, λ memory. other (ap Asks memory))
may_item may_answer gots.Line line Overlong is other = absurd is
may_item may_answer gots.TooLong line (Asks asked) is other = absurd is
may_item may_answer gots.TooLong line Overlong is other = tt
may_item may_answer gots.End line item is other = absurd is
may_item may_answer gots.Failed line item is other = absurd is
may_item may_answer gots.Budget line item is other = absurd is

-- a line that has an item is one
read_line : (may_answer : List ℕ → Result Request RequestFault → Type 0) (line : TheLine) (later : List TheLine) (item : Item) → IsItem may_answer line item → HasNoLine (line ∷ later) → ⊥
read_line may_answer line later item own none =
    let end = no_line (line ∷ later) none in
    no_item may_answer line.0 line.1 item (subst IsLast (sym (ap (λ (l : List TheLine). (first_line (gots.End, []) l).0) end.2)) end.1) own

-- ---- the seat

same_words : (seats : Seats) (verdict : Verdict) → (seats_after seats verdict).words ≡ seats.words
same_words seats (Seated agent) = refl
same_words seats Syntax = refl
same_words seats WrongWord = refl
same_words seats Taken = refl
same_words seats Lost = refl

given_words : (seats : Seats) (verdicts : List Verdict) → (fold seats_after seats verdicts).words ≡ seats.words
given_words seats [] = refl
given_words seats (verdict ∷ verdicts) = given_words (seats_after seats verdict) verdicts ∙ same_words seats verdict

all_free : (count seat : ℕ) → slice_index_or (replicate count false) seat false ≡ false
all_free zero seat = refl
all_free (suc count) zero = refl
all_free (suc count) (suc seat) = all_free count seat

-- a line that is seated is seated where all seats are free
module _ (taken free : List Bool) (none : (seat : ℕ) → slice_index_or free seat false ≡ false) where
  not_taken : (b : Bool) (seat agent : ℕ) → (if b then Taken else Seated seat) ≡ Seated agent → Seated seat ≡ Seated agent
  not_taken true seat agent is = absurd cc
  not_taken false seat agent is = is

  free_found : (found : Option ℕ) (agent : ℕ) → seat_verdict taken found ≡ Seated agent → seat_verdict free found ≡ Seated agent
  free_found None agent is = is
  free_found (Some seat) agent is = ap (λ (b : Bool). if b then Taken else Seated seat) (none seat) ∙ not_taken (slice_index_or taken seat false) seat agent is

  free_word : (words : List (List ℕ)) (word : Option (List ℕ)) (agent : ℕ) → word_verdict (record { words = words; taken = taken }) word ≡ Seated agent
      → word_verdict (record { words = words; taken = free }) word ≡ Seated agent
  free_word words None agent is = is
  free_word words (Some word) agent is = free_found (position (bytes_eq word) words) agent is

seated_free : (game : GameFile) (verdicts : List Verdict) (line : List ℕ) (agent : ℕ) → verdict_of (seats_given game verdicts) line ≡ Seated agent → verdict_of (free_seats game) line ≡ Seated agent
seated_free game verdicts line agent is =
    let seats : Seats = seats_given game verdicts in
    let same : seats.words ≡ game.words = given_words (free_seats game) verdicts in
    free_word seats.taken (free_seats game).taken (all_free 8) game.words (greeting_of line) agent
    (ap (λ (words : List (List ℕ)). word_verdict (record { words = words; taken = seats.taken }) (greeting_of line)) (sym same) ∙ is)

seat_listed : (verdicts : List Verdict) (place agent : ℕ) → slice_get verdicts place ≡ Some (Seated agent) → list_any (gives_seat agent) verdicts ≡ true
seat_listed [] place agent at = absurd cc
seat_listed (verdict ∷ verdicts) zero agent at =
    let same : verdict ≡ Seated agent = cc in
    ap (λ (v : Verdict). gives_seat agent v || list_any (gives_seat agent) verdicts) same ∙ ap (λ (b : Bool). b || list_any (gives_seat agent) verdicts) (eq-eqb agent agent refl)
seat_listed (verdict ∷ verdicts) (suc place) agent at = or_right (gives_seat agent verdict) (list_any (gives_seat agent) verdicts) (seat_listed verdicts place agent at)

-- ---- the link

-- what was sent whole is longer than a part of the welcome
welcome_uncut : (welcome said : List ℕ) (count : ℕ) → count < length welcome → Some said ≡ Some (take count welcome) → GoesOn welcome said → ⊥
welcome_uncut welcome said count proper is whole =
    let same : said ≡ take count welcome = cc in
    let part : length said ≡ count = ap length same ∙ length-take-le count welcome (omega (arith, proper)) in
    let all : length said ≡ length welcome + length whole.0 = ap length whole.1 ∙ length-append welcome whole.0 in
    omega (arith, proper, part, all)

module _ (hosted : HostedGame) (one : (reply : Said) → HasNoEnd (hosted.dialect.text reply)) (log : LoggedGame) (agent : ℕ) (asked said : List ℕ) (l : IsLinkOfLog hosted log agent asked said) where
  abbrev game : GameFile
  game = hosted.game

  abbrev text : Said → List ℕ
  text = hosted.dialect.text

  abbrev may_answer : List ℕ → Result Request RequestFault → Type 0
  may_answer = hosted.dialect.may_answer

  abbrev turns : List Turn
  turns = l.seated.turns

  abbrev lines : List TheLine
  lines = l.seated.served.read

  listed : list_any (gives_seat agent) (logged_verdicts log.head) ≡ true
  listed = seat_listed (logged_verdicts log.head) l.place agent l.listed

  seat : verdict_of (free_seats game) l.seated.line ≡ Seated agent
  seat = seated_free game (take l.place (logged_verdicts log.head)) l.seated.line agent l.seated.seat

  -- the lines of the turns are the first of all lines that were asked
  asked_lines : (later : List TheLine) × (all_answers [] LINK_BYTES asked ≡ (gots.Line, l.seated.line) ∷ lines ++ later)
  asked_lines =
      let gave = gave_rest asked l.seated.bytes l.after.left l.seated.gave.1 in
      let found = answers_more [] LINK_BYTES l.seated.bytes gave.0 ((gots.Line, l.seated.line) ∷ lines) l.seated.rest (tt, items_read may_answer lines (map item_of turns) l.seated.served.items)
      (l.seated.first ∙ ap (λ (others : List TheLine). (gots.Line, l.seated.line) ∷ others) l.seated.served.from) in
      (found.0, ap (all_answers [] LINK_BYTES) gave.1 ∙ found.1)

  -- what was sent
  sent_is : (bytes : List ℕ) → l.after.sent ≡ Some bytes → said ≡ bytes
  sent_is bytes is = let both : Some said ≡ Some bytes = sym l.sent ∙ is in cc

  abbrev sent_by : List Turn → List ℕ
  sent_by some = welcome_text game agent ++ flat_map (reply_line text) some

  replies_of : (some : List Turn) (rest : List ℕ) → said ≡ sent_by some ++ rest → whole_lines rest ≡ [] → whole_lines said ≡ welcome_lines game agent ++ map (λ turn. text (said_of turn)) some
  replies_of some rest is none =
      ap whole_lines is
      ∙ (sent_whole text one (welcome_lines game agent) some rest (welcome_line game agent)
      ∙ ap (λ (l' : List (List ℕ)). welcome_lines game agent ++ l') (ap (λ (l' : List (List ℕ)). map (λ turn. text (said_of turn)) some ++ l') none ∙ append-nil (map (λ turn. text (said_of turn)) some)))

  vouched_by : (account : AccountsFor game hosted.dialect log agent asked said) (cause : Cause) → l.seated.cause ≡ cause → AllowsCause account cause → IsVouched game hosted.dialect log agent asked said
  vouched_by account cause same allowed =
      record { account = account; cause = cause; ended = subst (λ (c : Cause). Contains (logged_ends log.head) (agent, c)) same l.seated.ended; allowed = allowed }

  -- all replies were sent whole
  heard_all : said ≡ sent_by turns → AccountsFor game hosted.dialect log agent asked said
  heard_all is =
      let all : turns ++ [] ≡ turns = append-nil turns in
      record {
        listed = listed;
        line = l.seated.line;
        answered = lines;
        unanswered = [];
        later = asked_lines.0;
        lines = asked_lines.1;
        seat = seat;
        heard = turns;
        unheard = [];
        heard_items = l.seated.served.items;
        unheard_items = tt;
        few = subst (λ (some : List Turn). length some ≤ SESSION_LINES) (sym all) l.seated.served.few;
        lawful = subst AreLawful (sym all) l.seated.served.lawful;
        replies = replies_of turns [] (is ∙ sym (append-nil (sent_by turns))) refl;
        transcript = subst (IsTranscript agent (closed_in game log)) (sym all) l.seated.transcript;
      }

  vouched_stay : (cause : Cause) → l.seated.cause ≡ cause → said ≡ sent_by turns → has_left turns ≡ false → (cause ≡ causes.Quit → ⊥) → (length turns ≡ SESSION_LINES → cause ≡ causes.Budget)
      → (cause ≡ causes.WriteFault → ⊥) → (cause ≡ causes.Budget → MayUseUp asked) → IsVouched game hosted.dialect log agent asked said
  unfolding heard_all
  vouched_stay cause same is stays on full other used = vouched_by (heard_all is) cause same (record {
    left = λ left. absurd (let both : true ≡ false = sym left ∙ stays in cc);
    quit = λ quits. absurd (on quits);
    full = λ none most. full most;
    cut = λ fault. absurd (other fault);
    used_up = used;
  })

  vouched_left : l.seated.cause ≡ causes.Quit → said ≡ sent_by turns → has_left turns ≡ true → IsVouched game hosted.dialect log agent asked said
  unfolding heard_all
  vouched_left same is leaves = vouched_by (heard_all is) causes.Quit same (record {
    left = λ left. refl;
    quit = λ quits. inl leaves;
    full = λ none. absurd (let both : true ≡ false = sym leaves ∙ none in cc);
    cut = λ other. absurd cc;
    used_up = λ other. absurd cc;
  })

  abbrev session : Session
  session = record { welcome = welcome_text game agent; turns = turns; rest = l.seated.rest; before = fresh_link asked; after = l.after }

  -- the lines or the bytes of the session were used up
  used_up : IsUsedUp session ⊎ ComesTo gots.Budget session → MayUseUp asked
  used_up (inl full) =
      let read = AreItems-length may_answer lines (map item_of turns) l.seated.served.items in
      let ends : suc (length lines) ≤ count_by (λ byte. byte == 10) asked = ends_read [] LINK_BYTES asked ((gots.Line, l.seated.line) ∷ lines) asked_lines.0 (tt, items_read may_answer lines (map item_of turns) l.seated.served.items) asked_lines.1 in
      let all = full.1 in let turned = length-map turns item_of in
      inl (omega (arith, read, ends, all, turned))
  used_up (inr spent) =
      let gave = gave_rest asked l.seated.bytes l.after.left l.seated.gave.1 in
      let full = room_spent [] LINK_BYTES l.seated.bytes ((gots.Line, l.seated.line) ∷ lines) (tt, items_read may_answer lines (map item_of turns) l.seated.served.items)
      (l.seated.first ∙ ap (λ (others : List TheLine). (gots.Line, l.seated.line) ∷ others) (l.seated.served.from ∙ ap (λ (rest : List TheLine). lines ++ rest) spent.2)) in
      let long = ap length gave.1 ∙ length-append l.seated.bytes gave.0 in
      inr (omega (arith, full, long))

  -- the last reply was cut
  module _ (answered : List Turn) (last : Turn) (parts : turns ≡ answered ++ last ∷ []) (count : ℕ) (proper : count < length (reply_line text last))
      (is : said ≡ sent_by answered ++ take count (reply_line text last)) (ended : Contains (logged_ends log.head) (agent, causes.WriteFault)) where
    items : AreItems may_answer lines (map item_of (answered ++ last ∷ []))
    items = subst (λ (some : List Turn). AreItems may_answer lines (map item_of some)) parts l.seated.served.items

    replies : whole_lines said ≡ welcome_lines game agent ++ map (λ turn. text (said_of turn)) answered
    replies = replies_of answered (take count (reply_line text last)) is (cut_reply text one last count proper)

    lawful : AreLawful (answered ++ last ∷ [])
    lawful = subst AreLawful parts l.seated.served.lawful

    transcript : IsTranscript agent (closed_in game log) (answered ++ last ∷ [])
    transcript = subst (IsTranscript agent (closed_in game log)) parts l.seated.transcript

    few : length (answered ++ last ∷ []) ≤ SESSION_LINES
    few = subst (λ (some : List Turn). length some ≤ SESSION_LINES) parts l.seated.served.few

    not_full : length answered ≡ SESSION_LINES → ⊥
    not_full most = let less = few in let one_more = length-append answered (last ∷ []) in omega (arith, less, one_more, most)

    module _ (first : List TheLine) (line : TheLine) (split : lines ≡ first ++ line ∷ []) where
      split_lines : all_answers [] LINK_BYTES asked ≡ (gots.Line, l.seated.line) ∷ first ++ (line ∷ asked_lines.0)
      split_lines =
          asked_lines.1
          ∙ ap (λ (some : List TheLine). (gots.Line, l.seated.line) ∷ some) (ap (λ (some : List TheLine). some ++ asked_lines.0) split ∙ append_assoc first (line ∷ []) asked_lines.0)

      -- its line is one whose reply did not come
      unheard_last : AreItems may_answer first (map item_of answered) → IsItem may_answer line (item_of last) → item_of last ≢ Asks (Err faults.Memory) → IsVouched game hosted.dialect log agent asked said
      unheard_last before own other = record {
        account = record {
          listed = listed;
          line = l.seated.line;
          answered = first;
          unanswered = line ∷ [];
          later = asked_lines.0;
          lines = split_lines;
          seat = seat;
          heard = answered;
          unheard = last ∷ [];
          heard_items = before;
          unheard_items = (may_item may_answer line.0 line.1 (item_of last) own other, tt);
          few = few;
          lawful = lawful;
          replies = replies;
          transcript = transcript;
        };
        cause = causes.WriteFault;
        ended = ended;
        allowed = record {
          left = λ left. absurd (let both : true ≡ false = sym left ∙ lawful_stays answered last lawful in cc);
          quit = λ quits. absurd cc;
          full = λ none most. absurd (not_full most);
          cut = λ same none. read_line may_answer line asked_lines.0 (item_of last) own none;
          used_up = λ budget. absurd cc;
        };
      }

      -- or there was no memory to read it, and it left nothing
      later_last : AreItems may_answer first (map item_of answered) → IsItem may_answer line (item_of last) → last ≡ Refused faults.Memory → IsVouched game hosted.dialect log agent asked said
      later_last before own memory =
          let all : answered ++ [] ≡ answered = append-nil answered in
          let less = few in
          let one_more = length-append answered (last ∷ []) in
          let stays = lawful_stays answered last lawful in
          let without = without_refused agent (closed_in game log) answered faults.Memory (subst (λ (turn : Turn). IsTranscript agent (closed_in game log) (answered ++ turn ∷ [])) memory transcript) in
          record {
            account = record {
              listed = listed;
              line = l.seated.line;
              answered = first;
              unanswered = [];
              later = line ∷ asked_lines.0;
              lines = split_lines;
              seat = seat;
              heard = answered;
              unheard = [];
              heard_items = before;
              unheard_items = tt;
              few = subst (λ (some : List Turn). length some ≤ SESSION_LINES) (sym all) (omega (arith, less, one_more));
              lawful = subst AreLawful (sym all) (lawful_front answered last lawful);
              replies = replies;
              transcript = subst (IsTranscript agent (closed_in game log)) (sym all) without;
            };
            cause = causes.WriteFault;
            ended = ended;
            allowed = record {
              left = λ left. absurd (let both : true ≡ false = sym left ∙ stays in cc);
              quit = λ quits. absurd cc;
              full = λ none most. absurd (not_full most);
              cut = λ same none. read_line may_answer line asked_lines.0 (item_of last) own none;
              used_up = λ budget. absurd cc;
            };
          }

    heard_but_last : IsVouched game hosted.dialect log agent asked said
    heard_but_last =
        let found = last_item may_answer item_of lines answered last items in
        elim (tells last) [ inl other ↦ unheard_last found.0 found.1 found.2 found.3 found.4 other | inr memory ↦ later_last found.0 found.1 found.2 found.3 found.4 memory ]

  by_cause : (cause : Cause) (count : ℕ) → l.seated.cause ≡ cause → EndsFor cause text session count → HasWelcome game agent said → IsVouched game hosted.dialect log agent asked said
  by_cause causes.Quit count same ends whole = vouched_left same (sent_is (sent_by turns) ends.1.0) ends.0
  by_cause causes.End count same ends whole = vouched_stay causes.End same (sent_is (sent_by turns) ends.2.0) ends.0.0 (λ other. cc) (λ most. absurd (let low = ends.0.1 in omega (arith, low, most))) (λ other. cc) (λ other. absurd cc)
  by_cause causes.ReadFault count same ends whole = vouched_stay causes.ReadFault same (sent_is (sent_by turns) ends.1.0) ends.0.0 (λ other. cc) (λ most. absurd (let low = ends.0.1 in omega (arith, low, most))) (λ other. cc) (λ other. absurd cc)
  by_cause causes.Budget count same ends whole = vouched_stay causes.Budget same (sent_is (sent_by turns) ends.1.0) (stayed ends.0) (λ other. cc) (λ most. refl) (λ other. cc) (λ budget. used_up ends.0)
    where
      stayed : IsUsedUp session ⊎ ComesTo gots.Budget session → has_left turns ≡ false
      stayed (inl full) = full.0
      stayed (inr spent) = spent.0
  by_cause causes.WriteFault count same (inl none) whole = absurd (welcome_uncut (welcome_text game agent) said none.1.count none.1.proper (sym l.sent ∙ none.1.taken) whole)
  by_cause causes.WriteFault count same (inr cut) whole =
      heard_but_last cut.0 cut.1 cut.2 cut.3.count cut.3.proper (sent_is (sent_by cut.0 ++ take cut.3.count (reply_line text cut.1)) cut.3.taken)
      (subst (λ (c : Cause). Contains (logged_ends log.head) (agent, c)) same l.seated.ended)

  -- the link is vouched for, if its welcome was sent whole
  pub vouched_from : HasWelcome game agent said → IsVouched game hosted.dialect log agent asked said
  vouched_from whole = by_cause l.seated.cause (lines_of l.seated.cause turns) refl (ends_for text session l.seated.cause l.seated.served.end).0 whole
