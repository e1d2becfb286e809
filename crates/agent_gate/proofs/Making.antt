-- Each outcome of a desk's call is that of a turn.
use Rattle.std.proofs.Common.{◌≡◌, ℕ, ◌+◌, ◌<◌, ◌≤◌, ◌≢◌, List, [], ◌∷◌, ◌++◌, length, get_or, set, Bool, cond, eqb, Some, Ok, Err, refl, sym, ap, ◌∙◌, arith, inl, inr, append-nil, get_or-set_same, get_or-set_other}
use Rattle.std.proofs.lemmas.List.{length-map}
use Rattle.std.proofs.lemmas.Bool.Decides.{eqb_tells}
use Rattle.agent_gate.specs.{Call, Board, Request, RequestFault, Said, Desk, Outcome, CashOutcome, IsOutcome, IsCashOutcome, IsSeen, desk_caller, desk_entries, entries_at, desk_cash, boards_of, boards_at, seen_of, seen_at, Item, Asks, Overlong, Turn, Called, CallDenied, CashRead, CashDenied, Quoted, Refused, Skipped, Quit, asked_call, item_of, made_at, cash_by, boards_shown, shown_length, IsDueTurn, IsMade, TakesTurn, said_of_outcome, said_of_reading}
use Rattle.line_protocol.specs.declared.asking.Request.TheVariants as requests
use Rattle.line_protocol.specs.declared.saying.Said.TheVariants as said
use Rattle.turn_lock.specs.Passes.{made_by, noted_by, seen_by}
use Rattle.floor.specs.declared.outcomes.Outcome.TheVariants as outcomes
use Rattle.floor.specs.declared.outcomes.CashOutcome.TheVariants as cash_outcomes
use Rattle.floor.proofs.Rows.{row_more}

-- numbers where one was raised
pub seen_more : (seen : List ℕ) (place good count : ℕ) → place < length seen → get_or seen place 0 ≤ count
    → (get_or seen good 0 ≤ get_or (set seen place count) good 0) × (cond (eqb place good) count 0 ≤ get_or (set seen place count) good 0)
seen_more seen place good count inside least = elim (eqb_tells place good) [
  | inl here ↦
      let now : get_or (set seen place count) good 0 ≡ count = ap (λ (g : ℕ). get_or (set seen place count) g 0) (sym here.1) ∙ get_or-set_same seen place count 0 inside in
      let was : get_or seen good 0 ≡ get_or seen place 0 = ap (λ (g : ℕ). get_or seen g 0) (sym here.1) in
      let said : cond (eqb place good) count 0 ≡ count = ap (λ (b : Bool). cond b count 0) here.0 in
      (omega arith, omega arith)
  | inr away ↦
      let ne : good ≢ place = λ e. away.1 (sym e) in
      let now : get_or (set seen place count) good 0 ≡ get_or seen good 0 = get_or-set_other seen place good count 0 ne in
      let said : cond (eqb place good) count 0 ≡ 0 = ap (λ (b : Bool). cond b count 0) away.0 in
      (omega arith, omega arith)
]

wide : (d : Desk) → length (desk_entries d) ≡ 28
wide d = d.kept.goods

wide_seen : (d : Desk) → length (seen_of d) ≡ 28
wide_seen d = length-map d.passes.items (λ p. seen_by p) ∙ sym (length-map d.passes.items (λ p. made_by p)) ∙ wide d

wide_boards : (d : Desk) → length (boards_of d) ≡ 28
wide_boards d = length-map d.passes.items (λ p. noted_by p) ∙ sym (length-map d.passes.items (λ p. made_by p)) ∙ wide d

-- a turn that left nothing in the desk
pub nothing_made : (turn : Turn) (before after : Desk) → after ≡ before → IsDueTurn before turn → ((good : ℕ) → made_at good (turn ∷ []) ≡ []) → ((agent : ℕ) → cash_by agent turn ≡ [])
    → ((good : ℕ) → boards_shown good (turn ∷ []) ≡ []) → ((good : ℕ) → shown_length good turn ≡ 0) → IsMade turn before after
nothing_made turn before after same due made cash boards said = record {
  due = due;
  entries = λ good lt. ap (λ (d : Desk). entries_at d good) same ∙ sym (append-nil (entries_at before good)) ∙ ap (λ l. entries_at before good ++ l) (sym (made good));
  cash = ap (λ (d : Desk). desk_cash d) same ∙ sym (append-nil (desk_cash before)) ∙ ap (λ l. desk_cash before ++ l) (sym (cash (desk_caller before)));
  boards = λ good lt. ap (λ (d : Desk). boards_at d good) same ∙ sym (append-nil (boards_at before good)) ∙ ap (λ l. boards_at before good ++ l) (sym (boards good));
  seen = λ good lt. let e : seen_at after good ≡ seen_at before good = ap (λ (d : Desk). seen_at d good) same in (omega arith, omega (arith, said good));
}

pub call_made : (request : Request) (good : ℕ) (call : Call) (before after : Desk) (outcome : Outcome) → asked_call request ≡ Some (good, call) → good < 28 → IsOutcome before after good call outcome
    → TakesTurn (λ item. item ≡ Asks (Ok request)) before after (said_of_outcome outcome)
call_made request good call before after outcomes.Spent asks inside is = record {
  turn = CallDenied request good;
  asked = refl;
  said = refl;
  made = nothing_made (CallDenied request good) before after is.1 ((call, asks), inside, is.0) (λ g. refl) (λ a. refl) (λ g. refl) (λ g. refl);
}
call_made request good call before after (outcomes.At position reply) asks inside is = let a = is.1 in record {
  turn = Called request good position a.entry a.adds.posts.0;
  asked = refl;
  said = ap (λ r. said.At position r) a.made.reply;
  made = record {
    due = (asks ∙ ap (λ c. Some (good, c)) (sym a.made.call), inside, is.0, a.adds.seen_before);
    entries = λ g lt. ap (λ rows. get_or rows g []) a.adds.entries ∙ row_more (desk_entries before) good g (position, a.entry) (omega (arith, wide before));
    cash = a.adds.posts.1;
    boards = λ g lt. ap (λ rows. get_or rows g []) a.boards ∙ sym (append-nil (boards_at before g));
    seen = λ g lt.
        let both = seen_more (seen_of before) good g (position + 1) (omega (arith, wide_seen before)) (omega (arith, a.adds.seen_before)) in
        let now : seen_at after g ≡ get_or (set (seen_of before) good (position + 1)) g 0 = ap (λ l. get_or l g 0) a.adds.seen in
        (omega (arith, both.0), omega (arith, both.1));
  };
}

pub cash_read : (before after : Desk) (outcome : CashOutcome) → IsCashOutcome before after outcome → TakesTurn (λ item. item ≡ Asks (Ok requests.Cash)) before after (said_of_reading outcome)
cash_read before after cash_outcomes.Spent is = record {
  turn = CashDenied;
  asked = refl;
  said = refl;
  made = nothing_made CashDenied before after is.1 is.0 (λ g. refl) (λ a. refl) (λ g. refl) (λ g. refl);
}
cash_read before after (cash_outcomes.At position dollars) is = record {
  turn = CashRead position dollars;
  asked = refl;
  said = refl;
  made = record {
    due = is.0;
    entries = λ g lt. ap (λ rows. get_or rows g []) is.1.entries ∙ sym (append-nil (entries_at before g));
    cash = is.1.cash;
    boards = λ g lt. ap (λ rows. get_or rows g []) is.1.boards ∙ sym (append-nil (boards_at before g));
    seen = λ g lt. let now : seen_at after g ≡ seen_at before g = ap (λ l. get_or l g 0) is.1.seen in (omega arith, omega arith);
  };
}

pub board_seen : (good : ℕ) (board : Board) (before after : Desk) → good < 28 → IsSeen before after good board → TakesTurn (λ item. item ≡ Asks (Ok (requests.Quote good))) before after (said.Quote board)
board_seen good board before after inside is = record {
  turn = Quoted good board;
  asked = refl;
  said = refl;
  made = record {
    due = (inside, is.seen_before);
    entries = λ g lt. ap (λ rows. get_or rows g []) is.entries ∙ sym (append-nil (entries_at before g));
    cash = is.cash ∙ sym (append-nil (desk_cash before));
    boards = λ g lt. ap (λ rows. get_or rows g []) is.boards ∙ row_more (boards_of before) good g (board.count, board) (omega (arith, wide_boards before));
    seen = λ g lt.
        let both = seen_more (seen_of before) good g board.count (omega (arith, wide_seen before)) is.seen_before in
        let now : seen_at after g ≡ get_or (set (seen_of before) good board.count) g 0 = ap (λ l. get_or l g 0) is.seen in
        (omega (arith, both.0), omega (arith, both.1));
  };
}

pub agent_left : (d : Desk) → TakesTurn (λ item. item ≡ Asks (Ok requests.Quit)) d d said.Bye
agent_left d = record {
  turn = Quit;
  asked = refl;
  said = refl;
  made = nothing_made Quit d d refl tt (λ g. refl) (λ a. refl) (λ g. refl) (λ g. refl);
}

pub line_refused : (fault : RequestFault) (d : Desk) → TakesTurn (λ item. item ≡ Asks (Err fault)) d d (said.Fault fault)
line_refused fault d = record {
  turn = Refused fault;
  asked = refl;
  said = refl;
  made = nothing_made (Refused fault) d d refl tt (λ g. refl) (λ a. refl) (λ g. refl) (λ g. refl);
}

pub line_skipped : (Asked : Item → Type 0) (d : Desk) → Asked Overlong → TakesTurn Asked d d said.TooLong
line_skipped Asked d asked = record {
  turn = Skipped;
  asked = asked;
  said = refl;
  made = nothing_made Skipped d d refl tt (λ g. refl) (λ a. refl) (λ g. refl) (λ g. refl);
}

-- a turn of an item is one of what the item is
pub taken_as : (P Q : Item → Type 0) (before after : Desk) (said : Said) → ((item : Item) → P item → Q item) → TakesTurn P before after said → TakesTurn Q before after said
taken_as P Q before after said f t = record { turn = t.turn; asked = f (item_of t.turn) t.asked; said = t.said; made = t.made }
