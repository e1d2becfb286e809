-- The clock's turns, one after another.
use Rattle.std.proofs.Common.{ℕ, ◌<◌, List, [], ◌∷◌, ◌++◌, get_or, refl, sym, ap, ◌∙◌, append_assoc, append-nil, arith, ◌==◌, if◌then◌else◌, Option, Some, None, map}
use Rattle.std.proofs.lemmas.List.{map-append}
use Rattle.std.proofs.lemmas.List.Elements.{filter_map-append}
use Rattle.std.proofs.lemmas.Grind.{flat_map-append}
use Rattle.clock_events.specs.{Call, Entry, Desk, IsCallAnswered, IsStepTaken, desk_cash, desk_entries, entries_at, Step, CashEntry, due_post, MakesCalls}
use Rattle.tac_base.specs.declared.calls.Reply.{Reply}
use Rattle.floor.proofs.Rows.{row_more}
use Rattle.clock_events.specs.ClockTurns.{ClockTurn, clock_entries, clock_posts}

-- the good and the call of a turn
abbrev pub call_made : ClockTurn → ℕ × Call
call_made turn = (turn.good, turn.entry.call)

-- the entry of a turn, if it is of the good
abbrev clock_entry : ℕ → ClockTurn → Option (ℕ × Entry)
clock_entry good turn = if turn.good == good then Some (turn.position, turn.entry) else None

-- the entry of a turn in the cash history: a post where its entry has a trade
abbrev clock_post : ClockTurn → List (ℕ × CashEntry)
clock_post turn = map (λ post. (turn.posted, post)) (due_post turn.good turn.position turn.entry)

pub makes_none : (d : Desk) → MakesCalls [] d d
makes_none d = record { turns = []; asked = refl; entries = λ good low. sym (append-nil (entries_at d good)); cash = sym (append-nil (desk_cash d)) }

-- some calls, and then a step that is no call
pub makes_still : (calls : List (ℕ × Call)) (before between after : Desk) {step : Step} → MakesCalls calls before between → IsStepTaken between after step → MakesCalls calls before after
makes_still calls before between after made taken = record {
  turns = made.turns;
  asked = made.asked;
  entries = λ good low. ap (λ rows. get_or rows good []) taken.entries ∙ made.entries good low;
  cash = taken.cash ∙ made.cash;
}

makes_one : (good : ℕ) (call : Call) (position : ℕ) (reply : Reply) (before after : Desk) → good < 28 → IsCallAnswered before after good call position reply → MakesCalls ((good, call) ∷ []) before after
makes_one good call position reply before after low a =
    let turn : ClockTurn = record { good = good; position = position; entry = a.entry; posted = a.adds.posts.0 } in
    let wide = before.kept.goods in
    record {
      turns = turn ∷ [];
      asked = ap (λ c. (good, c) ∷ []) a.made.call;
      entries = λ g lt. ap (λ rows. get_or rows g []) a.adds.entries ∙ row_more (desk_entries before) good g (position, a.entry) (omega (arith, wide));
      cash = a.adds.posts.1 ∙ ap (λ l. desk_cash before ++ l) (sym (append-nil (clock_post turn)));
    }

-- some calls, and then others
pub makes_both : (xs ys : List (ℕ × Call)) (before between after : Desk) → MakesCalls xs before between → MakesCalls ys between after → MakesCalls (xs ++ ys) before after
makes_both xs ys before between after one two = record {
  turns = one.turns ++ two.turns;
  asked = map-append call_made one.turns two.turns ∙ (λ i. one.asked i ++ two.asked i);
  entries = λ g lt. two.entries g lt ∙ ap (λ l. l ++ clock_entries g two.turns) (one.entries g lt) ∙ append_assoc (entries_at before g) (clock_entries g one.turns) (clock_entries g two.turns)
      ∙ ap (λ l. entries_at before g ++ l) (sym (filter_map-append (clock_entry g) one.turns two.turns));
  cash = two.cash ∙ ap (λ l. l ++ clock_posts two.turns) one.cash ∙ append_assoc (desk_cash before) (clock_posts one.turns) (clock_posts two.turns)
      ∙ ap (λ l. desk_cash before ++ l) (sym (flat_map-append clock_post one.turns two.turns));
}

pub makes_more : (calls : List (ℕ × Call)) (good : ℕ) (call : Call) (position : ℕ) (reply : Reply) (before between after : Desk) → good < 28 → MakesCalls calls before between
    → IsCallAnswered between after good call position reply → MakesCalls (calls ++ (good, call) ∷ []) before after
makes_more calls good call position reply before between after low made answered =
    makes_both calls ((good, call) ∷ []) before between after made (makes_one good call position reply between after low answered)
