-- What a desk has of the turns taken with it.
use Rattle.std.proofs.Common.{◌≡◌, ℕ, ◌<◌, List, [], ◌∷◌, ◌++◌, length, get_or, replicate, refl, sym, ap, ◌∙◌, subst, arith, count_by, append_assoc, append-nil}
use Rattle.std.proofs.lemmas.List.{get_or-replicate}
use Rattle.std.proofs.lemmas.List.Elements.{filter_map-append}
use Rattle.std.proofs.lemmas.List.FromFn.{fill_by_all}
use Rattle.std.proofs.lemmas.Grind.{flat_map-append}
use Rattle.agent_gate.specs.{Entry, Desk, IsSameDesk, desk_caller, desk_entries, entries_at, desk_cash, boards_at, seen_at, count_readings, Turn, Called, CallDenied, CashRead, CashDenied, Quoted, Refused, Skipped, Quit, made_at, entry_made, cash_by, cash_made, boards_shown, shown_by, is_reading, IsNotBehind, IsLawfulTurn, IsDueTurn, IsMade, AreMadeBy}
use Rattle.agent_gate.proofs.LawfulTurns.{goes_on_more, goes_on_with, readings_made}

-- the desk has what the turns left besides what it had, and has seen as much as they were answered
pub record HasMade (turns : List Turn) (before after : Desk) : Type 0 where
  pub entries : (good : ℕ) → good < 28 → entries_at after good ≡ made_at good turns
  pub cash : desk_cash after ≡ cash_made (desk_caller before) turns
  pub boards : (good : ℕ) → good < 28 → boards_at after good ≡ boards_at before good ++ boards_shown good turns
  pub seen : (good : ℕ) → good < 28 → IsNotBehind good (seen_at after good) turns
  pub same : IsSameDesk before after

pub made_none : (d : Desk) → desk_entries d ≡ replicate 28 [] → desk_cash d ≡ [] → HasMade [] d d
made_none d entries cash = record {
  entries = λ good lt. ap (λ rows. get_or rows good []) entries ∙ get_or-replicate {A = List (ℕ × Entry)} 28 good [] [] lt;
  cash = cash;
  boards = λ good lt. sym (append-nil (boards_at d good));
  seen = λ good lt k t inside. absurd (omega arith);
  same = (refl, refl);
}

module _ (turns : List Turn) (turn : Turn) where
  -- a turn that was due to the desk is lawful after those that the desk has
  pub due_lawful : (before mid : Desk) → HasMade turns before mid → IsDueTurn mid turn → IsLawfulTurn turns turn
  due_lawful before mid has due = by_turn turn due
    where
      readings : count_readings (desk_cash mid) ≡ count_by is_reading turns
      readings = ap count_readings has.cash ∙ readings_made (desk_caller before) turns

      by_turn : (t : Turn) → IsDueTurn mid t → IsLawfulTurn turns t
      by_turn (Called request good position entry posted) d =
          let here = has.entries good d.1 in
          (d.0, d.1, subst (λ (l : List (ℕ × Entry)). length l < 1024) here d.2, goes_on_more good (seen_at mid good) position turns (has.seen good d.1) d.3)
      by_turn (CallDenied request good) d = let here = has.entries good d.1 in (d.0, d.1, ap length (sym here) ∙ d.2)
      by_turn (CashRead position dollars) d = omega (arith, d, readings)
      by_turn CashDenied d = sym readings ∙ d
      by_turn (Quoted good board) d = (d.0, goes_on_more good (seen_at mid good) board.count turns (has.seen good d.0) d.1)
      by_turn (Refused fault) d = tt
      by_turn Skipped d = tt
      by_turn Quit d = tt

  pub made_more : (before mid after : Desk) → HasMade turns before mid → IsMade turn mid after → IsSameDesk mid after → HasMade (turns ++ turn ∷ []) before after
  made_more before mid after has made same = record {
    entries = λ good lt. made.entries good lt ∙ ap (λ l. l ++ made_at good (turn ∷ [])) (has.entries good lt) ∙ sym (filter_map-append (entry_made good) turns (turn ∷ []));
    cash = made.cash ∙ ap (λ l. l ++ cash_by (desk_caller mid) turn) has.cash ∙ ap (λ a. cash_made (desk_caller before) turns ++ cash_by a turn) has.same.1
        ∙ ap (λ l. cash_made (desk_caller before) turns ++ l) (sym (append-nil (cash_by (desk_caller before) turn))) ∙ sym (flat_map-append (cash_by (desk_caller before)) turns (turn ∷ []));
    boards = λ good lt. made.boards good lt ∙ ap (λ l. l ++ boards_shown good (turn ∷ [])) (has.boards good lt) ∙ append_assoc (boards_at before good) (boards_shown good turns) (boards_shown good (turn ∷ []))
        ∙ ap (λ l. boards_at before good ++ l) (sym (filter_map-append (shown_by good) turns (turn ∷ [])));
    seen = λ good lt. goes_on_with good (seen_at after good) turns turn (goes_on_more good (seen_at mid good) (seen_at after good) turns (has.seen good lt) (made.seen good lt).0) (made.seen good lt).1;
    same = (same.0 ∙ has.same.0, same.1 ∙ has.same.1);
  }

-- so its entries and its boards are those of the turns
pub all_made : (turns : List Turn) (before after : Desk) → HasMade turns before after → AreMadeBy turns before after
all_made turns before after has = record {
  entries = fill_by_all (λ good. made_at good turns) (desk_entries after) 28 [] after.kept.goods has.entries;
  cash = has.cash;
  boards = has.boards;
  same = has.same;
}
