-- What a desk knew of a closed game is its caller's transcript.
use Rattle.std.proofs.Common.{zero, suc, ◌≡◌, ℕ, ◌<◌, ◌+◌, List, [], ◌∷◌, ◌++◌, map, length, refl, ap, sym, ◌∙◌, subst, arith, add-zero, inl, inr, ◌==◌, filter, slice_index_or}
use Rattle.std.specs.List.{AllZip, range_with_len}
use Rattle.std.proofs.lemmas.List.{get_or-replicate}
use Rattle.std.proofs.lemmas.Slice.Zip.{AllZip-long}
use Rattle.std.proofs.lemmas.Bool.{cases_Bool}
use Rattle.game_run.specs.{GameFile, part, ClosedGame, all_goods, Desk, desk_caller, desk_entries, boards_of, IsNewDesk, IsBorneOut, clock_calls, schedule, ClockTurn, clock_entries, clock_posts, MakesCalls, AreMadeBy, IsTranscript, Turn, cash_made, boards_shown, caller_parts, FloorIds, IsClockTranscript}
use Rattle.turn_lock.specs.Notes.{AreNotes}
use Rattle.floor.specs.ClosedBoards.{board_of}
use Rattle.clock_events.proofs.ClockTurns.{call_made}
use Rattle.agent_gate.proofs.DeskTurns.{all_made, made_none}

-- ---- lists by place

pub by_places : {X : Type 0} (xs : List X) (f : ℕ → X) (d : X) (from : ℕ) → ((k : ℕ) → k < length xs → slice_index_or xs k d ≡ f (from + k)) → xs ≡ map f (range_with_len from (length xs))
by_places [] f d from each = refl
by_places (x ∷ xs) f d from each =
    let first : x ≡ f from = each 0 (omega arith) ∙ ap f (add-zero from) in
    ap (λ y. y ∷ xs) first ∙ ap (λ l. f from ∷ l) (by_places xs f d (from + 1) (λ k lt. each (suc k) (omega (arith, lt)) ∙ ap f (shift from k)))
  where
    shift : (a k : ℕ) → a + suc k ≡ (a + 1) + k
    shift a k = omega arith

by_goods : {X : Type 0} (xs : List X) (f : ℕ → X) (d : X) → length xs ≡ 28 → ((good : ℕ) → good < 28 → slice_index_or xs good d ≡ f good) → xs ≡ map f all_goods
by_goods xs f d long each =
    by_places xs f d 0 (λ k lt. each k (omega (arith, lt, long)) ∙ ap f (sym (none_before k))) ∙ ap (λ n. map f (range_with_len 0 n)) long
  where
    none_before : (k : ℕ) → 0 + k ≡ k
    none_before k = omega arith

pub map_at : {X Y : Type 0} (f : X → Y) (xs : List X) (k : ℕ) (d : X) → slice_index_or (map f xs) k (f d) ≡ f (slice_index_or xs k d)
map_at f [] k d = refl
map_at f (x ∷ xs) zero d = refl
map_at f (x ∷ xs) (suc k) d = map_at f xs k d

each_mapped : {A B C : Type 0} (R : A → C → Type 0) (f : B → C) (xs : List A) (ys : List B) → AllZip R xs (map f ys) → AllZip (λ x y. R x (f y)) xs ys
each_mapped R f [] [] all = tt
each_mapped R f [] (y ∷ ys) all = all
each_mapped R f (x ∷ xs) [] all = all
each_mapped R f (x ∷ xs) (y ∷ ys) all = (all.0, each_mapped R f xs ys all.1)

-- ---- the transcript of an agent

module _ (closed : ClosedGame) (long : length closed.auctions ≡ 28) (ids : FloorIds) (number : ℕ) (before after : Desk) (new : IsNewDesk ids number before) (borne : IsBorneOut closed after) where
  of_caller : desk_caller after ≡ number → desk_entries after ≡ caller_parts closed number
  of_caller is = borne.entries ∙ ap (caller_parts closed) is

  boards_are : (turns : List Turn) → AreMadeBy turns before after → boards_of after ≡ map (λ good. boards_shown good turns) all_goods
  boards_are turns made =
      by_goods (boards_of after) (λ good. boards_shown good turns) [] (AllZip-long _ closed.auctions (boards_of after) borne.boards ∙ long)
      (λ good lt. made.boards good lt ∙ ap (λ l. l ++ boards_shown good turns) (ap (λ l. slice_index_or l good []) new.boards ∙ get_or-replicate 28 good [] [] lt))

  pub transcript_of : (turns : List Turn) → AreMadeBy turns before after → IsTranscript number closed turns
  transcript_of turns made =
      let is : desk_caller after ≡ number = made.same.1 ∙ new.caller in
      record {
        calls = sym (of_caller is) ∙ made.entries;
        cash = ap (λ n. part (λ e. e.caller) closed.cash n) (sym is) ∙ (sym borne.cash ∙ (made.cash ∙ ap (λ n. cash_made n turns) new.caller));
        boards = each_mapped (λ auction seen. AreNotes (board_of auction) auction.history (length auction.history) seen) (λ good. boards_shown good turns) closed.auctions all_goods
            (subst (λ l. AllZip (λ auction seen. AreNotes (board_of auction) auction.history (length auction.history) seen) closed.auctions l) (boards_are turns made) borne.boards);
      }

  pub absent_of : after ≡ before → IsTranscript number closed []
  absent_of same = transcript_of [] (subst (AreMadeBy [] before) (sym same) (all_made [] before before (made_none before new.entries new.cash)))

-- ---- the transcript of the clock

-- the calls of a good that turns made
calls_at_good : (good : ℕ) (turns : List ClockTurn) → map (λ p. p.1.call) (clock_entries good turns) ≡ map (λ call. call.1) (filter (λ call. call.0 == good) (map call_made turns))
calls_at_good good [] = refl
calls_at_good good (turn ∷ turns) = elim (cases_Bool (turn.good == good)) [ inl t ↦ rw t (ap (λ calls. turn.entry.call ∷ calls) (calls_at_good good turns)) | inr f ↦ rw f (calls_at_good good turns) ]

-- turns that make the calls of a schedule make those of each good
calls_at_goods : (game : GameFile) (turns : List ClockTurn) → map call_made turns ≡ schedule game → (goods : List ℕ)
    → map (λ calls. map (λ p. p.1.call) calls) (map (λ good. clock_entries good turns) goods) ≡ map (clock_calls game) goods
calls_at_goods game turns asked [] = refl
calls_at_goods game turns asked (good ∷ goods) =
    let here : map (λ p. p.1.call) (clock_entries good turns) ≡ clock_calls game good =
    calls_at_good good turns ∙ ap (λ calls. map (λ call. call.1) (filter (λ call. call.0 == good) calls)) asked in
    λ i. here i ∷ calls_at_goods game turns asked goods i

-- of each good the clock's calls are those of the schedule
pub scheduled_in : (game : GameFile) (closed : ClosedGame) → IsClockTranscript game closed → map (λ calls. map (λ p. p.1.call) calls) (caller_parts closed 8) ≡ map (clock_calls game) all_goods
scheduled_in game closed transcript = ap (map (λ calls. map (λ p. p.1.call) calls)) transcript.calls ∙ calls_at_goods game transcript.turns transcript.asked all_goods

-- the turns of the clock are its part of the histories
pub clock_transcript_of : (game : GameFile) (closed : ClosedGame) (ids : FloorIds) (before after : Desk) → IsNewDesk ids 8 before → IsBorneOut closed after → desk_caller after ≡ 8
    → MakesCalls (schedule game) before after → IsClockTranscript game closed
clock_transcript_of game closed ids before after new borne is made =
    let own : desk_entries after ≡ caller_parts closed 8 = borne.entries ∙ ap (caller_parts closed) is in
    record {
      turns = made.turns;
      asked = made.asked;
      calls = sym own ∙ by_goods (desk_entries after) (λ good. clock_entries good made.turns) [] after.kept.goods
          (λ good lt. made.entries good lt ∙ ap (λ l. l ++ clock_entries good made.turns) (ap (λ rows. slice_index_or rows good []) new.entries ∙ get_or-replicate 28 good [] [] lt));
      cash = ap (λ n. part (λ e. e.caller) closed.cash n) (sym is) ∙ (sym borne.cash ∙ (made.cash ∙ ap (λ l. l ++ clock_posts made.turns) new.cash));
    }
