-- Links are taken one by one.
use Rattle.std.proofs.Common.{zero, suc, ◌≡◌, ℕ, ◌<◌, ◌+◌, List, [], ◌∷◌, ◌++◌, map, length, take, refl, ap, sym, ◌∙◌, subst, true, false, Bool, Some, None, arith, length-append, length-set, replicate, count_by, is_some, slice_get, slice_set, slice_index_or, if◌then◌else◌, Option}
use Rattle.std.proofs.lemmas.List.{map_push, take-append-le}
use Rattle.std.proofs.lemmas.List.Sums.{fold_push}
use Rattle.std.proofs.Math.Seq.{take-append_seam}
use native.Mathlib.Decide.{ℕ_discrete}
use mathlib.Core.Logic.{dite}
use Rattle.game_run.specs.{GameFile, goes_on, last_of, then_known, Lines, Verdict, Seated, Syntax, WrongWord, Taken, Lost, Seats, seats_after, LinkState, free_seats, seats_given, is_seated, MayGoOn, HoldsInTurn, IsTurnedAway, IsGreeted, IsGreeting, AddsArrival, IsTakenIn, Keeps, AreKept, AreTaken}
use Rattle.tac_io.proofs.KnownPieces.{then_known-nothing, then_known-twice}
use Rattle.game_run.specs.declared.arrivals.Arrivals.{Arrivals}
use Rattle.game_run.specs.declared.arrivals.Greeting.{Greeting}
use Rattle.game_run.specs.declared.arrivals.Greeting.TheVariants as greetings
use Rattle.game_run.specs.declared.arrivals.Holder.{Holder}
use Rattle.game_run.specs.declared.arrivals.Holder.TheVariants.{Seat, Unseated}
use Rattle.game_run.proofs.Admitting.{one_more, follows}
use Rattle.game_run.proofs.KeptSeats.{get_set_same, map_set, seat_was_free, keeps_beside}

count_more : {X : Type 0} (p : X → Bool) (xs : List X) (x : X) (b : Bool) → p x ≡ b → count_by p (xs ++ x ∷ []) ≡ count_by p xs + (if b then 1 else 0)
count_more p xs x b is = fold_push (λ a y. a + (if p y then 1 else 0)) 0 xs x ∙ ap (λ c. count_by p xs + (if c then 1 else 0)) is

pub one_if : (b : Bool) → b ≡ true → (if b then 1 else zero) ≡ suc zero
one_if b is = ap (λ c. if c then 1 else zero) is

pub none_if : (b : Bool) → b ≡ false → (if b then 1 else zero) ≡ zero
none_if b is = ap (λ c. if c then 1 else zero) is

none_at : {X : Type 0} (xs : List (Option X)) (i : ℕ) → i < length xs → slice_index_or (map (λ x. is_some x) xs) i false ≡ false → slice_get xs i ≡ Some None
none_at [] i lt e = absurd (omega (arith, lt))
none_at (None ∷ xs) zero lt e = refl
none_at (Some x ∷ xs) zero lt e = absurd (cc)
none_at (x ∷ xs) (suc i) lt e = none_at xs i (omega (arith, lt)) e

pub changes_nothing : (seats : Seats) (v : Verdict) (before after : LinkState) → IsTurnedAway seats v before after → seats_after seats v ≡ seats
changes_nothing seats (Seated agent) before after h = absurd h
changes_nothing seats Syntax before after h = refl
changes_nothing seats WrongWord before after h = refl
changes_nothing seats Taken before after h = refl
changes_nothing seats Lost before after h = refl

unseated : (seats : Seats) (v : Verdict) (before after : LinkState) → IsTurnedAway seats v before after → is_seated v ≡ false
unseated seats (Seated agent) before after h = absurd h
unseated seats Syntax before after h = refl
unseated seats WrongWord before after h = refl
unseated seats Taken before after h = refl
unseated seats Lost before after h = refl

more_may : (vs : List Verdict) (v : Verdict) → MayGoOn vs → ((n : ℕ) → n < length vs → MayGoOn (take n vs)) → (n : ℕ) → n < length (vs ++ v ∷ []) → MayGoOn (take n (vs ++ v ∷ []))
more_may vs v now before n lt = dite (ℕ_discrete n (length vs))
    (λ e. subst MayGoOn (sym (ap (λ k. take k (vs ++ v ∷ [])) e ∙ take-append_seam vs (v ∷ []))) now)
    (λ ne. let size = length-append vs (v ∷ []) in let less : n < length vs = omega (arith, lt, size, ne) in
    subst MayGoOn (sym (take-append-le n vs (v ∷ []) (omega (arith, less)))) (before n less))

none_of : {X : Type 0} (n i : ℕ) (x : X) → slice_get (replicate n None) i ≡ Some (Some x) → ⊥
none_of zero i x e = cc
none_of (suc n) zero x e = cc
none_of (suc n) (suc i) x e = none_of n i x e

-- what holds of each place, after one is filled
pub each_place : {X : Type 0} (P : X → Type 0) (xs : List (Option X)) (a : ℕ) (y : X) → P y → ((i : ℕ) (x : X) → slice_get xs i ≡ Some (Some x) → P x)
    → (i : ℕ) (x : X) → slice_get (slice_set xs a (Some y)) i ≡ Some (Some x) → P x
each_place P [] a y new old i x at = old i x at
each_place P (w ∷ xs) zero y new old zero x at = let same : y ≡ x = cc in subst P same new
each_place P (w ∷ xs) zero y new old (suc i) x at = old (suc i) x at
each_place P (w ∷ xs) (suc a) y new old zero x at = old zero x at
each_place P (w ∷ xs) (suc a) y new old (suc i) x at = each_place P xs a y new (λ j z e. old (suc j) z e) i x at

module _ {L : Type 0} (state : L → LinkState) (game : GameFile) where
  pub none_taken : (pending : Option (List L)) (arrivals : Arrivals L) → arrivals.verdicts.items ≡ [] → arrivals.holders.items ≡ [] → arrivals.lines.items ≡ replicate 8 None
      → AreTaken state game pending pending arrivals
  none_taken pending arrivals verdicts holders lines = record {
    given = [];
    from = sym (then_known-nothing pending);
    kept = record {
      links = subst (λ vs. HoldsInTurn (Keeps state (IsGreeted state) arrivals.lines.items) (free_seats game) [] vs arrivals.holders.items) (sym verdicts)
          (subst (λ ss. HoldsInTurn (Keeps state (IsGreeted state) arrivals.lines.items) (free_seats game) [] [] ss) (sym holders) tt);
      seats = ap (map (λ l. is_some l)) lines ∙ ap (λ vs. (seats_given game vs).taken) (sym verdicts);
      readable = λ agent ls at. absurd (none_of 8 agent ls (sym (ap (λ l. slice_get l agent) lines) ∙ at));
      wide = ap length lines;
      no_more = λ n lt. absurd (omega (arith, lt, ap length verdicts));
    };
  }

  -- what holds of the arrivals, by their lists
  kept_by_lists : (given : List LinkState) (arrivals : Arrivals L) (vs : List Verdict) (holders : List (Holder L)) (lines : List (Option (Lines L))) → arrivals.verdicts.items ≡ vs → arrivals.holders.items ≡ holders
      → arrivals.lines.items ≡ lines → HoldsInTurn (Keeps state (IsGreeted state) lines) (free_seats game) given vs holders → map (λ l. is_some l) lines ≡ (seats_given game vs).taken
      → ((agent : ℕ) (ls : Lines L) → slice_get lines agent ≡ Some (Some ls) → goes_on (last_of ls) ≡ true) → length lines ≡ 8
      → ((n : ℕ) → n < length vs → MayGoOn (take n vs)) → AreKept state game given arrivals
  kept_by_lists given arrivals vs holders lines e f h links seats readable wide no_more = record {
    links = subst (λ ls. HoldsInTurn (Keeps state (IsGreeted state) ls) (free_seats game) given arrivals.verdicts.items arrivals.holders.items) (sym h)
        (subst (λ ss. HoldsInTurn (Keeps state (IsGreeted state) lines) (free_seats game) given arrivals.verdicts.items ss) (sym f)
        (subst (λ ws. HoldsInTurn (Keeps state (IsGreeted state) lines) (free_seats game) given ws holders) (sym e) links));
    seats = ap (map (λ l. is_some l)) h ∙ (seats ∙ ap (λ ws. (seats_given game ws).taken) (sym e));
    readable = λ agent ls at. readable agent ls (ap (λ l. slice_get l agent) (sym h) ∙ at);
    wide = ap length h ∙ wide;
    no_more = subst (λ ws. (n : ℕ) → n < length ws → MayGoOn (take n ws)) (sym e) no_more;
  }

  kept_more : (given : List LinkState) (before : LinkState) (old new : Arrivals L) (seats' : Seats) (seated : Bool) (greeting : Greeting L) → AreKept state game given old
      → MayGoOn old.verdicts.items → IsGreeting state (seats_given game old.verdicts.items) seats' before greeting → AddsArrival greeting old new seated → AreKept state game (given ++ before ∷ []) new
  kept_more given before old new seats' seated (greetings.Seated agent lines) kept may greets adds =
      let seats = seats_given game old.verdicts.items in
      let free = seat_was_free seats greets.1.line agent greets.1.seat in
      let none = none_at old.lines.items agent (omega (arith, kept.wide, adds.3)) (ap (λ ts. slice_index_or ts agent false) kept.seats ∙ free) in
      let agent_seats = slice_set old.lines.items agent (Some lines) in
      let same = follows (Keeps state (IsGreeted state) old.lines.items) (Keeps state (IsGreeted state) agent_seats) (λ s. Unit {0}) (λ s v x y u h. tt)
      (λ s v x holder u h. keeps_beside state (IsGreeted state) old.lines.items agent (Some lines) none s v x holder h) (free_seats game) given old.verdicts.items old.holders.items tt kept.links in
      kept_by_lists (given ++ before ∷ []) new (old.verdicts.items ++ Seated agent ∷ []) (old.holders.items ++ Seat agent ∷ []) agent_seats adds.0 adds.1 adds.2
      (one_more (Keeps state (IsGreeted state) agent_seats) (free_seats game) given old.verdicts.items old.holders.items before (Seated agent) (Seat agent) same
      (lines, refl, get_set_same old.lines.items agent (Some lines) (omega (arith, kept.wide, adds.3)), greets.1))
      (map_set (λ l. is_some l) old.lines.items agent (Some lines) ∙ (ap (λ ts. slice_set ts agent true) kept.seats ∙ ap (λ s. s.taken) (sym (fold_push seats_after (free_seats game) old.verdicts.items (Seated agent)))))
      (each_place (λ ls. goes_on (last_of ls) ≡ true) old.lines.items agent lines greets.1.more kept.readable) (length-set old.lines.items agent (Some lines) ∙ kept.wide)
      (more_may old.verdicts.items (Seated agent) may kept.no_more)
  kept_more given before old new seats' seated (greetings.Unseated verdict link) kept may greets adds =
      let seats = seats_given game old.verdicts.items in
      kept_by_lists (given ++ before ∷ []) new (old.verdicts.items ++ verdict ∷ []) (old.holders.items ++ Unseated link ∷ []) old.lines.items adds.0 adds.1 adds.2
      (one_more (Keeps state (IsGreeted state) old.lines.items) (free_seats game) given old.verdicts.items old.holders.items before verdict (Unseated link) kept.links greets.1)
      (kept.seats ∙ ap (λ s. s.taken) (sym (fold_push seats_after (free_seats game) old.verdicts.items verdict ∙ changes_nothing seats verdict before (state link) greets.1)))
      kept.readable kept.wide (more_may old.verdicts.items verdict may kept.no_more)

  gate_of : (before : LinkState) (old new : Arrivals L) (seats' : Seats) (seated : Bool) (greeting : Greeting L)
      → IsGreeting state (seats_given game old.verdicts.items) seats' before greeting → AddsArrival greeting old new seated → seats' ≡ seats_given game new.verdicts.items
  gate_of before old new seats' seated (greetings.Seated agent lines) greets adds =
      greets.0 ∙ (sym (fold_push seats_after (free_seats game) old.verdicts.items (Seated agent)) ∙ ap (seats_given game) (sym adds.0))
  gate_of before old new seats' seated (greetings.Unseated verdict link) greets adds =
      greets.0 ∙ (sym (fold_push seats_after (free_seats game) old.verdicts.items verdict ∙ changes_nothing (seats_given game old.verdicts.items) verdict before (state link) greets.1) ∙ ap (seats_given game) (sym adds.0))

  count_of_seats : (before : LinkState) (old new : Arrivals L) (seats seats' : Seats) (seated : Bool) (greeting : Greeting L)
      → IsGreeting state seats seats' before greeting → AddsArrival greeting old new seated → count_by is_seated new.verdicts.items ≡ count_by is_seated old.verdicts.items + (if seated then 1 else 0)
  count_of_seats before old new seats seats' seated (greetings.Seated agent lines) greets adds =
      ap (count_by is_seated) adds.0 ∙ count_more is_seated old.verdicts.items (Seated agent) seated (sym adds.4)
  count_of_seats before old new seats seats' seated (greetings.Unseated verdict link) greets adds =
      ap (count_by is_seated) adds.0 ∙ count_more is_seated old.verdicts.items verdict seated (unseated seats verdict before (state link) greets.1 ∙ sym adds.3)

  pub one_taken : (pending pending' pending'' : Option (List L)) (link : L) (old new : Arrivals L) (seats seats' : Seats) (seated : Bool) → AreTaken state game pending pending' old
      → seats ≡ seats_given game old.verdicts.items → MayGoOn old.verdicts.items → pending' ≡ then_known (link ∷ []) pending'' → IsTakenIn state seats seats' (state link) old new seated → AreTaken state game pending pending'' new
  one_taken pending pending' pending'' link old new seats seats' seated taken gate may given w = record {
    given = taken.given ++ link ∷ [];
    from = taken.from ∙ (ap (then_known taken.given) given ∙ then_known-twice pending'' taken.given (link ∷ []));
    kept = subst (λ ls. AreKept state game ls new) (sym (map_push state taken.given link))
        (kept_more (map state taken.given) (state link) old new seats' seated w.greeting taken.kept may (subst (λ s. IsGreeting state s seats' (state link) w.greeting) gate w.greets) w.adds);
  }

  pub gate_after : (link : L) (old new : Arrivals L) (seats seats' : Seats) (seated : Bool) → seats ≡ seats_given game old.verdicts.items → IsTakenIn state seats seats' (state link) old new seated
      → seats' ≡ seats_given game new.verdicts.items
  gate_after link old new seats seats' seated gate w = gate_of (state link) old new seats' seated w.greeting (subst (λ s. IsGreeting state s seats' (state link) w.greeting) gate w.greets) w.adds

  pub seats_counted : (link : L) (old new : Arrivals L) (seats seats' : Seats) (seated : Bool) → IsTakenIn state seats seats' (state link) old new seated
      → count_by is_seated new.verdicts.items ≡ count_by is_seated old.verdicts.items + (if seated then 1 else 0)
  seats_counted link old new seats seats' seated w = count_of_seats (state link) old new seats seats' seated w.greeting w.greets w.adds
