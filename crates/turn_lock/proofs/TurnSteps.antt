-- Each step on the table of a lock keeps its invariant.
use Rattle.std.proofs.Common.{◌≡◌, ◌≢◌, ℕ, ◌+◌, ◌%◌, ◌^◌, ◌<◌, ◌≤◌, List, [], ◌∷◌, ◌++◌, length, take, set, get_or, sum_by, sym, refl, ap, ◌∙◌, subst, arith, ◌⊎◌, inl, inr, ⊎_elim, length-set, length-append, take_all, Option, Some, None}
use Rattle.std.proofs.lemmas.List.{take-append-le}
use Rattle.std.proofs.lemmas.List.Sums.{sum_by_push}
use mathlib.Core.Option.{Option as Option_, some, none, some-injective, some-ne-none}
use mathlib.Core.Logic.{dite}
use native.Mathlib.Decide.{ℕ_discrete}
use lib.ListN.{get_elem?}
use lib.Seq.{set-get_or}
use Rattle.atomic_table.specs.Table.{State, Me, step, keeps, takes, gives, stepped, opening, Allows, Splits, Joins, Final, Seen}
use Rattle.atomic_table.proofs.Lists.{at_set, set_here, set_else, set_again, at_longer}
use Rattle.tac_base.specs.declared.calls.Board.{Board}
use Rattle.turn_lock.specs.declared.view.View.{View}
use Rattle.turn_lock.specs.declared.view.Returned.{Returned}
use Rattle.turn_lock.specs.Part.{part}
use Rattle.turn_lock.specs.BoardWord.{IsSmall, packed, unpacked}
use Rattle.turn_lock.specs.{own_at_first, spent, AreKnown, Knows, IsReturned, IsShelved, Turning, ticketed, at_turn, turned, noted, with_pass, next_pass, returned_from, with_returned, drew, looked, PublishesBoard, peeked}
use Rattle.turn_lock.proofs.Places.{sum_by-set, sum_by-le_length, le-sum_by, place_below, at_end, at_only}
use Rattle.turn_lock.proofs.Parts.{part_mine, part_other, part_below}
use Rattle.turn_lock.proofs.Words.{packed_count, unpacked-packed}

some_inj : {A : Type 0} (x y : A) → Some x ≡ Some y → x ≡ y
some_inj x y e = cc

some_not_none : {A : Type 0} (x : A) → Some x ≡ None → ⊥
some_not_none x e = cc

no_some : {A : Type 0} (o : Option A) → ((x : A) → o ≡ Some x → ⊥) → o ≡ None
no_some None f = refl
no_some (Some x) f = absurd (f x refl)

abbrev pub get_or_else : {A : Type 0} → List A → A → A
get_or_else [] d = d
get_or_else (x ∷ xs) d = x

pub in_hand : {A : Type 0} (l r : List (ℕ × A)) (x y : A) → l ≡ (0, x) ∷ [] → l ≡ (0, y) ∷ r → x ≡ y
in_hand {A} l r x y a b = ap (λ (k : List (ℕ × A)). (get_or_else k (0, x)).1) (sym a ∙ b)

module _ {S G E : Type 0} (setup : S → G) (history : S → List E) (legal : G → List E → Type 0) (board : G → List E → Board) (caller_of : E → ℕ) (the_start : S) where
  abbrev the_setup : G
  the_setup = setup the_start

  abbrev V : Type 0
  V = View S G E

  abbrev live : V → ℕ
  live v = v.live

  abbrev waits : V → ℕ
  waits v = v.waits

  abbrev St : Type 0
  St = State S V

  abbrev M : Type 0
  M = Me S V

  abbrev Rule : St → Type 0
  Rule = Turning setup history legal board caller_of the_start

  abbrev Known : List E → ℕ → ℕ → V → Type 0
  Known log drawn i v = Knows (board the_setup) caller_of the_start the_setup log drawn i v

  abbrev Shelf : List (Option_ S) → List E → List V → Type 0
  Shelf = IsShelved setup history legal board caller_of the_start

  alive : (log : List E) (drawn i : ℕ) (v : V) → Known log drawn i v → v.waits ≡ 1 → v.live ≡ 1
  alive log drawn i v k one = let f = k.flags in omega arith

  same_view : (vs : List V) (i : ℕ) (v w : V) → get_elem? vs i ≡ some v → get_elem? vs i ≡ some w → v ≡ w
  same_view vs i v w a b = some-injective v w (sym a ∙ b)

  not_own : (s : St) (r : Rule s) (id : ℕ) (v : V) → get_elem? s.views id ≡ some v → v.live ≡ 1 → id ≢ 0
  not_own s r id v at up e = let same : v ≡ r.own = same_view s.views 0 v r.own (subst (λ (k : ℕ). get_elem? s.views k ≡ some v) e at) r.first in
      let q = r.quiet in let l : v.live ≡ r.own.live = ap live same in absurd (omega arith)

  -- more tickets drawn
  more_drawn : (log : List E) (drawn drawn' i : ℕ) (v : V) → drawn ≤ drawn' → Known log drawn i v → Known log drawn' i v
  more_drawn log drawn drawn' i v more k = record {
    flags = k.flags;
    idle = k.idle;
    pass = λ up. let l = k.pass up in record { seat = l.seat; origin = l.origin; mine = l.mine; past = l.past; seen = l.seen; notes = l.notes; turn = λ one. let t = l.turn one in (t.0, omega arith); held = l.held };
  }

  shelf_keeps : (hs : List (Option_ S)) (log : List E) (vs : List V) (id : ℕ) (v w : V) → get_elem? vs id ≡ some v → w.held ≡ v.held → w.live ≡ v.live → Shelf hs log vs
      → Shelf hs log (set vs id w)
  shelf_keeps hs log vs id v w at held up sh = ⊎_elim
      (λ t. inl (t.0, t.1, t.2, t.3, λ i u e. ⊎_elim (λ (q : (i ≡ id) × (w ≡ u)). ap (λ (x : V). x.held) (sym q.1) ∙ (held ∙ t.4 id v at)) (λ (q : (i ≢ id) × (get_elem? vs i ≡ some u)). t.4 i u q.1) (at_set vs id i w u e)))
      (λ t. let i : ℕ = t.1.0 in let u : V = t.1.1 in dite (ℕ_discrete i id)
      (λ e. let same : v ≡ u = same_view vs id v u at (subst (λ (k : ℕ). get_elem? vs k ≡ some u) e t.1.2) in
      inr (t.0, (id, w, set_here vs id w (place_below vs id v at), up ∙ (ap live same ∙ t.1.3), held ∙ (ap (λ (x : V). x.held) same ∙ t.1.4))))
      (λ ne. inr (t.0, (i, u, set_else vs id i w ne ∙ t.1.2, t.1.3, t.1.4))))
      sh

  -- a step of one pass that leaves the history alone
  one_moves : (s : St) (r : Rule s) (id : ℕ) (v w : V) (ws : List ℕ) (hs : List (Option_ S)) (drawn : ℕ)
      → get_elem? s.views id ≡ some v → v.live ≡ 1 → w.live ≡ 1
      → ws ≡ drawn ∷ packed (board the_setup r.log) ∷ [] → r.drawn ≤ drawn → drawn + v.waits ≡ r.drawn + w.waits
      → Known r.log drawn id w
      → ((j : ℕ) (u : V) → j ≢ id → get_elem? s.views j ≡ some u → w.waits ≡ 1 → u.waits ≡ 1 → w.ticket ≢ u.ticket)
      → Shelf hs r.log (set s.views id w)
      → Rule record { words = ws; homes = hs; views = set s.views id w }
  one_moves s r id v w ws hs drawn at up up' words more balance known alone shelf = record {
    log = r.log;
    drawn = drawn;
    own = r.own;
    words = words;
    lawful = r.lawful;
    counted = r.counted;
    small = r.small;
    tickets = let t = r.tickets in let a = sum_by-set waits s.views id v w at in omega arith;
    first = set_else s.views id 0 w (λ e. not_own s r id v at up (sym e)) ∙ r.first;
    quiet = r.quiet;
    origin = r.origin;
    seats = length-set s.views id w ∙ r.seats;
    few = r.few;
    lives = let l = r.lives in let a = sum_by-set live s.views id v w at in omega arith;
    nobody_else = r.nobody_else;
    each = λ i u e. ⊎_elim (λ (q : (i ≡ id) × (w ≡ u)). subst (λ (x : ℕ × V). Known r.log drawn x.0 x.1) (λ k. (sym q.0 k, q.1 k)) known)
        (λ (q : (i ≢ id) × (get_elem? s.views i ≡ some u)). more_drawn r.log r.drawn drawn i u more (r.each i u q.1)) (at_set s.views id i w u e);
    apart = λ i j a b e f one two same. ⊎_elim
        (λ (p : (i ≡ id) × (w ≡ a)). ⊎_elim (λ (q : (j ≡ id) × (w ≡ b)). p.0 ∙ sym q.0)
        (λ (q : (j ≢ id) × (get_elem? s.views j ≡ some b)). absurd (alone j b q.0 q.1 (ap waits p.1 ∙ one) two (ap (λ (x : V). x.ticket) p.1 ∙ same))) (at_set s.views id j w b f))
        (λ (p : (i ≢ id) × (get_elem? s.views i ≡ some a)). ⊎_elim (λ (q : (j ≡ id) × (w ≡ b)). absurd (alone i a p.0 p.1 (ap waits q.1 ∙ two) one (ap (λ (x : V). x.ticket) q.1 ∙ sym same)))
        (λ (q : (j ≢ id) × (get_elem? s.views j ≡ some b)). r.apart i j a b p.1 q.1 one two same) (at_set s.views id j w b f))
        (at_set s.views id i w a e);
    returned = λ k b e. let l = r.returned k b e in record {
      made = subst (λ (n : ℕ). b.caller + 1 < n) (sym (length-set s.views id w)) l.made;
      spent = λ u f. ⊎_elim (λ (q : (b.caller + 1 ≡ id) × (w ≡ u)). let gone = l.spent v (subst (λ (n : ℕ). get_elem? s.views n ≡ some v) (sym q.0) at) in absurd (omega arith))
          (λ (q : (b.caller + 1 ≢ id) × (get_elem? s.views (b.caller + 1) ≡ some u)). l.spent u q.1) (at_set s.views id (b.caller + 1) w u f);
      mine = l.mine;
      notes = l.notes;
    };
    shelf = shelf;
  }

  few_wait : (s : St) (r : Rule s) → r.drawn < 16777226
  few_wait s r = let t = r.tickets in let c = r.counted in let sm = r.small.0 in let f = r.few in let n = r.seats in
      let a = sum_by-le_length waits s.views (λ i v e. let k = r.each i v e in let g = k.flags in omega arith) in omega arith

  -- while a pass has the turn, no other has it
  unheld : (s : St) (r : Rule s) (id : ℕ) (v u : V) (i : ℕ) {y : G} {h : List E} → get_elem? s.views id ≡ some v → v.live ≡ 1 → v.held ≡ Some (y, h) → i ≢ id
      → get_elem? s.views i ≡ some u → u.held ≡ None
  unheld s r id v u i {y} {h} at up held ne there = let f = ((r.each id v at).pass up).held y h held in let ku = r.each i u there in
      dite (ℕ_discrete u.live 1)
      (λ up'. let lu = ku.pass up' in no_some u.held (λ p is. let t = lu.held p.0 p.1 is in ne (r.apart i id u v there at t.0 f.0 (t.1 ∙ sym f.1))))
      (λ down. let g = ku.flags in ku.idle (omega arith))

  -- a view with a ticket is neither the lock's own nor new
  waiting : (old : List V) (v : V) → v.live ≡ 0 → v.waits ≤ v.live → (i : ℕ) (a : V) → get_elem? (set old 0 (with_pass v) ++ next_pass v ∷ []) i ≡ some a → a.waits ≡ 1
      → get_elem? old i ≡ some a
  waiting old v down flags i a e one = ⊎_elim
      (λ (t : get_elem? (set old 0 (with_pass v)) i ≡ some a). ⊎_elim (λ (q : (i ≡ 0) × (with_pass v ≡ a)). let n : v.waits ≡ a.waits = ap waits q.1 in absurd (omega arith)) (λ (q : (i ≢ 0) × (get_elem? old i ≡ some a)). q.1) (at_set old 0 i (with_pass v) a t))
      (λ (t : (i ≡ length (set old 0 (with_pass v))) × (next_pass v ≡ a)). let n : 0 ≡ a.waits = ap waits t.1 in absurd (omega arith))
      (at_end (set old 0 (with_pass v)) (next_pass v) a i e)

  -- a pass that rests draws a ticket
  draws_at : (slots id : ℕ) (v : V) → v.live ≡ 1 → v.waits ≡ 0 → Allows Rule slots id (v, []) 0 (λ n. (n + 1) % 2 ^ 64) (drew (step slots 0 1 0 none) (v, []))
  draws_at slots id v up rests s r _ at _ = let x : ℕ = get_or s.words 0 0 in let is : x ≡ r.drawn = ap (λ (l : List ℕ). get_or l 0 0) r.words in let few = few_wait s r in
      let w : V = ticketed v x in let k = r.each id v at in let l = k.pass up in
      let next : (x + 1) % 2 ^ 64 ≡ r.drawn + 1 = omega arith in (
        w,
        keeps,
        tt,
        one_moves s r id v w (set s.words 0 ((x + 1) % 2 ^ 64)) s.homes (r.drawn + 1) at up up
            (ap (λ (ws : List ℕ). set ws 0 ((x + 1) % 2 ^ 64)) r.words ∙ ap (λ (n : ℕ). n ∷ packed (board the_setup r.log) ∷ []) next)
            (omega arith) (omega arith)
            record {
              flags = (k.flags.0, omega arith);
              idle = λ none. absurd (omega arith);
              pass = λ _. record {
                seat = l.seat;
                origin = l.origin;
                mine = l.mine;
                past = l.past;
                seen = l.seen;
                notes = l.notes;
                turn = λ _. let t = r.tickets in (omega arith, omega arith);
                held = λ y h e. let t = (l.held y h e).0 in absurd (omega arith);
              };
            }
            (λ j u ne e one two same. let ku = r.each j u e in let t = (ku.pass (alive r.log r.drawn j u ku two)).turn two in absurd (omega arith))
            (shelf_keeps s.homes r.log s.views id v w at refl refl r.shelf),
        refl,
      )

  unchanged : (s : St) (r : Rule s) (i id : ℕ) (m : M) → get_elem? s.views id ≡ some m.0 → Rule (stepped s i (get_or s.words i 0) id m.1 m.0 keeps)
  unchanged s r i id m at = subst (λ (x : List ℕ × List V). Rule record { words = x.0; homes = s.homes; views = x.1 }) (λ k. (sym (set-get_or s.words i 0) k, sym (set_again s.views id m.0 at) k)) r

  -- a pass with a ticket polls the board, and takes the state if the count is its ticket
  looks_at : (slots id : ℕ) (v : V) → v.live ≡ 1 → v.waits ≡ 1 → v.held ≡ None → Allows Rule slots id (v, []) 1 (λ n. n) (looked setup history caller_of (step slots 1 0 0 none) (v, []))
  looks_at slots id v up one free s r _ at _ = let x : ℕ = get_or s.words 1 0 in let is : x ≡ packed (board the_setup r.log) = ap (λ (l : List ℕ). get_or l 1 0) r.words in
      let count : x % 16777216 ≡ length r.log = ap (λ (n : ℕ). n % 16777216) is ∙ (packed_count (board the_setup r.log) r.small ∙ r.counted) in
      let k = r.each id v at in let l = k.pass up in dite (ℕ_discrete (x % 16777216) v.ticket)
      (λ hit. ⊎_elim
      (λ t. let y : S = t.0 in let w : V = at_turn v (setup y) (history y) in (
        w,
        takes 0 y,
        ap (λ (hs : List (Option_ S)). get_elem? hs 0) t.1,
        one_moves s r id v w (set s.words 1 x) (set s.homes 0 none) r.drawn at up up
            (set-get_or s.words 1 0 ∙ r.words) (omega arith) refl
            record {
              flags = k.flags;
              idle = λ none. absurd (omega arith);
              pass = λ _. record {
                seat = l.seat;
                origin = l.origin;
                mine = l.mine;
                past = l.past;
                seen = l.seen;
                notes = l.notes;
                turn = l.turn;
                held = λ a h e. (one, sym hit ∙ count, sym (ap (λ (p : G × List E). p.0) (some_inj (setup y, history y) (a, h) e)) ∙ t.2, sym (ap (λ (p : G × List E). p.1) (some_inj (setup y, history y) (a, h) e)) ∙ t.3);
              };
            }
            (λ j u ne e _ two same. ne (r.apart j id u v e at two one (sym same)))
            (inr (ap (λ (hs : List (Option_ S)). set hs 0 none) t.1, (id, w, set_here s.views id w (place_below s.views id v at), up, λ i. Some (t.2 i, t.3 i)))),
        (
          (λ _. record {
            state = y;
            is = refl;
            kept = λ start from. t.2 ∙ ap setup (some_inj the_start start (sym l.origin ∙ from));
            count = ap length t.3 ∙ (sym count ∙ hit);
            mine = ap (λ (h : List E). part caller_of h v.caller) t.3 ∙ sym l.mine;
            seen = subst (λ (h : List E). v.seen ≤ length h) (sym t.3) l.seen;
          }),
          λ miss. absurd (miss hit),
        ),
      ))
      (λ t. let i : ℕ = t.1.0 in let u : V = t.1.1 in let lu = (r.each i u t.1.2).pass t.1.3 in let hu = lu.held the_setup r.log t.1.4 in
      let here : i ≡ id = r.apart i id u v t.1.2 at hu.0 one (hu.1 ∙ (sym count ∙ hit)) in
      let same : v ≡ u = same_view s.views id v u at (subst (λ (n : ℕ). get_elem? s.views n ≡ some u) here t.1.2) in
      absurd (some_not_none (the_setup, r.log) (sym t.1.4 ∙ (sym (ap (λ (x : V). x.held) same) ∙ free))))
      r.shelf)
      (λ miss. (v, keeps, tt, unchanged s r 1 id (v, []) at, ((λ hit. absurd (miss hit)), λ _. refl)))

  pub draws : (slots id : ℕ) (m : M) → m.1 ≡ [] → m.0.live ≡ 1 → m.0.waits ≡ 0 → Allows Rule slots id m 0 (λ n. (n + 1) % 2 ^ 64) (drew (step slots 0 1 0 none) m)
  draws slots id m e up rests = subst (λ (l : List (ℕ × S)). Allows Rule slots id (m.0, l) 0 (λ n. (n + 1) % 2 ^ 64) (drew (step slots 0 1 0 none) (m.0, l))) (sym e) (draws_at slots id m.0 up rests)

  pub looks : (slots id : ℕ) (m : M) → m.1 ≡ [] → m.0.live ≡ 1 → m.0.waits ≡ 1 → m.0.held ≡ None → Allows Rule slots id m 1 (λ n. n) (looked setup history caller_of (step slots 1 0 0 none) m)
  looks slots id m e up one free = subst (λ (l : List (ℕ × S)). Allows Rule slots id (m.0, l) 1 (λ n. n) (looked setup history caller_of (step slots 1 0 0 none) (m.0, l))) (sym e) (looks_at slots id m.0 up one free)

  -- the holder gives back a state whose history has one entry more, of its caller
  publishes_at : (slots id : ℕ) (v : V) (x : S) (y : G) (h : List E) (e : E) (b : ℕ) → v.live ≡ 1 → v.held ≡ Some (y, h) → setup x ≡ y → history x ≡ h ++ e ∷ []
      → caller_of e ≡ v.caller → legal (setup x) (history x)
      → (board (setup x) (history x)).count ≡ length (history x) → IsSmall (board (setup x) (history x)) → b ≡ packed (board (setup x) (history x))
      → Allows Rule slots id (v, (0, x) ∷ []) 1 (λ _. b) (λ _. PublishesBoard history caller_of (step slots 1 b 0 none) (v, (0, x) ∷ []) b)
  publishes_at slots id v x y h e b up held same_setup longer mine_is lawful counted small word s r _ at _ =
      let k = r.each id v at in let l = k.pass up in let f = l.held y h held in
      let z_is : setup x ≡ the_setup = same_setup ∙ f.2 in
      let log' : List E = history x in
      let new : log' ≡ r.log ++ e ∷ [] = longer ∙ ap (λ (q : List E). q ++ e ∷ []) f.3 in
      let long : length log' ≡ length r.log + 1 = ap length new ∙ length-append r.log (e ∷ []) in
      let w : V = turned caller_of v log' in
      let others : (c : ℕ) → c ≢ v.caller → part caller_of log' c ≡ part caller_of r.log c = λ c ne. ap (λ (q : List E). part caller_of q c) new ∙ part_other caller_of r.log e c (λ is. ne (sym is ∙ mine_is)) in
      let prefix : (n : ℕ) → n ≤ length r.log → board the_setup (take n log') ≡ board the_setup (take n r.log) = λ n le. ap (board the_setup) (ap (take n) new ∙ take-append-le n r.log (e ∷ []) le) in
      let out : s.homes ≡ none ∷ [] = ⊎_elim (λ t. absurd (some_not_none (y, h) (sym held ∙ t.4 id v at))) (λ t. t.0) r.shelf in
      let own_apart : (b : Returned E) → IsReturned (board the_setup) caller_of r.log s.views b → b.caller ≢ v.caller = λ b g is. let gone = g.spent v (subst (λ (n : ℕ). get_elem? s.views n ≡ some v) (sym (ap (λ (n : ℕ). n + 1) is ∙ l.seat)) at) in absurd (omega arith) in (
        w,
        gives,
        tt,
        record {
          log = log';
          drawn = r.drawn;
          own = r.own;
          words = ap (λ (ws : List ℕ). set ws 1 b) r.words ∙ ap (λ (n : ℕ). r.drawn ∷ n ∷ []) (word ∙ ap (λ (q : G). packed (board q log')) z_is);
          lawful = subst (λ (q : G). legal q log') z_is lawful;
          counted = subst (λ (q : G). (board q log').count ≡ length log') z_is counted;
          small = subst (λ (q : G). IsSmall (board q log')) z_is small;
          tickets = let t = r.tickets in let a = sum_by-set waits s.views id v w at in let o = f.0 in omega arith;
          first = set_else s.views id 0 w (λ q. not_own s r id v at up (sym q)) ∙ r.first;
          quiet = r.quiet;
          origin = r.origin;
          seats = length-set s.views id w ∙ r.seats;
          few = r.few;
          lives = let n = r.lives in let a = sum_by-set live s.views id v w at in omega arith;
          nobody_else = λ c far. let inside = place_below s.views id v at in let n = r.seats in let seat = l.seat in others c (λ q. absurd (omega arith)) ∙ r.nobody_else c far;
          each = λ i u g. ⊎_elim
              (λ (q : (i ≡ id) × (w ≡ u)). subst (λ (p : ℕ × V). Known log' r.drawn p.0 p.1) (λ j. (sym q.0 j, q.1 j)) record {
                flags = (k.flags.0, omega arith);
                idle = λ none. absurd (omega arith);
                pass = λ _. record {
                  seat = l.seat;
                  origin = l.origin;
                  mine = refl;
                  past = part_below caller_of log' v.caller;
                  seen = omega arith;
                  notes = λ i n t. let o = l.notes i n t in let le = o.0 in let sn = l.seen in (omega arith, o.1 ∙ sym (prefix n.0 (omega arith)));
                  turn = λ bad. absurd (omega arith);
                  held = λ a c bad. absurd (some_not_none (a, c) (sym bad));
                };
              })
              (λ (q : (i ≢ id) × (get_elem? s.views i ≡ some u)). let ku = r.each i u q.1 in record {
                flags = ku.flags;
                idle = ku.idle;
                pass = λ up'. let lu = ku.pass up' in record {
                  seat = lu.seat;
                  origin = lu.origin;
                  mine = lu.mine ∙ sym (others u.caller (λ is. q.0 (sym lu.seat ∙ (ap (λ (n : ℕ). n + 1) is ∙ l.seat))));
                  past = lu.past;
                  seen = let sn = lu.seen in omega arith;
                  notes = λ i n t. let o = lu.notes i n t in let le = o.0 in let sn = lu.seen in (o.0, o.1 ∙ sym (prefix n.0 (omega arith)));
                  turn = λ one. let t = lu.turn one in let ne : u.ticket ≢ v.ticket = λ is. q.0 (r.apart i id u v q.1 at one f.0 is) in let mine' = f.1 in (omega arith, t.1);
                  held = λ a c bad. let t = lu.held a c bad in absurd (q.0 (r.apart i id u v q.1 at t.0 f.0 (t.1 ∙ sym f.1)));
                };
              })
              (at_set s.views id i w u g);
          apart = λ i j a c g o one two same. ⊎_elim
              (λ (p : (i ≡ id) × (w ≡ a)). let n : w.waits ≡ a.waits = ap waits p.1 in absurd (omega arith))
              (λ (p : (i ≢ id) × (get_elem? s.views i ≡ some a)). ⊎_elim (λ (q : (j ≡ id) × (w ≡ c)). let n : w.waits ≡ c.waits = ap waits q.1 in absurd (omega arith))
              (λ (q : (j ≢ id) × (get_elem? s.views j ≡ some c)). r.apart i j a c p.1 q.1 one two same) (at_set s.views id j w c o))
              (at_set s.views id i w a g);
          returned = λ i b g. let o = r.returned i b g in record {
            made = subst (λ (n : ℕ). b.caller + 1 < n) (sym (length-set s.views id w)) o.made;
            spent = λ u t. ⊎_elim (λ (q : (b.caller + 1 ≡ id) × (w ≡ u)). let gone = o.spent v (subst (λ (n : ℕ). get_elem? s.views n ≡ some v) (sym q.0) at) in absurd (omega arith))
                (λ (q : (b.caller + 1 ≢ id) × (get_elem? s.views (b.caller + 1) ≡ some u)). o.spent u q.1) (at_set s.views id (b.caller + 1) w u t);
            mine = o.mine ∙ sym (others b.caller (own_apart b o));
            notes = λ i n t. let p = o.notes i n t in let le = p.0 in (omega arith, p.1 ∙ sym (prefix n.0 p.0));
          };
          shelf = inl (
            x,
            ap (λ (hs : List (Option_ S)). set hs 0 (some x)) out,
            z_is,
            refl,
            λ i u g. ⊎_elim (λ (q : (i ≡ id) × (w ≡ u)). ap (λ (p : V). p.held) (sym q.1))
                (λ (q : (i ≢ id) × (get_elem? s.views i ≡ some u)). unheld s r id v u i at up held q.0 q.1) (at_set s.views id i w u g),
          );
        },
        λ x' is. let same : x ≡ x' = ap (λ (c : List (ℕ × S)). (get_or_else c (0, x)).1) is in ap (λ (q : S). (turned caller_of v (history q), [])) same,
      )

  pub publishes : (slots id : ℕ) (v : V) (c : List (ℕ × S)) (x₀ x : S) (e : E) (b : ℕ) (shown : Board) → c ≡ [] → v.live ≡ 1 → v.held ≡ Some (setup x₀, history x₀)
      → setup x ≡ setup x₀ → history x ≡ history x₀ ++ e ∷ [] → caller_of e ≡ v.caller
      → legal (setup x) (history x) → shown ≡ board (setup x) (history x) → shown.count ≡ length (history x) → (shown.count < 16777216) × (shown.bid ≤ 10001) × (shown.ask ≤ 10001) → b ≡ packed shown
      → Allows Rule slots id (v, (0, x) ∷ c) 1 (λ _. b) (λ _. PublishesBoard history caller_of (step slots 1 b 0 none) (v, (0, x) ∷ c) b)
  publishes slots id v c x₀ x e b shown none-else up held same longer mine lawful is counted small word =
      let fits : IsSmall shown = let p = small.0 in let q = small.1 in let t = small.2 in (omega arith, omega arith, omega arith) in
      subst (λ (l : List (ℕ × S)). Allows Rule slots id (v, (0, x) ∷ l) 1 (λ _. b) (λ _. PublishesBoard history caller_of (step slots 1 b 0 none) (v, (0, x) ∷ l) b)) (sym none-else)
      (publishes_at slots id v x (setup x₀) (history x₀) e b up held same longer mine lawful (subst (λ (q : Board). q.count ≡ length (history x)) is counted) (subst IsSmall is fits) (word ∙ ap packed is))

  -- a pass that rests peeks
  pub peeks : (slots id : ℕ) (m : M) → m.0.live ≡ 1 → Allows Rule slots id m 1 (λ n. n) (peeked (step slots 1 0 0 none) m)
  peeks slots id m up s r _ at _ = let v : V = m.0 in let x : ℕ = get_or s.words 1 0 in let is : x ≡ packed (board the_setup r.log) = ap (λ (l : List ℕ). get_or l 1 0) r.words in
      let q : unpacked x ≡ board the_setup r.log = ap unpacked is ∙ unpacked-packed (board the_setup r.log) r.small in
      let n : x % 16777216 ≡ length r.log = ap (λ (b : Board). b.count) q ∙ r.counted in
      let k = r.each id v at in let l = k.pass up in let sn : v.seen ≤ length r.log = l.seen in let w : V = noted v (unpacked x) in (
        w,
        keeps,
        tt,
        one_moves s r id v w (set s.words 1 x) s.homes r.drawn at up up (set-get_or s.words 1 0 ∙ r.words) (omega arith) refl
            record {
              flags = k.flags;
              idle = λ down. absurd (omega arith);
              pass = λ _. record {
                seat = l.seat;
                origin = l.origin;
                mine = l.mine;
                past = λ i p e. let below = l.past i p e in omega arith;
                seen = omega arith;
                notes = λ i note e. ⊎_elim (λ (t : get_elem? v.notes i ≡ some note). let o = l.notes i note t in let le = o.0 in (omega arith, o.1))
                    (λ (t : (i ≡ length v.notes) × ((x % 16777216, unpacked x) ≡ note)). subst (λ (a : ℕ × Board). (a.0 ≤ x % 16777216) × (a.1 ≡ board the_setup (take a.0 r.log))) t.1
                    (omega arith, q ∙ ap (board the_setup) (sym (ap (λ (c : ℕ). take c r.log) n ∙ take_all (length r.log) r.log (omega arith))))) (at_end v.notes (x % 16777216, unpacked x) note i e);
                turn = l.turn;
                held = l.held;
              };
            }
            (λ j u ne e one two same. ne (r.apart j id u v e at two one (sym same)))
            (shelf_keeps s.homes r.log s.views id v w at refl refl r.shelf),
        (refl, omega arith),
      )

  -- the lock's own seat makes a pass
  pub splits_off : (v : V) → v.passes < 9 → Splits Rule 0 v (with_pass v) (next_pass v)
  splits_off v room s r at = let same : v ≡ r.own = same_view s.views 0 v r.own at r.first in let made : v.passes ≡ r.own.passes = ap (λ (x : V). x.passes) same in
      let down : v.live ≡ 0 = ap live same ∙ r.quiet in let back : v.returned ≡ r.own.returned = ap (λ (x : V). x.returned) same in let k = r.each 0 v at in let flags = k.flags in
      let w : V = with_pass v in let f : V = next_pass v in let vs : List V = set s.views 0 w in let long : length vs ≡ length s.views = length-set s.views 0 w in
      let first_start : v.start ≡ Some the_start = ap (λ (x : V). x.start) same ∙ r.origin in
      let seats = r.seats in record {
        log = r.log;
        drawn = r.drawn;
        own = w;
        words = r.words;
        lawful = r.lawful;
        counted = r.counted;
        small = r.small;
        tickets = let t = r.tickets in let a = sum_by-set waits s.views 0 v w at in let b = sum_by_push waits vs f in omega arith;
        first = at_longer vs (f ∷ []) 0 w (set_here s.views 0 w (place_below s.views 0 v at));
        quiet = down;
        origin = ap (λ (x : V). x.start) same ∙ r.origin;
        seats = let b = length-append vs (f ∷ []) in omega arith;
        few = omega arith;
        lives = let t = r.lives in let a = sum_by-set live s.views 0 v w at in let b = sum_by_push live vs f in
            let n : length v.returned ≡ length r.own.returned = ap length back in omega arith;
        nobody_else = λ c far. r.nobody_else c (omega arith);
        each = λ i u e. ⊎_elim
            (λ (t : get_elem? vs i ≡ some u). ⊎_elim (λ (q : (i ≡ 0) × (w ≡ u)). subst (λ (p : V). Known r.log r.drawn i p) q.1 record { flags = flags; idle = k.idle; pass = λ up. absurd (omega arith) })
            (λ (q : (i ≢ 0) × (get_elem? s.views i ≡ some u)). r.each i u q.1) (at_set s.views 0 i w u t))
            (λ (t : (i ≡ length vs) × (f ≡ u)). subst (λ (p : V). Known r.log r.drawn i p) t.1 record {
              flags = (omega arith, omega arith);
              idle = λ _. refl;
              pass = λ _. record {
                seat = let p = t.0 in omega arith;
                origin = first_start;
                mine = sym (r.nobody_else v.passes (omega arith));
                past = λ j p bad. absurd (some-ne-none p (sym bad));
                seen = omega arith;
                notes = λ j n bad. absurd (some-ne-none n (sym bad));
                turn = λ bad. absurd (omega arith);
                held = λ y h bad. absurd (some_not_none (y, h) (sym bad));
              };
            })
            (at_end vs f u i e);
        apart = λ i j a b e g one two tickets. r.apart i j a b (waiting s.views v down flags.1 i a e one) (waiting s.views v down flags.1 j b g two) one two tickets;
        returned = λ i b e. let l = r.returned i b (ap (λ (q : List (Returned E)). get_elem? q i) (sym back) ∙ e) in let in_made = l.made in record {
          made = let n = length-append vs (f ∷ []) in omega arith;
          spent = λ u t. ⊎_elim
              (λ (p : get_elem? vs (b.caller + 1) ≡ some u). ⊎_elim (λ (q : (b.caller + 1 ≡ 0) × (w ≡ u)). let no = q.0 in absurd (omega arith))
              (λ (q : (b.caller + 1 ≢ 0) × (get_elem? s.views (b.caller + 1) ≡ some u)). l.spent u q.1) (at_set s.views 0 (b.caller + 1) w u p))
              (λ (p : (b.caller + 1 ≡ length vs) × (f ≡ u)). let no = p.0 in absurd (omega arith))
              (at_end vs f u (b.caller + 1) t);
          mine = l.mine;
          notes = l.notes;
        };
        shelf = ⊎_elim
            (λ t. inl (t.0, t.1, t.2, t.3, λ i u e. ⊎_elim (λ (p : get_elem? vs i ≡ some u). t.4 i u p) (λ (p : (i ≡ length vs) × (f ≡ u)). ap (λ (x : V). x.held) (sym p.1)) (at_end vs f u i e)))
            (λ t. inr (t.0, (t.1.0, t.1.1, at_longer vs (f ∷ []) t.1.0 t.1.1 t.1.2, t.1.3, t.1.4)))
            (shelf_keeps s.homes r.log s.views 0 v w at refl refl r.shelf);
      }

  -- the lock's own seat takes back a pass that rests
  pub joins : (v : V) (other : ℕ) (w : V) → w.live ≡ 1 → w.waits ≡ 0 → w.held ≡ None → Joins Rule 0 v other w (with_returned v w) spent
  joins v other w up rests free s r at ne there' = let same : v ≡ r.own = same_view s.views 0 v r.own at r.first in
      let made : v.passes ≡ r.own.passes = ap (λ (x : V). x.passes) same in
      let down : v.live ≡ 0 = ap live same ∙ r.quiet in let back : v.returned ≡ r.own.returned = ap (λ (x : V). x.returned) same in let k = r.each 0 v at in let flags = k.flags in
      let n : V = with_returned v w in let vs : List V = set s.views 0 n in let there : get_elem? s.views other ≡ some w = sym (set_else s.views 0 other n ne) ∙ there' in
      let long : length (set vs other spent) ≡ length s.views = length-set vs other spent ∙ length-set s.views 0 n in let seats = r.seats in
      let kw = r.each other w there in let lw = kw.pass up in let seat = lw.seat in
      let either : (i : ℕ) (u : V) → get_elem? (set vs other spent) i ≡ some u → ((i ≡ other) × (spent ≡ u)) ⊎ (((i ≡ 0) × (n ≡ u)) ⊎ ((i ≢ other) × (get_elem? s.views i ≡ some u))) = λ i u e.
      ⊎_elim inl (λ (t : (i ≢ other) × (get_elem? vs i ≡ some u)). inr (⊎_elim inl (λ (q : (i ≢ 0) × (get_elem? s.views i ≡ some u)). inr (t.0, q.1)) (at_set s.views 0 i n u t.1))) (at_set vs other i spent u e) in
      let old : (i : ℕ) (u : V) → get_elem? (set vs other spent) i ≡ some u → u.waits ≡ 1 → get_elem? s.views i ≡ some u = λ i u e one. ⊎_elim
      (λ (t : (i ≡ other) × (spent ≡ u)). let z₀ : 0 ≡ u.waits = ap waits t.1 in absurd (omega arith))
      (⊎_elim (λ (t : (i ≡ 0) × (n ≡ u)). let z₀ : n.waits ≡ u.waits = ap waits t.1 in absurd (omega arith)) (λ (t : (i ≢ other) × (get_elem? s.views i ≡ some u)). t.1)) (either i u e) in record {
        log = r.log;
        drawn = r.drawn;
        own = n;
        words = r.words;
        lawful = r.lawful;
        counted = r.counted;
        small = r.small;
        tickets = let t = r.tickets in let a = sum_by-set waits s.views 0 v n at in let b = sum_by-set waits vs other w spent there' in omega arith;
        first = set_else vs other 0 spent (λ e. ne (sym e)) ∙ set_here s.views 0 n (place_below s.views 0 v at);
        quiet = down;
        origin = ap (λ (x : V). x.start) same ∙ r.origin;
        seats = omega arith;
        few = let f = r.few in omega arith;
        lives = let t = r.lives in let a = sum_by-set live s.views 0 v n at in let b = sum_by-set live vs other w spent there' in
            let c : length v.returned ≡ length r.own.returned = ap length back in let d = length-append v.returned (returned_from w ∷ []) in omega arith;
        nobody_else = λ c far. r.nobody_else c (omega arith);
        each = λ i u e. ⊎_elim (λ (t : (i ≡ other) × (spent ≡ u)). subst (λ (p : V). Known r.log r.drawn i p) t.1 record { flags = (omega arith, omega arith); idle = λ _. refl; pass = λ bad. absurd (omega arith) })
            (⊎_elim (λ (t : (i ≡ 0) × (n ≡ u)). subst (λ (p : V). Known r.log r.drawn i p) t.1 record { flags = flags; idle = k.idle; pass = λ bad. absurd (omega arith) })
            (λ (t : (i ≢ other) × (get_elem? s.views i ≡ some u)). r.each i u t.1)) (either i u e);
        apart = λ i j a b e g one two tickets. r.apart i j a b (old i a e one) (old j b g two) one two tickets;
        returned = λ i b e. ⊎_elim
            (λ (t : get_elem? v.returned i ≡ some b). let l = r.returned i b (ap (λ (q : List (Returned E)). get_elem? q i) (sym back) ∙ t) in let in_made = l.made in record {
              made = omega arith;
              spent = λ u g. ⊎_elim (λ (p : (b.caller + 1 ≡ other) × (spent ≡ u)). ap live (sym p.1))
                  (⊎_elim (λ (p : (b.caller + 1 ≡ 0) × (n ≡ u)). let no = p.0 in absurd (omega arith)) (λ (p : (b.caller + 1 ≢ other) × (get_elem? s.views (b.caller + 1) ≡ some u)). l.spent u p.1)) (either (b.caller + 1) u g);
              mine = l.mine;
              notes = l.notes;
            })
            (λ (t : (i ≡ length v.returned) × (returned_from w ≡ b)). subst (λ (p : Returned E). IsReturned (board the_setup) caller_of r.log (set vs other spent) p) t.1 record {
              made = let in_made = place_below s.views other w there in omega arith;
              spent = λ u g. ⊎_elim (λ (p : (w.caller + 1 ≡ other) × (spent ≡ u)). ap live (sym p.1))
                  (⊎_elim (λ (p : (w.caller + 1 ≡ 0) × (n ≡ u)). let no = p.0 in absurd (omega arith)) (λ (p : (w.caller + 1 ≢ other) × (get_elem? s.views (w.caller + 1) ≡ some u)). absurd (p.0 seat))) (either (w.caller + 1) u g);
              mine = lw.mine;
              notes = λ j note g. let o = lw.notes j note g in let le = o.0 in let sn = lw.seen in (omega arith, o.1);
            })
            (at_end v.returned (returned_from w) b i e);
        shelf = ⊎_elim
            (λ t. inl (
              t.0,
              t.1,
              t.2,
              t.3,
              λ i u e. ⊎_elim (λ (p : (i ≡ other) × (spent ≡ u)). ap (λ (x : V). x.held) (sym p.1))
                  (⊎_elim (λ (p : (i ≡ 0) × (n ≡ u)). ap (λ (x : V). x.held) (sym p.1) ∙ t.4 0 v at) (λ (p : (i ≢ other) × (get_elem? s.views i ≡ some u)). t.4 i u p.1)) (either i u e),
            ))
            (λ t. let i : ℕ = t.1.0 in let u : V = t.1.1 in
            let not_other : i ≢ other = λ e. let q : u ≡ w = same_view s.views other u w (subst (λ (c : ℕ). get_elem? s.views c ≡ some u) e t.1.2) there in some_not_none (the_setup, r.log) (sym t.1.4 ∙ (ap (λ (x : V). x.held) q ∙ free)) in
            inr (t.0, (i, u, set_else vs other i spent not_other ∙ (set_else s.views 0 i n (not_own s r i u t.1.2 t.1.3) ∙ t.1.2), t.1.3, t.1.4)))
            r.shelf;
      }

  pub begins : (x : S) (b : ℕ) (shown : Board) → setup x ≡ the_setup → history x ≡ [] → legal (setup x) (history x) → shown ≡ board (setup x) (history x)
      → shown.count ≡ length (history x) → (shown.count < 16777216) × (shown.bid ≤ 10001) × (shown.ask ≤ 10001) → b ≡ packed shown
      → Rule (opening (0 ∷ b ∷ []) (x ∷ []) (own_at_first the_start))
  begins x b shown same empty lawful is counted small word =
      let fits : IsSmall shown = let p = small.0 in let q = small.1 in let t = small.2 in (omega arith, omega arith, omega arith) in
      let now : shown ≡ board the_setup [] = is ∙ λ i. board (same i) (empty i) in record {
        log = [];
        drawn = 0;
        own = (own_at_first the_start);
        words = ap (λ (n : ℕ). 0 ∷ n ∷ []) (word ∙ ap packed now);
        lawful = subst (λ (p : G × List E). legal p.0 p.1) (λ i. (same i, empty i)) lawful;
        counted = sym (ap (λ (q : Board). q.count) now) ∙ (counted ∙ ap length empty);
        small = subst IsSmall now fits;
        tickets = refl;
        first = refl;
        quiet = refl;
        origin = refl;
        seats = refl;
        few = omega arith;
        lives = refl;
        nobody_else = λ c _. refl;
        each = λ i v e. let t = at_only (own_at_first the_start) v i e in subst (λ (p : V). Known [] 0 i p) t.1 record { flags = (omega arith, omega arith); idle = λ _. refl; pass = λ bad. absurd (omega arith) };
        apart = λ i j v w e f _ _ _. (at_only (own_at_first the_start) v i e).0 ∙ sym (at_only (own_at_first the_start) w j f).0;
        returned = λ k c e. absurd (some-ne-none c (sym e));
        shelf = inl (x, refl, same, empty, λ i v e. ap (λ (p : V). p.held) (sym (at_only (own_at_first the_start) v i e).1));
      }

  -- once all passes are back, the slot's value stands for the history, of which they left the parts
  pub closes : (id : ℕ) (v : V) (ws : List ℕ) (xs : List S) (x : S) → id ≡ 0 → length v.returned ≡ v.passes → Final (Seen Rule id v) ws xs → get_elem? xs 0 ≡ some x
      → (setup x ≡ the_setup) × legal (setup x) (history x) × AreKnown (board (setup x)) caller_of (history x) v.returned × ((c : ℕ) → v.passes ≤ c
      → part caller_of (history x) c ≡ [])
  closes id v ws xs x own all fin here = let s = fin.0 in let r = fin.1.0 in let at = subst (λ (k : ℕ). get_elem? s.views k ≡ some v) own fin.1.1 in
      let same : v ≡ r.own = same_view s.views 0 v r.own at r.first in let made : v.passes ≡ r.own.passes = ap (λ (y : V). y.passes) same in
      let back : v.returned ≡ r.own.returned = ap (λ (y : V). y.returned) same in
      let n : length v.returned ≡ length r.own.returned = ap length back in let lives = r.lives in let none_live : sum_by live s.views ≡ 0 = omega arith in
      ⊎_elim
      (λ t. let y : S = t.0 in let is : y ≡ x = some-injective y x (sym (fin.4 0 y (ap (λ (hs : List (Option_ S)). get_elem? hs 0) t.1)) ∙ here) in
      let z_is : the_setup ≡ setup x = sym t.2 ∙ ap setup is in let log_is : r.log ≡ history x = sym t.3 ∙ ap history is in
      subst (λ (p : G × List E). (p.0 ≡ the_setup) × legal p.0 p.1 × AreKnown (board p.0) caller_of p.1 v.returned × ((c : ℕ) → v.passes ≤ c → part caller_of p.1 c ≡ [])) (λ i. (z_is i, log_is i))
      (refl, r.lawful, (λ k b e. let l = r.returned k b (ap (λ (q : List (Returned E)). get_elem? q k) (sym back) ∙ e) in (l.mine, l.notes)), λ c far. r.nobody_else c (omega arith)))
      (λ t. let gone = le-sum_by live s.views t.1.0 t.1.1 t.1.2 in let up = t.1.3 in absurd (omega arith))
      r.shelf

  -- what a whole turn leaves the pass
  pub whole_turn : (v : V) (t : ℕ) (m₁ m₂ m₃ : M) (x x' : S) (h : List E) (e : E) (n : ℕ) → m₁ ≡ (ticketed v t, []) → m₂ ≡ (at_turn m₁.0 (setup x) (history x), (0, x) ∷ [])
      → m₂.1 ≡ (0, x') ∷ [] → h ≡ history x' ++ e ∷ [] → caller_of e ≡ v.caller
      → part caller_of (history x) m₁.0.caller ≡ m₁.0.mine → n ≡ length (history x') → m₃ ≡ (turned caller_of m₂.0 h, []) → m₃ ≡ (record v { waits = 0; ticket = t; seen = n + 1; mine = v.mine ++ (n, e) ∷ []; held = None }, [])
  whole_turn v t m₁ m₂ m₃ x x' h e n a b here longer mine same at d = let q : x ≡ x' = in_hand m₂.1 [] x x' (ap (λ (k : M). k.1) b) here in
      let one : part caller_of (history x) v.caller ≡ v.mine = subst (λ (k : M). part caller_of (history x) k.0.caller ≡ k.0.mine) a same in
      let all : part caller_of h v.caller ≡ v.mine ++ (n, e) ∷ [] = ap (λ (l : List E). part caller_of l v.caller) longer ∙ (part_mine caller_of (history x') e v.caller mine ∙ λ i. (ap (λ (y : S). part caller_of (history y) v.caller) (sym q) ∙ one) i ++ (sym at i, e) ∷ []) in
      let long : length h ≡ n + 1 = ap length longer ∙ (length-append (history x') (e ∷ []) ∙ ap (λ (k : ℕ). k + 1) (sym at)) in
      let f : M → M = λ k. (turned caller_of k.0 h, []) in let g : M → M = λ k. (at_turn k.0 (setup x) (history x), (0, x) ∷ []) in
      d ∙ (ap f (b ∙ ap g a) ∙ λ i. (record v { waits = 0; ticket = t; seen = long i; mine = all i; held = None }, []))

  pub splits_off_at : (id : ℕ) (v : V) → id ≡ 0 → v.passes < 9 → Splits Rule id v (with_pass v) (next_pass v)
  splits_off_at id v e room = subst (λ (k : ℕ). Splits Rule k v (with_pass v) (next_pass v)) (sym e) (splits_off v room)

  pub joins_at : (id : ℕ) (v : V) (other : ℕ) (w : V) → id ≡ 0 → w.live ≡ 1 → w.waits ≡ 0 → w.held ≡ None → Joins Rule id v other w (with_returned v w) spent
  joins_at id v other w e up rests free = subst (λ (k : ℕ). Joins Rule k v other w (with_returned v w) spent) (sym e) (joins v other w up rests free)
