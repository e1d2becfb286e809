-- What a log has of an agent, good by good, is the agent's transcript.
use Rattle.std.proofs.Common.{◌≡◌, ℕ, zero, suc, ◌+◌, ◌<◌, ◌≤◌, List, [], ◌∷◌, length, map, take, Some, refl, sym, ap, ◌∙◌, subst, arith, All, slice_index_or}
use Rattle.std.specs.List.{AllZip, enumerate_from, range_with_len}
use Rattle.std.proofs.lemmas.List.{get_or-replicate, length-map}
use Rattle.std.proofs.lemmas.List.Elements.{All-cons, All-nil, All-head, All-tail}
use Rattle.std.proofs.lemmas.List.FromFn.{get_or-map-range_with_len}
use Rattle.std.proofs.lemmas.Option.{slice_get_within}
use mathlib.Core.Option.{some, none}
use lib.ListN.{get_elem?}
use Rattle.link_audit.specs.{Board, GameFile, part, AreNotes, AuctionHistory, setup_of, board_of, LoggedGame, logged_history, auctions_in, IsTranscript, Turn, AreLawful, made_at, boards_shown, IsNote, Remains, AreBoards, calls_left, rest_of, start, closed_in}
use Rattle.auction_rules.specs.History.{Entry}
use Rattle.game_run.proofs.Transcripts.{by_places, map_at}
use Rattle.link_audit.proofs.Lawful.{tracks_start, lawful_from_allowed, allowed_from_lawful}
use Rattle.link_audit.proofs.Walked.{wide_start}

-- ---- notes

module _ {X : Type 0} (P : X → Type 0) where
  all_of : (xs : List X) → ((k : ℕ) (x : X) → get_elem? xs k ≡ some x → P x) → All P xs
  all_of [] each = All-nil P
  all_of (x ∷ xs) each = All-cons P x xs (each 0 x refl) (all_of xs (λ k y at. each (suc k) y at))

  each_of : (xs : List X) → All P xs → (k : ℕ) (x : X) → get_elem? xs k ≡ some x → P x
  each_of [] all k x at = absurd (let never : none ≡ some x = at in cc)
  each_of (y ∷ xs) all zero x at = let same : y ≡ x = cc in subst P same (All-head P y xs all)
  each_of (y ∷ xs) all (suc k) x at = each_of xs (All-tail P y xs all) k x at

-- ---- auctions

module _ (game : GameFile) where
  abbrev opened : ℕ → List (List Entry) → List AuctionHistory
  opened n histories = map (λ p. record { setup = setup_of p.0 game; history = p.1 }) (enumerate_from n histories)

  parts_from : (agent n : ℕ) (histories : List (List Entry)) → map (λ (a : AuctionHistory). part (λ e. e.caller) a.history agent) (opened n histories) ≡ map (λ (h : List Entry). part (λ e. e.caller) h agent) histories
  parts_from agent n [] = refl
  parts_from agent n (h ∷ histories) = ap (λ (l : List (List (ℕ × Entry))). part (λ e. e.caller) h agent ∷ l) (parts_from agent (n + 1) histories)

  -- what holds of each auction with its good
  zip_from : (R : AuctionHistory → ℕ → Type 0) (n : ℕ) (histories : List (List Entry))
      → ((k : ℕ) → k < length histories → R (record { setup = setup_of (n + k) game; history = slice_index_or histories k [] }) (n + k)) → AllZip R (opened n histories) (range_with_len n (length histories))
  zip_from R n [] each = tt
  zip_from R n (h ∷ histories) each = (
    (let here : n + 0 ≡ n = omega arith in subst (λ (g : ℕ). R (record { setup = setup_of g game; history = h }) g) here (each 0 (omega arith))),
    zip_from R (n + 1) histories (λ k inside. let next : n + suc k ≡ (n + 1) + k = omega arith in
        subst (λ (g : ℕ). R (record { setup = setup_of g game; history = slice_index_or histories k [] }) g) next (each (suc k) (omega (arith, inside)))),
  )

  from_zip : (R : AuctionHistory → ℕ → Type 0) (n : ℕ) (histories : List (List Entry)) → AllZip R (opened n histories) (range_with_len n (length histories))
      → (k : ℕ) → k < length histories → R (record { setup = setup_of (n + k) game; history = slice_index_or histories k [] }) (n + k)
  from_zip R n [] all k inside = absurd (omega (arith, inside))
  from_zip R n (h ∷ histories) all zero inside = let here : n ≡ n + 0 = omega arith in subst (λ (g : ℕ). R (record { setup = setup_of g game; history = h }) g) here all.0
  from_zip R n (h ∷ histories) all (suc k) inside =
      let next : (n + 1) + k ≡ n + suc k = omega arith in
      subst (λ (g : ℕ). R (record { setup = setup_of g game; history = slice_index_or histories k [] }) g) next (from_zip R (n + 1) histories all.1 k (omega (arith, inside)))

  module _ (log : LoggedGame) (goods : length log.histories ≡ 28) (agent : ℕ) (boards : List (List Board)) (table : AreBoards game log boards) where
    from_start : (good : ℕ) → good < 28 → calls_left (record { log = log; boards = boards; agent = agent }) start good ≡ part (λ e. e.caller) (logged_history log good) agent
    from_start good low = ap (λ (n : ℕ). rest_of (λ (e : Entry). e.caller) agent n (logged_history log good)) (get_or-replicate 28 good 0 0 low)

    part_at : (good : ℕ) → slice_index_or (map (λ (a : AuctionHistory). part (λ e. e.caller) a.history agent) (auctions_in game log)) good [] ≡ part (λ e. e.caller) (logged_history log good) agent
    part_at good =
        ap (λ (l : List (List (ℕ × Entry))). slice_index_or l good []) (parts_from agent 0 log.histories) ∙ map_at (λ (h : List Entry). part (λ e. e.caller) h agent) log.histories good []

    parts_long : length (map (λ (a : AuctionHistory). part (λ e. e.caller) a.history agent) (auctions_in game log)) ≡ 28
    parts_long = ap (λ (l : List (List (ℕ × Entry))). length l) (parts_from agent 0 log.histories) ∙ (length-map log.histories (λ (h : List Entry). part (λ e. e.caller) h agent) ∙ goods)

    -- ---- boards

    note_there : (good : ℕ) → good < 28 → (note : ℕ × Board)
        → (note.0 ≤ length (logged_history log good)) × (note.1 ≡ board_of (record { setup = setup_of good game; history = logged_history log good }) (take note.0 (logged_history log good)))
        → IsNote (record { log = log; boards = boards; agent = agent }) good note
    note_there good low note is = table.each good note.0 low is.0 ∙ ap (λ (b : Board). Some b) (sym is.1)

    note_back : (good : ℕ) → good < 28 → (note : ℕ × Board) → IsNote (record { log = log; boards = boards; agent = agent }) good note
        → (note.0 ≤ length (logged_history log good)) × (note.1 ≡ board_of (record { setup = setup_of good game; history = logged_history log good }) (take note.0 (logged_history log good)))
    note_back good low note is =
        let inside = slice_get_within (slice_index_or boards good []) note.0 note.1 is in
        let long = table.long good low in
        let few : note.0 ≤ length (logged_history log good) = omega (arith, inside, long) in
        let due : Board = board_of (record { setup = setup_of good game; history = logged_history log good }) (take note.0 (logged_history log good)) in
        (few, (let both : Some note.1 ≡ Some due = sym is ∙ table.each good note.0 low few in cc))

    AreShown : List Turn → AuctionHistory → ℕ → Type 0
    AreShown turns auction good = AreNotes (board_of auction) auction.history (length auction.history) (boards_shown good turns)

    -- ---- the transcript

    module _ (turns : List Turn) where
      pub transcribed : Remains (record { log = log; boards = boards; agent = agent }) start turns → AreLawful turns × IsTranscript agent (closed_in game log) turns
      unfolding AreShown
      transcribed all = (
        lawful_from_allowed start [] turns tracks_start wide_start all.allowed,
        record {
          calls =
              by_places (map (λ (a : AuctionHistory). part (λ e. e.caller) a.history agent) (auctions_in game log)) (λ good. made_at good turns) [] 0
              (λ k inside. let low : k < 28 = omega (arith, inside, parts_long) in let same : k ≡ 0 + k = omega arith in
              part_at k ∙ (sym (from_start k low) ∙ (all.calls k low ∙ ap (λ (g : ℕ). made_at g turns) same)))
              ∙ ap (λ (n : ℕ). map (λ good. made_at good turns) (range_with_len 0 n)) parts_long;
          cash = all.cash;
          boards = subst (λ (n : ℕ). AllZip (AreShown turns) (auctions_in game log) (range_with_len 0 n)) goods
              (zip_from (AreShown turns) 0 log.histories (λ k inside. let low : k < 28 = omega (arith, inside, goods) in let same : k ≡ 0 + k = omega arith in
              subst (λ (g : ℕ). AreShown turns (record { setup = setup_of g game; history = logged_history log k }) g) same
              (λ j note at. note_back k low note (each_of (IsNote (record { log = log; boards = boards; agent = agent }) k) (boards_shown k turns) (all.boards k low) j note at))));
        },
      )

      pub remaining : AreLawful turns → IsTranscript agent (closed_in game log) turns → Remains (record { log = log; boards = boards; agent = agent }) start turns
      unfolding AreShown
      remaining lawful t = record {
        calls = λ good low.
            from_start good low ∙ (sym (part_at good) ∙ (ap (λ (l : List (List (ℕ × Entry))). slice_index_or l good []) t.calls
            ∙ get_or-map-range_with_len (λ g. made_at g turns) 0 28 good good [] low (omega arith)));
        cash = t.cash;
        boards = λ good low. all_of (IsNote (record { log = log; boards = boards; agent = agent }) good) (boards_shown good turns) (λ j note at. note_there good low note (
            let same : 0 + good ≡ good = omega arith in
            let shown = from_zip (AreShown turns) 0 log.histories (subst (λ (n : ℕ). AllZip (AreShown turns) (auctions_in game log) (range_with_len 0 n)) (sym goods) t.boards) good (omega (arith, low, goods)) in
            let here : AreShown turns (record { setup = setup_of good game; history = logged_history log good }) good =
            subst (λ (g : ℕ). AreShown turns (record { setup = setup_of g game; history = logged_history log good }) g) same shown in
            here j note at));
        allowed = allowed_from_lawful start [] turns tracks_start wide_start lawful;
      }
