-- Which turn a request was: the log tells, but for the count of a quote.
use Rattle.std.proofs.Common.{◌≡◌, ◌≢◌, ℕ, ◌+◌, ◌<◌, ◌≤◌, List, [], ◌∷◌, Option, Some, None, Ok, refl, sym, ap, ◌∙◌, subst, arith, inl, inr, ℤ, slice_index, slice_set, option_map}
use Rattle.std.proofs.lemmas.Bool.Decides.{leb_tells}
use Rattle.link_audit.specs.{AGENT_CALLS, CASH_READINGS, Board, Call, CashEntry, due_post, Request, Said, logged_history, Asks, Turn, Called, CallDenied, CashRead, CashDenied, Quoted, Refused, Skipped, Quit, asked_call, reading, Subject, entry_caller, cash_caller, rest_of, HasNext, calls_left, IsNote, IsWide, behind, behind_call, behind_turn, ArePostedAt, ArePosted, IsPossible, IsEasier, IsTaken, IsStuck}
use Rattle.auction_rules.specs.History.{Entry}
use Rattle.line_protocol.specs.declared.asking.Request.TheVariants as requests
use Rattle.line_protocol.specs.declared.saying.Said.TheVariants as said
use Rattle.link_audit.specs.declared.places.Places.{Places}
use Rattle.link_audit.proofs.Rest.{same_position, same_entry}
use Rattle.link_audit.proofs.Easier.{all_stay, same_places, lower_raised}

module _ (s : Subject) (Fits : Said → Type 0) (from : Places) where
  -- ---- a call

  module _ (request : Request) (good : ℕ) (low : good < 28) (asks : option_map (λ p. p.0) (asked_call request) ≡ Some good) where
    no_call : (other : Request) → asked_call other ≡ None → Asks (Ok other) ≡ Asks (Ok request) → ⊥
    no_call other none is =
        let same : other ≡ request = cc in
        let bare : option_map (λ p. p.0) (asked_call request) ≡ None = ap (λ (r : Request). option_map (λ p. p.0) (asked_call r)) (sym same) ∙ ap (option_map (λ p. p.0)) none in
        absurd (let both : None ≡ Some good = sym bare ∙ asks in cc)

    good_of : (other : Request) (g : ℕ) (call : Call) → asked_call other ≡ Some (g, call) → other ≡ request → g ≡ good
    good_of other g call is same =
        let both : Some g ≡ Some good = sym (ap (option_map (λ p. p.0)) is) ∙ (ap (λ (r : Request). option_map (λ p. p.0) (asked_call r)) same ∙ asks) in cc

    -- the calls are used up
    module _ (full : slice_index from.made good ≡ AGENT_CALLS) where
      denied : (other : Turn) → IsPossible (λ item. item ≡ Asks (Ok request)) Fits s from other → Fits said.Spent × (behind_turn from other ≡ from)
      denied (Called r g position entry posted) p = absurd (
          let same : r ≡ request = (let is = p.asked in cc) in
          let here : g ≡ good = good_of r g entry.call p.allowed.0 same in
          let few : slice_index from.made good < AGENT_CALLS = subst (λ (k : ℕ). slice_index from.made k < AGENT_CALLS) here p.allowed.2 in
          omega (arith, few, full))
      denied (CallDenied r g) p = (p.fits, refl)
      denied (CashRead position dollars) p = absurd (no_call requests.Cash refl p.asked)
      denied CashDenied p = absurd (no_call requests.Cash refl p.asked)
      denied (Quoted g board) p = absurd (no_call (requests.Quote g) refl p.asked)
      denied (Refused fault) p = absurd (let is = p.asked in cc)
      denied Skipped p = absurd (let is = p.asked in cc)
      denied Quit p = absurd (no_call requests.Quit refl p.asked)

      call_in : (call : Option (ℕ × Call)) → option_map (λ p. p.0) call ≡ Some good → (c : Call) × (call ≡ Some (good, c))
      call_in None is = absurd cc
      call_in (Some (g, c)) is = let same : g ≡ good = cc in (c, λ i. Some (same i, c))

      pub spent_taken : Fits said.Spent → IsTaken (λ item. item ≡ Asks (Ok request)) Fits s from from
      spent_taken fit = record {
        turn = CallDenied request good;
        possible = record { asked = refl; fits = fit; allowed = (call_in (asked_call request) asks, low, full); next = tt };
        stays = refl;
        to_is = refl;
        easiest = λ other is. subst (IsEasier from) (sym (denied other is).1) (same_places from);
        stay = all_stay (λ item. item ≡ Asks (Ok request)) Fits s from (no_call requests.Quit refl);
      }

    -- calls are left
    module _ (some : slice_index from.made good ≢ AGENT_CALLS) where
      -- a turn that made the agent's next call there
      record IsNextCall (position : ℕ) (entry : Entry) (other : Turn) : Type 0 where
        pub call_is : asked_call request ≡ Some (good, entry.call)
        pub few : slice_index from.made good < AGENT_CALLS
        pub forward : slice_index from.seen good ≤ position
        pub fits : Fits (said.At position entry.reply)
        pub posted : ℕ
        pub at : ArePostedAt s.agent s.log.cash from.cash (due_post good position entry) posted
        pub after_is : behind_turn from other ≡ behind_call from good position (behind from.cash (due_post good position entry) posted)

      made_next : (position : ℕ) (entry : Entry) → HasNext entry_caller s.agent (slice_index from.next good) (logged_history s.log good) position entry
          → (other : Turn) → IsPossible (λ item. item ≡ Asks (Ok request)) Fits s from other → IsNextCall position entry other
      made_next position entry next (Called r g p e posted) is =
          let same : r ≡ request = (let asked = is.asked in cc) in
          let here : g ≡ good = good_of r g e.call is.allowed.0 same in
          let rest : ℕ → List (ℕ × Entry) = λ k. rest_of entry_caller s.agent (k + 1) (logged_history s.log good) in
          let own : HasNext entry_caller s.agent (slice_index from.next good) (logged_history s.log good) p e =
          subst (λ (k : ℕ). HasNext entry_caller s.agent (slice_index from.next k) (logged_history s.log k) p e) here is.next.0 in
          let both : (p, e) ∷ rest p ≡ (position, entry) ∷ rest position = sym own ∙ next in
          let there : p ≡ position = same_position p position e entry (rest p) (rest position) both in
          let alike : e ≡ entry = same_entry p position e entry (rest p) (rest position) both in
          record {
            call_is = ap asked_call (sym same) ∙ (is.allowed.0 ∙ (λ i. Some (here i, (alike i).call)));
            few = subst (λ (k : ℕ). slice_index from.made k < AGENT_CALLS) here is.allowed.2;
            forward = subst (λ (w : ℕ × ℕ). slice_index from.seen w.0 ≤ w.1) (λ i. (here i, there i)) is.allowed.3;
            fits = subst Fits (λ i. said.At (there i) (alike i).reply) is.fits;
            posted = posted;
            at = subst (λ (w : ℕ × ℕ × Entry). ArePostedAt s.agent s.log.cash from.cash (due_post w.0 w.1 w.2) posted) (λ i. (here i, there i, alike i)) is.next.1;
            after_is = λ i. behind_call from (here i) (there i) (behind from.cash (due_post (here i) (there i) (alike i)) posted);
          }
      made_next position entry next (CallDenied r g) is =
          let same : r ≡ request = (let asked = is.asked in cc) in
          let here : g ≡ good = good_of r g is.allowed.0.0 is.allowed.0.1 same in
          absurd (some (ap (λ (k : ℕ). slice_index from.made k) (sym here) ∙ is.allowed.2))
      made_next position entry next (CashRead p dollars) is = absurd (no_call requests.Cash refl is.asked)
      made_next position entry next CashDenied is = absurd (no_call requests.Cash refl is.asked)
      made_next position entry next (Quoted g board) is = absurd (no_call (requests.Quote g) refl is.asked)
      made_next position entry next (Refused fault) is = absurd (let asked = is.asked in cc)
      made_next position entry next Skipped is = absurd (let asked = is.asked in cc)
      made_next position entry next Quit is = absurd (no_call requests.Quit refl is.asked)

      pub none_stuck : calls_left s from good ≡ [] → IsStuck (λ item. item ≡ Asks (Ok request)) Fits s from
      none_stuck none (Called r g p e posted) is =
          let same : r ≡ request = (let asked = is.asked in cc) in
          let here : g ≡ good = good_of r g e.call is.allowed.0 same in
          let own : HasNext entry_caller s.agent (slice_index from.next good) (logged_history s.log good) p e =
          subst (λ (k : ℕ). HasNext entry_caller s.agent (slice_index from.next k) (logged_history s.log k) p e) here is.next.0 in
          absurd (let both : [] ≡ (p, e) ∷ rest_of entry_caller s.agent (p + 1) (logged_history s.log good) = sym none ∙ own in cc)
      none_stuck none (CallDenied r g) is =
          let same : r ≡ request = (let asked = is.asked in cc) in
          let here : g ≡ good = good_of r g is.allowed.0.0 is.allowed.0.1 same in
          some (ap (λ (k : ℕ). slice_index from.made k) (sym here) ∙ is.allowed.2)
      none_stuck none (CashRead p dollars) is = no_call requests.Cash refl is.asked
      none_stuck none CashDenied is = no_call requests.Cash refl is.asked
      none_stuck none (Quoted g board) is = no_call (requests.Quote g) refl is.asked
      none_stuck none (Refused fault) is = absurd (let asked = is.asked in cc)
      none_stuck none Skipped is = absurd (let asked = is.asked in cc)
      none_stuck none Quit is = no_call requests.Quit refl is.asked

      module _ (position : ℕ) (entry : Entry) (next : HasNext entry_caller s.agent (slice_index from.next good) (logged_history s.log good) position entry) where
        pub many_stuck : AGENT_CALLS < slice_index from.made good → IsStuck (λ item. item ≡ Asks (Ok request)) Fits s from
        many_stuck many other is = let few = (made_next position entry next other is).few in omega (arith, few, many)

        pub seen_stuck : position < slice_index from.seen good → IsStuck (λ item. item ≡ Asks (Ok request)) Fits s from
        seen_stuck behind other is = let forward = (made_next position entry next other is).forward in omega (arith, forward, behind)

        pub other_stuck : (option_map (λ p. p.1) (asked_call request) ≡ Some entry.call → ⊥) → IsStuck (λ item. item ≡ Asks (Ok request)) Fits s from
        other_stuck unlike other is = unlike (ap (option_map (λ p. p.1)) (made_next position entry next other is).call_is)

        pub unfit_stuck : (Fits (said.At position entry.reply) → ⊥) → IsStuck (λ item. item ≡ Asks (Ok request)) Fits s from
        unfit_stuck unfit other is = unfit (made_next position entry next other is).fits

        pub unposted_stuck : ((to : ℕ) → ArePosted s.agent s.log.cash from.cash (due_post good position entry) to → ⊥) → IsStuck (λ item. item ≡ Asks (Ok request)) Fits s from
        unposted_stuck none other is =
            let made = made_next position entry next other is in
            none (behind from.cash (due_post good position entry) made.posted) (record { posted = made.posted; at = made.at; to_is = refl })

        one_post : (posts : List CashEntry) (posted posted' : ℕ) → ArePostedAt s.agent s.log.cash from.cash posts posted → ArePostedAt s.agent s.log.cash from.cash posts posted'
            → behind from.cash posts posted ≡ behind from.cash posts posted'
        one_post [] posted posted' at at' = refl
        one_post (post ∷ posts) posted posted' at at' =
            let rest : ℕ → List (ℕ × CashEntry) = λ k. rest_of cash_caller s.agent (k + 1) s.log.cash in
            ap (λ (n : ℕ). n + 1) (same_position posted posted' post post (rest posted) (rest posted') (sym at ∙ at'))

        call_of : (call : Option (ℕ × Call)) → option_map (λ p. p.0) call ≡ Some good → option_map (λ p. p.1) call ≡ Some entry.call → call ≡ Some (good, entry.call)
        call_of None a b = absurd cc
        call_of (Some (g, c)) a b = let here : g ≡ good = cc in let same : c ≡ entry.call = cc in λ i. Some (here i, same i)

        pub call_taken : slice_index from.made good < AGENT_CALLS → slice_index from.seen good ≤ position → option_map (λ p. p.1) (asked_call request) ≡ Some entry.call
            → Fits (said.At position entry.reply) → (cash : ℕ) → ArePosted s.agent s.log.cash from.cash (due_post good position entry) cash
            → IsTaken (λ item. item ≡ Asks (Ok request)) Fits s from (behind_call from good position cash)
        call_taken few forward alike fit cash posted = record {
          turn = Called request good position entry posted.posted;
          possible = record { asked = refl; fits = fit; allowed = (call_of (asked_call request) asks alike, low, few, forward); next = (next, posted.at) };
          stays = refl;
          to_is = ap (behind_call from good position) posted.to_is;
          easiest = λ other is. (
              let made = made_next position entry next other is in
              let same : behind_call from good position cash ≡ behind_turn from other =
              ap (behind_call from good position) (posted.to_is ∙ one_post (due_post good position entry) posted.posted made.posted posted.at made.at) ∙ sym made.after_is in
              subst (IsEasier (behind_call from good position cash)) same (same_places (behind_call from good position cash)));
          stay = all_stay (λ item. item ≡ Asks (Ok request)) Fits s from (no_call requests.Quit refl);
        }

  -- ---- a reading

  not_cash : (r : Request) (g : ℕ) (c : Call) → asked_call r ≡ Some (g, c) → Asks (Ok r) ≡ Asks (Ok requests.Cash) → ⊥
  not_cash r g c call same =
      let cash : r ≡ requests.Cash = cc in
      absurd (let both : None ≡ Some (g, c) = ap asked_call (sym cash) ∙ call in cc)

  -- a turn by which the cash was read, or was not since the readings are used up
  read_only : (A : Type 0) (other : Turn) → IsPossible (λ item. item ≡ Asks (Ok requests.Cash)) Fits s from other
      → ((position : ℕ) (dollars : ℤ) → other ≡ CashRead position dollars → from.readings < CASH_READINGS → HasNext cash_caller s.agent from.cash s.log.cash position (reading s.agent dollars) → Fits (said.Cash position dollars) → A)
      → (other ≡ CashDenied → from.readings ≡ CASH_READINGS → Fits said.Spent → A) → A
  read_only A (Called r g p e posted) is read denied = absurd (not_cash r g e.call is.allowed.0 is.asked)
  read_only A (CallDenied r g) is read denied = absurd (not_cash r g is.allowed.0.0 is.allowed.0.1 is.asked)
  read_only A (CashRead position dollars) is read denied = read position dollars refl is.allowed is.next is.fits
  read_only A CashDenied is read denied = denied refl is.allowed is.fits
  read_only A (Quoted g board) is read denied = absurd (let asked = is.asked in cc)
  read_only A (Refused fault) is read denied = absurd (let asked = is.asked in cc)
  read_only A Skipped is read denied = absurd (let asked = is.asked in cc)
  read_only A Quit is read denied = absurd (let asked = is.asked in cc)

  module _ (full : from.readings ≡ CASH_READINGS) where
    pub read_spent_taken : Fits said.Spent → IsTaken (λ item. item ≡ Asks (Ok requests.Cash)) Fits s from from
    read_spent_taken fit = record {
      turn = CashDenied;
      possible = record { asked = refl; fits = fit; allowed = full; next = tt };
      stays = refl;
      to_is = refl;
      easiest = λ other is. read_only (IsEasier from (behind_turn from other)) other is
          (λ position dollars same few next fit. absurd (omega (arith, few, full)))
          (λ same all fit. subst (λ (t : Turn). IsEasier from (behind_turn from t)) (sym same) (same_places from));
      stay = all_stay (λ item. item ≡ Asks (Ok requests.Cash)) Fits s from (λ is. absurd cc);
    }

  module _ (some : from.readings ≢ CASH_READINGS) where
    module _ (place : ℕ) (entry : CashEntry) (next : HasNext cash_caller s.agent from.cash s.log.cash place entry) where
      alike : (position : ℕ) (dollars : ℤ) → HasNext cash_caller s.agent from.cash s.log.cash position (reading s.agent dollars) → (position ≡ place) × (reading s.agent dollars ≡ entry)
      alike position dollars own =
          let rest : ℕ → List (ℕ × CashEntry) = λ k. rest_of cash_caller s.agent (k + 1) s.log.cash in
          let both : (position, reading s.agent dollars) ∷ rest position ≡ (place, entry) ∷ rest place = sym own ∙ next in (
            same_position position place (reading s.agent dollars) entry (rest position) (rest place) both,
            same_entry position place (reading s.agent dollars) entry (rest position) (rest place) both,
          )

      pub read_post_stuck : ((dollars : ℤ) → reading s.agent dollars ≡ entry → ⊥) → IsStuck (λ item. item ≡ Asks (Ok requests.Cash)) Fits s from
      read_post_stuck none other is = read_only ⊥ other is (λ position dollars same few own fit. none dollars (alike position dollars own).1) (λ same all fit. some all)

      module _ (shown : ℤ) (entry_is : reading s.agent shown ≡ entry) where
        same_dollars : (dollars : ℤ) → reading s.agent dollars ≡ entry → dollars ≡ shown
        same_dollars dollars is =
            let both : reading s.agent dollars ≡ reading s.agent shown = is ∙ sym entry_is in
            let replied = ap (λ (e : CashEntry). e.reply) both in cc

        pub read_unfit_stuck : (Fits (said.Cash place shown) → ⊥) → IsStuck (λ item. item ≡ Asks (Ok requests.Cash)) Fits s from
        read_unfit_stuck unfit other is = read_only ⊥ other is
            (λ position dollars same few own fit. (let both = alike position dollars own in let amount = same_dollars dollars both.1 in unfit (subst Fits (λ i. said.Cash (both.0 i) (amount i)) fit)))
            (λ same all fit. some all)

        pub read_taken : from.readings < CASH_READINGS → Fits (said.Cash place shown) → IsTaken (λ item. item ≡ Asks (Ok requests.Cash)) Fits s from (record from { cash = place + 1; readings = from.readings + 1 })
        read_taken few fit = record {
          turn = CashRead place shown;
          possible = record { asked = refl; fits = fit; allowed = few; next = subst (HasNext cash_caller s.agent from.cash s.log.cash place) (sym entry_is) next };
          stays = refl;
          to_is = refl;
          easiest = λ other is. (
              let to : Places = record from { cash = place + 1; readings = from.readings + 1 } in
              read_only (IsEasier to (behind_turn from other)) other is
              (λ position dollars same few own fit. (
              let there = (alike position dollars own).0 in
              let moved : to ≡ behind_turn from other = (λ i. record from { cash = sym there i + 1; readings = from.readings + 1 }) ∙ ap (behind_turn from) (sym same) in
              subst (IsEasier to) moved (same_places to)))
              (λ same all fit. absurd (some all)));
          stay = all_stay (λ item. item ≡ Asks (Ok requests.Cash)) Fits s from (λ is. absurd cc);
        }

  -- ---- a quote

  module _ (good : ℕ) where
    quote_only : (A : Type 0) (other : Turn) → IsPossible (λ item. item ≡ Asks (Ok (requests.Quote good))) Fits s from other
        → ((board : Board) → other ≡ Quoted good board → slice_index from.seen good ≤ board.count → IsNote s good (board.count, board) → Fits (said.Quote board) → A) → A
    quote_only A (Called r g p e posted) is shown = absurd (let same : r ≡ requests.Quote good = (let asked = is.asked in cc) in let both : None ≡ Some (g, e.call) = ap asked_call (sym same) ∙ is.allowed.0 in cc)
    quote_only A (CallDenied r g) is shown = absurd (let same : r ≡ requests.Quote good = (let asked = is.asked in cc) in let both : None ≡ Some (g, is.allowed.0.0) = ap asked_call (sym same) ∙ is.allowed.0.1 in cc)
    quote_only A (CashRead position dollars) is shown = absurd (let asked = is.asked in cc)
    quote_only A CashDenied is shown = absurd (let asked = is.asked in cc)
    quote_only A (Quoted g board) is shown =
        let here : g ≡ good = (let asked = is.asked in cc) in
        shown board (λ i. Quoted (here i) board) (subst (λ (k : ℕ). slice_index from.seen k ≤ board.count) here is.allowed.1) (subst (λ (k : ℕ). IsNote s k (board.count, board)) here is.next) is.fits
    quote_only A (Refused fault) is shown = absurd (let asked = is.asked in cc)
    quote_only A Skipped is shown = absurd (let asked = is.asked in cc)
    quote_only A Quit is shown = absurd (let asked = is.asked in cc)

    pub quote_stuck : ((count : ℕ) (board : Board) → slice_index from.seen good ≤ count → IsNote s good (count, board) → Fits (said.Quote board) → ⊥)
        → IsStuck (λ item. item ≡ Asks (Ok (requests.Quote good))) Fits s from
    quote_stuck none other is = quote_only ⊥ other is (λ board same forward note fit. none board.count board forward note fit)

    pub quote_taken : IsWide from → good < 28 → (count : ℕ) (board : Board) → slice_index from.seen good ≤ count → IsNote s good (count, board) → board.count ≡ count → Fits (said.Quote board)
        → ((k : ℕ) (other : Board) → slice_index from.seen good ≤ k → k < count → IsNote s good (k, other) → Fits (said.Quote other) → ⊥)
        → IsTaken (λ item. item ≡ Asks (Ok (requests.Quote good))) Fits s from (record from { seen = slice_set from.seen good count })
    quote_taken wide low count board forward note counted fit first = record {
      turn = Quoted good board;
      possible = record {
        asked = refl;
        fits = fit;
        allowed = (low, omega (arith, forward, counted));
        next = subst (λ (n : ℕ). IsNote s good (n, board)) (sym counted) note;
      };
      stays = refl;
      to_is = λ i. record from { seen = slice_set from.seen good (sym counted i) };
      easiest = λ other is. quote_only (IsEasier (record from { seen = slice_set from.seen good count }) (behind_turn from other)) other is
          (λ shown same forward' note' fit'. subst (λ (t : Turn). IsEasier (record from { seen = slice_set from.seen good count }) (behind_turn from t)) (sym same) (record {
            next = refl;
            made = refl;
            cash = refl;
            readings = refl;
            seen = λ g low'. lower_raised from.seen good count shown.count g wide.seen low (not_before shown forward' note' fit');
          }));
      stay = all_stay (λ item. item ≡ Asks (Ok (requests.Quote good))) Fits s from (λ is. absurd cc);
    }
      where
        not_before : (shown : Board) → slice_index from.seen good ≤ shown.count → IsNote s good (shown.count, shown) → Fits (said.Quote shown) → count ≤ shown.count
        not_before shown forward' note' fit' = elim (leb_tells count shown.count) [ inl low ↦ low.1 | inr high ↦ absurd (first shown.count shown forward' high.1 note' fit') ]
