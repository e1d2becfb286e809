-- A history is legal exactly if each of its entries is fair.
use Rattle.std.proofs.Common.{◌≡◌, ℕ, zero, suc, ◌+◌, ◌<◌, ◌≤◌, List, [], ◌∷◌, ◌++◌, length, take, refl, sym, ap, ◌∙◌, subst, arith, cond, Some, slice_get, Option, None, eq-eqb, reverse, ◌==◌, append_assoc}
use Rattle.std.specs.List.{AllByRecursion}
use Rattle.std.proofs.lemmas.List.{reverse-append}
use Rattle.std.proofs.lemmas.List.Sums.{sum_by-append, sum_by-cons}
use Rattle.log_audit.specs.{Call, Reply, clock, Setup, Legal, IsLawful, entry_of, entry_by, entries_of, cap, reply_of, trades_of, HasFairEntry}
use Rattle.auction_rules.specs.History.{Entry}
use Rattle.auction_rules.specs.BookRules.{refusal}
use Rattle.auction_core.proofs.Counting.{AreCapped, capped_snoc}
use Rattle.log_audit.proofs.Positions.{found_at, take_at, split_at, all_taken}

module _ (setup : Setup) where
  caller_by : (past : List Entry) (caller : ℕ) (call : Call) (refused : Option Reply) → (entry_by setup past caller call refused).caller ≡ caller
  caller_by past caller call (Some reply) = refl
  caller_by past caller call None = refl

  call_by : (past : List Entry) (caller : ℕ) (call : Call) (refused : Option Reply) → (entry_by setup past caller call refused).call ≡ call
  call_by past caller call (Some reply) = refl
  call_by past caller call None = refl

  -- an entry with the reply and the trades of the rules is theirs
  pub ruled : (past : List Entry) (e : Entry) → e.reply ≡ reply_of setup past e.caller e.call → e.trades ≡ trades_of setup past e.caller e.call → e ≡ entry_of setup past e.caller e.call
  ruled past e replied traded =
      let refused = refusal setup.rules past e.caller e.call in
      λ i. record { caller = sym (caller_by past e.caller e.call refused) i; call = sym (call_by past e.caller e.call refused) i; reply = replied i; trades = traded i }

  lawful_tail : (later past : List Entry) → IsLawful setup (later ++ past) → IsLawful setup past
  lawful_tail [] past lawful = lawful
  lawful_tail (x ∷ later) past lawful = lawful_tail later past lawful.1

  module _ (history : List Entry) where
    turned : (before later : List Entry) (e : Entry) → reverse (before ++ e ∷ later) ≡ reverse later ++ e ∷ reverse before
    turned before later e = reverse-append before (e ∷ later) ∙ (ap (λ (l : List Entry). l ++ reverse before) (reverse-append (e ∷ []) later) ∙ append_assoc (reverse later) (e ∷ []) (reverse before))

    own_once : (e : Entry) → cond {A = ℕ} (e.caller == e.caller) 1 0 ≡ 1
    own_once e = ap (λ b. cond {A = ℕ} b 1 0) (eq-eqb e.caller e.caller refl)

    -- the entries of a legal history are fair
    pub fair_from_legal : Legal setup history → (position : ℕ) → HasFairEntry setup history position
    fair_from_legal legal position e at =
        let before = take position history in
        let split = split_at history position e at in
        let lawful : IsLawful setup (e ∷ reverse before) = lawful_tail (reverse split.0) (e ∷ reverse before) (subst (IsLawful setup) (ap reverse split.1 ∙ turned before split.0 e) legal.lawful) in
        let whole : entries_of history e.caller ≡ entries_of before e.caller + entries_of (e ∷ split.0) e.caller =
        ap (λ (h : List Entry). entries_of h e.caller) split.1 ∙ sum_by-append (λ (x : Entry). cond (x.caller == e.caller) 1 0) before (e ∷ split.0) in
        let own : entries_of (e ∷ split.0) e.caller ≡ 1 + entries_of split.0 e.caller =
        sum_by-cons (λ (x : Entry). cond (x.caller == e.caller) 1 0) e split.0 ∙ ap (λ (n : ℕ). n + entries_of split.0 e.caller) (own_once e) in
        record {
          reply = ap (λ (x : Entry). x.reply) lawful.0;
          trades = ap (λ (x : Entry). x.trades) lawful.0;
          room = λ full. let few = legal.capped e.caller (called_at history position e legal.called at) in absurd (omega (arith, whole, own, few, full));
        }
      where
        called_at : (h : List Entry) (k : ℕ) (x : Entry) → AllByRecursion (λ (y : Entry). y.caller ≤ clock) h → slice_get h k ≡ Some x → x.caller ≤ clock
        called_at [] k x all is = let never : None ≡ Some x = is in absurd cc
        called_at (y ∷ h) zero x all is = let same : y ≡ x = cc in subst (λ (z : Entry). z.caller ≤ clock) same all.0
        called_at (y ∷ h) (suc k) x all is = called_at h k x all.1 is

    made_of : ((position : ℕ) → HasFairEntry setup history position) → ((position : ℕ) (e : Entry) → slice_get history position ≡ Some e → e.caller ≤ clock)
        → (n : ℕ) → n ≤ length history → IsLawful setup (reverse (take n history)) × AreCapped (take n history)
    made_of fair called zero le = (tt, λ caller low. omega arith)
    made_of fair called (suc n) le =
        let so_far = made_of fair called n (omega (arith, le)) in
        let found = found_at history n (omega (arith, le)) in
        let e = found.0 in
        let here = fair n e found.1 in
        let next : suc n ≡ n + 1 = omega arith in
        let more : take (suc n) history ≡ take n history ++ e ∷ [] = ap (λ (k : ℕ). take k history) next ∙ take_at history n e found.1 in
        let room : entries_of (take n history) e.caller < cap e.caller = (let few = so_far.1 e.caller (called n e found.1) in let apart = here.room in omega (arith, few, apart)) in (
          subst (λ (h : List Entry). IsLawful setup (reverse h)) (sym more) (subst (IsLawful setup) (sym (reverse-append (take n history) (e ∷ []))) (ruled (reverse (take n history)) e here.reply here.trades, so_far.0)),
          subst AreCapped (sym more) (capped_snoc (take n history) e so_far.1 room),
        )

    all_called : (h : List Entry) → ((position : ℕ) (e : Entry) → slice_get h position ≡ Some e → e.caller ≤ clock) → AllByRecursion (λ (x : Entry). x.caller ≤ clock) h
    all_called [] called = tt
    all_called (e ∷ h) called = (called 0 e refl, all_called h (λ k x is. called (suc k) x is))

    -- a history of fair entries is legal
    pub legal_from_fair : ((position : ℕ) → HasFairEntry setup history position) → ((position : ℕ) (e : Entry) → slice_get history position ≡ Some e → e.caller ≤ clock) → Legal setup history
    legal_from_fair fair called =
        let made = made_of fair called (length history) (omega arith) in
        let whole : take (length history) history ≡ history = all_taken history (length history) (omega arith) in
        record {
          lawful = subst (λ (h : List Entry). IsLawful setup (reverse h)) whole made.0;
          called = all_called history called;
          capped = subst AreCapped whole made.1;
        }
