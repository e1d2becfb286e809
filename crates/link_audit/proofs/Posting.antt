-- Posts and readings of a log: a post that names the place of an entry is the one that is due to it.
use Rattle.std.proofs.Common.{◌≡◌, ℕ, ◌+◌, ◌<◌, List, [], ◌∷◌, length, take, Some, refl, sym, ap, ◌∙◌, subst, arith, ℤ, slice_get}
use Rattle.std.proofs.lemmas.Option.{slice_get_within, get_or_from_slice_get}
use Rattle.link_audit.specs.{Nets, Trade, nets as nets_of, Post, Read, CashEntry, due_post, post_for, LoggedGame, IsLogged, IsLoggedCash, IsLoggedCashEntry, logged_history, IsDuePost, reading, cash_caller, rest_of, HasNext, ArePostedAt, ArePosted, HasTruePosts}
use Rattle.auction_rules.specs.History.{Entry}
use Rattle.trade_ledger.specs.declared.cash_calls.CashCall.{CashCall}
use Rattle.trade_ledger.specs.declared.cash_calls.CashReply.{CashReply}
use Rattle.trade_ledger.specs.declared.cash_calls.CashReply.TheVariants.{Done, Cash}
use Rattle.link_audit.proofs.Rest.{same_entry}

-- ---- readings

read_so : (caller : ℕ) (call : CashCall) (reply : CashReply) (dollars : ℤ) → IsLoggedCash caller call reply → reply ≡ Cash dollars → reading caller dollars ≡ record { caller = caller; call = call; reply = reply }
read_so caller (Post good position nets) Done dollars logged is = absurd cc
read_so caller (Post good position nets) (Cash amount) dollars logged is = absurd logged
read_so caller (Read agent) Done dollars logged is = absurd logged
read_so caller (Read agent) (Cash amount) dollars logged is = let same : amount ≡ dollars = cc in λ i. record { caller = caller; call = Read (sym logged.1 i); reply = Cash (sym same i) }

-- an entry that shows dollars is its caller's reading
pub reading_of : (e : CashEntry) → IsLoggedCashEntry e → (dollars : ℤ) → e.reply ≡ Cash dollars → reading e.caller dollars ≡ e
reading_of e logged dollars is = read_so e.caller e.call e.reply dollars logged is

-- ---- posts

post_done : (caller : ℕ) (call : CashCall) (reply : CashReply) (good position : ℕ) (nets : Nets) → IsLoggedCash caller call reply → call ≡ Post good position nets → reply ≡ Done
post_done caller (Post g p n) Done good position nets logged is = refl
post_done caller (Post g p n) (Cash amount) good position nets logged is = absurd logged
post_done caller (Read agent) reply good position nets logged is = absurd cc

-- an entry of the cash history is in its range
pub logged_at : (log : LoggedGame) → IsLogged log → (place : ℕ) (c : CashEntry) → slice_get log.cash place ≡ Some c → IsLoggedCashEntry c
logged_at log logged place c at =
    subst IsLoggedCashEntry (get_or_from_slice_get log.cash place c c at) (logged.cash place c (slice_get_within log.cash place c at))

module _ (agent : ℕ) (log : LoggedGame) (posts : HasTruePosts log) (good position : ℕ) (e : Entry) (at : slice_get (logged_history log good) position ≡ Some e) (from : ℕ) where
  pub none_due : length e.trades ≡ 0 → ArePosted agent log.cash from (due_post good position e) from
  none_due none = by_trades e.trades none (record { caller = e.caller; call = Post good position (record { dollars = nets_of e.trades }); reply = Done })
    where
      by_trades : (trades : List Trade) → length trades ≡ 0 → (post : CashEntry) → ArePosted agent log.cash from (post_for trades post) from
      by_trades [] none post = record { posted = 0; at = tt; to_is = refl }
      by_trades (t ∷ ts) none post = absurd (omega (arith, none))

  post_due : 0 < length e.trades → due_post good position e ≡ record { caller = e.caller; call = Post good position (record { dollars = nets_of e.trades }); reply = Done } ∷ []
  post_due some = by_trades e.trades some (record { caller = e.caller; call = Post good position (record { dollars = nets_of e.trades }); reply = Done })
    where
      by_trades : (trades : List Trade) → 0 < length trades → (post : CashEntry) → post_for trades post ≡ post ∷ []
      by_trades [] some post = absurd (omega (arith, some))
      by_trades (t ∷ ts) some post = refl

  module _ (some : 0 < length e.trades) where
    module _ (place : ℕ) (c : CashEntry) (there : slice_get log.cash place ≡ Some c) (next : HasNext cash_caller agent from log.cash place c) where
      pub unposted_before : ((nets : Nets) → c.call ≡ Post good position nets → ⊥) → (to : ℕ) → ArePosted agent log.cash from (due_post good position e) to → ⊥
      unposted_before other to is =
          let post : CashEntry = record { caller = e.caller; call = Post good position (record { dollars = nets_of e.trades }); reply = Done } in
          let own : HasNext cash_caller agent from log.cash is.posted post =
          subst (λ (l : List CashEntry). ArePostedAt agent log.cash from l is.posted) (post_due some) is.at in
          let rest : ℕ → List (ℕ × CashEntry) = λ k. rest_of cash_caller agent (k + 1) log.cash in
          let both : (place, c) ∷ rest place ≡ (is.posted, post) ∷ rest is.posted = sym next ∙ own in
          other (record { dollars = nets_of e.trades }) (ap (λ (x : CashEntry). x.call) (same_entry place is.posted c post (rest place) (rest is.posted) both))

      pub posted_next : (nets : Nets) → c.call ≡ Post good position nets → ArePosted agent log.cash from (due_post good position e) (place + 1)
      posted_next nets call =
          let post : CashEntry = record { caller = e.caller; call = Post good position (record { dollars = nets_of e.trades }); reply = Done } in
          let due : IsDuePost (logged_history log) (take place log.cash) c.caller (Post good position nets) =
          subst (IsDuePost (logged_history log) (take place log.cash) c.caller) call (posts.due place c there) in
          let found : Entry = due.0.0 in
          let same : found ≡ e = (let both : Some found ≡ Some e = sym due.0.1 ∙ at in cc) in
          let earned = due.0.2 in
          let done : c.reply ≡ Done = post_done c.caller c.call c.reply good position nets (logged_at log posts.logged place c there) call in
          let dollars : nets.dollars ≡ nets_of e.trades = earned.nets_are ∙ ap (λ (x : Entry). nets_of x.trades) same in
          let caller : c.caller ≡ e.caller = earned.caller_is ∙ ap (λ (x : Entry). x.caller) same in
          let is : c ≡ post = λ i. record { caller = caller i; call = (call ∙ (λ j. Post good position (record { dollars = dollars j }))) i; reply = done i } in
          subst (λ (l : List CashEntry). ArePosted agent log.cash from l (place + 1)) (sym (post_due some))
          (record { posted = place; at = subst (HasNext cash_caller agent from log.cash place) is next; to_is = refl })
