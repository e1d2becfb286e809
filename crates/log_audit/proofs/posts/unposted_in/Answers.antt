use Rattle.std.proofs.Common.{◌≡◌, ◌≤◌, List, [], ◌∷◌, length, Some, Option, Bor, refl, sym, ap, ◌∙◌, subst, arith, below_more, option_copied}
use Rattle.std.proofs.lemmas.Option.{slice_get_within}
use Rattle.tac_base.specs.declared.calls.Entry.{Entry as StoredEntry}
use Rattle.log_audit.specs.Prelude.{Trade, IsShown}
use Rattle.auction_rules.specs.History.{Entry}
use Rattle.log_audit.proofs.Positions.{same_at}
use Rattle.log_audit.proofs.posts.unposted_in.Goals as goal
use Rattle.log_audit.proofs.posts.unposted_in.Goals.{else-entry-gt0-via-then-entry-gt0+else-not-is_named, else-entry-gt0-via-else-entry-gt0}

no_trade : (trades : List Trade) → length trades ≤ 0 → trades ≡ []
no_trade [] few = refl
no_trade (t ∷ ts) few = absurd (omega (arith, few))

pub loop-position-preserved : goal.loop-position-preserved
loop-position-preserved c =
    let history = c.args.history.now in let n = c.loop-position.position in let shown : StoredEntry = c.unwrap-entry.result.now in
    let is : IsShown history n (Some shown) = subst (λ (o : Option (Bor StoredEntry)). IsShown history n (option_copied o)) c.unwrap-entry.ensures c.entry.ensures.shown in
    below_more _ _ c.loop-position.invariant (λ e at some. elim c.else-entry-gt0.branch [
      | else-entry-gt0-via-then-entry-gt0+else-not-is_named w ↦ (sym w.is_named.ensures.value ∙ w.if-not-is_named.false)
      | else-entry-gt0-via-else-entry-gt0 w ↦
          (let none = w.if-entry-gt0.false in let count = is.2.trades in
          absurd (some (ap (λ (x : Entry). x.trades) (same_at history n e is.0 at is.1) ∙ no_trade is.0.trades (omega (arith, none, count)))))
    ])

pub returns : goal.returns
returns c = λ n e at. let inside = slice_get_within c.args.history.now n e at in let past = c.loop-position-test.false in c.loop-position.invariant n (omega (arith, inside, past, c.len-position-end.ensures.value)) e at
