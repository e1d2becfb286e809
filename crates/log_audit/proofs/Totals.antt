-- The totals of a cash history with one entry more.
use Rattle.std.proofs.Common.{◌≡◌, ℕ, ◌+◌, ◌*◌, ◌<◌, List, take, ℤ, pos, ◌+ℤ◌, slice_index_or, slice_get, Some, sym, ap, ◌∙◌}
use Rattle.log_audit.specs.{CashEntry, cash_total, gain_of, IsWithin, AreTotals}
use Rattle.trade_ledger.proofs.CashSteps.{cash_total-snoc, within_more}
use Rattle.log_audit.proofs.Positions.{take_at}

module _ (cash : List CashEntry) (position : ℕ) (e : CashEntry) (at : slice_get cash position ≡ Some e) where
  total_more : (party : ℕ) → cash_total (take (position + 1) cash) party ≡ cash_total (take position cash) party +ℤ gain_of e.call party
  total_more party = ap (λ (h : List CashEntry). cash_total h party) (take_at cash position e at) ∙ cash_total-snoc (take position cash) e party

  pub totals_more : (totals totals' : List ℤ) → AreTotals (take position cash) totals
      → ((party : ℕ) → party < 9 → slice_index_or totals' party (pos 0) ≡ slice_index_or totals party (pos 0) +ℤ gain_of e.call party) → AreTotals (take (position + 1) cash) totals'
  totals_more totals totals' so_far new party lt = new party lt ∙ (ap (λ (z : ℤ). z +ℤ gain_of e.call party) (so_far party lt) ∙ sym (total_more party))

  pub small_more : ((party : ℕ) → party < 9 → IsWithin (position * 2147483648) (cash_total (take position cash) party)) → ((party : ℕ) → party < 9 → IsWithin 2147483648 (gain_of e.call party))
      → (party : ℕ) → party < 9 → IsWithin ((position + 1) * 2147483648) (cash_total (take (position + 1) cash) party)
  small_more so_far small party lt = within_more position (cash_total (take position cash) party) (gain_of e.call party) (cash_total (take (position + 1) cash) party) (so_far party lt) (small party lt) (total_more party)
