use Rattle.std.proofs.Common.{◌≡◌, ℕ, ◌+◌, ◌<◌, List, Some, slice_get, length, subst, sym, ap, ◌∙◌, arith}
use Rattle.std.proofs.lemmas.Option.{slice_get-get_or}
use Rattle.auction_core.specs.Ranges.{IsHistory}
use Rattle.auction_rules.specs.History.{Entry}
use Rattle.log_reader.proofs.HistoryCases.{history_at}
use Rattle.log_reader.proofs.logs.Log.history.Goals as goal

pub returns-clause-logged : goal.returns-clause-logged
returns-clause-logged c =
    let a = c.self.inside in
    let found = c.index.result.now in
    let goods = c.self.invariant.goods in
    let here : c.from.result < length a.histories.items = omega (arith, goods, c.from.ensures, c.get.ensures.value, c.get.ensures.range) in
    let at : slice_get a.histories.items c.from.result ≡ Some found = slice_get-get_or a.histories.items c.from.result found here ∙ ap (λ (h : List Entry). Some h) (sym c.index.ensures) in
    let same : 0 + c.from.result ≡ c.args.good = omega (arith, c.from.ensures, c.get.ensures.value) in
    subst (λ (good : ℕ). IsHistory good found) same (history_at 0 a.histories.items c.from.result found c.self.invariant.histories at)
