use Rattle.std.proofs.Common.{◌++◌, sym, ap, ◌∙◌, option_to_list}
use lib.ListN.{get_elem?}
use Rattle.trade_ledger.proofs.Taking.{two_taken}
use Rattle.auction_tests.proofs.cash.begin_two.Goals as goal

pub returns-clause-first : goal.returns-clause-first
returns-clause-first c =
    let all = c.in_ok-lock.passes in let begun = c.in_ok-lock.ensures.passes in let ys = c.pop.new.self.items in let zs = c.pop-2.new.self.items in
    let two = two_taken all.items ys zs c.unwrap-first.result c.unwrap-second.result (sym all.ok.0 ∙ begun.0)
    (c.pop.ensures.items ∙ ap (λ o. ys ++ option_to_list o) c.unwrap-second.ensures) (c.pop-2.ensures.items ∙ ap (λ o. zs ++ option_to_list o) c.unwrap-first.ensures) in
    let told = begun.1 0 c.unwrap-first.result (ap (λ l. get_elem? l 0) two) in (told.0, told.1, told.2)

pub returns-clause-second : goal.returns-clause-second
returns-clause-second c =
    let all = c.in_ok-lock.passes in let begun = c.in_ok-lock.ensures.passes in let ys = c.pop.new.self.items in let zs = c.pop-2.new.self.items in
    let two = two_taken all.items ys zs c.unwrap-first.result c.unwrap-second.result (sym all.ok.0 ∙ begun.0)
    (c.pop.ensures.items ∙ ap (λ o. ys ++ option_to_list o) c.unwrap-second.ensures) (c.pop-2.ensures.items ∙ ap (λ o. zs ++ option_to_list o) c.unwrap-first.ensures) in
    let told = begun.1 1 c.unwrap-second.result (ap (λ l. get_elem? l 1) two) in (told.0, told.1, told.2)
