-- What a party gains and pays in trades, by the game description.
use Rattle.std.specs.Prelude.{ℕ, ◌*◌, ◌==◌, if◌then◌else◌, List, ℤ, pos, ◌+ℤ◌, ◌-ℤ◌, map, sum_by, filter, slice_index_or, flat_map}
use Rattle.tac_base.specs.declared.calls.Trade.{Trade}
use Rattle.tac_base.specs.Goods.{house, parties}
use Rattle.auction_rules.specs.Setup.{Setup}
use Rattle.auction_rules.specs.History.{Entry}

-- how many units a party buys
abbrev pub bought : List Trade → ℕ → ℕ
bought trades party = sum_by (λ t. t.units) (filter (λ t. t.buyer == party) trades)

-- how many units a party sells
abbrev pub sold : List Trade → ℕ → ℕ
sold trades party = sum_by (λ t. t.units) (filter (λ t. t.seller == party) trades)

-- the units that a party buys less those that it sells
abbrev pub net_units : List Trade → ℕ → ℤ
net_units trades party = pos (bought trades party) -ℤ pos (sold trades party)

-- what a party gains in trades, in dollars: units times price, summed over its sales, less the same sum over its purchases
-- Row: buyers_pay_and_nets_add_up_to_0 (worked_rows/proofs/Auctions.antt)
abbrev pub dollars : List Trade → ℕ → ℤ
dollars trades party =
    pos (sum_by (λ t. t.units * t.price) (filter (λ t. t.seller == party) trades)) -ℤ pos (sum_by (λ t. t.units * t.price) (filter (λ t. t.buyer == party) trades))

-- what each of the nine parties gains, in order. The amounts add up to 0, since each trade has a buyer and a seller.
-- Row: buyers_pay_and_nets_add_up_to_0 (worked_rows/proofs/Auctions.antt)
abbrev pub nets : List Trade → List ℤ
nets trades = map (dollars trades) parties

-- How many units of the good a party holds: its endowment, which is 0 for the house, and its net units over all trades, a sum in which
-- the order of the trades does not matter. The number is negative for an agent that has sold tickets short.
-- Row: part_of_a_sale_is_left (worked_rows/proofs/Auctions.antt)
-- Row: holding_may_be_negative (worked_rows/proofs/Auctions.antt)
abbrev pub holding : Setup → List Entry → ℕ → ℤ
holding setup past party = (if party == house then pos 0 else slice_index_or setup.endow party (pos 0)) +ℤ net_units (flat_map (λ e. e.trades) past) party

-- ---- words of the books and the laws

-- the trades in which a party buys
abbrev pub buys_by : List Trade → ℕ → List Trade
buys_by trades party = filter (λ t. t.buyer == party) trades

-- the trades in which a party sells
abbrev pub sales_by : List Trade → ℕ → List Trade
sales_by trades party = filter (λ t. t.seller == party) trades

-- the trades of all entries, in the order in which these are given: for a past, those of its newest entry come first
abbrev pub all_trades : List Entry → List Trade
all_trades past = flat_map (λ e. e.trades) past
