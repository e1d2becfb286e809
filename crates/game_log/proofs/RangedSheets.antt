-- Any sheet of a game is in the ranges of logs, except for the lines of its certificates.
use Rattle.std.proofs.Common.{◌≡◌, ℕ, ◌*◌, ◌<◌, ◌≤◌, ◌^◌, Bool, true, false, cond, List, [], ◌∷◌, length, drop, get_or, sum_by, ℤ, pos, negsuc, ◌+ℤ◌, ◌-ℤ◌, unsigned_abs, sym, subst, arith, ◌==◌, All, length-drop}
use Rattle.std.specs.List.{AllByRecursion}
use Rattle.std.proofs.lemmas.Int.{ints}
use Rattle.std.proofs.lemmas.List.Elements.{All-get_or, All-drop, recursion_from_All}
use Rattle.std.proofs.lemmas.List.Sums.{sum_by-cons}
use Rattle.std.proofs.lemmas.Option.{slice_get-get_or}
use Rattle.tac_base.specs.Clients.{Preferences, IsClient}
use Rattle.game_text.specs.AgentLines.{AreClients}
use Rattle.game_text.specs.Accounts.{AccountFile, IsHolding}
use Rattle.game_log.specs.Prelude.{GameFile, IsGame, IsWithin, ClosedGame, settlement_of, AreHoldings, IsSettlement, Scored, IsScored}
use Rattle.packages.specs.declared.travel_packages.Package.{Package}
use Rattle.packages.specs.declared.travel_packages.Package.TheVariants.{None, Trip}
use Rattle.packages.specs.Packages.{utility_of, fun_of}
use Rattle.packages.specs.BestTotal.{total_of}
use Rattle.score_sheet.specs.Score.{lacking, short_of}
use Rattle.game_log.specs.LogRanges.{IsRangedScore}
use Rattle.game_log.specs.ScoredGames.{IsSheetOf}

-- ---- the best total

value_small : (values : List ℕ) → length values ≡ 3 → All (λ value. value ≤ 200) values → (kind : ℕ) → kind < 3 → get_or values kind 0 ≤ 200
value_small values three all kind low = all kind 0 (omega (arith, three, low))

fun_small : (values nights : List ℕ) (kind : ℕ) → get_or values kind 0 ≤ 200 → fun_of values nights kind ≤ 200
fun_small values nights kind small = by_test (get_or nights kind 0 == 0)
  where
    by_test : (b : Bool) → cond b 0 (get_or values kind 0) ≤ 200
    by_test true = omega arith
    by_test false = small

premium_small : (b : Bool) (premium : ℕ) → premium ≤ 150 → cond b premium 0 ≤ 150
premium_small true premium low = low
premium_small false premium low = omega arith

utility_small : (client : Preferences) (p : Package) → IsClient client → utility_of client p ≤ 1750
utility_small client None is = omega arith
utility_small client (Trip hotel arrive depart nights) is =
    let premium = premium_small (hotel == 1) client.premium is.premium_high in
    let values = value_small client.values is.three is.values_high in
    let one = fun_small client.values nights 0 (values 0 (omega arith)) in
    let two = fun_small client.values nights 1 (values 1 (omega arith)) in
    let three = fun_small client.values nights 2 (values 2 (omega arith)) in
    omega (arith, premium, one, two, three)

total_small : (clients : List Preferences) (ps : List Package) → AllByRecursion IsClient clients → total_of clients ps ≤ length clients * 1750
total_small [] ps all = omega arith
total_small (client ∷ clients) [] all = omega arith
total_small (client ∷ clients) (p ∷ ps) all =
    let one = utility_small client p all.0 in let rest = total_small clients ps all.1 in omega (arith, one, rest)

-- ---- tickets short

lacking_small : (held : ℤ) → IsHolding held → lacking held ≤ 200000
lacking_small (pos n) is = omega arith
lacking_small (negsuc n) is = omega (arith, ints, is.0)

all_lacking_small : (holdings : List ℤ) → AllByRecursion IsHolding holdings → sum_by lacking holdings ≤ length holdings * 200000
all_lacking_small [] all = omega arith
all_lacking_small (held ∷ holdings) all =
    let one = lacking_small held all.0 in let rest = all_lacking_small holdings all.1 in let split = sum_by-cons lacking held holdings in omega (arith, one, rest, split)

short_small : (holdings : List ℤ) → AreHoldings holdings → short_of holdings ≤ 2400000
short_small holdings are =
    let all = all_lacking_small (drop 16 holdings) (recursion_from_All IsHolding (drop 16 holdings) (All-drop IsHolding 16 holdings are.each)) in
    let count = length-drop 16 holdings in
    let whole = are.count in
    omega (arith, all, count, whole)

-- ---- a score

dollars_small : (dollars : ℤ) → IsWithin 1000000000000000 dollars → unsigned_abs dollars < 10 ^ 18
dollars_small dollars is = omega (arith, ints, is.0, is.1)

score_small : (best : ℕ) (cash : ℤ) (short : ℕ) → best ≤ 14000 → IsWithin 1000000000000000 cash → short ≤ 2400000 → unsigned_abs ((pos best +ℤ cash) -ℤ pos (200 * short)) < 10 ^ 18
score_small best cash short few within less = omega (arith, ints, within.0, within.1)

score_ranged : (account : AccountFile) (gained : ℤ) (scored : Scored) → AreClients account.clients → AreHoldings account.holdings → IsWithin 1000000000000000 gained → IsScored account gained scored → IsRangedScore scored
score_ranged account gained scored clients holdings within is lines =
    let best : scored.best ≤ 14000 = most (length account.clients) (total_of account.clients scored.allocation) scored.best clients.count is.solution.worth (total_small account.clients scored.allocation (recursion_from_All IsClient account.clients clients.each)) in
    let cash : IsWithin 1000000000000000 scored.cash = subst (IsWithin 1000000000000000) (sym is.cash) within in
    let short : scored.short ≤ 2400000 = subst (λ (n : ℕ). n ≤ 2400000) (sym is.short) (short_small account.holdings holdings) in
    record {
      best = best;
      cash = dollars_small scored.cash cash;
      short = omega (arith, short);
      score = subst (λ (z : ℤ). unsigned_abs z < 10 ^ 18) (sym is.score) (score_small scored.best scored.cash scored.short best cash short);
      eight = is.solution.feasible.eight;
      packages = is.solution.feasible.lawful;
      certificate = is.solution.certificate;
      lines = lines;
    }
  where
    most : (count total best : ℕ) → count ≡ 8 → total ≡ best → total ≤ count * 1750 → best ≤ 14000
    most count total best eight is le = omega (arith, eight, is, le)

-- ---- a sheet

pub sheet_is_ranged : (game : GameFile) (closed : ClosedGame) → IsGame game → IsSettlement (settlement_of closed.auctions) → (sheet : List Scored) → IsSheetOf game closed sheet → All IsRangedScore sheet
sheet_is_ranged game closed is settled sheet scores k d inside =
    let low : k < 8 = let count = scores.count in omega (arith, count, inside) in
    let settlement = settlement_of closed.auctions in
    score_ranged _ _ (get_or sheet k d)
    (All-get_or AreClients game.clients k [] (let count = is.agents.client_count in omega (arith, low, count)) is.agents.clients)
    (All-get_or AreHoldings settlement.holdings k [] (let count = settled.holdings_count in omega (arith, low, count)) settled.holdings)
    (All-get_or (IsWithin 1000000000000000) settlement.cash k (pos 0) (let count = settled.cash_count in omega (arith, low, count)) settled.cash)
    (scores.due k (get_or sheet k d) (slice_get-get_or sheet k d inside))
