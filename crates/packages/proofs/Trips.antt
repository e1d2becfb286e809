-- What a trip costs, part by part.
use Rattle.std.proofs.Common.{◌≡◌, ℕ, zero, suc, ◌+◌, ◌-◌, ◌*◌, ◌<◌, ◌≤◌, ◌&&◌, Bool, true, false, List, cond, eqb, ltb, leb, get_or, ◌∙◌, arith}
use Rattle.std.proofs.lemmas.Bool.Decides.{nat_tests}
use Rattle.packages.specs.declared.travel_packages.Package.TheVariants.{None, Trip}
use Rattle.packages.specs.{is_package, one_if, use_of, cost_of}
use Rattle.tac_base.specs.Goods.{hotel_night}
use Rattle.packages.specs.Costs.{rooms_price, ticket_price}
use Rattle.packages.proofs.Found.{ranges_of, night_ranges}
use Rattle.packages.proofs.Sums.{sum_below_fours}

-- of four goods the one of a day
inbound_one : (P : ℕ → ℕ) (day : ℕ) → 1 ≤ day → day < 5 → P 0 * one_if (eqb 1 day) + P 1 * one_if (eqb 2 day) + P 2 * one_if (eqb 3 day) + P 3 * one_if (eqb 4 day) ≡ P (day - 1)
inbound_one P zero low high = absurd (omega arith)
inbound_one P (suc zero) low high = omega arith
inbound_one P (suc (suc zero)) low high = omega arith
inbound_one P (suc (suc (suc zero))) low high = omega arith
inbound_one P (suc (suc (suc (suc zero)))) low high = omega arith
inbound_one P (suc (suc (suc (suc (suc day))))) low high = absurd (omega arith)

outbound_one : (P : ℕ → ℕ) (day : ℕ) → 2 ≤ day → day < 6 → P 4 * one_if (eqb 2 day) + P 5 * one_if (eqb 3 day) + P 6 * one_if (eqb 4 day) + P 7 * one_if (eqb 5 day) ≡ P (day + 2)
outbound_one P zero low high = absurd (omega arith)
outbound_one P (suc zero) low high = absurd (omega arith)
outbound_one P (suc (suc zero)) low high = omega arith
outbound_one P (suc (suc (suc zero))) low high = omega arith
outbound_one P (suc (suc (suc (suc zero)))) low high = omega arith
outbound_one P (suc (suc (suc (suc (suc zero))))) low high = omega arith
outbound_one P (suc (suc (suc (suc (suc (suc day)))))) low high = absurd (omega arith)

ticket_one : (P : ℕ → ℕ) (first night : ℕ) → night < 5 → P (first + 0) * one_if (eqb night 1) + P (first + 1) * one_if (eqb night 2) + P (first + 2) * one_if (eqb night 3) + P (first + 3) * one_if (eqb night 4) ≡ cond (eqb night 0) 0 (P (first + (night - 1)))
ticket_one P first zero high = omega arith
ticket_one P first (suc zero) high = let one : P (first + 0) * 1 + P (first + 1) * 0 + P (first + 2) * 0 + P (first + 3) * 0 ≡ P (first + 0) = omega arith in one
ticket_one P first (suc (suc zero)) high = let one : P (first + 0) * 0 + P (first + 1) * 1 + P (first + 2) * 0 + P (first + 3) * 0 ≡ P (first + 1) = omega arith in one
ticket_one P first (suc (suc (suc zero))) high = let one : P (first + 0) * 0 + P (first + 1) * 0 + P (first + 2) * 1 + P (first + 3) * 0 ≡ P (first + 2) = omega arith in one
ticket_one P first (suc (suc (suc (suc zero)))) high = let one : P (first + 0) * 0 + P (first + 1) * 0 + P (first + 2) * 0 + P (first + 3) * 1 ≡ P (first + 3) = omega arith in one
ticket_one P first (suc (suc (suc (suc (suc night))))) high = absurd (omega arith)

-- of the rooms of two hotels those of one
rooms_one : (P : ℕ → ℕ) (hotel : ℕ) (a b c d a' b' c' d' : Bool) → hotel < 2
    → (P 8 * one_if (eqb 0 hotel && (a && a')) + P 9 * one_if (eqb 0 hotel && (b && b')) + P 10 * one_if (eqb 0 hotel && (c && c')) + P 11 * one_if (eqb 0 hotel && (d && d')))
    + (P 12 * one_if (eqb 1 hotel && (a && a')) + P 13 * one_if (eqb 1 hotel && (b && b')) + P 14 * one_if (eqb 1 hotel && (c && c')) + P 15 * one_if (eqb 1 hotel && (d && d')))
    ≡ P (hotel_night hotel 1) * one_if (a && a') + P (hotel_night hotel 2) * one_if (b && b') + P (hotel_night hotel 3) * one_if (c && c') + P (hotel_night hotel 4) * one_if (d && d')
rooms_one P zero a b c d a' b' c' d' h = omega arith
rooms_one P (suc zero) a b c d a' b' c' d' h = omega arith
rooms_one P (suc (suc hotel)) a b c d a' b' c' d' h = absurd (omega arith)

regrouped : (a b c d e f g a' b' r e' f' g' : ℕ) → a ≡ a' → b ≡ b' → c + d ≡ r → e ≡ e' → f ≡ f' → g ≡ g' → a + b + (c + d) + (e + f + g) ≡ a' + b' + r + e' + f' + g'
regrouped a b c d e f g a' b' r e' f' g' arrival departure rooms wrestling park museum = omega arith

-- the parts of a trip
pub cost_of-Trip : (prices : List ℕ) (hotel arrive depart : ℕ) (nights : List ℕ) → is_package (Trip hotel arrive depart nights) ≡ true
    → cost_of prices (Trip hotel arrive depart nights) ≡ get_or prices (arrive - 1) 0 + get_or prices (depart + 2) 0 + rooms_price prices hotel arrive depart
    + ticket_price prices 0 (get_or nights 0 0) + ticket_price prices 1 (get_or nights 1 0) + ticket_price prices 2 (get_or nights 2 0)
unfolding rooms_price
cost_of-Trip prices hotel arrive depart nights lawful =
    let P : ℕ → ℕ = λ good. get_or prices good 0 in
    let ranges = ranges_of hotel arrive depart nights lawful in
    let first : 1 ≤ arrive = grind (arith, nat_tests) in
    let later : arrive < depart = grind (arith, nat_tests) in
    let in_stay : (k : ℕ) → get_or nights k 0 < 5 = λ k. night_ranges arrive depart nights k ranges.depart_in ranges.stays in
    let arrival = inbound_one P arrive first (omega arith) in
    let departure = outbound_one P depart (omega arith) ranges.depart_in in
    let rooms = rooms_one P hotel (leb arrive 1) (leb arrive 2) (leb arrive 3) (leb arrive 4) (ltb 1 depart) (ltb 2 depart) (ltb 3 depart) (ltb 4 depart) ranges.hotel_in in
    let wrestling = ticket_one P 16 (get_or nights 0 0) (in_stay 0) in
    let park = ticket_one P 20 (get_or nights 1 0) (in_stay 1) in
    let museum = ticket_one P 24 (get_or nights 2 0) (in_stay 2) in
    sum_below_fours (λ good. P good * use_of (Trip hotel arrive depart nights) good) ∙ regrouped _ _ _ _ _ _ _ _ _ _ _ _ _ arrival departure rooms wrestling park museum

-- ---- the rooms of a stay, night by night

no_night : (arrive night : ℕ) → (leb arrive night && ltb night arrive) ≡ false
no_night arrive night = grind (arith, nat_tests)

one_more : (arrive n night : ℕ) → arrive ≤ night → one_if (leb arrive n && ltb n (night + 1)) ≡ one_if (leb arrive n && ltb n night) + one_if (eqb night n)
one_more arrive n night stays = grind (arith, nat_tests)

night_more : (price arrive n night : ℕ) → arrive ≤ night → price * one_if (leb arrive n && ltb n (night + 1)) ≡ price * one_if (leb arrive n && ltb n night) + price * one_if (eqb night n)
night_more price arrive n night stays = rw (one_more arrive n night stays) (omega arith)

pub rooms_none : (prices : List ℕ) (hotel arrive : ℕ) → rooms_price prices hotel arrive arrive ≡ 0
unfolding rooms_price
rooms_none prices hotel arrive = rw (no_night arrive 1, no_night arrive 2, no_night arrive 3, no_night arrive 4) (omega arith)

pub rooms_more : (prices : List ℕ) (hotel arrive night : ℕ) → 1 ≤ arrive → arrive ≤ night → night ≤ 4 → rooms_price prices hotel arrive (night + 1) ≡ rooms_price prices hotel arrive night + get_or prices (hotel_night hotel night) 0
unfolding rooms_price
rooms_more prices hotel arrive night first stays last =
    let P : ℕ → ℕ = λ good. get_or prices good 0 in
    let some : eqb night 0 ≡ false = grind (arith, nat_tests) in
    let one = ticket_one P (8 + 4 * hotel) night (omega arith) in
    let this : P (hotel_night hotel 1) * one_if (eqb night 1) + P (hotel_night hotel 2) * one_if (eqb night 2) + P (hotel_night hotel 3) * one_if (eqb night 3) + P (hotel_night hotel 4) * one_if (eqb night 4) ≡ P (hotel_night hotel night) = rw some at one in
    let step : ℕ → Type 0 = λ n. P (hotel_night hotel n) * one_if (leb arrive n && ltb n (night + 1)) ≡ P (hotel_night hotel n) * one_if (leb arrive n && ltb n night) + P (hotel_night hotel n) * one_if (eqb night n) in
    let a : step 1 = night_more (P (hotel_night hotel 1)) arrive 1 night stays in
    let b : step 2 = night_more (P (hotel_night hotel 2)) arrive 2 night stays in
    let c : step 3 = night_more (P (hotel_night hotel 3)) arrive 3 night stays in
    let d : step 4 = night_more (P (hotel_night hotel 4)) arrive 4 night stays in
    omega (arith, this, a, b, c, d)

-- ---- no trip

pub cost_of-None : (prices : List ℕ) → cost_of prices None ≡ 0
cost_of-None prices = sum_below_fours (λ good. get_or prices good 0 * use_of None good) ∙ omega arith
