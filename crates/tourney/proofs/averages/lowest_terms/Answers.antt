use Rattle.std.proofs.Common.{rules, ◌≡◌, ℕ, ℤ, ◌/◌, unsigned_abs, to_z, of_z, w64, ap, sym, subst, ◌∙◌}
use Rattle.std.specs.Int.{IsGcd}
use Rattle.std.proofs.lemmas.Int.{to_z-of_z}
use Rattle.tourney.specs.Rows.{IsAverage, signed}
use Rattle.tourney.proofs.LowestTerms.{divisor_some, average_is}
use Rattle.tourney.proofs.averages.lowest_terms.Goals as goal

-- of a total and its games, as they are read from their bits
divisor : (total seen : ℤ) (games dollars from g : ℕ) → seen ≡ total → dollars ≡ unsigned_abs seen → from ≡ games → IsGcd dollars from g → IsGcd (unsigned_abs total) games g
divisor total seen games dollars from g read is same gcd =
    subst (λ (n : ℕ). IsGcd (unsigned_abs total) n g) same (subst (λ (n : ℕ). IsGcd n from g) (is ∙ ap unsigned_abs read) gcd)

pub nonzero_div-dollars : goal.nonzero_div-dollars
nonzero_div-dollars c =
    let g = c.greatest_divisor-divisor.result in
    divisor_some (unsigned_abs c.args.total) c.args.games g
    (divisor c.args.total _ c.args.games _ c.from.result g (to_z-of_z w64 c.args.total c.ranges.total) c.unsigned_abs-dollars.ensures.value c.from.ensures c.greatest_divisor-divisor.ensures) c.requires.some

pub nonzero_div-result : goal.nonzero_div-result
nonzero_div-result c =
    let g = c.greatest_divisor-divisor.result in
    divisor_some (unsigned_abs c.args.total) c.args.games g
    (divisor c.args.total _ c.args.games _ c.from.result g (to_z-of_z w64 c.args.total c.ranges.total) c.unsigned_abs-dollars.ensures.value c.from.ensures c.greatest_divisor-divisor.ensures) c.requires.some

pub returns : goal.returns
returns c =
    let g = c.greatest_divisor-divisor.result in
    let read : to_z w64 (of_z w64 c.args.total) ≡ c.args.total = to_z-of_z w64 c.args.total c.ranges.total in
    let dollars : c.unsigned_abs-dollars.result ≡ unsigned_abs c.args.total = c.unsigned_abs-dollars.ensures.value ∙ ap unsigned_abs read in
    let gcd : IsGcd (unsigned_abs c.args.total) c.args.games g = divisor c.args.total _ c.args.games _ c.from.result g read c.unsigned_abs-dollars.ensures.value c.from.ensures c.greatest_divisor-divisor.ensures in
    let over : c.signed.result ≡ signed c.args.total (unsigned_abs c.args.total / g) = c.signed.ensures ∙ (λ i. signed (read i) (dollars i / g)) in
    let average : IsAverage c.args.total c.args.games c.signed.result (c.from-2.result / g) =
    subst (λ (n : ℕ). IsAverage c.args.total c.args.games c.signed.result (n / g)) (sym c.from-2.ensures) (average_is c.args.total c.signed.result c.args.games g gcd c.requires.some over) in
    subst (λ (z : ℤ). IsAverage c.args.total c.args.games z (c.from-2.result / g)) (sym (to_z-of_z w64 c.signed.result (search rules))) average
