-- The bytes and the length of a seat word are determined by its padded form.
use Rattle.std.proofs.Common.{◌≡◌, ℕ, ◌-◌, List, ◌++◌, length, take, sym, ap, arith, replicate, length-take-le}
use Rattle.game_text.specs.SeatWords.{IsPadded}

pub padded_again : {A : Type 0} (make : List ℕ → ℕ → A) (bytes : List ℕ) (len : ℕ) → IsPadded bytes len → make (take len bytes ++ replicate (16 - length (take len bytes)) 0) (length (take len bytes)) ≡ make bytes len
padded_again make bytes len is =
    let whole = is.whole in
    let few = is.few in
    let short : length (take len bytes) ≡ len = length-take-le len bytes (omega (arith, whole, few)) in
    rw short (ap (λ (b : List ℕ). make b len) (sym is.zeros))
