-- A board that fits its word can be read back from it.
use Rattle.std.proofs.Common.{◌≡◌, ℕ, ◌+◌, ◌*◌, ◌/◌, ◌%◌, ◌<◌, ◌≤◌, eqb, Bool, true, false, cond, ap, arith}
use Rattle.tac_base.specs.declared.calls.Board.{Board}
use Rattle.turn_lock.specs.BoardWord.{IsSmall, packed, unpacked}

fields : (c b a k : ℕ) → c < 16777216 → b < 16384 → a < 16384 → k ≤ 1 → let n = c + b * 16777216 + a * 274877906944 + k * 4503599627370496 in
    (n % 16777216 ≡ c) × (n / 16777216 % 16384 ≡ b) × (n / 274877906944 % 16384 ≡ a) × (n / 4503599627370496 % 2 ≡ k)
fields c b a k hc hb ha hk = (omega arith, omega arith, omega arith, omega arith)

module _ (c b a : ℕ) (hc : c < 16777216) (hb : b < 16384) (ha : a < 16384) where
  again : (k : Bool) → unpacked (c + b * 16777216 + a * 274877906944 + cond k 4503599627370496 0) ≡ record { count = c; bid = b; ask = a; closed = k }
  again true = let t = fields c b a 1 hc hb ha (omega arith) in λ i. record { count = t.0 i; bid = t.1 i; ask = t.2 i; closed = eqb (t.3 i) 1 }
  again false = let t = fields c b a 0 hc hb ha (omega arith) in λ i. record { count = t.0 i; bid = t.1 i; ask = t.2 i; closed = eqb (t.3 i) 1 }

pub unpacked-packed : (b : Board) → IsSmall b → unpacked (packed b) ≡ b
unpacked-packed b small = again b.count b.bid b.ask small.0 small.1 small.2 b.closed

pub packed_count : (b : Board) → IsSmall b → packed b % 16777216 ≡ b.count
packed_count b small = ap (λ (x : Board). x.count) (unpacked-packed b small)
