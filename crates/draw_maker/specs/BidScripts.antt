-- Scripts of ticks and bids.
use Rattle.std.specs.Prelude.{◌≡◌, ℕ, ◌≤◌, List, [], ◌∷◌, Bool, not, None, ◌⊎◌, All, codes, count_by, bytes_eq}
use Rattle.draw_maker.specs.Prelude.{Point, TICKS, fault_of, text_of}
use Rattle.draw_maker.specs.Scripts.{bid_line}

abbrev pub is_tick : List ℕ → Bool
is_tick line = bytes_eq line (codes "tick")

-- an agent's bid of one point, within the limits of a bid
pub record IsBidLine (line : List ℕ) : Type 0 where
  pub agent : ℕ
  pub good : ℕ
  pub point : Point
  pub one_of_agents : agent ≤ 7
  pub one_of_goods : good ≤ 27
  pub lawful : fault_of (point ∷ []) ≡ None
  pub spelled : line ≡ bid_line agent good point

-- this many bids, and at most as many ticks as a game has, in lines
pub record IsBidScript (count : ℕ) (text : List ℕ) : Type 0 where
  pub lines : List (List ℕ)
  pub in_lines : text ≡ text_of lines
  pub either : All (λ line. (line ≡ codes "tick") ⊎ IsBidLine line) lines
  pub ticks : count_by is_tick lines ≤ TICKS
  pub bids : count_by (λ line. not (is_tick line)) lines ≡ count
