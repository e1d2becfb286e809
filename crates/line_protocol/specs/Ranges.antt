-- The ranges in which a reply line is read.
use Rattle.std.specs.Prelude.{◌≡◌, ℕ, ◌^◌, ◌≤◌, ◌<◌, ⊤, List, unsigned_abs}
use Rattle.line_protocol.specs.Prelude.{Reply, IsReply, CASH_DIGITS, POSITION, SHOWN_PRICE}
use Rattle.line_protocol.specs.declared.saying.Said.{Said}
use Rattle.line_protocol.specs.declared.saying.Said.TheVariants.{At, Cash, Quote, Spent, Fault, TooLong, Bye}
use Rattle.line_protocol.specs.Replies.{reply_text, said_text}

-- positions and counts are those that texts name, and cash has at most 18 digits
abbrev pub IsSaid : Said → Type 0
IsSaid (At position reply) = (position ≤ POSITION) × IsReply reply
IsSaid (Cash position dollars) = (position ≤ POSITION) × (unsigned_abs dollars < 10 ^ CASH_DIGITS)
IsSaid (Quote board) = (board.count ≤ POSITION) × (board.bid ≤ SHOWN_PRICE) × (board.ask ≤ SHOWN_PRICE)
IsSaid Spent = ⊤
IsSaid (Fault fault) = ⊤
IsSaid TooLong = ⊤
IsSaid Bye = ⊤

-- the line is the text of this reply, in range
pub record IsSaidText (line : List ℕ) (said : Said) : Type 0 where
  pub range : IsSaid said
  pub text : line ≡ said_text said

-- the text is that of a reply without its position, in range
pub record IsReplyText (bytes : List ℕ) (reply : Reply) : Type 0 where
  pub range : IsReply reply
  pub text : bytes ≡ reply_text reply
