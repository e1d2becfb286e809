-- Standing points as text: none are `()`, others are a bid.
use Rattle.std.proofs.Common.{◌≡◌, ℕ, List, [], ◌∷◌, Some, None, Result, Ok, Err, refl, subst, inl, inr, codes, bytes_eq}
use Rattle.std.proofs.lemmas.Option.{same_Some}
use Rattle.line_protocol.specs.Prelude.{Point, BidFault, left_fault, points_of, judged, spelling}
use Rattle.tac_base.proofs.Faults.{bid_left}
use Rattle.bid_strings.proofs.Laws.{bid_is, bid_again}
use Rattle.line_protocol.specs.ReplyForms.{points_or_none, read_left}
use Rattle.line_protocol.proofs.Numbers.{either_way, is_word}
use Rattle.line_protocol.proofs.RequestLaws.{judged_good}

-- a text of standing points
pub record IsLeft (bytes : List ℕ) (left : List Point) : Type 0 where
  pub text : bytes ≡ spelling left
  pub limits : left_fault left ≡ None

points_left : (text : List ℕ) (left : List Point) (read : Result (List Point) BidFault) → judged (points_of text) ≡ read → points_or_none read ≡ Some left → IsLeft text left
points_left text left (Err fault) e h = absurd cc
points_left text left (Ok points) e h =
    let same : points ≡ left = same_Some points left h in
    subst (λ (ps : List Point). IsLeft text ps) same (record { text = bid_is text points e; limits = bid_left points (judged_good (points_of text) points e) })

pub left_is : (text : List ℕ) (left : List Point) → read_left text ≡ Some left → IsLeft text left
left_is text left h =
    elim (either_way (bytes_eq text (codes "()")) (Some []) (points_or_none (judged (points_of text))) left h) [
      | inl none ↦ subst (λ (ps : List Point). IsLeft text ps) (same_Some [] left none.1) (record { text = is_word text (codes "()") none.0; limits = refl })
      | inr some ↦ points_left text left (judged (points_of text)) refl some
    ]

pub left_again : (left : List Point) → left_fault left ≡ None → read_left (spelling left) ≡ Some left
left_again [] h = refl
left_again (point ∷ points) h = rw (bid_again (point ∷ points) h) refl
