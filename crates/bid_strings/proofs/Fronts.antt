-- Points one after the other.
use Rattle.std.proofs.Common.{◌≡◌, ℕ, ◌<◌, List, [], ◌∷◌, ◌++◌, Option, Some, None, Result, Err, length, refl, sym, ap, ◌∙◌, append_assoc, arith, option_map, length-append}
use Rattle.bid_strings.specs.Prelude.{Point, BidFault, left_fault, fault_of}
use Rattle.tac_base.proofs.Faults.{fault_is, fault_stays}
use Rattle.bid_strings.specs.BidForm.{point_of, point_then, points_from, verdict, judged, form_fault}

-- points that were read before
abbrev pub with_front : List Point → Option (List Point) → Option (List Point)
with_front front read = option_map (λ points. front ++ points) read

-- a point more before the rest
pub regroup : (front : List Point) (point : Point) (read : Option (List Point)) → with_front front (point_then (Some point) read) ≡ with_front (front ++ point ∷ []) read
regroup front point None = refl
regroup front point (Some points) = ap (λ (ps : List Point). Some ps) (simp append_assoc)

-- the next two words are a point
pub whole_step : (front : List Point) (words words1 words2 : List (List ℕ)) (left right : List ℕ) (point : Point) (total : Option (List Point)) → words ≡ left ∷ words1 → words1 ≡ right ∷ words2 → Some point ≡ point_of left right
    → with_front front (points_from words) ≡ total → with_front (front ++ point ∷ []) (points_from words2) ≡ total
whole_step front words words1 words2 left right point total e1 e2 made so_far =
    let is : words ≡ left ∷ right ∷ words2 = e1 ∙ ap (λ (ws : List (List ℕ)). left ∷ ws) e2 in
    let one : points_from words ≡ point_then (Some point) (points_from words2) = ap points_from is ∙ ap (λ (p : Option Point). point_then p (points_from words2)) (sym made) in
    sym (regroup front point (points_from words2)) ∙ ap (with_front front) (sym one) ∙ so_far

abbrev pub bad : BidFault → Result (List Point) BidFault
bad fault = Err fault

-- a fault of the points so far is that of the whole text, if the rest has the form
pub refused : (points : List Point) (fault : BidFault) (rest total : Option (List Point)) → 0 < length points → left_fault points ≡ Some fault → with_front points rest ≡ total → bad (form_fault fault rest) ≡ judged total
refused points fault None total some h e = ap judged e
refused points fault (Some more) total some h e =
    let long : 0 < length (points ++ more) = omega (arith, some, length-append points more) in
    let is : fault_of (points ++ more) ≡ Some fault = fault_is (points ++ more) long ∙ fault_stays 0 0 points more fault h in
    sym (ap (verdict (points ++ more)) is) ∙ ap judged e
