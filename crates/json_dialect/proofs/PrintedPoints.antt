-- Printing one point after the other.
use Rattle.std.proofs.Common.{◌≡◌, ℕ, ◌+◌, ◌<◌, List, [], ◌∷◌, ◌++◌, length, get_or, take, map, refl, sym, ap, ◌∙◌, append_assoc, arith, ltb, true, length-take-le, lt-ltb}
use Rattle.std.specs.List.{join_with_byte}
use Rattle.std.proofs.lemmas.List.{take_more, map-append}
use Rattle.tac_base.specs.declared.bids.Point.{Point}
use Rattle.json_dialect.specs.JsonReplies.{json_point_text, json_next_text}

join_push : (word : List ℕ) (words : List (List ℕ)) (last : List ℕ) → join_with_byte 44 (word ∷ (words ++ last ∷ [])) ≡ join_with_byte 44 (word ∷ words) ++ 44 ∷ last
join_push word [] last = refl
join_push word (next ∷ words) last =
    ap (λ (t : List ℕ). word ++ 44 ∷ t) (join_push next words last) ∙ sym (append_assoc word (44 ∷ join_with_byte 44 (next ∷ words)) (44 ∷ last))

pushed : (front : List Point) (point : Point) → join_with_byte 44 (map json_point_text front) ++ json_next_text (length front) point ≡ join_with_byte 44 (map json_point_text (front ++ point ∷ []))
pushed [] point = refl
pushed (first ∷ front) point =
    let some : ltb 0 (length (first ∷ front)) ≡ true = lt-ltb _ _ (omega arith) in
    let next : json_next_text (length (first ∷ front)) point ≡ 44 ∷ json_point_text point = rw some refl in
    let texts : map json_point_text ((first ∷ front) ++ point ∷ []) ≡ json_point_text first ∷ (map json_point_text front ++ json_point_text point ∷ []) = map-append json_point_text (first ∷ front) (point ∷ []) in
    ap (λ (t : List ℕ). join_with_byte 44 (map json_point_text (first ∷ front)) ++ t) next ∙ sym (ap (join_with_byte 44) texts ∙ join_push (json_point_text first) (map json_point_text front) (json_point_text point))

printed_more : (points : List Point) (i : ℕ) (d : Point) → i < length points
    → join_with_byte 44 (map json_point_text (take i points)) ++ json_next_text i (get_or points i d) ≡ join_with_byte 44 (map json_point_text (take (i + 1) points))
printed_more points i d lt =
    let point = get_or points i d in
    let len : length (take i points) ≡ i = length-take-le i points (omega (arith, lt)) in
    ap (λ (n : ℕ). join_with_byte 44 (map json_point_text (take i points)) ++ json_next_text n point) (sym len) ∙ pushed (take i points) point ∙ ap (λ (ps : List Point). join_with_byte 44 (map json_point_text ps)) (sym (take_more points i d lt))

pub text_more : (old out new : List ℕ) (points : List Point) (i : ℕ) (d : Point) → i < length points → out ≡ old ++ 91 ∷ join_with_byte 44 (map json_point_text (take i points)) → new ≡ out ++ json_next_text i (get_or points i d)
    → new ≡ old ++ 91 ∷ join_with_byte 44 (map json_point_text (take (i + 1) points))
text_more old out new points i d lt so_far is =
    is ∙ ap (λ (t : List ℕ). t ++ json_next_text i (get_or points i d)) so_far ∙ append_assoc old (91 ∷ join_with_byte 44 (map json_point_text (take i points))) (json_next_text i (get_or points i d)) ∙ ap (λ (t : List ℕ). old ++ 91 ∷ t) (printed_more points i d lt)
