-- The two sides of an entry's line.
use Rattle.std.proofs.Common.{◌≡◌, ◌≢◌, ℕ, suc, eqb, List, [], ◌∷◌, ◌++◌, Some, length, take, refl, sym, ap, ◌∙◌, arith, ◌-◌, slice_index, eqb-true}
use Rattle.std.specs.List.{join_with_byte}
use Rattle.std.proofs.lemmas.Option.{cond_some, same_Some}
use Rattle.std.proofs.lemmas.List.Splits.{join_with_byte-slice_split, length-slice_split}
use Rattle.tac_base.proofs.Signed.{Lacks}
use Rattle.text_forms.specs.Words.{parts_of}
use Rattle.text_forms.proofs.Joins.{parts_more}
use Rattle.line_protocol.specs.ReplyForms.{◌>>=◌}
use Rattle.line_protocol.proofs.Numbers.{bound}
use Rattle.log_reader.specs.EntryForms.{before_space, after_space, sides_of}

-- a text has a part
some_part : (byte : ℕ) (text : List ℕ) (parts : List (List ℕ)) → parts_of byte text ≡ parts → (first : List ℕ) × (others : List (List ℕ)) × (parts ≡ first ∷ others)
some_part byte text [] e = absurd (let none : length (parts_of byte text) ≡ 0 = ap length e in omega (arith, none, length-slice_split (λ b. eqb b byte) text))
some_part byte text (first ∷ others) e = (first, others, refl)

-- the sides of a text that is cut at its first `=`
pub cut_sides : (text call reply left right : List ℕ) → parts_of 61 text ≡ call ∷ parts_of 61 reply → before_space call ≡ Some left → after_space reply ≡ Some right → sides_of (parts_of 61 text) ≡ Some (left, right)
cut_sides text call reply left right cut before after =
    let s = some_part 61 reply (parts_of 61 reply) refl in
    let joined : join_with_byte 61 (s.0 ∷ s.1) ≡ reply = sym (ap (join_with_byte 61) s.2) ∙ join_with_byte-slice_split 61 reply in
    ap sides_of (cut ∙ ap (λ (ps : List (List ℕ)). call ∷ ps) s.2) ∙ rw (before, joined, after) refl

-- ---- spaces

last_item : (text : List ℕ) → length text ≢ 0 → text ≡ take (length text - 1) text ++ slice_index text (length text - 1) ∷ []
last_item [] some = absurd (some refl)
last_item (first ∷ []) some = refl
last_item (first ∷ second ∷ text) some =
    let e : length (first ∷ second ∷ text) - 1 ≡ suc (length (second ∷ text) - 1) = omega arith in
    ap (λ (t : List ℕ). first ∷ t) (last_item (second ∷ text) (λ none. absurd (omega (arith, none))))
    ∙ ap (λ (n : ℕ). take n (first ∷ second ∷ text) ++ slice_index (first ∷ second ∷ text) n ∷ []) (sym e)

pub before_is : (text front : List ℕ) → before_space text ≡ Some front → text ≡ front ++ 32 ∷ []
before_is [] front h = absurd cc
before_is (first ∷ text) front h =
    let whole = first ∷ text in
    let c = cond_some (eqb (slice_index whole (length whole - 1)) 32) (take (length whole - 1) whole) front h in
    last_item whole (λ e. absurd (omega (arith, e)))
    ∙ (λ i. c.1 i ++ eqb-true (slice_index whole (length whole - 1)) 32 c.0 i ∷ [])

last_of : (front : List ℕ) (byte : ℕ) → slice_index (front ++ byte ∷ []) (length (front ++ byte ∷ []) - 1) ≡ byte
last_of [] byte = refl
last_of (first ∷ []) byte = refl
last_of (first ∷ second ∷ front) byte =
    let e : length ((first ∷ second ∷ front) ++ byte ∷ []) - 1 ≡ suc (length ((second ∷ front) ++ byte ∷ []) - 1) = omega arith in
    ap (λ (n : ℕ). slice_index ((first ∷ second ∷ front) ++ byte ∷ []) n) e ∙ last_of (second ∷ front) byte

front_of : (front : List ℕ) (byte : ℕ) → take (length (front ++ byte ∷ []) - 1) (front ++ byte ∷ []) ≡ front
front_of [] byte = refl
front_of (first ∷ []) byte = refl
front_of (first ∷ second ∷ front) byte =
    let e : length ((first ∷ second ∷ front) ++ byte ∷ []) - 1 ≡ suc (length ((second ∷ front) ++ byte ∷ []) - 1) = omega arith in
    ap (λ (n : ℕ). take n ((first ∷ second ∷ front) ++ byte ∷ [])) e ∙ ap (λ (t : List ℕ). first ∷ t) (front_of (second ∷ front) byte)

pub before_again : (front : List ℕ) → before_space (front ++ 32 ∷ []) ≡ Some front
before_again front = rw (last_of front 32, front_of front 32) refl

after_is : (text rest : List ℕ) → after_space text ≡ Some rest → text ≡ 32 ∷ rest
after_is [] rest h = absurd cc
after_is (space ∷ text) rest h =
    let c = cond_some (eqb space 32) text rest h in
    λ i. eqb-true space 32 c.0 i ∷ c.1 i

-- ---- sides

sides_parts : (parts : List (List ℕ)) (left right : List ℕ) → sides_of parts ≡ Some (left, right) → join_with_byte 61 parts ≡ (left ++ 32 ∷ []) ++ 61 ∷ 32 ∷ right
sides_parts [] left right h = absurd cc
sides_parts (call ∷ []) left right h = absurd cc
sides_parts (call ∷ part ∷ parts) left right h =
    let reply = join_with_byte 61 (part ∷ parts) in
    let b = bound (before_space call) (λ left. after_space reply >>= λ right. Some (left, right)) (left, right) h in
    let a = bound (after_space reply) (λ right. Some (b.0, right)) (left, right) b.2 in
    let same : (b.0, a.0) ≡ (left, right) = same_Some (b.0, a.0) (left, right) a.2 in
    (λ i. before_is call b.0 b.1 i ++ 61 ∷ after_is reply a.0 a.1 i)
    ∙ ap (λ (sides : List ℕ × List ℕ). (sides.0 ++ 32 ∷ []) ++ 61 ∷ 32 ∷ sides.1) same

pub sides_is : (text left right : List ℕ) → sides_of (parts_of 61 text) ≡ Some (left, right) → text ≡ (left ++ 32 ∷ []) ++ 61 ∷ 32 ∷ right
sides_is text left right h = sym (join_with_byte-slice_split 61 text) ∙ sides_parts (parts_of 61 text) left right h

pub sides_again : (left right : List ℕ) → Lacks 61 (left ++ 32 ∷ []) → sides_of (parts_of 61 ((left ++ 32 ∷ []) ++ 61 ∷ 32 ∷ right)) ≡ Some (left, right)
sides_again left right lacks =
    cut_sides ((left ++ 32 ∷ []) ++ 61 ∷ 32 ∷ right) (left ++ 32 ∷ []) (32 ∷ right) left right (parts_more 61 (left ++ 32 ∷ []) (32 ∷ right) lacks) (before_again left) refl
