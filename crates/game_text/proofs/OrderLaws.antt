-- The line of a closing order is read in its ranges as it was printed, and printed as it was read.
use Rattle.std.proofs.Common.{◌≡◌, ℕ, true, List, Ok, length, map, refl, ap, ◌∙◌, subst, arith, pos, codes, unsigned_abs}
use Rattle.std.proofs.lemmas.List.{length-map}
use Rattle.game_text.specs.{Repeated, all_in, row, row_text, is_distinct, IsOrder, order_columns, order_from, order_of, order_text}
use Rattle.text_forms.proofs.Columns.{abs_pos, columns_within, within_columns}
use Rattle.text_forms.proofs.RowLaws.{row_is, row_again}
use Rattle.text_forms.proofs.PrintedLines.{IsLine, lacks_from, row_line}
use Rattle.text_forms.proofs.Reading.{bind_ok}
use Rattle.game_text.proofs.Choices.{chosen}

pub order_is : (line : List ℕ) (order : List ℕ) → order_of line ≡ Ok order → (line ≡ order_text order) × IsOrder order
unfolding order_of
order_is line order e =
    let a = bind_ok (row (codes "close") order_columns line) order_from order e in
    let numbers = a.0 in
    let r = row_is (codes "close") order_columns line numbers a.1 in
    let c = chosen (is_distinct (map unsigned_abs numbers)) (map unsigned_abs numbers) Repeated order a.2 in
    let count = r.count in
    let w = columns_within 8 8 15 numbers (omega (arith, count)) r.range in
    subst (λ (f : List ℕ). (line ≡ order_text f) × IsOrder f) c.1 (r.text ∙ ap (row_text (codes "close")) w.same, record { count = omega (arith, count, length-map numbers unsigned_abs); range = w.range; apart = c.0 })

order_count : (order : List ℕ) → IsOrder order → length (map pos order) ≡ 8
order_count order is = omega (arith, length-map order pos, is.count)

order_range : (order : List ℕ) → IsOrder order → all_in order_columns (map pos order) ≡ true
order_range order is = within_columns 8 8 15 order (omega (arith, is.count)) is.range

pub order_again : (order : List ℕ) → IsOrder order → order_of (order_text order) ≡ Ok order
unfolding order_of
order_again order is =
    let read = row_again (codes "close") order_columns (map pos order) (lacks_from 32 (codes "close") refl) refl (order_count order is) (order_range order is) in
    rw (read, abs_pos order, is.apart) refl

pub order_line : (order : List ℕ) → IsOrder order → IsLine 678 (order_text order)
order_line order is =
    let count = order_count order is in
    row_line 678 99 (codes "lose") order_columns (map pos order) (lacks_from 10 (codes "close") refl) refl (omega (arith, count)) refl refl count (order_range order is)
