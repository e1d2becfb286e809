-- The line of an endowment is read in its ranges as it was printed, and printed as it was read.
use Rattle.std.proofs.Common.{◌≡◌, ℕ, ◌≤◌, true, eqb, List, [], ◌∷◌, Ok, length, map, drop, get_or, refl, sym, ap, ◌∙◌, subst, arith, ℤ, pos, lit≤, eq-eqb, codes, unsigned_abs, replicate, eqb-true}
use Rattle.std.specs.List.{list_all}
use Rattle.std.proofs.lemmas.List.{length-map}
use Rattle.tac_base.proofs.NumeralLaws.{both_true}
use Rattle.game_text.specs.{NotDue, within, is_in, all_in, row, row_text, IsEndowment, endow_columns, endow_from, endow_of, endow_text}
use Rattle.text_forms.proofs.Columns.{in_within, same_columns, all_wider, abs_pos, is_within, columns_within, within_columns}
use Rattle.text_forms.proofs.RowLaws.{row_is, row_again}
use Rattle.text_forms.proofs.PrintedLines.{IsLine, lacks_from, row_line}
use Rattle.text_forms.proofs.Reading.{bind_ok}
use Rattle.game_text.proofs.Choices.{chosen}

-- the numbers after the first have 8 bits
pub endow_bytes : (numbers : List ℤ) → length numbers ≡ 13 → all_in endow_columns numbers ≡ true → list_all (λ number. is_in (within 0 255) number) (drop 1 numbers) ≡ true
endow_bytes [] len h = absurd (omega arith)
endow_bytes (a ∷ numbers) len h =
    let both = both_true (is_in (within 0 4294967295) a) (all_in (replicate 12 (within 0 16)) numbers) h in
    all_wider 0 16 255 numbers (lit≤ tt) (sym (same_columns 12 (within 0 16) numbers (omega (arith, len))) ∙ both.1)

endow_parts : (agent : ℕ) (numbers : List ℤ) → length numbers ≡ 13 → all_in endow_columns numbers ≡ true → unsigned_abs (get_or numbers 0 (pos 0)) ≡ agent
    → (numbers ≡ pos agent ∷ map pos (map unsigned_abs (drop 1 numbers))) × IsEndowment (map unsigned_abs (drop 1 numbers))
endow_parts agent [] len h due = absurd (omega (arith, len))
endow_parts agent (a ∷ rest) len h due =
    let both = both_true (is_in (within 0 4294967295) a) (all_in (replicate 12 (within 0 16)) rest) h in
    let first = is_within 0 4294967295 a both.0 in
    let w = columns_within 12 0 16 rest (omega (arith, len)) both.1 in
    (ap (λ (z : ℤ). z ∷ rest) (first.same ∙ ap pos due) ∙ ap (λ (zs : List ℤ). pos agent ∷ zs) w.same, record { count = omega (arith, len, length-map rest unsigned_abs); range = w.range })

pub endow_is : (agent : ℕ) (line : List ℕ) (endow : List ℕ) → endow_of agent line ≡ Ok endow → (line ≡ endow_text agent endow) × IsEndowment endow
unfolding endow_of
endow_is agent line endow e =
    let a = bind_ok (row (codes "endow") endow_columns line) (endow_from agent) endow e in
    let numbers = a.0 in
    let r = row_is (codes "endow") endow_columns line numbers a.1 in
    let c = chosen (eqb (unsigned_abs (get_or numbers 0 (pos 0))) agent) (map unsigned_abs (drop 1 numbers)) NotDue endow a.2 in
    let parts = endow_parts agent numbers r.count r.range (eqb-true _ _ c.0) in
    subst (λ (f : List ℕ). (line ≡ endow_text agent f) × IsEndowment f) c.1 (r.text ∙ ap (row_text (codes "endow")) parts.0, parts.1)

endow_count : (agent : ℕ) (endow : List ℕ) → IsEndowment endow → length (pos agent ∷ map pos endow) ≡ 13
endow_count agent endow is = omega (arith, length-map endow pos, is.count)

endow_range : (agent : ℕ) (endow : List ℕ) → agent ≤ 255 → IsEndowment endow → all_in endow_columns (pos agent ∷ map pos endow) ≡ true
endow_range agent endow small is = rw (in_within 0 4294967295 agent (omega arith) (omega arith)) (within_columns 12 0 16 endow (omega (arith, is.count)) is.range)

pub endow_again : (agent : ℕ) (endow : List ℕ) → agent ≤ 255 → IsEndowment endow → endow_of agent (endow_text agent endow) ≡ Ok endow
unfolding endow_of
endow_again agent endow small is =
    let read = row_again (codes "endow") endow_columns (pos agent ∷ map pos endow) (lacks_from 32 (codes "endow") refl) refl (endow_count agent endow is) (endow_range agent endow small is) in
    rw (read, eq-eqb agent agent refl, abs_pos endow) refl

pub endow_line : (most agent : ℕ) (endow : List ℕ) → 161 ≤ most → agent ≤ 255 → IsEndowment endow → IsLine most (endow_text agent endow)
endow_line most agent endow room small is =
    let count = endow_count agent endow is in
    row_line most 101 (codes "ndow") endow_columns (pos agent ∷ map pos endow) (lacks_from 10 (codes "endow") refl) refl (omega (arith, count)) refl refl count (endow_range agent endow small is)
