-- The line of a client is read in its ranges as it was printed, and printed as it was read.
use Rattle.std.proofs.Common.{◌≡◌, ℕ, ◌≤◌, ◌<◌, true, ◌&&◌, eqb, ltb, List, [], ◌∷◌, Ok, length, map, drop, refl, ap, ◌∙◌, subst, arith, ℤ, pos, eq-eqb, codes, unsigned_abs, replicate, eqb-true, ltb-true, lt-ltb}
use Rattle.std.proofs.lemmas.List.{length-map}
use Rattle.std.proofs.lemmas.List.Elements.{All-weaker}
use Rattle.tac_base.proofs.NumeralLaws.{both_true}
use Rattle.game_text.specs.{Preferences, IsClient, Reason, OutOfRange, NotDue, within, is_in, all_in, row, row_text, IsBetween, client_columns, natural_at, client_from, client_of, client_numbers, client_text}
use Rattle.text_forms.proofs.Columns.{in_within, abs_pos, is_within, columns_within, within_columns}
use Rattle.text_forms.proofs.RowLaws.{row_is, row_again}
use Rattle.text_forms.proofs.PrintedLines.{IsLine, lacks_from, row_line}
use Rattle.text_forms.proofs.Reading.{bind_ok, ok_is}
use Rattle.game_text.proofs.Choices.{passed}

-- the client of a row
wants_of : List ℤ → Preferences
wants_of numbers = record { arrive = natural_at numbers 2; depart = natural_at numbers 3; premium = natural_at numbers 4; values = map unsigned_abs (drop 5 numbers) }

client_parts : (agent client : ℕ) (numbers : List ℤ) → length numbers ≡ 8 → all_in client_columns numbers ≡ true → natural_at numbers 2 < natural_at numbers 3 → natural_at numbers 0 ≡ agent → natural_at numbers 1 ≡ client
    → (numbers ≡ client_numbers agent client (wants_of numbers)) × IsClient (wants_of numbers)
unfolding wants_of
client_parts agent client [] len r later due same = absurd (omega (arith, len))
client_parts agent client (a ∷ []) len r later due same = absurd (omega (arith, len))
client_parts agent client (a ∷ b ∷ []) len r later due same = absurd (omega (arith, len))
client_parts agent client (a ∷ b ∷ c ∷ []) len r later due same = absurd (omega (arith, len))
client_parts agent client (a ∷ b ∷ c ∷ d ∷ []) len r later due same = absurd (omega (arith, len))
client_parts agent client (a ∷ b ∷ c ∷ d ∷ e ∷ values) len r later due same =
    let ra = both_true (is_in (within 0 4294967295) a) (is_in (within 0 4294967295) b && (is_in (within 1 4) c && (is_in (within 2 5) d && (is_in (within 50 150) e && all_in (replicate 3 (within 0 200)) values)))) r in
    let rb = both_true (is_in (within 0 4294967295) b) (is_in (within 1 4) c && (is_in (within 2 5) d && (is_in (within 50 150) e && all_in (replicate 3 (within 0 200)) values))) ra.1 in
    let rc = both_true (is_in (within 1 4) c) (is_in (within 2 5) d && (is_in (within 50 150) e && all_in (replicate 3 (within 0 200)) values)) rb.1 in
    let rd = both_true (is_in (within 2 5) d) (is_in (within 50 150) e && all_in (replicate 3 (within 0 200)) values) rc.1 in
    let re = both_true (is_in (within 50 150) e) (all_in (replicate 3 (within 0 200)) values) rd.1 in
    let ia = is_within 0 4294967295 a ra.0 in
    let ib = is_within 0 4294967295 b rb.0 in
    let ic = is_within 1 4 c rc.0 in
    let id = is_within 2 5 d rd.0 in
    let ie = is_within 50 150 e re.0 in
    let w = columns_within 3 0 200 values (omega (arith, len)) re.1 in (
      ap (λ (z : ℤ). z ∷ b ∷ c ∷ d ∷ e ∷ values) (ia.same ∙ ap pos due)
          ∙ ap (λ (z : ℤ). pos agent ∷ z ∷ c ∷ d ∷ e ∷ values) (ib.same ∙ ap pos same)
          ∙ ap (λ (z : ℤ). pos agent ∷ pos client ∷ z ∷ d ∷ e ∷ values) ic.same
          ∙ ap (λ (z : ℤ). pos agent ∷ pos client ∷ pos (unsigned_abs c) ∷ z ∷ e ∷ values) id.same
          ∙ ap (λ (z : ℤ). pos agent ∷ pos client ∷ pos (unsigned_abs c) ∷ pos (unsigned_abs d) ∷ z ∷ values) ie.same
          ∙ ap (λ (zs : List ℤ). pos agent ∷ pos client ∷ pos (unsigned_abs c) ∷ pos (unsigned_abs d) ∷ pos (unsigned_abs e) ∷ zs) w.same,
      record {
        arrives_first = ic.least;
        arrives_last = ic.most;
        departs_later = later;
        departs_last = id.most;
        premium_low = ie.least;
        premium_high = ie.most;
        three = omega (arith, len, length-map values unsigned_abs);
        values_high = All-weaker (IsBetween 0 200) (λ value. value ≤ 200) (λ value h. h.1) (map unsigned_abs values) w.range;
      },
    )

pub client_row : (agent client : ℕ) (numbers : List ℤ) (wants : Preferences) → length numbers ≡ 8 → all_in client_columns numbers ≡ true → client_from agent client numbers ≡ Ok wants → (numbers ≡ client_numbers agent client wants) × IsClient wants
unfolding wants_of
client_row agent client numbers wants count range e =
    let later = passed (ltb (natural_at numbers 2) (natural_at numbers 3)) OutOfRange _ wants e in
    let due = passed (eqb (natural_at numbers 0) agent && eqb (natural_at numbers 1) client) NotDue _ wants later.1 in
    let both = both_true (eqb (natural_at numbers 0) agent) (eqb (natural_at numbers 1) client) due.0 in
    let parts = client_parts agent client numbers count range (ltb-true _ _ later.0) (eqb-true _ _ both.0) (eqb-true _ _ both.1) in
    subst (λ (f : Preferences). (numbers ≡ client_numbers agent client f) × IsClient f) (ok_is {E = Reason} (wants_of numbers) wants due.1) parts

pub client_is : (agent client : ℕ) (line : List ℕ) (wants : Preferences) → client_of agent client line ≡ Ok wants → (line ≡ client_text agent client wants) × IsClient wants
unfolding client_of
client_is agent client line wants e =
    let a = bind_ok (row (codes "client") client_columns line) (client_from agent client) wants e in
    let r = row_is (codes "client") client_columns line a.0 a.1 in
    let parts = client_row agent client a.0 wants r.count r.range a.2 in
    (r.text ∙ ap (row_text (codes "client")) parts.0, parts.1)

pub client_count : (agent client : ℕ) (wants : Preferences) → IsClient wants → length (client_numbers agent client wants) ≡ 8
client_count agent client wants is = omega (arith, length-map wants.values pos, is.three)

pub client_range : (agent client : ℕ) (wants : Preferences) → agent ≤ 255 → client ≤ 255 → IsClient wants → all_in client_columns (client_numbers agent client wants) ≡ true
client_range agent client wants small few is =
    let first = is.arrives_first in
    let last = is.arrives_last in
    let later = is.departs_later in
    let depart_low : 2 ≤ wants.depart = omega arith in
    rw (
      in_within 0 4294967295 agent (omega arith) (omega arith),
      in_within 0 4294967295 client (omega arith) (omega arith),
      in_within 1 4 wants.arrive first last,
      in_within 2 5 wants.depart depart_low is.departs_last,
      in_within 50 150 wants.premium is.premium_low is.premium_high,
    ) (within_columns 3 0 200 wants.values (omega (arith, is.three)) (All-weaker (λ value. value ≤ 200) (IsBetween 0 200) (λ value h. (omega arith, h)) wants.values is.values_high))

pub client_again : (agent client : ℕ) (wants : Preferences) → agent ≤ 255 → client ≤ 255 → IsClient wants → client_of agent client (client_text agent client wants) ≡ Ok wants
unfolding client_of
client_again agent client wants small few is =
    let read = row_again (codes "client") client_columns (client_numbers agent client wants) (lacks_from 32 (codes "client") refl) refl (client_count agent client wants is) (client_range agent client wants small few is) in
    rw (read, lt-ltb _ _ is.departs_later, eq-eqb agent agent refl, eq-eqb client client refl, abs_pos wants.values) refl

pub client_line : (most agent client : ℕ) (wants : Preferences) → 102 ≤ most → agent ≤ 255 → client ≤ 255 → IsClient wants → IsLine most (client_text agent client wants)
client_line most agent client wants room small few is =
    let count = client_count agent client wants is in
    row_line most 99 (codes "lient") client_columns (client_numbers agent client wants) (lacks_from 10 (codes "client") refl) refl (omega (arith, count)) refl refl count (client_range agent client wants small few is)
