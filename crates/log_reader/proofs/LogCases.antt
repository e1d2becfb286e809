-- Reading a whole log, case by case.
use Rattle.std.proofs.Common.{◌≡◌, List, Result, Ok, Err, refl, sym, codes}
use Rattle.log_reader.specs.{BadLine, Remaining, nothing_left, repeat, CashEntry, Head, Scored, is_text, line_by, head_in, history_in, cash_in, score_in, log_in, or_log_fault}
use Rattle.auction_rules.specs.History.{Entry}
use Rattle.log_reader.proofs.Refusals.{was_read}

-- a part was read as this
abbrev WasRead : {A : Type 0} → Result A BadLine → A → Type 0
WasRead read x = or_log_fault read ≡ Ok x

-- a line was
abbrev IsLine : {A : Type 0} → Result A BadLine → A → Type 0
IsLine read x = Ok x ≡ read

abbrev pub Fails : {A : Type 0} → Result A BadLine → BadLine → Type 0
Fails read bad = read ≡ Err bad

pub no_head : (left : Remaining) (bad : BadLine) → Fails (head_in left) bad → Fails (log_in left) bad
unfolding log_in
no_head left bad h = rw h refl

module _ (left : Remaining) {head : Head × Remaining} (headed : WasRead (head_in left) head) where
  pub no_histories : (bad : BadLine) → Fails (repeat 28 0 history_in head.1) bad → Fails (log_in left) bad
  unfolding log_in
  no_histories bad h = rw (was_read (head_in left) head headed, h) refl

  module _ {histories : List (List Entry) × Remaining} (told : WasRead (repeat 28 0 history_in head.1) histories) where
    pub no_cash : (bad : BadLine) → Fails (cash_in histories.1) bad → Fails (log_in left) bad
    unfolding log_in
    no_cash bad h = rw (was_read (head_in left) head headed, was_read (repeat 28 0 history_in head.1) histories told, h) refl

    module _ {cash : List CashEntry × Remaining} (paid : WasRead (cash_in histories.1) cash) where
      pub no_sheet : (bad : BadLine) → Fails (line_by (is_text (codes "sheet")) cash.1) bad → Fails (log_in left) bad
      unfolding log_in
      no_sheet bad h = rw (was_read (head_in left) head headed, was_read (repeat 28 0 history_in head.1) histories told, was_read (cash_in histories.1) cash paid, h) refl

      module _ {sheet : Unit {0} × Remaining} (opened : IsLine (line_by (is_text (codes "sheet")) cash.1) sheet) where
        pub no_scores : (bad : BadLine) → Fails (repeat 8 0 score_in sheet.1) bad → Fails (log_in left) bad
        unfolding log_in
        no_scores bad h = rw (was_read (head_in left) head headed, was_read (repeat 28 0 history_in head.1) histories told, was_read (cash_in histories.1) cash paid, sym opened, h) refl

        module _ {scores : List Scored × Remaining} (scored : WasRead (repeat 8 0 score_in sheet.1) scores) where
          pub no_end : (bad : BadLine) → Fails (line_by (is_text (codes "end")) scores.1) bad → Fails (log_in left) bad
          unfolding log_in
          no_end bad h = rw (was_read (head_in left) head headed, was_read (repeat 28 0 history_in head.1) histories told, was_read (cash_in histories.1) cash paid, sym opened, was_read (repeat 8 0 score_in sheet.1) scores scored, h) refl

          module _ {end : Unit {0} × Remaining} (closed : IsLine (line_by (is_text (codes "end")) scores.1) end) where
            pub more_lines : (bad : BadLine) → Fails (nothing_left end.1) bad → Fails (log_in left) bad
            unfolding log_in
            more_lines bad h = rw (was_read (head_in left) head headed, was_read (repeat 28 0 history_in head.1) histories told, was_read (cash_in histories.1) cash paid, sym opened, was_read (repeat 8 0 score_in sheet.1) scores scored, sym closed, h) refl

            pub whole_log : (u : Unit {0}) → IsLine (nothing_left end.1) u → log_in left ≡ Ok (record { head = head.0; histories = histories.0; cash = cash.0; scores = scores.0 })
            unfolding log_in
            whole_log u h = rw (was_read (head_in left) head headed, was_read (repeat 28 0 history_in head.1) histories told, was_read (cash_in histories.1) cash paid, sym opened, was_read (repeat 8 0 score_in sheet.1) scores scored, sym closed, sym h) refl
