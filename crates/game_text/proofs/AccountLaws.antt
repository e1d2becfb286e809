-- An account file is read in its ranges as the lines are, and each text of an account is read as that account.
use Rattle.std.proofs.Common.{◌≡◌, ℕ, ◌≤◌, ◌<◌, true, ltb, false, List, All, [], ◌∷◌, ◌++◌, Result, Ok, Err, length, drop, refl, sym, ap, ◌∙◌, subst, arith, ℤ, pos, eq-eqb, codes, IfOk, replicate, lt-ltb, le-ltb}
use Rattle.std.specs.List.{list_all}
use Rattle.std.proofs.lemmas.List.Elements.{All-nil, All-cons, All-head, All-tail}
use Rattle.tac_base.proofs.NumeralLaws.{both_true}
use Rattle.game_text.specs.{TEXT_BYTES, Preferences, IsClient, BadLine, parts_of, Remaining, lines_from, nothing_left, AreLinesLeft, within, is_in, all_in, row, row_text, ◌>>=◌, read_by, repeat, lines_of_parts, one_line, client_numbers, AreClients, nothing_from, read_end_line}
use Rattle.text_forms.proofs.Columns.{in_column, in_from, same_columns, abs_pos}
use Rattle.text_forms.proofs.RowLaws.{row_is, row_again}
use Rattle.text_forms.proofs.PrintedLines.{lacks_from, ahead, at_end, left_ahead}
use Rattle.text_forms.proofs.Reading.{took_then, took_line, bind_ok, ok_is, read_took, Takes, line_takes, repeat_took, took_all}
use Rattle.text_forms.proofs.ReadAgain.{Again, line_part_again, parts_again}
use Rattle.game_text.specs.declared.fault.GameFault.{GameFault}
use Rattle.game_text.specs.declared.fault.GameFault.TheVariants.{TooLong}
use Rattle.game_text.specs.Accounts.{AccountFile, IsHolding, IsAccount, title_of, hold_column, hold_of, hold_text, owned_columns, owned_from, owned_of, owned_text, account_lines, IsAccountText, owned_part, account_in, account_of}
use Rattle.game_text.proofs.Limits.{within_limit, by_length}
use Rattle.game_text.proofs.ClientLaws.{client_row, client_count, client_range}
use Rattle.game_text.proofs.HeaderLaws.{nothing_more, end_is, end_again}

-- ---- the first line

title_is : (line : List ℕ) (u : Unit {0}) → title_of line ≡ Ok u → line ≡ codes "account"
unfolding title_of
title_is line u e =
    let a = bind_ok (row (codes "account") [] line) nothing_from u e in
    let r = row_is (codes "account") [] line a.0 a.1 in
    r.text ∙ ap (row_text (codes "account")) (nothing_more a.0 r.count)

title_again : title_of (codes "account") ≡ Ok tt
unfolding title_of row
title_again = refl

-- ---- the line of the holdings

held : (numbers : List ℤ) → list_all (λ number. is_in hold_column number) numbers ≡ true → All IsHolding numbers
held [] h = All-nil IsHolding
held (number ∷ numbers) h =
    let both = both_true (is_in hold_column number) (list_all (λ n. is_in hold_column n) numbers) h in
    let one = in_column hold_column number both.0 in
    All-cons IsHolding number numbers (one.low, one.high) (held numbers both.1)

holds : (numbers : List ℤ) → All IsHolding numbers → list_all (λ number. is_in hold_column number) numbers ≡ true
holds [] h = refl
holds (number ∷ numbers) h =
    let one = All-head IsHolding number numbers h in
    rw (in_from hold_column number one.0 one.1) (holds numbers (All-tail IsHolding number numbers h))

-- 28 holdings in their range
pub record AreHoldings (holdings : List ℤ) : Type 0 where
  pub count : length holdings ≡ 28
  pub each : All IsHolding holdings

pub each_held : (numbers : List ℤ) → length numbers ≡ 28 → all_in (replicate 28 hold_column) numbers ≡ true → list_all (λ number. is_in hold_column number) numbers ≡ true
each_held numbers count range = sym (same_columns 28 hold_column numbers (omega (arith, count))) ∙ range

pub hold_is : (line : List ℕ) (holdings : List ℤ) → hold_of line ≡ Ok holdings → (line ≡ hold_text holdings) × AreHoldings holdings
unfolding hold_of
hold_is line holdings e =
    let r = row_is (codes "hold") (replicate 28 hold_column) line holdings e in
    let count : length holdings ≡ 28 = r.count in
    (r.text, record { count = count; each = held holdings (each_held holdings count r.range) })

hold_again : (holdings : List ℤ) → AreHoldings holdings → hold_of (hold_text holdings) ≡ Ok holdings
unfolding hold_of
hold_again holdings are =
    row_again (codes "hold") (replicate 28 hold_column) holdings (lacks_from 32 (codes "hold") refl) refl are.count (same_columns 28 hold_column holdings (omega (arith, are.count)) ∙ holds holdings are.each)

-- ---- the line of a client

owned_is : (client : ℕ) (line : List ℕ) (wants : Preferences) → owned_of client line ≡ Ok wants → (line ≡ owned_text client wants) × IsClient wants
unfolding owned_of
owned_is client line wants e =
    let a = bind_ok (row (codes "client") owned_columns line) (owned_from client) wants e in
    let r = row_is (codes "client") owned_columns line a.0 a.1 in
    let count = r.count in
    let parts = client_row 0 client (pos 0 ∷ a.0) wants (omega (arith, count)) r.range a.2 in
    (r.text ∙ ap (λ (numbers : List ℤ). row_text (codes "client") (drop 1 numbers)) parts.0, parts.1)

owned_again : (client : ℕ) (wants : Preferences) → client ≤ 255 → IsClient wants → owned_of client (owned_text client wants) ≡ Ok wants
unfolding owned_of
owned_again client wants small is =
    let numbers = drop 1 (client_numbers 0 client wants) in
    let count = client_count 0 client wants is in
    let whole = client_range 0 client wants (omega arith) small is in
    let range = both_true (is_in (within 0 4294967295) (pos 0)) (all_in owned_columns numbers) whole in
    let read = row_again (codes "client") owned_columns numbers (lacks_from 32 (codes "client") refl) refl (omega (arith, count)) range.1 in
    rw (read, lt-ltb _ _ is.departs_later, eq-eqb client client refl, abs_pos wants.values) refl

owned_takes : Takes owned_part (one_line owned_text) IsClient
owned_takes = line_takes owned_of owned_text IsClient owned_is

owned_part_again : Again owned_part (one_line owned_text) IsClient 8
owned_part_again = line_part_again owned_of owned_text IsClient 8 (λ client wants lt is. owned_again client wants (omega (arith, lt)) is)

-- ---- each step keeps the ranges

pub holdings_kept : (left : Remaining) (x : List ℤ × Remaining) → read_by hold_of left ≡ Ok x → AreHoldings x.0
holdings_kept left x e = let r = read_took hold_of left x e in (hold_is r.0 x.0 r.2).1

pub clients_kept : (left : Remaining) (x : List Preferences × Remaining) → repeat 8 0 owned_part left ≡ Ok x → AreClients x.0
clients_kept left x e = let r = repeat_took owned_part (one_line owned_text) IsClient owned_takes 8 0 left x e in record { count = r.count_is; each = r.each }

-- ---- the steps of reading a file

abbrev made : List ℤ → List Preferences → AccountFile
made holdings clients = record { clients = clients; holdings = holdings }

abbrev then_done : AccountFile → Remaining → Result AccountFile BadLine
then_done account left = nothing_left left >>= λ done. Ok account

abbrev then_end : AccountFile → Remaining → Result AccountFile BadLine
then_end account left = read_by read_end_line left >>= λ end. then_done account end.1

abbrev then_clients : List ℤ → Remaining → Result AccountFile BadLine
then_clients holdings left = repeat 8 0 owned_part left >>= λ clients. then_end (made holdings clients.0) clients.1

abbrev then_holdings : Remaining → Result AccountFile BadLine
then_holdings left = read_by hold_of left >>= λ holdings. then_clients holdings.0 holdings.1

-- the lines after the holdings
abbrev after_holdings : List Preferences → List (List ℕ)
after_holdings clients = lines_of_parts (one_line owned_text) 0 clients ++ codes "end" ∷ []

pub account_in_is : (left : Remaining) (account : AccountFile) → account_in left ≡ Ok account → AreLinesLeft (account_lines account) left × IsAccount account
unfolding account_in
account_in_is left account e =
    let b1 = bind_ok (read_by title_of left) (λ title. then_holdings title.1) account e in
    let l1 = b1.0.1 in
    let b2 = bind_ok (read_by hold_of l1) (λ holdings. then_clients holdings.0 holdings.1) account b1.2 in
    let holdings = b2.0.0 in let l2 = b2.0.1 in
    let b3 = bind_ok (repeat 8 0 owned_part l2) (λ clients. then_end (made holdings clients.0) clients.1) account b2.2 in
    let clients = b3.0.0 in let l3 = b3.0.1 in
    let g = made holdings clients in
    let b4 = bind_ok (read_by read_end_line l3) (λ end. then_done g end.1) account b3.2 in
    let l4 = b4.0.1 in
    let b5 = bind_ok (nothing_left l4) (λ done. Ok g) account b4.2 in
    let r1 = read_took title_of left b1.0 b1.1 in
    let t1 = took_line left l1 r1.0 (codes "account") (title_is r1.0 b1.0.0 r1.2) r1.1 in
    let r2 = read_took hold_of l1 b2.0 b2.1 in
    let s2 = hold_is r2.0 holdings r2.2 in
    let held = s2.1 in
    let t2 = took_line l1 l2 r2.0 (hold_text holdings) s2.0 r2.1 in
    let p3 = repeat_took owned_part (one_line owned_text) IsClient owned_takes 8 0 l2 b3.0 b3.1 in
    let r4 = read_took read_end_line l3 b4.0 b4.1 in
    let t4 = took_line l3 l4 r4.0 (codes "end") (end_is r4.0 b4.0.0 r4.2) r4.1 in
    let c3 = took_then l2 (lines_of_parts (one_line owned_text) 0 clients) l3 (codes "end" ∷ []) l4 p3.took t4 in
    let c2 = took_then l1 (hold_text holdings ∷ []) l2 (after_holdings clients) l4 t2 c3 in
    let c1 = took_then left (codes "account" ∷ []) l1 (hold_text holdings ∷ after_holdings clients) l4 t1 c2 in
    subst (λ (x : AccountFile). AreLinesLeft (account_lines x) left × IsAccount x) {x = g} (ok_is {E = BadLine} g account b5.2)
    (took_all left l4 (account_lines g) b5.0 c1 b5.1, record { clients = record { count = p3.count_is; each = p3.each }; count = held.count; holdings = held.each })

account_is : (text : List ℕ) (account : AccountFile) → account_of text ≡ Ok account → IsAccountText account text × IsAccount account
unfolding account_of
account_is text account e =
    let left = lines_from true 1 (parts_of 10 text) in
    account_in_is left account (within_limit (ltb TEXT_BYTES (length text)) (account_in left) account e)

pub if_read : (text : List ℕ) (r : Result AccountFile GameFault) → r ≡ account_of text → IfOk r (λ account. IsAccountText account text × IsAccount account)
if_read text (Ok account) e = account_is text account (sym e)
if_read text (Err fault) e = tt

-- ---- a text of an account is read as that account

pub account_in_again : (account : AccountFile) (numbers : List ℕ) (m : ℕ) → IsAccount account → account_in (ahead numbers (account_lines account) (at_end m)) ≡ Ok account
unfolding account_in at_end
account_in_again account numbers m is =
    let after = at_end m in
    let f = parts_again owned_part (one_line owned_text) IsClient 8 owned_part_again account.clients is.clients.count is.clients.each (drop 1 (drop 1 numbers)) (codes "end" ∷ []) after in
    rw (title_again, hold_again account.holdings (record { count = is.count; each = is.holdings }), f.1, end_again) refl

pub only_account : (text : List ℕ) (account : AccountFile) → length text ≤ TEXT_BYTES → IsAccountText account text → IsAccount account → account_of text ≡ Ok account
unfolding account_of
only_account text account size are is =
    let left = lines_from true 1 (parts_of 10 text) in
    let long : ltb TEXT_BYTES (length text) ≡ false = le-ltb _ _ size in
    let ahead-is = left_ahead (account_lines account) left are in
    let read : account_in left ≡ Ok account = ap account_in ahead-is.2 ∙ account_in_again account ahead-is.1 ahead-is.0 is in
    rw (long, read) refl

-- ---- a text that is too long

pub too_long : (text : List ℕ) (r : Result AccountFile GameFault) → r ≡ account_of text → (r ≡ Err TooLong → TEXT_BYTES < length text) × (TEXT_BYTES < length text → r ≡ Err TooLong)
unfolding account_of
too_long text r is =
    let both = by_length TEXT_BYTES (length text) (account_in (lines_from true 1 (parts_of 10 text))) (ltb TEXT_BYTES (length text)) refl in
    (λ h. both.0 (sym is ∙ h), λ lt. is ∙ both.1 lt)
