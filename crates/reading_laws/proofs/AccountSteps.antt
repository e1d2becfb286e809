-- The reader of account files goes from line to line.
use Rattle.std.proofs.Common.{◌≡◌, ℕ, zero, suc, ◌<◌, List, Ok, refl, arith, lit≤, pos, codes, replicate}
use Rattle.reading_laws.specs.Prelude.{numeral, signed_numeral, row, read_by, repeat, title_of, hold_of, owned_of, owned_part, account_in, read_end_line, quiet_client}
use Rattle.text_forms.proofs.PrintedLines.{lacks_from}
use Rattle.reading_laws.proofs.Steady.{any_line, Never, Closes, IsPlain}
use Rattle.reading_laws.proofs.LineSteps.{IsBadAt, line_goes_on, parts_go_on, text_ends}
use Rattle.reading_laws.proofs.GameSteps.{Goes, then_closes, end_goes}

-- a line of a client, by its number
record Owned (client : ℕ) : Type 0 where
  text : List ℕ
  plain : IsPlain text
  read : owned_of client text ≡ Ok quiet_client

owned : (client : ℕ) → client < 8 → Owned client
unfolding owned_of row numeral
owned zero few = let text = codes "client 0 1 2 100 0 0 100" in record { text = text; plain = record { lacks = lacks_from 10 text refl; kept = refl }; read = refl }
owned (suc zero) few = let text = codes "client 1 1 2 100 0 0 100" in record { text = text; plain = record { lacks = lacks_from 10 text refl; kept = refl }; read = refl }
owned (suc (suc zero)) few = let text = codes "client 2 1 2 100 0 0 100" in record { text = text; plain = record { lacks = lacks_from 10 text refl; kept = refl }; read = refl }
owned (suc (suc (suc zero))) few = let text = codes "client 3 1 2 100 0 0 100" in record { text = text; plain = record { lacks = lacks_from 10 text refl; kept = refl }; read = refl }
owned (suc (suc (suc (suc zero)))) few = let text = codes "client 4 1 2 100 0 0 100" in record { text = text; plain = record { lacks = lacks_from 10 text refl; kept = refl }; read = refl }
owned (suc (suc (suc (suc (suc zero))))) few = let text = codes "client 5 1 2 100 0 0 100" in record { text = text; plain = record { lacks = lacks_from 10 text refl; kept = refl }; read = refl }
owned (suc (suc (suc (suc (suc (suc zero)))))) few = let text = codes "client 6 1 2 100 0 0 100" in record { text = text; plain = record { lacks = lacks_from 10 text refl; kept = refl }; read = refl }
owned (suc (suc (suc (suc (suc (suc (suc zero))))))) few = let text = codes "client 7 1 2 100 0 0 100" in record { text = text; plain = record { lacks = lacks_from 10 text refl; kept = refl }; read = refl }
owned (suc (suc (suc (suc (suc (suc (suc (suc client)))))))) few = absurd (omega (arith, few))

owned_go : Goes (repeat 8 0 owned_part)
owned_go = parts_go_on any_line Never owned_part 8 (λ i less. let line = owned i less in line_goes_on any_line Never (owned_of i) line.text quiet_client line.plain refl line.read) 8 0 (lit≤ tt)

title_read : title_of (codes "account") ≡ Ok tt
unfolding title_of row
title_read = refl

abbrev nothing_held : List ℕ
nothing_held = codes "hold 0 0 0 0 0 0 0 0 0 0 0 0 0 0 0 0 0 0 0 0 0 0 0 0 0 0 0 0"

hold_read : hold_of nothing_held ≡ Ok (replicate 28 (pos 0))
unfolding hold_of row numeral signed_numeral
hold_read = refl

pub account_closes : Closes IsBadAt any_line Never account_in
unfolding account_in
account_closes =
    then_closes (λ left. read_by title_of left) _ (line_goes_on any_line Never title_of (codes "account") tt (record { lacks = lacks_from 10 (codes "account") refl; kept = refl }) refl title_read) (λ title.
    then_closes (λ left. read_by hold_of left) _ (line_goes_on any_line Never hold_of nothing_held (replicate 28 (pos 0)) (record { lacks = lacks_from 10 nothing_held refl; kept = refl }) refl hold_read) (λ holdings.
    then_closes (repeat 8 0 owned_part) _ owned_go (λ clients.
    then_closes (λ left. read_by read_end_line left) _ end_goes (λ end.
    text_ends any_line Never (record { clients = clients; holdings = holdings })))))
