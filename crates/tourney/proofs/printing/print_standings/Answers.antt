use Rattle.std.proofs.Common.{◌≡◌, ℕ, List, ◌++◌, ap, ◌∙◌, append_assoc, Result, Ok, Err, OnErr}
use Rattle.text_forms.specs.Lines.{GoesOn}
use Rattle.tourney.proofs.printing.print_standings.Goals as goal

-- what goes on after some bytes goes on from what was before them
goes_on : (x a b c : List ℕ) → b ≡ a ++ x → GoesOn b c → GoesOn a c
goes_on x a b c some more = (x ++ more.0, more.1 ∙ (ap (λ (t : List ℕ). t ++ more.0) some ∙ append_assoc a x more.0))

-- what holds anyway holds after an error
anyway : {T E P : Type 0} (r : Result T E) → P → OnErr r P
anyway (Ok x) fact = tt
anyway (Err e) fact = fact

pub returns-in_err-extend_from_slice-clause-part : goal.returns-in_err-extend_from_slice-clause-part
returns-in_err-extend_from_slice-clause-part c =
    let teams : GoesOn c.print_row.new.out.items c.extend_from_slice.new.self.items = (c.in_ok-print_teams.ensures.part.0, c.in_err-extend_from_slice.ensures.items ∙ c.in_ok-print_teams.ensures.part.1) in
    anyway c.from_residual-in_err-extend_from_slice.result (goes_on _ c.args.out.now.items c.print_row.new.out.items c.extend_from_slice.new.self.items c.in_ok-print_row.ensures.added teams)
