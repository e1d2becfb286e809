use Rattle.std.proofs.Common.{◌+◌, ℕ, List, refl, subst, slice_range}
use Rattle.link_audit.specs.{HasNoLine, lines_at}
use Rattle.link_audit.proofs.Cuts.{lines_here, lines_end}
use Rattle.link_audit.proofs.Accounted.{no_end}
use Rattle.link_audit.proofs.leaving.open_ending.Goals as goal

pub returns-in-None : goal.returns-in-None
returns-in-None g c =
    let asked : List ℕ = c.args.asked.now in let from = c.args.from in
    (c.is_full-full.ensures, ((λ same. lines_end asked from c.requires.short.1 c.requires.short.0 c.in-None.ensures), (λ none. refl)), c.in_ok-quits.ensures)

pub returns-in-Some : goal.returns-in-Some
returns-in-Some g c =
    let asked : List ℕ = c.args.asked.now in let from = c.args.from in
    let end = c.in-Some.field-0 in
    let here = lines_here asked from c.requires.short.1 c.requires.short.0 end c.in-Some.ensures.0 c.in-Some.ensures.1 c.in-Some.ensures.2 in
    (c.is_full-full.ensures, ((λ never. absurd cc), (λ none. absurd (no_end (slice_range asked from end) (lines_at asked (end + 1)) (subst HasNoLine here none)))), c.in_ok-quits.ensures)
