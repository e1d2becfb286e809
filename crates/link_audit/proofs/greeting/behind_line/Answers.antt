use Rattle.std.proofs.Common.{◌≡◌, ◌+◌, ℕ, List, [], ◌∷◌, sym, ap, ◌∙◌, arith, slice_range}
use Rattle.link_audit.specs.Walks.{replies_at}
use Rattle.link_audit.proofs.Cuts.{replies_here, replies_end}
use Rattle.link_audit.proofs.Leading.{first_reply}
use Rattle.link_audit.proofs.greeting.behind_line.Goals as goal

pub returns-in_default : goal.returns-in_default
returns-in_default c = λ others is. (let none : [] ≡ c.args.line.now ∷ others = sym (replies_end c.args.said.now c.args.from c.in_default.ensures) ∙ is in absurd cc)

pub returns-then-same_bytes : goal.returns-then-same_bytes
returns-then-same_bytes c =
    let said : List ℕ = c.args.said.now in let from = c.args.from in let end = c.in-Some.end in
    let inside = c.in-Some.ensures.1 in
    (omega (arith, inside), replies_here said from end c.in-Some.ensures.2 ∙ ap (λ (l : List ℕ). l ∷ replies_at said (end + 1)) (c.same_bytes.ensures.0 c.if-same_bytes.true))

pub returns-else-same_bytes : goal.returns-else-same_bytes
returns-else-same_bytes c = λ others is.
    let said : List ℕ = c.args.said.now in let from = c.args.from in let end = c.in-Some.end in
    let both : slice_range said from end ∷ replies_at said (end + 1) ≡ c.args.line.now ∷ others = sym (replies_here said from end c.in-Some.ensures.2) ∙ is in
    let same = c.same_bytes.ensures.1 (ap (first_reply []) both) in let no = c.if-same_bytes.false in absurd cc
