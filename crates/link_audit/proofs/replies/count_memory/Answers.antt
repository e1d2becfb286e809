use Rattle.std.proofs.Common.{◌≡◌, ◌+◌, ◌-◌, ℕ, List, Bool, true, false, cond, sym, ap, ◌∙◌, arith, take, slice_range, bytes_eq}
use Rattle.link_audit.specs.{SESSION_LINES, Said, memory_replies, replies_at}
use Rattle.link_audit.proofs.Cuts.{replies_here, replies_end}
use Rattle.link_audit.proofs.MemoryReplies.{no_more, one_more}
use Rattle.link_audit.proofs.replies.count_memory.Goals as goal
use Rattle.link_audit.proofs.replies.count_memory.Goals.{then-same_line, else-same_line}

pub returns-in_default : goal.returns-in_default
returns-in_default g c =
    let text : Said → List ℕ = (g.D.Dialect.form c.args.dialect.now).text in let bytes : List ℕ = c.args.said.now in let at = c.loop-line in
    no_more text at.count (SESSION_LINES - at._line) _ (replies_at bytes at.place) (replies_end bytes at.place c.in_default.ensures) at.invariant.counted

pub loop-line-preserved : goal.loop-line-preserved
loop-line-preserved g c =
    let text : Said → List ℕ = (g.D.Dialect.form c.args.dialect.now).text in let bytes : List ℕ = c.args.said.now in let at = c.loop-line in let end = c.in-Some.end in
    let reply = slice_range bytes at.place end in
    let low = c.loop-line-test.true in
    let few = at.invariant.few in let inside = c.in-Some.ensures.1 in
    let counted : (count : ℕ) (same : Bool) → c.same_line.result ≡ same → count ≡ at.count + cond same 1 0
    → count + memory_replies text (take (SESSION_LINES - (at._line + 1)) (replies_at bytes (end + 1))) ≡ memory_replies text (take SESSION_LINES (replies_at bytes c.args.told)) =
    λ count same test is.
    one_more text at.count count (SESSION_LINES - at._line) (SESSION_LINES - (at._line + 1)) _ reply (replies_at bytes at.place) (replies_at bytes (end + 1)) same (omega (arith, low))
    (replies_here bytes at.place end c.in-Some.ensures.2)
    (ap (λ (t : List ℕ). bytes_eq t reply) (sym at.invariant.printed ∙ sym c.as_slice.ensures.value) ∙ (sym c.same_line.ensures ∙ test)) is at.invariant.counted in
    elim c.if-same_line.branch [
      | then-same_line w ↦
          let is = w.count-is in
          record { printed = at.invariant.printed; counted = counted c.if-same_line.count true w.if-same_line.true (omega (arith, is)); few = omega (arith, is, few); within = omega (arith, inside) }
      | else-same_line w ↦
          let is = w.count-is in
          record { printed = at.invariant.printed; counted = counted c.if-same_line.count false w.if-same_line.false (omega (arith, is)); few = omega (arith, is, few); within = omega (arith, inside) }
    ]
