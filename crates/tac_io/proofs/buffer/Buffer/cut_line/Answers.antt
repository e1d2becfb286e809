use Rattle.std.proofs.Common.{◌≡◌, length, ◌≤◌, ap, ◌∙◌, sym, arith, subst, ◌+◌, slice_range}
use Rattle.tac_io.specs.LineText.{BeginsWithLine}
use Rattle.tac_io.proofs.LineEnds.{cut_part}
use Rattle.tac_io.proofs.buffer.Buffer.cut_line.Goals as goal

pub returns-clause-cut : goal.returns-clause-cut
returns-clause-cut c =
    let is : c.unread.result.now ≡ slice_range c.self.inside.bytes c.self.inside.from c.self.inside.to = c.unread.ensures ∙ sym (ap (λ held. held.unread) c.self.view_is) in
    let within : c.self.inside.to ≤ length c.self.inside.bytes = omega arith in
    subst (λ bytes. BeginsWithLine bytes (slice_range c.self.inside.bytes c.self.inside.from (c.self.inside.from + c.in_ok-length.length))
    (slice_range c.self.inside.bytes (c.self.inside.from + c.in_ok-length.length + 1) c.self.inside.to)
    × (c.in_ok-length.length ≡ length (slice_range c.self.inside.bytes c.self.inside.from (c.self.inside.from + c.in_ok-length.length))))
    c.unread.ensures
    (cut_part c.self.inside.bytes c.self.inside.from c.self.inside.to c.in_ok-length.length c.unread.result.now is (omega arith) within c.in_ok-length.ensures.found.0 c.in_ok-length.ensures.found.1)
