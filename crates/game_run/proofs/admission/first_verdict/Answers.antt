use Rattle.std.proofs.Common.{◌≡◌, ◌≢◌, ◌∙◌, ap, refl, inl, inr, ◌⊎◌}
use Rattle.game_run.specs.Prelude.{link_place, LineGot, verdict_of}
use Rattle.tac_io.specs.declared.line_got.LineGot.TheVariants as gots
use Rattle.game_run.proofs.FirstLines.{line_read, long_read, none_read}
use Rattle.game_run.proofs.admission.first_verdict.Goals as goal

neither_line : (got : LineGot) → (got ≡ gots.End) ⊎ ((got ≡ gots.Failed) ⊎ (got ≡ gots.Budget)) → (got ≢ gots.Line) × (got ≢ gots.TooLong)
neither_line gots.Line h = elim h [ inl e ↦ absurd (cc) | inr f ↦ elim f [ inl e ↦ absurd (cc) | inr e ↦ absurd (cc) ] ]
neither_line gots.TooLong h = elim h [ inl e ↦ absurd (cc) | inr f ↦ elim f [ inl e ↦ absurd (cc) | inr e ↦ absurd (cc) ] ]
neither_line gots.End h = (λ e. cc, λ e. cc)
neither_line gots.Failed h = (λ e. cc, λ e. cc)
neither_line gots.Budget h = (λ e. cc, λ e. cc)

pub returns-in-Line-clause-read : goal.returns-in-Line-clause-read
returns-in-Line-clause-read g c = line_read g.L.Link.state c.args.gate.now (link_place g.L.Link.state c.args.lines.now) c.next.new.self c.requires.unread c.requires.count
    c.next.ensures.budget c.next.ensures.sent c.admit.result c.in-Line.ensures.answer c.in-Line.ensures.cause (cc) (c.admit.ensures.verdict ∙ ap (verdict_of c.args.gate.now) c.line.ensures)

pub returns-in-TooLong-clause-read : goal.returns-in-TooLong-clause-read
returns-in-TooLong-clause-read g c = long_read g.L.Link.state c.args.gate.now (link_place g.L.Link.state c.args.lines.now) c.next.new.self c.requires.unread c.requires.count
    c.next.ensures.budget c.next.ensures.sent c.in-TooLong.ensures.answer c.in-TooLong.ensures.cause

pub returns-in-End : goal.returns-in-End
returns-in-End g c =
    let neither = neither_line c.next.result c.in-End.is in
    record {
      read = none_read g.L.Link.state c.args.gate.now (link_place g.L.Link.state c.args.lines.now) c.next.new.self c.requires.unread c.requires.count c.next.ensures.budget c.next.ensures.sent c.next.result c.next.ensures.answer c.next.ensures.cause neither.0 neither.1;
      seats = refl;
    }
