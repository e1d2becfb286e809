use Rattle.std.proofs.Common.{arith, refl, ◌∙◌}
use Rattle.std.proofs.lemmas.Result.{err_from_is_err_and}
use Rattle.script_run.proofs.HeardToEnd.{answered_fault, at_end, goes_on, hears_nothing, too_long, unread}
use Rattle.script_run.proofs.game.stepping.hear_lines.Goals as goal

pub pieces-init : goal.pieces-init
pieces-init g c = record {
  hearing = hears_nothing c.args.game.now (g.F.Files.state c.args.files.now) (g.K.Sink.state c.args.out.now) c.in-Ok.stepper c.in-Ok.ensures.empty c.in-Ok.ensures.stepping;
  number = omega (arith, c.in-Ok.ensures.number);
  within = omega arith;
  len = c.in-Ok.ensures.len;
  room = c.in-Ok.ensures.room;
  selected = c.requires;
  names = refl;
  content = refl;
}

pub returns-in_default-read_piece-clause-lines : goal.returns-in_default-read_piece-clause-lines
returns-in_default-read_piece-clause-lines g c =
    unread c.args.game.now (g.F.Files.state c.args.files.now) (g.K.Sink.state c.args.out.now) (g.F.Files.state c.pieces.files) (g.K.Sink.state c.pieces.out) c.pieces.stepper c.pieces.given
    c.pieces.invariant.hearing (g.F.Files.state c.read_piece.new.files) c.in_default-read_piece.ensures.given c.in_default-read_piece.ensures.cause

pub returns-then-count-eq0-clause-lines : goal.returns-then-count-eq0-clause-lines
returns-then-count-eq0-clause-lines g c =
    let h = c.pieces.invariant.hearing in
    at_end c.args.game.now (g.F.Files.state c.args.files.now) (g.K.Sink.state c.args.out.now) (g.F.Files.state c.pieces.files) (g.K.Sink.state c.pieces.out) c.pieces.stepper c.pieces.given h
    (g.F.Files.state c.read_piece.new.files) c.read_piece.new.piece c.in-Ok-read_piece.count c.in-Ok-read_piece.ensures.given.1 c.in-Ok-read_piece.ensures.cause c.if-count-eq0.true
    (c.in-Ok-read_piece.ensures.given.2 c.if-count-eq0.true) c.end.result (c.end.ensures c.args.game.now h.given h.answered.written h.answered.stepping)

pub returns-then-given-eq-TEXT_BYTES-clause-lines : goal.returns-then-given-eq-TEXT_BYTES-clause-lines
returns-then-given-eq-TEXT_BYTES-clause-lines g c =
    let count = c.in-Ok-read_piece.count in
    let size = c.in-Ok-read_piece.ensures.size in
    too_long c.args.game.now (g.F.Files.state c.args.files.now) (g.K.Sink.state c.args.out.now) (g.F.Files.state c.pieces.files) (g.K.Sink.state c.pieces.out) c.pieces.stepper c.pieces.given
    c.pieces.invariant.hearing (g.F.Files.state c.read_piece.new.files) c.read_piece.new.piece count c.in-Ok-read_piece.ensures.given.1 c.in-Ok-read_piece.ensures.cause
    c.if-given-eq-TEXT_BYTES.true (omega (arith, size, c.if-count-eq0.false)) (omega (arith, size, c.in-Ok-read_piece.ensures.given.0, c.next_most.ensures.few))

pub returns-in_err-answer-clause-lines : goal.returns-in_err-answer-clause-lines
returns-in_err-answer-clause-lines g c =
    let h = c.pieces.invariant.hearing in
    let p = err_from_is_err_and c.from_residual.result c.from_residual.ensures.1 in
    let count = c.in-Ok-read_piece.count in
    let size = c.in-Ok-read_piece.ensures.size in
    let given = c.in-Ok-read_piece.ensures.given.0 in
    let room = c.next_most.ensures.within (omega (arith, c.pieces.invariant.within, c.if-given-eq-TEXT_BYTES.false)) in
    rw (p.1, p.2)
    (answered_fault c.args.game.now (g.F.Files.state c.args.files.now) (g.K.Sink.state c.args.out.now) (g.F.Files.state c.pieces.files) (g.K.Sink.state c.pieces.out) c.pieces.stepper c.pieces.given
    h (g.F.Files.state c.read_piece.new.files) c.read_piece.new.piece count c.in-Ok-read_piece.ensures.given.1 c.in-Ok-read_piece.ensures.cause (g.K.Sink.state c.answer.new.out)
    (omega (arith, size, given, room)) (omega (arith, size, given, c.next_most.ensures.few)) c.in_err-answer.ensures.more c.in_err-answer.field-0.0 c.answer.new.self
    (c.in_err-answer.ensures.answered c.args.game.now h.given (g.K.Sink.state c.args.out.now) h.answered))

pub pieces-preserved : goal.pieces-preserved
pieces-preserved g c =
    let was = c.pieces.invariant in
    let h = was.hearing in
    let count = c.in-Ok-read_piece.count in
    let size = c.in-Ok-read_piece.ensures.size in
    let given = c.in-Ok-read_piece.ensures.given.0 in
    let room = c.next_most.ensures.within (omega (arith, was.within, c.if-given-eq-TEXT_BYTES.false)) in
    let answer = c.in_ok-answer.ensures in
    record {
      hearing = goes_on c.args.game.now (g.F.Files.state c.args.files.now) (g.K.Sink.state c.args.out.now) (g.F.Files.state c.pieces.files) (g.K.Sink.state c.pieces.out) c.pieces.stepper c.pieces.given
          h (g.F.Files.state c.read_piece.new.files) c.read_piece.new.piece count c.in-Ok-read_piece.ensures.given.1 c.in-Ok-read_piece.ensures.cause (g.K.Sink.state c.answer.new.out)
          (omega (arith, size, given, room)) (omega (arith, size, given, c.next_most.ensures.few)) answer.more c.answer.new.self _ (omega (arith, size)) (answer.answered c.args.game.now h.given (g.K.Sink.state c.args.out.now) h.answered);
      number = omega (arith, was.number, answer.number, size);
      within = omega (arith, given, room);
      len = answer.len;
      room = omega (arith, was.room, answer.capacity);
      selected = c.read_piece.ensures.selected;
      names = c.read_piece.ensures.names ∙ was.names;
      content = c.read_piece.ensures.content ∙ was.content;
    }
