use Rattle.std.proofs.Common.{sym, ◌∙◌, arith}
use Rattle.script_run.specs.HotelLines.{hotel_line_of, asked}
use Rattle.script_run.proofs.Running.{has_room, part_script, length-script, history_more, text_more}
use Rattle.script_run.proofs.hotel.run.HotelRun.step.Goals as goal

pub call-requires-clause-room : goal.call-requires-clause-room
call-requires-clause-room c =
    let lines = c.requires.0 in
    let ran = c.requires.1 in
    let judged = c.in-Ok.ensures lines ran.counted in
    let room = has_room lines (hotel_line_of c.args.line.now) c.in-Ok.asked judged.0 in
    let part = part_script lines c.args.self.now.auction.history (asked c.in-Ok.asked).0 ran.history in
    omega (arith, room, part)

pub call-requires-clause-place : goal.call-requires-clause-place
call-requires-clause-place c =
    let lines = c.requires.0 in
    let ran = c.requires.1 in
    c.all-position.ensures.value lines ran.counted ∙ sym (length-script lines c.args.self.now.auction.history ran.history)

pub returns-in-Ok-call : goal.returns-in-Ok-call
returns-in-Ok-call c lines ran =
    let judged = c.in-Ok.ensures lines ran.counted in
    let line = c.in-Ok.asked in
    let before = c.args.self.now.auction in
    let more = history_more lines line before ran.setup ran.history c.call.new.auction c.call.ensures.auction in (
      line,
      judged.0,
      record {
        setup = more.0;
        history = more.1;
        counted = judged.1;
        text = text_more lines line before ran.setup ran.history c.args.self.now.text.items c.call.new.text.items c.all-position.result ran.text (c.all-position.ensures.value lines ran.counted) c.in-Ok-call.ensures.text;
      },
    )
