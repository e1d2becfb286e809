use Rattle.std.proofs.Common.{arith, lit<, length-drop}
use Rattle.std.proofs.lemmas.List.{take_rest}
use Rattle.game_text.proofs.EndowmentLaws.{endow_bytes}
use Rattle.game_text.proofs.endowments.endow_from.Goals as goal

pub bytes_of-requires : goal.bytes_of-requires
bytes_of-requires c = (lit< tt, (rw take_rest (omega (arith, length-drop 1 c.args.numbers.now, c.requires.count)), rw take_rest (endow_bytes c.args.numbers.now c.requires.count c.requires.range)))
