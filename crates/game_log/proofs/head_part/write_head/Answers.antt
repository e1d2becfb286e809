use Rattle.std.proofs.Common.{refl, codes}
use Rattle.game_log.specs.Prelude.{head_of, head_text}
use Rattle.game_log.proofs.Writing.{gathers_both, gathers_part}
use Rattle.game_log.proofs.head_part.write_head.Goals as goal

pub returns-in-Ok : goal.returns-in-Ok
returns-in-Ok g c =
    gathers_both _ _ (codes "taclog 1\n") (head_text (head_of c.args.head.now)) _ _ _ _ _ _ c.write_kind.result refl refl c.in-Ok.ensures c.write_kind.ensures

pub returns-in-Err : goal.returns-in-Err
returns-in-Err g c = gathers_part _ (codes "taclog 1\n") (head_text (head_of c.args.head.now)) _ _ _ refl c.in-Err.ensures
