use Rattle.std.proofs.Common.{sym, subst}
use Rattle.game_text.specs.Games.{IsGame}
use Rattle.game_text.proofs.QuietRanges as quiet
use Rattle.game_text.proofs.quiet.GameDefault.default.Goals as goal

pub invariant_of-flight : goal.invariant_of-flight
invariant_of-flight c = quiet.flight

pub invariant_of-result : goal.invariant_of-result
invariant_of-result c = subst IsGame (sym (quiet.made c.numbered.result c.hotels.result c.numbered.ensures c.hotels.ensures)) quiet.game
