use Rattle.std.proofs.Common.{ℕ, ap, ◌∙◌}
use Rattle.script_run.specs.Prelude.{GameFile, setup_of}
use Rattle.game_text.specs.QuietGames.{quiet_game}
use Rattle.script_run.proofs.hotel.run.HotelRun.new.Goals as goal

pub returns : goal.returns
unfolding quiet_game
returns c = record {
  setup = c.in_ok-begin.ensures.setup ∙ ap (λ (good : ℕ). setup_of good c.default.result) c.first_night.ensures ∙ ap (λ (game : GameFile). setup_of 8 game) c.default.ensures;
  history = c.in_ok-begin.ensures.history;
  counted = c.new.ensures;
  text = c.new-2.ensures.items;
}
