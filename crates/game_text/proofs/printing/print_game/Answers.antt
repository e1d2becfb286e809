use Rattle.std.proofs.Common.{◌≡◌, ℕ, List, ◌++◌, ◌∙◌, ap}
use Rattle.game_text.specs.Games.{canonical_text, game_of}
use Rattle.game_text.proofs.GameTexts.{game_again}
use Rattle.game_text.proofs.printing.print_game.Goals as goal

pub returns-clause-again : goal.returns-clause-again
returns-clause-again c =
    let game = c.args.game.now in
    let text : c.print_lines.new.out.items ≡ canonical_text game = c.in_ok-print_lines.ensures.text ∙ ap (λ (t : List ℕ). t ++ canonical_text game) c.new-out.ensures.items in
    ap game_of text ∙ game_again game c.in_ok-print_lines.ensures.range
