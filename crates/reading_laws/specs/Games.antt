-- The texts of games and of accounts, and when a text is refused as one at a line.
use Rattle.std.specs.Prelude.{◌≡◌, ℕ, List, Err}
use Rattle.game_text.specs.declared.fault.GameFault.TheVariants.{Line}
use Rattle.reading_laws.specs.Prelude.{AccountFile, IsAccount, IsAccountText, account_of, GameFile, IsGame, IsTextOf, game_of}

-- a text of some game
abbrev pub IsGameText : List ℕ → Type 0
IsGameText text = (game : GameFile) × IsGame game × IsTextOf game text

-- a text is refused as a game at this line, for some reason
abbrev pub IsRefusedGameAt : List ℕ → ℕ → Type 0
IsRefusedGameAt text line = (reason : ℕ) × (game_of text ≡ Err (Line line reason))

-- a text of some account
abbrev pub IsTextOfAccount : List ℕ → Type 0
IsTextOfAccount text = (account : AccountFile) × IsAccount account × IsAccountText account text

-- a text is refused as an account at this line, for some reason
abbrev pub IsRefusedAccountAt : List ℕ → ℕ → Type 0
IsRefusedAccountAt text line = (reason : ℕ) × (account_of text ≡ Err (Line line reason))
