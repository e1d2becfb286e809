-- The effect of adding a text to a piece that is gathered, and written to a sink when it is full.
use Rattle.std.specs.Prelude.{◌≡◌, ℕ, List, ◌++◌, Result, MatchResult}
use Rattle.game_log.specs.Prelude.{SinkState, TookWhole, TookPart, Failed}

-- The sink took the first of the bytes that were held and of the text, and the rest is held. No write failed.
pub record GathersWhole (text held held' : List ℕ) (sink sink' : SinkState) : Type 0 where
  pub written : List ℕ
  pub split : held ++ text ≡ written ++ held'
  pub took : TookWhole sink sink' written

-- Some of the first of these bytes were to be written, and the sink took not all of them. The last write failed.
pub record GathersPart (text held : List ℕ) (sink sink' : SinkState) : Type 0 where
  pub written : List ℕ
  pub rest : List ℕ
  pub split : held ++ text ≡ written ++ rest
  pub took : TookPart sink sink' written

abbrev pub Gathers : List ℕ → List ℕ → List ℕ → SinkState → SinkState → Result (Unit {0}) Failed → Type 0
Gathers text held held' sink sink' result = MatchResult result
    (λ _. GathersWhole text held held' sink sink')
    (λ _. GathersPart text held sink sink')
