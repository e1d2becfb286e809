-- The names of crates below that this crate cites, passed on from one place.
pub use Rattle.tac_base.specs.Goods.{agents}
pub use Rattle.text_forms.specs.Lines.{GoesOn, text_of}
pub use Rattle.line_protocol.specs.Heads.{Head, Play, Serve, head_of}
pub use Rattle.game_text.specs.Games.{GameFile}
pub use Rattle.game_text.specs.SeatWords.{are_distinct}
pub use Rattle.log_text.specs.LoggedGames.{AreHistories, IsLogged, IsLoggedScore, LoggedGame}
pub use Rattle.log_text.specs.SoundLog.{IsSound, auctions_in, gives_seat, seatings}
