-- The names of crates below that this crate cites, passed on from one place.
pub use Rattle.tac_base.specs.Bids.{fault_of, point_at}
pub use Rattle.tac_base.specs.Clients.{IsClient, Preferences}
pub use Rattle.tac_base.specs.Kinds.{kind_of}
pub use Rattle.tac_base.specs.declared.bids.Point.{Point}
pub use Rattle.tac_base.specs.declared.limits.TheConstants.{AGENTS, GOODS, MADE_REQUESTS, TICKS}
pub use Rattle.tac_base.specs.declared.numbers.Kind.{Kind}
pub use Rattle.tac_base.specs.declared.numbers.Kind.TheVariants.{Flight, Hotel, Ticket}
pub use Rattle.text_forms.specs.Lines.{text_of}
pub use Rattle.game_text.specs.Flights.{FlightTerms, IsFlight}
pub use Rattle.game_text.specs.Games.{GameFile, IsGame, agents_of}
pub use Rattle.game_text.specs.SeatWords.{numbered_seats}
