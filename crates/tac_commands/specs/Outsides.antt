-- The state of all objects of the outside that a command may call.
use Rattle.tac_io.specs.States.{FilesState, SinkState, LinksState, TickerState}

-- the states of all objects of the outside that a command may call
pub record Outside (L : Type 0) : Type 0 where
  pub files : FilesState
  pub out : SinkState
  pub links : LinksState L
  pub ticker : TickerState

-- the states of four objects, together
abbrev pub outside_of : {L : Type 0} → FilesState → SinkState → LinksState L → TickerState → Outside L
outside_of files out links ticker = record { files = files; out = out; links = links; ticker = ticker }
