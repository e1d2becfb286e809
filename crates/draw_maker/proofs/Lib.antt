pub mod DrawnWords
pub mod WordRanges
pub mod Exchanges
pub mod ClientRanges
pub mod GameRanges
pub mod DrawnGames
pub mod DrawnScripts
pub mod ScriptLines
