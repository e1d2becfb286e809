pub mod SeatedOnce
pub mod SoundServices
pub mod PostedCash
pub mod WrittenLogs
pub mod LapsedGames
pub mod ServiceCauses
pub mod ServedLinks
pub mod Headline
