pub mod KnownPieces
pub mod Looks
pub mod WholeFiles
pub mod FilesInMemory
pub mod LineEnds
pub mod NextLine
pub mod ByBytes
