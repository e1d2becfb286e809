pub mod JoinedWords
pub mod Numbers
pub mod OneLine
pub mod ReplyAgain
pub mod ReplyRead
pub mod RequestLaws
pub mod StandingPoints
