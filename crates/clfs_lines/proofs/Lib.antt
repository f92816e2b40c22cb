mod NoFeeds
mod ScriptLines
mod Written
mod Through
mod Pieces
mod LastLine
mod AnsweringEnds
