mod BoundWords
pub mod WordsOfLine
pub mod Newlines
pub mod HeldBytes
pub mod LinesAhead
pub mod OverlongLines
pub mod DigitTable
pub mod HexWords
pub mod NumberWords
pub mod SeenLine
pub mod RootWords
pub mod UsedBytes
