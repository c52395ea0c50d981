pub mod Stream
pub mod SeenLine
pub mod WordsOfLine
pub mod HexDigits
pub mod PassedLines
pub mod BoundWords
