pub mod LaidChanges
pub mod CheckAnswers
