pub mod FailureCounts
pub mod UntoldStreams
