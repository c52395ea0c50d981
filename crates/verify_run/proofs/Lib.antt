pub mod ProofFaults
pub mod LinesSoFar
pub mod VerifyEnds
pub mod StoresLeft
