pub mod SameChain
pub mod ChainRules
pub mod Held
pub mod KeptObjects
pub mod OtherObjects
pub mod Parts
pub mod WholeFiles
pub mod TwoSteps
