pub mod FieldSteps
pub mod PathSteps
pub mod LoopSteps
pub mod Covered
pub mod LineSteps
pub mod ScriptLaws
pub mod ReadSteps
pub mod GivenSteps
