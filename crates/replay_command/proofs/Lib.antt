pub mod TextSteps
pub mod StreamSteps
pub mod ScriptSteps
pub mod RunSteps
pub mod TopSteps
