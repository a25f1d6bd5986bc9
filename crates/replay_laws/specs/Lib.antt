pub mod ImageLines
