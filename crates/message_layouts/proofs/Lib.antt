pub mod Fields
pub mod Further
pub mod Lists
pub mod Names
pub mod ReadBack
pub mod Sizes
pub mod Walk
