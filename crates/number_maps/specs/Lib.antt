pub mod NumberMap
