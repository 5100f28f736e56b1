pub mod ReadBack
pub mod SliceJson
pub mod ValueJson
