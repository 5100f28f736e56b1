mod Floats
mod Pieces
mod ReadBack
mod Steps
