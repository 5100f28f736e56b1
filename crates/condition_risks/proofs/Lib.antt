mod Ends
mod Operators
mod Holding
mod Ending
mod Expected
mod Merging
