mod BranchLaws
mod SideLaws
mod Asks
mod WalkSteps
