mod AttrSteps
mod OrderLaws
mod PlainSteps
mod ShowSteps
