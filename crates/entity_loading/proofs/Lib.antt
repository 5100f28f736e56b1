mod BorrowSteps
mod AskSteps
mod AnswerSteps
mod KeepSteps
mod RoundSteps
mod PointSteps
mod ReachSteps
mod KeptSteps
mod StateSteps
mod AddSteps
mod StoreSteps
mod RightSteps
mod MoreSteps
mod AskedSteps
mod UnaskedSteps
mod NamedSteps
mod BetweenSteps
pub mod PlaceSteps
pub mod PlacePointSteps
mod FollowSteps
mod DemandSteps
mod BeginSteps
mod LedSteps
mod CannotGoOnSteps
mod NameSteps
mod WaitSteps
mod ValueSteps
mod SlicePointSteps
mod SliceReachSteps
pub mod LeastSteps
mod SliceKeptSteps
mod PartSteps
mod PickSteps
mod BlockedSteps
pub mod Prefixes
mod Enumerating
