pub mod Users
pub mod Held
mod Tests
mod Elements
mod Tolerating
mod Cuts
mod Choices
mod Meets
mod Apart
mod Covering
mod GrantsAgain
mod Allocated
mod VerdictGiven
mod Spelling
mod NamesPick
mod Fitting
mod Claiming
mod Clearing
mod Passing
mod Accepting
mod Telling
mod Saying
mod Knowing
mod Unique
mod AdoptedOnce
