mod Logs
mod Votes
mod Lists
mod Phases
mod Noting
mod Slots
pub mod Tallies
mod Devices
mod Concluding
mod Guards
pub mod Accounts
mod Effects
mod Invariant
mod Chaining
mod Turns
mod Tracks
mod Orders
pub mod History
pub mod Running
mod Attempts
mod Passes
mod Reaching
mod Stages
mod Counting
pub mod Ending
