mod RuleNumbers
mod OneKey
mod Issuing
mod FullTable
mod Contacts
mod FirstRequests
mod Branching
mod Belonging
mod Numbered
mod Reasons
mod Granting
mod Heard
pub mod Lists
pub mod Changes
pub mod Requests
pub mod Facts
pub mod Failures
pub mod Telling
pub mod Edits
pub mod Answers
pub mod Dialogs
pub mod Same
pub mod Under
pub mod Told
pub mod Ended
pub mod Going
pub mod Early
pub mod Refused
pub mod Said
pub mod Messages
pub mod Firsts
pub mod Coming
pub mod Later
pub mod CallAnswers
pub mod CallRequests
pub mod Copying
pub mod Recording
pub mod GivingUp
pub mod Timing
pub mod Taken
pub mod Withheld
pub mod Folding
pub mod NotAsked
pub mod TwoRuns
pub mod OwnRules
mod Heads
mod Checks
mod Naming
mod Places
mod Owners
mod Keeping
mod Counts
mod WrongWays
