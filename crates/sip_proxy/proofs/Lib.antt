mod Drafts
mod OnTime
mod Places
mod Verdicts
