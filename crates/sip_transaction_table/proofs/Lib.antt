pub mod Callers
mod Filing
mod Named
mod Numbers
mod Places
mod SameKey
