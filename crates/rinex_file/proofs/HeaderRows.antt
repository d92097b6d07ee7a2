-- The lines of a header: their texts and types, headers with the same lines, and what is known after each line.
pub mod Texts
pub mod Types
pub mod Lists
pub mod Slots
pub mod Agree
pub mod Letters
pub mod Some
pub mod Places
pub mod Steps
pub mod Read
pub mod End
pub mod Plain
