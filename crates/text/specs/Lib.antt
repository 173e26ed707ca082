-- What the text crate states: a page and what is written to it, a number and its bound, slices that are the same, lines and words, numbers and addresses as a person writes them, digits, words as they are shown, and forms that are filled in with these.
pub mod Page
pub mod Put
pub mod Within
pub mod Same
pub mod Lines
pub mod Number
pub mod Address
pub mod Hex
pub mod Digits
pub mod Shown
pub mod Form
