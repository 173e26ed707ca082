-- Laws of the operations on words, PUSH and POP.
pub mod OnWords
