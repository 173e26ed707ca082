-- What the screen and demand 3 state: what a verdict is and its number, where control may go, the rules on a window, the screen, and the traces of a routine.
pub mod Verdict
pub mod Numbers
pub mod Flow
pub mod Rules
pub mod Screen
pub mod Trace
