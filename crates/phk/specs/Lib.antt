-- What the tool's contracts say: where a run starts, how far it has come, what the screen says of a window, the status, what a file is as an image, the values in a line, what is kept of a look at a file, how many bytes a page has.
pub mod Start
pub mod SoFar
pub mod Status
pub mod Window
pub mod Images
pub mod Values
pub mod Ended
pub mod Looking
pub mod Counts
pub mod Targets
pub mod View
pub mod Noted
pub mod Places
pub mod Shown
pub mod Watching
