-- Laws of the calls' definitions: of every call (demand 1), and of whole lists of calls (demand 3).
pub mod Streams
pub mod Encoded
pub mod Looking
pub mod Accepted
pub mod NextCall
pub mod Untouched
pub mod Validating
pub mod Faults
pub mod Following
pub mod Reaching
pub mod Refusals
pub mod Played
pub mod Heard
pub mod Agreement
pub mod TwoLanguages
pub mod Runs
