-- Thin calls on a state that is lent by `&mut`: the state is copied out and passed by value, and what comes back is stored. One file for each
-- form of such a call (Made, Alone, Passed, Slices), over what they share: the types, the theorem of any form, and the call with no answer.
pub mod Types
pub mod Form
pub mod Bare
pub mod Made
pub mod Alone
pub mod Passed
pub mod Slices
