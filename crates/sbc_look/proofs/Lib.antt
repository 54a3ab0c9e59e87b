-- The cases of a look and of what is done next; and what a look and a decision give back is fixed by what is told of them.
pub mod Answering
pub mod Deciding
