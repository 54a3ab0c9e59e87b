-- Laws of the decoder's calls: the answer, the turns of a decode call, the decoder after a seek, and refusals.
pub mod Answering
pub mod Clearing
pub mod Taking
pub mod Playing
pub mod Turning
pub mod Seeking
pub mod Refusals
