-- Laws of where a seek resumes.
pub mod Seeking
