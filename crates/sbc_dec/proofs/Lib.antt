-- What the program rests on of a decode call.
pub mod Fitting
