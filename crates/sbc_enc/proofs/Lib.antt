-- What the program rests on of an encode call.
pub mod Fitting
