-- Laws of the numbers that cross to C: parameters as numbers and back.
pub mod Numbers
