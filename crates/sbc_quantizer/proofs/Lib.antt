-- Laws of the definitions: public are `scale-factor-le`, `scale-factor-holds`, `quantize-lt` and `reconstruct-bound`.
pub mod Factors
pub mod Limits
pub mod Division
pub mod Steps
pub mod Reciprocals
