-- The rows of scale factors, as the loops make them.
mod Factors
