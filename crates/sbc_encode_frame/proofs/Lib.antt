-- What the code analyzes, chooses and writes of a frame is what `encode_fields` and `pack` say.
mod Packed
