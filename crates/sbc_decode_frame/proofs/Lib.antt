-- What is played of what is read of a frame is what `decode_fields` plays of its fields.
mod Decoded
