-- What the code plays is what the definition plays: blocks, channels, and all channels of a frame.
mod Weaving
mod Played
