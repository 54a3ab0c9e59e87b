-- What the code analyzes of a channel is what `analyze_blocks` and `analysis_after` say.
mod Analyzed
mod Channels
