-- What a call leaves and answers is what the rules say of it.
mod Calls
mod Frames
