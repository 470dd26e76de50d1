-- What stands next in a buffer, what an output leaves in one, and both as a reader and a writer.
pub mod Input
pub mod Output
pub mod Stream
