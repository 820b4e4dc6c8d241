pub mod SameFrames
