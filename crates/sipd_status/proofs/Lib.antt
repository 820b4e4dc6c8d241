mod MemoryLines
mod Trying
