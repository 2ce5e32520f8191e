mod Iterations
mod Kept
