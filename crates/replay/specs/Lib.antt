pub mod Log
pub mod Replay
pub mod Inner
