pub mod Sweepable
