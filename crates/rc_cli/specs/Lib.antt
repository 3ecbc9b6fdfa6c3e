-- the words, the lines on the standard error, and the verdict on a SPEF file
pub mod Command
pub mod Lines
pub mod Verdict
-- what a run comes to, what it answers, and why its work stops
pub mod Outcome
pub mod Answers
pub mod Work
pub mod Laws
