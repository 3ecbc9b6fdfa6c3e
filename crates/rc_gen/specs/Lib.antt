-- the draws that a design is made of, its text, and the texts of its technology and rules
pub mod Draws
pub mod Texts
-- what they come to
pub mod Generated
-- the summary of parasitics
pub mod Summary
pub mod Adding
pub mod Laws
