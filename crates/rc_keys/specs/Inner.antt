-- Words that contracts of private functions and invariants alone speak of. No promise of the crate is said by them.
pub mod Leads
pub mod Slots
