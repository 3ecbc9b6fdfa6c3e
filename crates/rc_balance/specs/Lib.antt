pub mod BalanceLaw
