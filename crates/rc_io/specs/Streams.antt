-- What is known of real files and streams: little, for they don't tell what they hold.
use Rattle.std.specs.Prelude.{ℕ, Bool, List, Option}

-- whether a file is open, the bytes that are left in it where its type knows them, and how often files failed
pub record OpenFile : Type 0 where
  pub is_open : Bool
  pub left : Option (List ℕ)
  pub faults : ℕ

-- the bytes that a stream holds where its type knows them, and how often it failed
pub record OpenStream : Type 0 where
  pub held : Option (List ℕ)
  pub faults : ℕ
