-- A net that may take another's place has few items.
use Rattle.std.proofs.Common.{◌≡◌, ◌<◌, ◌≤◌, ◌⊎◌, inl, inr, ℕ, length, get_or, arith}
use Rattle.std.proofs.lemmas.Option.{slice_get_cases}
use Rattle.std.specs.Prelude.{Some, None, slice_get}
use Rattle.rc_layout.specs.declared.net.Net.{Net}
use Rattle.rc_layout.specs.Facts.{IsCandidate}
use Rattle.rc_layout.specs.Layouts.{Wired}
use Rattle.rc_shorts.specs.OfLayouts.{HasFewItems}

pub few_items : (wired : Wired) (n : ℕ) (new : Net) → n < length wired.nets → ((old : Net) → slice_get wired.nets n ≡ Some old → IsCandidate wired old new) → HasFewItems new
few_items wired n new lt fits = by (slice_get_cases wired.nets n).1
  where
    by : ((old : Net) × (n < length wired.nets) × (slice_get wired.nets n ≡ Some old) × (get_or wired.nets n old ≡ old)) ⊎ ((length wired.nets ≤ n) × (slice_get wired.nets n ≡ None)) → HasFewItems new
    by (inl inside) = (fits inside.0 inside.2).belongs.formed.few_items
    by (inr past) = let a = past.0 in absurd (omega (arith, a, lt))
