-- Appending to what a sink holds.
use Rattle.std.proofs.Common.{take-add, append-nil, append_assoc, ◌≡◌, ◌+◌, ◌∙◌, ℕ, List, Option, Some, None, take, drop, refl, ap, sym}
use Rattle.rc_io.specs.Bytes.{grown, GrowsByNothing, GrowsByBoth}

-- appending nothing changes nothing
pub grown-nil : GrowsByNothing
grown-nil None = refl
grown-nil (Some held) = ap (λ bytes. Some bytes) (append-nil held)

-- appending twice is appending both at once
pub grown-grown : GrowsByBoth
grown-grown None first second = refl
grown-grown (Some held) first second = ap (λ bytes. Some bytes) (append_assoc held first second)

-- the first `at` bytes, and then `count` of those after them
pub grown-take : (held : Option (List ℕ)) (bytes : List ℕ) (at count : ℕ)
    → grown (grown held (take at bytes)) (take count (drop at bytes)) ≡ grown held (take (at + count) bytes)
grown-take held bytes at count =
    grown-grown held (take at bytes) (take count (drop at bytes)) ∙ ap (grown held) (sym (take-add at count bytes))
