-- Whether an extraction and a SPEF file have the same nets.
use Rattle.std.specs.Prelude.{◌≡◌, ◌≢◌, ◌<◌, ◌+◌, ℕ, Bool, List, [], ◌∷◌, ◌++◌, Option, Some, None, codes, length, map, option_map, unwrap_or, slice_get, if◌then◌else◌}
use Rattle.std.specs.Fmt.{decimal}
use Rattle.std.specs.Option.{option_or}
use Rattle.rc_spef.specs.declared.value.Spef.{Spef}
use Rattle.rc_spef.specs.Sameness.{NamedNet, named_net, name_text}
use Rattle.rc_spef.specs.SameTests.{same_net}
use Rattle.rc_cli.specs.declared.verdict.Verdict.{Verdict as Kind}
use Rattle.rc_cli.specs.declared.verdict.Verdict.TheVariants.{Same, Differs}

-- the nets of a value, with texts in place of names
abbrev pub named_nets : Spef → List NamedNet
named_nets spef = map (named_net spef.names) spef.nets

-- the first place where two lists disagree: a test of the two items fails, or one list has ended and the other hasn't
abbrev pub first_apart : {A B : Type 0} → (A → B → Bool) → List A → List B → Option ℕ
first_apart same [] [] = None
first_apart same [] (y ∷ ys) = Some 0
first_apart same (x ∷ xs) [] = Some 0
first_apart same (x ∷ xs) (y ∷ ys) = if same x y then option_map (λ place. place + 1) (first_apart same xs ys) else Some 0

-- the first position whose nets differ; nothing where all are the same
unfoldable pub first_difference : Spef → Spef → Option ℕ
first_difference extraction file = first_apart (same_net extraction.names file.names) extraction.nets file.nets

-- the same in other words: up to a place two lists agree, and there they don't, or one of them alone has ended
abbrev pub IsFirstApart : {A : Type 0} → List A → List A → ℕ → Type 0
IsFirstApart xs ys place = ((k : ℕ) → k < place → slice_get xs k ≡ slice_get ys k) × (slice_get xs place ≢ slice_get ys place)

-- the escaped name of the net at a place
abbrev pub net_at : Spef → ℕ → Option (List ℕ)
net_at spef place = option_map (λ net. name_text spef.names net.name) (slice_get spef.nets place)

-- the name of the net at a place, in the extraction, or in the file where the extraction has no net there
abbrev pub name_at : Spef → Spef → ℕ → List ℕ
name_at extraction file place = unwrap_or (option_or (net_at extraction place) (net_at file place)) []

-- the name of the first net that differs; nothing where the nets are the same
abbrev pub verdict : Spef → Spef → Option (List ℕ)
verdict extraction file = option_map (name_at extraction file) (first_difference extraction file)

-- what a verdict says: without a name, that the lists of nets are equal; with one, that it is the name at the first place where
-- they aren't
abbrev pub IsVerdict : Spef → Spef → Option (List ℕ) → Type 0
IsVerdict extraction file None = named_nets extraction ≡ named_nets file
IsVerdict extraction file (Some name) =
    (place : ℕ) × IsFirstApart (named_nets extraction) (named_nets file) place × (name ≡ name_at extraction file place)

-- how a verdict on so many nets is told
abbrev pub told : ℕ → Option (List ℕ) → List ℕ
told count None = codes "same " ++ decimal count ++ codes "\n"
told count (Some name) = codes "differs " ++ name ++ codes "\n"

abbrev pub verdict_text : Spef → Spef → List ℕ
verdict_text extraction file = told (length extraction.nets) (verdict extraction file)

abbrev pub kind_of : Option (List ℕ) → Kind
kind_of None = Same
kind_of (Some name) = Differs
