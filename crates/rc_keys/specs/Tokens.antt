-- The tokens of a text, byte by byte: what the lexer goes by. `Pieces` says what they are, and `TokenLaws` that these are they.
use Rattle.std.specs.Prelude.{◌≤◌, ◌+◌, ◌-◌, ◌==◌, ◌++◌, ℕ, Bool, not, List, [], ◌∷◌, Option, Some, None, nat_le, if◌then◌else◌}
use Rattle.std.specs.List.{fold}
use Rattle.rc_keys.specs.declared.code.Code.{Code}
use Rattle.rc_keys.specs.declared.code.Code.TheVariants.{E01, E02}
use Rattle.rc_keys.specs.declared.token.Mode.{Mode}
use Rattle.rc_keys.specs.declared.token.Mode.TheVariants as mode
use Rattle.rc_keys.specs.declared.token.Kind.{Kind}
use Rattle.rc_keys.specs.declared.token.Kind.TheVariants as kind
use Rattle.rc_keys.specs.declared.token.Inside.{Inside}
use Rattle.rc_keys.specs.declared.token.Inside.TheVariants as inside
use Rattle.rc_keys.specs.declared.token.Place.{Place}
use Rattle.rc_keys.specs.declared.token.Token.{Token}
pub use Rattle.rc_keys.specs.Pieces.{is_blank, is_graphic}

-- the token that is begun has as many bytes as one may have
abbrev pub is_full : Place → Bool
is_full p = nat_le 4096 (p.at - p.start)

-- one byte on, with what that byte belongs to
abbrev pub moved : Place → ℕ → Inside → Place
moved p b to = record p { at = p.at + 1; line = if b == 10 then p.line + 1 else p.line; inside = to }

-- a place where a token begins
abbrev pub begun : Place → Place
begun p = record p { start = p.at; start_line = p.line }

-- a byte that no comment mark precedes: `#` or `/` begins a comment, or may
abbrev pub first_inside : Mode → ℕ → Inside
first_inside mode.Lef b = if b == 35 then inside.Comment else inside.Word
first_inside mode.Spef b = if b == 47 then inside.Slash else inside.Word

-- behind a byte where a token may begin
abbrev pub begins : Mode → Place → ℕ → Place
begins m p b =
    if is_blank b then moved p b inside.Between
    else if b == 34 then record (moved (begun p) b inside.Quoted) { start = p.at + 1 }
    else if not (is_graphic b) then moved (begun p) b (inside.Stopped E01)
    else moved (begun p) b (first_inside m b)

-- behind a byte that ends a word or belongs to it
abbrev pub continues : Place → ℕ → Place
continues p b =
    if is_blank b then moved p b inside.Between
    else if not (is_graphic b) then moved p b (inside.Stopped E01)
    else if is_full p then moved p b (inside.Stopped E02)
    else moved p b inside.Word

abbrev pub next_in : Mode → Inside → Place → ℕ → Place
next_in m inside.Between p b = begins m p b
next_in m inside.Comment p b = moved p b (if b == 10 then inside.Between else inside.Comment)
next_in m inside.Slash p b = if b == 47 then moved p b inside.Comment else continues p b
next_in m inside.Word p b = continues p b
next_in m inside.Quoted p b =
    if b == 34 then moved p b inside.Between
    else if is_full p then moved p b (inside.Stopped E02)
    else if b == 92 then moved p b inside.Escaped
    else moved p b inside.Quoted
next_in m inside.Escaped p b = if is_full p then moved p b (inside.Stopped E02) else moved p b inside.Quoted
next_in m (inside.Stopped code) p b = p

-- behind a byte
unfoldable pub next : Mode → Place → ℕ → Place
next m p b = next_in m p.inside p b

abbrev pub token_at : Kind → Place → Token
token_at k p = record { kind = k; start = p.start; end = p.at; line = p.start_line }

abbrev pub closed_in : Inside → Place → ℕ → Option Token
closed_in inside.Slash p b = if is_blank b then Some (token_at kind.Word p) else None
closed_in inside.Word p b = if is_blank b then Some (token_at kind.Word p) else None
closed_in inside.Quoted p b = if b == 34 then Some (token_at kind.Quoted p) else None
closed_in _ p b = None

-- the token that a byte closes
unfoldable pub closed_by : Place → ℕ → Option Token
closed_by p b = closed_in p.inside p b

abbrev pub closed_at_end_in : Inside → Place → Option Token
closed_at_end_in inside.Slash p = Some (token_at kind.Word p)
closed_at_end_in inside.Word p = Some (token_at kind.Word p)
closed_at_end_in _ p = None

-- the word that the end of the text closes
unfoldable pub closed_at_end : Place → Option Token
closed_at_end p = closed_at_end_in p.inside p

-- a place's numbers stand to one another as they must
abbrev pub IsSound : Place → Type 0
IsSound p = (p.line ≤ p.at + 1) × (p.start ≤ p.at)

abbrev pub begin : Place
begin = record { at = 0; line = 1; start = 0; start_line = 1; inside = inside.Between }

-- behind bytes
unfoldable pub after : Mode → Place → List ℕ → Place
after m p bytes = fold (next m) p bytes

abbrev pub listed : Option Token → List Token
listed None = []
listed (Some t) = t ∷ []

-- the tokens that are closed within bytes
unfoldable pub closed_from : Mode → Place → List ℕ → List Token
closed_from m p [] = []
closed_from m p (b ∷ bs) = listed (closed_by p b) ++ closed_from m (next m p b) bs

-- the tokens of bytes that end the text: those that are closed within them, and the word that their end closes
unfoldable pub tokens_from : Mode → Place → List ℕ → List Token
tokens_from m p bytes = closed_from m p bytes ++ listed (closed_at_end (after m p bytes))

abbrev pub fault_in : Inside → ℕ → Option (Code × ℕ)
fault_in (inside.Stopped code) line = Some (code, line)
fault_in _ line = None

abbrev pub end_fault_in : Inside → ℕ → Option (Code × ℕ)
end_fault_in inside.Quoted line = Some (E02, line)
end_fault_in inside.Escaped line = Some (E02, line)
end_fault_in i line = fault_in i line

-- the first fault of a text that may go on
abbrev pub fault_so_far : Mode → List ℕ → Option (Code × ℕ)
fault_so_far m text = fault_in (after m begin text).inside (after m begin text).start_line

-- the tokens of a text that are closed in it: a blank stands behind each, or its closing quote
abbrev pub closed_tokens : Mode → List ℕ → List Token
closed_tokens m text = closed_from m begin text

-- the tokens of a whole text, up to its end or to its first fault
abbrev pub tokens_of : Mode → List ℕ → List Token
tokens_of m text = tokens_from m begin text

-- the first fault of a whole text: its code, and the line of its token
abbrev pub fault_of : Mode → List ℕ → Option (Code × ℕ)
fault_of m text = end_fault_in (after m begin text).inside (after m begin text).start_line
