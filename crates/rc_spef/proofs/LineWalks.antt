-- The rows take each statement of a text, and statements in turn.
use Rattle.std.proofs.Common.{◌≡◌, ℕ, List, [], ◌∷◌, ◌++◌, refl, ap, sym, subst, inl, inr, Some, None}
use Rattle.std.specs.List.{FoldsTo}
use Rattle.rc_keys.specs.Lexemes.{Lexeme}
use Rattle.rc_keys.specs.Phrases.{InTurn, joined}
use Rattle.rc_keys.proofs.Phrasing.{Step}
use Rattle.rc_spef.specs.declared.value.SpefRes.{SpefRes}
use Rattle.rc_spef.specs.declared.value.Cap.{Cap}
use Rattle.rc_spef.specs.declared.state.Scale.{Scale}
use Rattle.rc_spef.specs.declared.state.State.{State}
use Rattle.rc_spef.specs.declared.state.Row.{Row}
use Rattle.rc_spef.specs.declared.state.Row.TheVariants as rows
use Rattle.rc_spef.specs.declared.key.Key.{Key}
use Rattle.rc_spef.specs.Keys.{key_of}
use Rattle.rc_spef.specs.Rows.{spef_turn}
use Rattle.rc_spef.specs.Parts.{Part, Says, Plain, Value, EndOf, Are}
use Rattle.rc_spef.specs.NetLines.{CapLine, ResLine, Section}
use Rattle.rc_spef.specs.NetLines.CapLine.{Grounded, Coupled}
use Rattle.rc_spef.proofs.Walks.{Known, Left, at, Walks, Leads, Is, nothing, one, then}
use Rattle.rc_spef.proofs.NetTokens.{with_caps, cap_number, cap_first, cap_ground, cap_second, cap_value, with_resistors, res_number, res_first, res_second, res_value}

-- ---- statements of so many tokens

pub two_parts : (p q : Part) (words : List Lexeme) → Are (p ∷ q ∷ []) words → (a : Lexeme) × (b : Lexeme) × (words ≡ a ∷ b ∷ []) × Says p a × Says q b
two_parts p q [] is = absurd is
two_parts p q (a ∷ []) is = absurd is.1
two_parts p q (a ∷ b ∷ []) is = (a, b, refl, is.0, is.1.0)
two_parts p q (a ∷ b ∷ c ∷ ws) is = absurd is.1.1

pub three_parts : (p q r : Part) (words : List Lexeme) → Are (p ∷ q ∷ r ∷ []) words → (a : Lexeme) × (b : Lexeme) × (c : Lexeme) × (words ≡ a ∷ b ∷ c ∷ []) × Says p a × Says q b × Says r c
three_parts p q r [] is = absurd is
three_parts p q r (a ∷ ws) is = let more = two_parts q r ws is.1 in (a, more.0, more.1, ap (λ (ws : List Lexeme). a ∷ ws) more.2, is.0, more.3, more.4)

pub four_parts : (p q r s : Part) (words : List Lexeme) → Are (p ∷ q ∷ r ∷ s ∷ []) words → (a : Lexeme) × (b : Lexeme) × (c : Lexeme) × (d : Lexeme) × (words ≡ a ∷ b ∷ c ∷ d ∷ []) × Says p a × Says q b × Says r c × Says s d
four_parts p q r s [] is = absurd is
four_parts p q r s (a ∷ ws) is = let more = three_parts q r s ws is.1 in (a, more.0, more.1, more.2, ap (λ (ws : List Lexeme). a ∷ ws) more.3, is.0, more.4, more.5, more.6)

pub one_part : (p : Part) (words : List Lexeme) → Are (p ∷ []) words → (a : Lexeme) × (words ≡ a ∷ []) × Says p a
one_part p [] is = absurd is
one_part p (a ∷ []) is = (a, refl, is.0)
one_part p (a ∷ b ∷ ws) is = absurd is.1

-- the rows take tokens that are these
pub taken : (s t : State) (words others : List Lexeme) → words ≡ others → Step spef_turn s others t → Walks s words t
taken s t words others is step = one s t words (subst (λ (ws : List Lexeme). Step spef_turn s ws t) (sym is) step)

-- ---- statements in turn

-- the rows take each line, from a row where one may stand
abbrev pub Each : {A : Type 0} → (A → List Lexeme → A → Type 0) → (Row → Type 0) → (A → Known) → Type 0
Each {A} Line May put = (row : Row) (z : Left) (before after : A) (words : List Lexeme) → May row → Line before words after → Leads (at row (put before) z) words May (put after)

folds_walk : {A : Type 0} (Line : A → List Lexeme → A → Type 0) (May : Row → Type 0) (put : A → Known) → Each Line May put → (parts : List (List Lexeme)) (row : Row) (z : Left) (before after : A) → May row → FoldsTo Line before parts after →
    Leads (at row (put before) z) (joined parts) May (put after)
folds_walk Line May put each [] row z before after may same = (row, z, may, subst (λ a. Walks (at row (put before) z) [] (at row (put a) z)) same (nothing (at row (put before) z)))
folds_walk Line May put each (part ∷ parts) row z before after may all =
    let first = each row z before all.0 part may all.1 in
    let more = folds_walk Line May put each parts first.0 first.1 all.0 after first.2 all.2 in
    (more.0, more.1, more.2, then (at row (put before) z) (at first.0 (put all.0) first.1) (at more.0 (put after) more.1) part (joined parts) first.3 more.3)

pub turns_walk : {A : Type 0} (Line : A → List Lexeme → A → Type 0) (May : Row → Type 0) (put : A → Known) → Each Line May put → (row : Row) (z : Left) (before after : A) (words : List Lexeme) → May row → InTurn Line before words after →
    Leads (at row (put before) z) words May (put after)
turns_walk Line May put each row z before after words may all =
    let walk = folds_walk Line May put each all.parts row z before after may all.each in
    (walk.0, walk.1, walk.2, subst (λ (ws : List Lexeme). Walks (at row (put before) z) ws (at walk.0 (put after) walk.1)) (sym all.whole) walk.3)

-- a section: its keyword, from a row where it may stand, and its lines
pub section_walk : {A : Type 0} (key : Key) (Line : A → List Lexeme → A → Type 0) (Before May After : Row → Type 0) (first_row : Row) (put : A → Known) → Each Line May put →
    ((row : Row) (z : Left) (word : Lexeme) (a : A) → Before row → key_of word ≡ key → Step spef_turn (at row (put a) z) (word ∷ []) (at first_row (put a) z)) → May first_row →
    ((row : Row) → Before row → After row) → ((row : Row) → May row → After row) →
    (row : Row) (z : Left) (before after : A) (words : List Lexeme) → Before row → Section key Line before words after → Leads (at row (put before) z) words After (put after)
section_walk key Line Before May After first_row put each begins may skips behind row z before after words stands (inl none) =
    (row, z, skips row stands, rw none.0 (subst (λ a. Walks (at row (put before) z) [] (at row (put a) z)) (sym none.1) (nothing (at row (put before) z))))
section_walk key Line Before May After first_row put each begins may skips behind row z before after words stands (inr some) =
    let head : Walks (at row (put before) z) (some.0 ∷ []) (at first_row (put before) z) = one (at row (put before) z) (at first_row (put before) z) (some.0 ∷ []) (begins row z some.0 before stands some.3) in
    let lines = turns_walk Line May put each first_row z before after some.1 may some.4 in (
      lines.0,
      lines.1,
      behind lines.0 lines.2,
      subst (λ (ws : List Lexeme). Walks (at row (put before) z) ws (at lines.0 (put after) lines.1)) (sym some.2) (then (at row (put before) z) (at first_row (put before) z) (at lines.0 (put after) lines.1) (some.0 ∷ []) some.1 head lines.3),
    )

-- ---- capacitances and resistors

abbrev pub scaled_cap : Known → Scale → Type 0
scaled_cap k scale = k.header.cap_scale ≡ Some scale

abbrev pub scaled_res : Known → Scale → Type 0
scaled_res k scale = k.header.res_scale ≡ Some scale

pub cap_line : (k : Known) (z : Left) (scale : Scale) → scaled_cap k scale → (before after : List Cap) (words : List Lexeme) → CapLine scale k.map before words after → Walks (at rows.Caps (with_caps k before) z) words (at rows.Caps (with_caps k after) z)
cap_line k z scale scaled before after words (Grounded a value is same) =
    let t = three_parts Plain (EndOf k.map a) (Value scale value) words is in
    let line : ℕ = t.0.line in
    let now : Known = with_caps k before in
    rw same (taken (at rows.Caps now z) (at rows.Caps (with_caps k (before ++ record { a = a; b = None; value = value } ∷ [])) z) words (t.0 ∷ t.1 ∷ t.2 ∷ []) t.3 (
      at rows.CapFirst now z,
      cap_number now z line t.0 t.4,
      (record (at rows.CapSecond now z) { first = a }, cap_first now z line t.1 a t.5, cap_ground now z line t.2 a scale value scaled t.6),
    ))
cap_line k z scale scaled before after words (Coupled a b value is same) =
    let t = four_parts Plain (EndOf k.map a) (EndOf k.map b) (Value scale value) words is in
    let line : ℕ = t.0.line in
    let now : Known = with_caps k before in
    rw same (taken (at rows.Caps now z) (at rows.Caps (with_caps k (before ++ record { a = a; b = Some b; value = value } ∷ [])) z) words (t.0 ∷ t.1 ∷ t.2 ∷ t.3 ∷ []) t.4 (
      at rows.CapFirst now z,
      cap_number now z line t.0 t.5,
      (
        record (at rows.CapSecond now z) { first = a },
        cap_first now z line t.1 a t.6,
        (record (at rows.CapValue now z) { first = a; second = Some b }, cap_second now z line t.2 a b t.7, cap_value now z line t.3 a b scale value scaled t.8),
      ),
    ))

pub res_line : (k : Known) (z : Left) (scale : Scale) → scaled_res k scale → (before after : List SpefRes) (words : List Lexeme) → ResLine scale k.map before words after → Walks (at rows.Resistors (with_resistors k before) z) words (at rows.Resistors (with_resistors k after) z)
res_line k z scale scaled before after words is =
    let t = four_parts Plain (EndOf k.map is.a) (EndOf k.map is.b) (Value scale is.value) words is.are in
    let line : ℕ = t.0.line in
    let now : Known = with_resistors k before in
    rw is.then (taken (at rows.Resistors now z) (at rows.Resistors (with_resistors k (before ++ record { a = is.a; b = is.b; value = is.value } ∷ [])) z) words (t.0 ∷ t.1 ∷ t.2 ∷ t.3 ∷ []) t.4 (
      at rows.ResFirst now z,
      res_number now z line t.0 t.5,
      (
        record (at rows.ResSecond now z) { first = is.a },
        res_first now z line t.1 is.a t.6,
        (record (at rows.ResValue now z) { first = is.a; second = Some is.b }, res_second now z line t.2 is.a is.b t.7, res_value now z line t.3 is.a is.b scale is.value scaled t.8),
      ),
    ))

pub caps_each : (k : Known) (scale : Scale) → scaled_cap k scale → Each (CapLine scale k.map) (Is rows.Caps) (with_caps k)
caps_each k scale scaled row z before after words is line =
    (rows.Caps, z, refl, subst (λ (row : Row). Walks (at row (with_caps k before) z) words (at rows.Caps (with_caps k after) z)) (sym is) (cap_line k z scale scaled before after words line))

pub resistors_each : (k : Known) (scale : Scale) → scaled_res k scale → Each (ResLine scale k.map) (Is rows.Resistors) (with_resistors k)
resistors_each k scale scaled row z before after words is line =
    (rows.Resistors, z, refl, subst (λ (row : Row). Walks (at row (with_resistors k before) z) words (at rows.Resistors (with_resistors k after) z)) (sym is) (res_line k z scale scaled before after words line))
