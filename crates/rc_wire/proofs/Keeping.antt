-- What each item of a text keeps holds behind the whole text. A number counts the tokens so far.
use Rattle.std.proofs.Common.{◌≡◌, ◌∙◌, ◌+◌, ◌≤◌, ℕ, List, [], ◌∷◌, ◌++◌, length, ap, subst, arith}
use Rattle.std.proofs.Math.ListN.{length-append}
use Rattle.std.specs.List.{FoldsTo}
use Rattle.rc_keys.specs.Lexemes.{Lexeme}
use Rattle.rc_keys.specs.Course.{Turn, Refuse, More, Done, Close}
use Rattle.rc_keys.specs.Phrases.{joined, InTurn}
use Rattle.rc_keys.specs.Statements.{first_line}
use Rattle.rc_wire.specs.Items.{Format, IsItem, GoesOn, IsStatement, IsLast, IsText, AreItems}

-- what is left by a turn
abbrev pub Leaves : {V : Type 0} → (ℕ → V → Type 0) → ℕ → Turn V → Type 0
Leaves Keeps n (Refuse refusal) = Unit {0}
Leaves Keeps n (More v) = Keeps n v
Leaves Keeps n (Done v) = Keeps n v
Leaves Keeps n (Close v) = Keeps n v

module _ {V K : Type 0} (format : Format V K) (Keeps : ℕ → V → Type 0) (limit : ℕ) where
  -- what steps keep, one after the other
  folds : (Steps : V → List Lexeme → V → Type 0) → ((n : ℕ) (v w : V) (words : List Lexeme) → Keeps n v → n + length words ≤ limit → Steps v words w → Keeps (n + length words) w)
      → (parts : List (List Lexeme)) (n : ℕ) (v w : V) → Keeps n v → n + length (joined parts) ≤ limit → FoldsTo Steps v parts w → Keeps (n + length (joined parts)) w
  folds Steps step [] n v w keeps le same = let e : n ≡ n + 0 = omega arith in subst (λ u. Keeps (n + 0) u) same (subst (λ m. Keeps m v) e keeps)
  folds Steps step (part ∷ parts) n v w keeps le (mid, one, more) =
      let long : length (joined (part ∷ parts)) ≡ length part + length (joined parts) = length-append part (joined parts) in
      let first : n + length part ≤ limit = omega arith in
      let rest : n + length part + length (joined parts) ≤ limit = omega arith in
      let e : n + length part + length (joined parts) ≡ n + length (joined (part ∷ parts)) = omega arith in
      subst (λ m. Keeps m w) e (folds Steps step parts (n + length part) mid w (step n v mid part keeps first one) rest more)

  in_turn : (Steps : V → List Lexeme → V → Type 0) → ((n : ℕ) (v w : V) (words : List Lexeme) → Keeps n v → n + length words ≤ limit → Steps v words w → Keeps (n + length words) w)
      → (n : ℕ) (v w : V) (words : List Lexeme) → Keeps n v → n + length words ≤ limit → InTurn Steps v words w → Keeps (n + length words) w
  in_turn Steps step n v w words keeps le t =
      let e : length words ≡ length (joined t.parts) = ap length t.whole in
      let f : n + length (joined t.parts) ≤ limit = omega arith in
      let g : n + length (joined t.parts) ≡ n + length words = omega arith in
      subst (λ m. Keeps m w) g (folds Steps step t.parts n v w keeps f t.each)

  module _ (item : (line n : ℕ) (v : V) (words : List Lexeme) (turn : Turn V) → Keeps n v → n + length words ≤ limit → IsItem format line v words turn → Leaves Keeps (n + length words) turn) where
    goes : (line n : ℕ) (v w : V) (words : List Lexeme) → Keeps n v → n + length words ≤ limit → GoesOn format line v words w → Keeps (n + length words) w
    goes line n v w words keeps le is = item line n v words (More w) keeps le is

    statement : (n : ℕ) (v w : V) (words : List Lexeme) → Keeps n v → n + length words ≤ limit → IsStatement format v words w → Keeps (n + length words) w
    statement n v w words keeps le st =
        let long : length words ≡ length st.front + length st.last = ap length st.parts ∙ length-append st.front st.last in
        let first : n + length st.front ≤ limit = omega arith in
        let rest : n + length st.front + length st.last ≤ limit = omega arith in
        let e : n + length st.front + length st.last ≡ n + length words = omega arith in
        let mid = in_turn (GoesOn format (first_line words)) (λ m u x tokens. goes (first_line words) m u x tokens) n v st.mid st.front keeps first st.items in
        subst (λ m. Keeps m w) e (item (first_line words) (n + length st.front) st.mid st.last (Done w) mid rest st.ends)

    pub text_keeps : (v w : V) (words : List Lexeme) → Keeps 0 v → length words ≤ limit → IsText format v words w → (m : ℕ) × (m ≤ limit) × Keeps m w
    text_keeps v w words keeps le t =
        let l : IsLast format t.mid t.rest w = t.last in
        let one : length words ≡ length t.front + length t.rest = ap length t.parts ∙ length-append t.front t.rest in
        let two : length t.rest ≡ length l.front + length (l.last ++ l.rest) = ap length l.parts ∙ length-append l.front (l.last ++ l.rest) in
        let three : length (l.last ++ l.rest) ≡ length l.last + length l.rest = length-append l.last l.rest in
        let a : 0 + length t.front ≤ limit = omega arith in
        let b : 0 + length t.front + length l.front ≤ limit = omega arith in
        let c : 0 + length t.front + length l.front + length l.last ≤ limit = omega arith in
        let mid = in_turn (IsStatement format) statement 0 v t.mid t.front keeps a t.statements in
        let end = in_turn (GoesOn format (first_line t.rest)) (λ m u x tokens. goes (first_line t.rest) m u x tokens) (0 + length t.front) t.mid l.mid l.front mid b l.items in
        (0 + length t.front + length l.front + length l.last, c, item (first_line t.rest) (0 + length t.front + length l.front) l.mid l.last (Close w) end c l.closes)

    pub items_keep : (line : ℕ) (v w : V) (words : List Lexeme) (count : ℕ) → Keeps 0 v → length words ≤ limit → AreItems format line v words w count → (m : ℕ) × Keeps m w
    items_keep line v w words count keeps le a =
        let long : length words ≡ length a.front + length (a.last ∷ a.rest) = ap length a.parts ∙ length-append a.front (a.last ∷ a.rest) in
        let few : 0 + length a.front ≤ limit = omega arith in
        (0 + length a.front, in_turn (GoesOn format line) (λ m u x tokens. goes line m u x tokens) 0 v w a.front keeps few a.items)
