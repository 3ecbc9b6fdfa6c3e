-- What each item of a script keeps holds behind the whole script. A number counts the tokens so far.
use Rattle.std.proofs.Common.{◌≡◌, ◌∙◌, ◌+◌, ◌≤◌, ◌^◌, ℕ, inl, inr, List, [], ◌∷◌, ◌++◌, length, ap, subst, arith}
use Rattle.std.proofs.Math.ListN.{length-append}
use Rattle.std.specs.Prelude.{All, Option}
use Rattle.std.specs.List.{FoldsTo}
use Rattle.rc_keys.specs.declared.code.Code.{Code}
use Rattle.rc_keys.specs.declared.token.Mode.TheVariants as mode
use Rattle.rc_keys.specs.Lexemes.{Lexeme, words_of}
use Rattle.rc_keys.specs.Course.{Done, Close, More}
use Rattle.rc_keys.specs.Phrases.{joined, InTurn}
use Rattle.rc_keys.specs.Statements.{first_line}
use Rattle.rc_wire.specs.Items.{GoesOn, IsStatement, IsLast}
use Rattle.rc_script.specs.declared.command.Command.{Command}
use Rattle.rc_script.specs.declared.draft.Draft.{Draft}
use Rattle.rc_script.specs.Forms.{IsCommand}
use Rattle.rc_script.specs.Means.{nothing_read}
use Rattle.rc_script.specs.Rows.{script_format}
use Rattle.rc_script.specs.Whole.{IsEnd, IsScript}
use Rattle.rc_script.proofs.Holding.{IsDraft, nothing_holds, keeps}
use Rattle.rc_script.proofs.Sized.{few_words}

-- steps, each of which keeps what holds of what is read
abbrev Kept : ℕ → (Draft → List Lexeme → Draft → Type 0) → Type 0
Kept limit Steps = (n : ℕ) (v w : Draft) (words : List Lexeme) → IsDraft n v → n + length words ≤ limit → Steps v words w → IsDraft (n + length words) w

folds : (limit : ℕ) (Steps : Draft → List Lexeme → Draft → Type 0) → Kept limit Steps → (parts : List (List Lexeme)) (n : ℕ) (v w : Draft) → IsDraft n v → n + length (joined parts) ≤ limit → FoldsTo Steps v parts w → IsDraft (n + length (joined parts)) w
folds limit Steps step [] n v w h le same = let e : n ≡ n + 0 = omega arith in subst (λ u. IsDraft (n + 0) u) same (subst (λ m. IsDraft m v) e h)
folds limit Steps step (part ∷ parts) n v w h le (mid, one, more) =
    let long : length (joined (part ∷ parts)) ≡ length part + length (joined parts) = length-append part (joined parts) in
    let first : n + length part ≤ limit = omega arith in
    let rest : n + length part + length (joined parts) ≤ limit = omega arith in
    let e : n + length part + length (joined parts) ≡ n + length (joined (part ∷ parts)) = omega arith in
    subst (λ m. IsDraft m w) e (folds limit Steps step parts (n + length part) mid w (step n v mid part h first one) rest more)

in_turn : (limit : ℕ) (Steps : Draft → List Lexeme → Draft → Type 0) → Kept limit Steps → Kept limit (InTurn Steps)
in_turn limit Steps step n v w words h le t =
    let e : length words ≡ length (joined t.parts) = ap length t.whole in
    let f : n + length (joined t.parts) ≤ limit = omega arith in
    let g : n + length (joined t.parts) ≡ n + length words = omega arith in
    subst (λ m. IsDraft m w) g (folds limit Steps step t.parts n v w h f t.each)

goes : (limit line : ℕ) → Kept limit (GoesOn script_format line)
goes limit line n v w words h le is = keeps limit line n v words (More w) h le is

statement : (limit : ℕ) → Kept limit (IsStatement script_format)
statement limit n v w words h le st =
    let long : length words ≡ length st.front + length st.last = ap length st.parts ∙ length-append st.front st.last in
    let first : n + length st.front ≤ limit = omega arith in
    let rest : n + length st.front + length st.last ≤ limit = omega arith in
    let e : n + length st.front + length st.last ≡ n + length words = omega arith in
    let mid = in_turn limit (GoesOn script_format (first_line words)) (goes limit (first_line words)) n v st.mid st.front h first st.items in
    subst (λ m. IsDraft m w) e (keeps limit (first_line words) (n + length st.front) st.mid st.last (Done w) mid rest st.ends)

-- so many tokens at most, and what holds behind them
abbrev Held : ℕ → Draft → Type 0
Held limit v = (n : ℕ) × (n ≤ limit) × IsDraft n v

last : (limit n : ℕ) (v w : Draft) (words : List Lexeme) → IsDraft n v → n + length words ≤ limit → IsLast script_format v words w → Held limit w
last limit n v w words h le l =
    let two : length words ≡ length l.front + length (l.last ++ l.rest) = ap length l.parts ∙ length-append l.front (l.last ++ l.rest) in
    let three : length (l.last ++ l.rest) ≡ length l.last + length l.rest = length-append l.last l.rest in
    let a : n + length l.front ≤ limit = omega arith in
    let b : n + length l.front + length l.last ≤ limit = omega arith in
    let mid = in_turn limit (GoesOn script_format (first_line words)) (goes limit (first_line words)) n v l.mid l.front h a l.items in
    (n + length l.front + length l.last, b, keeps limit (first_line words) (n + length l.front) l.mid l.last (Close w) mid b l.closes)

end : (limit n : ℕ) (v w : Draft) (words : List Lexeme) (fault : Option (Code × ℕ)) → IsDraft n v → n + length words ≤ limit → IsEnd v words fault w → Held limit w
end limit n v w words fault h le (inl (none, sound, same)) = (n, omega arith, rw same h)
end limit n v w words fault h le (inr l) = last limit n v w words h le l

pub forms_of : (text : List ℕ) (list : List Command) → length text ≤ 2 ^ 30 → IsScript (words_of mode.Lef text) list → All IsCommand list × (length list ≤ 2 ^ 30)
forms_of text list le script =
    let few = few_words mode.Lef text in
    let one : length (words_of mode.Lef text).words ≡ length script.front + length script.rest = ap length script.parts ∙ length-append script.front script.rest in
    let a : 0 + length script.front ≤ 2 ^ 30 = omega arith in
    let b : 0 + length script.front + length script.rest ≤ 2 ^ 30 = omega arith in
    let mid = in_turn (2 ^ 30) (IsStatement script_format) (statement (2 ^ 30)) 0 nothing_read script.mid script.front nothing_holds a script.statements in
    let e = end (2 ^ 30) (0 + length script.front) script.mid script.read script.rest (words_of mode.Lef text).fault mid b script.end in
    let h : IsDraft e.0 script.read = e.2 in
    let count : length script.read.commands ≤ 2 ^ 30 = (let f = h.few in let g = e.1 in omega arith) in
    rw script.says (h.commands_are, count)
