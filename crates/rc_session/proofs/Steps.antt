-- A session in progress: what one more command adds, and what a sink holds by then.
use Rattle.std.proofs.Common.{◌≡◌, ◌<◌, ◌≤◌, ◌+◌, ◌*◌, ◌^◌, ℕ, suc, List, [], ◌∷◌, ◌++◌, length, take, drop, get_or, ap, ◌∙◌, refl, sym, subst, arith}
use Rattle.std.specs.Prelude.{not, filter, fold, Bool, Option, Some, None, Result, Ok, Err}
use Rattle.std.specs.List.{flat_map, range_with_len, list_any}
use Rattle.std.proofs.lemmas.List.{append-nil, append_assoc, length-append, take-append-le}
use Rattle.std.proofs.lemmas.List.FromFn.{length-range_with_len}
use Rattle.std.proofs.lemmas.List.Filters.{length-filter_both}
use Rattle.std.proofs.lemmas.List.Sums.{fold-append}
use Rattle.std.proofs.lemmas.Grind.{flat_map-append}
use Rattle.std.proofs.lemmas.Nat.{mul-le}
use Rattle.std.proofs.Math.Seq.{take-suc, take-append-add}
use Rattle.rc_io.specs.Bytes.{grown, GrewByPrefix}
use Rattle.rc_io.specs.Causes.{Rose}
use Rattle.rc_io.proofs.Growth.{grown-grown, grown-nil}
use Rattle.rc_wire.specs.declared.path.RawPath.{RawPath}
use Rattle.rc_layout.specs.Layouts.{Wired}
use Rattle.rc_layout.specs.Refusals.{Linked}
use Rattle.rc_windows.specs.declared.frame.Frame.{Frame}
use Rattle.rc_windows.specs.Frames.{IsFrame, meets, touched, window_count}
use Rattle.rc_engine.specs.Edits.{edited, edit_windows, touched_to}
use Rattle.rc_script.specs.declared.command.Command.{Command}
use Rattle.rc_session.specs.Sessions.{Setting, State, Answer, Progress, beginning, with_answer, step, answer, session, written}
use Rattle.rc_session.proofs.Running.{replies_from, one_more, split}

-- ---- how many windows an edit touches

few_of : (p : ℕ → Bool) (n : ℕ) → length (filter p (range_with_len 0 n)) ≤ n
few_of p n =
    let both = length-filter_both p (λ k. not (p k)) (λ k. refl) (range_with_len 0 n) in
    omega (arith, both, length-range_with_len 0 n)

few_in : (frame : Frame) (p : ℕ → Bool) → IsFrame frame → length (filter p (range_with_len 0 (window_count frame))) ≤ 2 ^ 20
few_in frame p is =
    let some = few_of p (window_count frame) in
    let all = mul-le frame.up.count frame.across.count 1024 1024 is.up.few is.across.few in
    omega (arith, some, all)

few_to : (frame : Frame) (wired : Wired) (number : ℕ) (linked : Linked Wired) → IsFrame frame → length (touched_to frame wired number linked) ≤ 2 ^ 20
few_to frame wired number (Ok after) is = few_in frame _ is
few_to frame wired number (Err refusal) is = omega arith

pub few_windows : (frame : Frame) (wired : Wired) (number : ℕ) (paths : List RawPath) → IsFrame frame → length (edit_windows frame wired number paths) ≤ 2 ^ 20
unfolding edit_windows
few_windows frame wired number paths is = few_to frame wired number (edited wired number paths) is

-- ---- one more command

pub none_yet : (setting : Setting) (state : State) → session setting state [] ≡ beginning state
unfolding session
none_yet setting state = refl

pub reached : (setting here : Setting) (state there : State) (commands : List Command) (i : ℕ) (c : Command) → here ≡ setting → there ≡ (session setting state (take i commands)).state
    → session setting state (take i commands ++ c ∷ []) ≡ with_answer (session setting state (take i commands)) (answer here there c)
reached setting here state there commands i c same at =
    one_more setting state (take i commands) c
    ∙ ap (λ (s : Setting). with_answer (session setting state (take i commands)) (answer s (session setting state (take i commands)).state c)) (sym same)
    ∙ ap (λ (t : State). with_answer (session setting state (take i commands)) (answer here t c)) (sym at)

pub next : (setting here : Setting) (state there : State) (commands : List Command) (i : ℕ) (c : Command) → here ≡ setting → there ≡ (session setting state (take i commands)).state
    → i < length commands → c ≡ get_or commands i c
    → session setting state (take (i + 1) commands) ≡ with_answer (session setting state (take i commands)) (answer here there c)
next setting here state there commands i c same at within is =
    let one : i + 1 ≡ suc i = omega arith in
    ap (λ k. session setting state (take k commands)) one
    ∙ ap (session setting state) (take-suc commands i c within ∙ ap (λ x. take i commands ++ x ∷ []) (sym is))
    ∙ reached setting here state there commands i c same at

-- ---- what is written

pub written_more : (p : Progress) (a : Answer) → written (with_answer p a) ≡ written p ++ a.reply
written_more p a = flat_map-append (λ reply. reply) p.replies (a.reply ∷ []) ∙ ap (λ bytes. written p ++ bytes) (append-nil a.reply)

-- the whole of a session begins with what it writes up to any place
pub begins_with : (setting : Setting) (state : State) (commands : List Command) (i : ℕ) (c : Command) → i < length commands → c ≡ get_or commands i c →
    (rest : List ℕ) × (written (session setting state commands) ≡ written (session setting state (take i commands ++ c ∷ [])) ++ rest)
unfolding session
begins_with setting state commands i c within is =
    let front = take i commands ++ c ∷ [] in
    let more = replies_from setting (session setting state front) (drop (suc i) commands) in
    let later = (session setting (session setting state front).state (drop (suc i) commands)).replies in (
      flat_map (λ reply. reply) later,
      ap (λ cs. written (session setting state cs)) (split commands i c within is)
          ∙ ap (λ (p : Progress). written p) (fold-append (step setting) (beginning state) front (drop (suc i) commands))
          ∙ ap (flat_map (λ reply. reply)) more.0
          ∙ flat_map-append (λ reply. reply) (session setting state front).replies later,
    )

-- and the passes of the whole are no fewer
pub sweeps_more : (setting : Setting) (state : State) (commands : List Command) (i : ℕ) (c : Command) → i < length commands → c ≡ get_or commands i c →
    (session setting state (take i commands ++ c ∷ [])).swept ≤ (session setting state commands).swept
unfolding session
sweeps_more setting state commands i c within is =
    let front = take i commands ++ c ∷ [] in
    let more = replies_from setting (session setting state front) (drop (suc i) commands) in
    let whole : (session setting state commands).swept ≡ (fold (step setting) (session setting state front) (drop (suc i) commands)).swept =
    ap (λ cs. (session setting state cs).swept) (split commands i c within is)
    ∙ ap (λ (p : Progress). p.swept) (fold-append (step setting) (beginning state) front (drop (suc i) commands)) in
    omega (arith, whole, more.2)

-- a sink that took a front of a reply behind whole replies holds a front of the session's text
pub front_of : (before between after : Option (List ℕ)) (sofar reply rest all : List ℕ) → between ≡ grown before sofar → all ≡ (sofar ++ reply) ++ rest
    → GrewByPrefix between after reply → GrewByPrefix before after all
front_of before between after sofar reply rest all behind is (count, few, holds) =
    let part : take (length sofar + count) all ≡ sofar ++ take count reply =
    ap (take (length sofar + count)) (is ∙ append_assoc sofar reply rest) ∙ take-append-add sofar (reply ++ rest) count
    ∙ ap (λ bytes. sofar ++ bytes) (take-append-le count reply rest few) in
    let long : length all ≡ (length sofar + length reply) + length rest = ap length is ∙ length-append (sofar ++ reply) rest ∙ ap (λ n. n + length rest) (length-append sofar reply) in (
      length sofar + count,
      omega (arith, few, long),
      holds ∙ ap (λ held. grown held (take count reply)) behind ∙ grown-grown before sofar (take count reply) ∙ ap (grown before) (sym part),
    )

pub written_then : (out between after : Option (List ℕ)) (p q : Progress) (a : Answer) (bytes : List ℕ) → between ≡ grown out (written p) → after ≡ grown between bytes → bytes ≡ a.reply → q ≡ with_answer p a
    → after ≡ grown out (written q)
written_then out between after p q a bytes sofar more is step =
    more ∙ ap (grown between) is ∙ ap (λ held. grown held a.reply) sofar ∙ grown-grown out (written p) a.reply
    ∙ ap (grown out) (sym (written_more p a) ∙ ap (λ (x : Progress). written x) (sym step))

-- what a cut in the midst of a command has drawn, and written
pub spends : (setting here : Setting) (state there : State) (commands : List Command) (i : ℕ) (c : Command) (first at now : ℕ) → here ≡ setting → there ≡ (session setting state (take i commands)).state
    → i < length commands → c ≡ get_or commands i c → at ≡ first + 2 * (session setting state (take i commands)).swept → now ≤ at + 2 * (answer here there c).swept
    → now ≤ first + 2 * (session setting state commands).swept
spends setting here state there commands i c first at now same reached_at within is drew most =
    let step = ap (λ (p : Progress). p.swept) (reached setting here state there commands i c same reached_at) in
    omega (arith, drew, most, step, sweeps_more setting state commands i c within is)

pub front_at : (setting here : Setting) (state there : State) (commands : List Command) (i : ℕ) (c : Command) (out between after : Option (List ℕ)) (bytes : List ℕ) → here ≡ setting
    → there ≡ (session setting state (take i commands)).state → i < length commands → c ≡ get_or commands i c → between ≡ grown out (written (session setting state (take i commands)))
    → bytes ≡ (answer here there c).reply → GrewByPrefix between after bytes → GrewByPrefix out after (written (session setting state commands))
front_at setting here state there commands i c out between after bytes same reached_at within is sofar said front =
    let more = begins_with setting state commands i c within is in
    let whole : written (session setting state commands) ≡ (written (session setting state (take i commands)) ++ bytes) ++ more.0 =
    more.1 ∙ ap (λ (p : Progress). written p ++ more.0) (reached setting here state there commands i c same reached_at)
    ∙ ap (λ text. text ++ more.0) (written_more (session setting state (take i commands)) (answer here there c) ∙ ap (λ b. written (session setting state (take i commands)) ++ b) (sym said)) in
    front_of out between after (written (session setting state (take i commands))) bytes more.0 (written (session setting state commands)) sofar whole front

pub rose_since : (before between now : ℕ) → before ≤ between → Rose between now → Rose before now
rose_since before between now later rose = omega (arith, later, rose)
