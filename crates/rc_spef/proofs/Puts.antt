-- Putting bytes one after another.
use Rattle.std.proofs.Common.{◌≡◌, ℕ, ◌<◌, ◌≤◌, Bool, true, false, List, [], ◌++◌, length, take, drop, refl, sym, ap, ◌∙◌, subst, arith, append-nil, append_assoc, Option, Some, None, inl, inr, take-append-drop}
use Rattle.std.specs.Prelude.{◌⊎◌, Result, Ok, Err, OnOk, OnErr}
use Rattle.std.proofs.lemmas.List.{length-append, length-drop, take_at, append_cancel_left}
use Rattle.rc_io.specs.Bytes.{grown, GrewByLess}
use Rattle.rc_io.specs.Causes.{Rose, HasCause}
use Rattle.rc_io.proofs.Growth.{grown-grown, grown-nil}
use Rattle.rc_spef.specs.Buffering.{Held, AtSink, at_sink, Puts}

either : (b : Bool) → (b ≡ true) ⊎ (b ≡ false)
either true = inl refl
either false = inr refl

-- what is put behind what was put
after_both : (s t u : Option (List ℕ)) (held middle left a b : List ℕ) → grown t middle ≡ grown s (held ++ a) → grown u left ≡ grown t (middle ++ b) → grown u left ≡ grown s (held ++ (a ++ b))
after_both s t u held middle left a b first second =
    second ∙ sym (grown-grown t middle b) ∙ ap (λ w. grown w b) first ∙ grown-grown s (held ++ a) b ∙ ap (λ (text : List ℕ). grown s text) (append_assoc held a b)

pub puts_then : {s t u : AtSink} {a b : List ℕ} → Puts s t a → Puts t u b → Puts s u (a ++ b)
puts_then {s} {t} {u} {a} {b} first second = record {
  kept = (first.kept.0 ++ second.kept.0, second.kept.1 ∙ ap (λ w. grown w second.kept.0) first.kept.1 ∙ grown-grown s.written first.kept.0 second.kept.0);
  going = λ on.
      let q = second.going on in
      let p = first.going q.0 in
      (p.0, after_both s.written t.written u.written s.held t.held u.held a b p.1 q.1);
  cut = λ on off. elim (either t.failed) [
    | inl stopped ↦
        let p = first.cut on stopped in
        (p.0 ++ b, omega (arith, length-append p.0 b, p.1), rw (second.stuck stopped).1 (after_both s.written t.written t.written s.held p.0 (p.0 ++ b) a b p.2 refl))
    | inr goes ↦
        let q = second.cut goes off in
        (q.0, q.1, after_both s.written t.written u.written s.held t.held q.0 a b (first.going goes).1 q.2)
  ];
  stuck = λ stopped.
      let p = first.stuck stopped in
      let q = second.stuck p.0 in
      (q.0, q.1 ∙ p.1);
  later = omega (arith, first.later, second.later);
  rose = λ on off. elim (either t.failed) [
    | inl stopped ↦ omega (arith, first.rose on stopped, second.later)
    | inr goes ↦ omega (arith, second.rose goes off, first.later)
  ];
}

-- the sink failed before all was written
pub failed_puts : (old new : AtSink) (bytes : List ℕ) → old.failed ≡ false → new.failed ≡ true → GrewByLess old.written new.written (old.held ++ bytes) → old.faults ≤ new.faults → Rose old.faults new.faults → Puts old new bytes
failed_puts old new bytes on off less later rose =
    let text : List ℕ = old.held ++ bytes in
    record {
      kept = (take less.0 text, less.2);
      going = λ still. absurd (let no : true ≡ false = sym off ∙ still in cc);
      cut = λ _ _. (drop less.0 text, omega (arith, length-drop less.0 text, less.1), ap (λ w. grown w (drop less.0 text)) less.2 ∙ grown-grown old.written (take less.0 text) (drop less.0 text) ∙ ap (λ (t : List ℕ). grown old.written t) (take-append-drop less.0 text));
      stuck = λ stopped. absurd (let no : true ≡ false = sym stopped ∙ on in cc);
      later = later;
      rose = λ _ _. rose;
    }

-- nothing was written, but held
pub held_puts : (written : Option (List ℕ)) (faults : ℕ) (old new : Held) (bytes : List ℕ) → new.bytes ≡ old.bytes ++ bytes → new.failed ≡ old.failed → Puts (at_sink written faults old) (at_sink written faults new) bytes
held_puts written faults old new bytes is same = record {
  kept = ([], sym (grown-nil written));
  going = λ on. (sym same ∙ on, ap (λ (held : List ℕ). grown written held) is);
  cut = λ on off. absurd (let no : true ≡ false = sym off ∙ same ∙ on in cc);
  stuck = λ stopped. (same ∙ stopped, refl);
  later = omega arith;
  rose = λ on off. absurd (let no : true ≡ false = sym off ∙ same ∙ on in cc);
}

-- the same bytes in other words
pub puts_is : {s t : AtSink} {a b : List ℕ} → Puts s t a → a ≡ b → Puts s t b
puts_is {s} {t} puts same = subst (λ (bytes : List ℕ). Puts s t bytes) same puts

-- puts at a buffer that keeps its own
pub puts_none : (s : AtSink) → Puts s s []
puts_none s = record {
  kept = ([], sym (grown-nil s.written));
  going = λ on. (on, ap (λ (held : List ℕ). grown s.written held) (sym (append-nil s.held)));
  cut = λ on off. absurd (let no : true ≡ false = sym off ∙ on in cc);
  stuck = λ stopped. (stopped, refl);
  later = omega arith;
  rose = λ on off. absurd (let no : true ≡ false = sym off ∙ on in cc);
}

-- a buffer that holds nothing
abbrev pub empty_buffer : Held
empty_buffer = record { bytes = []; failed = false }

less_of : (before now : Option (List ℕ)) (added rest bytes : List ℕ) → 0 < length bytes → now ≡ grown before added → 0 < length rest → grown now rest ≡ grown before bytes → GrewByLess before now bytes
less_of None now added rest bytes long kept some cut = (0, long, kept)
less_of (Some held) now added rest bytes long kept some cut =
    let both : Some (held ++ (added ++ rest)) ≡ Some (held ++ bytes) = sym (grown-grown (Some held) added rest) ∙ ap (λ w. grown w rest) (sym kept) ∙ cut in
    let whole : held ++ (added ++ rest) ≡ held ++ bytes = cc in
    let parts : added ++ rest ≡ bytes = append_cancel_left held (added ++ rest) bytes whole in
    (length added, omega (arith, ap length parts, length-append added rest), kept ∙ ap (λ (text : List ℕ). Some (held ++ text)) (sym (take_at added rest (length added) refl) ∙ ap (take (length added)) parts))

-- what a call that puts bytes from an empty buffer on, and then empties it, says of the sink
pub record Wrote {T E : Type 0} (before now : Option (List ℕ)) (faults later : ℕ) (bytes : List ℕ) (result : Result T E) : Type 0 where
  pub all : OnOk result (now ≡ grown before bytes)
  pub cut : OnErr result (GrewByLess before now bytes)
  pub cause : HasCause faults later result

wrote_all : {T E : Type 0} (before now : Option (List ℕ)) (faults later : ℕ) (left : Held) (bytes : List ℕ) (result : Result T E) → Puts (at_sink before faults empty_buffer) (at_sink now later left) bytes → OnOk result (left ≡ empty_buffer) → OnOk result (now ≡ grown before bytes)
wrote_all before now faults later left bytes (Ok x) puts is =
    sym (grown-nil now) ∙ ap (λ (buffer : Held). grown now buffer.bytes) (sym is) ∙ (puts.going (ap (λ (buffer : Held). buffer.failed) is)).1
wrote_all before now faults later left bytes (Err e) puts is = tt

wrote_less : {T E : Type 0} (before now : Option (List ℕ)) (faults later : ℕ) (left : Held) (bytes : List ℕ) (result : Result T E) → Puts (at_sink before faults empty_buffer) (at_sink now later left) bytes → 0 < length bytes → OnErr result (left.failed ≡ true) → OnErr result (GrewByLess before now bytes)
wrote_less before now faults later left bytes (Ok x) puts long off = tt
wrote_less before now faults later left bytes (Err e) puts long off =
    let cut = puts.cut refl off in less_of before now puts.kept.0 cut.0 bytes long puts.kept.1 cut.1 cut.2

rose_at : {T E : Type 0} (before now : Option (List ℕ)) (faults later : ℕ) (left : Held) (bytes : List ℕ) (result : Result T E) → Puts (at_sink before faults empty_buffer) (at_sink now later left) bytes → OnErr result (left.failed ≡ true) → OnErr result (Rose faults later)
rose_at before now faults later left bytes (Ok x) puts off = tt
rose_at before now faults later left bytes (Err e) puts off = puts.rose refl off

pub wrote : {T E : Type 0} (before now : Option (List ℕ)) (faults later : ℕ) (start left : Held) (bytes : List ℕ) (result : Result T E) → start ≡ empty_buffer → Puts (at_sink before faults start) (at_sink now later left) (bytes ++ []) → 0 < length bytes →
    OnOk result (left ≡ empty_buffer) → OnErr result (left.failed ≡ true) → Wrote before now faults later bytes result
wrote before now faults later start left bytes result fresh puts long ok err =
    let puts : Puts (at_sink before faults empty_buffer) (at_sink now later left) bytes = puts_is (subst (λ (buffer : Held). Puts (at_sink before faults buffer) (at_sink now later left) (bytes ++ [])) fresh puts) (append-nil bytes) in
    record {
      all = wrote_all before now faults later left bytes result puts ok;
      cut = wrote_less before now faults later left bytes result puts long err;
      cause = record { later = puts.later; failed = rose_at before now faults later left bytes result puts err };
    }
