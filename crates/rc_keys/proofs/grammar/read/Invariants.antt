use Rattle.std.proofs.Common.{◌≡◌, length}
use Rattle.rc_keys.specs.Lexemes.{words_of}
use Rattle.rc_keys.specs.Course.{Running, begin, reading_from}
use Rattle.rc_keys.proofs.grammar.read.Given as goal

abbrev pub invariant-loop-word : goal.invariant-loop-word
invariant-loop-word g l =
    reading_from (g.G.Grammar.turn_of l.fn.given) g.G.Grammar.may_end (Running l.grammar l.begun l.last) l.words
    ≡ reading_from (g.G.Grammar.turn_of l.fn.given) g.G.Grammar.may_end (begin l.fn.grammar) (words_of l.fn.mode l.fn.text)

abbrev pub decreases-loop-word : goal.decreases-loop-word
decreases-loop-word g l = length l.words.words
