-- Laws of the linked layout: what is linked, edited and put has its facts.
use Rattle.std.specs.Prelude.{◌≡◌, ℕ, All, Some, Ok, List, slice_get}
use Rattle.rc_lef.specs.Facts.{IsSound}
use Rattle.rc_lef.specs.Technology.{Technology}
use Rattle.rc_wire.specs.Forms.{IsRegular}
use Rattle.rc_wire.specs.declared.path.RawPath.{RawPath}
use Rattle.rc_def.specs.Forms.{IsRawDesign}
use Rattle.rc_def.specs.declared.design.RawDesign.{RawDesign}
use Rattle.rc_layout.specs.declared.net.Net.{Net}
use Rattle.rc_layout.specs.Facts.{IsCandidate, IsLayout}
use Rattle.rc_layout.specs.Layouts.{Wired, linked, net_with, with_put}

-- a technology and a design that were read link to a layout with all its facts
abbrev pub LinkedAreLayouts : Type 0
LinkedAreLayouts = (tech : Technology) (raw : RawDesign) (wired : Wired) → IsSound tech → IsRawDesign raw → linked tech raw ≡ Ok wired → IsLayout wired

-- a net with other paths is one that may take the old one's place
abbrev pub EditsAreCandidates : Type 0
EditsAreCandidates =
    (wired : Wired) (number : ℕ) (old net : Net) (paths : List RawPath) → IsLayout wired → slice_get wired.nets number ≡ Some old → All IsRegular paths → net_with wired old paths ≡ Ok net → IsCandidate wired old net

-- and with such a net in its place a layout keeps all its facts
abbrev pub PutsKeepFacts : Type 0
PutsKeepFacts = (wired : Wired) (number : ℕ) (old net : Net) → IsLayout wired → slice_get wired.nets number ≡ Some old → IsCandidate wired old net → IsLayout (with_put wired number net)
