-- What each status of a run says of its sinks, and why it may come.
use Rattle.std.specs.Prelude.{ℕ, ◌≡◌, ◌⊎◌, Bool, IsTrue, List, Option, Some, None, Contains, if◌then◌else◌}
use Rattle.std.specs.Str.{bytes_eq}
use Rattle.rc_io.specs.Causes.{Rose}
use Rattle.rc_io.specs.Bytes.{grown, GrewByPrefix}
use Rattle.rc_session.specs.Cuts.{HasFirstReplies}
use Rattle.rc_cli.specs.Command.{Verify, Session, Request, request_of, file_words}
use Rattle.rc_cli.specs.Lines.{usage_line, no_memory_line, read_fault_line}
use Rattle.rc_cli.specs.Outcome.{Texts, Course, Missing, Refused, Done, Reply, Opening, outcome, session_opening}

-- ---- files and sinks

-- the files at one moment: whether they tell what they hold, what that is, and how often the file of a name has failed
pub record Shelf : Type 0 where
  pub tells : Bool
  pub texts : Texts
  pub faults : List ℕ → ℕ

abbrev pub shelf : Bool → Texts → (List ℕ → ℕ) → Shelf
shelf tells texts faults = record { tells = tells; texts = texts; faults = faults }

-- what the two sinks hold before and after a call, where they tell
pub record Written : Type 0 where
  pub out_before : Option (List ℕ)
  pub out_after : Option (List ℕ)
  pub err_before : Option (List ℕ)
  pub err_after : Option (List ℕ)

abbrev pub sinks : Option (List ℕ) → Option (List ℕ) → Option (List ℕ) → Option (List ℕ) → Written
sinks out_before out_after err_before err_after = record { out_before = out_before; out_after = out_after; err_before = err_before; err_after = err_after }

-- nothing was written to out
abbrev pub OutKept : Written → Type 0
OutKept w = w.out_after ≡ w.out_before

abbrev pub ErrKept : Written → Type 0
ErrKept w = w.err_after ≡ w.err_before

-- out grew by exactly this text, and err by nothing
pub record WroteText (w : Written) (text : List ℕ) : Type 0 where
  pub out : w.out_after ≡ grown w.out_before text
  pub err : ErrKept w

-- err grew by exactly this line, and out by nothing
pub record WroteLine (w : Written) (line : List ℕ) : Type 0 where
  pub out : OutKept w
  pub err : w.err_after ≡ grown w.err_before line

-- ---- causes

-- the same files, but that there is none of this name
abbrev pub without : List ℕ → Texts → Texts
without name texts other = if bytes_eq other name then None else texts other

-- the work gets to the first reading of the file of a name: were it not there, the work would end at it. So nothing before
-- it is missing or refused
abbrev pub IsReached : Texts → Request → List ℕ → Type 0
IsReached texts asked name = outcome (without name texts) asked ≡ Missing name

-- a file of the words failed in this call, at a reading that the work gets to
pub record IsReadFault (before after : Shelf) (asked : Request) (name : List ℕ) : Type 0 where
  pub file : Contains (file_words asked) name
  pub rose : Rose (before.faults name) (after.faults name)
  pub reached : IsTrue before.tells → IsReached before.texts asked name

-- the words are listed, and over files that tell they come to this
abbrev pub ComesTo : Shelf → List (List ℕ) → Course Reply → Type 0
ComesTo before words course = (asked : Request) × (request_of words ≡ Some asked) × (IsTrue before.tells → outcome before.texts asked ≡ course)

-- the words ask for a comparison with a SPEF file
abbrev pub IsVerify : List (List ℕ) → Type 0
IsVerify words = (asked : Request) × (spef : List ℕ) × (request_of words ≡ Some asked) × (asked.task ≡ Verify spef)

-- the words ask for a session
abbrev pub IsSession : List (List ℕ) → Type 0
IsSession words = (asked : Request) × (script : List ℕ) × (request_of words ≡ Some asked) × (asked.task ≡ Session script)

-- the words ask for a session, which over files that tell begins so; and out grew by the whole replies to its first commands, of
-- which there are more
abbrev pub HasReplies : Shelf → Written → List (List ℕ) → Type 0
HasReplies before w words = (asked : Request) × (script : List ℕ) × (opened : Opening) × (request_of words ≡ Some asked) × (asked.task ≡ Session script)
    × (IsTrue before.tells → session_opening before.texts asked.inputs script ≡ Done opened)
    × HasFirstReplies opened.setting opened.state opened.commands w.out_before w.out_after

-- where memory runs out nothing was written to out, or whole replies of a session
abbrev pub HasWholeReplies : Shelf → Written → List (List ℕ) → Type 0
HasWholeReplies before w words = OutKept w ⊎ HasReplies before w words

-- a line that a status other than 0, 4 and 6 writes, with the cause of that status
abbrev pub IsLineOf : Shelf → Shelf → List (List ℕ) → List ℕ → Type 0
IsLineOf before after words line =
    ((line ≡ usage_line) × (request_of words ≡ None))
    ⊎ ComesTo before words (Refused line)
    ⊎ ((asked : Request) × (name : List ℕ) × (request_of words ≡ Some asked) × (line ≡ read_fault_line name) × IsReadFault before after asked name)
    ⊎ (line ≡ no_memory_line)

-- no count of a file of the words rose
abbrev pub NoFileFailed : Shelf → Shelf → Request → Type 0
NoFileFailed before after asked = (name : List ℕ) → Contains (file_words asked) name → ¬ Rose (before.faults name) (after.faults name)

-- ---- answers

-- 6 where two values differ
abbrev pub reply_status : Reply → ℕ
reply_status reply = if reply.differs then 6 else 0

-- the status and the bytes that this outcome is told by
abbrev pub IsTold : Written → Course Reply → ℕ → Type 0
IsTold w (Missing name) status = ⊥
IsTold w (Refused line) status = (status ≡ 2) × WroteLine w line
IsTold w (Done reply) status = (status ≡ reply_status reply) × WroteText w reply.text

-- out failed after a front of the text that the words come to, and err holds nothing more
pub record IsCutText (shelf : Shelf) (w : Written) (words : List (List ℕ)) (before now : ℕ) : Type 0 where
  pub rose : Rose before now
  pub err : ErrKept w
  pub front : (reply : Reply) × ComesTo shelf words (Done reply) × GrewByPrefix w.out_before w.out_after reply.text

-- err failed after a front of a line that has its cause. Out holds nothing more, but for the replies of a session that want of
-- memory cut off
pub record IsCutLine (shelf later : Shelf) (w : Written) (words : List (List ℕ)) (before now : ℕ) : Type 0 where
  pub rose : Rose before now
  pub front : (line : List ℕ) × IsLineOf shelf later words line × GrewByPrefix w.err_before w.err_after line
      × (OutKept w ⊎ ((line ≡ no_memory_line) × HasReplies shelf w words))
