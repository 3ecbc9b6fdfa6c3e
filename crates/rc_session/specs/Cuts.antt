-- Why a session is cut off, and what it has written by then.
use Rattle.std.specs.Prelude.{ℕ, ◌≡◌, ◌<◌, ◌≤◌, ◌+◌, ◌*◌, ◌^◌, List, Option, Result, Ok, Err, length, take}
use Rattle.rc_io.specs.Memory.{GatheredBytes}
use Rattle.rc_io.specs.Causes.{Rose}
use Rattle.rc_io.specs.Bytes.{grown, GrewByPrefix}
use Rattle.rc_engine.specs.Engine.{Engine}
use Rattle.rc_script.specs.declared.command.Command.{Command}
use Rattle.rc_session.specs.declared.performing.Cut.{Cut}
use Rattle.rc_session.specs.declared.performing.Cut.TheVariants.{NoMemory, WriteFault}
use Rattle.rc_session.specs.Sessions.{Setting, State, Answer, session, written}

-- ---- what an engine is to a session

abbrev pub setting_of : Engine → Setting
setting_of engine = record { rules = engine.rules; frame = engine.frame }

abbrev pub state_of : Engine → State
state_of engine = record { layout = engine.layout; touched = engine.touched }

-- ---- one command

-- what is left of an engine and a meter by a command: its reply and its state are these, or memory ran out
abbrev pub Replies : {E : Type 0} → Engine → Answer → Result GatheredBytes E → Type 0
Replies after answer (Ok reply) = (reply.bytes ≡ answer.reply) × (state_of after ≡ answer.state)
Replies after answer (Err none) = Unit {0}

abbrev pub Draws : {E : Type 0} → ℕ → ℕ → ℕ → Result GatheredBytes E → Type 0
Draws before after swept (Ok reply) = after ≡ before + 2 * swept
Draws before after swept (Err none) = Unit {0}

-- the rules and the grid stay, and two passes are drawn for each window that is swept
pub record Answers {E : Type 0} (result : Result GatheredBytes E) (before after : Engine) (drawn drawn_now : ℕ) (answer : Answer) : Type 0 where
  pub setting : setting_of after ≡ setting_of before
  pub replies : Replies after answer result
  pub exact : Draws drawn drawn_now answer.swept result
  pub least : drawn ≤ drawn_now
  pub most : drawn_now ≤ drawn + 2 * answer.swept
  pub few : drawn_now ≤ drawn + 2 ^ 21

-- ---- cuts

-- a sink holds the whole replies of the first commands, of which there are more
abbrev pub HasFirstReplies : Setting → State → List Command → Option (List ℕ) → Option (List ℕ) → Type 0
HasFirstReplies setting state commands before after =
    (count : ℕ) × (count < length commands) × (after ≡ grown before (written (session setting state (take count commands))))

-- for want of memory, behind whole replies; or the sink failed, behind a front of what the session writes
abbrev pub IsCut : Setting → State → List Command → Option (List ℕ) → Option (List ℕ) → ℕ → ℕ → Cut → Type 0
IsCut setting state commands before after faults faults_now NoMemory = HasFirstReplies setting state commands before after
IsCut setting state commands before after faults faults_now WriteFault = Rose faults faults_now × GrewByPrefix before after (written (session setting state commands))
