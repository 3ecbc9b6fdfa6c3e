-- What holds of what is read of a script so far.
use Rattle.std.proofs.Common.{◌≡◌, ◌∙◌, ◌+◌, ◌≤◌, ℕ, suc, Bool, true, false, cond, List, [], ◌∷◌, ◌++◌, length, refl, ap, subst, arith}
use Rattle.std.proofs.lemmas.List.Elements.{All-nil, All-append, All-push}
use Rattle.std.proofs.Math.ListN.{length-append}
use Rattle.std.specs.Prelude.{All, Option, Some, None, Result, Ok, Err, codes}
use Rattle.std.specs.Str.{bytes_eq}
use Rattle.rc_keys.specs.declared.code.Code.{Code}
use Rattle.rc_keys.specs.declared.code.Code.TheVariants.{E03}
use Rattle.rc_keys.specs.Course.{Turn}
use Rattle.rc_keys.specs.Lexemes.{Lexeme}
use Rattle.rc_keys.specs.Statements.{at_line}
use Rattle.rc_wire.specs.declared.item.PathItem.{PathItem}
use Rattle.rc_wire.specs.declared.key.Key.{Key}
use Rattle.rc_wire.specs.declared.key.Key.TheVariants as keys
use Rattle.rc_wire.specs.declared.operands.Operands.{Operands}
use Rattle.rc_wire.specs.declared.path.RawPath.{RawPath}
use Rattle.rc_wire.specs.declared.wiring.Wiring.{Wiring}
use Rattle.rc_wire.specs.Forms.{IsRegular, IsPathOf}
use Rattle.rc_wire.specs.Items.{IsItem, Spelled}
use Rattle.rc_wire.specs.Keys.{key_of, is_quoted}
use Rattle.rc_wire.specs.Parts.{nothing}
use Rattle.rc_wire.specs.Paths.{begins as begins_path, no_paths, paths_of}
use Rattle.rc_wire.proofs.Formed.{IsWiring, no_wiring, fits as path_fits, item_is, same_kind, all_paths}
use Rattle.rc_wire.proofs.Keeping.{Leaves}
use Rattle.rc_script.specs.declared.command.Command.{Command}
use Rattle.rc_script.specs.declared.command.Command.TheVariants as commands
use Rattle.rc_script.specs.declared.draft.Draft.{Draft}
use Rattle.rc_script.specs.declared.item.ScriptItem.{ScriptItem}
use Rattle.rc_script.specs.declared.item.ScriptItem.TheVariants as items
use Rattle.rc_script.specs.declared.item.Stage.{Stage}
use Rattle.rc_script.specs.declared.item.Stage.TheVariants as stages
use Rattle.rc_script.specs.Begins as of
use Rattle.rc_script.specs.Begins.{begins, begins_in, command_of}
use Rattle.rc_script.specs.Forms.{IsCommand}
use Rattle.rc_script.specs.Items.{form_of}
use Rattle.rc_script.specs.Means.{nothing_read, means}
use Rattle.rc_script.specs.Rows.{as_item, script_format}

-- ---- where an item may begin

abbrev pub Fits : Draft → Key → ScriptItem → Type 0
Fits v key (items.Path item) = begins_path v.wiring key ≡ Ok (Some item)
Fits v key items.PathsPlus = begins_path v.wiring key ≡ Ok None
Fits v key items.PathsDone = begins_path v.wiring key ≡ Ok None
Fits v key _ = Unit {0}

module _ (v : Draft) (k : Key) where
  abbrev OkFits : Result ScriptItem Code → Type 0
  OkFits (Ok item) = Fits v k item
  OkFits (Err code) = Unit {0}

  either : (b : Bool) (x y : Result ScriptItem Code) → OkFits x → OkFits y → OkFits (cond b x y)
  either true x y p q = p
  either false x y p q = q

  command_fits : (word : List ℕ) → OkFits (command_of word)
  unfolding command_of
  command_fits word =
      let none = either (bytes_eq word (codes "END")) (Ok items.End) (Err E03) tt tt in
      let stat = either (bytes_eq word (codes "STAT")) (Ok items.Stat) _ tt none in
      let net = either (bytes_eq word (codes "NET")) (Ok items.Net) _ tt stat in
      let spef = either (bytes_eq word (codes "SPEF")) (Ok items.Spef) _ tt net in
      either (bytes_eq word (codes "REPLACE")) (Ok items.Replace) _ tt spef

  body_fits : (key : Key) → OkFits (of.body key)
  body_fits keys.Plus = tt
  body_fits keys.Semicolon = tt
  body_fits _ = tt

  kind_fits : (key : Key) → OkFits (of.kind key)
  kind_fits keys.Routed = tt
  kind_fits keys.Fixed = tt
  kind_fits keys.Cover = tt
  kind_fits keys.NoShield = tt
  kind_fits _ = tt

  end_fits : (key : Key) → begins_path v.wiring k ≡ Ok None → OkFits (Ok (of.paths_end key))
  end_fits keys.Plus is = is
  end_fits _ is = is

  path_fits_by : (r : Result (Option PathItem) Code) → begins_path v.wiring k ≡ r → OkFits (of.path k r)
  path_fits_by (Ok (Some item)) is = is
  path_fits_by (Ok None) is = end_fits k is
  path_fits_by (Err code) is = tt

  stage_fits : (stage : Stage) (word : Lexeme) → OkFits (begins_in stage v k word)
  stage_fits stages.Command word = either (is_quoted k) (Err E03) (command_of word.bytes) tt (command_fits word.bytes)
  stage_fits stages.Body word = body_fits k
  stage_fits stages.Kind word = kind_fits k
  stage_fits stages.Paths word = path_fits_by (begins_path v.wiring k) refl

  pub fits : (word : Lexeme) (item : ScriptItem) → begins v k word ≡ Ok item → Fits v k item
  unfolding begins
  fits word item is = subst (λ r. OkFits r) is (stage_fits v.stage word)

-- a token that isn't refused begins that
begins_it : (word : Lexeme) (r : Result ScriptItem Code) (item : ScriptItem) → as_item word r ≡ Ok (Some item) → r ≡ Ok item
begins_it word (Ok other) item e = cc
begins_it word (Err code) item e = absurd cc

-- ---- what is read. A number counts the tokens so far

pub record Holds (n : ℕ) (list : List Command) (paths : List RawPath) (wiring : Wiring) : Type 0 where
  pub few : length list ≤ n
  pub commands_are : All IsCommand list
  pub paths_are : All IsRegular paths
  pub wiring_is : IsWiring wiring
  pub kind_is : wiring.is_wide ≡ false

abbrev pub IsDraft : ℕ → Draft → Type 0
IsDraft n v = Holds n v.commands v.paths v.wiring

pub nothing_holds : IsDraft 0 nothing_read
nothing_holds = record { few = omega arith; commands_are = All-nil IsCommand; paths_are = All-nil IsRegular; wiring_is = no_wiring false 0; kind_is = refl }

module _ (n m : ℕ) (v : Draft) (more : n + 1 ≤ m) (h : IsDraft n v) where
  grown : IsDraft m v
  grown = record { few = (let f = h.few in omega arith); commands_are = h.commands_are; paths_are = h.paths_are; wiring_is = h.wiring_is; kind_is = h.kind_is }

  one_more : (list : List RawPath) (wiring : Wiring) (command : Command) → All IsRegular list → IsWiring wiring → wiring.is_wide ≡ false → IsCommand command → Holds m (v.commands ++ command ∷ []) list wiring
  one_more list wiring command all is kind one = record {
    few = (let f = h.few in let e = length-append v.commands (command ∷ []) in omega arith);
    commands_are = All-push IsCommand v.commands command h.commands_are one;
    paths_are = all;
    wiring_is = is;
    kind_is = kind;
  }

  -- paths that are complete join those before them
  joined : (key : Key) → begins_path v.wiring key ≡ Ok None → All IsRegular (v.paths ++ paths_of v.wiring)
  joined key is =
      let all : All (IsPathOf v.wiring.is_wide) (paths_of v.wiring) = all_paths v.wiring key h.wiring_is is in
      All-append IsRegular v.paths (paths_of v.wiring) h.paths_are (subst (λ b. All (IsPathOf b) (paths_of v.wiring)) h.kind_is all)

  -- an item keeps that
  item_leaves : (line : ℕ) (key : Key) (words : List Lexeme) (said : Operands) (item : ScriptItem) → Fits v key item → Spelled (form_of item) 0 (record nothing { last = v.wiring.last; line = line }) words said → Leaves IsDraft m (means item v said)
  unfolding form_of means
  item_leaves line key words said items.Replace fit spells = record { few = grown.few; commands_are = h.commands_are; paths_are = All-nil IsRegular; wiring_is = h.wiring_is; kind_is = h.kind_is }
  item_leaves line key words said items.Spef fit spells = one_more v.paths v.wiring commands.Spef h.paths_are h.wiring_is h.kind_is tt
  item_leaves line key words said items.Net fit spells = one_more v.paths v.wiring (commands.Net said.name said.line) h.paths_are h.wiring_is h.kind_is tt
  item_leaves line key words said items.Stat fit spells = one_more v.paths v.wiring commands.Stat h.paths_are h.wiring_is h.kind_is tt
  item_leaves line key words said items.End fit spells = grown
  item_leaves line key words said items.Plus fit spells = grown
  item_leaves line key words said items.Unwired fit spells = one_more [] v.wiring (commands.Replace v.name v.paths v.line) (All-nil IsRegular) h.wiring_is h.kind_is h.paths_are
  item_leaves line key words said items.Routed fit spells = record { few = grown.few; commands_are = h.commands_are; paths_are = h.paths_are; wiring_is = no_wiring false v.line; kind_is = refl }
  item_leaves line key words said (items.Path item) fit spells = record {
    few = grown.few;
    commands_are = h.commands_are;
    paths_are = h.paths_are;
    wiring_is = item_is item v.wiring line words said (path_fits v.wiring key (Some item) fit) spells h.wiring_is;
    kind_is = same_kind item v.wiring said ∙ h.kind_is;
  }
  item_leaves line key words said items.PathsPlus fit spells = record { few = grown.few; commands_are = h.commands_are; paths_are = joined key fit; wiring_is = no_wiring false 0; kind_is = refl }
  item_leaves line key words said items.PathsDone fit spells = one_more [] (no_paths false 0) (commands.Replace v.name (v.paths ++ paths_of v.wiring) v.line) (All-nil IsRegular) (no_wiring false 0) refl (joined key fit)

pub keeps : (limit line n : ℕ) (v : Draft) (words : List Lexeme) (turn : Turn Draft) → IsDraft n v → n + length words ≤ limit → IsItem script_format line v words turn → Leaves IsDraft (n + length words) turn
keeps limit line n v words turn h le i =
    let b : begins v (key_of i.first) (at_line line i.first) ≡ Ok i.item = begins_it (at_line line i.first) (begins v (key_of i.first) (at_line line i.first)) i.item i.begins in
    let e : length words ≡ suc (length i.others) = ap length i.parts in
    let more : n + 1 ≤ n + length words = omega arith in
    subst (λ t. Leaves IsDraft (n + length words) t) i.says
    (item_leaves n (n + length words) v more h line (key_of i.first) words i.said i.item (fits v (key_of i.first) (at_line line i.first) i.item b) i.spells)
