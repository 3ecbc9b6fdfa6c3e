-- Where the items of a DEF file may begin.
use Rattle.std.proofs.Common.{◌≡◌, ◌∙◌, ℕ, Bool, true, false, cond, List, refl, ap, sym, subst}
use Rattle.std.specs.Prelude.{◌&&◌, not, Option, Some, None, is_some, Result, Ok, Err}
use Rattle.std.specs.Str.{bytes_eq}
use Rattle.rc_keys.specs.declared.code.Code.{Code}
use Rattle.rc_keys.specs.declared.code.Code.TheVariants.{E03, E04, E07, E16}
use Rattle.rc_keys.specs.Lexemes.{Lexeme}
use Rattle.rc_wire.specs.declared.item.PathItem.{PathItem}
use Rattle.rc_wire.specs.declared.key.Key.{Key}
use Rattle.rc_wire.specs.declared.key.Key.TheVariants as keys
use Rattle.rc_wire.specs.Keys.{is_name, is_quoted, is_orientation}
use Rattle.rc_wire.specs.Paths.{begins as begins_path}
use Rattle.rc_def.specs.declared.draft.Draft.{Draft}
use Rattle.rc_def.specs.declared.item.DefItem.{DefItem}
use Rattle.rc_def.specs.declared.item.DefItem.TheVariants as items
use Rattle.rc_def.specs.declared.item.Section.{Section}
use Rattle.rc_def.specs.declared.item.Section.TheVariants as sections
use Rattle.rc_def.specs.declared.item.Stage.{Stage}
use Rattle.rc_def.specs.declared.item.Stage.TheVariants as stages
use Rattle.rc_def.specs.Begins as begins
use Rattle.rc_def.specs.Begins.{begins_in}
use Rattle.rc_def.specs.Drafts.{is_complete, has}

-- behind the name of an entry, up to its end
abbrev pub inside : Stage → Bool
inside stages.Connections = true
inside stages.Connection = true
inside stages.Options = true
inside stages.Option = true
inside stages.Passed = true
inside stages.Paths = true
inside stages.Wiring = true
inside stages.ViaHead = true
inside stages.ViaFirst = true
inside stages.ViaPoints = true
inside _ = false

abbrev pub in_paths : Stage → Bool
in_paths stages.Paths = true
in_paths stages.Wiring = true
in_paths _ = false

-- where an item may begin
abbrev pub Fits : Draft → Key → DefItem → Type 0
Fits v key (items.Token stage) = (in_paths stage ≡ false) × (inside stage ≡ true → inside v.stage ≡ true)
Fits v key items.Done = Unit {0}
Fits v key items.Design = Unit {0}
Fits v key items.Units = Unit {0}
Fits v key items.DividerChar = Unit {0}
Fits v key items.BusBitChars = Unit {0}
Fits v key items.Skip = Unit {0}
Fits v key (items.Head section) = Unit {0}
Fits v key items.End = Unit {0}
Fits v key items.EndDesign = Unit {0}
Fits v key items.Entry = Unit {0}
Fits v key items.Component = Unit {0}
Fits v key items.Routed = (inside v.stage ≡ true) × (v.section ≡ sections.Nets)
Fits v key items.WideRouted = (inside v.stage ≡ true) × (v.section ≡ sections.Specials)
Fits v key items.Shield = (inside v.stage ≡ true) × (v.section ≡ sections.Specials)
Fits v key (items.Path item) = (in_paths v.stage ≡ true) × (begins_path v.wiring key ≡ Ok (Some item))
Fits v key items.PathsDone = (in_paths v.stage ≡ true) × (begins_path v.wiring key ≡ Ok None)
Fits v key items.PathsEntryDone = (in_paths v.stage ≡ true) × (begins_path v.wiring key ≡ Ok None)
Fits v key _ = inside v.stage ≡ true

module _ (v : Draft) (k : Key) where
  abbrev pub OkFits : Result DefItem Code → Type 0
  OkFits (Ok item) = Fits v k item
  OkFits (Err code) = Unit {0}

  either : (b : Bool) (x y : Result DefItem Code) → OkFits x → OkFits y → OkFits (cond b x y)
  either true x y p q = p
  either false x y p q = q

  -- ---- outside entries

  never : (stage : Stage) → inside stage ≡ false → inside stage ≡ true → inside v.stage ≡ true
  never stage e f = let g : true ≡ false = sym f ∙ e in absurd cc

  top_fits : (key : Key) → OkFits (begins.top v.header key)
  top_fits keys.Design = either (is_some v.header.design) (Err E07) (Ok items.Design) tt tt
  top_fits keys.Units = either (is_some v.header.units) (Err E07) (Ok items.Units) tt tt
  top_fits keys.BeginExt = (refl, never stages.Extension refl)
  top_fits keys.Semicolon = tt
  top_fits keys.Quoted = tt
  top_fits keys.DividerChar = tt
  top_fits keys.BusBitChars = tt
  top_fits keys.Vias = tt
  top_fits keys.NonDefaultRules = tt
  top_fits keys.Components = tt
  top_fits keys.Pins = tt
  top_fits keys.SpecialNets = tt
  top_fits keys.Nets = tt
  top_fits keys.Regions = tt
  top_fits keys.Groups = tt
  top_fits keys.Blockages = tt
  top_fits keys.Slots = tt
  top_fits keys.Fills = tt
  top_fits keys.ScanChains = tt
  top_fits keys.Styles = tt
  top_fits keys.PinProperties = tt
  top_fits keys.PropertyDefinitions = tt
  top_fits keys.End = tt
  top_fits _ = (refl, never stages.Over refl)

  over_fits : (key : Key) → OkFits (begins.over key)
  over_fits keys.Semicolon = tt
  over_fits _ = (refl, never stages.Over refl)

  end_fits : (key : Key) → OkFits (begins.end v.header key)
  end_fits keys.Design = either (is_complete v.header) (Ok items.EndDesign) (Err E16) tt tt
  end_fits _ = tt

  skipped_fits : (key : Key) → OkFits (Ok (begins.skipped key))
  skipped_fits keys.End = (refl, never stages.SkippedEnd refl)
  skipped_fits _ = (refl, never stages.Skipped refl)

  skipped_end_fits : (b : Bool) (key : Key) → OkFits (Ok (cond b items.Done (begins.skipped key)))
  skipped_end_fits true key = tt
  skipped_end_fits false key = skipped_fits key

  extension_fits : (key : Key) → OkFits (begins.extension key)
  extension_fits keys.EndExt = tt
  extension_fits _ = (refl, never stages.Extension refl)

  section_fits : (key : Key) → OkFits (begins.section key)
  section_fits keys.Minus = (refl, never stages.Name refl)
  section_fits keys.End = (refl, never stages.SectionEnd refl)
  section_fits _ = tt

  entry_fits : (section : Section) → OkFits (Ok (begins.entry section))
  entry_fits sections.Comps = tt
  entry_fits _ = tt

  name_fits : (section : Section) (key : Key) (bytes : List ℕ) → OkFits (begins.name section v.lists key bytes)
  name_fits section key bytes =
      either (not (is_name key)) (Err E03) (cond (begins.is_must_join section key) (Err E04) (cond (has section bytes v.lists) (Err E07) (Ok (begins.entry section)))) tt
      (either (begins.is_must_join section key) (Err E04) (cond (has section bytes v.lists) (Err E07) (Ok (begins.entry section))) tt (either (has section bytes v.lists) (Err E07) (Ok (begins.entry section)) tt (entry_fits section)))

  -- ---- inside entries

  module _ (s : inside v.stage ≡ true) where
    options_fits : (key : Key) → OkFits (begins.options key)
    options_fits keys.Plus = (refl, λ e. s)
    options_fits keys.Semicolon = s
    options_fits _ = tt

    opens_fits : (section : Section) → OkFits (Ok (begins.opens section))
    opens_fits sections.Specials = (refl, λ e. s)
    opens_fits _ = s

    connections_fits : (section : Section) (key : Key) → OkFits (begins.connections section key)
    connections_fits section keys.Open = opens_fits section
    connections_fits section key = options_fits key

    connection_fits : (key : Key) → OkFits (begins.connection key)
    connection_fits keys.Close = (refl, λ e. s)
    connection_fits keys.Semicolon = tt
    connection_fits _ = (refl, λ e. s)

    passed_fits : (key : Key) → OkFits (begins.passed key)
    passed_fits key = either (is_name key) (Ok (items.Token stages.Passed)) (Err E03) (refl, λ e. s) tt

    via_option_fits : (key : Key) → OkFits (begins.via_option key)
    via_option_fits keys.Rect = s
    via_option_fits keys.ViaRule = s
    via_option_fits keys.CutSize = s
    via_option_fits keys.Layers = s
    via_option_fits keys.CutSpacing = s
    via_option_fits keys.Enclosure = s
    via_option_fits keys.RowCol = s
    via_option_fits keys.Polygon = s
    via_option_fits keys.Origin = s
    via_option_fits keys.Offset = s
    via_option_fits keys.Pattern = s
    via_option_fits key = passed_fits key

    rule_option_fits : (key : Key) → OkFits (begins.rule_option key)
    rule_option_fits keys.Layer = s
    rule_option_fits key = passed_fits key

    comp_option_fits : (key : Key) → OkFits (begins.comp_option key)
    comp_option_fits keys.Placed = s
    comp_option_fits keys.Fixed = s
    comp_option_fits keys.Cover = s
    comp_option_fits key = passed_fits key

    pin_option_fits : (key : Key) → OkFits (begins.pin_option key)
    pin_option_fits keys.Direction = s
    pin_option_fits keys.Port = s
    pin_option_fits keys.Layer = s
    pin_option_fits keys.Placed = s
    pin_option_fits keys.Fixed = s
    pin_option_fits keys.Cover = s
    pin_option_fits key = passed_fits key

    net_option_fits : (key : Key) → v.section ≡ sections.Nets → OkFits (begins.net_option key)
    net_option_fits keys.NonDefaultRule e = s
    net_option_fits keys.Routed e = (s, e)
    net_option_fits keys.Fixed e = (s, e)
    net_option_fits keys.Cover e = (s, e)
    net_option_fits keys.NoShield e = (s, e)
    net_option_fits keys.SubNet e = tt
    net_option_fits keys.VPin e = tt
    net_option_fits key e = passed_fits key

    special_option_fits : (key : Key) → v.section ≡ sections.Specials → OkFits (begins.special_option key)
    special_option_fits keys.Use e = s
    special_option_fits keys.Routed e = (s, e)
    special_option_fits keys.Fixed e = (s, e)
    special_option_fits keys.Cover e = (s, e)
    special_option_fits keys.Shield e = (s, e)
    special_option_fits keys.Rect e = s
    special_option_fits keys.Via e = s
    special_option_fits keys.Polygon e = tt
    special_option_fits key e = passed_fits key

    option_fits : (section : Section) (key : Key) → v.section ≡ section → OkFits (begins.option section key)
    option_fits sections.Vias key e = via_option_fits key
    option_fits sections.Rules key e = rule_option_fits key
    option_fits sections.Comps key e = comp_option_fits key
    option_fits sections.Pins key e = pin_option_fits key
    option_fits sections.Specials key e = special_option_fits key e
    option_fits sections.Nets key e = net_option_fits key e

    passed_on_fits : (key : Key) → OkFits (begins.passed_on key)
    passed_on_fits keys.Plus = (refl, λ e. s)
    passed_on_fits keys.Semicolon = s
    passed_on_fits _ = (refl, λ e. s)

    via_first_fits : (key : Key) → OkFits (begins.via_first key)
    via_first_fits keys.Open = s
    via_first_fits _ = tt

    via_points_fits : (key : Key) → OkFits (begins.via_points key)
    via_points_fits keys.Open = s
    via_points_fits key = options_fits key

  -- ---- paths

  module _ (p : in_paths v.stage ≡ true) where
    paths_end_fits : (key : Key) → begins_path v.wiring k ≡ Ok None → OkFits (Ok (begins.paths_end key))
    paths_end_fits keys.Plus e = (p, e)
    paths_end_fits _ e = (p, e)

    path_fits : (r : Result (Option PathItem) Code) → begins_path v.wiring k ≡ r → OkFits (begins.path k r)
    path_fits (Ok (Some item)) e = (p, e)
    path_fits (Ok None) e = paths_end_fits k e
    path_fits (Err code) e = tt

    paths_fits : (s : inside v.stage ≡ true) (key : Key) → k ≡ key → OkFits (begins.paths v.wiring key)
    paths_fits s keys.Plus e = (refl, λ f. s)
    paths_fits s keys.Semicolon e = s
    paths_fits s key e = subst (λ other. OkFits (begins.wiring v.wiring other)) e (path_fits (begins_path v.wiring k) refl)

  -- ---- all of them

  stage_fits : (stage : Stage) (word : Lexeme) → v.stage ≡ stage → OkFits (begins_in stage v k word)
  stage_fits stages.Top word e = top_fits k
  stage_fits stages.Over word e = over_fits k
  stage_fits stages.EndOfFile word e = end_fits k
  stage_fits stages.Skipped word e = skipped_fits k
  stage_fits stages.SkippedEnd word e = skipped_end_fits (not (is_quoted k) && bytes_eq word.bytes v.skipped) k
  stage_fits stages.Extension word e = extension_fits k
  stage_fits stages.Section word e = section_fits k
  stage_fits stages.SectionEnd word e = either (begins.is_word_of v.section k) (Ok items.Done) (Err E03) tt tt
  stage_fits stages.Name word e = name_fits v.section k word.bytes
  stage_fits stages.Connections word e = connections_fits (ap inside e) v.section k
  stage_fits stages.Connection word e = connection_fits (ap inside e) k
  stage_fits stages.Options word e = options_fits (ap inside e) k
  stage_fits stages.Option word e = option_fits (ap inside e) v.section k refl
  stage_fits stages.Passed word e = passed_on_fits (ap inside e) k
  stage_fits stages.Paths word e = paths_fits (ap in_paths e) (ap inside e) k refl
  stage_fits stages.Wiring word e = path_fits (ap in_paths e) (begins_path v.wiring k) refl
  stage_fits stages.ViaHead word e = either (is_orientation k) (Ok items.NetViaOrient) (begins.via_first k) (ap inside e) (via_first_fits (ap inside e) k)
  stage_fits stages.ViaFirst word e = via_first_fits (ap inside e) k
  stage_fits stages.ViaPoints word e = via_points_fits (ap inside e) k

pub fits : (v : Draft) (key : Key) (word : Lexeme) (item : DefItem) → begins.begins v key word ≡ Ok item → Fits v key item
unfolding begins.begins
fits v key word item e = subst (λ r. OkFits v key r) e (stage_fits v key v.stage word refl)
