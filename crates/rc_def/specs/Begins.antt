-- Which item a token of a DEF file begins, by what may stand next (LEF/DEF 5.8 Language Reference, chapter 'DEF Syntax').
use Rattle.std.specs.Prelude.{◌&&◌, ℕ, Bool, true, false, not, Option, Some, None, is_some, Result, Ok, Err, List, if◌then◌else◌}
use Rattle.std.specs.Str.{bytes_eq}
use Rattle.rc_keys.specs.declared.code.Code.{Code}
use Rattle.rc_keys.specs.declared.code.Code.TheVariants.{E03, E04, E07, E16}
use Rattle.rc_keys.specs.Lexemes.{Lexeme}
use Rattle.rc_wire.specs.declared.item.PathItem.{PathItem}
use Rattle.rc_wire.specs.declared.key.Key.{Key}
use Rattle.rc_wire.specs.declared.key.Key.TheVariants as keys
use Rattle.rc_wire.specs.declared.wiring.Wiring.{Wiring}
use Rattle.rc_wire.specs.Keys.{is_name, is_quoted, is_orientation}
use Rattle.rc_wire.specs.Paths.{begins as begins_path}
use Rattle.rc_def.specs.declared.draft.Draft.{Draft}
use Rattle.rc_def.specs.declared.draft.Header.{Header}
use Rattle.rc_def.specs.declared.draft.Lists.{Lists}
use Rattle.rc_def.specs.declared.item.DefItem.{DefItem}
use Rattle.rc_def.specs.declared.item.DefItem.TheVariants as items
use Rattle.rc_def.specs.declared.item.Section.{Section}
use Rattle.rc_def.specs.declared.item.Section.TheVariants as sections
use Rattle.rc_def.specs.declared.item.Stage.{Stage}
use Rattle.rc_def.specs.declared.item.Stage.TheVariants as stages
use Rattle.rc_def.specs.Drafts.{is_complete, has}

-- ---- between the sections

-- DESIGN and UNITS stand once
abbrev pub top : Header → Key → Result DefItem Code
top header keys.Semicolon = Ok items.Done
top header keys.Quoted = Err E03
top header keys.Design = if is_some header.design then Err E07 else Ok items.Design
top header keys.Units = if is_some header.units then Err E07 else Ok items.Units
top header keys.DividerChar = Ok items.DividerChar
top header keys.BusBitChars = Ok items.BusBitChars
top header keys.Vias = Ok (items.Head sections.Vias)
top header keys.NonDefaultRules = Ok (items.Head sections.Rules)
top header keys.Components = Ok (items.Head sections.Comps)
top header keys.Pins = Ok (items.Head sections.Pins)
top header keys.SpecialNets = Ok (items.Head sections.Specials)
top header keys.Nets = Ok (items.Head sections.Nets)
-- skipped up to END and that word
top header keys.Regions = Ok items.Skip
top header keys.Groups = Ok items.Skip
top header keys.Blockages = Ok items.Skip
top header keys.Slots = Ok items.Skip
top header keys.Fills = Ok items.Skip
top header keys.ScanChains = Ok items.Skip
top header keys.Styles = Ok items.Skip
top header keys.PinProperties = Ok items.Skip
top header keys.PropertyDefinitions = Ok items.Skip
-- skipped up to ENDEXT
top header keys.BeginExt = Ok (items.Token stages.Extension)
top header keys.End = Ok items.End
-- any other statement is read over
top header _ = Ok (items.Token stages.Over)

abbrev pub over : Key → Result DefItem Code
over keys.Semicolon = Ok items.Done
over _ = Ok (items.Token stages.Over)

abbrev pub end : Header → Key → Result DefItem Code
end header keys.Design = if is_complete header then Ok items.EndDesign else Err E16
end header _ = Err E03

abbrev pub skipped : Key → DefItem
skipped keys.End = items.Token stages.SkippedEnd
skipped _ = items.Token stages.Skipped

abbrev pub skipped_end : List ℕ → Key → List ℕ → DefItem
skipped_end due key bytes = if not (is_quoted key) && bytes_eq bytes due then items.Done else skipped key

abbrev pub extension : Key → Result DefItem Code
extension keys.EndExt = Ok items.Done
extension _ = Ok (items.Token stages.Extension)

-- ---- sections

abbrev pub section : Key → Result DefItem Code
section keys.Minus = Ok (items.Token stages.Name)
section keys.End = Ok (items.Token stages.SectionEnd)
section _ = Err E03

abbrev pub is_word_of : Section → Key → Bool
is_word_of sections.Vias keys.Vias = true
is_word_of sections.Rules keys.NonDefaultRules = true
is_word_of sections.Comps keys.Components = true
is_word_of sections.Pins keys.Pins = true
is_word_of sections.Specials keys.SpecialNets = true
is_word_of sections.Nets keys.Nets = true
is_word_of _ _ = false

abbrev pub section_end : Section → Key → Result DefItem Code
section_end section key = if is_word_of section key then Ok items.Done else Err E03

-- ---- entries

abbrev pub is_must_join : Section → Key → Bool
is_must_join sections.Nets keys.MustJoin = true
is_must_join _ _ = false

abbrev pub entry : Section → DefItem
entry sections.Comps = items.Component
entry _ = items.Entry

-- names of the sections of one word differ
abbrev pub name : Section → Lists → Key → List ℕ → Result DefItem Code
name section lists key bytes =
    if not (is_name key) then Err E03
    else if is_must_join section key then Err E04
    else if has section bytes lists then Err E07
    else Ok (entry section)

abbrev pub options : Key → Result DefItem Code
options keys.Plus = Ok (items.Token stages.Option)
options keys.Semicolon = Ok items.EntryDone
options _ = Err E03

abbrev pub opens : Section → DefItem
opens sections.Specials = items.Token stages.Connection
opens _ = items.Connection

abbrev pub connections : Section → Key → Result DefItem Code
connections section keys.Open = Ok (opens section)
connections section key = options key

-- a connection of a special net is passed over
abbrev pub connection : Key → Result DefItem Code
connection keys.Close = Ok (items.Token stages.Connections)
connection keys.Semicolon = Err E03
connection _ = Ok (items.Token stages.Connection)

-- ---- options, by their words

-- an option that isn't named below is passed over
abbrev pub passed : Key → Result DefItem Code
passed key = if is_name key then Ok (items.Token stages.Passed) else Err E03

abbrev pub via_option : Key → Result DefItem Code
via_option keys.Rect = Ok items.ViaRect
via_option keys.ViaRule = Ok items.ViaRule
via_option keys.CutSize = Ok items.CutSize
via_option keys.Layers = Ok items.Layers
via_option keys.CutSpacing = Ok items.CutSpacing
via_option keys.Enclosure = Ok items.Enclosure
via_option keys.RowCol = Ok items.RowCol
via_option keys.Polygon = Ok items.Unusual
via_option keys.Origin = Ok items.Unusual
via_option keys.Offset = Ok items.Unusual
via_option keys.Pattern = Ok items.Unusual
via_option key = passed key

abbrev pub rule_option : Key → Result DefItem Code
rule_option keys.Layer = Ok items.LayerWidth
rule_option key = passed key

abbrev pub comp_option : Key → Result DefItem Code
comp_option keys.Placed = Ok items.Placed
comp_option keys.Fixed = Ok items.Placed
comp_option keys.Cover = Ok items.Placed
comp_option key = passed key

abbrev pub pin_option : Key → Result DefItem Code
pin_option keys.Direction = Ok items.Direction
pin_option keys.Port = Ok items.Port
pin_option keys.Layer = Ok items.PinRect
pin_option keys.Placed = Ok items.Placed
pin_option keys.Fixed = Ok items.Placed
pin_option keys.Cover = Ok items.Placed
pin_option key = passed key

abbrev pub net_option : Key → Result DefItem Code
net_option keys.NonDefaultRule = Ok items.NetRule
net_option keys.Routed = Ok items.Routed
net_option keys.Fixed = Ok items.Routed
net_option keys.Cover = Ok items.Routed
net_option keys.NoShield = Ok items.Routed
net_option keys.SubNet = Err E04
net_option keys.VPin = Err E04
net_option key = passed key

abbrev pub special_option : Key → Result DefItem Code
special_option keys.Use = Ok items.Use
special_option keys.Routed = Ok items.WideRouted
special_option keys.Fixed = Ok items.WideRouted
special_option keys.Cover = Ok items.WideRouted
special_option keys.Shield = Ok items.Shield
special_option keys.Rect = Ok items.NetRect
special_option keys.Via = Ok items.NetVia
special_option keys.Polygon = Err E04
special_option key = passed key

abbrev pub option : Section → Key → Result DefItem Code
option sections.Vias key = via_option key
option sections.Rules key = rule_option key
option sections.Comps key = comp_option key
option sections.Pins key = pin_option key
option sections.Specials key = special_option key
option sections.Nets key = net_option key

abbrev pub passed_on : Key → Result DefItem Code
passed_on keys.Plus = Ok (items.Token stages.Option)
passed_on keys.Semicolon = Ok items.EntryDone
passed_on _ = Ok (items.Token stages.Passed)

-- ---- paths, and vias at points

abbrev pub paths_end : Key → DefItem
paths_end keys.Plus = items.PathsDone
paths_end _ = items.PathsEntryDone

abbrev pub path : Key → Result (Option PathItem) Code → Result DefItem Code
path key (Ok (Some item)) = Ok (items.Path item)
path key (Ok None) = Ok (paths_end key)
path key (Err code) = Err code

abbrev pub wiring : Wiring → Key → Result DefItem Code
wiring w key = path key (begins_path w key)

-- special paths, or none
abbrev pub paths : Wiring → Key → Result DefItem Code
paths w keys.Plus = Ok (items.Token stages.Option)
paths w keys.Semicolon = Ok items.EntryDone
paths w key = wiring w key

abbrev pub via_first : Key → Result DefItem Code
via_first keys.Open = Ok items.NetViaPoint
via_first _ = Err E03

abbrev pub via_head : Key → Result DefItem Code
via_head key = if is_orientation key then Ok items.NetViaOrient else via_first key

abbrev pub via_points : Key → Result DefItem Code
via_points keys.Open = Ok items.NetViaPoint
via_points key = options key

-- ---- all of them

abbrev pub begins_in : Stage → Draft → Key → Lexeme → Result DefItem Code
begins_in stages.Top v key word = top v.header key
begins_in stages.Over v key word = over key
begins_in stages.EndOfFile v key word = end v.header key
begins_in stages.Skipped v key word = Ok (skipped key)
begins_in stages.SkippedEnd v key word = Ok (skipped_end v.skipped key word.bytes)
begins_in stages.Extension v key word = extension key
begins_in stages.Section v key word = section key
begins_in stages.SectionEnd v key word = section_end v.section key
begins_in stages.Name v key word = name v.section v.lists key word.bytes
begins_in stages.Connections v key word = connections v.section key
begins_in stages.Connection v key word = connection key
begins_in stages.Options v key word = options key
begins_in stages.Option v key word = option v.section key
begins_in stages.Passed v key word = passed_on key
begins_in stages.Paths v key word = paths v.wiring key
begins_in stages.Wiring v key word = wiring v.wiring key
begins_in stages.ViaHead v key word = via_head key
begins_in stages.ViaFirst v key word = via_first key
begins_in stages.ViaPoints v key word = via_points key

unfoldable pub begins : Draft → Key → Lexeme → Result DefItem Code
begins v key word = begins_in v.stage v key word
