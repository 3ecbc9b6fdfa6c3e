-- The items of a DEF file, part by part (LEF/DEF 5.8 Language Reference, chapter 'DEF Syntax').
use Rattle.std.specs.Prelude.{List, [], ◌∷◌}
use Rattle.rc_wire.specs.declared.part.Part.{Part}
use Rattle.rc_wire.specs.declared.part.Part.TheVariants as parts
use Rattle.rc_wire.specs.declared.part.When.TheVariants as whens
use Rattle.rc_wire.specs.Paths.{form_of as form_of_path}
use Rattle.rc_def.specs.declared.item.DefItem.{DefItem}
use Rattle.rc_def.specs.declared.item.DefItem.TheVariants as items

-- ( x y )
abbrev pub and_point : List Part → List Part
and_point more = parts.Open ∷ parts.Whole ∷ parts.Whole ∷ parts.Close ∷ more

-- pt pt
abbrev pub corners : List Part
corners = and_point (and_point [])

-- how an item is written
unfoldable pub form_of : DefItem → List Part
-- DESIGN n ;
form_of items.Design = parts.First ∷ parts.Name ∷ parts.Semicolon ∷ []
-- UNITS DISTANCE MICRONS d ;
form_of items.Units = parts.First ∷ parts.Distance ∷ parts.Microns ∷ parts.Above0 ∷ parts.Semicolon ∷ []
-- DIVIDERCHAR "c" ;  BUSBITCHARS "lr" ;
form_of items.DividerChar = parts.First ∷ parts.Divider ∷ parts.Semicolon ∷ []
form_of items.BusBitChars = parts.First ∷ parts.BusBits ∷ parts.Semicolon ∷ []
-- the word of a section, a word for the count, ;
form_of (items.Head section) = parts.First ∷ parts.Choice ∷ parts.Semicolon ∷ []
-- the word of what is skipped
form_of items.Skip = parts.Name ∷ []
-- the name of an entry, and in COMPONENTS - c m
form_of items.Entry = parts.Name ∷ []
form_of items.Component = parts.Name ∷ parts.SecondName ∷ []
-- VIAS: + RECT l [+ MASK n] pt pt
form_of items.ViaRect = parts.First ∷ parts.Name ∷ parts.Maybe whens.Plus 3 ∷ parts.First ∷ parts.Mask ∷ parts.Passed ∷ corners
-- + VIARULE g, + CUTSIZE cx cy, + LAYERS b c t
form_of items.ViaRule = parts.First ∷ parts.Name ∷ []
form_of items.CutSize = parts.First ∷ parts.Above0 ∷ parts.Above0 ∷ []
form_of items.Layers = parts.First ∷ parts.Name ∷ parts.SecondName ∷ parts.ThirdName ∷ []
-- + CUTSPACING sx sy, + ENCLOSURE bx by tx ty, + ROWCOL r c
form_of items.CutSpacing = parts.First ∷ parts.AtLeast0 ∷ parts.AtLeast0 ∷ []
form_of items.Enclosure = parts.First ∷ parts.AtLeast0 ∷ parts.AtLeast0 ∷ parts.AtLeast0 ∷ parts.AtLeast0 ∷ []
form_of items.RowCol = parts.First ∷ parts.UpTo1024 ∷ parts.UpTo1024 ∷ []
-- NONDEFAULTRULES: + LAYER l WIDTH w
form_of items.LayerWidth = parts.First ∷ parts.Name ∷ parts.Width ∷ parts.Above0 ∷ []
-- COMPONENTS and PINS: + PLACED, + FIXED or + COVER pt orient
form_of items.Placed = parts.First ∷ and_point (parts.Orientation ∷ [])
-- PINS: + DIRECTION d
form_of items.Direction = parts.First ∷ parts.Direction ∷ []
-- + LAYER l [MASK n] [SPACING n or DESIGNRULEWIDTH n] pt pt
form_of items.PinRect = parts.First ∷ parts.Name ∷ parts.Maybe whens.Mask 2 ∷ parts.First ∷ parts.Passed ∷ parts.Maybe whens.Spacing 2 ∷ parts.First ∷ parts.Passed ∷ corners
-- NETS: ( c p [+ SYNTHESIZED] ) and ( PIN p )
form_of items.Connection = parts.First ∷ parts.Name ∷ parts.SecondName ∷ parts.Maybe whens.Plus 2 ∷ parts.First ∷ parts.Synthesized ∷ parts.Close ∷ []
-- + NONDEFAULTRULE r
form_of items.NetRule = parts.First ∷ parts.Name ∷ []
-- SPECIALNETS: + USE u, + SHIELD n
form_of items.Use = parts.First ∷ parts.Choice ∷ []
form_of items.Shield = parts.First ∷ parts.Name ∷ []
-- + RECT l pt pt
form_of items.NetRect = parts.First ∷ parts.Name ∷ corners
-- + VIA v [orient] pt..
form_of items.NetVia = parts.First ∷ parts.Name ∷ []
form_of items.NetViaOrient = parts.Orientation ∷ []
form_of items.NetViaPoint = parts.First ∷ parts.Whole ∷ parts.Whole ∷ parts.Close ∷ []
-- an item of a path
form_of (items.Path item) = form_of_path item
-- one token
form_of _ = parts.First ∷ []
