-- The items of a script, part by part.
use Rattle.std.specs.Prelude.{List, [], ◌∷◌}
use Rattle.rc_wire.specs.declared.part.Part.{Part}
use Rattle.rc_wire.specs.declared.part.Part.TheVariants as parts
use Rattle.rc_wire.specs.Paths.{form_of as form_of_path}
use Rattle.rc_script.specs.declared.item.ScriptItem.{ScriptItem}
use Rattle.rc_script.specs.declared.item.ScriptItem.TheVariants as items

-- how an item is written
unfoldable pub form_of : ScriptItem → List Part
-- REPLACE n
form_of items.Replace = parts.First ∷ parts.Name ∷ []
-- SPEF ;  NET n ;  STAT ;  END ;
form_of items.Spef = parts.First ∷ parts.Semicolon ∷ []
form_of items.Net = parts.First ∷ parts.Name ∷ parts.Semicolon ∷ []
form_of items.Stat = parts.First ∷ parts.Semicolon ∷ []
form_of items.End = parts.First ∷ parts.Semicolon ∷ []
-- an item of a path
form_of (items.Path item) = form_of_path item
-- one token
form_of _ = parts.First ∷ []
