-- The lines on the standard error.
use Rattle.std.specs.Prelude.{ℕ, Bool, false, not, ◌==◌, ◌&&◌, List, [], ◌∷◌, ◌++◌, Option, Some, None, codes, option_map, slice_get, unwrap_or}
use Rattle.std.specs.Fmt.{decimal, signed_decimal}
use Rattle.std.specs.List.{find, flat_map}
use Rattle.std.specs.Option.{option_map_or}
use Rattle.rc_keys.specs.declared.fault.Refusal.{Refusal}
use Rattle.rc_keys.specs.declared.fault.Refusal.TheVariants.{At, NoRules, Short, Limit}
use Rattle.rc_keys.specs.Names.{code_name, quantity_name}
use Rattle.rc_lef.specs.declared.tech.Layer.{Layer}
use Rattle.rc_lef.specs.declared.tech.LayerKind.{LayerKind}
use Rattle.rc_lef.specs.declared.tech.LayerKind.TheVariants as kinds
use Rattle.rc_layout.specs.declared.net.Net.{Net}
use Rattle.rc_layout.specs.Layouts.{Wired}
use Rattle.rc_layout.specs.Metal.{all_nets}
use Rattle.rc_session.specs.Replies.{refusal_code}

-- the words have no listed form
abbrev pub usage_line : List ℕ
usage_line = codes "rcx: usage\n"

-- memory ran out
abbrev pub no_memory_line : List ℕ
no_memory_line = codes "rcx: no memory\n"

-- the file of that name failed
abbrev pub read_fault_line : List ℕ → List ℕ
read_fault_line name = codes "rcx: read fault " ++ name ++ codes "\n"

-- ---- names

-- what layers and nets are called, by their numbers; cut layers and routing layers are numbered apart
pub record Names : Type 0 where
  pub layer : Bool → ℕ → List ℕ
  pub net : ℕ → List ℕ

-- nothing has a name as long as there is no layout
abbrev pub no_names : Names
no_names = record { layer = λ cut number. []; net = λ number. [] }

-- a cut layer, or else a routing layer, of that number
abbrev pub is_layer : Bool → ℕ → LayerKind → Bool
is_layer cut number (kinds.Routing other) = not cut && (other == number)
is_layer cut number (kinds.Cut other) = cut && (other == number)
is_layer cut number kinds.Other = false

-- the layer of a kind and a number, and its name
unfoldable pub layer_at : List Layer → Bool → ℕ → Option Layer
layer_at layers cut number = find (λ (layer : Layer). is_layer cut number layer.kind) layers

abbrev pub layer_name : List Layer → Bool → ℕ → List ℕ
layer_name layers cut number = option_map_or (λ (layer : Layer). layer.name) (layer_at layers cut number) []

-- the name of a net; grounded nets have the numbers behind those of the others
abbrev pub net_name : Wired → ℕ → List ℕ
net_name wired number = unwrap_or (option_map (λ (net : Net). net.name) (slice_get (all_nets wired) number)) []

-- the names of a layout, as they stand in its files
abbrev pub names_of : Wired → Names
names_of wired = record { layer = layer_name wired.parts.tech.layers; net = net_name wired }

abbrev pub names_in : Option Wired → Names
names_in None = no_names
names_in (Some wired) = names_of wired

-- ---- refusals

-- what a refusal names, word by word: a file and a line; a layer; two nets, their layer and their place, in units of 1/M
-- micron; a quantity
abbrev pub refusal_words : Names → List ℕ → Refusal → List (List ℕ)
refusal_words names file (At code line) = file ∷ decimal line ∷ []
refusal_words names file (NoRules cut number) = names.layer cut number ∷ []
refusal_words names file (Short first second layer x y) =
    names.net first ∷ names.net second ∷ names.layer false layer ∷ signed_decimal x ∷ signed_decimal y ∷ []
refusal_words names file (Limit what) = quantity_name what ∷ []

-- a blank before each word
abbrev pub spaced : List (List ℕ) → List ℕ
spaced words = flat_map (λ word. 32 ∷ word) words

-- the code, and what the refusal names
abbrev pub refusal_line : Names → List ℕ → Refusal → List ℕ
refusal_line names file refusal =
    codes "rcx: " ++ code_name (refusal_code refusal) ++ spaced (refusal_words names file refusal) ++ codes "\n"
