-- The nodes of a net that lie in the rectangles of its pins.
use Rattle.std.specs.Prelude.{◌≡◌, ◌↔◌, ℕ, List, [], ◌∷◌, Some, ◌==◌, ◌&&◌, ◌||◌, Bool, IsTrue, nat_lt, int_lt, map, filter, slice_get, Contains, AllPairs, if◌then◌else◌}
use Rattle.std.specs.List.{enumerate_from, flat_map, list_any}
use Rattle.std.specs.declared.cmp.Ordering.{Ordering}
use Rattle.std.specs.declared.cmp.Ordering.TheVariants.{Less}
use Rattle.std.specs.Ordering.{nat_cmp, on, then_cmp}
use Rattle.rc_geom.specs.declared.rect.Rect.{Rect}
use Rattle.rc_geom.specs.Rects.{touches}
use Rattle.rc_nodes.specs.declared.node.Node.{Node}
use Rattle.rc_nodes.specs.declared.contact.Contact.{Contact}
use Rattle.rc_nodes.specs.Nodes.{IsNumber, numbered}

-- the node lies in the closed rectangle on that layer
abbrev pub is_in : ℕ → Rect → Node → Bool
is_in layer rect node = (node.layer == layer) && touches rect node.at

-- a numbered node touches the pin of a numbered connection where it lies in one of the pin's rectangles
abbrev pub contact_at : ℕ × List (ℕ × Rect) → ℕ × Node → List Contact
contact_at pin node =
    if list_any (λ placed. is_in placed.0 placed.1 node.1) pin.1
    then record { conn = pin.0; node = node.0 } ∷ []
    else []

-- the contacts of a net, by the connection, then by the node: pins has the placed rectangles of each connection's pin
unfoldable pub contacts_of : List (List (ℕ × Rect)) → List Node → List Contact
contacts_of pins nodes = flat_map (λ pin. flat_map (contact_at pin) (numbered nodes)) (enumerate_from 0 pins)

-- ---- how they are found

-- it stands before all that do, or behind them
abbrev pub is_below : ℕ → Rect → Node → Bool
is_below layer rect node = nat_lt node.layer layer || ((node.layer == layer) && int_lt node.at.y rect.y0)

abbrev pub is_above : ℕ → Rect → Node → Bool
is_above layer rect node = nat_lt layer node.layer || ((layer == node.layer) && int_lt rect.y1 node.at.y)

-- the nodes in one rectangle of a pin, and in all of them
abbrev pub hits : List Node → ℕ → ℕ × Rect → List Contact
hits nodes conn placed = map (λ numbered. record { conn = conn; node = numbered.0 }) (filter (λ numbered. is_in placed.0 placed.1 numbered.1) (numbered nodes))

abbrev pub pin_hits : List Node → ℕ × List (ℕ × Rect) → List Contact
pin_hits nodes pin = flat_map (hits nodes pin.0) pin.1

-- a node lies in a rectangle of the pin of that connection
pub record IsContact (nodes : List Node) (pins : List (List (ℕ × Rect))) (contact : Contact) : Type 0 where
  pub rects : List (ℕ × Rect)
  pub pin : slice_get pins contact.conn ≡ Some rects
  pub placed : ℕ × Rect
  pub of : Contains rects placed
  pub node : Node
  pub number : IsNumber nodes contact.node node
  pub inside : IsTrue (is_in placed.0 placed.1 node)

-- contacts stand by connection, then by node
abbrev pub contact_cmp : Contact → Contact → Ordering
contact_cmp = then_cmp (on (λ contact. contact.conn) nat_cmp) (on (λ contact. contact.node) nat_cmp)

pub record AreContacts (nodes : List Node) (pins : List (List (ℕ × Rect))) (contacts : List Contact) : Type 0 where
  pub order : AllPairs (λ a b. contact_cmp a b ≡ Less) contacts
  pub all : (contact : Contact) → Contains contacts contact ↔ IsContact nodes pins contact
