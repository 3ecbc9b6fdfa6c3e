-- The vias of a net, by the nodes of their ends.
use Rattle.std.specs.Prelude.{◌≡◌, ◌↔◌, ℕ, List, [], ◌∷◌, Some, ◌==◌, ◌&&◌, Bool, slice_get, Contains, AllPairs, if◌then◌else◌}
use Rattle.std.specs.List.{enumerate_from, flat_map, list_any}
use Rattle.std.specs.declared.cmp.Ordering.{Ordering}
use Rattle.std.specs.declared.cmp.Ordering.TheVariants.{Less}
use Rattle.std.specs.Ordering.{nat_cmp, on, then_cmp}
use Rattle.rc_geom.specs.declared.rect.Pt.{Pt}
use Rattle.rc_lef.specs.declared.via.Via.{Via}
use Rattle.rc_nodes.specs.declared.node.Node.{Node}
use Rattle.rc_nodes.specs.declared.link.ViaLink.{ViaLink}
use Rattle.rc_nodes.specs.Nodes.{AreInOrder, IsNumber, numbered}
use Rattle.rc_nodes.specs.Wires.{same_point}

-- ---- what they are

-- the via of that number stands at that point
abbrev pub stands_at : ℕ → Pt → ℕ × Pt → Bool
stands_at number at placed = (placed.0 == number) && same_point placed.1 at

-- the via of that number between two numbered nodes: they are its lower and its upper end at a point where it is placed
abbrev pub link_between : List (ℕ × Pt) → ℕ × Node → ℕ × Node → ℕ × Via → List ViaLink
link_between placed lower upper via =
    if (lower.1.layer == via.1.lower) && (upper.1.layer == via.1.upper) && (same_point lower.1.at upper.1.at && list_any (stands_at via.0 lower.1.at) placed)
    then record { lower = lower.0; upper = upper.0; via = via.0 } ∷ []
    else []

-- the placed vias of a net, each once at each point, by the lower node, then the upper one, then the via
unfoldable pub links_of : List Via → List (ℕ × Pt) → List Node → List ViaLink
links_of vias placed nodes =
    flat_map (λ lower. flat_map (λ upper. flat_map (link_between placed lower upper) (enumerate_from 0 vias)) (numbered nodes)) (numbered nodes)

-- ---- the same by their numbers

-- both ends of a via at its point are nodes, and these are their numbers
pub record IsLinkAt (nodes : List Node) (vias : List Via) (placed : ℕ × Pt) (link : ViaLink) : Type 0 where
  pub number : placed.0 ≡ link.via
  pub via : Via
  pub of : slice_get vias placed.0 ≡ Some via
  pub lower : IsNumber nodes link.lower (record { layer = via.lower; at = placed.1 })
  pub upper : IsNumber nodes link.upper (record { layer = via.upper; at = placed.1 })

-- some via of the net is so linked
abbrev pub IsLink : List Node → List Via → List (ℕ × Pt) → ViaLink → Type 0
IsLink nodes vias all link = (placed : ℕ × Pt) × Contains all placed × IsLinkAt nodes vias placed link

-- links stand by the lower node, the upper node and the via
abbrev pub link_cmp : ViaLink → ViaLink → Ordering
link_cmp = then_cmp (on (λ link. link.lower) nat_cmp) (then_cmp (on (λ link. link.upper) nat_cmp) (on (λ link. link.via) nat_cmp))

-- these are the links of placed vias, each once, in order
pub record AreLinks (nodes : List Node) (vias : List Via) (all : List (ℕ × Pt)) (links : List ViaLink) : Type 0 where
  pub order : AllPairs (λ a b. link_cmp a b ≡ Less) links
  pub every : (link : ViaLink) → Contains links link ↔ IsLink nodes vias all link

-- ---- a law

-- a placed via has one link, which is listed, and no other placed via has it
pub record IsLinkedOnce (vias : List Via) (all : List (ℕ × Pt)) (nodes : List Node) (placed : ℕ × Pt) : Type 0 where
  pub link : ViaLink
  pub listed : Contains (links_of vias all nodes) link
  pub at : IsLinkAt nodes vias placed link
  pub only : (other : ViaLink) → IsLinkAt nodes vias placed other → other ≡ link
  pub alone : (other : ℕ × Pt) → IsLinkAt nodes vias other link → other ≡ placed

-- each different via and point whose ends are nodes, as in a net of a layout, has one link of its own
abbrev pub ViasAreLinkedOnce : Type 0
ViasAreLinkedOnce = (vias : List Via) (all : List (ℕ × Pt)) (nodes : List Node) (placed : ℕ × Pt) (via : Via) → AreInOrder nodes → Contains all placed → slice_get vias placed.0 ≡ Some via →
    Contains nodes (record { layer = via.lower; at = placed.1 }) → Contains nodes (record { layer = via.upper; at = placed.1 }) → IsLinkedOnce vias all nodes placed
