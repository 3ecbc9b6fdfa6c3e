-- The meetings of a net's rows and columns are its crossings.
use Rattle.std.proofs.Common.{inl, inr, ⊎_elim, ℕ, true, false, List}
use Rattle.std.specs.Prelude.{All}
use Rattle.rc_keys.specs.declared.fault.Fault.{Fault}
use Rattle.rc_layout.specs.declared.item.Item.{Item}
use Rattle.rc_layout.specs.Items.{IsItem}
use Rattle.rc_nodes.specs.declared.node.Node.{Node}
use Rattle.rc_nodes.specs.declared.centreline.Centreline.{Centreline}
use Rattle.rc_nodes.specs.Nodes.{IsCrossing}
use Rattle.rc_nodes.specs.Crossings.{centrelines_of, HaveSamePlaces, Adds, Either, IsFull, IsMeeting}
use Rattle.rc_nodes.proofs.Crossed.{crossings_are}
use Rattle.rc_nodes.proofs.Crowded.{full_weaker}

pub found_crossings : (items : List Item) (rows columns : List Centreline) (old new : List Node) → All IsItem items → HaveSamePlaces (centrelines_of true items) rows → HaveSamePlaces (centrelines_of false items) columns →
    Adds (IsMeeting rows columns) old new → Adds (IsCrossing items) old new
found_crossings items rows columns old new all same_rows same_columns adds node =
    let is = crossings_are items rows columns node all same_rows same_columns in (
      λ h. ⊎_elim (λ o. inl o) (λ m. inr (is.0 m)) ((adds node).0 h),
      λ h. (adds node).1 (⊎_elim (λ o. inl o) (λ x. inr (is.1 x)) h),
    )

pub full_crossings : (room : ℕ) (items : List Item) (rows columns : List Centreline) (old : List Node) (fault : Fault) → All IsItem items → HaveSamePlaces (centrelines_of true items) rows → HaveSamePlaces (centrelines_of false items) columns →
    IsFull room (Either old (IsMeeting rows columns)) fault → IsFull room (Either old (IsCrossing items)) fault
full_crossings room items rows columns old fault all same_rows same_columns full =
    full_weaker room (Either old (IsMeeting rows columns)) (Either old (IsCrossing items)) fault
    (λ node e. ⊎_elim (λ o. inl o) (λ m. inr ((crossings_are items rows columns node all same_rows same_columns).0 m)) e)
    full
