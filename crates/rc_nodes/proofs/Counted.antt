-- The count of a net's tiles.
use Rattle.std.proofs.Common.{◌≡◌, ◌≤◌, ◌<◌, ◌+◌, ℕ, suc, Bool, true, false, cond, List, [], ◌∷◌, map, take, length, get_or, refl, ap, sym, ◌∙◌, arith}
use Rattle.std.specs.Prelude.{All, filter}
use Rattle.std.specs.List.{sum_by}
use Rattle.std.proofs.lemmas.List.{length-map}
use Rattle.std.proofs.lemmas.List.Elements.{All-head, All-tail}
use Rattle.std.proofs.lemmas.List.Sorted.{length_permutation}
use Rattle.std.proofs.lemmas.List.Sums.{sum_by-cons, sum_by_more}
use Rattle.rc_layout.specs.declared.item.Item.{Item}
use Rattle.rc_layout.specs.Items.{is_piece, is_level, IsItem}
use Rattle.rc_nodes.specs.declared.node.Node.{Node}
use Rattle.rc_nodes.specs.declared.line.Tap.{Tap}
use Rattle.rc_nodes.specs.Nodes.{AreInOrder, numbered}
use Rattle.rc_nodes.specs.NetPlane.{nodes_on}
use Rattle.rc_nodes.specs.Lines.{tap_of, lies_on, AreTaps}
use Rattle.rc_nodes.specs.Counts.{item_count, tile_count, tap_count}
use Rattle.rc_nodes.proofs.Found.{length_taps}
use Rattle.rc_nodes.proofs.Wired.{found_taps}

length_kept : {X : Type 0} (p : X → Bool) (xs : List X) → length (filter p xs) ≤ length xs
length_kept p [] = omega arith
length_kept p (x ∷ xs) = by (p x) (length_kept p xs)
  where
    by : (b : Bool) → length (filter p xs) ≤ length xs → length (cond b (x ∷ filter p xs) (filter p xs)) ≤ suc (length xs)
    by true le = omega (arith, le)
    by false le = omega (arith, le)

pub count_small : (rows columns : List Tap) (item : Item) → length rows ≤ 4194304 → length columns ≤ 4194304 → tap_count rows columns item ≤ 4194304
count_small rows columns item few_rows few_columns = by (is_piece item)
  where
    chosen : (b : Bool) → length (cond b rows columns) ≤ 4194304
    chosen true = few_rows
    chosen false = few_columns

    by : (b : Bool) → cond b (length (filter (lies_on item) (cond (is_level item) rows columns))) 1 ≤ 4194304
    by true = let kept = length_kept (lies_on item) (cond (is_level item) rows columns) in let few = chosen (is_level item) in omega (arith, kept, few)
    by false = omega arith

pub count_more : (rows columns : List Tap) (items : List Item) (k : ℕ) (d : Item) (count one : ℕ) → k < length items → count ≡ sum_by (tap_count rows columns) (take k items) → one ≡ tap_count rows columns (get_or items k d) →
    count + one ≡ sum_by (tap_count rows columns) (take (k + 1) items)
count_more rows columns items k d count one lt so_far is =
    ap (λ n. n + one) so_far ∙ (ap (λ n. sum_by (tap_count rows columns) (take k items) + n) is ∙ sym (sum_by_more (tap_count rows columns) items k d lt))

pub few_taps : (level : Bool) (nodes : List Node) (taps : List Tap) → AreTaps level nodes taps → length nodes ≤ 4194304 → length taps ≤ 4194304
few_taps level nodes taps are few = let moved = length_permutation (map (tap_of level) (numbered nodes)) taps are.moved in let all = length_taps (tap_of level) 1 nodes in omega (arith, moved, all, few)

same_count : (nodes : List Node) (rows columns : List Tap) (item : Item) → AreInOrder nodes → AreTaps true nodes rows → AreTaps false nodes columns → IsItem item → tap_count rows columns item ≡ item_count nodes item
same_count nodes rows columns item order by_rows by_columns is =
    ap (λ n. cond (is_piece item) n 1) (ap length (found_taps nodes item rows columns order is by_rows by_columns) ∙ length-map (nodes_on nodes item) (tap_of (is_level item)))

same_counts : (nodes : List Node) (rows columns : List Tap) (items : List Item) → AreInOrder nodes → AreTaps true nodes rows → AreTaps false nodes columns → All IsItem items → sum_by (tap_count rows columns) items ≡ sum_by (item_count nodes) items
same_counts nodes rows columns [] order by_rows by_columns all = refl
same_counts nodes rows columns (item ∷ items) order by_rows by_columns all =
    sum_by-cons (tap_count rows columns) item items
    ∙ (ap (λ n. n + sum_by (tap_count rows columns) items) (same_count nodes rows columns item order by_rows by_columns (All-head IsItem item items all))
    ∙ (ap (λ n. item_count nodes item + n) (same_counts nodes rows columns items order by_rows by_columns (All-tail IsItem item items all))
    ∙ sym (sum_by-cons (item_count nodes) item items)))

pub counts_are : (nodes : List Node) (rows columns : List Tap) (items : List Item) → 0 < length nodes → AreInOrder nodes → AreTaps true nodes rows → AreTaps false nodes columns → All IsItem items → sum_by (tap_count rows columns) items ≡ tile_count nodes items
counts_are [] rows columns items some order by_rows by_columns all = absurd (omega arith)
counts_are (node ∷ nodes) rows columns items some order by_rows by_columns all = same_counts (node ∷ nodes) rows columns items order by_rows by_columns all

pub grounded_count : (nodes : List Node) (items : List Item) → length nodes ≡ 0 → length items ≡ tile_count nodes items
grounded_count [] items none = refl
grounded_count (node ∷ nodes) items none = absurd (omega (arith, none))
