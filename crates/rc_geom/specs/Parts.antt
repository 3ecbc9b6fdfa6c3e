-- What a face adds, and to which keys.
use Rattle.std.specs.Prelude.{Bool, false, Option, Some, None, List, ◌++◌, nat_lt, ◌==◌, ◌&&◌, if◌then◌else◌, option_map, fold}
use Rattle.std.specs.Option.{option_to_list, option_and_then, option_map_or}
use Rattle.rc_geom.specs.declared.key.Key.{Key}
use Rattle.rc_geom.specs.declared.key.Key.TheVariants.{Ground, Pair}
use Rattle.rc_geom.specs.Plane.{Metal, is_grounded}
use Rattle.rc_geom.specs.Faces.{Face, Seen}
use Rattle.rc_geom.specs.Sums.{Adding}

-- the key of one node; grounded metal has none
abbrev pub node_key : Metal → Option Key
node_key a = if is_grounded a then None else Some (Ground a.0 a.1)

-- the key of two nodes, the one of the lower net first
abbrev pub pair_key : Metal → Metal → Key
pair_key a b = if nat_lt a.0 b.0 then Pair a.0 a.1 b.0 b.1 else Pair b.0 b.1 a.0 a.1

-- the key of what metals of two nets share: the pair of both nodes; where one is grounded, the other's own key
abbrev pub shared_key : Metal → Metal → Option Key
shared_key a b = if is_grounded b then node_key a else if is_grounded a then node_key b else Some (pair_key a b)

-- an amount for a key
pub record Part (V : Type 0) : Type 0 where
  pub key : Key
  pub amount : V

-- what metal sees of another net; of its own net it sees nothing
abbrev pub foreign_metal : Metal → Option Seen → Option Metal
foreign_metal own sight = option_and_then (λ seen. if seen.1.0 == own.0 then None else Some seen.1) sight

abbrev pub part_for : {V : Type 0} → V → Option Key → List (Part V)
part_for amount key = option_to_list (option_map (λ k. record { key = k; amount = amount }) key)

-- a face adds its own amount for its node, and its share for the key that it shares with metal of another net that it sees
abbrev pub parts : {V : Type 0} → Face → V × V → List (Part V)
parts face rate =
    part_for rate.0 (node_key face.own)
    ++ part_for rate.1 (option_and_then (shared_key face.own) (foreign_metal face.own face.sight))

-- both keys are one
abbrev pub same_key : Key → Key → Bool
same_key (Ground net node) (Ground net' node') = (net == net') && (node == node')
same_key (Pair net node other onode) (Pair net' node' other' onode') =
    (net == net') && (node == node') && ((other == other') && (onode == onode'))
same_key _ _ = false

-- the sum, over the parts that have the key, of what their amounts are worth
abbrev pub worth_at : {V W : Type 0} → Adding W → (V → W) → Key → List (Part V) → W
worth_at adding worth key ps =
    fold (λ sum part. if same_key part.key key then adding.plus sum (worth part.amount) else sum) adding.none ps

-- both are the same node of one net
abbrev pub is_metal : Metal → Metal → Bool
is_metal a b = (a.0 == b.0) && (a.1 == b.1)

-- the face sees that metal, and it is of another net
abbrev pub sees : Face → Metal → Bool
sees face a = option_map_or (λ metal. is_metal metal a) (foreign_metal face.own face.sight) false

-- the face sees grounded metal of another net
abbrev pub sees_grounded : Face → Bool
sees_grounded face = option_map_or is_grounded (foreign_metal face.own face.sight) false
