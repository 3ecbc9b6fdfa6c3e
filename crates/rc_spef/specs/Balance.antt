-- When a value is balanced: each total is the sum of its net's capacitances, and each coupling stands once in both of its nets,
-- with one value.
use Rattle.std.specs.Prelude.{◌≡◌, ◌≢◌, ◌==◌, ◌&&◌, ℕ, Bool, List, Option, option_map, filter_map, sum_by, count_by}
use Rattle.std.specs.List.{AllByRecursion}
use Rattle.rc_spef.specs.declared.value.Spef.{Spef}
use Rattle.rc_spef.specs.declared.value.DNet.{DNet}
use Rattle.rc_spef.specs.declared.value.Cap.{Cap}
use Rattle.rc_spef.specs.declared.value.End.{End}
use Rattle.rc_spef.specs.SameTests.{same_sub}

-- a coupling, between two ends in their order
pub record Coupling : Type 0 where
  pub from : End
  pub to : End
  pub value : ℕ

-- a capacitance with a second end is one
abbrev pub coupling_of : Cap → Option Coupling
coupling_of cap = option_map (λ to. record { from = cap.a; to = to; value = cap.value.0 }) cap.b

unfoldable pub couplings : DNet → List Coupling
couplings net = filter_map coupling_of net.caps

-- the same end, names told by their places
abbrev pub is_end : End → End → Bool
is_end a b = (a.name == b.name) && same_sub a.sub b.sub

-- a coupling from one end to another
unfoldable pub leads : End → End → Coupling → Bool
leads from to coupling = is_end from coupling.from && is_end to coupling.to

-- a coupling the other way round, and one with the same value besides
abbrev pub is_turned : Coupling → Coupling → Bool
is_turned coupling other = leads coupling.to coupling.from other

abbrev pub is_partner : Coupling → Coupling → Bool
is_partner coupling other = is_turned coupling other && (other.value == coupling.value)

abbrev pub has_name : ℕ → DNet → Bool
has_name name net = net.name == name

-- a coupling of a net is paired
pub record IsPaired (nets : List DNet) (net : DNet) (coupling : Coupling) : Type 0 where
  -- it leads from its net to another
  pub own : coupling.from.name ≡ net.name
  pub other : coupling.to.name ≢ net.name
  -- one net alone has the other name; there one coupling stands the other way round, and it has the same value
  pub one : count_by (has_name coupling.to.name) nets ≡ 1
  pub turned : AllByRecursion (λ there. there.name ≡ coupling.to.name → count_by (is_turned coupling) (couplings there) ≡ 1) nets
  pub partner : AllByRecursion (λ there. there.name ≡ coupling.to.name → count_by (is_partner coupling) (couplings there) ≡ 1) nets
  -- and none else in its net has the same ends
  pub alone : count_by (leads coupling.from coupling.to) (couplings net) ≡ 1

abbrev pub total_of : DNet → ℕ
total_of net = sum_by (λ cap. cap.value.0) net.caps

pub record IsBalancedNet (nets : List DNet) (net : DNet) : Type 0 where
  pub total : net.total.0 ≡ total_of net
  pub paired : AllByRecursion (IsPaired nets net) (couplings net)

abbrev pub IsBalanced : Spef → Type 0
IsBalanced spef = AllByRecursion (IsBalancedNet spef.nets) spef.nets
