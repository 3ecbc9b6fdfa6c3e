-- A net that joins a supply of its name.
use Rattle.std.proofs.Common.{◌≡◌, ◌<◌, ℕ, List, ◌++◌, length, get_or, refl, ap, ◌∙◌, sym, subst}
use Rattle.std.specs.Prelude.{Some, position, slice_get, slice_set}
use Rattle.std.specs.Str.{bytes_eq}
use Rattle.std.proofs.lemmas.List.{set-set}
use Rattle.std.proofs.lemmas.Option.{slice_get-get_or}
use Rattle.rc_def.specs.declared.raw_net.RawNet.{RawNet}
use Rattle.rc_layout.specs.declared.item.Item.{Item}
use Rattle.rc_layout.specs.declared.net.Net.{Net}
use Rattle.rc_layout.specs.Layouts.{joined_at}
use Rattle.rc_layout.specs.Scope.{numbered}

pub joined :
    (grounded : List Net) (place : ℕ) (net old bare : Net) (mid now : List Net) (items : List Item) → slice_get grounded place ≡ Some old → mid ≡ slice_set grounded place bare
    → items ≡ old.items ++ net.items → now ≡ slice_set mid place (record old { items = items }) → now ≡ joined_at place net grounded
joined grounded place net old bare mid now items here first more last =
    let put : slice_set grounded place (record old { items = old.items ++ net.items }) ≡ joined_at place net grounded = rw here refl in
    last ∙ ap (λ (l : List Net). slice_set l place (record old { items = items })) first ∙ set-set grounded place bare (record old { items = items })
    ∙ ap (λ (is : List Item). slice_set grounded place (record old { items = is })) more ∙ put

-- the special net of that name, with its number
pub special_found :
    (specials items : List RawNet) (raw special : RawNet) (name : List ℕ) (place : ℕ) → name ≡ raw.name → items ≡ specials → Some place ≡ position (λ (net : RawNet). bytes_eq name net.name) specials
    → place < length specials → special ≡ get_or items place special → Some (place, special) ≡ numbered (λ (net : RawNet). bytes_eq raw.name net.name) specials
special_found specials items raw special name place called same at within here =
    let found : position (λ (net : RawNet). bytes_eq raw.name net.name) specials ≡ Some place =
    sym (subst (λ (n : List ℕ). Some place ≡ position (λ (net : RawNet). bytes_eq n net.name) specials) called at) in
    let is : slice_get specials place ≡ Some special =
    slice_get-get_or specials place special within ∙ ap (λ (n : RawNet). Some n) (sym (here ∙ ap (λ (l : List RawNet). get_or l place special) same)) in
    rw (found, is) refl
