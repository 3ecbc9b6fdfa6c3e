-- Linking as a whole, by what its parts do.
use Rattle.std.proofs.Common.{◌≡◌, List, [], refl, sym, ap, ◌∙◌}
use Rattle.std.specs.Prelude.{Ok, Err}
use Rattle.rc_keys.specs.declared.fault.Fault.{Fault}
use Rattle.rc_keys.specs.declared.fault.Fault.TheVariants.{Refused, NoMemory}
use Rattle.rc_def.specs.declared.design.RawDesign.{RawDesign}
use Rattle.rc_def.specs.Forms.{IsRawDesign}
use Rattle.rc_lef.specs.Facts.{IsSound}
use Rattle.rc_lef.specs.Technology.{Technology}
use Rattle.rc_layout.specs.declared.net.Net.{Net}
use Rattle.rc_layout.specs.declared.parts.Parts.{Parts}
use Rattle.rc_layout.specs.Entries.{link_special}
use Rattle.rc_layout.specs.Facts.{IsLayout}
use Rattle.rc_layout.specs.Layouts.{Wired, head_of, lists_of, linked, link_parts, nets_linked, net_linked, within_limits}
use Rattle.rc_def.specs.declared.raw_net.RawNet.{RawNet}
use Rattle.rc_layout.specs.Refusals.{Linked, Leaves, Links, each, through, ◌>>=◌}
use Rattle.rc_layout.proofs.FactsChains.{bound}
use Rattle.rc_layout.proofs.FactsLink.{limits_give}

assoc : {A B C : Type 0} (m : Linked A) (f : A → Linked B) (g : B → Linked C) → (m >>= λ a. f a >>= g) ≡ ((m >>= f) >>= g)
assoc (Ok a) f g = refl
assoc (Err r) f g = refl

whole : (tech : Technology) (raw : RawDesign) (parts : Parts) → link_parts tech (head_of raw) (lists_of raw) ≡ Ok parts → linked tech raw ≡ (nets_linked parts raw.specials raw.nets >>= λ wired. within_limits wired)
unfolding linked
whole tech raw parts e =
    rw e (assoc (each (link_special parts) raw.specials) (λ specials. through (net_linked raw.specials) (record { parts = parts; nets = []; grounded = specials }) raw.nets) (λ wired. within_limits wired))

pub parts_refused : (tech : Technology) (raw : RawDesign) (fault : Fault) → Links {A = Parts} (Err fault) (link_parts tech (head_of raw) (lists_of raw)) → Links {A = Wired} (Err fault) (linked tech raw)
unfolding linked
parts_refused tech raw (Refused r) e = rw e refl
parts_refused tech raw NoMemory e = tt

pub nets_refused :
    (tech : Technology) (raw : RawDesign) (parts : Parts) (fault : Fault) → link_parts tech (head_of raw) (lists_of raw) ≡ Ok parts → Links {A = Wired} (Err fault) (nets_linked parts raw.specials raw.nets)
    → Links {A = Wired} (Err fault) (linked tech raw)
nets_refused tech raw parts (Refused r) first e = whole tech raw parts first ∙ ap (λ q. q >>= λ wired. within_limits wired) e
nets_refused tech raw parts NoMemory first e = tt

pub all_linked :
    (tech : Technology) (raw : RawDesign) (parts : Parts) (wired : Wired) (end : Linked Wired) → link_parts tech (head_of raw) (lists_of raw) ≡ Ok parts → nets_linked parts raw.specials raw.nets ≡ Ok wired → within_limits wired ≡ end
    → linked tech raw ≡ end
all_linked tech raw parts wired end first second last = whole tech raw parts first ∙ ap (λ q. q >>= λ wired. within_limits wired) second ∙ last

pub limits_keep :
    (tech : Technology) (raw : RawDesign) (parts : Parts) (wired : Wired) → IsSound tech → IsRawDesign raw → link_parts tech (head_of raw) (lists_of raw) ≡ Ok parts → nets_linked parts raw.specials raw.nets ≡ Ok wired
    → (after : Wired) → within_limits wired ≡ Ok after → IsLayout after
limits_keep tech raw parts wired sound form first second after end =
    let (specials, e_specials, e_nets) =
    bound (each (link_special parts) raw.specials) (λ specials. through (net_linked raw.specials) (record { parts = parts; nets = []; grounded = specials }) raw.nets) wired second in
    limits_give tech raw parts specials wired sound form first e_specials e_nets after end

-- ---- nets

pub specials_refused :
    (parts : Parts) (specials items raws : List RawNet) (fault : Fault) → items ≡ specials → Links {A = List Net} (Err fault) (each (link_special parts) items) → Links {A = Wired} (Err fault) (nets_linked parts specials raws)
specials_refused parts specials items raws (Refused r) same e =
    ap (λ q. q >>= λ (grounded : List Net). through (net_linked specials) (record { parts = parts; nets = []; grounded = grounded }) raws)
    (sym (ap (λ (l : List RawNet). each (link_special parts) l) same) ∙ e)
specials_refused parts specials items raws NoMemory same e = tt

pub others_refused :
    (parts : Parts) (specials items table raws : List RawNet) (fault : Fault) (grounded start : List Net) (new : Wired) → items ≡ specials → table ≡ specials → start ≡ [] → each (link_special parts) items ≡ Ok grounded
    → Leaves {T = Unit {0}} (Err fault) new (through (net_linked table) (record { parts = parts; nets = start; grounded = grounded }) raws) → Links {A = Wired} (Err fault) (nets_linked parts specials raws)
others_refused parts specials items table raws (Refused r) grounded start new same known none first e =
    let done : each (link_special parts) specials ≡ Ok grounded = sym (ap (λ (l : List RawNet). each (link_special parts) l) same) ∙ first in
    let refused : through (net_linked specials) (record { parts = parts; nets = []; grounded = grounded }) raws ≡ Err r =
    sym (ap (λ (l : List RawNet). through (net_linked l) (record { parts = parts; nets = start; grounded = grounded }) raws) known
    ∙ ap (λ (ns : List Net). through (net_linked specials) (record { parts = parts; nets = ns; grounded = grounded }) raws) none) ∙ e in
    ap (λ q. q >>= λ (grounded : List Net). through (net_linked specials) (record { parts = parts; nets = []; grounded = grounded }) raws) done ∙ refused
others_refused parts specials items table raws NoMemory grounded start new same known none first e = tt
