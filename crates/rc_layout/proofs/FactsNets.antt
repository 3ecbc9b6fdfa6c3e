-- Nets that are linked belong to the layout, and those that aren't special are tied.
use Rattle.std.proofs.Common.{◌≡◌, inl, inr, ℕ, ℤ, zero, suc, ◌*◌, ◌<◌, ◌≤◌, ◌^◌, ◌<ℤ◌, List, [], length, refl, subst, arith}
use Rattle.std.proofs.Math.Nat.{mul-lt-mul_of_pos_left}
use Rattle.std.proofs.lemmas.Int.{ints}
use Rattle.std.proofs.lemmas.List.Elements.{All-nil}
use Rattle.std.specs.Prelude.{All, None, pos, negsuc, Ok}
use Rattle.rc_geom.specs.declared.rect.Pt.{Pt}
use Rattle.rc_geom.specs.declared.rect.Rect.{Rect}
use Rattle.rc_geom.specs.declared.orient.Orient.{Orient}
use Rattle.rc_geom.specs.Bounds.{is_point}
use Rattle.rc_wire.specs.Forms.{IsRegular, IsSpecial}
use Rattle.rc_def.specs.Forms.{IsBox, IsRawNet}
use Rattle.rc_def.specs.declared.raw_net.RawNet.{RawNet}
use Rattle.rc_layout.specs.declared.net.Conn.{Conn}
use Rattle.rc_layout.specs.declared.net.Net.{Net}
use Rattle.rc_layout.specs.declared.parts.Parts.{Parts}
use Rattle.rc_layout.specs.declared.wiring.Wiring.{Wiring}
use Rattle.rc_layout.specs.Drawn.{lone_patch}
use Rattle.rc_layout.specs.Entries.{link_conn, at_first, net_of, link_net, with_rect, with_lone_via, link_special}
use Rattle.rc_layout.specs.Facts.{HasConn, HasRule, Belongs, AreSound}
use Rattle.rc_layout.specs.Nets.{IsWellFormed, IsTied}
use Rattle.rc_layout.specs.Paths.{with_via}
use Rattle.rc_layout.specs.Refusals.{too_far, each}
use Rattle.rc_layout.specs.Units.{scaled, scaled_point, scaled_rect}
use Rattle.rc_layout.proofs.FactsChains.{same_ok, bound, passed, kept, each_is}
use Rattle.rc_layout.proofs.FactsItems.{HasArea, lone_is, point_is}
use Rattle.rc_layout.proofs.FactsLayers.{routing_is}
use Rattle.rc_layout.proofs.FactsWiring.{IsDrawn, AreTied, item_more, near_laid}
use Rattle.rc_layout.proofs.FactsVias.{Grows, via_found, via_kept}
use Rattle.rc_layout.proofs.FactsPaths.{paths_are, routing_there}
use Rattle.rc_layout.proofs.FactsConns.{conn_is, at_first_all, at_first_few, each_length, rule_is}

-- ---- a net, but for the number of its items

abbrev pub wiring_of : Net → Wiring
wiring_of net = record { points = net.points; vias = net.vias; items = net.items }

pub record IsDrawnNet (parts : Parts) (net : Net) : Type 0 where
  pub drawn : IsDrawn parts (wiring_of net)
  pub rule : HasRule parts net.rule
  pub conns : All (HasConn parts) net.conns
  pub few_conns : length net.conns ≤ 2 ^ 30

pub formed : (parts : Parts) (net : Net) → IsDrawnNet parts net → length net.items ≤ 2 ^ 22 → IsWellFormed net
formed parts net is few = record {
  items = λ k d within. (is.drawn.items k d within).0;
  points = λ k d within. ((is.drawn.points k d within).0, (is.drawn.points k d within).1);
  vias = λ k d within. (is.drawn.vias k d within).0;
  few_items = few;
  few_conns = is.few_conns;
}

pub belongs : (parts : Parts) (net : Net) → IsDrawnNet parts net → length net.items ≤ 2 ^ 22 → Belongs parts net
belongs parts net is few = record {
  formed = formed parts net is few;
  item_layers = λ k d within. (is.drawn.items k d within).1;
  point_layers = λ k d within. (is.drawn.points k d within).2;
  rule = is.rule;
  conns = is.conns;
  vias = λ k d within. (is.drawn.vias k d within).1;
}

pub tied : (parts : Parts) (net : Net) → IsDrawnNet parts net → AreTied (wiring_of net) → length net.items ≤ 2 ^ 22 → IsTied net
tied parts net is are few = record { formed = formed parts net is few; ends = are }

-- ---- a net that isn't special

pub record IsOwn (parts : Parts) (name : List ℕ) (net : Net) : Type 0 where
  pub drawn : IsDrawnNet parts net
  pub tied : AreTied (wiring_of net)
  pub name_is : net.name ≡ name

conns_are : (parts : Parts) (raw : RawNet) (conns : List Conn) → each (link_conn parts raw.line) raw.conns ≡ Ok conns → All (HasConn parts) conns
conns_are parts raw conns e =
    each_is (link_conn parts raw.line) (λ _. Unit {0}) (HasConn parts) (λ x y _ h. conn_is parts raw.line x y h) raw.conns conns (λ k d within. tt) e

pub net_is : (parts : Parts) (raw : RawNet) (net : Net) → AreSound parts → IsRawNet IsRegular raw → link_net parts raw ≡ Ok net → IsOwn parts raw.name net
unfolding link_net
net_is parts raw net sound form e =
    let (rule, ruled, more) = bound _ _ _ e in
    let (conns, conned, more') = bound _ _ _ more in
    let (w, drew, end) = bound _ _ _ more' in
    let drawing = paths_are parts rule raw.paths w sound (λ k d within. inl (form.paths k d within)) drew in
    let few = at_first_few conns in
    let long = each_length (link_conn parts raw.line) raw.conns conns conned in
    let bounded = form.few in
    subst (λ (n : Net). IsOwn parts raw.name n) (same_ok (net_of raw raw.rule (at_first conns) w) net end) (record {
      drawn = record {
        drawn = drawing.drawn;
        rule = rule_is parts raw.line raw.rule rule ruled;
        conns = at_first_all (HasConn parts) conns (conns_are parts raw conns conned);
        few_conns = omega (arith, few, long, bounded);
      };
      tied = drawing.tied;
      name_is = refl;
    })

-- ---- a special net

scaled_more : (k : ℕ) (a b : ℤ) → 1 ≤ k → a <ℤ b → scaled k a <ℤ scaled k b
scaled_more zero a b some lt = absurd (omega (arith, some))
scaled_more (suc k) (pos a) (pos b) some lt =
    let e : a < b = omega (arith, ints, lt) in
    let f : suc k * a < suc k * b = mul-lt-mul_of_pos_left e (omega arith) in
    omega (arith, ints, f)
scaled_more (suc k) (pos a) (negsuc b) some lt = absurd (omega (arith, ints, lt))
scaled_more (suc k) (negsuc a) (pos b) some lt = omega (arith, ints)
scaled_more (suc k) (negsuc a) (negsuc b) some lt =
    let e : suc b < suc a = omega (arith, ints, lt) in
    let f : suc k * suc b < suc k * suc a = mul-lt-mul_of_pos_left e (omega arith) in
    omega (arith, ints, f)

pub box_area : (k : ℕ) (r : Rect) → 1 ≤ k → IsBox r → HasArea (scaled_rect k r)
box_area k r some box = record { wide = scaled_more k r.x0 r.x1 some box.wide; high = scaled_more k r.y0 r.y1 some box.high }

next_rect : (parts : Parts) (line : ℕ) (s t : Wiring) (r : List ℕ × Rect) → AreSound parts → IsDrawn parts s → IsBox r.1 → with_rect parts line s r ≡ Ok t → IsDrawn parts t
next_rect parts line s t r sound drawn box e =
    let (layer, named, more) = bound _ _ _ e in
    let has = routing_there parts.tech.layers line r.0 layer named in
    let laid = near_laid s t (lone_patch layer (scaled_rect parts.factor r.1)) more in
    let few = (routing_is parts.tech.layers layer sound.tech.ranges.layers has).few in
    subst (λ (w : Wiring). IsDrawn parts w) laid.1
    (item_more parts s (lone_patch layer (scaled_rect parts.factor r.1)) drawn (lone_is layer (scaled_rect parts.factor r.1) few (box_area parts.factor r.1 sound.factor box) laid.0, has))

whatever : Grows (λ w. Unit {0})
whatever = record { points = λ w more is. tt; vias = λ w more is. tt; items = λ w item is ends. tt }

next_lone_via : (parts : Parts) (line : ℕ) (s t : Wiring) (v : List ℕ × Orient × Pt) → AreSound parts → IsDrawn parts s → with_lone_via parts line s v ≡ Ok t → IsDrawn parts t
next_lone_via parts line s t v sound drawn e =
    let (found, named, more) = bound _ _ _ e in
    let near = passed (is_point (scaled_point parts.factor v.2)) too_far (with_via found v.1 (scaled_point parts.factor v.2) s) t more in
    (via_kept (λ w. Unit {0}) whatever parts found v.1 (scaled_point parts.factor v.2) s t (via_found parts line v.0 found sound named) (point_is (scaled_point parts.factor v.2) near.0) drawn tt near.1).drawn

pub record IsGrounded (parts : Parts) (name : List ℕ) (net : Net) : Type 0 where
  pub drawn : IsDrawnNet parts net
  pub name_is : net.name ≡ name

pub special_is : (parts : Parts) (raw : RawNet) (net : Net) → AreSound parts → IsRawNet IsSpecial raw → link_special parts raw ≡ Ok net → IsGrounded parts raw.name net
unfolding link_special
special_is parts raw net sound form e =
    let (w, drew, more) = bound _ _ _ e in
    let (u, rects, more') = bound _ _ _ more in
    let (v, vias, end) = bound _ _ _ more' in
    let drawing = paths_are parts None raw.paths w sound (λ k d within. inr (form.paths k d within)) drew in
    let with_rects =
    kept (with_rect parts raw.line) (IsDrawn parts) (λ (r : List ℕ × Rect). IsBox r.1) (λ s t x so_far box h. next_rect parts raw.line s t x sound so_far box h) w u raw.rects drawing.drawn form.rects rects in
    let with_vias =
    kept (with_lone_via parts raw.line) (IsDrawn parts) (λ (x : List ℕ × Orient × Pt). Unit {0}) (λ s t x so_far _ h. next_lone_via parts raw.line s t x sound so_far h) u v raw.vias with_rects (λ k d within. tt) vias in
    subst (λ (n : Net). IsGrounded parts raw.name n) (same_ok (net_of raw None [] v) net end) (record {
      drawn = record { drawn = with_vias; rule = tt; conns = All-nil (HasConn parts); few_conns = omega arith };
      name_is = refl;
    })
