-- What each item of a DEF file leaves of what holds.
use Rattle.std.proofs.Common.{◌≡◌, ◌∙◌, ◌+◌, ◌≤◌, ◌^◌, ℕ, ℤ, Bool, true, false, List, [], ◌∷◌, ◌++◌, length, refl, ap, sym, subst, arith}
use Rattle.std.proofs.lemmas.List.Elements.{All-nil}
use Rattle.std.proofs.Math.ListN.{length-append}
use Rattle.std.specs.Prelude.{All, IfSome, Option, Some, None, Ok}
use Rattle.rc_geom.specs.declared.orient.Orient.TheVariants as orients
use Rattle.rc_geom.specs.Split.{IsCoordinate}
use Rattle.rc_keys.specs.Lexemes.{Lexeme}
use Rattle.rc_wire.specs.declared.key.Key.{Key}
use Rattle.rc_wire.specs.declared.operands.Operands.{Operands}
use Rattle.rc_wire.specs.declared.path.RawPath.{RawPath}
use Rattle.rc_wire.specs.Forms.{IsLength, IsRegular, IsSpecial, IsPathOf}
use Rattle.rc_wire.specs.Items.{Spelled}
use Rattle.rc_wire.specs.Paths.{one_of, point_of, orient_of, no_paths, paths_of, begins as begins_path, means as means_of_path}
use Rattle.rc_wire.proofs.Formed.{no_wiring, item_is as path_item_is, fits as path_fits, same_kind, all_paths}
use Rattle.rc_wire.proofs.Keeping.{Leaves}
use Rattle.rc_wire.proofs.Ranges.{Gives, start, item_says}
use Rattle.rc_def.specs.declared.draft.Draft.{Draft}
use Rattle.rc_def.specs.declared.draft.LayerWidth.{LayerWidth}
use Rattle.rc_def.specs.declared.draft.NetDraft.{NetDraft}
use Rattle.rc_def.specs.declared.draft.PinDraft.{PinDraft}
use Rattle.rc_def.specs.declared.draft.ViaDraft.{ViaDraft}
use Rattle.rc_def.specs.declared.item.DefItem.{DefItem}
use Rattle.rc_def.specs.declared.item.DefItem.TheVariants as items
use Rattle.rc_def.specs.declared.item.Section.{Section}
use Rattle.rc_def.specs.declared.item.Section.TheVariants as sections
use Rattle.rc_def.specs.declared.item.Stage.{Stage}
use Rattle.rc_def.specs.declared.item.Stage.TheVariants as stages
use Rattle.rc_def.specs.Drafts.{no_via, no_pin, no_net, name_of_via, name_of_rule, name_of_comp, name_of_pin, name_of_net, layer_of_width}
use Rattle.rc_def.specs.Forms.{IsWidth, IsCount, IsRawVia, IsRawRule, IsRawComp, IsRawPin, IsRawNet}
use Rattle.rc_def.specs.Items.{corners, form_of}
use Rattle.rc_def.specs.Means.{begins_in, named, enclosure_of, layer_width_of, placement, placed_in, begins_port, with_via_at, via_of, rule_of, comp_of, pin_of, net_of, done_in, with_paths, units_of, direction_of, is_power, means}
use Rattle.rc_def.specs.Parts.{with_new, first, rect_of, with_rect}
use Rattle.rc_def.proofs.Fitting.{inside, in_paths, Fits}
use Rattle.rc_def.proofs.Holding as holding
use Rattle.rc_def.proofs.Holding.{Both, AreEnclosures, IsBoxed, IsWide, IsPlaced, IsSpot, HoldLists, HoldVia, HoldPin, HoldNet, ByKind, IsDraft, is_special, points, ones, enclosures, boxes, one_box, box_count, either_one, one_new, new_count}

-- a fact of the kind that one section has
kind_at : (section kind : Section) (paths : List RawPath) → section ≡ kind → ByKind kind paths → ByKind section paths
kind_at section kind paths e h = subst (λ s. ByKind s paths) (sym e) h

-- pt pt: four coordinates in marks
box_gives : Gives IsCoordinate corners
box_gives = (λ z b. absurd b, (λ z b. b, (λ z b. b, (λ z b. absurd b, (λ z b. absurd b, (λ z b. b, (λ z b. b, (λ z b. absurd b, tt))))))))

-- ---- the beginning of an entry

module _ (n : ℕ) (v : Draft) (said : Operands) (h : IsDraft n v) where
  entry_begins : (section : Section) → v.section ≡ section → Leaves IsDraft n (begins_in section said (named said v))
  entry_begins sections.Vias e =
      holding.at_stage n (record (named said v) { via = no_via }) (holding.put_via n (named said v) h no_via (holding.nothing_via n)) stages.Options refl (λ s. kind_at v.section sections.Vias v.net.paths e tt)
  entry_begins sections.Rules e =
      holding.at_stage n (record (named said v) { widths = [] }) (holding.put_widths n (named said v) h [] (All-nil IsWide)) stages.Options refl (λ s. kind_at v.section sections.Rules v.net.paths e tt)
  entry_begins sections.Comps e =
      holding.at_stage n (record (named said v) { cell = said.second; at = None }) (holding.put_at n (record (named said v) { cell = said.second }) h None tt) stages.Options refl (λ s. kind_at v.section sections.Comps v.net.paths e tt)
  entry_begins sections.Pins e =
      holding.at_stage n (record (named said v) { pin = no_pin }) (holding.put_pin n (named said v) h no_pin holding.nothing_pin) stages.Options refl (λ s. kind_at v.section sections.Pins v.net.paths e tt)
  entry_begins sections.Specials e =
      holding.at_stage n (record (named said v) { net = no_net }) (holding.put_net n (named said v) h no_net (holding.nothing_net n) (λ s. holding.nothing_kind v.section)) stages.Connections refl (λ s. holding.nothing_kind v.section)
  entry_begins sections.Nets e =
      holding.at_stage n (record (named said v) { net = no_net }) (holding.put_net n (named said v) h no_net (holding.nothing_net n) (λ s. holding.nothing_kind v.section)) stages.Connections refl (λ s. holding.nothing_kind v.section)

-- ---- the end of an entry

-- the entry's token is one of them
module _ (n m : ℕ) (v : Draft) (more : n + 1 ≤ m) (le : m ≤ 2 ^ 30) (h : IsDraft n (record v { stage = stages.Option })) where
  l : HoldLists n v.lists
  l = h.lists_is

  fits_m : n ≤ m
  fits_m = omega arith

  fits_30 : n ≤ 2 ^ 30
  fits_30 = omega arith

  grown : IsDraft m (record v { stage = stages.Option })
  grown = holding.grown n m (record v { stage = stages.Option }) fits_m h

  few_vias : length v.lists.vias ≤ m
  few_vias = let f = l.few in omega arith

  entry_ends : (section : Section) → v.section ≡ section → IsDraft m (record (done_in section v) { stage = stages.Section })
  entry_ends sections.Vias e =
      let via = via_of v.name v.line v.via in
      let is : IsRawVia via = holding.via_is_raw n v.name v.line v.via fits_30 h.via_is in
      let lists = record v.lists { vias = with_new name_of_via v.lists.vias via } in
      let few : length (with_new name_of_via v.lists.vias via) ≤ m = (let f = new_count n name_of_via v.lists.vias via l.few in omega arith) in
      let list : HoldLists m lists = record { few = few; vias = one_new IsRawVia name_of_via v.lists.vias via l.vias is; rules = l.rules; comps = l.comps; pins = l.pins; specials = l.specials; nets = l.nets } in
      let a = holding.put_lists m (record v { stage = stages.Option }) grown lists list in
      let b = holding.put_via m (record v { stage = stages.Option; lists = lists }) a no_via (holding.nothing_via m) in
      holding.goes_out m (record v { stage = stages.Option; lists = lists; name = []; via = no_via }) b stages.Section v.section refl refl
  entry_ends sections.Rules e =
      let rule = rule_of v in
      let is : IsRawRule rule = record { widths = holding.widths_are_raw v.widths h.widths_is } in
      let lists = record v.lists { rules = with_new name_of_rule v.lists.rules rule } in
      let list : HoldLists m lists = record { few = few_vias; vias = l.vias; rules = one_new IsRawRule name_of_rule v.lists.rules rule l.rules is; comps = l.comps; pins = l.pins; specials = l.specials; nets = l.nets } in
      let a = holding.put_lists m (record v { stage = stages.Option }) grown lists list in
      let b = holding.put_widths m (record v { stage = stages.Option; lists = lists }) a [] (All-nil IsWide) in
      holding.goes_out m (record v { stage = stages.Option; lists = lists; name = []; widths = [] }) b stages.Section v.section refl refl
  entry_ends sections.Comps e =
      let comp = comp_of v in
      let is : IsRawComp comp = record { at = h.at_is } in
      let lists = record v.lists { comps = with_new name_of_comp v.lists.comps comp } in
      let list : HoldLists m lists = record { few = few_vias; vias = l.vias; rules = l.rules; comps = one_new IsRawComp name_of_comp v.lists.comps comp l.comps is; pins = l.pins; specials = l.specials; nets = l.nets } in
      let a = holding.put_lists m (record v { stage = stages.Option }) grown lists list in
      holding.goes_out m (record v { stage = stages.Option; lists = lists; name = []; cell = [] }) a stages.Section v.section refl refl
  entry_ends sections.Pins e =
      let pin = pin_of v.name v.line v.pin in
      let is : IsRawPin pin = holding.pin_is_raw v.name v.line v.pin h.pin_is in
      let lists = record v.lists { pins = with_new name_of_pin v.lists.pins pin } in
      let list : HoldLists m lists = record { few = few_vias; vias = l.vias; rules = l.rules; comps = l.comps; pins = one_new IsRawPin name_of_pin v.lists.pins pin l.pins is; specials = l.specials; nets = l.nets } in
      let a = holding.put_lists m (record v { stage = stages.Option }) grown lists list in
      let b = holding.put_pin m (record v { stage = stages.Option; lists = lists }) a no_pin holding.nothing_pin in
      holding.goes_out m (record v { stage = stages.Option; lists = lists; name = []; pin = no_pin }) b stages.Section v.section refl refl
  entry_ends sections.Specials e =
      let net = net_of v.name v.line v.net in
      let paths : All IsSpecial v.net.paths = subst (λ k. ByKind k v.net.paths) e (h.paths_is refl) in
      let is : IsRawNet IsSpecial net = holding.net_is_raw IsSpecial n v.name v.line v.net fits_30 h.net_is paths in
      let lists = record v.lists { specials = with_new name_of_net v.lists.specials net } in
      let list : HoldLists m lists = record { few = few_vias; vias = l.vias; rules = l.rules; comps = l.comps; pins = l.pins; specials = one_new (IsRawNet IsSpecial) name_of_net v.lists.specials net l.specials is; nets = l.nets } in
      let a = holding.put_lists m (record v { stage = stages.Option }) grown lists list in
      let b = holding.put_net m (record v { stage = stages.Option; lists = lists }) a no_net (holding.nothing_net m) (λ t. holding.nothing_kind v.section) in
      holding.goes_out m (record v { stage = stages.Option; lists = lists; name = []; net = no_net }) b stages.Section v.section refl refl
  entry_ends sections.Nets e =
      let net = net_of v.name v.line v.net in
      let paths : All IsRegular v.net.paths = subst (λ k. ByKind k v.net.paths) e (h.paths_is refl) in
      let is : IsRawNet IsRegular net = holding.net_is_raw IsRegular n v.name v.line v.net fits_30 h.net_is paths in
      let lists = record v.lists { nets = with_new name_of_net v.lists.nets net } in
      let list : HoldLists m lists = record { few = few_vias; vias = l.vias; rules = l.rules; comps = l.comps; pins = l.pins; specials = l.specials; nets = one_new (IsRawNet IsRegular) name_of_net v.lists.nets net l.nets is } in
      let a = holding.put_lists m (record v { stage = stages.Option }) grown lists list in
      let b = holding.put_net m (record v { stage = stages.Option; lists = lists }) a no_net (holding.nothing_net m) (λ t. holding.nothing_kind v.section) in
      holding.goes_out m (record v { stage = stages.Option; lists = lists; name = []; net = no_net }) b stages.Section v.section refl refl

-- ---- paths

path_stage : (stage : Stage) → in_paths stage ≡ true → inside stage ≡ true
path_stage stages.Paths e = refl
path_stage stages.Wiring e = refl
path_stage stages.Top e = absurd cc
path_stage stages.Over e = absurd cc
path_stage stages.EndOfFile e = absurd cc
path_stage stages.Skipped e = absurd cc
path_stage stages.SkippedEnd e = absurd cc
path_stage stages.Extension e = absurd cc
path_stage stages.Section e = absurd cc
path_stage stages.SectionEnd e = absurd cc
path_stage stages.Name e = absurd cc
path_stage stages.Connections e = absurd cc
path_stage stages.Connection e = absurd cc
path_stage stages.Options e = absurd cc
path_stage stages.Option e = absurd cc
path_stage stages.Passed e = absurd cc
path_stage stages.ViaHead e = absurd cc
path_stage stages.ViaFirst e = absurd cc
path_stage stages.ViaPoints e = absurd cc

paths_begin : (n : ℕ) (v : Draft) (is_wide : Bool) (stage : Stage) → IsDraft n v → inside v.stage ≡ true → is_wide ≡ is_special v.section → IsDraft n (record v { wiring = no_paths is_wide v.line; stage = stage })
paths_begin n v is_wide stage h s e = holding.put_wiring n v h stage (no_paths is_wide v.line) (no_wiring is_wide v.line) (λ f. h.paths_is s) (λ f. e)

-- the paths join those of the net
paths_join : (n : ℕ) (v : Draft) (key : Key) → IsDraft n v → in_paths v.stage ≡ true → begins_path v.wiring key ≡ Ok None → IsDraft n (record (with_paths v) { stage = stages.Option })
paths_join n v key h p e =
    let all : All (IsPathOf v.wiring.is_wide) (paths_of v.wiring) = all_paths v.wiring key h.wiring_is e in
    let joined : ByKind v.section (v.net.paths ++ paths_of v.wiring) = holding.more_paths v.section v.wiring.is_wide v.net.paths (paths_of v.wiring) (h.kind_is p) (h.paths_is (path_stage v.stage p)) all in
    let net : NetDraft = record v.net { paths = v.net.paths ++ paths_of v.wiring } in
    let is : HoldNet n net = record { few = h.net_is.few; rects = h.net_is.rects; vias = h.net_is.vias } in
    let a = holding.put_net n v h net is (λ s. joined) in
    holding.put_wiring n (record v { net = net }) a stages.Option (no_paths false 0) (no_wiring false 0) (λ f. joined) (λ f. absurd cc)

-- ---- all of them

module _ (n m line : ℕ) (v : Draft) (key : Key) (words : List Lexeme) (said : Operands) (more : n + 1 ≤ m) (le : m ≤ 2 ^ 30) (h : IsDraft n v) where
  le_m : n ≤ m
  le_m = omega arith

  k : IsDraft m v
  k = holding.grown n m v le_m h

  -- the numbers of an item
  says : (Q : ℤ → Type 0) (item : DefItem) → Gives Q (form_of item) → Spelled (form_of item) 0 (start v.wiring.last line) words said → All Q said.numbers
  says Q item gives spells = (item_says Q (form_of item) v.wiring.last line words said gives h.wiring_is.last spells).numbers

  in_entry : (stage : Stage) → in_paths stage ≡ false → inside v.stage ≡ true → IsDraft m (record v { stage = stage })
  in_entry stage e s = holding.goes_on m v k stage e s

  out : (stage : Stage) → in_paths stage ≡ false → inside stage ≡ false → IsDraft m (record v { stage = stage })
  out stage e f = holding.goes_out m v k stage v.section e f

  with_via : inside v.stage ≡ true → (stage : Stage) → in_paths stage ≡ false → (via : ViaDraft) → HoldVia m via → IsDraft m (record v { via = via; stage = stage })
  with_via s stage e via is = holding.goes_on m (record v { via = via }) (holding.put_via m v k via is) stage e s

  with_pin : inside v.stage ≡ true → (pin : PinDraft) → HoldPin pin → IsDraft m (record v { pin = pin; stage = stages.Options })
  with_pin s pin is = holding.goes_on m (record v { pin = pin }) (holding.put_pin m v k pin is) stages.Options refl s

  with_net : inside v.stage ≡ true → (stage : Stage) → in_paths stage ≡ false → (net : NetDraft) → net.paths ≡ v.net.paths → HoldNet m net → IsDraft m (record v { net = net; stage = stage })
  with_net s stage e net same is =
      holding.goes_on m (record v { net = net }) (holding.put_net m v k net is (λ f. subst (λ paths. ByKind v.section paths) (sym same) (h.paths_is f))) stage e s

  via_m : HoldVia m v.via
  via_m = k.via_is

  net_m : HoldNet m v.net
  net_m = k.net_is

  pin_m : HoldPin v.pin
  pin_m = h.pin_is

  placed_at : inside v.stage ≡ true → All IsCoordinate said.numbers → IsDraft m (record v { at = first v.at (placement (point_of said.numbers) said.chosen); stage = stages.Options })
  placed_at s near =
      let at = placement (point_of said.numbers) said.chosen in
      let is : IfSome at IsPlaced = holding.place_holds (point_of said.numbers) said.chosen (points IsCoordinate said.numbers near) in
      holding.goes_on m (record v { at = first v.at at }) (holding.put_at m v k (first v.at at) (either_one IsPlaced v.at at h.at_is is)) stages.Options refl s

  placed : (section : Section) → inside v.stage ≡ true → All IsCoordinate said.numbers → IsDraft m (record (placed_in section said v) { stage = stages.Options })
  placed sections.Pins s near =
      let at = placement (point_of said.numbers) said.chosen in
      let is : IfSome at IsPlaced = holding.place_holds (point_of said.numbers) said.chosen (points IsCoordinate said.numbers near) in
      with_pin s (record v.pin { is_open = true; at = first v.pin.at at }) (record { ports = pin_m.ports; rects = pin_m.rects; at = either_one IsPlaced v.pin.at at pin_m.at is })
  placed sections.Vias s near = placed_at s near
  placed sections.Rules s near = placed_at s near
  placed sections.Comps s near = placed_at s near
  placed sections.Specials s near = placed_at s near
  placed sections.Nets s near = placed_at s near

  width : (number : Option ℤ) → inside v.stage ≡ true → IfSome number IsWidth → IsDraft m (record (layer_width_of number said v) { stage = stages.Passed })
  width None s is = in_entry stages.Passed refl s
  width (Some z) s is =
      let item : LayerWidth = record { layer = said.name; width = z } in
      let widths = with_new layer_of_width v.widths item in
      holding.goes_on m (record v { widths = widths }) (holding.put_widths m v k widths (one_new IsWide layer_of_width v.widths item h.widths_is is)) stages.Passed refl s

  pub item_leaves : (item : DefItem) → Fits v key item → Spelled (form_of item) 0 (start v.wiring.last line) words said → Leaves IsDraft m (means item v said)
  unfolding form_of means
  item_leaves (items.Token stage) f spells = holding.at_stage m v k stage f.0 (λ e. h.paths_is (f.1 e))
  item_leaves items.Done f spells = out stages.Top refl refl
  item_leaves items.Design f spells = out stages.Top refl refl
  item_leaves items.Units f spells =
      let units = units_of (one_of said.numbers) said.line in
      let is = holding.units_hold (one_of said.numbers) said.line (ones IsWidth said.numbers (says IsWidth items.Units (λ z b. absurd b, (λ z b. absurd b, (λ z b. absurd b, (λ z b. record { low = b.0; high = b.1 }, (λ z b. absurd b, tt))))) spells)) in
      holding.goes_out m (record v { header = record v.header { units = units } }) (holding.put_units m v k units is) stages.Top v.section refl refl
  item_leaves items.DividerChar f spells = out stages.Top refl refl
  item_leaves items.BusBitChars f spells = out stages.Top refl refl
  item_leaves items.Skip f spells = out stages.Skipped refl refl
  item_leaves (items.Head section) f spells = holding.goes_out m v k stages.Section section refl refl
  item_leaves items.End f spells = out stages.EndOfFile refl refl
  item_leaves items.EndDesign f spells = k
  item_leaves items.Entry f spells = entry_begins m v said k v.section refl
  item_leaves items.Component f spells = entry_begins m v said k v.section refl
  item_leaves items.EntryDone s spells = entry_ends n m v more le (holding.goes_on n v h stages.Option refl s) v.section refl
  item_leaves items.ViaRect s spells =
      let near = says IsCoordinate items.ViaRect (λ z b. absurd b, (λ z b. absurd b, (λ z b. absurd b, (λ z b. absurd b, (λ z b. absurd b, (λ z b. absurd b, box_gives)))))) spells in
      let rects = with_rect said.name (rect_of said.numbers) v.via.rects in
      let few : length rects ≤ m = (let f = box_count n said.name (rect_of said.numbers) v.via.rects h.via_is.few in omega arith) in
      with_via s stages.Options refl (record v.via { rects = rects })
      (record { few = few; rects = one_box said.name (rect_of said.numbers) v.via.rects (boxes said.numbers near) via_m.rects; cut = via_m.cut; spacing = via_m.spacing; enclosure = via_m.enclosure; rows = via_m.rows })
  item_leaves items.ViaRule s spells =
      with_via s stages.Options refl (record v.via { has_rule = true }) (record { few = via_m.few; rects = via_m.rects; cut = via_m.cut; spacing = via_m.spacing; enclosure = via_m.enclosure; rows = via_m.rows })
  item_leaves items.CutSize s spells =
      let all = says IsWidth items.CutSize (λ z b. absurd b, (λ z b. record { low = b.0; high = b.1 }, (λ z b. record { low = b.0; high = b.1 }, tt))) spells in
      let cut = first v.via.cut (point_of said.numbers) in
      with_via s stages.Options refl (record v.via { cut = cut })
      (record { few = via_m.few; rects = via_m.rects; cut = either_one (Both IsWidth) v.via.cut (point_of said.numbers) via_m.cut (points IsWidth said.numbers all); spacing = via_m.spacing; enclosure = via_m.enclosure; rows = via_m.rows })
  item_leaves items.Layers s spells =
      with_via s stages.Options refl (record v.via { layers = first v.via.layers (Some (record { first = said.name; cut = said.second; third = said.third })) })
      (record { few = via_m.few; rects = via_m.rects; cut = via_m.cut; spacing = via_m.spacing; enclosure = via_m.enclosure; rows = via_m.rows })
  item_leaves items.CutSpacing s spells =
      let all = says IsLength items.CutSpacing (λ z b. absurd b, (λ z b. b, (λ z b. b, tt))) spells in
      with_via s stages.Options refl (record v.via { spacing = first v.via.spacing (point_of said.numbers) })
      (record { few = via_m.few; rects = via_m.rects; cut = via_m.cut; spacing = either_one (Both IsLength) v.via.spacing (point_of said.numbers) via_m.spacing (points IsLength said.numbers all); enclosure = via_m.enclosure; rows = via_m.rows })
  item_leaves items.Enclosure s spells =
      let all = says IsLength items.Enclosure (λ z b. absurd b, (λ z b. b, (λ z b. b, (λ z b. b, (λ z b. b, tt))))) spells in
      with_via s stages.Options refl (record v.via { enclosure = first v.via.enclosure (enclosure_of said.numbers) })
      (record { few = via_m.few; rects = via_m.rects; cut = via_m.cut; spacing = via_m.spacing; enclosure = either_one AreEnclosures v.via.enclosure (enclosure_of said.numbers) via_m.enclosure (enclosures said.numbers all); rows = via_m.rows })
  item_leaves items.RowCol s spells =
      let all = says IsCount items.RowCol (λ z b. absurd b, (λ z b. record { low = b.0; high = b.1 }, (λ z b. record { low = b.0; high = b.1 }, tt))) spells in
      with_via s stages.Options refl (record v.via { rows = first v.via.rows (point_of said.numbers) })
      (record { few = via_m.few; rects = via_m.rects; cut = via_m.cut; spacing = via_m.spacing; enclosure = via_m.enclosure; rows = either_one (Both IsCount) v.via.rows (point_of said.numbers) via_m.rows (points IsCount said.numbers all) })
  item_leaves items.Unusual s spells =
      with_via s stages.Passed refl (record v.via { is_plain = false }) (record { few = via_m.few; rects = via_m.rects; cut = via_m.cut; spacing = via_m.spacing; enclosure = via_m.enclosure; rows = via_m.rows })
  item_leaves items.LayerWidth s spells =
      width (one_of said.numbers) s (ones IsWidth said.numbers (says IsWidth items.LayerWidth (λ z b. absurd b, (λ z b. absurd b, (λ z b. absurd b, (λ z b. record { low = b.0; high = b.1 }, tt)))) spells))
  item_leaves items.Placed s spells =
      placed v.section s (says IsCoordinate items.Placed (λ z b. absurd b, (λ z b. absurd b, (λ z b. b, (λ z b. b, (λ z b. absurd b, (λ z b. absurd b, tt)))))) spells)
  item_leaves items.Direction s spells = with_pin s (record v.pin { dir = first v.pin.dir (Some (direction_of said.chosen)) }) (record { ports = pin_m.ports; rects = pin_m.rects; at = pin_m.at })
  item_leaves items.Port s spells = let p = holding.port_holds v.pin pin_m in with_pin s (begins_port v.pin) (record { ports = p.ports; rects = p.rects; at = p.at })
  item_leaves items.PinRect s spells =
      let near = says IsCoordinate items.PinRect (λ z b. absurd b, (λ z b. absurd b, (λ z b. absurd b, (λ z b. absurd b, (λ z b. absurd b, (λ z b. absurd b, (λ z b. absurd b, (λ z b. absurd b, box_gives)))))))) spells in
      with_pin s (record v.pin { is_open = true; rects = with_rect said.name (rect_of said.numbers) v.pin.rects })
      (record { ports = pin_m.ports; rects = one_box said.name (rect_of said.numbers) v.pin.rects (boxes said.numbers near) pin_m.rects; at = pin_m.at })
  item_leaves items.Connection s spells =
      let e = length-append v.net.conns ((said.name, said.second) ∷ []) in
      let few : length (v.net.conns ++ (said.name, said.second) ∷ []) ≤ m = (let f = h.net_is.few in omega arith) in
      with_net s stages.Connections refl (record v.net { conns = v.net.conns ++ (said.name, said.second) ∷ [] }) refl (record { few = few; rects = net_m.rects; vias = net_m.vias })
  item_leaves items.NetRule s spells = with_net s stages.Options refl (record v.net { rule = first v.net.rule (Some said.name) }) refl (record { few = net_m.few; rects = net_m.rects; vias = net_m.vias })
  item_leaves items.Routed f spells = paths_begin m v false stages.Wiring k f.0 (sym (ap is_special f.1))
  item_leaves items.Use s spells = with_net s stages.Options refl (record v.net { power = first v.net.power (Some (is_power said.chosen)) }) refl (record { few = net_m.few; rects = net_m.rects; vias = net_m.vias })
  item_leaves items.WideRouted f spells = paths_begin m v true stages.Paths k f.0 (sym (ap is_special f.1))
  item_leaves items.Shield f spells = paths_begin m v true stages.Paths k f.0 (sym (ap is_special f.1))
  item_leaves items.NetRect s spells =
      let near = says IsCoordinate items.NetRect (λ z b. absurd b, (λ z b. absurd b, box_gives)) spells in
      with_net s stages.Options refl (record v.net { rects = with_rect said.name (rect_of said.numbers) v.net.rects }) refl
      (record { few = net_m.few; rects = one_box said.name (rect_of said.numbers) v.net.rects (boxes said.numbers near) net_m.rects; vias = net_m.vias })
  item_leaves items.NetVia s spells = with_net s stages.ViaHead refl (record v.net { via = said.name; orient = orients.N }) refl (record { few = net_m.few; rects = net_m.rects; vias = net_m.vias })
  item_leaves items.NetViaOrient s spells = with_net s stages.ViaFirst refl (record v.net { orient = orient_of said.chosen }) refl (record { few = net_m.few; rects = net_m.rects; vias = net_m.vias })
  item_leaves items.NetViaPoint s spells =
      let near = says IsCoordinate items.NetViaPoint (λ z b. absurd b, (λ z b. b, (λ z b. b, (λ z b. absurd b, tt)))) spells in
      with_net s stages.ViaPoints refl (with_via_at (point_of said.numbers) v.net) (holding.same_paths (point_of said.numbers) v.net) (holding.spot_holds m (point_of said.numbers) v.net (points IsCoordinate said.numbers near) net_m)
  item_leaves (items.Path item) f spells =
      let w = path_item_is item v.wiring line words said (path_fits v.wiring key (Some item) f.1) spells h.wiring_is in
      holding.put_wiring m v k stages.Wiring (means_of_path item v.wiring said) w (λ e. h.paths_is (path_stage v.stage f.0)) (λ e. same_kind item v.wiring said ∙ h.kind_is f.0)
  item_leaves items.PathsDone f spells = paths_join m v key k f.0 f.1
  item_leaves items.PathsEntryDone f spells = entry_ends n m (with_paths v) more le (paths_join n v key h f.0 f.1) v.section refl
