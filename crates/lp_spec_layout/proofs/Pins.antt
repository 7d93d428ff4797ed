-- The driving pins of a cell instance's row mean its drives.
use Rattle.std.proofs.Common.{◌≡◌, ◌≤◌, ◌+◌, ℕ, suc, Bool, true, false, List, [], ◌∷◌, ◌++◌, map, length, Some, None, inl, inr, refl, sym, ap, ◌∙◌, subst, arith}
use Rattle.std.specs.Prelude.{filter, flat_map, is_some, if◌then◌else◌, slice_get, slice_index_or}
use Rattle.std.specs.List.{list_all}
use Rattle.std.proofs.lemmas.Bool.{true≢false, ltb-true}
use Rattle.std.proofs.lemmas.List.{map-append}
use Rattle.std.proofs.lemmas.Option.{slice_get-get_or}
use Rattle.lp_model.specs.declared.graph.PinNet.{PinNet}
use Rattle.lp_model.specs.declared.graph.PinNet.TheVariants.{Unconnected, Const as PinConst, Node as PinNode}
use Rattle.lp_model.specs.NetlistView.{BitView, ConstBit, InstanceView, ModuleView, ConnectionsView}
use Rattle.lp_model.specs.LibraryView.{PgPinView, CellView, PinView}
use Rattle.lp_spec_design.specs.Keys.{Name, Path, Node, Source, CellPin, SwitchedPin}
use Rattle.lp_spec_design.specs.Netlists.{Structure, node_of, connected}
use Rattle.lp_spec_design.specs.Graph.{pairs, and_more, some_of, numbered, is_output_pin}
use Rattle.lp_spec_design.specs.Winners.{IsIn}
use Rattle.lp_spec_design.specs.Reads.{one, other}
use Rattle.lp_spec_design.proofs.Members.{in-either, of-map}
use Rattle.lp_spec_bridge.specs.Tables.{Tables}
use Rattle.lp_spec_bridge.specs.Edges.{Drive, cell_drives}
use Rattle.lp_spec_bridge.specs.Keyed.{Keyed}
use Rattle.lp_spec_bridge.specs.Represents.{outputs_in}
use Rattle.lp_spec_bridge.specs.Templates.{bits_in}
use Rattle.lp_spec_bridge.specs.Kept.{pin_bit, has_pin_place, first_bit, IsRowResolved}
use Rattle.lp_spec_bridge.proofs.Trails.{map-map}
use Rattle.lp_spec_layout.specs.Parts.{driving_pins, may_drive}
use Rattle.lp_spec_layout.specs.Feeds.{Feed, driven, pin_feed, row_feeds}
use Rattle.lp_spec_layout.proofs.Lists.{get-map, flat-append, flat-map, filter-append, filter-map}
use Rattle.lp_spec_layout.proofs.Numbered.{Of, drive_meaning, drive_meant, pin_source, feed_meant}
use Rattle.lp_spec_layout.proofs.Joints.{BitsAt}

-- a pin of either kind: its name, whether it drives, and what it is as a source
abbrev pub Pin : Type 0
Pin = Name × Bool × Source

abbrev pub signal_pin : Path → Name → PinView → Pin
signal_pin p x q = (q.name, is_output_pin q, CellPin p x q.name)

abbrev pub pg_pin : Path → Name → PgPinView → Pin
pg_pin p x g = (g.name, is_some g.switched, SwitchedPin p x g.name)

abbrev pub pins_in : Path → Name → CellView → List Pin
pins_in p x c = map (signal_pin p x) c.pins ++ map (pg_pin p x) c.pgs

-- a value for each pin of both kinds
pins-map : {B : Type 0} (f : Pin → B) (p : Path) (x : Name) (c : CellView) → map f (pins_in p x c) ≡ map (λ (q : PinView). f (signal_pin p x q)) c.pins ++ map (λ (g : PgPinView). f (pg_pin p x g)) c.pgs
pins-map f p x c =
    map-append f (map (signal_pin p x) c.pins) (map (pg_pin p x) c.pgs)
    ∙ ap (λ r. r ++ map f (map (pg_pin p x) c.pgs)) (map-map f (signal_pin p x) c.pins)
    ∙ ap (λ r. map (λ (q : PinView). f (signal_pin p x q)) c.pins ++ r) (map-map f (pg_pin p x) c.pgs)

abbrev pub pin_drives : Path → ConnectionsView → Pin → List Drive
pin_drives p cs z = map (λ b. (node_of p b, z.2)) (connected [] z.0 cs)

pins-drives : (p : Path) (y : InstanceView) (c : CellView) → flat_map (pin_drives p y.connections) (filter (λ (z : Pin). z.1) (pins_in p y.name c)) ≡ cell_drives p y c
pins-drives p y c =
    ap (flat_map (pin_drives p y.connections)) (filter-append (λ (z : Pin). z.1) (map (signal_pin p y.name) c.pins) (map (pg_pin p y.name) c.pgs))
    ∙ flat-append (pin_drives p y.connections) (filter (λ (z : Pin). z.1) (map (signal_pin p y.name) c.pins)) (filter (λ (z : Pin). z.1) (map (pg_pin p y.name) c.pgs))
    ∙ ap (λ r. flat_map (pin_drives p y.connections) r ++ flat_map (pin_drives p y.connections) (filter (λ (z : Pin). z.1) (map (pg_pin p y.name) c.pgs))) (filter-map (λ (z : Pin). z.1) (signal_pin p y.name) c.pins)
    ∙ ap (λ r. flat_map (pin_drives p y.connections) (map (signal_pin p y.name) (filter is_output_pin c.pins)) ++ flat_map (pin_drives p y.connections) r) (filter-map (λ (z : Pin). z.1) (pg_pin p y.name) c.pgs)
    ∙ ap (λ r. r ++ flat_map (pin_drives p y.connections) (map (pg_pin p y.name) (filter (λ (g : PgPinView). is_some g.switched) c.pgs))) (flat-map (pin_drives p y.connections) (signal_pin p y.name) (filter is_output_pin c.pins))
    ∙ ap (λ r. flat_map (λ (q : PinView). map (λ b. (node_of p b, CellPin p y.name q.name)) (connected [] q.name y.connections)) (filter is_output_pin c.pins) ++ r) (flat-map (pin_drives p y.connections) (pg_pin p y.name) (filter (λ (g : PgPinView). is_some g.switched) c.pgs))

-- a pin is no way
abbrev IsPlain : Source → Type 0
IsPlain x = (to : Node) → drive_meaning to x ≡ Of (Some x)

pins-plain : (p : Path) (x : Name) (c : CellView) (z : Pin) → IsIn z (pins_in p x c) → IsPlain z.2
pins-plain p x c z h = elim (in-either z (map (signal_pin p x) c.pins) (map (pg_pin p x) c.pgs) h) [
  | inl l ↦ let q = of-map (signal_pin p x) z c.pins l in subst (λ (w : Pin). IsPlain w.2) (sym q.2) (λ to. refl)
  | inr l ↦ let g = of-map (pg_pin p x) z c.pgs l in subst (λ (w : Pin). IsPlain w.2) (sym g.2) (λ to. refl)
]

module _ (s : Structure) (ks : Keyed) (t : Tables) (p : Path) (m : ModuleView) (start leaf : ℕ) (bits : BitsAt ks p m start) (cs : ConnectionsView) where
  -- a pin that drives
  one-pin : (j : ℕ) (z : Pin) (net : PinNet) (bs : List BitView) (rest : List Feed) (more : List Drive) → pin_bit m net ≡ first_bit bs → has_pin_place m net ≡ true → may_drive (true, net) ≡ true → length bs ≤ 1 → IsPlain z.2 → pin_source s ks t j leaf ≡ Some z.2
      → map (feed_meant s ks t) rest ≡ map drive_meant more → map (feed_meant s ks t) (and_more (driven start leaf j net) rest) ≡ map drive_meant (map (λ b. (node_of p b, z.2)) bs ++ more)
  one-pin j z Unconnected [] rest more e h d single plain key same = same
  one-pin j z Unconnected (b ∷ bs) rest more e h d single plain key same = absurd cc
  one-pin j z (PinConst c) bs rest more e h d single plain key same = absurd (true≢false (sym d))
  one-pin j z (PinNode k) [] rest more e h d single plain key same = absurd cc
  one-pin j z (PinNode k) (b ∷ c ∷ bs) rest more e h d single plain key same = absurd (omega (arith, single))
  one-pin j z (PinNode k) (b ∷ []) rest more e h d single plain key same =
      let is : slice_index_or (bits_in m) k.0 (ConstBit true) ≡ b = cc in
      let at : slice_get ks.nodes (start + k.0) ≡ Some (node_of p b) =
      bits k.0 b (slice_get-get_or (bits_in m) k.0 (ConstBit true) (ltb-true k.0 (length (bits_in m)) h) ∙ ap (λ w. Some w) is) in
      ap (λ n. (n, Of (pin_source s ks t j leaf)) ∷ map (feed_meant s ks t) rest) at
      ∙ ap (λ o. (Some (node_of p b), Of o) ∷ map (feed_meant s ks t) rest) key
      ∙ ap (λ o. (Some (node_of p b), o) ∷ map (feed_meant s ks t) rest) (sym (plain (node_of p b)))
      ∙ ap (λ r. drive_meant (node_of p b, z.2) ∷ r) same

  pins-mean : (zs : List Pin) (row : List PinNet) (j : ℕ) → map (pin_bit m) row ≡ map (λ (z : Pin). first_bit (connected [] z.0 cs)) zs → list_all (has_pin_place m) row ≡ true → list_all may_drive (pairs (map (λ (z : Pin). z.1) zs) row) ≡ true
      → ((z : Pin) → IsIn z zs → length (connected [] z.0 cs) ≤ 1) → ((z : Pin) → IsIn z zs → IsPlain z.2) → ((i : ℕ) (z : Pin) → slice_get zs i ≡ Some z → pin_source s ks t (j + i) leaf ≡ Some z.2)
      → map (feed_meant s ks t) (some_of (pin_feed start leaf) (pairs (numbered j (map (λ (z : Pin). z.1) zs)) row)) ≡ map drive_meant (flat_map (pin_drives p cs) (filter (λ (z : Pin). z.1) zs))
  pins-mean [] row j same within drives single plain keys = refl
  pins-mean (z ∷ zs) [] j same within drives single plain keys = absurd cc
  pins-mean (z ∷ zs) (net ∷ row) j same within drives single plain keys =
      let here : pin_bit m net ≡ first_bit (connected [] z.0 cs) = cc in
      let later : map (pin_bit m) row ≡ map (λ (z : Pin). first_bit (connected [] z.0 cs)) zs = cc in
      let place : j ≡ j + 0 = omega arith in
      let key : pin_source s ks t j leaf ≡ Some z.2 = ap (λ n. pin_source s ks t n leaf) place ∙ keys 0 z refl in
      let more = pins-mean zs row (j + 1) later (other (has_pin_place m net) (list_all (has_pin_place m) row) within) (other (may_drive (z.1, net)) (list_all may_drive (pairs (map (λ (z : Pin). z.1) zs) row)) drives)
      (λ y h. single y (inr h)) (λ y h. plain y (inr h)) (λ i y h. let next : (j + 1) + i ≡ j + suc i = omega arith in ap (λ n. pin_source s ks t n leaf) next ∙ keys (suc i) y h) in
      by z.1 (one (may_drive (z.1, net)) (list_all may_drive (pairs (map (λ (z : Pin). z.1) zs) row)) drives) here key more
    where
      by : (b : Bool) → may_drive (b, net) ≡ true → pin_bit m net ≡ first_bit (connected [] z.0 cs) → pin_source s ks t j leaf ≡ Some z.2
          → map (feed_meant s ks t) (some_of (pin_feed start leaf) (pairs (numbered (j + 1) (map (λ (z : Pin). z.1) zs)) row)) ≡ map drive_meant (flat_map (pin_drives p cs) (filter (λ (z : Pin). z.1) zs))
          → map (feed_meant s ks t) (and_more (if b then driven start leaf j net else None) (some_of (pin_feed start leaf) (pairs (numbered (j + 1) (map (λ (z : Pin). z.1) zs)) row)))
          ≡ map drive_meant (flat_map (pin_drives p cs) (if b then z ∷ filter (λ (z : Pin). z.1) zs else filter (λ (z : Pin). z.1) zs))
      by true d e key more =
          one-pin j z net (connected [] z.0 cs) (some_of (pin_feed start leaf) (pairs (numbered (j + 1) (map (λ (z : Pin). z.1) zs)) row)) (flat_map (pin_drives p cs) (filter (λ (z : Pin). z.1) zs)) e
          (one (has_pin_place m net) (list_all (has_pin_place m) row) within) d (single z (inl refl)) (plain z (inl refl)) key more
      by false d e key more = more

-- all pins of a cell instance
pub row-mean : (s : Structure) (ks : Keyed) (t : Tables) (p : Path) (m : ModuleView) (start leaf : ℕ) → BitsAt ks p m start → (y : InstanceView) (c : CellView) (row : List PinNet) → IsRowResolved m y c row → list_all may_drive (pairs (driving_pins (Some c)) row) ≡ true
    → ((q : PinView) → IsIn q c.pins → length (connected [] q.name y.connections) ≤ 1) → ((g : PgPinView) → IsIn g c.pgs → length (connected [] g.name y.connections) ≤ 1)
    → ((i : ℕ) (x : Source) → slice_get (outputs_in (record { path = p; instance = y.name }) (Some c)) i ≡ Some x → pin_source s ks t i leaf ≡ Some x)
    → map (feed_meant s ks t) (row_feeds (driving_pins (Some c)) start leaf row) ≡ map drive_meant (cell_drives p y c)
row-mean s ks t p m start leaf bits y c row r drives signal pg keys =
    let zs = pins_in p y.name c in
    let marks : map (λ (z : Pin). z.1) (pins_in p y.name c) ≡ driving_pins (Some c) = pins-map (λ (z : Pin). z.1) p y.name c in
    let nets : map (pin_bit m) row ≡ map (λ (z : Pin). first_bit (connected [] z.0 y.connections)) (pins_in p y.name c) = r.same ∙ sym (pins-map (λ (z : Pin). first_bit (connected [] z.0 y.connections)) p y.name c) in
    let sources : map (λ (z : Pin). z.2) (pins_in p y.name c) ≡ outputs_in (record { path = p; instance = y.name }) (Some c) = pins-map (λ (z : Pin). z.2) p y.name c in
    ap (λ ds. map (feed_meant s ks t) (row_feeds ds start leaf row)) (sym marks)
    ∙ pins-mean s ks t p m start leaf bits y.connections zs row 0 nets r.within (ap (λ ds. list_all may_drive (pairs ds row)) marks ∙ drives)
    (λ z h. elim (in-either z (map (signal_pin p y.name) c.pins) (map (pg_pin p y.name) c.pgs) h) [
      | inl l ↦ let q = of-map (signal_pin p y.name) z c.pins l in subst (λ (w : Pin). length (connected [] w.0 y.connections) ≤ 1) (sym q.2) (signal q.0 q.1)
      | inr l ↦ let g = of-map (pg_pin p y.name) z c.pgs l in subst (λ (w : Pin). length (connected [] w.0 y.connections) ≤ 1) (sym g.2) (pg g.0 g.1)
    ])
    (pins-plain p y.name c)
    (λ i z h. let place : 0 + i ≡ i = omega arith in ap (λ n. pin_source s ks t n leaf) place ∙ keys i z.2 (ap (λ xs. slice_get xs i) (sym sources) ∙ get-map (λ (z : Pin). z.2) zs i z h))
    ∙ ap (map drive_meant) (pins-drives p y c)
