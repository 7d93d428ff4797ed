-- Where the wires at the input pins of the netlist's cells begin.
use Rattle.std.proofs.Common.{◌≡◌, ◌⊎◌, ◌≤◌, ℕ, ◌+◌, Bool, true, false, ◌&&◌, ◌||◌, List, [], ◌∷◌, length, Option, Some, None, inl, inr, refl, sym, ap, ◌∙◌, subst, arith}
use Rattle.std.specs.Prelude.{filter, if◌then◌else◌, is_some, option_and_then, slice_get}
use Rattle.std.specs.List.{list_all}
use Rattle.std.proofs.lemmas.Bool.{and_parts, and_from, false≢true}
use Rattle.lp_model.specs.declared.netlist.Direction.{Direction}
use Rattle.lp_model.specs.declared.netlist.Direction.TheVariants.{Input, Output}
use Rattle.lp_model.specs.declared.library.PinUse.{PinUse}
use Rattle.lp_model.specs.declared.library.PinUse.TheVariants as uses
use Rattle.lp_model.specs.NetlistView.{ModuleView}
use Rattle.lp_model.specs.LibraryView.{PinView, CellView}
use Rattle.lp_spec_design.specs.Keys.{Name, Node}
use Rattle.lp_spec_design.specs.Netlists.{Structure}
use Rattle.lp_spec_design.specs.Instances.{Placed, cell_instances}
use Rattle.lp_spec_design.specs.Nodes.{fuel_of}
use Rattle.lp_spec_design.specs.Graph.{is_output_pin, top_outputs}
use Rattle.lp_spec_design.specs.Intents.{Strategy}
use Rattle.lp_spec_design.specs.Chains.{Clamp}
use Rattle.lp_spec_design.specs.Winners.{IsIn}
use Rattle.lp_spec_design.specs.Registers.{retention, holds_state, is_retained_register}
use Rattle.lp_spec_design.specs.Settled.{node_at_pin}
use Rattle.lp_spec_pins.specs.Pins.{is_input_pin, is_data, input_for, only}
use Rattle.lp_spec_fit.specs.Fits.{is_iso_data, is_iso_enable, is_switch_pin, is_retention_pin, retention_pins, one_output}
use Rattle.lp_spec_realises.specs.Projects.{Project}
use Rattle.lp_spec_realises.specs.ProjectNetlists.{netlist_of}
use Rattle.lp_spec_realises.specs.Operators.{OperatorAt, all_operators, SwitchAt, all_switches, Placement, placed_operator, placed_switch}
use Rattle.lp_spec_realises.specs.Ends.{End, end_at_pin, intended, some_intended}
use Rattle.lp_spec_realises.specs.Realises.{cell_of, passed_by, input_begins, inputs_begin, output_begins, data_pin, end_of_pin, data_intended, chain_follows, control_begins, enable_begins, switch_pin_begins, control_of, retention_pins_begin, retention_begins, Realises}
use Rattle.lp_spec_agreement.specs.Faultless.{IsFaultless}
use Rattle.lp_spec_agreement.proofs.Apart.{all_in}
use Rattle.lp_spec_agreement.proofs.Joined.{end-true}
use Rattle.lp_spec_agreement.proofs.Supplied.{only_is}

pub in_filter : {A : Type 0} (t : A → Bool) (xs : List A) (x : A) → IsIn x xs → t x ≡ true → IsIn x (filter t xs)
in_filter t [] x h e = absurd h
in_filter t (y ∷ xs) x h e = by (t y) refl (λ r. in_filter t xs x r e)
  where
    by : (b : Bool) → t y ≡ b → (IsIn x xs → IsIn x (filter t xs)) → IsIn x (if b then y ∷ filter t xs else filter t xs)
    by true f more = elim h [ inl is ↦ inl is | inr r ↦ inr (more r) ]
    by false f more = elim h [ inl is ↦ absurd (false≢true (sym f ∙ ap t (sym is) ∙ e)) | inr r ↦ more r ]

-- ---- pins of which each has one purpose

-- the tests exclude one another
abbrev Apart : (PinView → Bool) → (PinView → Bool) → Type 0
Apart t u = (q : PinView) → t q ≡ true → u q ≡ true → ⊥

module _ (t u v : PinView → Bool) (tu : Apart t u) (tv : Apart t v) (uv : Apart u v) where
  abbrev count : (PinView → Bool) → List PinView → ℕ
  count f xs = length (filter f xs)

  abbrev one_of : Bool → ℕ
  one_of b = if b then 1 else 0

  count_more : (f : PinView → Bool) (x : PinView) (xs : List PinView) → count f (x ∷ xs) ≡ one_of (f x) + count f xs
  count_more f x xs = by (f x) refl
    where
      by : (b : Bool) → f x ≡ b → count f (x ∷ xs) ≡ one_of (f x) + count f xs
      by true e = rw e (omega arith)
      by false e = rw e (omega arith)

  at_most : (x : PinView) → one_of (t x) + (one_of (u x) + one_of (v x)) ≤ 1
  at_most x = by (t x) refl (u x) refl (v x) refl
    where
      by : (a : Bool) → t x ≡ a → (b : Bool) → u x ≡ b → (c : Bool) → v x ≡ c → one_of a + (one_of b + one_of c) ≤ 1
      by true e true f c g = absurd (tu x e f)
      by true e false f true g = absurd (tv x e g)
      by true e false f false g = omega arith
      by false e true f true g = absurd (uv x f g)
      by false e true f false g = omega arith
      by false e false f true g = omega arith
      by false e false f false g = omega arith

  few : (xs : List PinView) → count t xs + (count u xs + count v xs) ≤ length xs
  few [] = omega arith
  few (x ∷ xs) =
      let one = at_most x in
      let more = few xs in
      let a = count_more t x xs in
      let b = count_more u x xs in
      let c = count_more v x xs in
      omega (arith, one, more, a, b, c)

  -- where they count as many as there are, each pin passes one of them
  pub each_has : (xs : List PinView) → length xs ≤ count t xs + (count u xs + count v xs) → (q : PinView) → IsIn q xs → (t q || (u q || v q)) ≡ true
  each_has [] many q h = absurd h
  each_has (x ∷ xs) many q h =
      let one = at_most x in
      let more = few xs in
      let a = count_more t x xs in
      let b = count_more u x xs in
      let c = count_more v x xs in
      elim h [
        | inl is ↦ ap (λ (z : PinView). t z || (u z || v z)) is ∙ by (t x) (u x) (v x) (omega (arith, one, more, a, b, c, many))
        | inr rest ↦ each_has xs (omega (arith, one, more, a, b, c, many)) q rest
      ]
    where
      by : (a b c : Bool) → 1 ≤ one_of a + (one_of b + one_of c) → (a || (b || c)) ≡ true
      by true b c h = refl
      by false true c h = refl
      by false false true h = refl
      by false false false h = absurd (omega arith)

only_count : (f : PinView → Bool) (xs : List PinView) (q : PinView) → only (filter f xs) ≡ Some q → length (filter f xs) ≡ 1
only_count f xs q e = ap length (only_is (filter f xs) q e)

-- the one pin of a purpose is each pin of it
pub only_one : (f : PinView → Bool) (xs : List PinView) (q r : PinView) → only (filter f xs) ≡ Some q → IsIn r xs → f r ≡ true → r ≡ q
only_one f xs q r e h g =
    let there : IsIn r (q ∷ []) = subst (λ ys. IsIn r ys) (only_is (filter f xs) q e) (in_filter f xs r h g) in
    elim there [ inl is ↦ is | inr no_more ↦ absurd no_more ]

-- ---- purposes

abbrev pub for_data : PinView → Bool
for_data q = is_input_pin q && is_iso_data q

abbrev pub for_enable : PinView → Bool
for_enable q = is_input_pin q && is_iso_enable q

abbrev pub for_shift : PinView → Bool
for_shift q = is_input_pin q && is_data q

in_not_out : (q : PinView) → is_input_pin q ≡ true → is_output_pin q ≡ true → ⊥
in_not_out q i o = by q.direction refl
  where
    by : (d : Direction) → q.direction ≡ d → ⊥
    by Input e = false≢true (rw e at o)
    by Output e = false≢true (rw e at i)

out_or_in : (q : PinView) → (is_output_pin q ≡ true) ⊎ (is_input_pin q ≡ true)
out_or_in q = by q.direction refl
  where
    by : (d : Direction) → q.direction ≡ d → (is_output_pin q ≡ true) ⊎ (is_input_pin q ≡ true)
    by Input e = inr (rw e refl)
    by Output e = inl (rw e refl)

data_not_enable : Apart for_data for_enable
data_not_enable q d e = by q.use_of refl (and_parts (is_input_pin q) (is_iso_data q) d).1 (and_parts (is_input_pin q) (is_iso_enable q) e).1
  where
    by : (u : PinUse) → q.use_of ≡ u → is_iso_data q ≡ true → is_iso_enable q ≡ true → ⊥
    by uses.IsoData e a b = false≢true (rw e at b)
    by uses.Plain e a b = false≢true (rw e at a)
    by uses.IsoEnable e a b = false≢true (rw e at a)
    by uses.ShiftData e a b = false≢true (rw e at a)
    by uses.ShiftEnable e a b = false≢true (rw e at a)
    by uses.Switch e a b = false≢true (rw e at a)
    by (uses.Retain k save restore) e a b = false≢true (rw e at a)

never : PinView → Bool
never q = false

module _ (c : CellView) (q : PinView) (h : IsIn q c.pins) (input : is_input_pin q ≡ true) where
  -- an input of a cell of one data, one enable and one output pin is the data or the enable
  pub data_or_enable : (d e y : PinView) → length c.pins ≡ 3 → input_for is_iso_data c ≡ Some d → input_for is_iso_enable c ≡ Some e → one_output c ≡ Some y → (q ≡ d) ⊎ (q ≡ e)
  data_or_enable d e y three a b o =
      let na = only_count for_data c.pins d a in
      let nb = only_count for_enable c.pins e b in
      let no = only_count is_output_pin c.pins y o in
      let one = each_has for_data for_enable is_output_pin data_not_enable (λ r x z. in_not_out r (and_parts (is_input_pin r) (is_iso_data r) x).0 z) (λ r x z. in_not_out r (and_parts (is_input_pin r) (is_iso_enable r) x).0 z) c.pins (omega (arith, na, nb, no, three)) q h in
      by (for_data q) refl (for_enable q) refl (is_output_pin q) refl one
    where
      by : (s : Bool) → for_data q ≡ s → (t : Bool) → for_enable q ≡ t → (u : Bool) → is_output_pin q ≡ u → (s || (t || u)) ≡ true → (q ≡ d) ⊎ (q ≡ e)
      by true f t g u k one = inl (only_one for_data c.pins d q a h f)
      by false f true g u k one = inr (only_one for_enable c.pins e q b h g)
      by false f false g true k one = absurd (in_not_out q input k)
      by false f false g false k one = absurd (false≢true one)

  -- an input of a cell of one data and one output pin is the data
  pub is_the_data : (d y : PinView) → length c.pins ≡ 2 → input_for is_data c ≡ Some d → one_output c ≡ Some y → q ≡ d
  unfolding never
  is_the_data d y two a o =
      let na = only_count for_shift c.pins d a in
      let no = only_count is_output_pin c.pins y o in
      let one = each_has for_shift never is_output_pin (λ r x z. false≢true z) (λ r x z. in_not_out r (and_parts (is_input_pin r) (is_data r) x).0 z) (λ r x z. false≢true x) c.pins (omega (arith, na, no, two)) q h in
      by (for_shift q) refl (is_output_pin q) refl one
    where
      by : (s : Bool) → for_shift q ≡ s → (u : Bool) → is_output_pin q ≡ u → (s || (false || u)) ≡ true → q ≡ d
      by true f u k one = only_one for_shift c.pins d q a h f
      by false f true k one = absurd (in_not_out q input k)
      by false f false k one = absurd (false≢true one)

module _ (p : Project) (good : IsFaultless p) (modules : List ModuleView) (real : Realises p modules) where
  abbrev place : Placement
  place = real.placement

  abbrev W : Structure
  W = netlist_of p modules

  abbrev steps : ℕ
  steps = fuel_of (netlist_of p modules)

  abbrev pub end_of : Placed → Name → End
  end_of a v = end_at_pin (netlist_of p modules) (fuel_of (netlist_of p modules)) a.path a.instance v

  -- ---- cells of the source

  abbrev inputs_right : Bool
  inputs_right = list_all (inputs_begin p W place steps) (cell_instances p.structure)

  pub source_end : (a : Placed) → IsIn a (cell_instances p.structure) → (s : CellView) → cell_of p.structure a ≡ Some s → (r : PinView) → IsIn r s.pins → is_input_pin r ≡ true
      → end_of a r.name ≡ some_intended p W place (node_at_pin p.structure a.path a.instance r.name)
  source_end a h s e r hr input =
      let all : inputs_begin p W place steps a ≡ true = all_in (inputs_begin p W place steps) a (cell_instances p.structure) (and_parts inputs_right _ real.wires).0 h in
      let here : list_all (input_begins p W place steps a) (filter is_input_pin s.pins) ≡ true = ap (λ o. passed_by (λ (c : CellView). list_all (input_begins p W place steps a) (filter is_input_pin c.pins)) o) (sym e) ∙ all in
      end-true (end_of a r.name) (some_intended p W place (node_at_pin p.structure a.path a.instance r.name)) (all_in (input_begins p W place steps a) r (filter is_input_pin s.pins) here (in_filter is_input_pin s.pins r hr input))

  -- ---- controls

  pub record ControlEnd (a : Placed) (k : Option Node) (q : Option PinView) : Type 0 where
    pub node : Node
    pub pin : PinView
    pub is_node : k ≡ Some node
    pub is_pin : q ≡ Some pin
    pub end : end_at_pin (netlist_of p modules) (fuel_of (netlist_of p modules)) a.path a.instance pin.name ≡ intended p (netlist_of p modules) real.placement node

  control_end : (a : Placed) (k : Option Node) (q : Option PinView) → control_begins p W place steps a k q ≡ true → ControlEnd a k q
  control_end a None q h = absurd (false≢true h)
  control_end a (Some k) None h = absurd (false≢true h)
  control_end a (Some k) (Some q) h = record { node = k; pin = q; is_node = refl; is_pin = refl; end = end-true (end_of a q.name) (intended p W place k) h }

  -- ---- registers with retention

  abbrev enables : Bool
  enables = list_all (enable_begins p W place steps) (all_operators p)

  abbrev switch_controls : Bool
  switch_controls = list_all (switch_pin_begins p W place steps) (all_switches p)

  if-so : {b t : Bool} → b ≡ true → (if b then t else true) ≡ true → t ≡ true
  if-so {b} {t} e h = sym (ap (λ z. if z then t else true) e) ∙ h

  retained_register : (a : Placed) (s : CellView) → cell_of p.structure a ≡ Some s → is_some s.state ≡ true → (t : Strategy) → retention p.intent a.path a.instance ≡ Some t → is_retained_register p.structure p.intent a.path a.instance ≡ true
  retained_register a s source state t rt = and_from _ _ (ap holds_state source ∙ state) (ap is_some rt)

  pub retention_end : (a : Placed) → IsIn a (cell_instances p.structure) → (s : CellView) → cell_of p.structure a ≡ Some s → is_some s.state ≡ true → (t : Strategy) → retention p.intent a.path a.instance ≡ Some t
      → (c : CellView) → cell_of W a ≡ Some c → (q : PinView) → IsIn q c.pins → is_retention_pin q ≡ true → ControlEnd a (control_of t q.use_of) (Some q)
  retention_end a h s source state t rt c e q hq is =
      let all : retention_begins p W place steps a ≡ true = all_in (retention_begins p W place steps) a (cell_instances p.structure) (and_parts switch_controls _ (and_parts enables _ real.controls).1).1 h in
      let pins : retention_pins_begin p W place steps a (retention p.intent a.path a.instance) (cell_of W a) ≡ true = if-so (retained_register a s source state t rt) all in
      let here : list_all (λ (r : PinView). control_begins p W place steps a (control_of t r.use_of) (Some r)) (retention_pins c) ≡ true = rw (rt, e) at pins in
      control_end a (control_of t q.use_of) (Some q) (all_in (λ (r : PinView). control_begins p W place steps a (control_of t r.use_of) (Some r)) q (retention_pins c) here (in_filter is_retention_pin c.pins q hq is))

  -- ---- operators

  abbrev outputs_right : Bool
  outputs_right = list_all (output_begins p W place steps) (top_outputs p.structure)

  pub data_end : (o : OperatorAt) → IsIn o (all_operators p) → (c : CellView) → cell_of W (placed_operator place o) ≡ Some c → (d : PinView) → data_pin o.operator c ≡ Some d
      → end_of (placed_operator place o) d.name ≡ data_intended p W place o
  data_end o h c e d is =
      let follows : chain_follows p W place steps o ≡ true = all_in (chain_follows p W place steps) o (all_operators p) (and_parts outputs_right _ (and_parts inputs_right _ real.wires).1).1 h in
      let pin : option_and_then (data_pin o.operator) (cell_of W (placed_operator place o)) ≡ Some d = ap (option_and_then (data_pin o.operator)) e ∙ is in
      sym (ap (end_of_pin W steps (placed_operator place o)) pin)
      ∙ end-true (end_of_pin W steps (placed_operator place o) (option_and_then (data_pin o.operator) (cell_of W (placed_operator place o)))) (data_intended p W place o) follows

  pub enable_end : (o : OperatorAt) → IsIn o (all_operators p) → (t : ℕ) (i : ℕ) → o.operator ≡ Clamp t i → (c : CellView) → cell_of W (placed_operator place o) ≡ Some c
      → ControlEnd (placed_operator place o) (option_and_then (λ (x : Strategy). x.control) (slice_get p.intent.strategies t)) (input_for is_iso_enable c)
  enable_end o h t i op c e =
      let all : enable_begins p W place steps o ≡ true = all_in (enable_begins p W place steps) o (all_operators p) (and_parts enables _ real.controls).0 h in
      let here : control_begins p W place steps (placed_operator place o) (option_and_then (λ (x : Strategy). x.control) (slice_get p.intent.strategies t)) (option_and_then (input_for is_iso_enable) (cell_of W (placed_operator place o))) ≡ true = rw op at all in
      control_end (placed_operator place o) (option_and_then (λ (x : Strategy). x.control) (slice_get p.intent.strategies t)) (input_for is_iso_enable c)
      (ap (λ z. control_begins p W place steps (placed_operator place o) (option_and_then (λ (x : Strategy). x.control) (slice_get p.intent.strategies t)) (option_and_then (input_for is_iso_enable) z)) (sym e) ∙ here)

  -- ---- switches

  pub switch_control_end : (x : SwitchAt) → IsIn x (all_switches p) → (c : CellView) → cell_of W (placed_switch place x) ≡ Some c → ControlEnd (placed_switch place x) (Some x.control) (input_for is_switch_pin c)
  switch_control_end x h c e =
      let all : switch_pin_begins p W place steps x ≡ true = all_in (switch_pin_begins p W place steps) x (all_switches p) (and_parts switch_controls _ (and_parts enables _ real.controls).1).0 h in
      control_end (placed_switch place x) (Some x.control) (input_for is_switch_pin c)
      (ap (λ z. control_begins p W place steps (placed_switch place x) (Some x.control) (option_and_then (input_for is_switch_pin) z)) (sym e) ∙ all)
