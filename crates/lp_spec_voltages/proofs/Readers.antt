-- What clamps, input pins and top outputs read is not under them.
use Rattle.std.proofs.Common.{◌≡◌, ℕ, false, not, List, [], ◌∷◌, map, Option, Some, None, inl, inr, refl, sym, subst, ap, ◌∙◌, take}
use Rattle.std.specs.Prelude.{filter, flat_map, if◌then◌else◌, option_and_then}
use Rattle.lp_tern.specs.declared.tern.Tern.TheVariants.{X}
use Rattle.lp_model.specs.NetlistView.{PortView, InstanceView, ModuleView}
use Rattle.lp_model.specs.LibraryView.{PinView, CellView}
use Rattle.lp_spec_design.specs.Keys.{Name, Node, Outer}
use Rattle.lp_spec_design.specs.Netlists.{Structure, module_at, instance_named, indices, is_input}
use Rattle.lp_spec_design.specs.Instances.{Placed, cell_instances}
use Rattle.lp_spec_design.specs.Graph.{Reader, InputPin, TopOutput, some_of, and_more, is_output_pin, pin_node, pins_in, pins_of, top_outputs, readers}
use Rattle.lp_spec_design.specs.Intents.{SetNumber}
use Rattle.lp_spec_design.specs.Domains.{domain_of, primary_of, reader_supply}
use Rattle.lp_spec_design.specs.Winners.{IsIn}
use Rattle.lp_spec_design.specs.Chains.{Clamp, rail_after}
use Rattle.lp_spec_design.specs.Settled.{Assignment, Event, at, rail_of}
use Rattle.lp_spec_design.specs.Runs.{output_bits, shown}
use Rattle.lp_spec_design.proofs.Members.{in-left, in-right, in-map, in-flat, of-flat}
use Rattle.lp_spec_realises.specs.Projects.{Project, design_of}
use Rattle.lp_spec_realises.specs.Operators.{OperatorAt, chain_of, all_operators}
use Rattle.lp_spec_faults.specs.Lines.{first_of}
use Rattle.lp_spec_faults.specs.Supplies.{no_states}
use Rattle.lp_spec_faults.specs.Strategies.{rail_to_bit}
use Rattle.lp_spec_faults.specs.Readings.{ClampReads, PinReads, is_clamp, all_readings, uncovered_level}
use Rattle.lp_spec_voltages.specs.Voltages.{IsFedWithin, power_state, IsNeverUnder, ConnectsInput}
use Rattle.lp_spec_voltages.proofs.Readings.{readings-not_under, not-under_by}
use Rattle.lp_spec_voltages.proofs.Chains.{in-filter, clamp-reads, clamp-supply}

-- ---- top outputs and input pins among the readers

-- what is made of each bit of a port
made-of : {T U : Type 0} (f : T → U) (b : T) (bits : PortView → List T) (ports : List PortView) → IsIn b (flat_map bits ports)
    → IsIn (f b) (flat_map (λ port. map f (bits port)) ports)
made-of f b bits ports among =
    let found = of-flat bits b ports among in
    in-flat (λ port. map f (bits port)) found.0 (f b) ports found.1 (in-map f b (bits found.0) found.2)

abbrev read_of : Name × Option ℕ → Reader × Node
read_of b = (TopOutput b.0 b.1, Outer b.0 b.1)

bits-made : (port : PortView)
    → map read_of (map (λ (i : Option ℕ). (port.name, i)) (indices port.range)) ≡ map (λ (i : Option ℕ). (TopOutput port.name i, Outer port.name i)) (indices port.range)
bits-made port = twice (indices port.range)
  where
    twice : (xs : List (Option ℕ))
        → map read_of (map (λ (i : Option ℕ). (port.name, i)) xs) ≡ map (λ (i : Option ℕ). (TopOutput port.name i, Outer port.name i)) xs
    twice [] = refl
    twice (x ∷ xs) = ap (λ ys. (TopOutput port.name x, Outer port.name x) ∷ ys) (twice xs)

output-in : (s : Structure) (b : Name × Option ℕ) → IsIn b (output_bits s) → IsIn (read_of b) (top_outputs s)
output-in s b among = by (module_at s []) refl
  where
    by : (found : Option ModuleView) → module_at s [] ≡ found → IsIn (read_of b) (top_outputs s)
    by None is = absurd (rw is at among)
    by (Some m) is = rw is (in-ports m (rw is at among))
      where
        in-ports : (m : ModuleView)
            → IsIn b (flat_map (λ (port : PortView). map (λ (i : Option ℕ). (port.name, i)) (indices port.range)) (filter (λ (port : PortView). not (is_input port)) m.ports))
            → IsIn (read_of b) (flat_map (λ (port : PortView). map (λ (i : Option ℕ). (TopOutput port.name i, Outer port.name i)) (indices port.range)) (filter (λ (port : PortView). not (is_input port)) m.ports))
        in-ports m here =
            let found = of-flat (λ (port : PortView). map (λ (i : Option ℕ). (port.name, i)) (indices port.range)) b (filter (λ (port : PortView). not (is_input port)) m.ports) here in
            in-flat (λ (port : PortView). map (λ (i : Option ℕ). (TopOutput port.name i, Outer port.name i)) (indices port.range)) found.0 (read_of b) (filter (λ (port : PortView). not (is_input port)) m.ports) found.1
            (subst (IsIn (read_of b)) (bits-made found.0) (in-map read_of b (map (λ (i : Option ℕ). (found.0.name, i)) (indices found.0.range)) found.2))

in-some : {T U : Type 0} (f : T → Option U) (a : T) (b : U) (xs : List T) → IsIn a xs → f a ≡ Some b → IsIn b (some_of f xs)
in-some f a b [] among is = absurd among
in-some f a b (x ∷ xs) among is = by (f x) refl (λ rest. in-some f a b xs rest is)
  where
    by : (found : Option _) → f x ≡ found → (IsIn a xs → IsIn b (some_of f xs)) → IsIn b (and_more found (some_of f xs))
    by None e more = elim among [ inl same ↦ (let none : None ≡ Some b = sym e ∙ ap f (sym same) ∙ is in absurd cc) | inr rest ↦ more rest ]
    by (Some y) e more = elim among [ inl same ↦ (let one : Some y ≡ Some b = sym e ∙ ap f (sym same) ∙ is in inl (let here : b ≡ y = cc in here)) | inr rest ↦ inr (more rest) ]

pin-by : (a : Placed) (q : PinView) (k : Node) (c : CellView) (found : Option ModuleView)
    → option_and_then (λ (m : ModuleView). option_and_then (λ (x : InstanceView). pin_node a.path q.name x.connections) (instance_named m a.instance)) found ≡ Some k
    → IsIn q c.pins → is_output_pin q ≡ false → IsIn (InputPin a.path a.instance q.name, k) (pins_in a (option_and_then (λ (m : ModuleView). instance_named m a.instance) found) (Some c))
pin-by a q k c None joined pin input = absurd cc
pin-by a q k c (Some m) joined pin input = via (instance_named m a.instance) joined
  where
    via : (x : Option InstanceView) → option_and_then (λ (y : InstanceView). pin_node a.path q.name y.connections) x ≡ Some k
        → IsIn (InputPin a.path a.instance q.name, k) (pins_in a x (Some c))
    via None e = absurd cc
    via (Some x) e =
        in-some (λ (r : PinView). option_and_then (λ (j : Node). Some (InputPin a.path a.instance r.name, j)) (pin_node a.path r.name x.connections)) q (InputPin a.path a.instance q.name, k) (filter (λ (r : PinView). not (is_output_pin r)) c.pins)
        (in-filter (λ (r : PinView). not (is_output_pin r)) q c.pins pin (ap not input))
        (ap (option_and_then (λ (j : Node). Some (InputPin a.path a.instance q.name, j))) e)

pub input-in : (s : Structure) (a : Placed) (q : PinView) (k : Node) → ConnectsInput s a q k → IsIn (InputPin a.path a.instance q.name, k) (readers s)
input-in s a q k at =
    in-left (InputPin a.path a.instance q.name, k) (flat_map (pins_of s) (cell_instances s)) (top_outputs s)
    (in-flat (pins_of s) a (InputPin a.path a.instance q.name, k) (cell_instances s) at.placed
    (subst (λ z. IsIn (InputPin a.path a.instance q.name, k) (pins_in a (option_and_then (λ (m : ModuleView). instance_named m a.instance) (module_at s a.path)) z)) (sym at.is_cell)
    (pin-by a q k at.cell (module_at s a.path) at.node at.pin at.input)))

-- ---- none of them is under what reaches it

reader-reads : (p : Project) (r : Reader) (k : Node) → IsIn (r, k) (readers p.structure) → IsIn (PinReads r k) (all_readings p)
reader-reads p r k among =
    in-right (PinReads r k) (map (λ o. ClampReads o) (filter is_clamp (all_operators p))) (map (λ (x : Reader × Node). PinReads x.0 x.1) (readers p.structure))
    (in-map (λ (x : Reader × Node). PinReads x.0 x.1) (r, k) (readers p.structure) among)

module _ (p : Project) (ev : Event) (A : Assignment) (h : IsFedWithin p ev A) (declared : first_of (no_states p.supplies) ≡ None) (none : first_of (uncovered_level p) ≡ None) where
  pub clamp-not_under : (o : OperatorAt) (t : ℕ) (i : SetNumber) → IsIn o (all_operators p) → o.operator ≡ Clamp t i
      → IsNeverUnder p.margin (power_state p A (rail_after (rail_to_bit p o.bit) (take o.number (chain_of p o.bit)))) (power_state p A (Some i))
  clamp-not_under o t i among is =
      subst (λ r. IsNeverUnder p.margin (power_state p A (rail_after (rail_to_bit p o.bit) (take o.number (chain_of p o.bit)))) (power_state p A r)) (clamp-supply p o t i is)
      (readings-not_under p ev A h declared none (ClampReads o) (clamp-reads p o t i among is))

  pub reader-not_under : (r : Reader) (k : Node) → IsIn (r, k) (readers p.structure)
      → IsNeverUnder p.margin (power_state p A (rail_of (design_of p) k)) (power_state p A (reader_supply p.intent r))
  reader-not_under r k among = readings-not_under p ev A h declared none (PinReads r k) (reader-reads p r k among)

  pub input-not_under : (a : Placed) (q : PinView) (k : Node) → ConnectsInput p.structure a q k
      → IsNeverUnder p.margin (power_state p A (rail_of (design_of p) k)) (power_state p A (primary_of p.intent (domain_of p.intent a.path)))
  input-not_under a q k at = reader-not_under (InputPin a.path a.instance q.name) k (input-in p.structure a q k at)

  pub output-not_under : (b : Name × Option ℕ) → IsIn b (output_bits p.structure)
      → IsNeverUnder p.margin (power_state p A (rail_of (design_of p) (Outer b.0 b.1))) (power_state p A (reader_supply p.intent (TopOutput b.0 b.1)))
  output-not_under b among = reader-not_under (TopOutput b.0 b.1) (Outer b.0 b.1) (in-right (read_of b) (flat_map (pins_of p.structure) (cell_instances p.structure)) (top_outputs p.structure) (output-in p.structure b among))

  pub output-shown : (b : Name × Option ℕ) → IsIn b (output_bits p.structure) → shown (design_of p) A b ≡ at A (Outer b.0 b.1)
  output-shown b among =
      ap (λ under. if under then X else at A (Outer b.0 b.1)) (not-under_by p A (rail_of (design_of p) (Outer b.0 b.1)) (reader_supply p.intent (TopOutput b.0 b.1)) (output-not_under b among))
