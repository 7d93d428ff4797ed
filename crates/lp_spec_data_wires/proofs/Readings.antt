-- What operators behind the edge of a way read, and the nets by which constants come to ways.
use Rattle.std.proofs.Common.{◌≡◌, ℕ, suc, Bool, true, false, not, ◌&&◌, List, [], ◌∷◌, length, Option, Some, None, inl, inr, refl, sym, ◌∙◌, ap, subst, arith}
use Rattle.std.specs.Prelude.{bytes_eq, slice_get}
use Rattle.std.specs.List.{list_any}
use Rattle.std.proofs.lemmas.Bool.{false≢true, both_ways}
use Rattle.lp_model.specs.NetlistView.{BitView, NetBit, SelectBit, ConstBit, PortView, ModuleView}
use Rattle.lp_spec_design.specs.Keys.{Name, Path, same_path, same_bool, Node, Inner, Outer, Way, PortBit, AssignBit, Source, CellPin, From}
use Rattle.lp_spec_design.specs.Netlists.{Structure, module_at, node_of, indices, connected, is_input}
use Rattle.lp_spec_design.specs.Graph.{pairs, from_port, source_of}
use Rattle.lp_spec_design.specs.Domains.{BoundaryBit, way_of}
use Rattle.lp_spec_design.specs.Reads.{name-self, path-self, both}
use Rattle.lp_spec_design.specs.Winners.{IsIn}
use Rattle.lp_spec_realises.specs.Projects.{Project}
use Rattle.lp_spec_realises.specs.Implements.{parent_of}
use Rattle.lp_spec_written.specs.Places.{Standing}
use Rattle.lp_spec_written.specs.Nets.{is_inside, is_constant, leads_constant, stood}
use Rattle.lp_spec_written.specs.Written.{Additions}
use Rattle.lp_spec_hub.specs.Spots.{Spot, Before, on_way, is_behind}
use Rattle.lp_spec_hub.specs.Drives.{is_fixed}
use Rattle.lp_spec_wired.proofs.Chains.{in-filter, boundary-port}
use Rattle.lp_spec_written_at.proofs.Instances.{HasModule, bit-module}
use Rattle.lp_spec_wired.specs.Contents.{IsWrittenAt}
use Rattle.lp_spec_wired.specs.Names.{placement_by, node_at}
use Rattle.lp_spec_wired.specs.Laws.{StandsFor}
use Rattle.lp_spec_driven.specs.Sound.{IsProper, node_behind, node_ahead, behind_by, ahead_by}
use Rattle.lp_spec_driven.proofs.Edges.{path_of_way}
use Rattle.lp_spec_data_wires.proofs.Items.{Item, ByPort, ByCell, ByOutput, ByAssign, OfPort, OfOutput, item}
use Rattle.lp_spec_data_wires.proofs.Lists.{module-above, stood-in}
use Rattle.lp_spec_data_wires.proofs.WaysIn.{top-in, low-in}
use Rattle.lp_spec_data_wires.proofs.Inputs.{top-reading, low-reading}
use Rattle.lp_spec_data_wires.proofs.Outputs.{output-reading}

-- no path is below itself
not-below : (i : Name) (x : Path) → x ≡ i ∷ x → ⊥
not-below i x e = let long : length x ≡ suc (length x) = ap length e in absurd (omega (arith, long))

-- the way of a source that is one
abbrev way_from : Source → Way
way_from (From v k) = v
way_from _ = AssignBit [] 0 0

from-is : (v : Way) (j : Node) (z : Source) → From v j ≡ z → v ≡ way_from z
from-is v j z e = ap way_from e

module _ (p : Project) (a : Additions) (w : Structure) (from : Way → Node) (written : IsWrittenAt p a w) (proper : IsProper p a from) where
  abbrev s : Structure
  s = p.structure

  abbrev Stands : Spot → Type 0
  Stands k = StandsFor p a w (placement_by p a) from k

  -- inside an input port
  port-reading : (x : Path) (m : ModuleView) → module_at s x ≡ Some m → (q : PortView) → IsIn q m.ports → is_input q ≡ true → (i : Option ℕ) (z : Source) (more : List Source) → from_port s x q.name i q ≡ z ∷ more → source_of s (Inner q.name i x) ≡ Some z
      → (k : ℕ) (o : Standing) → slice_get (on_way a.plan.operators (PortBit x q.name i)) k ≡ Some o → is_behind o ≡ true → Stands (Before (PortBit x q.name i) k)
  port-reading [] m e q q_in input i z more list source k o f side =
      let it = top-in s q i z more list in
      top-reading p a w from written proper m e q q_in input i it.0 (source ∙ ap (λ u. Some u) it.1) k o f side
  port-reading (inst ∷ up) m e q q_in input i z more list source k o f side =
      let it = low-in s q i z more inst up m e list in
      low-reading p a w from written proper inst up m e q q_in input i (node_of up it.two.1) more (list ∙ ap (λ u. u ∷ more) it.is) (source ∙ ap (λ u. Some u) it.is) k o f side

  module _ (o : Standing) (o_in : IsIn o a.plan.operators) where
    abbrev b : BoundaryBit
    b = o.asked.bit

    leads : source_of s (node_behind s b) ≡ Some (From (way_of b) (node_ahead s b))
    leads = proper.on_ways.leads o o_in

    module_is : HasModule s b.path
    module_is = bit-module p b (proper.names.chains.bits o o_in)

    port_in : IsIn b.port module_is.inner.ports
    port_in = boundary-port p b module_is.inner (proper.names.chains.bits o o_in) module_is.at

    -- an item that gives a way of a port's bit is an input port of its instance
    own-item : (x : Path) (m : ModuleView) (n : Name) (i : Option ℕ) → b.path ≡ x → Item p x m n i (From (way_of b) (node_ahead s b)) → OfPort s x m n i (From (way_of b) (node_ahead s b))
    own-item x m n i path (ByPort h) = h
    own-item x m n i path (ByCell h) = let bad : From (way_of b) (node_ahead s b) ≡ CellPin x h.instance.name h.pin.pin.name = h.pin.is in absurd cc
    own-item x m n i path (ByOutput h) = absurd (not-below h.instance.name x (sym path ∙ ap path_of_way (from-is (way_of b) (node_ahead s b) _ h.is)))
    own-item x m n i path (ByAssign h) = let bad : PortBit b.path b.port.name b.index ≡ AssignBit x h.number h.place = from-is (way_of b) (node_ahead s b) _ h.is in absurd cc

    -- a way into a port is of its own instance
    in-path : (x : Path) (m : ModuleView) (n : Name) (i : Option ℕ) → module_at s x ≡ Some m → OfPort s x m n i (From (way_of b) (node_ahead s b)) → b.path ≡ x
    in-path [] m n i e h = ap path_of_way (from-is (way_of b) (node_ahead s b) _ (top-in s h.port i _ h.more (ap (λ u. from_port s [] u i h.port) h.named ∙ h.is)).1)
    in-path (inst ∷ up) m n i e h = ap path_of_way (from-is (way_of b) (node_ahead s b) _ (low-in s h.port i _ h.more inst up m e (ap (λ u. from_port s (inst ∷ up) u i h.port) h.named ∙ h.is)).is)

    -- or else an output of an instance below
    up-item : (inst : Name) (x : Path) (m : ModuleView) (n : Name) (i : Option ℕ) → b.path ≡ inst ∷ x → module_at s x ≡ Some m → Item p x m n i (From (way_of b) (node_ahead s b)) → OfOutput p x m n i (From (way_of b) (node_ahead s b))
    up-item inst x m n i path e (ByPort h) = absurd (not-below inst x (sym (in-path x m n i e h) ∙ path))
    up-item inst x m n i path e (ByCell h) = let bad : From (way_of b) (node_ahead s b) ≡ CellPin x h.instance.name h.pin.pin.name = h.pin.is in absurd cc
    up-item inst x m n i path e (ByOutput h) = h
    up-item inst x m n i path e (ByAssign h) = let bad : PortBit b.path b.port.name b.index ≡ AssignBit x h.number h.place = from-is (way_of b) (node_ahead s b) _ h.is in absurd cc

    abbrev way : Way
    way = way_of b

    -- ---- what it reads

    module _ (k : ℕ) (f : slice_get (on_way a.plan.operators way) k ≡ Some o) (side : is_behind o ≡ true) where
      -- inside an input
      by-input : is_input b.port ≡ true → Stands (Before way k)
      by-input input =
          let behind : node_behind s b ≡ Inner b.port.name b.index b.path = ap (behind_by s b b.path) input in
          let source : source_of s (Inner b.port.name b.index b.path) ≡ Some (From way (node_ahead s b)) = ap (source_of s) (sym behind) ∙ leads in
          let h = own-item b.path module_is.inner b.port.name b.index refl (item p a from proper b.path module_is.inner module_is.at b.port.name b.index (From way (node_ahead s b)) source) in
          named h.port.name h.named (port-reading b.path module_is.inner module_is.at h.port h.listed h.input b.index (From way (node_ahead s b)) h.more (ap (λ u. from_port s b.path u b.index h.port) h.named ∙ h.is)
          (ap (λ u. source_of s (Inner u b.index b.path)) h.named ∙ source) k o)
        where
          named : (u : Name) → u ≡ b.port.name → (slice_get (on_way a.plan.operators (PortBit b.path u b.index)) k ≡ Some o → is_behind o ≡ true → Stands (Before (PortBit b.path u b.index) k)) → Stands (Before way k)
          named u is result = subst (λ v. Stands (Before (PortBit b.path v b.index) k)) is (result (ap (λ v. slice_get (on_way a.plan.operators (PortBit b.path v b.index)) k) is ∙ f) side)

      -- in the parent of an output
      by-bits : (inst : Name) (up : Path) (m : ModuleView) → b.path ≡ inst ∷ up → module_at s up ≡ Some m → (n : Name) (i : Option ℕ) → node_behind s b ≡ Inner n i up → Stands (Before way k)
      by-bits inst up m path e n i is =
          let h = up-item inst up m n i path e (item p a from proper up m e n i (From way (node_ahead s b)) (ap (source_of s) (sym is) ∙ leads)) in
          let same : way ≡ PortBit (h.instance.name ∷ up) h.port.name h.index = from-is way (node_ahead s b) _ h.is in
          subst (λ v. Stands (Before v k)) (sym same)
          (output-reading p a w from written proper up m h.instance h.port h.index h.bit h.has k o (ap (λ v. slice_get (on_way a.plan.operators v) k) (sym same) ∙ f) side)

      by-stood : (inst : Name) (up : Path) (m : ModuleView) → b.path ≡ inst ∷ up → module_at s up ≡ Some m → (bits : List BitView) → node_behind s b ≡ node_at up bits → Stands (Before way k)
      by-stood inst up m path e [] is = let none : None ≡ Some (From way (node_ahead s b)) = ap (source_of s) (sym is) ∙ leads in absurd cc
      by-stood inst up m path e (NetBit n ∷ bits) is = by-bits inst up m path e n None is
      by-stood inst up m path e (SelectBit n i ∷ bits) is = by-bits inst up m path e n (Some i) is
      by-stood inst up m path e (ConstBit v ∷ bits) is = let none : None ≡ Some (From way (node_ahead s b)) = ap (source_of s) (sym is) ∙ leads in absurd cc

      at-top : b.path ≡ [] → is_input b.port ≡ false → Stands (Before way k)
      at-top path output =
          let lies : o.path ≡ b.path = elim (proper.on_ways.near o o_in) [ inl own ↦ own | inr up ↦ up ∙ (ap parent_of path ∙ sym path) ] in
          absurd (both_ways (is_behind o) (ap (λ t. same_bool t (is_inside o.path b)) output ∙ ap (λ u. same_bool false (same_path u b.path)) lies ∙ ap (same_bool false) (path-self b.path)) side)

      by-output : (x : Path) → b.path ≡ x → is_input b.port ≡ false → Stands (Before way k)
      by-output [] path output = at-top path output
      by-output (inst ∷ up) path output =
          let parent = module-above s b.path module_is.inner module_is.at in
          by-stood inst up parent.0 path (ap (λ u. module_at s (parent_of u)) (sym path) ∙ parent.1) (stood s b)
          (ap (behind_by s b b.path) output ∙ ap (λ u. behind_by s b u false) path)

      pub reading : Stands (Before way k)
      reading = by (is_input b.port) refl
        where
          by : (d : Bool) → is_input b.port ≡ d → Stands (Before way k)
          by true input = by-input input
          by false output = by-output b.path refl output

    -- ---- the net of a constant

    module _ (side : is_behind o ≡ false) (fixed : is_fixed (node_ahead s b) ≡ true) where
      constant-first : (x : Path) (bits : List BitView) (u : BitView) → IsIn u bits → is_fixed (node_at x bits) ≡ true → list_any is_constant bits ≡ true
      constant-first x [] u h e = absurd h
      constant-first x (NetBit n ∷ bits) u h e = absurd (false≢true e)
      constant-first x (SelectBit n i ∷ bits) u h e = absurd (false≢true e)
      constant-first x (ConstBit v ∷ bits) u h e = refl

      outside : is_input b.port ≡ true → is_inside o.path b ≡ false
      outside input = sym (ap (λ t. same_bool t (is_inside o.path b)) input) ∙ side

      one-port : (q : PortView) → IsIn q module_is.inner.ports → q.name ≡ b.port.name → q ≡ b.port
      one-port q q_in is =
          elim (subst (λ l. IsIn q l) (proper.plain.ports b.path module_is.inner b.port module_is.at port_in) (in-filter (λ (r : PortView). bytes_eq r.name b.port.name) module_is.inner.ports q q_in (ap (λ n. bytes_eq n b.port.name) is ∙ name-self b.port.name))) [ inl same ↦ same | inr none ↦ absurd none ]

      stood-there : (inst : Name) (up : Path) → b.path ≡ inst ∷ up → is_input b.port ≡ true → (u : BitView) × IsIn u (stood s b)
      stood-there inst up path input =
          let behind : node_behind s b ≡ Inner b.port.name b.index b.path = ap (behind_by s b b.path) input in
          let e : module_at s (inst ∷ up) ≡ Some module_is.inner = ap (module_at s) (sym path) ∙ module_is.at in
          let source : source_of s (Inner b.port.name b.index (inst ∷ up)) ≡ Some (From way (node_ahead s b)) = ap (λ u. source_of s (Inner b.port.name b.index u)) (sym path) ∙ (ap (source_of s) (sym behind) ∙ leads) in
          let h = own-item (inst ∷ up) module_is.inner b.port.name b.index path (item p a from proper (inst ∷ up) module_is.inner e b.port.name b.index (From way (node_ahead s b)) source) in
          let it = low-in s h.port b.index (From way (node_ahead s b)) h.more inst up module_is.inner e (ap (λ u. from_port s (inst ∷ up) u b.index h.port) h.named ∙ h.is) in
          let same : h.port ≡ b.port = one-port h.port h.listed h.named in
          let pair = subst (λ (q : PortView). IsIn it.two (pairs (indices q.range) (connected module_is.inner.ports q.name it.instance.connections))) same it.pair in
          (it.two.1, stood-in s b inst up path it.parent it.above it.instance it.found module_is.inner it.target it.two pair it.index)

      by-path : (x : Path) → b.path ≡ x → (d : Bool) → is_input b.port ≡ d → leads_constant s o.path b ≡ true
      by-path x path false output =
          let ahead : node_ahead s b ≡ Inner b.port.name b.index b.path = ap (ahead_by s b b.path) output ∙ at-output b.path in
          absurd (false≢true (ap is_fixed (sym ahead) ∙ fixed))
        where
          at-output : (u : Path) → ahead_by s b u false ≡ Inner b.port.name b.index b.path
          at-output [] = refl
          at-output (i ∷ u) = refl
      by-path [] path true input =
          let ahead : node_ahead s b ≡ Outer b.port.name b.index = ap (ahead_by s b b.path) input ∙ ap (λ u. ahead_by s b u true) path in
          absurd (false≢true (ap is_fixed (sym ahead) ∙ fixed))
      by-path (inst ∷ up) path true input =
          let ahead : node_ahead s b ≡ node_at up (stood s b) = ap (ahead_by s b b.path) input ∙ ap (λ u. ahead_by s b u true) path in
          let there = stood-there inst up path input in
          both (is_input b.port) (not (is_inside o.path b) && list_any is_constant (stood s b)) input
          (both (not (is_inside o.path b)) (list_any is_constant (stood s b)) (ap not (outside input))
          (constant-first up (stood s b) there.0 there.1 (ap is_fixed (sym ahead) ∙ fixed)))

      pub leads-a-constant : leads_constant s o.path b ≡ true
      leads-a-constant = by-path b.path refl (is_input b.port) refl
