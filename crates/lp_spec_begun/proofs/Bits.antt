-- The net bits of the source begin in the written netlist where they have to.
use Rattle.std.proofs.Common.{◌≡◌, ℕ, true, false, not, List, Option, Some, None, inl, inr, refl, ap, ◌∙◌}
use Rattle.std.specs.Prelude.{flat_map, is_some}
use Rattle.lp_model.specs.NetlistView.{PortView, NetView, ModuleView}
use Rattle.lp_model.specs.declared.netlist.BitRange.{BitRange}
use Rattle.lp_spec_design.specs.Keys.{Name, Path, Node, Inner}
use Rattle.lp_spec_design.specs.Netlists.{Structure, module_at, indices, node_of}
use Rattle.lp_spec_design.specs.Nodes.{fuel_of}
use Rattle.lp_spec_design.specs.Reads.{both}
use Rattle.lp_spec_design.specs.Winners.{IsIn}
use Rattle.lp_spec_design.proofs.Members.{in-either, of-map, of-flat}
use Rattle.lp_spec_faults.specs.Modules.{is_own}
use Rattle.lp_spec_realises.specs.Projects.{Project}
use Rattle.lp_spec_realises.specs.Implements.{Lists}
use Rattle.lp_spec_realises.specs.Ends.{intended}
use Rattle.lp_spec_realises.specs.Controls.{bits_of_net, all_bits}
use Rattle.lp_spec_written.specs.Places.{instances, plan}
use Rattle.lp_spec_written.specs.Nets.{Stretch, stretches, bit_of, renamed}
use Rattle.lp_spec_written.specs.Implements.{named_bits_in, named_bits, bit_begins}
use Rattle.lp_spec_hub.specs.Laws.{EndsAsWired, WholePlan}
use Rattle.lp_spec_wired.specs.Names.{placement_of}
use Rattle.lp_spec_written_at.specs.Sources.{IsFree}
use Rattle.lp_spec_written_at.proofs.Lists.{all-of}
use Rattle.lp_spec_written_at.proofs.Modules.{from-modules, free-port, free-net}
use Rattle.lp_spec_wires.specs.Standing.{is_kept}
use Rattle.lp_spec_begun.specs.Begun.{HasWires}
use Rattle.lp_spec_begun.specs.Laws.{BitsBegin}
use Rattle.lp_spec_begun.proofs.Ends.{end-is, at-node}

-- ---- net bits of the source are wires

pub kept-inner : (s : Structure) (n : Name) (i : Option ℕ) (x : Path) (m : ModuleView) → is_own n ≡ false → module_at s x ≡ Some m → is_kept s (Inner n i x) ≡ true
kept-inner s n i x m free e = both (not (is_own n)) (is_some (module_at s x)) (ap not free) (ap (λ o. is_some o) e)

net-name : (n : Name) (range : Option BitRange) (b : Name × Option ℕ) → IsIn b (bits_of_net n range) → b.0 ≡ n
net-name n range b h = ap (λ (z : Name × Option ℕ). z.0) (of-map (λ i. (n, i)) b (indices range) h).2

pub free-bit : (p : Project) → IsFree p → (m : ModuleView) → IsIn m p.structure.modules → (b : Name × Option ℕ) → IsIn b (all_bits m) → is_own b.0 ≡ false
free-bit p f m h b g = elim (in-either b (flat_map (λ (x : PortView). bits_of_net x.name x.range) m.ports) (flat_map (λ (x : NetView). bits_of_net x.name x.range) m.nets) g) [
  | inl q ↦ let at = of-flat (λ (x : PortView). bits_of_net x.name x.range) b m.ports q in ap is_own (net-name at.0.name at.0.range b at.2) ∙ free-port p f m at.0 h at.1
  | inr n ↦ let at = of-flat (λ (x : NetView). bits_of_net x.name x.range) b m.nets n in ap is_own (net-name at.0.name at.0.range b at.2) ∙ free-net p f m at.0 h at.1
]

-- ---- each begins where it has to

module _ (ends : EndsAsWired) (whole : WholePlan) (p : Project) (l : Lists) (w : Structure) (h : HasWires p l w) where
  abbrev chains : List Stretch
  chains = stretches p (plan p l)

  bit-begins : (b : Node × Node) → IsIn b (named_bits p l) → bit_begins p w (placement_of p l) (fuel_of w) b ≡ true
  bit-begins b g =
      let at = of-flat (λ x. named_bits_in chains x (module_at p.structure x)) b (instances p) g in
      by at.0 (module_at p.structure at.0) refl at.2
    where
      by : (x : Path) (o : Option ModuleView) → module_at p.structure x ≡ o → IsIn b (named_bits_in chains x o) → bit_begins p w (placement_of p l) (fuel_of w) b ≡ true
      by x None e r = absurd r
      by x (Some m) e r =
          let found = of-map (λ (z : Name × Option ℕ). (Inner z.0 z.1 x, node_of x (renamed chains x (bit_of z.0 z.1)))) b (all_bits m) r in
          let k : Node = Inner found.0.0 found.0.1 x in
          let free = free-bit p h.proper.fit.free m (from-modules p.structure x m e) found.0 found.1 in
          ap (bit_begins p w (placement_of p l) (fuel_of w)) found.2
          ∙ end-is _ (intended p w (placement_of p l) k) (at-node ends whole p l w h k (kept-inner p.structure found.0.0 found.0.1 x m free e))

pub bits_begin_there : EndsAsWired → WholePlan → BitsBegin
bits_begin_there ends whole p l w h = all-of (bit_begins p w (placement_of p l) (fuel_of w)) (named_bits p l) (bit-begins ends whole p l w h)
