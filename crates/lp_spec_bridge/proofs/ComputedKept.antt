-- What an elaboration keeps, computed on a small design.
use Rattle.std.specs.Prelude.{◌≡◌, ℕ, zero, suc, List, [], ◌∷◌, Some, slice_get, codes}
use Rattle.std.proofs.Common.{map, subst, refl}
use Rattle.lp_model.specs.declared.graph.NodeName.{NodeName}
use Rattle.lp_model.specs.declared.graph.NodeName.TheVariants.{Scalar}
use Rattle.lp_model.specs.declared.graph.Source.TheVariants.{Env}
use Rattle.lp_model.specs.NetlistView.{NetBit, ByName}
use Rattle.lp_spec_design.specs.Keys.{Path}
use Rattle.lp_spec_design.specs.Netlists.{module_at}
use Rattle.lp_spec_design.specs.Instances.{module_instances}
use Rattle.lp_spec_design.specs.Nodes.{computing}
use Rattle.lp_spec_design.proofs.Samples.{plain, top, core, inverter, buffer, to}
use Rattle.lp_spec_bridge.specs.Noted.{DriveRow}
use Rattle.lp_spec_bridge.specs.Kept.{IsKept, StandsFor}
use Rattle.lp_spec_bridge.specs.Named.{name_bit, bits_of, IsNamed}
use Rattle.lp_spec_bridge.proofs.Samples.{texts, tables, of_edge, of_leaf, pin_at, leaf}

abbrev rows : List DriveRow
rows = (0, of_edge 0) ∷ (1, of_edge 1) ∷ (3, of_edge 2) ∷ (2, of_leaf 1 1) ∷ (4, of_edge 3) ∷ (5, of_leaf 1 0) ∷ (6, Env) ∷ (7, Env) ∷ (8, of_edge 4) ∷ []

-- the row of the gate in the block has the places of its module, whose bits begin at the fourth node
gate_stands : StandsFor plain tables (leaf 1 10 0 0) (record { path = codes "u" ∷ []; instance = codes "g" })
unfolding computing
gate_stands = record {
  of = core;
  by = record { name = codes "g"; target = codes "INV"; connections = ByName (to (codes "A") (NetBit (codes "i")) ∷ to (codes "Y") (NetBit (codes "o")) ∷ []) };
  cell = inverter;
  row = pin_at 0 ∷ pin_at 1 ∷ [];
  inst = refl;
  is_of = refl;
  is_by = refl;
  is_cell = refl;
  has_cell = refl;
  resolved = record { same = refl; within = refl };
  served = refl;
}

buffer_stands : StandsFor plain tables (leaf 0 7 1 2) (record { path = []; instance = codes "b" })
unfolding computing
buffer_stands = record {
  of = top;
  by = record { name = codes "b"; target = codes "BUF"; connections = ByName (to (codes "A") (NetBit (codes "n")) ∷ to (codes "Y") (NetBit (codes "y")) ∷ []) };
  cell = buffer;
  row = pin_at 3 ∷ pin_at 2 ∷ [];
  inst = refl;
  is_of = refl;
  is_by = refl;
  is_cell = refl;
  has_cell = refl;
  resolved = record { same = refl; within = refl };
  served = refl;
}

kept : IsKept plain tables
unfolding computing
kept = record {
  rows = rows;
  drives = record { same = refl; within = refl };
  sources = refl;
  leaves = (gate_stands, (buffer_stands, tt));
  count = refl;
  ways = refl;
  closed = record { sources = refl; led = refl; edges = refl; pins = refl; leaves = refl; instances = refl };
}

-- the names of the bits of the top, and of the block
abbrev names : ℕ → List NodeName
names zero = Scalar (record { 0 = 2 }) ∷ Scalar (record { 0 = 3 }) ∷ Scalar (record { 0 = 4 }) ∷ Scalar (record { 0 = 5 }) ∷ []
names (suc k) = Scalar (record { 0 = 8 }) ∷ Scalar (record { 0 = 9 }) ∷ []

named : IsNamed texts plain tables
unfolding computing
named = record {
  names = names;
  each = each;
  bits = refl;
  leaves = refl;
  instances = refl;
  modules = refl;
  starts = refl;
  inner = refl;
  outer_bits = refl;
  edges = refl;
  shapes = refl;
}
  where
    each : (k : ℕ) (p : Path) → slice_get (module_instances plain) k ≡ Some p → map (name_bit texts) (names k) ≡ bits_of (module_at plain p)
    each zero p at = let is : [] ≡ p = cc in subst (λ q. map (name_bit texts) (names 0) ≡ bits_of (module_at plain q)) is refl
    each (suc zero) p at = let is : codes "u" ∷ [] ≡ p = cc in subst (λ q. map (name_bit texts) (names 1) ≡ bits_of (module_at plain q)) is refl
    each (suc (suc k)) p at = absurd cc
