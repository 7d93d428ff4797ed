-- The worked project is read: what readers of netlists, libraries and power intent give of it.
use Rattle.std.proofs.Common.{◌≡◌, ◌≤◌, ◌<◌, ℕ, zero, suc, arith, Bool, true, false, List, [], ◌∷◌, length, Option, Some, None, inl, inr, refl, sym, ap, ◌∙◌, subst}
use Rattle.std.specs.Prelude.{All, codes, slice_get}
use Rattle.std.specs.List.{list_all}
use Rattle.std.proofs.lemmas.Bool.{cases_lt, false≢true}
use Rattle.lp_model.specs.declared.fault.netlist.NetlistLimit.TheVariants as depths
use Rattle.lp_model.specs.declared.intent.DeclaredState.TheVariants.{On}
use Rattle.lp_model.specs.declared.supply.Row.{Row}
use Rattle.lp_model.specs.NetlistView.{BitView, AssignView, ModuleView}
use Rattle.lp_model.specs.LibraryView.{CellView}
use Rattle.lp_rows.specs.Network.{IsNetwork, IsRow, IsSetOf, port_states, input_of, root_of, ends_at_port}
use Rattle.lp_spec_design.specs.Keys.{Path, Node, Inner}
use Rattle.lp_spec_design.specs.Instances.{module_instances}
use Rattle.lp_spec_design.specs.Netlists.{module_at}
use Rattle.lp_spec_design.specs.Nodes.{computing, DeclaresBits, IsDeclared}
use Rattle.lp_spec_design.specs.Intents.{Strategy, FromPort, FromSwitch}
use Rattle.lp_spec_design.specs.Winners.{IsIn}
use Rattle.lp_spec_design.proofs.Sources.{in_reach}
use Rattle.lp_spec_network.proofs.Samples.{set_of}
use Rattle.lp_spec_fit.proofs.Samples.{register, retention_register, header}
use Rattle.lp_spec_realises.specs.Projects.{network_of}
use Rattle.lp_spec_faults.specs.Lines.{first_of}
use Rattle.lp_spec_faults.specs.Modules.{netlist_limits}
use Rattle.lp_spec_faults.proofs.Depth.{shallow}
use Rattle.lp_spec_agreement.specs.Faultless.{IsSoundCell}
use Rattle.lp_spec_agreement.proofs.Apart.{all_in}
use Rattle.lp_spec_agreement.proofs.Framed.{no_fault}
use Rattle.lp_spec_agreement.proofs.Orders.{declares}
use Rattle.lp_spec_agreement.proofs.Premises.{all_cons, all_none, IsLow, buffer_sound, clamp_sound, shifter_sound}
use Rattle.lp_spec_faultless.specs.Faults.{is_outer, IsReadNetlist, IsRead}
use Rattle.lp_spec_worked.proofs.Worked.{worked}

-- ---- the netlist

pub limits : first_of (netlist_limits worked.structure) ≡ None
unfolding computing
limits = refl

is_shallow : (q : Path) → 64 ≤ length q → module_at worked.structure q ≡ None
is_shallow q long = shallow worked.structure (no_fault (netlist_limits worked.structure) limits depths.Depth (inr (inr (inl refl)))) q long

declared : DeclaresBits worked.structure
unfolding computing
declared = declares worked.structure is_shallow refl

-- ---- the library

register_sound : IsSoundCell register
register_sound = record { names = refl; switched = refl; sound = record { names_apart = refl; pgs_apart = refl; related = refl; pins = refl; switched = refl; state = refl; retention = refl; powered = refl } }

retained_sound : IsSoundCell retention_register
retained_sound = record { names = refl; switched = refl; sound = record { names_apart = refl; pgs_apart = refl; related = refl; pins = refl; switched = refl; state = refl; retention = refl; powered = refl } }

header_sound : IsSoundCell header
header_sound = record { names = refl; switched = refl; sound = record { names_apart = refl; pgs_apart = refl; related = refl; pins = refl; switched = refl; state = refl; retention = refl; powered = refl } }

all_sound : (c : CellView) → IsIn c worked.structure.cells → IsSoundCell c
all_sound c (inl is) = subst IsSoundCell (sym is) buffer_sound
all_sound c (inr (inl is)) = subst IsSoundCell (sym is) clamp_sound
all_sound c (inr (inr (inl is))) = subst IsSoundCell (sym is) shifter_sound
all_sound c (inr (inr (inr (inl is)))) = subst IsSoundCell (sym is) register_sound
all_sound c (inr (inr (inr (inr (inl is))))) = subst IsSoundCell (sym is) retained_sound
all_sound c (inr (inr (inr (inr (inr (inl is)))))) = subst IsSoundCell (sym is) header_sound
all_sound c (inr (inr (inr (inr (inr (inr gone)))))) = absurd gone

-- ---- supplies

there : (i : ℕ) → Some i ≡ None → ⊥
there i e = absurd cc

network_is : IsNetwork worked.supplies
network_is = record {
  few_origins = omega arith;
  few_rows = omega arith;
  rows = all_none (λ (row : Row). IsRow 4 row.states);
  sets = all_cons (IsSetOf 4) (Some (set_of 0)) (Some (set_of 1) ∷ []) (record { power = omega arith; gnd = omega arith; nwell = omega arith; pwell = omega arith; deepnwell = omega arith; deeppwell = omega arith })
      (all_cons (IsSetOf 4) (Some (set_of 1)) [] (record { power = omega arith; gnd = omega arith; nwell = omega arith; pwell = omega arith; deepnwell = omega arith; deeppwell = omega arith }) (all_none (IsSetOf 4)));
  voltages = within_limits;
  port_roots = own_roots;
  switch_roots = roots_of_inputs;
  inputs = inputs_there;
  ends = at_ports;
}
  where
    within_limits : (o : ℕ) → All IsLow (port_states worked.supplies o)
    within_limits zero = all_cons IsLow (On 1000000) [] (omega arith) (all_none IsLow)
    within_limits (suc zero) = all_none IsLow
    within_limits (suc (suc zero)) = all_cons IsLow (On 0) [] (omega arith) (all_none IsLow)
    within_limits (suc (suc (suc zero))) = all_cons IsLow (On 800000) [] (omega arith) (all_none IsLow)
    within_limits (suc (suc (suc (suc o)))) = all_none IsLow

    own_roots : (o : ℕ) → o < 4 → input_of worked.supplies o ≡ None → root_of worked.supplies o ≡ o
    own_roots zero less e = refl
    own_roots (suc zero) less e = absurd (there 3 e)
    own_roots (suc (suc zero)) less e = refl
    own_roots (suc (suc (suc zero))) less e = refl
    own_roots (suc (suc (suc (suc o)))) less e = absurd (omega (arith, less))

    roots_of_inputs : (o i : ℕ) → input_of worked.supplies o ≡ Some i → root_of worked.supplies o ≡ root_of worked.supplies i
    roots_of_inputs zero i e = let none : None ≡ Some i = e in absurd cc
    roots_of_inputs (suc zero) i e = let some : Some 3 ≡ Some i = e in let is : 3 ≡ i = cc in ap (root_of worked.supplies) is
    roots_of_inputs (suc (suc zero)) i e = let none : None ≡ Some i = e in absurd cc
    roots_of_inputs (suc (suc (suc zero))) i e = let none : None ≡ Some i = e in absurd cc
    roots_of_inputs (suc (suc (suc (suc o)))) i e = let none : None ≡ Some i = e in absurd cc

    inputs_there : (o i : ℕ) → input_of worked.supplies o ≡ Some i → i < 4
    inputs_there zero i e = let none : None ≡ Some i = e in absurd cc
    inputs_there (suc zero) i e = let some : Some 3 ≡ Some i = e in let is : 3 ≡ i = cc in omega (arith, is)
    inputs_there (suc (suc zero)) i e = let none : None ≡ Some i = e in absurd cc
    inputs_there (suc (suc (suc zero))) i e = let none : None ≡ Some i = e in absurd cc
    inputs_there (suc (suc (suc (suc o)))) i e = let none : None ≡ Some i = e in absurd cc

    at_ports : (o : ℕ) → o < 4 → ends_at_port worked.supplies 4 o ≡ true
    at_ports zero less = refl
    at_ports (suc zero) less = refl
    at_ports (suc (suc zero)) less = refl
    at_ports (suc (suc (suc zero))) less = refl
    at_ports (suc (suc (suc (suc o)))) less = absurd (omega (arith, less))

-- ---- controls and assigns

abbrev is_empty : {A : Type 0} → List A → Bool
is_empty [] = true
is_empty (x ∷ xs) = false

abbrev has_no_assigns : Option ModuleView → Bool
has_no_assigns None = true
has_no_assigns (Some m) = is_empty m.assigns

short : (q : Path) (m : ModuleView) → module_at worked.structure q ≡ Some m → length q < 64
short q m e = elim (cases_lt (length q) 64) [
  | inl less ↦ less
  | inr more ↦ let none : None ≡ Some m = sym (is_shallow q more) ∙ e in absurd cc
]

is_instance : (q : Path) (m : ModuleView) → module_at worked.structure q ≡ Some m → IsIn q (module_instances worked.structure)
unfolding module_instances
is_instance q m e = in_reach worked.structure 64 q m e (short q m e)

get_in : {A : Type 0} (xs : List A) (k : ℕ) (x : A) → slice_get xs k ≡ Some x → IsIn x xs
get_in [] k x e = absurd cc
get_in (y ∷ xs) zero x e = inl cc
get_in (y ∷ xs) (suc k) x e = inr (get_in xs k x e)

strategy_inside : (x : Strategy) → IsIn x worked.intent.strategies → (k : Node) → x.control ≡ Some k → is_outer k ≡ false
strategy_inside x (inl is) k e = let some : Some (Inner (codes "en") None []) ≡ Some k = ap (λ (t : Strategy). t.control) (sym is) ∙ e in let same : Inner (codes "en") None [] ≡ k = cc in ap is_outer (sym same)
strategy_inside x (inr (inl is)) k e = let none : None ≡ Some k = ap (λ (t : Strategy). t.control) (sym is) ∙ e in absurd cc
strategy_inside x (inr (inr (inl is))) k e = let none : None ≡ Some k = ap (λ (t : Strategy). t.control) (sym is) ∙ e in absurd cc
strategy_inside x (inr (inr (inr gone))) k e = absurd gone

switch_inside : (o input : ℕ) (k : Node) (high : Bool) → slice_get (network_of worked).origins o ≡ Some (FromSwitch input k high) → is_outer k ≡ false
unfolding computing
switch_inside zero input k high e = let other : Some FromPort ≡ Some (FromSwitch input k high) = e in absurd cc
switch_inside (suc zero) input k high e =
    let same : Some (FromSwitch 3 (Inner (codes "en") None []) false) ≡ Some (FromSwitch input k high) = e in
    let node : Inner (codes "en") None [] ≡ k = cc in
    ap is_outer (sym node)
switch_inside (suc (suc zero)) input k high e = let other : Some FromPort ≡ Some (FromSwitch input k high) = e in absurd cc
switch_inside (suc (suc (suc zero))) input k high e = let other : Some FromPort ≡ Some (FromSwitch input k high) = e in absurd cc
switch_inside (suc (suc (suc (suc o)))) input k high e = let none : None ≡ Some (FromSwitch input k high) = e in absurd cc

no_assigns : list_all (λ (q : Path). has_no_assigns (module_at worked.structure q)) (module_instances worked.structure) ≡ true
unfolding computing
no_assigns = refl

assigned : (q : Path) (m : ModuleView) (a : AssignView) (b : BitView) → module_at worked.structure q ≡ Some m → IsIn a m.assigns → IsIn b a.right → IsDeclared q m b
assigned q m a b e h g =
    let none : has_no_assigns (Some m) ≡ true = ap has_no_assigns (sym e) ∙ all_in (λ (r : Path). has_no_assigns (module_at worked.structure r)) q (module_instances worked.structure) no_assigns (is_instance q m e) in
    absurd (by m.assigns none h)
  where
    by : (xs : List AssignView) → is_empty xs ≡ true → IsIn a xs → ⊥
    by [] f i = i
    by (x ∷ xs) f i = false≢true f

netlist_is : IsReadNetlist worked.structure
netlist_is = record { names_apart = refl; declared = declared.declared; assigned = assigned }

pub read : IsRead worked
read = record { netlist = netlist_is; library = λ c h usable. all_sound c h; network = network_is; controls = record { strategies = λ t x k e. strategy_inside x (get_in worked.intent.strategies t x e) k; switches = switch_inside } }
