-- The written netlist has at each path of the source the written module of that path.
use Rattle.std.proofs.Common.{◌≡◌, ◌≤◌, ◌<◌, ℕ, ◌+◌, Bool, true, false, not, ◌&&◌, ◌||◌, List, [], ◌∷◌, ◌++◌, length, map, Option, Some, None, inl, inr, refl, sym, ap, ◌∙◌, subst, arith}
use Rattle.std.specs.Prelude.{slice_get, drop, filter, flat_map, if◌then◌else◌, bytes_eq, option_and_then, decimal, is_some}
use Rattle.std.specs.List.{list_all}
use Rattle.std.proofs.lemmas.Bool.{false≢true}
use Rattle.std.proofs.lemmas.Bool.Decides.{leb_tells}
use Rattle.lp_model.specs.NetlistView.{PortView, NetView, InstanceView, ModuleView}
use Rattle.lp_model.specs.LibraryView.{CellView}
use Rattle.lp_spec_design.specs.Keys.{Name, Path}
use Rattle.lp_spec_design.specs.Netlists.{Structure, first, module_named, is_instantiated, top_of, instance_named, module_at}
use Rattle.lp_spec_design.specs.Instances.{Placed, children, below, module_instances, cell_instances}
use Rattle.lp_spec_design.specs.Intents.{Strategy}
use Rattle.lp_spec_design.specs.Registers.{retention}
use Rattle.lp_spec_design.specs.Graph.{some_of, numbered}
use Rattle.lp_spec_design.specs.Domains.{BoundaryBit, boundary}
use Rattle.lp_spec_design.specs.Winners.{IsIn, one_if}
use Rattle.lp_spec_design.specs.Chains.{Operator, Clamp, Shift}
use Rattle.lp_spec_design.specs.Reads.{other, name-true, name-self}
use Rattle.lp_spec_design.proofs.Members.{in-left, in-right, in-either, in-map, in-flat, of-map, of-flat, of-filter, of-some, of-pairs, of-numbered}
use Rattle.lp_spec_design.proofs.Sources.{then_is, first_in, in_reach}
use Rattle.lp_spec_realises.specs.Projects.{Project}
use Rattle.lp_spec_realises.specs.ProjectNetlists.{netlist_of, are_apart, names_in, is_known}
use Rattle.lp_spec_realises.specs.Operators.{OperatorAt, all_operators, all_switches}
use Rattle.lp_spec_realises.specs.Implements.{Lists, operator_path, operator_chosen, switch_chosen, register_chosen, is_retained}
use Rattle.lp_spec_fit.specs.Fits.{is_usable}
use Rattle.lp_spec_faults.specs.Modules.{Declared, OfModule, OfPart, names_of, is_own, is_cell, is_reserved, instances_of, all_instances}
use Rattle.lp_spec_written.specs.Places.{instances, instance_number, Standing, Kept, Switching, Plan, cell_numbered, standing_at, standing, kept_by, kept, switching, plan, operator_names, operator_name, is_clamp, is_shift, switches_in}
use Rattle.lp_spec_written.specs.Supplies.{kept_at}
use Rattle.lp_spec_written.specs.Nets.{Stretch, operators_there, net_count, stretches_from, stretches, stretches_in, linked, Linked}
use Rattle.lp_spec_written.specs.Written.{Additions, additions, module_name, kept_target, written_by_target, written_instance, written_operator, named_operators, written_operators, written_switches, written_switch, written_instances, written_module, written_by, written}
use Rattle.lp_spec_wired.specs.Contents.{IsInstance, AreInstances, IsWrittenAt}
use Rattle.lp_spec_written_at.specs.Sources.{takes_own_name, has_own_target, IsFree, IsListed, HasListedCells, IsReached}
use Rattle.lp_spec_written_at.proofs.Usable.{operator-usable, register-usable, switch-usable}
use Rattle.lp_spec_written_at.proofs.Names.{same-number}
use Rattle.lp_spec_written_at.proofs.Lists.{none-first, first-head, first-left, first-right, first-made, none-made, only-first, number-tells, number-small, none-any, any-none, of-all, apart-right, first-apart, in-slice}

abbrev netlist : Project → Additions → Structure
netlist p a = netlist_of p (written_by p a)

abbrev pub item : Project → Additions → Path → Option ModuleView
item p a x = option_and_then (λ m. Some (written_module p a x m)) (module_at p.structure x)

-- ---- modules of the source

pub from-modules : (s : Structure) (x : Path) (m : ModuleView) → module_at s x ≡ Some m → IsIn m s.modules
from-modules s [] m e = (first_in (λ (k : ModuleView). not (is_instantiated s k.name)) s.modules m e).0
from-modules s (i ∷ x) m e =
    let above = then_is (λ (k : ModuleView). option_and_then (λ (y : InstanceView). module_named s y.target) (instance_named k i)) (module_at s x) m e in
    let inst = then_is (λ (y : InstanceView). module_named s y.target) (instance_named above.0 i) m above.2 in
    (first_in (λ (k : ModuleView). bytes_eq k.name inst.0.target) s.modules m inst.2).0

pub no-top : (s : Structure) (x : Path) → top_of s ≡ None → module_at s x ≡ None
no-top s [] e = e
no-top s (i ∷ x) e = ap (λ o. option_and_then (λ (k : ModuleView). option_and_then (λ (y : InstanceView). module_named s y.target) (instance_named k i)) o) (no-top s x e)

pub left-false : (a b : Bool) → (a || b) ≡ false → a ≡ false
left-false true b e = e
left-false false b e = refl

right-false : (a b : Bool) → (a || b) ≡ false → b ≡ false
right-false true b e = absurd (false≢true (sym e))
right-false false b e = e

pub right-of : (a b : Bool) → a ≡ true → (a && b) ≡ false → b ≡ false
right-of true b h e = e
right-of false b h e = absurd (false≢true h)

-- a name that begins as the added ones is no other name
own-differs : (m n : Name) → is_own m ≡ true → is_own n ≡ false → bytes_eq m n ≡ false
own-differs m n own free = by (bytes_eq m n) refl
  where
    by : (b : Bool) → bytes_eq m n ≡ b → b ≡ false
    by false e = refl
    by true e = absurd (false≢true (sym free ∙ (ap is_own (sym (name-true m n e)) ∙ own)))

pub differs-own : (m n : Name) → is_own m ≡ false → is_own n ≡ true → bytes_eq m n ≡ false
differs-own m n free own = by (bytes_eq m n) refl
  where
    by : (b : Bool) → bytes_eq m n ≡ b → b ≡ false
    by false e = refl
    by true e = absurd (false≢true (sym free ∙ (ap is_own (name-true m n e) ∙ own)))

own-module : (p : Project) (i : Name) (x : Path) (m : Name) → is_own (module_name p (i ∷ x) m) ≡ true
own-module p i x m = refl

own-operator : (j k : ℕ) (o : Operator) → is_own (operator_name j k o) ≡ true
own-operator j k (Clamp t i) = refl
own-operator j k (Shift t a b) = refl

own-operators : (j k : ℕ) (os : List Operator) (n : Name) → IsIn n (operator_names j k os) → is_own n ≡ true
own-operators j k [] n h = absurd h
own-operators j k (o ∷ os) n h = elim h [ inl is ↦ ap is_own is ∙ own-operator j k o | inr r ↦ own-operators (j + one_if (is_clamp o)) (k + one_if (is_shift o)) os n r ]

-- an instance that is added: its name begins so, and it is one of a cell of the library whose name does not
pub record IsAddedCell (p : Project) (y : InstanceView) : Type 0 where
  pub own : is_own y.name ≡ true
  pub cell : CellView
  pub listed : IsIn cell p.structure.cells
  pub free : is_own cell.name ≡ false
  pub target : y.target ≡ cell.name

-- ---- names of the source

module _ (p : Project) (f : IsFree p) where
  free-part : (m : ModuleView) (n : Name) → IsIn m p.structure.modules → IsIn (OfPart n) (names_of m) → is_own n ≡ false
  free-part m n h g = any-none (is_reserved p.structure) (OfPart n) (flat_map names_of p.structure.modules) f.names (in-flat names_of m (OfPart n) p.structure.modules h g)

  pub free-port : (m : ModuleView) (q : PortView) → IsIn m p.structure.modules → IsIn q m.ports → is_own q.name ≡ false
  free-port m q h g = free-part m q.name h (inr (in-left (OfPart q.name) (map (λ (r : PortView). OfPart r.name) m.ports) _ (in-map (λ (r : PortView). OfPart r.name) q m.ports g)))

  pub free-net : (m : ModuleView) (n : NetView) → IsIn m p.structure.modules → IsIn n m.nets → is_own n.name ≡ false
  free-net m n h g =
      free-part m n.name h
      (inr (in-right (OfPart n.name) (map (λ (q : PortView). OfPart q.name) m.ports) _
      (in-left (OfPart n.name) (map (λ (v : NetView). OfPart v.name) m.nets) _ (in-map (λ (v : NetView). OfPart v.name) n m.nets g))))

-- ---- the modules

module _ (p : Project) (a : Additions) (f : IsFree p) (listed : HasListedCells p a) where
  abbrev s : Structure
  s = p.structure

  abbrev w : Structure
  w = netlist p a

  pub in-instances : (x : Path) (m : ModuleView) → module_at s x ≡ Some m → IsIn x (instances p)
  unfolding module_instances
  in-instances x m e = in_reach s 64 x m e short
    where
      short : length x < 64
      short = elim (leb_tells 64 (length x)) [
        | inl h ↦ let none : None ≡ Some m = sym (f.shallow x h.1) ∙ e in absurd cc
        | inr h ↦ h.1
      ]

  pub free-declared : (m : ModuleView) (d : Declared) → IsIn m s.modules → IsIn d (names_of m) → is_reserved s d ≡ false
  free-declared m d h g = any-none (is_reserved s) d (flat_map names_of s.modules) f.names (in-flat names_of m d s.modules h g)

  free-module : (m : ModuleView) → IsIn m s.modules → is_own m.name ≡ false
  free-module m h = left-false (is_own m.name) (is_cell s m.name) (free-declared m (OfModule m.name) h (inl refl))

  no-cell : (m : ModuleView) → IsIn m s.modules → is_cell s m.name ≡ false
  no-cell m h = right-false (is_own m.name) (is_cell s m.name) (free-declared m (OfModule m.name) h (inl refl))

  pub free-instance : (m : ModuleView) (y : InstanceView) → IsIn m s.modules → IsIn y m.instances → is_own y.name ≡ false
  free-instance m y h g =
      free-declared m (OfPart y.name) h
      (inr (in-right (OfPart y.name) (map (λ (q : PortView). OfPart q.name) m.ports) _
      (in-right (OfPart y.name) (map (λ (n : NetView). OfPart n.name) m.nets) _ (in-map (λ (i : InstanceView). OfPart i.name) y m.instances g))))

  free-cell : (c : CellView) → IsListed p c → is_own c.name ≡ false
  free-cell c h = right-of (is_usable c) (is_own c.name) h.usable (any-none takes_own_name c s.cells f.cells h.listed)

  free-target : (m : ModuleView) (y : InstanceView) → IsIn m s.modules → IsIn y m.instances → is_own y.target ≡ false
  free-target m y h g = any-none has_own_target (record { parent = m; instance = y }) (all_instances s) f.targets (in-flat instances_of m (record { parent = m; instance = y }) s.modules h (in-map (λ i. record { parent = m; instance = i }) y m.instances g))

  not-the-cell : (m : ModuleView) (c : CellView) → IsIn m s.modules → IsIn c s.cells → bytes_eq c.name m.name ≡ false
  not-the-cell m c h g = any-none (λ (k : CellView). bytes_eq k.name m.name) c s.cells (no-cell m h) g

  -- ---- names of modules

  abbrev pub IsNumbered : Path → Type 0
  IsNumbered x = IsIn x (instances p)

  small : (x : Path) → IsNumbered x → instance_number p x ≤ 1000000
  small x h = let less = number-small (instances p) x h in let few = f.few in omega (arith, less, few)

  pub same-instance : (x y : Path) (m n : ModuleView) → IsNumbered x → IsNumbered y → IsIn m s.modules → IsIn n s.modules → bytes_eq (module_name p y n.name) (module_name p x m.name) ≡ true → x ≡ y
  same-instance [] [] m n h g u v e = refl
  same-instance [] (i ∷ y) m n h g u v e = absurd (false≢true (sym (own-differs (module_name p (i ∷ y) n.name) m.name (own-module p i y n.name) (free-module m u)) ∙ e))
  same-instance (i ∷ x) [] m n h g u v e = absurd (false≢true (sym (differs-own n.name (module_name p (i ∷ x) m.name) (free-module n v) (own-module p i x m.name)) ∙ e))
  same-instance (i ∷ x) (j ∷ y) m n h g u v e =
      let names : module_name p (j ∷ y) n.name ≡ module_name p (i ∷ x) m.name = name-true (module_name p (j ∷ y) n.name) (module_name p (i ∷ x) m.name) e in
      number-tells (instances p) (i ∷ x) (j ∷ y) h g (sym (same-number (instance_number p (j ∷ y)) (instance_number p (i ∷ x)) n.name m.name (small (j ∷ y) g) (small (i ∷ x) h) (tails (names))))
    where
      tails : module_name p (j ∷ y) n.name ≡ module_name p (i ∷ x) m.name → decimal (instance_number p (j ∷ y)) ++ (95 ∷ n.name) ≡ decimal (instance_number p (i ∷ x)) ++ (95 ∷ m.name)
      tails is = ap (λ (k : Name). drop 3 k) is

  -- a module of the netlist is that of an instance
  pub record IsOf (k : ModuleView) : Type 0 where
    pub path : Path
    pub source : ModuleView
    pub at : module_at s path ≡ Some source
    pub is : k ≡ written_module p a path source

  of-item : (x : Path) (k : ModuleView) → item p a x ≡ Some k → IsOf k
  of-item x k e =
      let found = then_is (λ m. Some (written_module p a x m)) (module_at s x) k e in
      let here : Some (written_module p a x found.0) ≡ Some k = found.2 in
      let is : k ≡ written_module p a x found.0 = cc in
      record { path = x; source = found.0; at = found.1; is = is }

  pub of-written : (k : ModuleView) → IsIn k w.modules → IsOf k
  of-written k h = let found = of-some (item p a) k (instances p) h in of-item found.0 k found.2

  named-at : (x : Path) (m : ModuleView) → module_at s x ≡ Some m → module_named w (module_name p x m.name) ≡ Some (written_module p a x m)
  named-at x m e =
      only-first (item p a) (λ (k : ModuleView). bytes_eq k.name (module_name p x m.name)) x (written_module p a x m)
      (ap (λ o. option_and_then (λ n. Some (written_module p a x n)) o) e) (name-self (module_name p x m.name)) (instances p) (in-instances x m e) only
    where
      only : (y : Path) (k : ModuleView) → IsIn y (instances p) → item p a y ≡ Some k → bytes_eq k.name (module_name p x m.name) ≡ true → k ≡ written_module p a x m
      only y k h is test =
          let found = then_is (λ n. Some (written_module p a y n)) (module_at s y) k is in
          let here : Some (written_module p a y found.0) ≡ Some k = found.2 in
          let made : written_module p a y found.0 ≡ k = cc in
          let test_here : bytes_eq (module_name p y found.0.name) (module_name p x m.name) ≡ true = ap (λ (z : ModuleView). bytes_eq z.name (module_name p x m.name)) made ∙ test in
          let same : x ≡ y = same-instance x y m found.0 (in-instances x m e) h (from-modules s x m e) (from-modules s y found.0 found.1) test_here in
          let both : Some m ≡ Some found.0 = sym e ∙ (ap (module_at s) same ∙ found.1) in
          let eq : m ≡ found.0 = cc in
          sym made ∙ (ap (λ z. written_module p a z found.0) (sym same) ∙ ap (written_module p a x) (sym eq))

  -- no module is named as a cell
  name-of-no-cell : (x : Path) (m : ModuleView) (c : CellView) → IsIn m s.modules → IsIn c s.cells → is_own c.name ≡ false → bytes_eq (module_name p x m.name) c.name ≡ false
  name-of-no-cell [] m c h g free = swap (bytes_eq m.name c.name) refl
    where
      swap : (b : Bool) → bytes_eq m.name c.name ≡ b → b ≡ false
      swap false e = refl
      swap true e = absurd (false≢true (sym (not-the-cell m c h g) ∙ (ap (λ n. bytes_eq c.name n) (name-true m.name c.name e) ∙ name-self c.name)))
  name-of-no-cell (i ∷ x) m c h g free = own-differs (module_name p (i ∷ x) m.name) c.name (own-module p i x m.name) free

  cell-not-named : (c : CellView) → IsIn c s.cells → is_own c.name ≡ false → module_named w c.name ≡ None
  cell-not-named c g free = none-first (λ (k : ModuleView). bytes_eq k.name c.name) w.modules none
    where
      none : (k : ModuleView) → IsIn k w.modules → bytes_eq k.name c.name ≡ false
      none k h =
          let of = of-written k h in
          ap (λ (z : ModuleView). bytes_eq z.name c.name) of.is ∙ name-of-no-cell of.path of.source c (from-modules s of.path of.source of.at) g free

  -- ---- targets

  pub record HasCellName (n : Name) : Type 0 where
    pub cell : CellView
    pub known : IsIn cell s.cells
    pub free : is_own cell.name ≡ false
    pub is : n ≡ cell.name

  from-cell-name : (n : Name) → HasCellName n → module_named w n ≡ None
  from-cell-name n h = ap (module_named w) h.is ∙ cell-not-named h.cell h.known h.free

  -- a target that is no module of the source is a cell
  cell-of-source : (m : ModuleView) (y : InstanceView) → IsIn m s.modules → IsIn y m.instances → module_named s y.target ≡ None → HasCellName y.target
  cell-of-source m y h g e = by (module_named s y.target) e (of-all (is_known s) y m.instances (of-all (λ (k : ModuleView). list_all (is_known s) k.instances) m s.modules f.known h) g)
    where
      found : (o : Option CellView) → first (λ (c : CellView). bytes_eq c.name y.target) s.cells ≡ o → is_some o ≡ true → HasCellName y.target
      found None is some = absurd (false≢true some)
      found (Some c) is some =
          let at = first_in (λ (k : CellView). bytes_eq k.name y.target) s.cells c is in
          let same = name-true c.name y.target at.1 in
          record { cell = c; known = at.0; free = ap is_own same ∙ free-target m y h g; is = sym same }

      by : (o : Option ModuleView) → o ≡ None → (is_some o || is_some (if is_some o then None else first (λ (c : CellView). bytes_eq c.name y.target) s.cells)) ≡ true → HasCellName y.target
      by None is some = found (first (λ (c : CellView). bytes_eq c.name y.target) s.cells) refl some
      by (Some k) is some = absurd cc

  kept-name : (n : Name) (place : Placed) → HasCellName n → HasCellName (kept_target n (kept_at a.plan place))
  kept-name n place h = by (kept_at a.plan place) refl
    where
      by : (o : Option Kept) → kept_at a.plan place ≡ o → HasCellName (kept_target n o)
      by None e = h
      by (Some k) e = let its = listed.registers k (first_in _ a.plan.registers k e).0 in record { cell = k.cell; known = its.listed; free = free-cell k.cell its; is = refl }

  -- a cell instance stays one
  pub cell-target : (x : Path) (m : ModuleView) (y : InstanceView) → IsIn m s.modules → IsIn y m.instances → module_named s y.target ≡ None → HasCellName (written_instance p a x y).target
  cell-target x m y h g e = subst (λ o. HasCellName (written_by_target p a x y o).target) (sym e) (kept-name y.target (record { path = x; instance = y.name }) (cell-of-source m y h g e))

  pub written-name : (x : Path) (y : InstanceView) → (written_instance p a x y).name ≡ y.name
  written-name x y = by (module_named s y.target)
    where
      by : (o : Option ModuleView) → (written_by_target p a x y o).name ≡ y.name
      by None = refl
      by (Some m) = refl

  -- ---- added instances

  pub is-added : (x : Path) (y : InstanceView) → IsIn y (written_operators p a x ++ written_switches p a x) → IsAddedCell p y
  is-added x y h = elim (in-either y (written_operators p a x) (written_switches p a x) h) [ inl l ↦ operators l | inr r ↦ switches r ]
    where
      operators : IsIn y (written_operators p a x) → IsAddedCell p y
      operators l =
          let one = of-map (written_operator p a x) y (named_operators (linked p a.chains x)) l in
          let pair = of-pairs one.0 (operator_names 0 0 (map (λ (z : Linked). z.0.asked.operator) (linked p a.chains x))) (linked p a.chains x) one.1 in
          let stretch = of-flat _ one.0.1 (stretches_in a.chains x) pair.1 in
          let chain = of-filter _ stretch.0 a.chains stretch.1 in
          let standing = of-pairs one.0.1 stretch.0.operators _ stretch.2 in
          let its = listed.chains stretch.0 chain.0 one.0.1.0 standing.0 in
          record {
            own = ap (λ (z : InstanceView). is_own z.name) one.2 ∙ own-operators 0 0 (map (λ (z : Linked). z.0.asked.operator) (linked p a.chains x)) one.0.0 pair.0;
            cell = one.0.1.0.cell;
            listed = its.listed;
            free = free-cell one.0.1.0.cell its;
            target = ap (λ (z : InstanceView). z.target) one.2;
          }

      switches : IsIn y (written_switches p a x) → IsAddedCell p y
      switches r =
          let one = of-map (written_switch p a x) y (numbered 0 (switches_in a.plan x)) r in
          let there = of-filter _ one.0.1 a.plan.switches (of-numbered 0 one.0 (switches_in a.plan x) one.1) in
          let its = listed.switches one.0.1 there.0 in
          record {
            own = ap (λ (z : InstanceView). is_own z.name) one.2;
            cell = one.0.1.cell;
            listed = its.listed;
            free = free-cell one.0.1.cell its;
            target = ap (λ (z : InstanceView). z.target) one.2;
          }

  added-not-named : (x : Path) (y : InstanceView) → IsIn y (written_operators p a x ++ written_switches p a x) → module_named w y.target ≡ None
  added-not-named x y h = let is = is-added x y h in from-cell-name y.target (record { cell = is.cell; known = is.listed; free = is.free; is = is.target })

  -- what stands there under a name that the source does not have is no module
  none-added : (x : Path) (m : ModuleView) (n : Name) → first (λ (k : InstanceView). bytes_eq k.name n) m.instances ≡ None → option_and_then (λ (z : InstanceView). module_named w z.target) (first (λ (k : InstanceView). bytes_eq k.name n) (written_instances p a x m)) ≡ None
  none-added x m n e =
      ap (λ o. option_and_then (λ (z : InstanceView). module_named w z.target) o)
      (first-right (λ (k : InstanceView). bytes_eq k.name n) (map (written_instance p a x) m.instances) (written_operators p a x ++ written_switches p a x)
      (none-made (λ (k : InstanceView). bytes_eq k.name n) (λ (k : InstanceView). bytes_eq k.name n) (written_instance p a x) (λ z. ap (λ k. bytes_eq k n) (written-name x z)) m.instances e))
      ∙ by (first (λ (k : InstanceView). bytes_eq k.name n) (written_operators p a x ++ written_switches p a x)) refl
    where
      by : (o : Option InstanceView) → first (λ (k : InstanceView). bytes_eq k.name n) (written_operators p a x ++ written_switches p a x) ≡ o → option_and_then (λ (z : InstanceView). module_named w z.target) o ≡ None
      by None is = refl
      by (Some y) is = added-not-named x y (first_in (λ (k : InstanceView). bytes_eq k.name n) (written_operators p a x ++ written_switches p a x) y is).0

  pub some-written : (x : Path) (m : ModuleView) (n : Name) (y : InstanceView) → first (λ (k : InstanceView). bytes_eq k.name n) m.instances ≡ Some y → first (λ (k : InstanceView). bytes_eq k.name n) (written_instances p a x m) ≡ Some (written_instance p a x y)
  some-written x m n y e =
      first-left (λ (k : InstanceView). bytes_eq k.name n) (map (written_instance p a x) m.instances) (written_operators p a x ++ written_switches p a x) (written_instance p a x y)
      (first-made (λ (k : InstanceView). bytes_eq k.name n) (λ (k : InstanceView). bytes_eq k.name n) (written_instance p a x) (λ z. ap (λ k. bytes_eq k n) (written-name x z)) m.instances y e)

  -- ---- the top

  other-target : (top : ModuleView) → IsIn top s.modules → (k : ModuleView) → IsIn k w.modules → (i : InstanceView) → IsIn i k.instances → bytes_eq i.target top.name ≡ false
  other-target top t k h i g =
      let of = of-written k h in
      let there = from-modules s of.path of.source of.at in
      let here : IsIn i (written_instances p a of.path of.source) = subst (λ (z : ModuleView). IsIn i z.instances) of.is g in
      elim (in-either i (map (written_instance p a of.path) of.source.instances) (written_operators p a of.path ++ written_switches p a of.path) here) [
        | inl l ↦ let one = of-map (written_instance p a of.path) i of.source.instances l in ap (λ (z : InstanceView). bytes_eq z.target top.name) one.2 ∙ source of.path of.source one.0 there one.1 (module_named s one.0.target) refl
        | inr r ↦ let is = is-added of.path i r in cell (record { cell = is.cell; known = is.listed; free = is.free; is = is.target })
      ]
    where
      cell : {n : Name} → HasCellName n → bytes_eq n top.name ≡ false
      cell h = ap (λ n. bytes_eq n top.name) h.is ∙ not-the-cell top h.cell t h.known

      source : (x : Path) (m : ModuleView) (y : InstanceView) → IsIn m s.modules → IsIn y m.instances → (o : Option ModuleView) → module_named s y.target ≡ o → bytes_eq (written_instance p a x y).target top.name ≡ false
      source x m y u v None e = cell (cell-target x m y u v e)
      source x m y u v (Some n) e =
          ap (λ o. bytes_eq (written_by_target p a x y o).target top.name) e ∙ own-differs (module_name p (y.name ∷ x) n.name) top.name (own-module p y.name x n.name) (free-module top t)

  top-free : (top : ModuleView) → IsIn top s.modules → is_instantiated w top.name ≡ false
  top-free top t = none-any _ w.modules (λ k h. none-any (λ (i : InstanceView). bytes_eq i.target top.name) k.instances (other-target top t k h))

  pub starts : (rest : List Path) × (instances p ≡ [] ∷ rest)
  unfolding module_instances
  starts = (flat_map (below s 63) (children s []), refl)

  top-is : (top : ModuleView) → top_of s ≡ Some top → top_of w ≡ Some (written_module p a [] top)
  top-is top e =
      ap (first is-top) (ap (some_of (item p a)) starts.1)
      ∙ first-head is-top (item p a []) (written_module p a [] top) (some_of (item p a) starts.0)
      (ap (λ o. option_and_then (λ n. Some (written_module p a [] n)) o) e) (ap not (top-free top (from-modules s [] top e)))
    where
      is-top : ModuleView → Bool
      is-top m = not (is_instantiated w m.name)

  no-top-is : top_of s ≡ None → top_of w ≡ None
  no-top-is e = none-first _ w.modules none
    where
      none : (k : ModuleView) → IsIn k w.modules → not (is_instantiated w k.name) ≡ false
      none k h = let of = of-written k h in let is : None ≡ Some of.source = sym (no-top s of.path e) ∙ of.at in absurd cc

  -- ---- by paths

  abbrev step : Name → ModuleView → Option ModuleView
  step i m = option_and_then (λ (y : InstanceView). module_named w y.target) (instance_named m i)

  pub at : (x : Path) (m : ModuleView) → module_at s x ≡ Some m → module_at w x ≡ Some (written_module p a x m)
  at [] m e = top-is m e
  at (i ∷ x) m e =
      let above = then_is (λ (k : ModuleView). option_and_then (λ (y : InstanceView). module_named s y.target) (instance_named k i)) (module_at s x) m e in
      let inst = then_is (λ (y : InstanceView). module_named s y.target) (instance_named above.0 i) m above.2 in
      let found = first_in (λ (y : InstanceView). bytes_eq y.name i) above.0.instances inst.0 inst.1 in
      ap (λ o. option_and_then (step i) o) (at x above.0 above.1)
      ∙ (ap (λ o. option_and_then (λ (y : InstanceView). module_named w y.target) o) (some-written x above.0 i inst.0 inst.1)
      ∙ (ap (λ o. module_named w (written_by_target p a x inst.0 o).target) inst.2
      ∙ (ap (λ n. module_named w (module_name p (n ∷ x) m.name)) (name-true inst.0.name i found.1) ∙ named-at (i ∷ x) m e)))

  pub none : (x : Path) → module_at s x ≡ None → module_at w x ≡ None
  none [] e = no-top-is e
  none (i ∷ x) e = by (module_at s x) refl (none x)
    where
      inner : (m : ModuleView) → module_at s x ≡ Some m → (o : Option InstanceView) → instance_named m i ≡ o → step i (written_module p a x m) ≡ None
      inner m h None g = none-added x m i g
      inner m h (Some y) g =
          let target : module_named s y.target ≡ None = sym (ap (λ o. option_and_then (λ (k : ModuleView). option_and_then (λ (z : InstanceView). module_named s z.target) (instance_named k i)) o) h ∙ ap (λ o. option_and_then (λ (z : InstanceView). module_named s z.target) o) g) ∙ e in
          ap (λ o. option_and_then (λ (z : InstanceView). module_named w z.target) o) (some-written x m i y g)
          ∙ from-cell-name (written_instance p a x y).target (cell-target x m y (from-modules s x m h) (first_in (λ (k : InstanceView). bytes_eq k.name i) m.instances y g).0 target)

      by : (o : Option ModuleView) → module_at s x ≡ o → (module_at s x ≡ None → module_at w x ≡ None) → module_at w (i ∷ x) ≡ None
      by None h more = ap (λ o. option_and_then (step i) o) (more h)
      by (Some m) h more = ap (λ o. option_and_then (step i) o) (at x m h) ∙ inner m h (instance_named m i) refl

  pub reached : IsReached w
  reached k h = let of = of-written k h in (of.path, at of.path of.source of.at ∙ ap (λ z. Some z) (sym of.is))

  -- ---- the content

  is-instance : (x : Path) (m : ModuleView) (y : InstanceView) → module_at s x ≡ Some m → IsIn y (written_instances p a x m) → IsInstance w x y y
  is-instance x m y e h = record { name = refl; connections = refl; inner = inner; cell = λ k. refl }
    where
      there : IsIn m s.modules
      there = from-modules s x m e

      below : module_at w (y.name ∷ x) ≡ option_and_then (λ (z : InstanceView). module_named w z.target) (first (λ (k : InstanceView). bytes_eq k.name y.name) (written_instances p a x m))
      below = ap (λ o. option_and_then (step y.name) o) (at x m e)

      apart : are_apart (map (λ (i : InstanceView). i.name) m.instances) ≡ true
      apart =
          let names : are_apart (names_in m) ≡ true = of-all (λ (k : ModuleView). are_apart (names_in k)) m s.modules (other (are_apart (map (λ (k : ModuleView). k.name) s.modules)) _ f.apart) there in
          apart-right (map (λ (n : NetView). n.name) m.nets) _ (apart-right (map (λ (q : PortView). q.name) m.ports) _ names)

      own : IsIn y (written_operators p a x ++ written_switches p a x) → module_named w y.target ≡ module_at w (y.name ∷ x)
      own r =
          let is = is-added x y r in
          let free = none-first (λ (k : InstanceView). bytes_eq k.name y.name) m.instances (λ k g. differs-own k.name y.name (free-instance m k there g) is.own) in
          added-not-named x y r ∙ sym (below ∙ none-added x m y.name free)

      source : (z : InstanceView) → IsIn z m.instances → y ≡ written_instance p a x z → module_named w y.target ≡ module_at w (y.name ∷ x)
      source z g is =
          let name : y.name ≡ z.name = ap (λ (k : InstanceView). k.name) is ∙ written-name x z in
          let found : first (λ (k : InstanceView). bytes_eq k.name y.name) m.instances ≡ Some z = subst (λ n. first (λ (k : InstanceView). bytes_eq k.name n) m.instances ≡ Some z) (sym name) (first-apart m.instances z apart g) in
          ap (λ (k : InstanceView). module_named w k.target) is
          ∙ sym (below ∙ ap (λ o. option_and_then (λ (k : InstanceView). module_named w k.target) o) (some-written x m y.name z found))

      inner : module_named w y.target ≡ module_at w (y.name ∷ x)
      inner = elim (in-either y (map (written_instance p a x) m.instances) (written_operators p a x ++ written_switches p a x) h) [
        | inl l ↦ let one = of-map (written_instance p a x) y m.instances l in source one.0 one.1 one.2
        | inr r ↦ own r
      ]

  each-instance : (x : Path) (ys : List InstanceView) → ((y : InstanceView) → IsIn y ys → IsInstance w x y y) → AreInstances w x ys ys
  each-instance x [] all = tt
  each-instance x (y ∷ ys) all = (all y (inl refl), each-instance x ys (λ z h. all z (inr h)))

  pub is-written-at : IsWrittenAt p a w
  is-written-at = record {
    cells = refl;
    modules = λ x m e. record {
      here = written_module p a x m;
      is = at x m e;
      content = record { ports = refl; nets = refl; instances = each-instance x (written_instances p a x m) (λ y h. is-instance x m y e h); assigns = refl };
    };
    none = none;
  }

-- ---- the cells of a plan are of the library, and can be used

in-numbered : (p : Project) (k : Option ℕ) (c : CellView) → cell_numbered p k ≡ Some c → IsIn c p.structure.cells
in-numbered p k c e = let found = then_is (slice_get p.structure.cells) k c e in in-slice p.structure.cells found.0 c found.2

is-listed : (p : Project) (k : Option ℕ) (c d : CellView) → cell_numbered p k ≡ Some c → is_usable c ≡ true → d ≡ c → IsListed p d
is-listed p k c d e usable is = subst (IsListed p) (sym is) (record { listed = in-numbered p k c e; usable = usable })

standing-listed : (p : Project) (l : Lists) (o : OperatorAt) (x : Option Path) (k : Standing) → standing_at p l o x ≡ Some k → IsListed p k.cell
standing-listed p l o None k e = absurd cc
standing-listed p l o (Some x) k e =
    let found = then_is (λ c. Some (record { asked = o; path = x; cell = c })) (cell_numbered p (operator_chosen p l x o.operator)) k e in
    let made : Some (record { asked = o; path = x; cell = found.0 }) ≡ Some k = found.2 in
    is-listed p (operator_chosen p l x o.operator) found.0 k.cell found.1 (operator-usable p l x o.operator found.0 found.1) (ap (λ q. cell_or found.0 q) (sym made))
  where
    cell_or : CellView → Option Standing → CellView
    cell_or c None = c
    cell_or c (Some q) = q.cell

operators-listed : (p : Project) (l : Lists) (k : Standing) → IsIn k (plan p l).operators → IsListed p k.cell
operators-listed p l k h = let found = of-some (standing p l) k (all_operators p) h in standing-listed p l found.0 (operator_path p found.0) k found.2

kept-listed : (p : Project) (l : Lists) (y : Placed) (t : Option Strategy) (k : Kept) → kept_by p l y t ≡ Some k → IsListed p k.cell
kept-listed p l y None k e = absurd cc
kept-listed p l y (Some t) k e =
    let found = then_is (λ c. Some (record { place = y; strategy = t; cell = c })) (cell_numbered p (register_chosen p l y)) k e in
    let made : Some (record { place = y; strategy = t; cell = found.0 }) ≡ Some k = found.2 in
    is-listed p (register_chosen p l y) found.0 k.cell found.1 (register-usable p l y found.0 found.1) (ap (λ q. cell_or found.0 q) (sym made))
  where
    cell_or : CellView → Option Kept → CellView
    cell_or c None = c
    cell_or c (Some q) = q.cell

registers-listed : (p : Project) (l : Lists) (k : Kept) → IsIn k (plan p l).registers → IsListed p k.cell
registers-listed p l k h = let found = of-some (kept p l) k (filter (is_retained p) (cell_instances p.structure)) h in kept-listed p l found.0 (retention p.intent found.0.path found.0.instance) k found.2

switches-listed : (p : Project) (l : Lists) (k : Switching) → IsIn k (plan p l).switches → IsListed p k.cell
switches-listed p l k h =
    let at = of-some (switching p l) k (numbered 0 (all_switches p)) h in
    let found = then_is (λ c. Some (record { asked = at.0.1; number = at.0.0; path = l.scope_of_switch at.0.1.origin; cell = c })) (cell_numbered p (switch_chosen p l at.0.1)) k at.2 in
    let made : Some (record { asked = at.0.1; number = at.0.0; path = l.scope_of_switch at.0.1.origin; cell = found.0 }) ≡ Some k = found.2 in
    is-listed p (switch_chosen p l at.0.1) found.0 k.cell found.1 (switch-usable p l at.0.1 found.0 found.1) (ap (λ q. cell_or found.0 q) (sym made))
  where
    cell_or : CellView → Option Switching → CellView
    cell_or c None = c
    cell_or c (Some q) = q.cell

from-stretches : (p : Project) (a : Plan) (x : Path) (k : ℕ) (bits : List BoundaryBit) (s : Stretch) → IsIn s (stretches_from p a x k bits) → (o : Standing) → IsIn o s.operators → IsIn o a.operators
from-stretches p a x k [] s h o g = absurd h
from-stretches p a x k (b ∷ bits) s h o g = elim h [
  | inl is ↦ (of-filter _ o a.operators (subst (λ (z : Stretch). IsIn o z.operators) is g)).0
  | inr r ↦ from-stretches p a x (k + net_count p.structure x b (length (operators_there a x b))) bits s r o g
]

pub cells-listed : (p : Project) (l : Lists) → HasListedCells p (additions p l)
cells-listed p l = record { chains = chains; registers = registers-listed p l; switches = switches-listed p l }
  where
    chains : (s : Stretch) → IsIn s (stretches p (plan p l)) → (o : Standing) → IsIn o s.operators → IsListed p o.cell
    chains s h o g =
        let all = of-filter _ s (flat_map (λ x. stretches_from p (plan p l) x 0 (boundary p.structure p.intent)) (instances p)) h in
        let at = of-flat (λ x. stretches_from p (plan p l) x 0 (boundary p.structure p.intent)) s (instances p) all.0 in
        operators-listed p l o (from-stretches p (plan p l) at.0 0 (boundary p.structure p.intent) s at.2 o g)

pub written_at : (p : Project) (l : Lists) → IsFree p → IsWrittenAt p (additions p l) (netlist_of p (written p l))
written_at p l f = is-written-at p (additions p l) f (cells-listed p l)

pub written-reached : (p : Project) (l : Lists) → IsFree p → IsReached (netlist_of p (written p l))
written-reached p l f = reached p (additions p l) f (cells-listed p l)
