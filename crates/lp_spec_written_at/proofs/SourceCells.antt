-- Each cell instance of the source stands in the written netlist, a register with retention by a cell that fits, every other one by its own.
use Rattle.std.proofs.Common.{◌≡◌, ◌⊎◌, ℕ, zero, suc, Bool, true, false, ◌&&◌, cond, List, [], ◌∷◌, map, Option, Some, None, inl, inr, refl, sym, ap, ◌∙◌}
use Rattle.std.specs.Prelude.{filter, is_some, option_and_then, bytes_eq, if◌then◌else◌}
use Rattle.std.specs.List.{list_all}
use Rattle.std.proofs.lemmas.Bool.{false≢true}
use Rattle.lp_model.specs.declared.library.Action.{Action}
use Rattle.lp_model.specs.declared.supply.SetOrigins.{SetOrigins}
use Rattle.lp_model.specs.NetlistView.{PortView, NetView, InstanceView, ModuleView}
use Rattle.lp_model.specs.LibraryView.{CellView}
use Rattle.lp_spec_design.specs.Keys.{Name, Path, Node, same_path, same_node}
use Rattle.lp_spec_design.specs.Netlists.{Structure, module_named, cell_named, instance_named, module_at}
use Rattle.lp_spec_design.specs.Instances.{Placed, cells_of_target, cells_of, cells_in, cells_below, cell_instances}
use Rattle.lp_spec_design.specs.Intents.{Strategy}
use Rattle.lp_spec_design.specs.Registers.{retention_winner, inserting, retention}
use Rattle.lp_spec_design.specs.Winners.{IsIn}
use Rattle.lp_spec_design.specs.Reads.{one, other, name-self, name-true, path-true, path-self}
use Rattle.lp_spec_design.proofs.Members.{of-flat, of-filter, of-some}
use Rattle.lp_spec_design.proofs.Sources.{then_is, first_in}
use Rattle.lp_spec_fit.specs.Choice.{is_mapped}
use Rattle.lp_spec_fit.specs.Fits.{fits_register}
use Rattle.lp_spec_realises.specs.Projects.{Project, functions_of}
use Rattle.lp_spec_realises.specs.ProjectNetlists.{are_apart, names_in}
use Rattle.lp_spec_realises.specs.Realises.{same_placed, cell_of, passed_by, primary_at, register_fits, takes_place, source_cell_stands}
use Rattle.lp_spec_realises.specs.Implements.{Lists, register_by, register_chosen, is_of, is_chosen, is_retained, register_as_chosen}
use Rattle.lp_spec_written.specs.Places.{Kept, cell_numbered, kept_by, kept, plan}
use Rattle.lp_spec_written.specs.Supplies.{or_cell, kept_at}
use Rattle.lp_spec_written.specs.Written.{additions}
use Rattle.lp_spec_wired.specs.Contents.{IsWrittenAt}
use Rattle.lp_spec_written_at.specs.Sources.{IsFree, HasRegisterCells}
use Rattle.lp_spec_written_at.proofs.Lists.{none-first, some-first, in-some, of-all, all-of, apart-right, first-apart}
use Rattle.lp_spec_written_at.proofs.Modules.{from-modules}
use Rattle.lp_spec_written_at.proofs.Paths.{some-is}
use Rattle.lp_spec_written_at.proofs.Cells.{source-cells}
use Rattle.lp_spec_written_at.proofs.Usable.{fits-chosen}

-- ---- places

pub placed-true : (a b : Placed) → same_placed a b ≡ true → a ≡ b
placed-true a b e = λ r. record {
  path = path-true a.path b.path (other (bytes_eq a.instance b.instance) (same_path a.path b.path) e) r;
  instance = name-true a.instance b.instance (one (bytes_eq a.instance b.instance) (same_path a.path b.path) e) r;
}

pub placed-self : (a : Placed) → same_placed a a ≡ true
placed-self a = ap (λ t. t && same_path a.path a.path) (name-self a.instance) ∙ path-self a.path

pub in-filter : {A : Type 0} (t : A → Bool) (xs : List A) (x : A) → IsIn x xs → t x ≡ true → IsIn x (filter t xs)
in-filter t [] x h e = absurd h
in-filter t (y ∷ xs) x h e = by (t y) refl (λ r. in-filter t xs x r e)
  where
    by : (b : Bool) → t y ≡ b → (IsIn x xs → IsIn x (filter t xs)) → IsIn x (cond b (y ∷ filter t xs) (filter t xs))
    by true f more = elim h [ inl is ↦ inl is | inr r ↦ inr (more r) ]
    by false f more = elim h [ inl is ↦ absurd (false≢true (sym f ∙ (ap t (sym is) ∙ e))) | inr r ↦ more r ]

-- ---- a cell instance has its cell

pub target-of : (inside : Path → List Placed) (q : Path) (n : Name) (o : Option ModuleView) (k : Option CellView) (a : Placed) → IsIn a (cells_of_target inside q n o k)
    → IsIn a (inside (n ∷ q)) ⊎ ((c : CellView) × (k ≡ Some c) × (a ≡ record { path = q; instance = n }))
target-of inside q n (Some m) k a h = inl h
target-of inside q n None None a h = absurd h
target-of inside q n None (Some c) a (inl is) = inr (c, refl, is)
target-of inside q n None (Some c) a (inr h) = absurd h

module _ (p : Project) (f : IsFree p) where
  abbrev s : Structure
  s = p.structure

  pub instances-named : (x : Path) (m : ModuleView) → module_at s x ≡ Some m → are_apart (map (λ (i : InstanceView). i.name) m.instances) ≡ true
  instances-named x m e =
      let names : are_apart (names_in m) ≡ true = of-all (λ (k : ModuleView). are_apart (names_in k)) m s.modules (other (are_apart (map (λ (k : ModuleView). k.name) s.modules)) _ f.apart) (from-modules s x m e) in
      apart-right (map (λ (n : NetView). n.name) m.nets) _ (apart-right (map (λ (q : PortView). q.name) m.ports) _ names)

  cell-here : (q : Path) (m : ModuleView) (y : InstanceView) → module_at s q ≡ Some m → IsIn y m.instances → cell_of s (record { path = q; instance = y.name }) ≡ cell_named s y.target
  cell-here q m y e h =
      ap (λ o. option_and_then (λ (k : ModuleView). option_and_then (λ (z : InstanceView). cell_named s z.target) (instance_named k y.name)) o) e
      ∙ ap (λ o. option_and_then (λ (z : InstanceView). cell_named s z.target) o) (first-apart m.instances y (instances-named q m e) h)

  cell-below : (depth : ℕ) (q : Path) (a : Placed) → IsIn a (cells_below s depth q) → (c : CellView) × (cell_of s a ≡ Some c)
  cell-below zero q a h = absurd h
  cell-below (suc depth) q a h = by (module_at s q) refl h (λ i g. cell-below depth (i ∷ q) a g)
    where
      by : (o : Option ModuleView) → module_at s q ≡ o → IsIn a (cells_in s (cells_below s depth) q o) → ((i : Name) → IsIn a (cells_below s depth (i ∷ q)) → (c : CellView) × (cell_of s a ≡ Some c)) → (c : CellView) × (cell_of s a ≡ Some c)
      by None e g more = absurd g
      by (Some m) e g more =
          let at = of-flat (cells_of s (cells_below s depth) q) a m.instances g in
          elim (target-of (cells_below s depth) q at.0.name (module_named s at.0.target) (cell_named s at.0.target) a at.2) [
            | inl up ↦ more at.0.name up
            | inr found ↦ (found.0, ap (cell_of s) found.2 ∙ (cell-here q m at.0 e at.1 ∙ found.1))
          ]

  has-cell : (a : Placed) → IsIn a (cell_instances s) → (c : CellView) × (cell_of s a ≡ Some c)
  unfolding cell_instances
  has-cell a h = cell-below 64 [] a h

-- ---- registers with retention

module _ (p : Project) (l : Lists) where
  record IsKept (a : Placed) (k : Kept) : Type 0 where
    place : k.place ≡ a
    cell : cell_numbered p (register_chosen p l a) ≡ Some k.cell

  kept-is : (a : Placed) (t : Option Strategy) (k : Kept) → kept_by p l a t ≡ Some k → IsKept a k
  kept-is a None k e = absurd cc
  kept-is a (Some t) k e =
      let found = then_is (λ c. Some (record { place = a; strategy = t; cell = c })) (cell_numbered p (register_chosen p l a)) k e in
      inside found.0 found.1 (record { place = a; strategy = t; cell = found.0 }) refl refl found.2
    where
      inside : (c : CellView) → cell_numbered p (register_chosen p l a) ≡ Some c → (r : Kept) → r.place ≡ a → r.cell ≡ c → Some r ≡ Some k → IsKept a k
      inside c chosen r one two same =
          let is : r ≡ k = cc in
          record { place = ap (λ (q : Kept). q.place) (sym is) ∙ one; cell = chosen ∙ ap (λ q. Some q) (sym two ∙ ap (λ (q : Kept). q.cell) is) }

  record IsFrom (k : Kept) : Type 0 where
    from : Placed
    retained : is_retained p from ≡ true
    is : IsKept from k

  of-registers : (k : Kept) → IsIn k (plan p l).registers → IsFrom k
  of-registers k h =
      let found = of-some (kept p l) k (filter (is_retained p) (cell_instances p.structure)) h in
      record {
        from = found.0;
        retained = (of-filter (is_retained p) found.0 (cell_instances p.structure) found.1).1;
        is = kept-is found.0 (retention p.intent found.0.path found.0.instance) k found.2;
      }

  not-kept : (a : Placed) → is_retained p a ≡ false → kept_at (plan p l) a ≡ None
  not-kept a plain = none-first (λ (k : Kept). same_placed k.place a) (plan p l).registers (λ k h. by k (of-registers k h) (same_placed k.place a) refl)
    where
      by : (k : Kept) → IsFrom k → (b : Bool) → same_placed k.place a ≡ b → b ≡ false
      by k from false e = refl
      by k from true e = absurd (false≢true (sym plain ∙ (ap (is_retained p) (sym (placed-true k.place a e) ∙ from.is.place) ∙ from.retained)))

  record HasKept (a : Placed) : Type 0 where
    register : Kept
    at : kept_at (plan p l) a ≡ Some register
    cell : cell_numbered p (register_chosen p l a) ≡ Some register.cell

  is-kept : (a : Placed) → IsIn a (cell_instances p.structure) → is_retained p a ≡ true → is_some (cell_numbered p (register_chosen p l a)) ≡ true → HasKept a
  is-kept a h yes_it_is some =
      let t = some-is (retention p.intent a.path a.instance) (one (is_some (retention p.intent a.path a.instance)) _ yes_it_is) in
      let c = some-is (cell_numbered p (register_chosen p l a)) some in
      let made : kept p l a ≡ Some (record { place = a; strategy = t.0; cell = c.0 }) =
      ap (kept_by p l a) t.1 ∙ ap (λ o. option_and_then (λ k. Some (record { place = a; strategy = t.0; cell = k })) o) c.1 in
      let listed = in-some (kept p l) a (record { place = a; strategy = t.0; cell = c.0 }) (filter (is_retained p) (cell_instances p.structure)) (in-filter (is_retained p) (cell_instances p.structure) a h yes_it_is) made in
      let found = some-is (kept_at (plan p l) a) (some-first (λ (k : Kept). same_placed k.place a) (record { place = a; strategy = t.0; cell = c.0 }) (plan p l).registers listed (placed-self a)) in
      let there = first_in (λ (k : Kept). same_placed k.place a) (plan p l).registers found.0 found.1 in
      let from = of-registers found.0 there.0 in
      let same : from.from ≡ a = sym from.is.place ∙ placed-true found.0.place a there.1 in
      record { register = found.0; at = found.1; cell = ap (λ b. cell_numbered p (register_chosen p l b)) (sym same) ∙ from.is.cell }

  -- ---- what takes a place

  chosen-by : (a : Placed) (t : ℕ × Strategy) → retention_winner p.intent a.path a.instance ≡ Some t
      → register_chosen p l a ≡ register_by p l t.0 (cell_of p.structure a) (primary_at p a.path) (functions_of p t.1.supply) t.1.save t.1.restore
  chosen-by a t e = rw (e) refl

  register-fits : (t : ℕ) (c : CellView) (q r : Option SetOrigins) (save restore : Option (Node × Action)) (k : CellView) → cell_numbered p (register_by p l t (Some c) q r save restore) ≡ Some k → register_fits c q r save restore k ≡ true
  register-fits t c (Some q) (Some r) (Some save) (Some restore) k e =
      other (is_mapped (l.of_strategy t) k) (fits_register (record { source = c; primary = q; retention = r; save = save.1; restore = restore.1; one_signal = same_node save.0 restore.0; mapped = l.of_strategy t }) k)
      (fits-chosen (λ z. is_mapped (l.of_strategy t) z && fits_register (record { source = c; primary = q; retention = r; save = save.1; restore = restore.1; one_signal = same_node save.0 restore.0; mapped = l.of_strategy t }) z) p.structure.cells k e)
  register-fits t c None r save restore k e = absurd cc
  register-fits t c (Some q) None save restore k e = absurd cc
  register-fits t c (Some q) (Some r) None restore k e = absurd cc
  register-fits t c (Some q) (Some r) (Some save) None k e = absurd cc

  module _ (a : Placed) (c : CellView) (e : cell_of p.structure a ≡ Some c) where
    abbrev strategy : Option Strategy
    strategy = retention p.intent a.path a.instance

    retained-is : (t : Option Strategy) → strategy ≡ t → is_retained p a ≡ (is_some t && is_some c.state)
    retained-is t g = ap (λ o. is_some o && is_some (option_and_then (λ (k : CellView). k.state) (cell_of p.structure a))) g ∙ ap (λ o. is_some t && is_some (option_and_then (λ (k : CellView). k.state) o)) e

    takes-own : is_retained p a ≡ false → takes_place p a strategy (Some c) c ≡ true
    takes-own plain = by strategy refl
      where
        by : (t : Option Strategy) → strategy ≡ t → takes_place p a t (Some c) c ≡ true
        by None g = name-self c.name
        by (Some t) g = ap (λ b. if b then register_fits c (primary_at p a.path) (functions_of p t.supply) t.save t.restore c else bytes_eq c.name c.name) (sym (retained-is (Some t) g) ∙ plain) ∙ name-self c.name

    takes-kept : (k : CellView) → is_retained p a ≡ true → cell_numbered p (register_chosen p l a) ≡ Some k → takes_place p a strategy (Some c) k ≡ true
    takes-kept k kept chosen = by (retention_winner p.intent a.path a.instance) refl
      where
        none : strategy ≡ None → ⊥
        none g = false≢true (sym (retained-is None g) ∙ kept)

        by_inserts : (t : ℕ × Strategy) → retention_winner p.intent a.path a.instance ≡ Some t → (b : Bool) → t.1.inserts ≡ b → takes_place p a strategy (Some c) k ≡ true
        by_inserts t g false i = absurd (none (ap inserting g ∙ ap (λ b. if b then Some t.1 else None) i))
        by_inserts t g true i =
            let is : strategy ≡ Some t.1 = ap inserting g ∙ ap (λ b. if b then Some t.1 else None) i in
            let state : is_some c.state ≡ true = sym (retained-is (Some t.1) is) ∙ kept in
            let made : cell_numbered p (register_by p l t.0 (Some c) (primary_at p a.path) (functions_of p t.1.supply) t.1.save t.1.restore) ≡ Some k =
            ap (λ o. cell_numbered p (register_by p l t.0 o (primary_at p a.path) (functions_of p t.1.supply) t.1.save t.1.restore)) (sym e) ∙ (ap (cell_numbered p) (sym (chosen-by a t g)) ∙ chosen) in
            ap (λ o. takes_place p a o (Some c) k) is
            ∙ (ap (λ b. if b then register_fits c (primary_at p a.path) (functions_of p t.1.supply) t.1.save t.1.restore k else bytes_eq c.name k.name) state
            ∙ register-fits t.0 c (primary_at p a.path) (functions_of p t.1.supply) t.1.save t.1.restore k made)

        by : (o : Option (ℕ × Strategy)) → retention_winner p.intent a.path a.instance ≡ o → takes_place p a strategy (Some c) k ≡ true
        by None g = absurd (none (ap inserting g))
        by (Some t) g = by_inserts t g t.1.inserts refl

-- ---- each cell instance

module _ (p : Project) (l : Lists) (w : Structure) (f : IsFree p) (apart : are_apart (map (λ (k : CellView). k.name) p.structure.cells) ≡ true) (cells : HasRegisterCells p l) (is : IsWrittenAt p (additions p l) w) where
  own-cell : (a : Placed) (c : CellView) → cell_of p.structure a ≡ Some c → is_retained p a ≡ false → cell_of w a ≡ Some c
  own-cell a c e plain = source-cells p l w f apart is a c e ∙ (ap (λ o. or_cell o (kept_at (plan p l) a)) e ∙ ap (or_cell (Some c)) (not-kept p l a plain))

  kept-cell : (a : Placed) (c : CellView) → cell_of p.structure a ≡ Some c → (k : HasKept p l a) → cell_of w a ≡ Some k.register.cell
  kept-cell a c e k = source-cells p l w f apart is a c e ∙ (ap (λ o. or_cell o (kept_at (plan p l) a)) e ∙ ap (or_cell (Some c)) k.at)

  pub sources-stand : list_all (source_cell_stands p w) (cell_instances p.structure) ≡ true
  sources-stand = all-of (source_cell_stands p w) (cell_instances p.structure) stand
    where
      stand : (a : Placed) → IsIn a (cell_instances p.structure) → source_cell_stands p w a ≡ true
      stand a h = by (is_retained p a) refl (has-cell p f a h)
        where
          by : (b : Bool) → is_retained p a ≡ b → (c : CellView) × (cell_of p.structure a ≡ Some c) → source_cell_stands p w a ≡ true
          by false r c =
              ap (λ o. passed_by (takes_place p a (retention p.intent a.path a.instance) o) (cell_of w a)) c.1
              ∙ (ap (passed_by (takes_place p a (retention p.intent a.path a.instance) (Some c.0))) (own-cell a c.0 c.1 r)
              ∙ takes-own p l a c.0 c.1 r)
          by true r c =
              let k = is-kept p l a h r (cells.chosen a h r) in
              ap (λ o. passed_by (takes_place p a (retention p.intent a.path a.instance) o) (cell_of w a)) c.1
              ∙ (ap (passed_by (takes_place p a (retention p.intent a.path a.instance) (Some c.0))) (kept-cell a c.0 c.1 k)
              ∙ takes-kept p l a c.0 c.1 k.register.cell r k.cell)

  pub registers-chosen : list_all (register_as_chosen p w l) (cell_instances p.structure) ≡ true
  registers-chosen = all-of (register_as_chosen p w l) (cell_instances p.structure) chosen
    where
      chosen : (a : Placed) → IsIn a (cell_instances p.structure) → register_as_chosen p w l a ≡ true
      chosen a h = by (is_retained p a) refl (has-cell p f a h)
        where
          by : (b : Bool) → is_retained p a ≡ b → (c : CellView) × (cell_of p.structure a ≡ Some c) → register_as_chosen p w l a ≡ true
          by false r c = ap (λ b. if b then is_chosen p w a (register_chosen p l a) else true) r
          by true r c =
              let k = is-kept p l a h r (cells.chosen a h r) in
              ap (λ b. if b then is_chosen p w a (register_chosen p l a) else true) r
              ∙ (ap (λ o. is_of o (cell_numbered p (register_chosen p l a))) (kept-cell a c.0 c.1 k)
              ∙ (ap (is_of (Some k.register.cell)) k.cell ∙ name-self k.register.cell.name))
