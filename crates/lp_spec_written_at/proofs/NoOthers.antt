-- A netlist that has the written content at each path has no other cell instances than those of the source, the operators and the switches.
use Rattle.std.proofs.Common.{◌≡◌, ◌⊎◌, ℕ, zero, suc, ◌+◌, ◌-◌, ◌≤◌, true, ◌||◌, List, [], ◌∷◌, ◌++◌, length, map, Option, Some, None, inl, inr, refl, sym, ap, ◌∙◌, subst, arith}
use Rattle.std.specs.Prelude.{is_some, option_and_then, bytes_eq}
use Rattle.std.specs.List.{list_all}
use Rattle.lp_model.specs.NetlistView.{InstanceView, ModuleView}
use Rattle.lp_model.specs.LibraryView.{CellView}
use Rattle.lp_spec_design.specs.Keys.{Name, Path}
use Rattle.lp_spec_design.specs.Netlists.{Structure, module_named, cell_named, instance_named, module_at}
use Rattle.lp_spec_design.specs.Instances.{Placed, cells_of_target, cells_of, cells_in, cells_below, cell_instances}
use Rattle.lp_spec_design.specs.Graph.{numbered}
use Rattle.lp_spec_design.specs.Winners.{IsIn}
use Rattle.lp_spec_design.specs.Reads.{name-true}
use Rattle.lp_spec_design.proofs.Members.{in-left, in-right, in-either, in-map, in-flat, of-map, of-flat, any-in}
use Rattle.lp_spec_design.proofs.Sources.{then_is, first_in}
use Rattle.lp_spec_realises.specs.Projects.{Project}
use Rattle.lp_spec_realises.specs.ProjectNetlists.{is_known}
use Rattle.lp_spec_realises.specs.Operators.{all_operators, all_switches, placed_operator, placed_switch}
use Rattle.lp_spec_realises.specs.Realises.{same_placed, has_placed, added, expected_cells}
use Rattle.lp_spec_realises.specs.Implements.{Lists}
use Rattle.lp_spec_written.specs.Places.{plan, switches_in}
use Rattle.lp_spec_written.specs.Nets.{linked}
use Rattle.lp_spec_written.specs.Written.{Additions, additions, named_operators, written_instance, written_operator, written_operators, written_switch, written_switches, written_instances, written_module}
use Rattle.lp_spec_hub.specs.Entries.{HasWaysApart, HasItsCells}
use Rattle.lp_spec_wired.specs.Contents.{IsWrittenAt}
use Rattle.lp_spec_wired.specs.Names.{placement_of}
use Rattle.lp_spec_written_at.specs.Sources.{IsFree}
use Rattle.lp_spec_written_at.proofs.Lists.{of-all, all-of}
use Rattle.lp_spec_written_at.proofs.Modules.{from-modules, written-name, cells-listed}
use Rattle.lp_spec_written_at.proofs.Paths.{source-by-names, source-at, of-instances, some-is, short}
use Rattle.lp_spec_written_at.proofs.SourceCells.{placed-self}
use Rattle.lp_spec_written_at.proofs.Back.{operators-from-plan}
use Rattle.lp_spec_written_at.proofs.BackSwitches.{switches-from-plan}

-- ---- where a cell instance stands

pub record StandsIn (t : Structure) (a : Placed) : Type 0 where
  pub owner : ModuleView
  pub at : module_at t a.path ≡ Some owner
  pub instance : InstanceView
  pub among : IsIn instance owner.instances
  pub named : a.instance ≡ instance.name
  pub outside : module_named t instance.target ≡ None

outside-of : (inside : Path → List Placed) (q : Path) (n : Name) (o : Option ModuleView) (k : Option CellView) (a : Placed) → IsIn a (cells_of_target inside q n o k)
    → IsIn a (inside (n ∷ q)) ⊎ ((o ≡ None) × (a ≡ record { path = q; instance = n }))
outside-of inside q n (Some m) k a h = inl h
outside-of inside q n None None a h = absurd h
outside-of inside q n None (Some c) a (inl is) = inr (refl, is)
outside-of inside q n None (Some c) a (inr h) = absurd h

module _ (t : Structure) where
  stands-below : (depth : ℕ) (q : Path) (a : Placed) → IsIn a (cells_below t depth q) → StandsIn t a
  stands-below zero q a h = absurd h
  stands-below (suc depth) q a h = by (module_at t q) refl h (λ i g. stands-below depth (i ∷ q) a g)
    where
      by : (o : Option ModuleView) → module_at t q ≡ o → IsIn a (cells_in t (cells_below t depth) q o) → ((i : Name) → IsIn a (cells_below t depth (i ∷ q)) → StandsIn t a) → StandsIn t a
      by None e g more = absurd g
      by (Some m) e g more =
          let at = of-flat (cells_of t (cells_below t depth) q) a m.instances g in
          elim (outside-of (cells_below t depth) q at.0.name (module_named t at.0.target) (cell_named t at.0.target) a at.2) [
            | inl up ↦ more at.0.name up
            | inr found ↦ record {
              owner = m;
              at = ap (λ (b : Placed). module_at t b.path) found.1 ∙ e;
              instance = at.0;
              among = at.1;
              named = ap (λ (b : Placed). b.instance) found.1;
              outside = found.0;
            }
          ]

  pub stands-in : (a : Placed) → IsIn a (cell_instances t) → StandsIn t a
  unfolding cell_instances
  stands-in a h = stands-below 64 [] a h

  cells-up : (i : Name) (q : Path) (m : ModuleView) → module_at t (i ∷ q) ≡ Some m → (depth : ℕ) (a : Placed) → IsIn a (cells_below t depth (i ∷ q)) → IsIn a (cells_below t (suc depth) q)
  cells-up i q m e depth a h =
      let above = then_is (λ (x : ModuleView). option_and_then (λ (y : InstanceView). module_named t y.target) (instance_named x i)) (module_at t q) m e in
      let inst = then_is (λ (y : InstanceView). module_named t y.target) (instance_named above.0 i) m above.2 in
      let found = first_in (λ (y : InstanceView). bytes_eq y.name i) above.0.instances inst.0 inst.1 in
      let inside : IsIn a (cells_below t depth (inst.0.name ∷ q)) = subst (λ n. IsIn a (cells_below t depth (n ∷ q))) (sym (name-true inst.0.name i found.1)) h in
      let target : IsIn a (cells_of t (cells_below t depth) q inst.0) = subst (λ o. IsIn a (cells_of_target (cells_below t depth) q inst.0.name o (cell_named t inst.0.target))) (sym inst.2) inside in
      subst (λ o. IsIn a (cells_in t (cells_below t depth) q o)) (sym above.1) (in-flat (cells_of t (cells_below t depth) q) inst.0 a above.0.instances found.0 target)

  cells-at : (q : Path) (m : ModuleView) → module_at t q ≡ Some m → (depth n : ℕ) → n ≡ depth + length q → (a : Placed) → IsIn a (cells_below t depth q) → IsIn a (cells_below t n [])
  cells-at [] m e depth n is a h = let same : depth ≡ n = omega (arith, is) in subst (λ d. IsIn a (cells_below t d [])) same h
  cells-at (i ∷ q) m e depth n is a h =
      let above = then_is (λ (x : ModuleView). option_and_then (λ (y : InstanceView). module_named t y.target) (instance_named x i)) (module_at t q) m e in
      cells-at q above.0 above.1 (suc depth) n (omega (arith, is)) a (cells-up i q m e depth a h)

  instance-in : (q : Path) (m : ModuleView) → module_at t q ≡ Some m → suc (length q) ≤ 64 → (y : InstanceView) → IsIn y m.instances → module_named t y.target ≡ None → (c : CellView) → cell_named t y.target ≡ Some c → IsIn (record { path = q; instance = y.name }) (cell_instances t)
  unfolding cell_instances
  instance-in q m e less y h none c target =
      let depth : ℕ = 63 - length q in
      let a : Placed = record { path = q; instance = y.name } in
      let here : IsIn a (cells_of t (cells_below t depth) q y) =
      subst (λ o. IsIn a (cells_of_target (cells_below t depth) q y.name o (cell_named t y.target))) (sym none)
      (subst (λ o. IsIn a (cells_of_target (cells_below t depth) q y.name None o)) (sym target) (inl refl)) in
      let there : IsIn a (cells_below t (suc depth) q) = subst (λ o. IsIn a (cells_in t (cells_below t depth) q o)) (sym e) (in-flat (cells_of t (cells_below t depth) q) y a m.instances h here) in
      cells-at q m e (suc depth) 64 (omega (arith, less)) a there

-- ---- those of the written content

module _ (p : Project) (l : Lists) (w : Structure) (f : IsFree p) (ways : HasWaysApart p) (cells : HasItsCells p l) (is : IsWrittenAt p (additions p l) w) where
  abbrev s : Structure
  s = p.structure

  abbrev a : Additions
  a = additions p l

  abbrev expected : List Placed
  expected = expected_cells p (placement_of p l)

  none-there : (x : Path) → module_at w x ≡ None → module_at s x ≡ None
  none-there x none = by (module_at s x) refl
    where
      by : (o : Option ModuleView) → module_at s x ≡ o → o ≡ None
      by None e = refl
      by (Some m) e = let at = is.modules x m e in let wrong : None ≡ Some at.here = sym none ∙ at.is in absurd cc

  of-source : (x : Path) (m : ModuleView) → module_at s x ≡ Some m → (y : InstanceView) → IsIn y m.instances → module_at w (y.name ∷ x) ≡ None → IsIn (record { path = x; instance = y.name }) (cell_instances s)
  of-source x m e y h none =
      let outside : module_named s y.target ≡ None = source-by-names p f x m y e h ∙ none-there (y.name ∷ x) none in
      let known : is_known s y ≡ true = of-all (is_known s) y m.instances (of-all (λ (k : ModuleView). list_all (is_known s) k.instances) m s.modules f.known (from-modules s x m e)) h in
      let cell = some-is (cell_named s y.target) (ap (λ o. is_some o || is_some (cell_named s y.target)) (sym outside) ∙ known) in
      instance-in s x m e (short p a w f is x m e) y h outside cell.0 cell.1

  is-expected : (b : Placed) → IsIn b (cell_instances w) → IsIn b expected
  is-expected b h =
      let st = stands-in w b h in
      let of = source-at p a w f is b.path st.owner st.at in
      let found = of-instances w b.path (written_module p a b.path of.0).instances st.owner.instances of.2.instances st.instance st.among in
      let none : module_at w (found.written.name ∷ b.path) ≡ None = sym found.is.inner ∙ st.outside in
      by b of.0 of.1 found.written (st.named ∙ found.is.name) none found.among
    where
      at_name : (b : Placed) (n : Name) → b.instance ≡ n → b ≡ record { path = b.path; instance = n }
      at_name b n e = ap (λ k. record { path = b.path; instance = k }) e

      by : (b : Placed) (m : ModuleView) → module_at s b.path ≡ Some m → (z : InstanceView) → b.instance ≡ z.name → module_at w (z.name ∷ b.path) ≡ None → IsIn z (written_instances p a b.path m) → IsIn b expected
      by b m e z name none g = elim (in-either z (map (written_instance p a b.path) m.instances) (written_operators p a b.path ++ written_switches p a b.path) g) [
        | inl source ↦
            let made = of-map (written_instance p a b.path) z m.instances source in
            let its : z.name ≡ made.0.name = ap (λ (k : InstanceView). k.name) made.2 ∙ written-name p a f (cells-listed p l) b.path made.0 in
            in-left b (cell_instances s) (added p (placement_of p l))
            (subst (λ k. IsIn k (cell_instances s)) (sym (at_name b made.0.name (name ∙ its))) (of-source b.path m e made.0 made.1 (ap (λ n. module_at w (n ∷ b.path)) (sym its) ∙ none)))
        | inr more ↦ in-right b (cell_instances s) (added p (placement_of p l)) (elim (in-either z (written_operators p a b.path) (written_switches p a b.path) more) [
          | inl operator ↦
              let made = of-map (written_operator p a b.path) z (named_operators (linked p a.chains b.path)) operator in
              let from = operators-from-plan p l f ways cells b.path m e made.0 made.1 in
              let its : b.instance ≡ made.0.0 = name ∙ ap (λ (k : InstanceView). k.name) made.2 in
              in-left b (map (placed_operator (placement_of p l)) (all_operators p)) (map (placed_switch (placement_of p l)) (all_switches p))
              (subst (λ k. IsIn k (map (placed_operator (placement_of p l)) (all_operators p))) (from.2 ∙ sym (at_name b made.0.0 its)) (in-map (placed_operator (placement_of p l)) from.0 (all_operators p) from.1))
          | inr switch ↦
              let made = of-map (written_switch p a b.path) z (numbered 0 (switches_in (plan p l) b.path)) switch in
              let from = switches-from-plan p l b.path made.0 made.1 in
              let its = name ∙ ap (λ (k : InstanceView). k.name) made.2 in
              in-right b (map (placed_operator (placement_of p l)) (all_operators p)) (map (placed_switch (placement_of p l)) (all_switches p))
              (subst (λ k. IsIn k (map (placed_switch (placement_of p l)) (all_switches p))) (from.2 ∙ sym (at_name b _ its)) (in-map (placed_switch (placement_of p l)) from.0 (all_switches p) from.1))
        ])
      ]

  pub no-others : list_all (has_placed (expected_cells p (placement_of p l))) (cell_instances w) ≡ true
  no-others = all-of (has_placed expected) (cell_instances w) (λ b h. any-in (same_placed b) b expected (is-expected b h) (placed-self b))
