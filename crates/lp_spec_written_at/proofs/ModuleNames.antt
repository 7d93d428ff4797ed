-- No two modules of the written netlist have one name.
use Rattle.std.proofs.Common.{◌≡◌, Bool, true, false, not, List, [], ◌∷◌, map, Option, Some, None, inl, inr, refl, sym, ap, ◌∙◌, subst}
use Rattle.std.specs.Prelude.{bytes_eq}
use Rattle.std.specs.List.{list_any}
use Rattle.lp_model.specs.NetlistView.{ModuleView}
use Rattle.lp_spec_design.specs.Keys.{Name, Path}
use Rattle.lp_spec_design.specs.Netlists.{module_at}
use Rattle.lp_spec_design.specs.Graph.{some_of, and_more}
use Rattle.lp_spec_design.specs.Winners.{IsIn}
use Rattle.lp_spec_design.specs.Reads.{both}
use Rattle.lp_spec_design.proofs.Members.{IsApart, of-map, of-some}
use Rattle.lp_spec_design.proofs.Sources.{then_is}
use Rattle.lp_spec_realises.specs.Projects.{Project}
use Rattle.lp_spec_realises.specs.ProjectNetlists.{are_apart}
use Rattle.lp_spec_realises.specs.Implements.{Lists}
use Rattle.lp_spec_written.specs.Places.{instances}
use Rattle.lp_spec_written.specs.Written.{Additions, additions, module_name, written_module, written}
use Rattle.lp_spec_written_at.specs.Sources.{IsFree, HasListedCells}
use Rattle.lp_spec_written_at.proofs.Lists.{none-any}
use Rattle.lp_spec_written_at.proofs.Instances.{instances-apart}
use Rattle.lp_spec_written_at.proofs.Modules.{item, from-modules, same-instance, cells-listed}

abbrev name_of : ModuleView → Name
name_of m = m.name

module _ (p : Project) (a : Additions) (f : IsFree p) (listed : HasListedCells p a) where
  -- the path of a module that is written, by its name
  record IsNamedAt (x : Path) (k : ModuleView) : Type 0 where
    source : ModuleView
    at : module_at p.structure x ≡ Some source
    name : k.name ≡ module_name p x source.name

  of-path : (x : Path) (k : ModuleView) → item p a x ≡ Some k → IsNamedAt x k
  of-path x k e =
      let found = then_is (λ m. Some (written_module p a x m)) (module_at p.structure x) k e in
      let here : Some (written_module p a x found.0) ≡ Some k = found.2 in
      let is : k ≡ written_module p a x found.0 = cc in
      record { source = found.0; at = found.1; name = ap name_of is }

  same-path : (x y : Path) (k n : ModuleView) → IsIn x (instances p) → IsIn y (instances p) → item p a x ≡ Some k → item p a y ≡ Some n → bytes_eq k.name n.name ≡ true → x ≡ y
  same-path x y k n h g i j e =
      let one = of-path x k i in
      let two = of-path y n j in
      let test : bytes_eq (module_name p x one.source.name) (module_name p y two.source.name) ≡ true = ap (λ z. bytes_eq z (module_name p y two.source.name)) (sym one.name) ∙ (ap (bytes_eq k.name) (sym two.name) ∙ e) in
      sym (same-instance p a f listed y x two.source one.source g h (from-modules p.structure y two.source two.at) (from-modules p.structure x one.source one.at) test)

  names-differ : (xs : List Path) → IsApart xs → ((x : Path) → IsIn x xs → IsIn x (instances p)) → are_apart (map name_of (some_of (item p a) xs)) ≡ true
  names-differ [] apart within = refl
  names-differ (x ∷ xs) apart within = by (item p a x) refl (names-differ xs apart.1 (λ y h. within y (inr h)))
    where
      rest : List ModuleView
      rest = some_of (item p a) xs

      differs : (k : ModuleView) → item p a x ≡ Some k → (n : Name) → IsIn n (map name_of rest) → (b : Bool) → bytes_eq k.name n ≡ b → b ≡ false
      differs k e n h false g = refl
      differs k e n h true g =
          let one = of-map name_of n rest h in
          let two = of-some (item p a) one.0 xs one.1 in
          let test : bytes_eq k.name one.0.name ≡ true = ap (bytes_eq k.name) (sym one.2) ∙ g in
          let same = same-path x two.0 k one.0 (within x (inl refl)) (within two.0 (inr two.1)) e two.2 test in
          absurd (apart.0 (subst (λ z. IsIn z xs) (sym same) two.1))

      by : (o : Option ModuleView) → item p a x ≡ o → are_apart (map name_of rest) ≡ true → are_apart (map name_of (and_more o rest)) ≡ true
      by None e more = more
      by (Some k) e more = both (not (list_any (bytes_eq k.name) (map name_of rest))) (are_apart (map name_of rest)) (ap not (none-any (bytes_eq k.name) (map name_of rest) (λ n h. differs k e n h (bytes_eq k.name n) refl))) more

  pub all-differ : are_apart (map name_of (some_of (item p a) (instances p))) ≡ true
  all-differ = names-differ (instances p) (instances-apart p.structure f.apart) (λ x h. h)

pub module-names : (p : Project) (l : Lists) → IsFree p → are_apart (map (λ (m : ModuleView). m.name) (written p l)) ≡ true
module-names p l f = all-differ p (additions p l) f (cells-listed p l)
