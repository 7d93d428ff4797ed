-- The first fault of instances and modules, each judged with its target, is that of the netlist by the texts.
use Rattle.std.proofs.Common.{◌≡◌, ℕ, ◌+◌, Bool, true, List, [], ◌∷◌, ◌++◌, length, map, Option, refl, sym, ap, ◌∙◌, add-one}
use Rattle.std.specs.Prelude.{slice_get}
use Rattle.std.specs.List.{flat_map}
use Rattle.std.specs.Option.{option_map, option_and_then}
use Rattle.lp_text.specs.Texts.{text_at}
use Rattle.lp_model.specs.Agreement.{numbers_below}
use Rattle.lp_model.specs.declared.netlist.Instance.{Instance}
use Rattle.lp_model.specs.declared.netlist.Module.{Module}
use Rattle.lp_model.specs.NetlistView as nets
use Rattle.lp_model.specs.NetlistView.{InstanceView, ModuleView, instance_view, module_view, port_numbers, net_numbers, instance_numbers, assign_numbers}
use Rattle.lp_spec_design.specs.Netlists.{Structure, first, module_named, cell_named}
use Rattle.lp_places.proofs.Numbers.{below-left, below-right, below-tail}
use Rattle.lp_targets.specs.Reports.{or_else}
use Rattle.lp_targets.specs.Targets.{module_of, cell_of}
use Rattle.lp_targets.specs.declared.target.Target.{Target}
use Rattle.lp_connections.specs.Numbered.{found_at, row_of}
use Rattle.lp_connections.proofs.Lists.{first-append, map_else, found-shift, found-same, get-next}

module _ (texts : List (List ℕ)) (s : Structure) where
  abbrev Below : List ℕ → Type 0
  Below ks = numbers_below (length texts) ks ≡ true

  -- a target is what an instance is of
  pub record IsOf (t : Target) (x : Instance) : Type 0 where
    pub of_module : module_named s (text_at texts x.target.0) ≡ module_of s t
    pub of_cell : cell_named s (text_at texts x.target.0) ≡ cell_of s t
    pub below : Below (instance_numbers x)

  abbrev pub RowFits : List Target → List Instance → Type 0
  RowFits [] [] = Unit {0}
  RowFits (t ∷ ts) (x ∷ xs) = IsOf t x × RowFits ts xs
  RowFits _ _ = ⊥

  abbrev pub RowsFit : List (List Target) → List Module → Type 0
  RowsFit [] [] = Unit {0}
  RowsFit (r ∷ rs) (m ∷ ms) = (RowFits r m.instances × Below (nets.module_numbers m)) × RowsFit rs ms
  RowsFit _ _ = ⊥

  row_fits : (row : List Target) (xs : List Instance) → map (module_of s) row ≡ map (λ (i : InstanceView). module_named s i.target) (map (instance_view texts) xs) → map (cell_of s) row ≡ map (λ (i : InstanceView). cell_named s i.target) (map (instance_view texts) xs) → Below (flat_map instance_numbers xs) → RowFits row xs
  row_fits [] [] e f below = tt
  row_fits [] (x ∷ xs) e f below = cc
  row_fits (t ∷ ts) [] e f below = cc
  row_fits (t ∷ ts) (x ∷ xs) e f below =
      let m : module_of s t ≡ module_named s (text_at texts x.target.0) = cc in
      let c : cell_of s t ≡ cell_named s (text_at texts x.target.0) = cc in
      let ms : map (module_of s) ts ≡ map (λ (i : InstanceView). module_named s i.target) (map (instance_view texts) xs) = cc in
      let cs : map (cell_of s) ts ≡ map (λ (i : InstanceView). cell_named s i.target) (map (instance_view texts) xs) = cc in (
        record { of_module = sym m; of_cell = sym c; below = below-left (length texts) (instance_numbers x) (flat_map instance_numbers xs) below },
        row_fits ts xs ms cs (below-right (length texts) (instance_numbers x) (flat_map instance_numbers xs) below),
      )

  instances_below : (m : Module) → Below (nets.module_numbers m) → Below (flat_map instance_numbers m.instances)
  instances_below m below =
      let ports = flat_map port_numbers m.ports in
      let wires = flat_map net_numbers m.nets in
      let instances = flat_map instance_numbers m.instances in
      let rest = flat_map assign_numbers m.assigns in
      below-left (length texts) instances rest (below-right (length texts) wires (instances ++ rest) (below-right (length texts) ports (wires ++ (instances ++ rest)) (below-tail (length texts) m.name.0 (ports ++ (wires ++ (instances ++ rest))) below)))

  pub rows_fit : (rows : List (List Target)) (ms : List Module) → map (map (module_of s)) rows ≡ map (λ (m : ModuleView). map (λ (i : InstanceView). module_named s i.target) m.instances) (map (module_view texts) ms) → map (map (cell_of s)) rows ≡ map (λ (m : ModuleView). map (λ (i : InstanceView). cell_named s i.target) m.instances) (map (module_view texts) ms) → Below (flat_map nets.module_numbers ms) → RowsFit rows ms
  rows_fit [] [] e f below = tt
  rows_fit [] (m ∷ ms) e f below = cc
  rows_fit (r ∷ rs) [] e f below = cc
  rows_fit (r ∷ rs) (m ∷ ms) e f below =
      let here : map (module_of s) r ≡ map (λ (i : InstanceView). module_named s i.target) (map (instance_view texts) m.instances) = cc in
      let there : map (cell_of s) r ≡ map (λ (i : InstanceView). cell_named s i.target) (map (instance_view texts) m.instances) = cc in
      let more : map (map (module_of s)) rs ≡ map (λ (k : ModuleView). map (λ (i : InstanceView). module_named s i.target) k.instances) (map (module_view texts) ms) = cc in
      let others : map (map (cell_of s)) rs ≡ map (λ (k : ModuleView). map (λ (i : InstanceView). cell_named s i.target) k.instances) (map (module_view texts) ms) = cc in
      let own = below-left (length texts) (nets.module_numbers m) (flat_map nets.module_numbers ms) below in (
        (row_fits r m.instances here there (instances_below m own), own),
        rows_fit rs ms more others (below-right (length texts) (nets.module_numbers m) (flat_map nets.module_numbers ms) below),
      )

  -- ---- what is said of the instances of a module, each judged by itself
  module _ {X R Y : Type 0} (p : X → Bool) (say : X → R) (each : InstanceView → List X) (found : Target → Instance → Option Y) (say_found : Y → R) (same : (t : Target) (x : Instance) → IsOf t x → option_map say (first p (each (instance_view texts x))) ≡ option_map say_found (found t x)) where
    abbrev by_place : List Target → ℕ → Instance → Option Y
    by_place row j x = option_and_then (λ t. found t x) (slice_get row j)

    pub in_row : (row : List Target) (xs : List Instance) → RowFits row xs → option_map say (first p (flat_map each (map (instance_view texts) xs))) ≡ option_map say_found (found_at (λ j x. option_and_then (λ t. found t x) (slice_get row j)) 0 xs)
    in_row [] [] fits = refl
    in_row [] (x ∷ xs) fits = absurd fits
    in_row (t ∷ ts) [] fits = absurd fits
    in_row (t ∷ ts) (x ∷ xs) fits =
        ap (option_map say) (first-append p (each (instance_view texts x)) (flat_map each (map (instance_view texts) xs)))
        ∙ map_else say (first p (each (instance_view texts x))) (first p (flat_map each (map (instance_view texts) xs)))
        ∙ (λ i. or_else (same t x fits.0 i) (in_row ts xs fits.1 i))
        ∙ sym (map_else say_found (found t x) (found_at (by_place ts) 0 xs))
        ∙ ap (λ r. option_map say_found (or_else (found t x) r)) (sym (found-shift (by_place (t ∷ ts)) 0 xs ∙ found-same (λ j y. by_place (t ∷ ts) (j + 1) y) (by_place ts) (λ j y. ap (option_and_then (λ k. found k y)) (get-next t ts j)) 0 xs))

  -- ---- what is said of modules, each judged by itself
  module _ {X R Y : Type 0} (p : X → Bool) (say : X → R) (each : ModuleView → List X) (found : List Target → Module → Option Y) (say_found : Y → R) (same : (row : List Target) (m : Module) → RowFits row m.instances → Below (nets.module_numbers m) → option_map say (first p (each (module_view texts m))) ≡ option_map say_found (found row m)) where
    pub in_rows : (rows : List (List Target)) (ms : List Module) → RowsFit rows ms → option_map say (first p (flat_map each (map (module_view texts) ms))) ≡ option_map say_found (found_at (λ k m. found (row_of rows k) m) 0 ms)
    in_rows [] [] fits = refl
    in_rows [] (m ∷ ms) fits = absurd fits
    in_rows (r ∷ rs) [] fits = absurd fits
    in_rows (r ∷ rs) (m ∷ ms) fits =
        ap (option_map say) (first-append p (each (module_view texts m)) (flat_map each (map (module_view texts) ms)))
        ∙ map_else say (first p (each (module_view texts m))) (first p (flat_map each (map (module_view texts) ms)))
        ∙ (λ i. or_else (same r m fits.0.0 fits.0.1 i) (in_rows rs ms fits.1 i))
        ∙ sym (map_else say_found (found r m) (found_at (λ k y. found (row_of rs k) y) 0 ms))
        ∙ ap (λ t. option_map say_found (or_else (found r m) t)) (sym (found-shift (λ k y. found (row_of (r ∷ rs) k) y) 0 ms ∙ found-same (λ k y. found (row_of (r ∷ rs) (k + 1)) y) (λ k y. found (row_of rs k) y) (λ k y. ap (λ row. found row y) (row-next r rs k)) 0 ms))
      where
        row-next : (r : List Target) (rs : List (List Target)) (k : ℕ) → row_of (r ∷ rs) (k + 1) ≡ row_of rs k
        row-next r rs k = ap (row_of (r ∷ rs)) (add-one k)
