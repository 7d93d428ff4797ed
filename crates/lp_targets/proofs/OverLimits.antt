-- The first limit by the table is that of the line, and where there is none the sizes are exact.
use Rattle.std.proofs.Common.{◌≡◌, ℕ, zero, suc, ◌+◌, ◌<◌, ◌≤◌, min, Bool, true, false, not, ◌||◌, cond, List, [], ◌∷◌, ◌++◌, length, take, get_or, Option, Some, None, refl, sym, ap, ◌∙◌, subst, arith}
use Rattle.std.specs.Prelude.{nat_lt, Result, Ok, Err, IfOk, IfErr, map, slice_get, slice_index_or, if◌then◌else◌}
use Rattle.std.specs.Option.{option_map_or}
use Rattle.std.proofs.lemmas.Bool.{ltb-false}
use Rattle.std.proofs.lemmas.List.{take_more, take_all, map-append}
use Rattle.lp_model.specs.declared.fault.netlist.NetlistLimit.TheVariants as limits
use Rattle.lp_model.specs.declared.fault.refusal.Refusal.{Refusal}
use Rattle.lp_model.specs.NetlistView.{ModuleView}
use Rattle.lp_spec_design.specs.Netlists.{Structure, top_of, is_instantiated}
use Rattle.lp_spec_faults.specs.Lines.{first_of}
use Rattle.lp_spec_faults.specs.Modules.{bits_in, cells_in, together, in_all, is_deeper, is_over, netlist_limits}
use Rattle.lp_targets.specs.declared.target.Target.{Target}
use Rattle.lp_targets.specs.declared.size.Size.{Size}
use Rattle.lp_targets.specs.declared.size.Counts.{Counts}
use Rattle.lp_targets.specs.Reports.{Report, limit_told, IsStop}
use Rattle.lp_targets.specs.Sizes.{node_limit, instance_limit, depth_limit, in_module, size_of, sizes_of, IsResolved, AreTogether, AreCounts, limit_at, size_at, AreSizes}
use Rattle.lp_targets.proofs.Looping.{stands}
use Rattle.lp_targets.proofs.Capped.{tells_over}
use Rattle.lp_targets.proofs.BelowTop.{kept_one, below_top}

none_over : (a b c d : Bool) → (if a then Some limits.Nodes else if b || c then Some limits.Instances else if d then Some limits.Depth else None) ≡ None → (a ≡ false) × (b ≡ false) × (c ≡ false)
none_over true b c d e = cc
none_over false true c d e = cc
none_over false false true d e = cc
none_over false false false d e = (refl, refl, refl)

-- an exact count from one up to a limit, of a module that has no more than another within the limit
exact : (limit x y : ℕ) → min (limit + 1) y ≤ limit → x ≤ y → min limit (min (limit + 1) x) ≡ x
exact limit x y top less = omega (arith, top, less)

module _ (s : Structure) (rows : List (List Target)) (order : List ℕ) (top : ℕ) (resolved : IsResolved s rows order top) (c : Counts) (counts : AreCounts s c) where
  the_top : (t : ModuleView) × (top_of s ≡ Some t)
  the_top = kept_one (λ (m : ModuleView). not (is_instantiated s m.name)) s.modules resolved.one

  at_top : slice_get s.modules top ≡ Some the_top.0
  at_top = resolved.placed ∙ the_top.1

  told : (limit : ℕ) (each : ModuleView → ℕ) (table : List ℕ) → AreTogether s each (limit + 1) table → nat_lt limit (in_all s each) ≡ nat_lt limit (slice_index_or table top 0)
  told limit each table right =
      ap (λ o. nat_lt limit (option_map_or (together s each (length s.modules)) o 0)) the_top.1
      ∙ sym (tells_over limit (in_module s each the_top.0))
      ∙ sym (ap (nat_lt limit) (right top the_top.0 at_top))

  pub limits_same : first_of (netlist_limits s) ≡ limit_at c top
  limits_same =
      let nodes = told node_limit bits_in c.nodes.items counts.nodes in
      let cells = told instance_limit (cells_in s) c.cells.items counts.cells in
      let instances = told instance_limit (λ m. 1) c.instances.items counts.instances in
      let depth : is_over s limits.Depth ≡ nat_lt depth_limit (slice_index_or c.depths.items top 0) =
      ap (λ o. option_map_or (is_deeper s 64) o false) the_top.1 ∙ counts.depths top depth_limit the_top.0 at_top (omega arith) in
      λ i. cond (nodes i) (Some limits.Nodes) (cond (cells i || instances i) (Some limits.Instances) (cond (depth i) (Some limits.Depth) None))

  exactly : (limit : ℕ) (each : ModuleView → ℕ) (table : List ℕ) → AreTogether s each (limit + 1) table → nat_lt limit (slice_index_or table top 0) ≡ false → (a : ℕ) (m : ModuleView) → slice_get s.modules a ≡ Some m → min limit (slice_index_or table a 0) ≡ in_module s each m
  exactly limit each table right under a m at =
      let low : min (limit + 1) (in_module s each the_top.0) ≤ limit = subst (λ n. n ≤ limit) (right top the_top.0 at_top) (ltb-false limit (slice_index_or table top 0) under) in
      ap (min limit) (right a m at)
      ∙ exact limit (in_module s each m) (in_module s each the_top.0) low (below_top s rows order top resolved each the_top.0 the_top.1 a m at)

  pub sizes_right : limit_at c top ≡ None → AreSizes s c
  sizes_right none =
      let under = none_over (nat_lt node_limit (slice_index_or c.nodes.items top 0)) (nat_lt instance_limit (slice_index_or c.cells.items top 0)) (nat_lt instance_limit (slice_index_or c.instances.items top 0)) (nat_lt depth_limit (slice_index_or c.depths.items top 0)) none in
      λ a m at.
      let nodes = exactly node_limit bits_in c.nodes.items counts.nodes under.0 a m at in
      let cells = exactly instance_limit (cells_in s) c.cells.items counts.cells under.1 a m at in
      let instances = exactly instance_limit (λ k. 1) c.instances.items counts.instances under.2 a m at in
      λ i. record { nodes = nodes i; cells = cells i; instances = instances i }

-- ---- one more size

got : {A : Type 0} (xs : List A) (k : ℕ) (x : A) → slice_get xs k ≡ Some x → get_or xs k x ≡ x
got [] k x e = cc
got (y ∷ xs) zero x e = cc
got (y ∷ xs) (suc k) x e = got xs k x e

pub size_more : (s : Structure) (c : Counts) (sizes new : List Size) (i : ℕ) (size : Size) → AreSizes s c → i < length s.modules → size ≡ size_at c i → sizes ≡ map (size_of s) (take i s.modules) → new ≡ sizes ++ size ∷ [] → new ≡ map (size_of s) (take (i + 1) s.modules)
size_more s c sizes new i size right h is before now =
    let here = stands s.modules i h in
    let grown : take (i + 1) s.modules ≡ take i s.modules ++ here.0 ∷ [] = take_more s.modules i here.0 h ∙ ap (λ y. take i s.modules ++ y ∷ []) (got s.modules i here.0 here.1) in
    now ∙ (λ j. before j ++ (is ∙ right i here.0 here.1) j ∷ []) ∙ sym (ap (map (size_of s)) grown ∙ map-append (size_of s) (take i s.modules) (here.0 ∷ []))

pub take_whole : (s : Structure) (count : ℕ) (sizes : List Size) (i : ℕ) → count ≡ length s.modules → count ≤ i → sizes ≡ map (size_of s) (take i s.modules) → sizes ≡ sizes_of s
take_whole s count sizes i many all e = e ∙ ap (map (size_of s)) (take_all i s.modules (subst (λ n. n ≤ i) many all))

-- ---- what is said of a result

pub ok_told : {A : Type 0} (c : Counts) (top : ℕ) (report : Option Report) (r : Result A Refusal) → report ≡ limit_told (limit_at c top) → IfOk r (λ _. limit_at c top ≡ None) → IfOk r (λ _. report ≡ None)
ok_told c top report (Ok x) e h = e ∙ ap limit_told h
ok_told c top report (Err f) e h = h

pub err_told : {A : Type 0} (texts : List (List ℕ)) (c : Counts) (top : ℕ) (report : Option Report) (r : Result A Refusal) → report ≡ limit_told (limit_at c top) → IfErr r (IsStop texts (limit_told (limit_at c top))) → IfErr r (IsStop texts report)
err_told texts c top report (Ok x) e h = h
err_told texts c top report (Err f) e h = subst (λ o. IsStop texts o f) (sym e) h
