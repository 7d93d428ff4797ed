-- The modules that are written can be shared.
use Rattle.std.proofs.Common.{◌≡◌, ◌≤◌, ℕ, zero, suc, ◌+◌, true, List, [], ◌∷◌, length, Option, Some, None, refl, sym, ap, ◌∙◌, arith}
use Rattle.std.specs.Prelude.{option_and_then, IsTrue}
use Rattle.lp_model.specs.NetlistView.{InstanceView, ModuleView}
use Rattle.lp_spec_design.specs.Keys.{Path}
use Rattle.lp_spec_design.specs.Netlists.{Structure, module_at}
use Rattle.lp_spec_design.specs.Graph.{some_of, and_more}
use Rattle.lp_spec_design.specs.Winners.{IsIn}
use Rattle.lp_spec_realises.specs.Projects.{Project}
use Rattle.lp_spec_realises.specs.ProjectNetlists.{netlist_of, has_names_apart, IsProjectNetlist}
use Rattle.lp_spec_realises.specs.Realises.{same_paths, has_the_cells}
use Rattle.lp_spec_realises.specs.Implements.{Lists, as_chosen}
use Rattle.lp_spec_written.specs.Shared.{named, shared}
use Rattle.lp_spec_written.specs.Written.{additions, written_instances, written_module, written}
use Rattle.lp_spec_hub.specs.Contents.{some_is_within, is_within}
use Rattle.lp_spec_wired.specs.Contents.{IsWrittenAt}
use Rattle.lp_spec_wired.specs.Names.{placement_of}
use Rattle.lp_spec_written_at.specs.Sources.{IsFree, IsReached, HasOriginNames, HasFewAdditions}
use Rattle.lp_spec_written_at.specs.Laws.{IsReady, IsDrivenOnce}
use Rattle.lp_spec_written_at.proofs.Lists.{all-of}
use Rattle.lp_spec_written_at.proofs.Modules.{item, at, of-written, starts, cells-listed, written_at, written-reached}
use Rattle.lp_spec_written_at.proofs.Paths.{source-at, by-names, same-module-paths}
use Rattle.lp_spec_written_at.proofs.ModuleNames.{module-names}
use Rattle.lp_spec_written_at.proofs.CellsApart.{cells-whole}
use Rattle.lp_spec_written_at.proofs.Chosen.{is-as-chosen}
use Rattle.lp_spec_written_at.proofs.PartNames.{written-names}
use Rattle.lp_spec_written_at.proofs.Projects.{content-is}
use Rattle.lp_spec_shared.specs.Sharing.{CanBeShared}
use Rattle.lp_spec_shared.specs.Laws.{HasChosenCells}
use Rattle.lp_spec_shared.proofs.Sharing.{shared-written, reached-shared}
use Rattle.lp_spec_shared.proofs.Names.{shared-names}

module _ (p : Project) (l : Lists) (f : IsFree p) where
  abbrev modules : List ModuleView
  modules = written p l

  abbrev w : Structure
  w = netlist_of p modules

  is : IsWrittenAt p (additions p l) w
  is = written_at p l f

  here : (x : Path) (m : ModuleView) → module_at p.structure x ≡ Some m → module_at w x ≡ Some (written_module p (additions p l) x m)
  here x m e = at p (additions p l) f (cells-listed p l) x m e

  -- an instance is as deep as 64 leaves room below it
  deep : (depth : ℕ) (x : Path) (m : ModuleView) → 64 ≤ length x + depth → module_at p.structure x ≡ Some m → is_within modules depth (written_module p (additions p l) x m) ≡ true
  deep zero x m long e = let none : None ≡ Some m = sym (f.shallow x (omega (arith, long))) ∙ e in absurd cc
  deep (suc depth) x m long e = all-of (λ (y : InstanceView). some_is_within (is_within modules depth) (named modules y.target)) (written_instances p (additions p l) x m) (each (λ y k g. deep depth (y.name ∷ x) k (omega (arith, long)) g))
    where
      inner : ((z : InstanceView) (k : ModuleView) → module_at p.structure (z.name ∷ x) ≡ Some k → is_within modules depth (written_module p (additions p l) (z.name ∷ x) k) ≡ true)
          → (y : InstanceView) (o : Option ModuleView) → module_at p.structure (y.name ∷ x) ≡ o → some_is_within (is_within modules depth) (module_at w (y.name ∷ x)) ≡ true
      inner more y None g = ap (some_is_within (is_within modules depth)) (is.none (y.name ∷ x) g)
      inner more y (Some k) g = ap (some_is_within (is_within modules depth)) (here (y.name ∷ x) k g) ∙ more y k g

      each : ((z : InstanceView) (k : ModuleView) → module_at p.structure (z.name ∷ x) ≡ Some k → is_within modules depth (written_module p (additions p l) (z.name ∷ x) k) ≡ true)
          → (y : InstanceView) → IsIn y (written_instances p (additions p l) x m) → some_is_within (is_within modules depth) (named modules y.target) ≡ true
      each more y h =
          ap (some_is_within (is_within modules depth)) (by-names p (additions p l) w f is x (written_module p (additions p l) x m) y (here x m e) h)
          ∙ inner more y (module_at p.structure (y.name ∷ x)) refl

  within : (k : ModuleView) → IsIn k modules → is_within modules 64 k ≡ true
  within k h =
      let of = of-written p (additions p l) f (cells-listed p l) k h in
      ap (is_within modules 64) of.is ∙ deep 64 of.path of.source (omega arith) of.at

  some-same : (a b : ModuleView) → Some a ≡ Some b → a ≡ b
  some-same a b e = cc

  head : (top : ModuleView) → module_at w [] ≡ Some top → (rest : List ModuleView) × (modules ≡ top ∷ rest)
  head top e =
      let of = source-at p (additions p l) w f is [] top e in
      let same : written_module p (additions p l) [] of.0 ≡ top = some-same (written_module p (additions p l) [] of.0) top (sym (here [] of.0 of.1) ∙ e) in
      let from = starts p (additions p l) f (cells-listed p l) in (
        some_of (item p (additions p l)) from.0,
        ap (some_of (item p (additions p l))) from.1
            ∙ (ap (λ o. and_more (option_and_then (λ m. Some (written_module p (additions p l) [] m)) o) (some_of (item p (additions p l)) from.0)) of.1
            ∙ ap (λ z. z ∷ some_of (item p (additions p l)) from.0) same),
      )

  pub can-be-shared : CanBeShared p modules
  can-be-shared = record { apart = module-names p l f; within = within; head = head; reached = written-reached p l f }

  pub shared-at : IsWrittenAt p (additions p l) (netlist_of p (shared (written p l)))
  shared-at = shared-written p modules can-be-shared (additions p l) is

  pub shared-reached : IsReached (netlist_of p (shared (written p l)))
  shared-reached = reached-shared p modules can-be-shared

pub shared-apart : (p : Project) (l : Lists) → IsFree p → HasOriginNames p → HasFewAdditions p l → IsTrue (has_names_apart (shared (written p l)))
shared-apart p l f names few = shared-names (written p l) (written-names p l f names few)

pub shared-is : (p : Project) (l : Lists) → IsReady p l → IsDrivenOnce (netlist_of p (shared (written p l))) → IsProjectNetlist p (shared (written p l))
shared-is p l ready once = content-is p l (shared (written p l)) ready (shared-at p l ready.free) (shared-reached p l ready.free) (shared-apart p l ready.free ready.names ready.few) once

pub shared-paths : (p : Project) (l : Lists) → IsFree p → IsTrue (same_paths p.structure (netlist_of p (shared (written p l))))
shared-paths p l f = same-module-paths p (additions p l) (netlist_of p (shared (written p l))) f (shared-at p l f)

pub shared-cells : (p : Project) (l : Lists) → IsFree p → HasFewAdditions p l → HasChosenCells p l
    → IsTrue (has_the_cells p (netlist_of p (shared (written p l))) (placement_of p l)) × IsTrue (as_chosen p (netlist_of p (shared (written p l))) l (placement_of p l))
shared-cells p l f few cells = (
  cells-whole p l f cells.ways cells.operators cells.switches few.operators few.switches (netlist_of p (shared (written p l))) cells.apart cells.registers (shared-at p l f),
  is-as-chosen p l (netlist_of p (shared (written p l))) f cells.apart cells.ways cells.operators cells.registers cells.switches (shared-at p l f) few.operators few.switches,
)
