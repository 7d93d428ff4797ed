-- A source without faults keeps the added names free, knows its targets and has a top; within limits it is ready.
use Rattle.std.specs.Prelude.{filter, is_none, if◌then◌else◌}
use Rattle.std.specs.List.{list_all}
use Rattle.std.proofs.Common.{◌≡◌, ◌==◌, ◌&&◌, ◌||◌, ℕ, not, is_some, Bool, true, false, List, [], ◌∷◌, length, Option, Some, None, inl, inr, refl, ap, ◌∙◌, arith}
use Rattle.std.proofs.lemmas.Bool.{true≢false, eqb-true}
use Rattle.lp_model.specs.NetlistView.{InstanceView, ModuleView}
use Rattle.lp_model.specs.LibraryView.{CellView}
use Rattle.lp_spec_design.specs.Netlists.{Structure, first, module_named, cell_named, module_at, is_instantiated}
use Rattle.lp_spec_design.specs.Nodes.{DeclaresBits}
use Rattle.lp_spec_design.specs.Winners.{IsIn}
use Rattle.lp_spec_design.proofs.Members.{in-map, in-flat}
use Rattle.lp_spec_realises.specs.Projects.{Project}
use Rattle.lp_spec_realises.specs.ProjectNetlists.{is_known, knows_its_targets}
use Rattle.lp_spec_realises.specs.Implements.{Lists}
use Rattle.lp_spec_faults.specs.Lines.{first_of}
use Rattle.lp_spec_faults.specs.Modules.{InstanceAt, instances_of, all_instances, unknown_module, reserved_name, tops, top_count}
use Rattle.lp_spec_voltages.proofs.Roots.{no-fault}
use Rattle.lp_spec_agreement.proofs.Framed.{no_fault}
use Rattle.lp_spec_faultless.specs.Faults.{IsRead}
use Rattle.lp_spec_faultless.proofs.Whole.{declares}
use Rattle.lp_spec_written_at.specs.Sources.{IsFree}
use Rattle.lp_spec_written_at.specs.Laws.{IsReady}
use Rattle.lp_spec_written_at.proofs.Targets.{targets-free}
use Rattle.lp_spec_proper.proofs.Few.{few_instances}
use Rattle.lp_spec_proper.specs.Insertable.{IsInsertable, IsWithinLimits}

-- ---- targets

pub all_from : {A : Type 0} (t : A → Bool) (xs : List A) → ((x : A) → IsIn x xs → t x ≡ true) → list_all t xs ≡ true
all_from t [] each = refl
all_from t (x ∷ xs) each = ap (λ b. b && list_all t xs) (each x (inl refl)) ∙ all_from t xs (λ y h. each y (inr h))

one_known : (a : Option ModuleView) (b : Option CellView) → (is_none a && is_none b) ≡ false → (is_some a || is_some b) ≡ true
one_known (Some m) b e = refl
one_known None (Some c) e = refl
one_known None None e = absurd (true≢false e)

known : (s : Structure) → first_of (unknown_module s) ≡ None → knows_its_targets s ≡ true
known s none = all_from (λ (m : ModuleView). list_all (is_known s) m.instances) s.modules each
  where
    each : (m : ModuleView) → IsIn m s.modules → list_all (is_known s) m.instances ≡ true
    each m h = all_from (is_known s) m.instances (λ x g.
        let place : InstanceAt = record { parent = m; instance = x } in
        let there : IsIn place (all_instances s) = in-flat instances_of m place s.modules h (in-map (λ (i : InstanceView). record { parent = m; instance = i }) x m.instances g) in
        one_known (module_named s x.target) (cell_named s x.target) (no_fault (unknown_module s) none place there))

-- ---- the top

none_kept : {A : Type 0} (t : A → Bool) (xs : List A) → first t xs ≡ None → filter t xs ≡ []
none_kept t [] e = refl
none_kept t (x ∷ xs) e = by (t x) e (none_kept t xs)
  where
    by : (b : Bool) → (if b then Some x else first t xs) ≡ None → (first t xs ≡ None → filter t xs ≡ []) → (if b then x ∷ filter t xs else filter t xs) ≡ []
    by true h more = absurd cc
    by false h more = more h

not_false : (b : Bool) → not b ≡ false → b ≡ true
not_false true e = refl
not_false false e = absurd (true≢false e)

has_top : (s : Structure) → first_of (top_count s) ≡ None → is_some (module_at s []) ≡ true
has_top s none = by (first (λ (m : ModuleView). not (is_instantiated s m.name)) s.modules) refl
  where
    one : length (tops s) ≡ 1
    one = eqb-true (length (tops s)) 1 (not_false (length (tops s) == 1) (no_fault (top_count s) none (length (tops s)) (inl refl)))

    by : (o : Option ModuleView) → first (λ (m : ModuleView). not (is_instantiated s m.name)) s.modules ≡ o → is_some o ≡ true
    by (Some m) e = refl
    by None e =
        let nothing : length (tops s) ≡ 0 = ap length (none_kept (λ (m : ModuleView). not (is_instantiated s m.name)) s.modules e) in
        absurd (omega (arith, one, nothing))

-- ---- the whole

module _ (p : Project) (l : Lists) (switch_command : ℕ → ℕ) (read : IsRead p) (good : IsInsertable p l switch_command) (within : IsWithinLimits p l) where
  pub top : is_some (module_at p.structure []) ≡ true
  top = has_top p.structure good.one_top

  bits : DeclaresBits p.structure
  bits = declares p switch_command read good.values

  pub free : IsFree p
  free = record {
    names = no-fault (reserved_name p.structure) good.names;
    cells = within.free_cells;
    targets = targets-free p.structure (no-fault (reserved_name p.structure) good.names) within.free_cells (known p.structure good.targets) good.values.cells_fit;
    apart = read.netlist.names_apart;
    known = known p.structure good.targets;
    shallow = bits.shallow;
    few = few_instances p.structure read.netlist.names_apart good.not_recursive good.values.within_limits top;
  }

  pub ready : IsReady p l
  ready = record { free = free; top = top; bits = bits; controls = within.controls; names = within.origin_names; few = within.few }
