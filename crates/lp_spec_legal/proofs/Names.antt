-- Names that are added, and those of the source and of cells, are legal.
use Rattle.std.proofs.Common.{◌≡◌, ℕ, true, [], ◌∷◌, ◌++◌, map, Option, Some, None, inl, inr, refl, ap, ◌∙◌}
use Rattle.std.specs.Prelude.{codes, decimal, slice_get}
use Rattle.std.specs.List.{list_all}
use Rattle.std.proofs.lemmas.Bool.{false≢true, and_parts, and_from}
use Rattle.std.proofs.lemmas.List.Folds.{list_all-append}
use Rattle.lp_text.specs.Texts.{distinct}
use Rattle.lp_model.specs.LibraryView.{CellView}
use Rattle.lp_model.specs.NetlistView.{ModuleView}
use Rattle.lp_model.specs.declared.reason.Reason.{Reason}
use Rattle.lp_verilog_tokens.specs.Lexical.{is_visible}
use Rattle.lp_vwrite.specs.Layout.{declared}
use Rattle.lp_vwrite.specs.WellFormed.{is_name, is_net, is_assign, names_of}
use Rattle.lp_vwrite.specs.Sound.{is_read_instance, is_read_module}
use Rattle.lp_spec_design.specs.Keys.{Name, Path}
use Rattle.lp_spec_design.specs.Intents.{FromPort}
use Rattle.lp_spec_design.specs.Winners.{IsIn}
use Rattle.lp_spec_fit.specs.Fits.{is_usable}
use Rattle.lp_spec_realises.specs.Projects.{Project, network_of, port_of_origin}
use Rattle.lp_spec_written.specs.Places.{instance_number, with_number}
use Rattle.lp_spec_written.specs.Written.{module_name}
use Rattle.lp_spec_written_at.specs.Sources.{IsListed, origin_name, cell_names}
use Rattle.lp_spec_written_at.proofs.Lists.{of-all}
use Rattle.lp_spec_legal.specs.Legal.{has_legal_names, IsLegal}
use Rattle.lp_spec_legal.proofs.Digits.{decimal-visible}

-- what follows a name with visible bytes is part of a name
pub followed-legal : (start more : Name) → is_name start ≡ true → list_all is_visible more ≡ true → is_name (start ++ more) ≡ true
followed-legal [] more h g = absurd (false≢true h)
followed-legal (b ∷ start) more h g = list_all-append is_visible (b ∷ start) more ∙ and_from (list_all is_visible (b ∷ start)) (list_all is_visible more) h g

name-visible : (n : Name) → is_name n ≡ true → list_all is_visible n ≡ true
name-visible [] h = refl
name-visible (b ∷ n) h = h

-- an added name
pub numbered-legal : (start : Name) (k : ℕ) → is_name start ≡ true → is_name (with_number start k) ≡ true
numbered-legal start k h = followed-legal start (decimal k) h (decimal-visible k)

-- the name of a module instance's module
pub module-legal : (p : Project) (x : Path) (n : Name) → is_name n ≡ true → is_name (module_name p x n) ≡ true
module-legal p [] n h = h
module-legal p (i ∷ x) n h =
    followed-legal (with_number (codes "lp_") (instance_number p (i ∷ x))) (codes "_" ++ n) (numbered-legal (codes "lp_") (instance_number p (i ∷ x)) refl) (name-visible n h)

-- the port of a supply port
pub origin-legal : (p : Project) → IsLegal p → (o : ℕ) → slice_get (network_of p).origins o ≡ Some FromPort → is_name (port_of_origin p o) ≡ true
origin-legal p legal o h = followed-legal (codes "lp_v_") (origin_name p o) refl (legal.origins o h)

-- a cell that is added, and its pins
names-legal : (p : Project) → IsLegal p → (c : CellView) → IsListed p c → has_legal_names c ≡ true
names-legal p legal c h = legal.cells c h.listed (by c.unusable h.usable)
  where
    by : (o : Option Reason) → is_usable (record c { unusable = o }) ≡ true → o ≡ None
    by None e = refl
    by (Some r) e = absurd (false≢true e)

cell-legal : (p : Project) → IsLegal p → (c : CellView) → IsListed p c → is_name c.name ≡ true
cell-legal p legal c h = (and_parts (is_name c.name) (list_all is_name (cell_names c)) (names-legal p legal c h)).0

pub cell-names-legal : (p : Project) → IsLegal p → (c : CellView) → IsListed p c → (t : Name) → IsIn t (c.name ∷ cell_names c) → is_name t ≡ true
cell-names-legal p legal c h t (inl is) = ap is_name is ∙ cell-legal p legal c h
cell-names-legal p legal c h t (inr g) = of-all is_name t (cell_names c) (and_parts (is_name c.name) (list_all is_name (cell_names c)) (names-legal p legal c h)).1 g

-- a module of the source
pub module-read : (p : Project) → IsLegal p → (m : ModuleView) → IsIn m p.structure.modules → is_read_module m ≡ true
module-read p legal m h =
    of-all is_read_module m p.structure.modules (and_parts (distinct (map (λ (k : ModuleView). k.name) p.structure.modules)) (list_all is_read_module p.structure.modules) legal.netlist).1 h

-- what is told of it
pub record ReadParts (m : ModuleView) : Type 0 where
  pub name : is_name m.name ≡ true
  pub nets : list_all is_net (declared m) ≡ true
  pub instances : list_all (is_read_instance (declared m)) m.instances ≡ true
  pub assigns : list_all (is_assign (declared m)) m.assigns ≡ true

pub read-parts : (p : Project) → IsLegal p → (m : ModuleView) → IsIn m p.structure.modules → ReadParts m
read-parts p legal m h =
    let name = and_parts (is_name m.name) _ (module-read p legal m h) in
    let nets = and_parts (list_all is_net (declared m)) _ name.1 in
    let names = and_parts (distinct (names_of m)) _ nets.1 in
    let items = and_parts (list_all (is_read_instance (declared m)) m.instances) (list_all (is_assign (declared m)) m.assigns) names.1 in
    record { name = name.0; nets = nets.0; instances = items.0; assigns = items.1 }
