-- What is laid out from templates is driven by pins of cells, and held.
use Rattle.std.proofs.Common.{◌≡◌, ◌==◌, ℕ, Bool, true, false, List, [], ◌∷◌, length, Option, Some, inl, inr, refl, sym, ap, ◌∙◌, subst, arith}
use Rattle.std.specs.Prelude.{slice_get, if◌then◌else◌}
use Rattle.std.proofs.lemmas.Option.{slice_get_within}
use Rattle.lp_model.specs.declared.graph.Node.{Node as NodeRow}
use Rattle.lp_model.specs.declared.graph.Source.{Source as SourceRow}
use Rattle.lp_model.specs.declared.graph.Source.TheVariants.{Nothing, Leaf as OfLeaf}
use Rattle.lp_spec_design.specs.Keys.{Node, Way, Source}
use Rattle.lp_spec_design.specs.Netlists.{Structure, upward}
use Rattle.lp_spec_design.specs.Instances.{cell_instances}
use Rattle.lp_spec_design.specs.Nodes.{nodes_of}
use Rattle.lp_spec_design.specs.Winners.{IsIn}
use Rattle.lp_spec_design.proofs.Members.{in-map, of-map}
use Rattle.lp_spec_bridge.specs.Driven.{JoinsSingleBits}
use Rattle.lp_spec_bridge.specs.Edges.{drives_of}
use Rattle.lp_spec_bridge.specs.Kept.{AreDrives}
use Rattle.lp_spec_bridge.specs.Keyed.{keys_of, leaf_at}
use Rattle.lp_spec_bridge.specs.Names.{HasNamesApart}
use Rattle.lp_spec_bridge.specs.Noted.{DriveRow, noted_at, row_key, drive_key}
use Rattle.lp_spec_bridge.specs.Represents.{outputs_in, cell_of, source_key}
use Rattle.lp_spec_bridge.specs.Tables.{Tables}
use Rattle.lp_spec_bridge.proofs.Kept.{cells_kept}
use Rattle.lp_spec_layout.specs.Feeds.{drive_rows}
use Rattle.lp_spec_layout.specs.Laid.{name_of, IsLaidOut}
use Rattle.lp_spec_layout.specs.Laws.{HasCells}
use Rattle.lp_spec_layout.specs.Sites.{Layout, port_bits, IsSited}
use Rattle.lp_spec_layout.specs.Walked.{layout_of}
use Rattle.lp_spec_layout.proofs.Fed.{are_drives}
use Rattle.lp_spec_layout.proofs.Laid.{laid_elaborates}
use Rattle.lp_spec_layout.proofs.Walked.{walk_sites, leaf_rows_are}
use Rattle.lp_spec_realises.specs.Projects.{Project}
use Rattle.lp_spec_hub.specs.Spots.{nothing_done}
use Rattle.lp_spec_edits.specs.Net.{CellPins, net_of}
use Rattle.lp_spec_held.specs.Held.{spots_of, AreCells, Holds}
use Rattle.lp_spec_held.proofs.Begun.{entry-of, begun}
use Rattle.lp_spec_elaborated.specs.Elaborated.{HasSoundWires, DrivesByPins}
use Rattle.lp_spec_elaborated.proofs.Pins.{outputs-size}
use Rattle.lp_spec_elaborated.proofs.Sound.{sound-net}

-- what is noted is one of the rows
noted-in : (rows : List DriveRow) (k : ℕ) (y : SourceRow) → noted_at rows k ≡ y → (y ≡ Nothing → ⊥) → (x : DriveRow) × IsIn x rows × (x.1 ≡ y)
noted-in [] k y e some = absurd (some (sym e))
noted-in (x ∷ rows) k y e some = by (x.0 == k) refl (noted-in rows k y)
  where
    by : (b : Bool) → (x.0 == k) ≡ b → (noted_at rows k ≡ y → (y ≡ Nothing → ⊥) → (z : DriveRow) × IsIn z rows × (z.1 ≡ y)) → (z : DriveRow) × IsIn z (x ∷ rows) × (z.1 ≡ y)
    by true f more = (x, inl refl, sym (ap (λ b. if b then x.1 else noted_at rows k) f) ∙ e)
    by false f more = let found = more (sym (ap (λ b. if b then x.1 else noted_at rows k) f) ∙ e) some in (found.0, inr found.1, found.2)

module _ (texts : List (List ℕ)) (s : Structure) (t : Tables) (names : HasNamesApart s) (single : JoinsSingleBits s) (d : IsLaidOut texts s t) where
  abbrev layout : Layout
  layout = layout_of d.templates d.of (d.sized.size d.of).bits (port_bits d.top)

  sited : IsSited s layout
  sited = walk_sites s names d.templates d.resolved d.sized d.of d.top d.is_top d.has_top d.low

  cells : HasCells s t
  cells = cells_kept s t t.leaves (cell_instances s) (leaf_rows_are s names d.templates d.resolved d.sized d.of d.top d.is_top d.has_top t (name_of d.labels) d.low d.leaves d.pins)

  abbrev rows : List DriveRow
  rows = drive_rows s.cells layout

  drives : AreDrives s t rows
  drives = are_drives s t names single cells layout sited d.edges

  pub drives-by-pins : DrivesByPins s t
  drives-by-pins k l q x at is =
      let noted = entry-of (noted_at rows) (λ (x : NodeRow). x.source) (upward (length (nodes_of s)) 0) t.nodes k x (sym d.sources) at in
      let row = noted-in rows noted.0 (OfLeaf q (record { 0 = l })) (noted.2 ∙ is) (λ no_. cc) in
      let key = subst (IsIn (row_key s (keys_of s) t row.0)) drives.same (in-map (row_key s (keys_of s) t) row.0 rows row.1) in
      let drive = of-map drive_key (row_key s (keys_of s) t row.0) (drives_of s) key in
      let found : slice_get (outputs_in (leaf_at (keys_of s) l) (cell_of s t l)) q ≡ Some drive.0.1 = ap (source_key s (keys_of s) t) (sym row.2) ∙ ap (λ (z : Node × Option Source). z.1) drive.2 in
      let low = slice_get_within (outputs_in (leaf_at (keys_of s) l) (cell_of s t l)) q drive.0.1 found in
      let size = outputs-size (leaf_at (keys_of s) l) (cell_of s t l) in
      omega (arith, low, size)

pub held : (texts : List (List ℕ)) (p : Project) (from : Way → Node) (cells : List CellPins) (t : Tables) → IsLaidOut texts p.structure t → AreCells p.structure cells → HasSoundWires p.structure → Holds p from nothing_done (spots_of p.structure) (net_of cells t)
held texts p from cells t laid library sound =
    let elaborated = laid_elaborates texts p.structure t sound.names sound.bits laid in
    begun texts p from cells t elaborated library (sound-net texts p.structure cells t elaborated library sound (drives-by-pins texts p.structure t sound.names sound.bits laid))
