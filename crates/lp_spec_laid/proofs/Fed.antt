-- What is fed is what the layout feeds.
use Rattle.std.proofs.Common.{◌≡◌, ℕ, ◌+◌, List, [], ◌∷◌, ◌++◌, Option, Some, None, refl, ap}
use Rattle.std.specs.Prelude.{map, flat_map, slice_get}
use Rattle.lp_model.specs.declared.graph.EdgeKind.TheVariants.{Assign}
use Rattle.lp_model.specs.declared.library.Cell.{Cell}
use Rattle.lp_model.specs.LibraryView.{cell_view}
use Rattle.lp_spec_design.specs.Graph.{numbered}
use Rattle.lp_spec_layout.specs.Parts.{Statement, OfModule, OfCell, Template, statements_of, assigns_of}
use Rattle.lp_spec_layout.specs.Sites.{Site, Layout}
use Rattle.lp_spec_layout.specs.Feeds as layout
use Rattle.lp_layout.specs.Fed.{drives_of, statement_feeds, template_feeds, feeds_at, feeds}
use Rattle.lp_spec_laid.proofs.Named.{driving}

module _ (texts : List (List ℕ)) (cells : List Cell) where
  statement-fed : (x : Site) (z : Statement) → statement_feeds (map drives_of cells) x z ≡ layout.statement_feeds (map (cell_view texts) cells) x z
  statement-fed x (OfModule c) = refl
  statement-fed x (OfCell c) = ap (λ d. layout.row_feeds d x.start (x.leaf + c.before) c.row) (driving texts cells c.of)

  statements-fed : (x : Site) (zs : List Statement) → flat_map (statement_feeds (map drives_of cells) x) zs ≡ flat_map (layout.statement_feeds (map (cell_view texts) cells) x) zs
  statements-fed x [] = refl
  statements-fed x (z ∷ zs) = λ i. statement-fed x z i ++ statements-fed x zs i

  site-fed : (l : Layout) (x : Site) → feeds_at (map drives_of cells) l x ≡ layout.feeds_at (map (cell_view texts) cells) l x
  site-fed l x = ap (λ z. layout.input_feeds l x x.by ++ z) (by (slice_get l.templates x.of))
    where
      by : (o : Option Template) → template_feeds (map drives_of cells) x o ≡ flat_map (layout.statement_feeds (map (cell_view texts) cells) x) (statements_of o) ++ map (layout.joint_feed x.start x.start Assign) (assigns_of o)
      by None = refl
      by (Some t) = ap (λ z. z ++ map (layout.joint_feed x.start x.start Assign) t.assigns) (statements-fed x t.statements)

  sites-fed : (l : Layout) (xs : List Site) → flat_map (feeds_at (map drives_of cells) l) xs ≡ flat_map (layout.feeds_at (map (cell_view texts) cells) l) xs
  sites-fed l [] = refl
  sites-fed l (x ∷ xs) = λ i. site-fed l x i ++ sites-fed l xs i

  pub all_fed : (l : Layout) → feeds (map drives_of cells) l ≡ layout.feeds (map (cell_view texts) cells) l
  all_fed l = ap (λ z. z ++ map (layout.outer_feed l.inner) (numbered 0 l.ports)) (sites-fed l l.sites)
