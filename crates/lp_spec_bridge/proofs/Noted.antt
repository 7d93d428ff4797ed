-- What is noted by number is what drives a node by its path.
use Rattle.std.proofs.Common.{◌≡◌, ◌<◌, ℕ, Bool, true, false, ◌==◌, List, [], ◌∷◌, map, length, Option, Some, None, refl, sym, ap, ◌∙◌}
use Rattle.std.specs.Prelude.{filter, nat_lt, if◌then◌else◌}
use Rattle.std.specs.List.{list_all}
use Rattle.std.proofs.lemmas.Bool.{ltb-true}
use Rattle.lp_spec_design.specs.Keys.{Fixed, Source, same_node}
use Rattle.lp_spec_design.specs.Netlists.{Structure}
use Rattle.lp_spec_design.specs.Graph.{sources_of, source_of}
use Rattle.lp_spec_design.specs.Nodes.{nodes_of}
use Rattle.lp_spec_design.specs.Reads.{one, other, node-true, node-self}
use Rattle.lp_spec_design.proofs.Looped.{head_of, source_by}
use Rattle.lp_spec_bridge.specs.Tables.{Tables}
use Rattle.lp_spec_bridge.specs.Edges.{Drive, drives_of, drivers_among}
use Rattle.lp_spec_bridge.specs.Keyed.{Keyed, IsApart, keys_of, node_at}
use Rattle.lp_spec_bridge.specs.Represents.{source_key}
use Rattle.lp_spec_bridge.specs.Names.{HasNamesApart}
use Rattle.lp_spec_bridge.specs.Driven.{JoinsSingleBits}
use Rattle.lp_spec_bridge.specs.Noted.{DriveRow, noted_at, row_key, drive_key}
use Rattle.lp_spec_bridge.proofs.Apart.{in-at, same-places}
use Rattle.lp_spec_bridge.proofs.Driven.{drivers_listed}
use Rattle.lp_spec_bridge.proofs.Distinct.{instances_apart, nodes_apart}

module _ (s : Structure) (ks : Keyed) (t : Tables) (apart : IsApart ks.nodes) (k : ℕ) (low : k < length ks.nodes) where
  rows-drivers : (rows : List DriveRow) (drives : List Drive) → map (row_key s ks t) rows ≡ map drive_key drives → list_all (λ (x : DriveRow). nat_lt x.0 (length ks.nodes)) rows ≡ true
      → map (λ (x : DriveRow). source_key s ks t x.1) (filter (λ (x : DriveRow). x.0 == k) rows) ≡ map (λ x. Some x) (drivers_among (node_at ks k) drives)
  rows-drivers [] [] same h = refl
  rows-drivers [] (d ∷ drives) same h = absurd cc
  rows-drivers (x ∷ rows) [] same h = absurd cc
  rows-drivers (x ∷ rows) (d ∷ drives) same h =
      let here : row_key s ks t x ≡ drive_key d = cc in
      let rest : map (row_key s ks t) rows ≡ map drive_key drives = cc in
      let node : node_at ks x.0 ≡ d.0 = ap (λ z. z.0) here in
      let source : source_key s ks t x.1 ≡ Some d.1 = ap (λ z. z.1) here in
      let in_range : x.0 < length ks.nodes = ltb-true x.0 (length ks.nodes) (one (nat_lt x.0 (length ks.nodes)) (list_all (λ (y : DriveRow). nat_lt y.0 (length ks.nodes)) rows) h) in
      let test : same_node d.0 (node_at ks k) ≡ (x.0 == k) = ap (λ z. same_node z (node_at ks k)) (sym node) ∙ same-places same_node node-true node-self ks.nodes x.0 k (Fixed false) apart in_range low in
      by (x.0 == k) source (rows-drivers rows drives rest (other (nat_lt x.0 (length ks.nodes)) (list_all (λ (y : DriveRow). nat_lt y.0 (length ks.nodes)) rows) h))
      ∙ ap (λ b. map (λ z. Some z) (map (λ (z : Drive). z.1) (if b then d ∷ filter (λ (z : Drive). same_node z.0 (node_at ks k)) drives else filter (λ (z : Drive). same_node z.0 (node_at ks k)) drives))) (sym test)
    where
      by : (b : Bool) → source_key s ks t x.1 ≡ Some d.1
          → map (λ (z : DriveRow). source_key s ks t z.1) (filter (λ (z : DriveRow). z.0 == k) rows) ≡ map (λ z. Some z) (drivers_among (node_at ks k) drives)
          → map (λ (z : DriveRow). source_key s ks t z.1) (if b then x ∷ filter (λ (z : DriveRow). z.0 == k) rows else filter (λ (z : DriveRow). z.0 == k) rows)
          ≡ map (λ z. Some z) (map (λ (z : Drive). z.1) (if b then d ∷ filter (λ (z : Drive). same_node z.0 (node_at ks k)) drives else filter (λ (z : Drive). same_node z.0 (node_at ks k)) drives))
      by true source more = ap (λ y. y ∷ map (λ (z : DriveRow). source_key s ks t z.1) (filter (λ (z : DriveRow). z.0 == k) rows)) source ∙ ap (λ r. Some d.1 ∷ r) more
      by false source more = more

  -- the first of some keys, none where there is none
  first-key : List (Option Source) → Option Source
  first-key [] = None
  first-key (x ∷ xs) = x

  first-some : (xs : List Source) → first-key (map (λ x. Some x) xs) ≡ head_of xs
  unfolding first-key
  first-some [] = refl
  first-some (x ∷ xs) = refl

  noted-first : (rows : List DriveRow) → source_key s ks t (noted_at rows k) ≡ first-key (map (λ (x : DriveRow). source_key s ks t x.1) (filter (λ (x : DriveRow). x.0 == k) rows))
  unfolding first-key
  noted-first [] = refl
  noted-first (x ∷ rows) = by (x.0 == k) (noted-first rows)
    where
      by : (b : Bool) → source_key s ks t (noted_at rows k) ≡ first-key (map (λ (z : DriveRow). source_key s ks t z.1) (filter (λ (z : DriveRow). z.0 == k) rows))
          → source_key s ks t (if b then x.1 else noted_at rows k) ≡ first-key (map (λ (z : DriveRow). source_key s ks t z.1) (if b then x ∷ filter (λ (z : DriveRow). z.0 == k) rows else filter (λ (z : DriveRow). z.0 == k) rows))
      by true more = refl
      by false more = more

pub all_noted : (s : Structure) (t : Tables) (rows : List DriveRow) → HasNamesApart s → JoinsSingleBits s → map (row_key s (keys_of s) t) rows ≡ map drive_key (drives_of s) → list_all (λ (x : DriveRow). nat_lt x.0 (length (nodes_of s))) rows ≡ true
    → (k : ℕ) → k < length (nodes_of s) → map (λ (x : DriveRow). source_key s (keys_of s) t x.1) (filter (λ (x : DriveRow). x.0 == k) rows) ≡ map (λ x. Some x) (sources_of s (node_at (keys_of s) k))
all_noted s t rows names single same h k low =
    rows-drivers s (keys_of s) t (nodes_apart s names) k low rows (drives_of s) same h
    ∙ ap (map (λ x. Some x)) (drivers_listed s single (instances_apart s names) (node_at (keys_of s) k) (in-at (nodes_of s) k (Fixed false) low))

pub first_noted : (s : Structure) (t : Tables) (rows : List DriveRow) → HasNamesApart s → JoinsSingleBits s → map (row_key s (keys_of s) t) rows ≡ map drive_key (drives_of s) → list_all (λ (x : DriveRow). nat_lt x.0 (length (nodes_of s))) rows ≡ true
    → (k : ℕ) → k < length (nodes_of s) → source_key s (keys_of s) t (noted_at rows k) ≡ source_of s (node_at (keys_of s) k)
first_noted s t rows names single same h k low =
    noted-first s (keys_of s) t (nodes_apart s names) k low rows
    ∙ ap (first-key s (keys_of s) t (nodes_apart s names) k low) (all_noted s t rows names single same h k low)
    ∙ first-some s (keys_of s) t (nodes_apart s names) k low (sources_of s (node_at (keys_of s) k))
    ∙ sym (source_by s (node_at (keys_of s) k) (sources_of s (node_at (keys_of s) k)) refl)
