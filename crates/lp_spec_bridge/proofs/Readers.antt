-- Readers by number are those by paths.
use Rattle.std.proofs.Common.{◌≡◌, ◌<◌, ◌+◌, ℕ, suc, List, [], ◌∷◌, ◌++◌, map, length, get_or, Option, Some, refl, sym, ap, ◌∙◌, arith}
use Rattle.std.specs.Prelude.{flat_map, slice_get}
use Rattle.std.proofs.lemmas.List.{map-append, length-map, get_or_default}
use Rattle.std.proofs.lemmas.Option.{slice_get_within}
use Rattle.lp_model.specs.declared.graph.EdgeFrom.{EdgeFrom}
use Rattle.lp_model.specs.declared.graph.Leaf.{Leaf}
use Rattle.lp_model.specs.LibraryView.{CellView}
use Rattle.lp_spec_design.specs.Netlists.{Structure, cell_at}
use Rattle.lp_spec_design.specs.Instances.{Placed}
use Rattle.lp_spec_design.specs.Graph.{numbered, pins_of}
use Rattle.lp_spec_bridge.specs.Tables.{Tables}
use Rattle.lp_spec_bridge.specs.Keyed.{Keyed, leaf_at}
use Rattle.lp_spec_bridge.specs.Represents.{Represents}
use Rattle.lp_spec_bridge.specs.Inputs.{inputs_by, input_key}
use Rattle.lp_spec_bridge.specs.Readers.{LeafPin, leaf_readers, reader_with_node}
use Rattle.lp_spec_bridge.proofs.Trails.{map-map}
use Rattle.lp_spec_bridge.proofs.Inputs.{inputs_key}
use Rattle.lp_spec_bridge.proofs.Passed.{cell_key}

pub map-flat : {A B C : Type 0} (f : B → C) (g : A → List B) (xs : List A) → map f (flat_map g xs) ≡ flat_map (λ x. map f (g x)) xs
map-flat f g [] = refl
map-flat f g (x ∷ xs) = map-append f (g x) (flat_map g xs) ∙ ap (λ r. map f (g x) ++ r) (map-flat f g xs)

module _ (s : Structure) (ks : Keyed) (t : Tables) (r : Represents s ks t) where
  -- one cell instance
  leaf-key : (k : ℕ) (l : Leaf) → slice_get t.leaves k ≡ Some l → map (reader_with_node s ks t) (leaf_readers s t (k, l)) ≡ pins_of s (leaf_at ks k)
  leaf-key k l e =
      map-map (reader_with_node s ks t) (λ (x : ℕ × EdgeFrom). (LeafPin k x.0, x.1)) (inputs_by s t l)
      ∙ ap (λ (c : Option CellView). map (input_key ks (leaf_at ks k) c) (inputs_by s t l)) (cell_key s ks t r k (within t.leaves e))
      ∙ inputs_key s ks t r k l e
    where
      within : (xs : List Leaf) → slice_get xs k ≡ Some l → k < length xs
      within xs g = slice_get_within xs k l g

  -- all of them, from one on
  leaves-from : (k : ℕ) (ls : List Leaf) (keyed : List Placed) → length ls ≡ length keyed → ((i : ℕ) (l : Leaf) → slice_get ls i ≡ Some l → slice_get t.leaves (k + i) ≡ Some l) → ((i : ℕ) (d : Placed) → i < length keyed → leaf_at ks (k + i) ≡ get_or keyed i d)
      → flat_map (λ z. map (reader_with_node s ks t) (leaf_readers s t z)) (numbered k ls) ≡ flat_map (pins_of s) keyed
  leaves-from k [] [] same rows keys = refl
  leaves-from k [] (a ∷ keyed) same rows keys = absurd (omega arith)
  leaves-from k (l ∷ ls) [] same rows keys = absurd (omega arith)
  leaves-from k (l ∷ ls) (a ∷ keyed) same rows keys =
      let place : k + 0 ≡ k = omega arith in
      let at : slice_get t.leaves k ≡ Some l = ap (slice_get t.leaves) (sym place) ∙ rows 0 l refl in
      let key : leaf_at ks k ≡ a = ap (leaf_at ks) (sym place) ∙ keys 0 a (omega arith) in
      ap (λ xs. xs ++ flat_map (λ z. map (reader_with_node s ks t) (leaf_readers s t z)) (numbered (k + 1) ls)) (leaf-key k l at ∙ ap (pins_of s) key)
      ∙ ap (λ xs. pins_of s a ++ xs)
      (leaves-from (k + 1) ls keyed (omega arith)
      (λ i x g. let next : (k + 1) + i ≡ k + suc i = omega arith in ap (slice_get t.leaves) next ∙ rows (suc i) x (slice_get-suc l ls i ∙ g))
      (λ i d low. let next : (k + 1) + i ≡ k + suc i = omega arith in ap (leaf_at ks) next ∙ keys (suc i) d (omega arith)))
    where
      slice_get-suc : (y : Leaf) (ys : List Leaf) (i : ℕ) → slice_get (y ∷ ys) (suc i) ≡ slice_get ys i
      slice_get-suc y ys i = refl

  pub leaves_read : map (reader_with_node s ks t) (flat_map (leaf_readers s t) (numbered 0 t.leaves)) ≡ flat_map (pins_of s) ks.leaves
  leaves_read =
      map-flat (reader_with_node s ks t) (leaf_readers s t) (numbered 0 t.leaves)
      ∙ leaves-from 0 t.leaves ks.leaves (sym (length-map t.leaves (λ (l : Leaf). slice_get s.cells l.cell.0)) ∙ ap (λ (xs : List (Option CellView)). length xs) r.cells ∙ length-map ks.leaves (λ (a : Placed). cell_at s a.path a.instance))
      (λ i l g. let place : 0 + i ≡ i = omega arith in ap (slice_get t.leaves) place ∙ g)
      (λ i d low. let place : 0 + i ≡ i = omega arith in ap (leaf_at ks) place ∙ get_or_default ks.leaves i (record { path = []; instance = [] }) d low)
