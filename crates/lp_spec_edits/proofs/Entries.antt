-- What an edit of one entry leaves at each number.
use Rattle.std.proofs.Common.{◌≡◌, ◌⊎◌, ◌<◌, ℕ, zero, suc, List, [], ◌∷◌, ◌++◌, map, length, get_or, Some, None, inl, inr, refl, sym, ap, ◌∙◌, arith}
use Rattle.std.specs.Prelude.{slice_get, option_and_then}
use Rattle.std.proofs.lemmas.List.{length-map, map-append, get_or_past}
use Rattle.lp_model.specs.declared.graph.Edge.{Edge as EdgeRow}
use Rattle.lp_model.specs.declared.graph.EdgeFrom.{EdgeFrom}
use Rattle.lp_model.specs.declared.graph.Node.{Node as NodeRow}
use Rattle.lp_model.specs.declared.graph.NodeName.{NodeName}
use Rattle.lp_model.specs.declared.graph.PinNet.{PinNet}
use Rattle.lp_model.specs.declared.graph.PinNet.TheVariants.{Unconnected}
use Rattle.lp_model.specs.declared.graph.Source.{Source as SourceRow}
use Rattle.lp_model.specs.declared.graph.Source.TheVariants.{Nothing}
use Rattle.lp_spec_edits.specs.Net.{Net, source_at, edge_at, pin_at}
use Rattle.lp_spec_edits.specs.Edits.{changed, driven, pinned, led_from, led_to, with_node, with_edge, named}
use Rattle.lp_spec_edits.proofs.Wires.{put, put_pin, put-at, put-other, pin-at as put_pin-at, pin-other as put_pin-other, pin-or, same-or}

-- ---- lists

module _ {A : Type 0} (f : A → A) where
  pub length-changed : (k : ℕ) (xs : List A) → length (changed f k xs) ≡ length xs
  length-changed k [] = refl
  length-changed zero (x ∷ xs) = refl
  length-changed (suc k) (x ∷ xs) = ap suc (length-changed k xs)

  pub changed-at : (k : ℕ) (xs : List A) (d : A) → k < length xs → get_or (changed f k xs) k d ≡ f (get_or xs k d)
  changed-at k [] d h = absurd (omega (arith, h))
  changed-at zero (x ∷ xs) d h = refl
  changed-at (suc k) (x ∷ xs) d h = changed-at k xs d (omega (arith, h))

  pub changed-other : (j k : ℕ) (xs : List A) (d : A) → (j ≡ k → ⊥) → get_or (changed f k xs) j d ≡ get_or xs j d
  changed-other j k [] d ne = refl
  changed-other zero zero (x ∷ xs) d ne = absurd (ne refl)
  changed-other zero (suc k) (x ∷ xs) d ne = refl
  changed-other (suc j) zero (x ∷ xs) d ne = refl
  changed-other (suc j) (suc k) (x ∷ xs) d ne = changed-other j k xs d (λ e. ne (ap suc e))

  pub found-at : (k : ℕ) (xs : List A) → slice_get (changed f k xs) k ≡ option_and_then (λ x. Some (f x)) (slice_get xs k)
  found-at k [] = refl
  found-at zero (x ∷ xs) = refl
  found-at (suc k) (x ∷ xs) = found-at k xs

  pub found-other : (j k : ℕ) (xs : List A) → (j ≡ k → ⊥) → slice_get (changed f k xs) j ≡ slice_get xs j
  found-other j k [] ne = refl
  found-other zero zero (x ∷ xs) ne = absurd (ne refl)
  found-other zero (suc k) (x ∷ xs) ne = refl
  found-other (suc j) zero (x ∷ xs) ne = refl
  found-other (suc j) (suc k) (x ∷ xs) ne = found-other j k xs (λ e. ne (ap suc e))

pub map-changed : {A B : Type 0} (g : A → B) (f : A → A) (h : B → B) → ((x : A) → g (f x) ≡ h (g x)) → (k : ℕ) (xs : List A) → map g (changed f k xs) ≡ changed h k (map g xs)
map-changed g f h same k [] = refl
map-changed g f h same zero (x ∷ xs) = ap (λ y. y ∷ map g xs) (same x)
map-changed g f h same (suc k) (x ∷ xs) = ap (λ ys. g x ∷ ys) (map-changed g f h same k xs)

pub changed-none : {A : Type 0} (k : ℕ) (xs : List A) → changed (λ x. x) k xs ≡ xs
changed-none k [] = refl
changed-none zero (x ∷ xs) = refl
changed-none (suc k) (x ∷ xs) = ap (λ ys. x ∷ ys) (changed-none k xs)

module _ {A : Type 0} (x : A) where
  pub more-at : (xs : List A) (d : A) → get_or (xs ++ (x ∷ [])) (length xs) d ≡ x
  more-at [] d = refl
  more-at (y ∷ xs) d = more-at xs d

  pub more-other : (j : ℕ) (xs : List A) (d : A) → (j ≡ length xs → ⊥) → get_or (xs ++ (x ∷ [])) j d ≡ get_or xs j d
  more-other zero [] d ne = absurd (ne refl)
  more-other (suc j) [] d ne = refl
  more-other zero (y ∷ xs) d ne = refl
  more-other (suc j) (y ∷ xs) d ne = more-other j xs d (λ e. ne (ap suc e))

  pub found-more : (xs : List A) → slice_get (xs ++ (x ∷ [])) (length xs) ≡ Some x
  found-more [] = refl
  found-more (y ∷ xs) = found-more xs

  pub found-before : (j : ℕ) (xs : List A) → (j ≡ length xs → ⊥) → slice_get (xs ++ (x ∷ [])) j ≡ slice_get xs j
  found-before zero [] ne = absurd (ne refl)
  found-before (suc j) [] ne = refl
  found-before zero (y ∷ xs) ne = refl
  found-before (suc j) (y ∷ xs) ne = found-before j xs (λ e. ne (ap suc e))

  pub one-more : (xs : List A) → length (xs ++ (x ∷ [])) ≡ suc (length xs)
  one-more [] = refl
  one-more (y ∷ xs) = ap suc (one-more xs)

pub none-past-end : {A : Type 0} (xs : List A) → slice_get xs (length xs) ≡ None
none-past-end [] = refl
none-past-end (x ∷ xs) = none-past-end xs

-- ---- what drives nodes

abbrev sources : Net → List SourceRow
sources n = map (λ (x : NodeRow). x.source) n.nodes

module _ (n : Net) where
  pub source-driven : (k : ℕ) (y : SourceRow) → k < length n.nodes → source_at (driven k y n) ≡ put k y (source_at n)
  source-driven k y low = λ i j. by j (same-or j k) i
    where
      rows : map (λ (x : NodeRow). x.source) (changed (λ (x : NodeRow). record x { source = y }) k n.nodes) ≡ changed (λ (x : SourceRow). y) k (sources n)
      rows = map-changed (λ (x : NodeRow). x.source) (λ (x : NodeRow). record x { source = y }) (λ (x : SourceRow). y) (λ x. refl) k n.nodes

      by : (j : ℕ) → (j ≡ k) ⊎ (j ≡ k → ⊥) → source_at (driven k y n) j ≡ put k y (source_at n) j
      by j (inl e) =
          ap (λ xs. get_or xs j Nothing) rows
          ∙ (ap (λ i. get_or (changed (λ (x : SourceRow). y) k (sources n)) i Nothing) e
          ∙ (changed-at (λ (x : SourceRow). y) k (sources n) Nothing (omega (arith, low, length-map n.nodes (λ (x : NodeRow). x.source)))
          ∙ sym (put-at k y (source_at n) j e)))
      by j (inr ne) = ap (λ xs. get_or xs j Nothing) rows ∙ (changed-other (λ (x : SourceRow). y) j k (sources n) Nothing ne ∙ sym (put-other k y (source_at n) j ne))

  pub count-driven : (k : ℕ) (y : SourceRow) → length (driven k y n).nodes ≡ length n.nodes
  count-driven k y = length-changed (λ (x : NodeRow). record x { source = y }) k n.nodes

  pub source-named : (k : ℕ) (name : NodeName) (number : ℕ) → source_at (named k name number n) ≡ source_at n
  source-named k name number =
      λ i j. get_or ((map-changed (λ (x : NodeRow). x.source) (λ (x : NodeRow). record x { name = name }) (λ (x : SourceRow). x) (λ x. refl) k n.nodes ∙ changed-none k (sources n)) i) j Nothing

  pub count-named : (k : ℕ) (name : NodeName) (number : ℕ) → length (named k name number n).nodes ≡ length n.nodes
  count-named k name number = length-changed (λ (x : NodeRow). record x { name = name }) k n.nodes

  pub source-with : (x : NodeRow) (number : ℕ) → source_at (with_node x number n) ≡ put (length n.nodes) x.source (source_at n)
  source-with x number = λ i j. by j (same-or j (length n.nodes)) i
    where
      size : length (sources n) ≡ length n.nodes
      size = length-map n.nodes (λ (y : NodeRow). y.source)

      rows : map (λ (y : NodeRow). y.source) (n.nodes ++ (x ∷ [])) ≡ sources n ++ (x.source ∷ [])
      rows = map-append (λ (y : NodeRow). y.source) n.nodes (x ∷ [])

      by : (j : ℕ) → (j ≡ length n.nodes) ⊎ (j ≡ length n.nodes → ⊥) → source_at (with_node x number n) j ≡ put (length n.nodes) x.source (source_at n) j
      by j (inl e) = ap (λ xs. get_or xs j Nothing) rows ∙ (ap (λ i. get_or (sources n ++ (x.source ∷ [])) i Nothing) (e ∙ sym size) ∙ (more-at x.source (sources n) Nothing ∙ sym (put-at (length n.nodes) x.source (source_at n) j e)))
      by j (inr ne) = ap (λ xs. get_or xs j Nothing) rows ∙ (more-other x.source j (sources n) Nothing (λ e. ne (e ∙ size)) ∙ sym (put-other (length n.nodes) x.source (source_at n) j ne))

  -- nothing drives a node past the end
  pub source-past : source_at n (length n.nodes) ≡ Nothing
  source-past = get_or_past (sources n) (length n.nodes) Nothing (omega (arith, length-map n.nodes (λ (y : NodeRow). y.source)))

  -- ---- edges

  pub edge-with : (x : EdgeRow) → edge_at (with_edge x n) ≡ put (length n.edges) (Some x) (edge_at n)
  edge-with x = λ i j. by j (same-or j (length n.edges)) i
    where
      by : (j : ℕ) → (j ≡ length n.edges) ⊎ (j ≡ length n.edges → ⊥) → edge_at (with_edge x n) j ≡ put (length n.edges) (Some x) (edge_at n) j
      by j (inl e) = ap (slice_get (n.edges ++ (x ∷ []))) e ∙ (found-more x n.edges ∙ sym (put-at (length n.edges) (Some x) (edge_at n) j e))
      by j (inr ne) = found-before x j n.edges ne ∙ sym (put-other (length n.edges) (Some x) (edge_at n) j ne)

  pub edge-past : edge_at n (length n.edges) ≡ None
  edge-past = none-past-end n.edges

  edge-changed : (f : EdgeRow → EdgeRow) (e : ℕ) (x : EdgeRow) → edge_at n e ≡ Some x → (j : ℕ) → slice_get (changed f e n.edges) j ≡ put e (Some (f x)) (edge_at n) j
  edge-changed f e x there j = by (same-or j e)
    where
      by : (j ≡ e) ⊎ (j ≡ e → ⊥) → slice_get (changed f e n.edges) j ≡ put e (Some (f x)) (edge_at n) j
      by (inl is) = ap (slice_get (changed f e n.edges)) is ∙ (found-at f e n.edges ∙ (ap (option_and_then (λ (y : EdgeRow). Some (f y))) there ∙ sym (put-at e (Some (f x)) (edge_at n) j is)))
      by (inr ne) = found-other f j e n.edges ne ∙ sym (put-other e (Some (f x)) (edge_at n) j ne)

  pub edge-from : (e : ℕ) (y : EdgeFrom) (x : EdgeRow) → edge_at n e ≡ Some x → edge_at (led_from e y n) ≡ put e (Some (record x { from = y })) (edge_at n)
  edge-from e y x there = λ i j. edge-changed (λ (u : EdgeRow). record u { from = y }) e x there j i

  pub edge-to : (e k : ℕ) (x : EdgeRow) → edge_at n e ≡ Some x → edge_at (led_to e k n) ≡ put e (Some (record x { to = record { 0 = k } })) (edge_at n)
  edge-to e k x there = λ i j. edge-changed (λ (u : EdgeRow). record u { to = record { 0 = k } }) e x there j i

  -- ---- pins

  pub pin-pinned : (l q : ℕ) (y : PinNet) → l < length n.rows → q < length (get_or n.rows l []) → pin_at (pinned l q y n) ≡ put_pin l q y (pin_at n)
  pin-pinned l q y hl hq = λ i m r. by m r (pin-or l q y (pin_at n) m r) i
    where
      inner : List PinNet → List PinNet
      inner row = changed (λ (x : PinNet). y) q row

      by : (m r : ℕ) → ((m ≡ l) × (r ≡ q)) ⊎ ((m ≡ l) × (r ≡ q) → ⊥) → pin_at (pinned l q y n) m r ≡ put_pin l q y (pin_at n) m r
      by m r (inl e) =
          ap (λ i. get_or (get_or (changed (changed (λ (x : PinNet). y) q) l n.rows) i []) r Unconnected) e.0
          ∙ (ap (λ row. get_or row r Unconnected) (changed-at (changed (λ (x : PinNet). y) q) l n.rows [] hl)
          ∙ (ap (λ i. get_or (changed (λ (x : PinNet). y) q (get_or n.rows l [])) i Unconnected) e.1
          ∙ (changed-at (λ (x : PinNet). y) q (get_or n.rows l []) Unconnected hq ∙ sym (put_pin-at l q y (pin_at n) m r e.0 e.1))))
      by m r (inr ne) = rest (same-or m l) ∙ sym (put_pin-other l q y (pin_at n) m r ne)
        where
          rest : (m ≡ l) ⊎ (m ≡ l → ⊥) → pin_at (pinned l q y n) m r ≡ pin_at n m r
          rest (inl e) =
              ap (λ i. get_or (get_or (changed (changed (λ (x : PinNet). y) q) l n.rows) i []) r Unconnected) e
              ∙ (ap (λ row. get_or row r Unconnected) (changed-at (changed (λ (x : PinNet). y) q) l n.rows [] hl)
              ∙ (changed-other (λ (x : PinNet). y) r q (get_or n.rows l []) Unconnected (λ g. ne (e, g))
              ∙ ap (λ i. get_or (get_or n.rows i []) r Unconnected) (sym e)))
          rest (inr other) = ap (λ row. get_or row r Unconnected) (changed-other (changed (λ (x : PinNet). y) q) m l n.rows [] other)

  pub rows-pinned : (l q : ℕ) (y : PinNet) → length (pinned l q y n).rows ≡ length n.rows
  rows-pinned l q y = length-changed (changed (λ (x : PinNet). y) q) l n.rows
