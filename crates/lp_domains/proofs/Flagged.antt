-- An edge is one of a boundary instance's port exactly where its way is that of a boundary bit.
use Rattle.std.proofs.Common.{◌≡◌, ◌<◌, ℕ, Bool, true, false, ◌&&◌, List, [], ◌∷◌, map, length, get_or, Option, Some, None, inl, inr, refl, sym, ap, ◌∙◌, subst, arith}
use Rattle.std.specs.Prelude.{filter, is_some, slice_get, if◌then◌else◌}
use Rattle.std.proofs.lemmas.Bool.{true≢false}
use Rattle.std.proofs.lemmas.Option.{slice_get_within, slice_get-get_or, get_or_from_slice_get}
use Rattle.lp_model.specs.NetlistView.{PortView, ModuleView}
use Rattle.lp_spec_design.specs.Keys.{Name, Path, Inner, Fixed, Way, PortBit, AssignBit, same_way}
use Rattle.lp_spec_design.specs.Netlists.{Structure, first, module_at, indices}
use Rattle.lp_spec_design.specs.Instances.{module_instances}
use Rattle.lp_spec_design.specs.Intents.{Intent}
use Rattle.lp_spec_design.specs.Domains.{BoundaryBit, way_of, bits_of, is_boundary, boundary}
use Rattle.lp_spec_design.specs.Chains.{bit_of_way}
use Rattle.lp_spec_design.specs.Nodes.{inner_nodes}
use Rattle.lp_spec_design.specs.Winners.{IsIn}
use Rattle.lp_spec_design.specs.Reads.{both}
use Rattle.lp_spec_design.proofs.Members.{in-map, of-map, of-flat, of-filter, any-in}
use Rattle.lp_spec_design.proofs.Sources.{first_in}
use Rattle.lp_spec_bridge.specs.Tables.{Tables}
use Rattle.lp_spec_bridge.specs.Keyed.{keys_of, way_at}
use Rattle.lp_spec_bridge.specs.Elaborates.{Elaborates}
use Rattle.lp_spec_bridge.specs.Names.{HasNamesApart}
use Rattle.lp_spec_bridge.proofs.Apart.{in-at, way-true, way-self}
use Rattle.lp_domains.specs.Domains.{is_boundary_way, has_edge}
use Rattle.lp_domains.specs.Boundary.{inner_end}
use Rattle.lp_domains.proofs.Ends.{way_bit}
use Rattle.lp_domains.proofs.Ordered.{bit_way, bits_list, bits-are, in-order}
use Rattle.lp_domains.proofs.Joints.{nothing, in-index, inner-at, inner-low, node-here, of-image}

-- ---- lists

pub in-filter : {A : Type 0} (p : A → Bool) (a : A) (xs : List A) → IsIn a xs → p a ≡ true → IsIn a (filter p xs)
in-filter p a [] h e = absurd h
in-filter p a (x ∷ xs) (inl is) e = subst (λ b. IsIn a (if b then x ∷ filter p xs else filter p xs)) (sym (ap p (sym is) ∙ e)) (inl is)
in-filter p a (x ∷ xs) (inr h) e = by (p x) (in-filter p a xs h e)
  where
    by : (b : Bool) → IsIn a (filter p xs) → IsIn a (if b then x ∷ filter p xs else filter p xs)
    by true more = inr more
    by false more = more

first-there : {A : Type 0} (p : A → Bool) (a : A) (xs : List A) → IsIn a xs → p a ≡ true → is_some (first p xs) ≡ true
first-there p a [] h e = absurd h
first-there p a (x ∷ xs) (inl is) e = ap (λ b. is_some (if b then Some x else first p xs)) (ap p (sym is) ∙ e)
first-there p a (x ∷ xs) (inr h) e = by (p x) (first-there p a xs h e)
  where
    by : (b : Bool) → is_some (first p xs) ≡ true → is_some (if b then Some x else first p xs) ≡ true
    by true more = refl
    by false more = more

-- ---- boundary bits

module _ (s : Structure) (i : Intent) where
  pub listed-path : (p : Path) (o : Option ModuleView) (b : BoundaryBit) → IsIn b (bits_list p o) → b.path ≡ p
  listed-path p None b h = absurd h
  listed-path p (Some m) b h =
      let x = of-flat (λ (x : PortView). map (λ k. record { path = p; port = x; index = k }) (indices x.range)) b m.ports h in
      let k = of-map (λ k. record { path = p; port = x.0; index = k }) b (indices x.0.range) x.2 in
      ap (λ (c : BoundaryBit). c.path) k.2

  -- a boundary bit is one of a boundary instance
  pub bit-path : (b : BoundaryBit) → IsIn b (boundary s i) → is_boundary i b.path ≡ true
  bit-path b h =
      let p = of-flat (bits_of s) b (filter (is_boundary i) (module_instances s)) h in
      let path = listed-path p.0 (module_at s p.0) b (subst (λ xs. IsIn b xs) (bits-are s p.0 (module_at s p.0) refl) p.2) in
      ap (is_boundary i) path ∙ (of-filter (is_boundary i) p.0 (module_instances s) p.1).1

  -- no other way is that of one
  no-bit : (w : Way) → is_boundary_way i w ≡ false → is_some (bit_of_way s i w) ≡ false
  no-bit w off = by (bit_of_way s i w) refl
    where
      by : (o : Option BoundaryBit) → bit_of_way s i w ≡ o → is_some o ≡ false
      by None e = refl
      by (Some b) e =
          let found = first_in (λ (c : BoundaryBit). same_way (way_of c) w) (boundary s i) b e in
          absurd (true≢false (sym (bit-path b found.0) ∙ ap (is_boundary_way i) (way-true (way_of b) w found.1) ∙ off))

module _ (texts : List (List ℕ)) (s : Structure) (t : Tables) (e : Elaborates texts s t) (apart : HasNamesApart s) (i : Intent) where
  -- the net bit inside of an edge's port is there
  bit-there : (m : ℕ) (p : Path) (n : Name) (j : Option ℕ) → m < length t.edges → way_at (keys_of s) m ≡ PortBit p n j → IsIn (Inner n j p) (inner_nodes s)
  unfolding way_bit
  bit-there m p n j low way =
      let there : slice_get t.edges m ≡ Some (get_or t.edges m nothing) = slice_get-get_or t.edges m nothing low in
      let end = of-image texts s t e apart i (inner_end (get_or t.edges m nothing)) (Inner n j p) (inner-at texts s t e apart i m (get_or t.edges m nothing) there ∙ ap way_bit way) in
      let place = inner-low texts s t e apart i end.0.0 n j p end.2 in
      subst (λ x. IsIn x (inner_nodes s)) (node-here texts s t e apart i end.0.0 place ∙ end.2) (in-at (inner_nodes s) end.0.0 (Fixed false) place)

  bit-of-edge : (m : ℕ) (w : Way) → m < length t.edges → way_at (keys_of s) m ≡ w → is_boundary_way i w ≡ true → is_some (bit_of_way s i w) ≡ true
  unfolding bit_way
  bit-of-edge m (AssignBit p a k) low way on = absurd cc
  bit-of-edge m (PortBit p n j) low way on =
      let ways = (keys_of s).ways in
      let place : m < length ways = omega (arith, low, e.represents.ways) in
      let there : IsIn (PortBit p n j) (keys_of s).ways = subst (λ w. IsIn w (keys_of s).ways) way (in-at (keys_of s).ways m (AssignBit [] 0 0) place) in
      let has : has_edge s (PortBit p n j) ≡ true = any-in (same_way (PortBit p n j)) (PortBit p n j) (keys_of s).ways there (way-self (PortBit p n j)) in
      let asked = λ (w : Way). is_boundary_way i w && has_edge s w in
      let bit : IsIn (PortBit p n j) (map bit_way (inner_nodes s)) = in-map bit_way (Inner n j p) (inner_nodes s) (bit-there m p n j low way) in
      let kept = in-filter asked (PortBit p n j) (map bit_way (inner_nodes s)) bit (both (is_boundary i p) (has_edge s (PortBit p n j)) on has) in
      let moved = subst (λ xs. IsIn (PortBit p n j) xs) (in-order s apart i) kept in
      let b = of-map way_of (PortBit p n j) (boundary s i) (of-filter (has_edge s) (PortBit p n j) (map way_of (boundary s i)) moved).0 in
      first-there (λ (c : BoundaryBit). same_way (way_of c) (PortBit p n j)) b.0 (boundary s i) b.1 (ap (λ v. same_way v (PortBit p n j)) (sym b.2) ∙ way-self (PortBit p n j))

  pub is-bit : (w : Way) → IsIn w (keys_of s).ways → is_boundary_way i w ≡ is_some (bit_of_way s i w)
  is-bit w h = by (is_boundary_way i w) refl
    where
      by : (b : Bool) → is_boundary_way i w ≡ b → b ≡ is_some (bit_of_way s i w)
      by false off = sym (no-bit s i w off)
      by true on =
          let m = in-index w (keys_of s).ways h in
          let low = slice_get_within (keys_of s).ways m.0 w m.1 in
          sym (bit-of-edge m.0 w (omega (arith, low, e.represents.ways)) (get_or_from_slice_get (keys_of s).ways m.0 w (AssignBit [] 0 0) m.1) on)
