-- No assign that is added drives a net of a chain, but the one of a constant's own net.
use Rattle.std.proofs.Common.{◌≡◌, ◌⊎◌, ◌≤◌, ◌^◌, map, ℕ, ◌+◌, Bool, true, false, List, [], ◌∷◌, ◌++◌, Option, Some, None, inl, inr, refl, sym, ◌∙◌, ap, subst, arith}
use Rattle.std.specs.Prelude.{flat_map}
use Rattle.lp_model.specs.NetlistView.{BitView, NetBit, SelectBit, ConstBit, AssignView}
use Rattle.lp_spec_design.specs.Keys.{Name, Path, same_path, Inner, Fixed, AssignBit, Source, From, same_node}
use Rattle.lp_spec_design.specs.Netlists.{node_of}
use Rattle.lp_spec_design.specs.Graph.{pairs, numbered, some_of, and_more, when, from_assign}
use Rattle.lp_spec_design.specs.Reads.{node-true, path-true}
use Rattle.lp_spec_design.specs.Winners.{IsIn}
use Rattle.lp_spec_design.proofs.Members.{in-either, of-some, of-when, of-numbered, of-filter, of-map, of-pairs}
use Rattle.lp_spec_written.specs.Nets.{is_inside, renamed, renamed_assign, Stretch, stretches, stretches_in, leads_constant, stood, chain_net, constant_assign}
use Rattle.lp_spec_written.specs.Routes.{control_net, control_bits, control_assign, control_assigns, is_led_out, parts_in}
use Rattle.lp_spec_wired.specs.Laws.{HasChains, HasNet, AddedAssignsDriveNoChain, IsFreeBit, SourceAssignsDriveNoChain}
use Rattle.lp_spec_wired.proofs.Intervals.{nets-apart}
use Rattle.lp_spec_wired.proofs.Bits.{count-some, near-low, near-high, Renamed, Unnamed, node-by}
use Rattle.lp_spec_wired.proofs.Wires.{node_name, near_number}
use Rattle.std.proofs.lemmas.Bool.{both_ways}
use Rattle.lp_spec_realises.specs.Projects.{Project}
use Rattle.lp_spec_written.specs.Written.{Additions}
use Rattle.lp_spec_faults.specs.Modules.{is_own}
use Rattle.lp_spec_hub.specs.Spots.{OfNode}
use Rattle.lp_spec_wired.specs.Names.{name_by}
use Rattle.lp_spec_wired.proofs.Added.{chain-own}
use Rattle.lp_spec_wired.proofs.Chains.{node-renamed}

flat-none : {A B : Type 0} (f : A → List B) (xs : List A) → ((x : A) → IsIn x xs → f x ≡ []) → flat_map f xs ≡ []
flat-none f [] none = refl
flat-none f (x ∷ xs) none = ap (λ l. l ++ flat_map f xs) (none x (inl refl)) ∙ flat-none f xs (λ y h. none y (inr h))

of-when-is : {A : Type 0} (b : Bool) (x y : A) → when b x ≡ Some y → y ≡ x
of-when-is true x y e = cc
of-when-is false x y e = absurd cc

-- an assign to another net drives none
other-left : (x : Path) (n c : Name) (z : ℕ × AssignView) → z.1.left ≡ NetBit c ∷ [] → same_node (Inner c None x) (Inner n None x) ≡ false → from_assign x n None z ≡ []
other-left x n c z e none = ap (λ l. some_of test (numbered 0 (pairs l z.1.right))) e ∙ by z.1.right
  where
    test : ℕ × (BitView × BitView) → Option Source
    test pair = when (same_node (node_of x pair.1.0) (Inner n None x)) (From (AssignBit x z.0 pair.0) (node_of x pair.1.1))

    by : (right : List BitView) → some_of test (numbered 0 (pairs (NetBit c ∷ []) right)) ≡ []
    by [] = refl
    by (r ∷ rest) = ap (λ b. and_more (when b (From (AssignBit x z.0 0) (node_of x r))) []) none

control-left : (x : Path) (j k : ℕ) → same_node (Inner (control_net j) None x) (Inner (chain_net k) None x) ≡ false
control-left x j k = refl

pub added-assigns : AddedAssignsDriveNoChain
added-assigns p a has few s h k net later j = flat-none (from_assign s.path (chain_net k) None) (numbered j (constants ++ controls)) each
  where
    constants : List AssignView
    constants = some_of (constant_assign p) (stretches_in a.chains s.path)

    controls : List AssignView
    controls = control_assigns a.chains a.controls s.path

    constant-left : (t : Stretch) → IsIn t (stretches p a.plan) → t.path ≡ s.path → leads_constant p.structure t.path t.bit ≡ true → same_node (Inner (chain_net t.start) None s.path) (Inner (chain_net k) None s.path) ≡ true → ⊥
    constant-left t g path leads e =
        let some = count-some p a has t g in
        let limit = few t g in
        let bound = few s h in
        let below = net.below in
        let found = nets-apart p a.plan t s g h path t.start k (record { above = omega arith; below = omega (arith, some) }) net (omega (arith, some, limit)) (omega (arith, below, bound)) (ap node_name (node-true (Inner (chain_net t.start) None s.path) (Inner (chain_net k) None s.path) e)) in
        let start : t.start ≡ s.start = ap (λ (v : Stretch). v.start) found.0 in
        let number = found.1 in
        let more = later (ap (λ (v : Stretch). leads_constant p.structure v.path v.bit) (sym found.0) ∙ leads) in
        omega (arith, start, number, more)

    not-true : (b : Bool) → (b ≡ true → ⊥) → b ≡ false
    not-true true f = absurd (f refl)
    not-true false f = refl

    each : (z : ℕ × AssignView) → IsIn z (numbered j (constants ++ controls)) → from_assign s.path (chain_net k) None z ≡ []
    each z g = elim (in-either z.1 constants controls (of-numbered j z (constants ++ controls) g)) [
      | inl l ↦
          let found = of-some (constant_assign p) z.1 (stretches_in a.chains s.path) l in
          let at = of-filter (λ (t : Stretch). same_path t.path s.path) found.0 a.chains found.1 in
          let leads = of-when (leads_constant p.structure found.0.path found.0.bit) (record { left = NetBit (chain_net found.0.start) ∷ []; right = stood p.structure found.0.bit }) z.1 found.2 in
          let is = of-when-is (leads_constant p.structure found.0.path found.0.bit) (record { left = NetBit (chain_net found.0.start) ∷ []; right = stood p.structure found.0.bit }) z.1 found.2 in
          other-left s.path (chain_net k) (chain_net found.0.start) z (ap (λ (v : AssignView). v.left) is)
          (not-true _ (constant-left found.0 (subst (λ c. IsIn found.0 c) has.chains at.0) (path-true found.0.path s.path at.1) leads))
      | inr r ↦
          let found = of-some (control_assign a.chains a.controls s.path) z.1 (parts_in a.controls s.path) r in
          let is = of-when-is (is_led_out a.controls s.path found.0.1) (record { left = NetBit (control_net found.0.0) ∷ []; right = control_bits a.chains a.controls s.path found.0.1.control }) z.1 found.2 in
          other-left s.path (chain_net k) (control_net found.0.0) z (ap (λ (v : AssignView). v.left) is) (control-left s.path found.0.0 k)
    ]

-- ---- assigns of the source

some-none : {A B : Type 0} (f : A → Option B) (xs : List A) → ((x : A) → IsIn x xs → f x ≡ None) → some_of f xs ≡ []
some-none f [] none = refl
some-none f (x ∷ xs) none = ap (λ o. and_more o (some_of f xs)) (none x (inl refl)) ∙ some-none f xs (λ y h. none y (inr h))

module _ (p : Project) (a : Additions) (has : HasChains p a) (few : (s : Stretch) → IsIn s (stretches p a.plan) → s.start + s.count ≤ 2 ^ 64)
    (s : Stretch) (h : IsIn s (stretches p a.plan)) (k : ℕ) (net : HasNet s k) (off : is_inside s.path s.bit ≡ true → k ≡ near_number s → ⊥) where
  node-other : (n : Name) (i : Option ℕ) → is_own n ≡ false → name_by p a (OfNode (Inner n i s.path)) ≡ Inner (chain_net k) None s.path → ⊥
  node-other n i free e = by (node-by p a has n i s.path)
    where
      by : Renamed p a has n i s.path (name_by p a (OfNode (Inner n i s.path))) ⊎ Unnamed p a has n i s.path (name_by p a (OfNode (Inner n i s.path))) → ⊥
      by (inr u) = both_ways (is_own n) free (ap is_own (ap node_name (sym u.is ∙ e)) ∙ chain-own k)
      by (inl u) =
          let low = near-high u.s (count-some p a has u.s u.listed) in
          let limit = few u.s u.listed in
          let bound = few s h in
          let below = net.below in
          let found = nets-apart p a.plan u.s s u.listed h u.path (near_number u.s) k
          (record { above = near-low u.s (count-some p a has u.s u.listed); below = low }) net (omega (arith, low, limit)) (omega (arith, below, bound)) (ap node_name (sym u.is ∙ e)) in
          off (ap (λ (v : Stretch). is_inside v.path v.bit) (sym found.0) ∙ u.within) (sym found.1 ∙ ap near_number found.0)

  bit-other : (b : BitView) → IsFreeBit b → node_of s.path (renamed a.chains s.path b) ≡ Inner (chain_net k) None s.path → ⊥
  bit-other (NetBit n) free e = node-other n None free (node-renamed a.chains s.path (NetBit n) ∙ e)
  bit-other (SelectBit n i) free e = node-other n (Some i) free (node-renamed a.chains s.path (SelectBit n i) ∙ e)
  bit-other (ConstBit c) free e = let is : Fixed c ≡ Inner (chain_net k) None s.path = node-renamed a.chains s.path (ConstBit c) ∙ e in absurd cc

  is-false : (b : Bool) → (b ≡ true → ⊥) → b ≡ false
  is-false true f = absurd (f refl)
  is-false false f = refl

  pub source-assigns : (qs : List AssignView) → ((q : AssignView) (b : BitView) → IsIn q qs → IsIn b q.left → IsFreeBit b) → (j : ℕ) → flat_map (from_assign s.path (chain_net k) None) (numbered j (map (renamed_assign a.chains s.path) qs)) ≡ []
  source-assigns qs free j = flat-none (from_assign s.path (chain_net k) None) (numbered j (map (renamed_assign a.chains s.path) qs)) (λ z g.
      let of = of-map (renamed_assign a.chains s.path) z.1 qs (of-numbered j z (map (renamed_assign a.chains s.path) qs) g) in
      some-none _ (numbered 0 (pairs z.1.left z.1.right)) (λ pair t.
      let two = of-pairs pair.1 z.1.left z.1.right (of-numbered 0 pair (pairs z.1.left z.1.right) t) in
      let bit = of-map (renamed a.chains s.path) pair.1.0 of.0.left (subst (λ l. IsIn pair.1.0 l) (ap (λ (v : AssignView). v.left) of.2) two.0) in
      ap (λ b. when b (From (AssignBit s.path z.0 pair.0) (node_of s.path pair.1.1)))
      (is-false _ (λ e. bit-other bit.0 (free of.0 bit.0 of.1 bit.1) (sym (ap (node_of s.path) bit.2) ∙ node-true (node_of s.path pair.1.0) (Inner (chain_net k) None s.path) e)))))

pub source-assigns-other : SourceAssignsDriveNoChain
source-assigns-other p a has few s h k net off m e free j = source-assigns p a has few s h k net off m.assigns free j
