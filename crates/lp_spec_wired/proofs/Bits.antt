-- The names of net bits of the source are apart, and none is that of an operator's wire.
use Rattle.std.proofs.Common.{◌≡◌, ◌⊎◌, ◌<◌, ◌≤◌, ◌^◌, ℕ, zero, suc, ◌+◌, ◌-◌, Bool, true, false, not, ◌==◌, List, Option, Some, None, inl, inr, refl, sym, ◌∙◌, ap, arith}
use Rattle.std.specs.Prelude.{bytes_eq, slice_get, if◌then◌else◌}
use Rattle.std.proofs.lemmas.Bool.{both_ways, not-true, true≢false, eq-eqb}
use Rattle.lp_spec_design.specs.Keys.{Name, Path, same_path, Node, Inner, Way}
use Rattle.lp_spec_design.specs.Netlists.{first, node_of, is_input}
use Rattle.lp_spec_design.specs.Reads.{name-self, path-true, path-self, one, other, both}
use Rattle.lp_spec_design.specs.Winners.{IsIn}
use Rattle.lp_spec_design.proofs.Sources.{first_in}
use Rattle.lp_spec_realises.specs.Projects.{Project}
use Rattle.lp_spec_faults.specs.Modules as modules
use Rattle.lp_spec_written.specs.Places.{instances, Standing}
use Rattle.lp_spec_written.specs.Nets.{Stretch, stretches, leads_constant, is_inside, same_bit, bit_of, is_own, or_near, chain_net}
use Rattle.lp_spec_written.specs.Written.{Additions}
use Rattle.lp_spec_hub.specs.Spots.{OfNode, Lead, on_way, own_spot}
use Rattle.lp_spec_wired.specs.Names.{place_on, name_by}
use Rattle.lp_spec_wired.specs.Laws.{HasChains, HasOneBit, NodesAreApart, NodesAreNotLed, NodesAreNotMade}
use Rattle.lp_spec_wired.proofs.Added.{chain-own}
use Rattle.lp_spec_wired.proofs.Lists.{first-there}
use Rattle.lp_spec_wired.proofs.Intervals.{nets-apart}
use Rattle.lp_spec_wired.proofs.Chains.{is-of}
use Rattle.lp_spec_wired.proofs.Kept.{bit-true, own-node}
use Rattle.lp_spec_wired.proofs.Wires.{node_name, node_index, node_path, near_number, AsNet, AsPort, Own, own, name-is, lead-name, made-is, made_node}

bit-self : (n : Name) (i : Option ℕ) → same_bit (bit_of n i) (bit_of n i) ≡ true
bit-self n None = name-self n
bit-self n (Some i) = both (i == i) (bytes_eq n n) (eq-eqb i i refl) (name-self n)

positive : (n : ℕ) → (n == 0) ≡ false → 0 < n
positive zero e = absurd (true≢false e)
positive (suc n) e = omega arith

pub near-low : (s : Stretch) → 0 < s.count → s.start ≤ near_number s
near-low s h = by (is_input s.bit.port)
  where
    by : (b : Bool) → s.start ≤ (if b then (s.start + s.count) - 1 else s.start)
    by true = omega (arith, h)
    by false = omega arith

pub near-high : (s : Stretch) → 0 < s.count → near_number s < s.start + s.count
near-high s h = by (is_input s.bit.port)
  where
    by : (b : Bool) → (if b then (s.start + s.count) - 1 else s.start) < s.start + s.count
    by true = omega (arith, h)
    by false = omega (arith, h)

module _ (p : Project) (a : Additions) (has : HasChains p a) where
  abbrev chains : List Stretch
  chains = stretches p a.plan

  -- a net bit that is renamed, by a stretch inside the port's instance
  pub record Renamed (n : Name) (i : Option ℕ) (x : Path) (k : Node) : Type 0 where
    pub s : Stretch
    pub listed : IsIn s chains
    pub within : is_inside s.path s.bit ≡ true
    pub path : s.path ≡ x
    pub name : s.bit.port.name ≡ n
    pub index : s.bit.index ≡ i
    pub is : k ≡ Inner (chain_net (near_number s)) None x

  pub record Unnamed (n : Name) (i : Option ℕ) (x : Path) (k : Node) : Type 0 where
    pub none : (s : Stretch) → IsIn s chains → is_own x (bit_of n i) s ≡ true → ⊥
    pub is : k ≡ Inner n i x

  pub node-by : (n : Name) (i : Option ℕ) (x : Path) → Renamed n i x (name_by p a (OfNode (Inner n i x))) ⊎ Unnamed n i x (name_by p a (OfNode (Inner n i x)))
  node-by n i x = by (first (is_own x (bit_of n i)) chains) refl
    where
      named : (o : Option Stretch) → first (is_own x (bit_of n i)) chains ≡ o → name_by p a (OfNode (Inner n i x)) ≡ node_of x (or_near (bit_of n i) o)
      named o e = ap (λ l. node_of x (or_near (bit_of n i) (first (is_own x (bit_of n i)) l))) has.chains ∙ ap (λ r. node_of x (or_near (bit_of n i) r)) e

      by : (o : Option Stretch) → first (is_own x (bit_of n i)) chains ≡ o → Renamed n i x (name_by p a (OfNode (Inner n i x))) ⊎ Unnamed n i x (name_by p a (OfNode (Inner n i x)))
      by None e = inr (record {
        none = λ s h t. let found = first-there (is_own x (bit_of n i)) chains s h t in let both_are : Some found.0 ≡ None = sym found.3 ∙ e in absurd cc;
        is = named None e ∙ own-node n i x;
      })
      by (Some s) e =
          let found = first_in (is_own x (bit_of n i)) chains s e in
          let rest = other (is_inside s.path s.bit) _ found.1 in
          let bits = bit-true s.bit.port.name n s.bit.index i (other (same_path s.path x) _ rest) in
          inl (record {
            s = s;
            listed = found.0;
            within = one (is_inside s.path s.bit) _ found.1;
            path = path-true s.path x (one (same_path s.path x) _ rest);
            name = bits.0;
            index = bits.1;
            is = named (Some s) e;
          })

  pub count-some : (s : Stretch) → IsIn s chains → 0 < s.count
  count-some s h = positive s.count (is-of p a.plan s h).1

  -- a free name is no net's
  free-net : (n : Name) (i : Option ℕ) (x y : Path) (j : ℕ) → modules.is_own n ≡ false → Inner n i x ≡ Inner (chain_net j) None y → ⊥
  free-net n i x y j free e =
      let names : n ≡ chain_net j = ap node_name e in
      both_ways (modules.is_own n) free (ap modules.is_own names ∙ chain-own j)

  module _ (few : (s : Stretch) → IsIn s chains → s.start + s.count ≤ 2 ^ 64) where
    nodes-apart : (n m : Name) (i j : Option ℕ) (x y : Path) → modules.is_own n ≡ false → modules.is_own m ≡ false
        → name_by p a (OfNode (Inner n i x)) ≡ name_by p a (OfNode (Inner m j y)) → Inner n i x ≡ Inner m j y
    nodes-apart n m i j x y free free_too e = by (node-by n i x) (node-by m j y)
      where
        by : Renamed n i x (name_by p a (OfNode (Inner n i x))) ⊎ Unnamed n i x (name_by p a (OfNode (Inner n i x)))
            → Renamed m j y (name_by p a (OfNode (Inner m j y))) ⊎ Unnamed m j y (name_by p a (OfNode (Inner m j y))) → Inner n i x ≡ Inner m j y
        by (inr u) (inr v) = sym u.is ∙ (e ∙ v.is)
        by (inl u) (inr v) = absurd (free-net m j y x (near_number u.s) free_too (sym v.is ∙ (sym e ∙ u.is)))
        by (inr u) (inl v) = absurd (free-net n i x y (near_number v.s) free (sym u.is ∙ (e ∙ v.is)))
        by (inl u) (inl v) =
            let eq : Inner (chain_net (near_number u.s)) None x ≡ Inner (chain_net (near_number v.s)) None y = sym u.is ∙ (e ∙ v.is) in
            let paths : x ≡ y = ap node_path eq in
            let low = near-high u.s (count-some u.s u.listed) in
            let high = near-high v.s (count-some v.s v.listed) in
            let limit = few u.s u.listed in
            let bound = few v.s v.listed in
            let found = nets-apart p a.plan u.s v.s u.listed v.listed (u.path ∙ (paths ∙ sym v.path)) (near_number u.s) (near_number v.s)
            (record { above = near-low u.s (count-some u.s u.listed); below = low }) (record { above = near-low v.s (count-some v.s v.listed); below = high })
            (omega (arith, low, limit)) (omega (arith, high, bound)) (ap node_name eq) in
            ap (λ k. Inner k i x) (sym u.name ∙ (ap (λ (s : Stretch). s.bit.port.name) found.0 ∙ v.name))
            ∙ (ap (λ k. Inner m k x) (sym u.index ∙ (ap (λ (s : Stretch). s.bit.index) found.0 ∙ v.index))
            ∙ ap (Inner m j) paths)

    module _ (stand : (o : Standing) → IsIn o a.plan.operators → IsIn o.path (instances p)) (one_bit : HasOneBit p) where
      not-made : (n : Name) (i : Option ℕ) (x : Path) → modules.is_own n ≡ false → (w : Way) (k : ℕ) (o : Standing) → slice_get (on_way a.plan.operators w) k ≡ Some o
          → name_by p a (OfNode (Inner n i x)) ≡ name_by p a (own_spot w k o) → ⊥
      not-made n i x free w k o e same = by (own p a has stand one_bit w k o e) (made_node p a has stand one_bit w k o e) (name-is p a has stand one_bit w k o e (own p a has stand one_bit w k o e)) (node-by n i x) (made-is p a has stand one_bit w k o e)
        where
          by : (its : Own p a has stand one_bit w k o) (node : Node) → name_by p a (own_spot w k o) ≡ node → Renamed n i x (name_by p a (OfNode (Inner n i x))) ⊎ Unnamed n i x (name_by p a (OfNode (Inner n i x)))
              → AsNet p its.s (place_on (on_way a.plan.operators w) k o.path) node ⊎ AsPort its.s (place_on (on_way a.plan.operators w) k o.path) node → ⊥
          by its node made (inl u) (inl v) =
              let eq : Inner (chain_net (near_number u.s)) None x ≡ Inner (chain_net (its.s.start + v.net)) None its.s.path = sym u.is ∙ (same ∙ (made ∙ v.is)) in
              let low = near-high u.s (count-some u.s u.listed) in
              let limit = few u.s u.listed in
              let bound = few its.s its.listed in
              let less = v.less in
              let found = nets-apart p a.plan u.s its.s u.listed its.listed (u.path ∙ ap node_path eq) (near_number u.s) (its.s.start + v.net)
              (record { above = near-low u.s (count-some u.s u.listed); below = low }) (record { above = omega arith; below = omega (arith, less) })
              (omega (arith, low, limit)) (omega (arith, less, bound)) (ap node_name eq) in
              v.off (ap (λ (s : Stretch). is_inside s.path s.bit) (sym found.0) ∙ u.within) (sym found.1 ∙ ap near_number found.0)
          by its node made (inl u) (inr v) =
              let eq : Inner (chain_net (near_number u.s)) None x ≡ Inner its.s.bit.port.name its.s.bit.index its.s.path = sym u.is ∙ (same ∙ (made ∙ v.is)) in
              free-net its.s.bit.port.name its.s.bit.index its.s.path x (near_number u.s) (one_bit.free its.s.bit (is-of p a.plan its.s its.listed).0.bit) (sym eq)
          by its node made (inr u) (inl v) = free-net n i x its.s.path (its.s.start + v.net) free (sym u.is ∙ (same ∙ (made ∙ v.is)))
          by its node made (inr u) (inr v) =
              let eq : Inner n i x ≡ Inner its.s.bit.port.name its.s.bit.index its.s.path = sym u.is ∙ (same ∙ (made ∙ v.is)) in
              u.none its.s its.listed (both (is_inside its.s.path its.s.bit) _ v.within (both (same_path its.s.path x) _ (ap (same_path its.s.path) (ap node_path eq) ∙ path-self its.s.path)
              (ap (λ m. same_bit (bit_of its.s.bit.port.name its.s.bit.index) (bit_of m i)) (ap node_name eq)
              ∙ (ap (λ j. same_bit (bit_of its.s.bit.port.name its.s.bit.index) (bit_of its.s.bit.port.name j)) (ap node_index eq)
              ∙ bit-self its.s.bit.port.name its.s.bit.index))))

module _ (p : Project) (a : Additions) (has : HasChains p a) (stand : (o : Standing) → IsIn o a.plan.operators → IsIn o.path (instances p)) (one_bit : HasOneBit p) (few : (s : Stretch) → IsIn s (stretches p a.plan) → s.start + s.count ≤ 2 ^ 64)
    (n : Name) (i : Option ℕ) (x : Path) (free : modules.is_own n ≡ false) (w : Way) (o : Standing) (e : slice_get (on_way a.plan.operators w) 0 ≡ Some o) (leads : leads_constant p.structure o.path o.asked.bit ≡ true) where
  led-by : (its : Own p a has stand one_bit w 0 o) → Renamed p a has n i x (name_by p a (OfNode (Inner n i x))) ⊎ Unnamed p a has n i x (name_by p a (OfNode (Inner n i x))) → name_by p a (OfNode (Inner n i x)) ≡ name_by p a (Lead w) → ⊥
  led-by its (inr u) same = free-net p a has n i x its.s.path (its.s.start + 0) free (sym u.is ∙ (same ∙ (lead-name p a has stand one_bit few w w 0 o o e e leads its).1))
  led-by its (inl u) same =
      let name = lead-name p a has stand one_bit few w w 0 o o e e leads its in
      let eq : Inner (chain_net (near_number u.s)) None x ≡ Inner (chain_net (its.s.start + 0)) None its.s.path = sym u.is ∙ (same ∙ name.1) in
      let low = near-high u.s (count-some p a has u.s u.listed) in
      let some = name.0 in
      let limit = few u.s u.listed in
      let bound = few its.s its.listed in
      let found = nets-apart p a.plan u.s its.s u.listed its.listed (u.path ∙ ap node_path eq) (near_number u.s) (its.s.start + 0)
      (record { above = near-low u.s (count-some p a has u.s u.listed); below = low }) (record { above = omega arith; below = omega (arith, some) })
      (omega (arith, low, limit)) (omega (arith, some, bound)) (ap node_name eq) in
      let constant : leads_constant p.structure its.s.path its.s.bit ≡ true = ap (leads_constant p.structure its.s.path) (sym its.bit_is) ∙ (ap (λ y. leads_constant p.structure y o.asked.bit) its.path_is ∙ leads) in
      let outside : is_inside its.s.path its.s.bit ≡ false = not-true _ (one (not (is_inside its.s.path its.s.bit)) _ (other (is_input its.s.bit.port) _ constant)) in
      both_ways (is_inside its.s.path its.s.bit) outside (ap (λ (s : Stretch). is_inside s.path s.bit) (sym found.0) ∙ u.within)

pub node-names-not-led : NodesAreNotLed
node-names-not-led p a has stand one_bit few n i x free w o e leads same = led-by p a has stand one_bit few n i x free w o e leads (own p a has stand one_bit w 0 o e) (node-by p a has n i x) same

pub node-names-apart : NodesAreApart
node-names-apart p a has few n m i j x y free free_too e = nodes-apart p a has few n m i j x y free free_too e

pub node-names-not-made : NodesAreNotMade
node-names-not-made p a has stand one_bit few n i x free w k o e same = not-made p a has few stand one_bit n i x free w k o e same
