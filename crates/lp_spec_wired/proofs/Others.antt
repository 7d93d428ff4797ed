-- The names of supplies and of parts of control routes are apart from those of all other wires.
use Rattle.std.proofs.Common.{◌≡◌, ◌⊎◌, ◌<◌, ◌≤◌, ◌^◌, ℕ, ◌+◌, true, false, [], ◌∷◌, Option, Some, None, inl, inr, refl, sym, ◌∙◌, ap, subst, arith}
use Rattle.std.specs.Prelude.{bytes_eq, decimal, filter, length, slice_get}
use Rattle.std.proofs.lemmas.Bool.{both_ways}
use Rattle.std.proofs.lemmas.Fmt.{decimal_injective}
use Rattle.std.proofs.lemmas.Option.{slice_get_within}
use Rattle.lp_model.specs.NetlistView.{NetBit}
use Rattle.lp_spec_design.specs.Keys.{Name, Path, same_path, Node, Inner, Way}
use Rattle.lp_spec_design.specs.Reads.{name-self}
use Rattle.lp_spec_design.specs.Intents.{Origin, FromPort, FromSwitch}
use Rattle.lp_spec_design.specs.Winners.{IsIn}
use Rattle.lp_spec_faults.specs.Modules as modules
use Rattle.lp_spec_realises.specs.Projects.{Project, network_of, port_of_origin}
use Rattle.lp_spec_written.specs.Places.{instances, Standing, Switching}
use Rattle.lp_spec_written.specs.Nets.{Stretch, stretches, chain_net}
use Rattle.lp_spec_written.specs.Supplies.{switch_net, switch_of, bits_by_kind, origin_bits}
use Rattle.lp_spec_written.specs.Routes.{Part, has_part, control_net, parts_in}
use Rattle.lp_spec_written.specs.Written.{Additions}
use Rattle.lp_spec_hub.specs.Spots.{OfNode, Carried, Routed, on_way}
use Rattle.lp_spec_hub.specs.Drives.{part_at}
use Rattle.lp_spec_wired.specs.Names.{name_by, name_of_part, node_at, place_on}
use Rattle.lp_spec_wired.specs.Laws.{HasChains, HasOneBit, IsNoOther, ControlsAreApart, ControlsAreNoOthers, ControlsAreNotSupplies, SuppliesAreApart, SuppliesAreNoOthers}
use Rattle.lp_spec_wired.proofs.Added.{control-number}
use Rattle.lp_spec_wired.proofs.Lists.{at-numbered}
use Rattle.lp_spec_wired.proofs.Controls.{in-here, part-kind, found-part, filter-short}
use Rattle.lp_spec_wired.proofs.Chains.{is-of}
use Rattle.lp_spec_wired.proofs.Bits.{Renamed, Unnamed, node-by}
use Rattle.lp_spec_wired.proofs.Wires.{node_name, node_path, near_number, AsNet, AsPort, Own, own, name-is, lead-name, made-is, made_node}

-- ---- parts of control routes

-- its number in its instance is its name
pub part-name : (p : Project) (a : Additions) (t : Part) → has_part a.controls t ≡ true
    → (y : ℕ × Part) × IsIn y (parts_in a.controls t.path) × (y.1 ≡ t) × (name_by p a (Routed t) ≡ Inner (control_net y.0) None t.path)
part-name p a t h =
    let found = found-part a.controls t.control t.path t.kind h in
    let is = part-kind a.controls t.control t.path t.kind found.0 found.2 in
    let at = in-here a.controls t.control t.path found.0 found.1 in (
      found.0,
      found.1,
      ap (λ k. part_at k found.0.1.path found.0.1.kind) is.1 ∙ (ap (λ x. part_at t.control x found.0.1.kind) at.1 ∙ ap (part_at t.control t.path) is.0),
      ap (name_of_part t) found.3,
    )

module _ (a : Additions) (few : length a.controls < 2 ^ 64) (x : Path) where
  small : (z : ℕ × Part) → IsIn z (parts_in a.controls x) → z.0 < 2 ^ 64
  small z h =
      let inside = slice_get_within (filter (λ (t : Part). same_path t.path x) a.controls) z.0 z.1 (at-numbered (filter (λ (t : Part). same_path t.path x) a.controls) z h) in
      let short = filter-short (λ (t : Part). same_path t.path x) a.controls in
      omega (arith, inside, short, few)

  one-part : (y z : ℕ × Part) → IsIn y (parts_in a.controls x) → IsIn z (parts_in a.controls x) → y.0 ≡ z.0 → y.1 ≡ z.1
  one-part y z h g e =
      let same : Some y.1 ≡ Some z.1 = sym (at-numbered (filter (λ (t : Part). same_path t.path x) a.controls) y h)
      ∙ (ap (slice_get (filter (λ (t : Part). same_path t.path x) a.controls)) e ∙ at-numbered (filter (λ (t : Part). same_path t.path x) a.controls) z g) in
      cc

pub controls-apart : ControlsAreApart
controls-apart p a few t u h g same =
    let left = part-name p a t h in
    let right = part-name p a u g in
    let eq : Inner (control_net left.0.0) None t.path ≡ Inner (control_net right.0.0) None u.path = sym left.3 ∙ (same ∙ right.3) in
    let too : IsIn right.0 (parts_in a.controls t.path) = subst (λ x. IsIn right.0 (parts_in a.controls x)) (sym (ap node_path eq)) right.1 in
    let number = control-number left.0.0 right.0.0 (small a few t.path left.0 left.1) (small a few t.path right.0 too) (ap node_name eq) in
    sym left.2 ∙ (one-part a few t.path left.0 right.0 left.1 too number ∙ right.2)

-- ---- supplies

abbrev IsPort : Project → ℕ → Name → Option Origin → Type 0
IsPort p o n k = (k ≡ Some FromPort) × (n ≡ port_of_origin p o)

abbrev IsSwitch : Name → Option Switching → Type 0
IsSwitch n w = (s : Switching) × (w ≡ Some s) × (n ≡ switch_net s)

supply-kind : (p : Project) (o : ℕ) (n : Name) (k : Option Origin) (w : Option Switching) → bits_by_kind p o k w ≡ NetBit n ∷ [] → IsPort p o n k ⊎ IsSwitch n w
supply-kind p o n (Some FromPort) w e = let is : n ≡ port_of_origin p o = cc in inl (refl, is)
supply-kind p o n (Some (FromSwitch input control high)) (Some s) e = let is : n ≡ switch_net s = cc in inr (s, refl, is)
supply-kind p o n (Some (FromSwitch input control high)) None e = absurd cc
supply-kind p o n None w e = absurd cc

pub supply-name : (p : Project) (a : Additions) (o : ℕ) (n : Name) (x : Path) → origin_bits p a.plan o ≡ NetBit n ∷ [] → name_by p a (Carried o x) ≡ Inner n None x
supply-name p a o n x e = ap (node_at x) e

-- ---- names of no chain

abbrev IsAway : Name → Type 0
IsAway n = (modules.is_own n ≡ true) × ((k : ℕ) → bytes_eq n (chain_net k) ≡ false)

port-away : (p : Project) (o : ℕ) → IsAway (port_of_origin p o)
port-away p o = (refl, λ k. refl)

switch-away : (s : Switching) → IsAway (switch_net s)
switch-away s = (refl, λ k. refl)

control-away : (j : ℕ) → IsAway (control_net j)
control-away j = (refl, λ k. refl)

supply-away : (p : Project) (a : Additions) (o : ℕ) (n : Name) → origin_bits p a.plan o ≡ NetBit n ∷ [] → IsAway n
supply-away p a o n e = elim (supply-kind p o n (slice_get (network_of p).origins o) (switch_of a.plan o) e) [
  | inl is ↦ subst IsAway (sym is.1) (port-away p o)
  | inr is ↦ subst IsAway (sym is.2) (switch-away is.0)
]

no-chain : (n : Name) (k : ℕ) → IsAway n → n ≡ chain_net k → ⊥
no-chain n k away e = both_ways (bytes_eq n (chain_net k)) (away.1 k) (ap (λ m. bytes_eq m (chain_net k)) e ∙ name-self (chain_net k))

no-source : (m n : Name) → modules.is_own m ≡ false → IsAway n → m ≡ n → ⊥
no-source m n free away e = both_ways (modules.is_own m) free (ap modules.is_own e ∙ away.0)

module _ (p : Project) (a : Additions) (has : HasChains p a) (stand : (o : Standing) → IsIn o a.plan.operators → IsIn o.path (instances p)) (one_bit : HasOneBit p) (few : (s : Stretch) → IsIn s (stretches p a.plan) → s.start + s.count ≤ 2 ^ 64)
    (n : Name) (x : Path) (away : IsAway n) where
  source-by : (m : Name) (i : Option ℕ) (y : Path) → modules.is_own m ≡ false → Renamed p a has m i y (name_by p a (OfNode (Inner m i y))) ⊎ Unnamed p a has m i y (name_by p a (OfNode (Inner m i y)))
      → name_by p a (OfNode (Inner m i y)) ≡ Inner n None x → ⊥
  source-by m i y free (inl u) e = no-chain n (near_number u.s) away (ap node_name (sym e ∙ u.is))
  source-by m i y free (inr u) e = no-source m n free away (ap node_name (sym u.is ∙ e))

  made-by : (w : Way) (k : ℕ) (o : Standing) (its : Own p a has stand one_bit w k o) (node : Node) → AsNet p its.s (place_on (on_way a.plan.operators w) k o.path) node ⊎ AsPort its.s (place_on (on_way a.plan.operators w) k o.path) node
      → node ≡ Inner n None x → ⊥
  made-by w k o its node (inl v) e = no-chain n (its.s.start + v.net) away (ap node_name (sym e ∙ v.is))
  made-by w k o its node (inr v) e = no-source its.s.bit.port.name n (one_bit.free its.s.bit (is-of p a.plan its.s its.listed).0.bit) away (ap node_name (sym v.is ∙ e))

  pub no-other : IsNoOther p a (Inner n None x)
  no-other = record {
    source = λ m i y free e. source-by m i y free (node-by p a has m i y) e;
    made = λ w k o f e. made-by w k o (own p a has stand one_bit w k o f) (made_node p a has stand one_bit w k o f) (made-is p a has stand one_bit w k o f) (sym (name-is p a has stand one_bit w k o f (own p a has stand one_bit w k o f)) ∙ e);
    led = λ w o f leads e.
        let its = own p a has stand one_bit w 0 o f in
        no-chain n (its.s.start + 0) away (ap node_name (sym e ∙ (lead-name p a has stand one_bit few w w 0 o o f f leads its).1));
  }

pub supplies-no-others : SuppliesAreNoOthers
supplies-no-others p a has stand one_bit few o n e x = subst (IsNoOther p a) (sym (supply-name p a o n x e)) (no-other p a has stand one_bit few n x (supply-away p a o n e))

pub controls-no-others : ControlsAreNoOthers
controls-no-others p a has stand one_bit few t h =
    let found = part-name p a t h in
    subst (IsNoOther p a) (sym found.3) (no-other p a has stand one_bit few (control_net found.0.0) t.path (control-away found.0.0))

-- ---- supplies and controls

pub controls-not-supplies : ControlsAreNotSupplies
controls-not-supplies p a o n e x t h same =
    let found = part-name p a t h in
    let eq : Inner n None x ≡ Inner (control_net found.0.0) None t.path = sym (supply-name p a o n x e) ∙ (same ∙ found.3) in
    elim (supply-kind p o n (slice_get (network_of p).origins o) (switch_of a.plan o) e) [
      | inl is ↦ apart (port_of_origin p o) found.0.0 refl (sym is.1 ∙ ap node_name eq)
      | inr is ↦ apart (switch_net is.0) found.0.0 refl (sym is.2 ∙ ap node_name eq)
    ]
  where
    apart : (m : Name) (j : ℕ) → bytes_eq m (control_net j) ≡ false → m ≡ control_net j → ⊥
    apart m j none is = both_ways (bytes_eq m (control_net j)) none (ap (λ k. bytes_eq k (control_net j)) is ∙ name-self (control_net j))

-- ---- supplies among themselves

tail_of : (j k : ℕ) (a b c d e : ℕ) → (a ∷ b ∷ c ∷ d ∷ e ∷ decimal j) ≡ (a ∷ b ∷ c ∷ d ∷ e ∷ decimal k) → decimal j ≡ decimal k
tail_of j k a b c d e same = cc

switch-number : (s t : Switching) → s.number < 2 ^ 64 → t.number < 2 ^ 64 → switch_net s ≡ switch_net t → s.number ≡ t.number
switch-number s t small less same = decimal_injective s.number t.number small less (tail_of s.number t.number _ _ _ _ _ same)

mixed : (p : Project) (o : ℕ) (s : Switching) → port_of_origin p o ≡ switch_net s → ⊥
mixed p o s e = both_ways (bytes_eq (port_of_origin p o) (switch_net s)) refl (ap (λ k. bytes_eq k (switch_net s)) e ∙ name-self (switch_net s))

pub supplies-apart : SuppliesAreApart
supplies-apart p a has o r n m e f x y same = (
  by (supply-kind p o n (slice_get (network_of p).origins o) (switch_of a.plan o) e) (supply-kind p r m (slice_get (network_of p).origins r) (switch_of a.plan r) f),
  ap node_path eq,
)
  where
    eq : Inner n None x ≡ Inner m None y
    eq = sym (supply-name p a o n x e) ∙ (same ∙ supply-name p a r m y f)

    names : n ≡ m
    names = ap node_name eq

    by : IsPort p o n (slice_get (network_of p).origins o) ⊎ IsSwitch n (switch_of a.plan o) → IsPort p r m (slice_get (network_of p).origins r) ⊎ IsSwitch m (switch_of a.plan r) → o ≡ r
    by (inl u) (inl v) = has.ports o r u.0 v.0 (sym u.1 ∙ (names ∙ v.1))
    by (inl u) (inr v) = absurd (mixed p o v.0 (sym u.1 ∙ (names ∙ v.2)))
    by (inr u) (inl v) = absurd (mixed p r u.0 (sym v.1 ∙ (sym names ∙ u.2)))
    by (inr u) (inr v) = has.switches o r u.0 v.0 u.1 v.1 (switch-number u.0 v.0 (has.numbers o u.0 u.1) (has.numbers r v.0 v.1) (sym u.2 ∙ (names ∙ v.2)))
