-- No added port has the name of a net of a chain.
use Rattle.std.proofs.Common.{◌≡◌, ℕ, Bool, true, false, ◌&&◌, List, [], ◌++◌, Some, None, cond, inl, inr, refl, sym, ◌∙◌, ap, ◌∷◌}
use Rattle.std.specs.Prelude.{bytes_eq, filter, flat_map, if◌then◌else◌}
use Rattle.lp_model.specs.declared.netlist.Direction.TheVariants.{Input, Output}
use Rattle.lp_model.specs.NetlistView.{PortView, ModuleView}
use Rattle.lp_spec_design.specs.Keys.{Path}
use Rattle.lp_spec_design.specs.Netlists.{module_at, is_input}
use Rattle.lp_spec_design.specs.Graph.{numbered, when, from_port}
use Rattle.lp_spec_design.specs.Intents.{Origin, FromPort, FromSwitch}
use Rattle.lp_spec_design.specs.Winners.{IsIn}
use Rattle.lp_spec_design.proofs.Members.{in-either, of-some}
use Rattle.lp_spec_design.proofs.Sources.{then_is}
use Rattle.lp_spec_realises.specs.Projects.{Project, network_of, port_of_origin}
use Rattle.lp_spec_written.specs.Places.{Switching}
use Rattle.lp_spec_written.specs.Nets.{chain_net}
use Rattle.lp_spec_written.specs.Supplies.{scalar, switch_net, switch_port, switch_of, has_port_of, goes_out, goes_in, port_by_kind, origin_port}
use Rattle.lp_spec_written.specs.Routes.{Kind, PortOut, Between, PortIn, port_of_kind, control_port, control_ports, control_net, parts_in}
use Rattle.lp_spec_written.specs.Written.{Additions, added_supply_ports, written_ports}
use Rattle.lp_spec_wired.specs.Reserved.{LeavesNames}
use Rattle.lp_spec_wired.specs.Laws.{ChainNetsHaveNoPorts}
use Rattle.lp_spec_wired.proofs.Added.{own-apart, chain-own}

filter-none : {A : Type 0} (t : A → Bool) (xs : List A) → ((x : A) → IsIn x xs → t x ≡ false) → filter t xs ≡ []
filter-none t [] none = refl
filter-none t (x ∷ xs) none = ap (λ b. cond b (x ∷ filter t xs) (filter t xs)) (none x (inl refl)) ∙ filter-none t xs (λ y h. none y (inr h))

of-when-is : {A : Type 0} (b : Bool) (x y : A) → when b x ≡ Some y → y ≡ x
of-when-is true x y e = cc
of-when-is false x y e = absurd cc

-- a name of another addition
origin-chain : (p : Project) (o k : ℕ) → bytes_eq (port_of_origin p o) (chain_net k) ≡ false
origin-chain p o k = refl

switch-chain : (s : Switching) (k : ℕ) → bytes_eq (switch_net s) (chain_net k) ≡ false
switch-chain s k = refl

control-chain : (j k : ℕ) → bytes_eq (control_net j) (chain_net k) ≡ false
control-chain j k = refl

abbrev named : ℕ → PortView → Bool
named k q = bytes_eq q.name (chain_net k)

switch-apart : (k : ℕ) (out into : Bool) (s : Switching) (q : PortView) → (if out then Some (scalar (switch_net s) Output) else when into (scalar (switch_net s) Input)) ≡ Some q → named k q ≡ false
switch-apart k true into s q e = let is : q ≡ scalar (switch_net s) Output = cc in ap (named k) is ∙ switch-chain s k
switch-apart k false into s q e = ap (named k) (of-when-is into (scalar (switch_net s) Input) q e) ∙ switch-chain s k

part-apart : (k j : ℕ) (kind : Kind) (q : PortView) → port_of_kind j kind ≡ Some q → named k q ≡ false
part-apart k j PortOut q e = let is : q ≡ scalar (control_net j) Output = cc in ap (named k) is ∙ control-chain j k
part-apart k j Between q e = absurd cc
part-apart k j PortIn q e = let is : q ≡ scalar (control_net j) Input = cc in ap (named k) is ∙ control-chain j k

module _ (p : Project) (a : Additions) (k : ℕ) (x : Path) where
  kind-apart : (o : ℕ) (kind : Origin) (q : PortView) → port_by_kind p a.plan a.uses x o kind ≡ Some q → named k q ≡ false
  kind-apart o FromPort q e = ap (named k) (of-when-is (has_port_of a.uses o x) (scalar (port_of_origin p o) Input) q e) ∙ origin-chain p o k
  kind-apart o (FromSwitch input control high) q e =
      let found = then_is (λ (s : Switching). switch_port a.uses s x) (switch_of a.plan o) q e in
      switch-apart k (goes_out a.uses found.0 x) (goes_in a.uses found.0 x) found.0 q found.2

  -- no port of a written module
  pub port-apart : LeavesNames p.structure → (m : ModuleView) → module_at p.structure x ≡ Some m → (q : PortView) → IsIn q (written_ports p a x m) → named k q ≡ false
  port-apart free m e q h = elim (in-either q m.ports (added_supply_ports p a x ++ control_ports a.controls x) h) [
    | inl l ↦ own-apart q.name (chain_net k) (free.ports x m q e l) (chain-own k)
    | inr r ↦ elim (in-either q (added_supply_ports p a x) (control_ports a.controls x) r) [
      | inl l ↦ let found = of-some (origin_port p a.plan a.uses x) q (numbered 0 (network_of p).origins) l in kind-apart found.0.0 found.0.1 q found.2
      | inr s ↦ let found = of-some control_port q (parts_in a.controls x) s in part-apart k found.0.0 found.0.1.kind q found.2
    ]
  ]

pub no-ports : ChainNetsHaveNoPorts
no-ports p a w written free x m e here is k =
    let content = written.modules x m e in
    let same : content.here ≡ here = one-some (sym content.is ∙ is) in
    let ports : here.ports ≡ written_ports p a x m = ap (λ (v : ModuleView). v.ports) (sym same) ∙ content.content.ports in
    ap (flat_map (from_port w x (chain_net k) None))
    (ap (filter (λ (q : PortView). bytes_eq q.name (chain_net k) && is_input q)) ports
    ∙ filter-none (λ (q : PortView). bytes_eq q.name (chain_net k) && is_input q) (written_ports p a x m) (λ q h. ap (λ b. b && is_input q) (port-apart p a k x free m e q h)))
  where
    one-some : {u v : ModuleView} → Some u ≡ Some v → u ≡ v
    one-some e = cc
