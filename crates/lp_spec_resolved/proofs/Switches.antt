-- Switches of the supply network have the controls of their commands.
use Rattle.std.proofs.Common.{◌≡◌, ◌≤◌, ℕ, ◌+◌, Bool, true, false, List, [], ◌∷◌, map, length, Option, Some, None, inl, inr, refl, sym, ap, ◌∙◌, subst}
use Rattle.std.specs.Prelude.{is_some, slice_get}
use Rattle.std.proofs.lemmas.Bool.{false≢true, cases_lt}
use Rattle.lp_model.specs.declared.intent.ScopedName.{ScopedName}
use Rattle.lp_model.specs.declared.supply.Origin as model
use Rattle.lp_model.specs.NetlistView.{ModuleView}
use Rattle.lp_spec_design.specs.Keys.{Name, Path, Node, Inner, Outer, Fixed}
use Rattle.lp_spec_design.specs.Netlists.{Structure, module_at}
use Rattle.lp_spec_design.specs.Instances.{module_instances}
use Rattle.lp_spec_design.specs.Nodes.{nodes_in, inner_nodes, nodes_of, outer_in}
use Rattle.lp_spec_design.specs.Graph.{numbered}
use Rattle.lp_spec_design.specs.Intents.{Origin, FromPort, FromSwitch}
use Rattle.lp_spec_design.specs.Winners.{IsIn}
use Rattle.lp_spec_design.proofs.Members.{in-left, in-flat, of-some}
use Rattle.lp_spec_design.proofs.Sources.{in_reach}
use Rattle.lp_spec_origins.specs.Commands.{Scoped, PowerSwitch, Command, MakesPort, MakesSwitch}
use Rattle.lp_spec_origins.specs.Origins.{Source, OfPort, OfSwitch, source_in, sources}
use Rattle.lp_spec_realises.specs.Projects.{network_of, numbered_node}
use Rattle.lp_spec_network.specs.Views.{kind_view}
use Rattle.lp_spec_intent.specs.Made.{Made, network}
use Rattle.lp_spec_intent.specs.Laws.{StandsInside}
use Rattle.lp_spec_resolved.specs.Supplies.{project_made, origin_made, node_number, scope_at, lists_made}
use Rattle.lp_spec_resolved.specs.Laws.{IsDeclaredBit, IsOfSwitch}
use Rattle.lp_spec_resolved.proofs.Numbers.{nodes-are-found}
use Rattle.lp_spec_resolved.proofs.Origins.{slice-map, slice-numbered, slice-in}
use Rattle.lp_spec_resolved.proofs.Named.{slice-none, map-none}

instance-in : (s : Structure) (shallow : (p : Path) → 64 ≤ length p → module_at s p ≡ None) (p : Path) (m : ModuleView) → module_at s p ≡ Some m → IsIn p (module_instances s)
unfolding module_instances
instance-in s shallow p m e = elim (cases_lt (length p) 64) [
  | inl less ↦ in_reach s 64 p m e less
  | inr more ↦ let none : None ≡ Some m = sym (shallow p more) ∙ e in absurd cc
]

inner-in : (s : Structure) (p : Path) (k : Node) → IsIn p (module_instances s) → IsIn k (nodes_in p (module_at s p)) → IsIn k (inner_nodes s)
unfolding inner_nodes
inner-in s p k i j = in-flat (λ q. nodes_in q (module_at s q)) p k (module_instances s) i j

there : {A : Type 0} (o : Option A) → is_some o ≡ true → (x : A) × (o ≡ Some x)
there None e = absurd (false≢true e)
there (Some x) e = (x, refl)

-- a net bit that an instance declares is one of the nodes
node-in : (s : Structure) → ((p : Path) → 64 ≤ length p → module_at s p ≡ None) → (k : Node) → StandsInside s k → IsDeclaredBit s k → IsIn k (nodes_of s)
node-in s shallow (Inner n i p) h d =
    let m = there (module_at s p) h in
    in-left (Inner n i p) (inner_nodes s) (outer_in (module_at s []))
    (inner-in s p (Inner n i p) (instance-in s shallow p m.0 m.1) (subst (λ o. IsIn (Inner n i p) (nodes_in p o)) (sym m.1) (d m.0 m.1)))
node-in s shallow (Outer n i) h d = absurd h
node-in s shallow (Fixed b) h d = absurd h

port-is-none : (scope : Path) (name : Name) (input : Bool) (w : PowerSwitch) → source_in (MakesPort (record { scope = scope; name = name }) input) ≡ Some (OfSwitch w) → ⊥
port-is-none [] name true w e = cc
port-is-none [] name false w e = cc
port-is-none (x ∷ p) name input w e = cc

switch-of : (d : Command) (w : PowerSwitch) → source_in d ≡ Some (OfSwitch w) → d ≡ MakesSwitch w
switch-of (MakesSwitch v) w e = cc
switch-of (MakesPort p input) w e = absurd (port-is-none p.scope p.name input w e)
switch-of d w e = absurd cc

module _ (s : Structure) (name : Scoped → ScopedName) (m : Made) (margin : ℕ)
    (shallow : (p : Path) → 64 ≤ length p → module_at s p ≡ None)
    (inside : (w : PowerSwitch) → IsIn (MakesSwitch w) (network m) → StandsInside s w.control)
    (scopes : (w : PowerSwitch) → IsIn (MakesSwitch w) (network m) → is_some (module_at s w.name.scope) ≡ true)
    (declared : (w : PowerSwitch) → IsIn (MakesSwitch w) (network m) → IsDeclaredBit s w.control) where
  abbrev view_of : model.Origin → Origin
  view_of x = kind_view (numbered_node s) x.kind

  abbrev all_made : List model.Origin
  all_made = map (origin_made s name m) (numbered 0 (sources (network m)))

  from-same : (i j : ℕ) (a b : Node) (x y : Bool) → Some (FromSwitch i a x) ≡ Some (FromSwitch j b y) → (a ≡ b) × (x ≡ y)
  from-same i j a b x y e = (cc, cc)

  kept-at : (o input : ℕ) (k : Node) (high : Bool) (w : PowerSwitch) → slice_get (sources (network m)) o ≡ Some (OfSwitch w)
      → view_of (origin_made s name m (o + 0, OfSwitch w)) ≡ FromSwitch input k high → IsOfSwitch s m o k high
  kept-at o input k high w f e =
      let made : IsIn (MakesSwitch w) (network m) =
      (let d = of-some source_in (OfSwitch w) (network m) (slice-in (sources (network m)) o (OfSwitch w) f) in subst (λ x. IsIn x (network m)) (switch-of d.0 w d.2) d.1) in
      let found : numbered_node s (node_number s w.control) ≡ w.control = nodes-are-found s w.control (node-in s shallow w.control (inside w made) (declared w made)) in
      let same = from-same _ input (numbered_node s (node_number s w.control)) k w.high high (ap (λ x. Some x) e) in
      let control : w.control ≡ k = sym found ∙ same.0 in
      let scope : (lists_made m).scope_of_switch o ≡ w.name.scope = ap scope_at f in
      record {
        switch = w;
        source = f;
        control = control;
        sense = same.1;
        inside = subst (λ x. StandsInside s x) control (inside w made);
        scope = scope;
        instance = ap (λ p. is_some (module_at s p)) scope ∙ scopes w made;
      }

  some-origin : (x y : Origin) → Some x ≡ Some y → x ≡ y
  some-origin x y e = cc

  pub switch-kept : (o input : ℕ) (k : Node) (high : Bool) → slice_get (network_of (project_made s name m margin)).origins o ≡ Some (FromSwitch input k high) → IsOfSwitch s m o k high
  switch-kept o input k high e = by (slice_get (sources (network m)) o) refl
    where
      at : (x : Source) → slice_get (sources (network m)) o ≡ Some x → view_of (origin_made s name m (o + 0, x)) ≡ FromSwitch input k high
      at x f =
          some-origin _ _ (sym (slice-map view_of all_made o (origin_made s name m (o + 0, x)) (slice-numbered (origin_made s name m) 0 o (sources (network m)) x f)) ∙ e)

      by : (q : Option Source) → slice_get (sources (network m)) o ≡ q → IsOfSwitch s m o k high
      by None f =
          let none : None ≡ Some (FromSwitch input k high) = sym (map-none view_of all_made o (slice-none (origin_made s name m) 0 o (sources (network m)) f)) ∙ e in
          absurd cc
      by (Some (OfPort a)) f = let same : FromPort ≡ FromSwitch input k high = at (OfPort a) f in absurd cc
      by (Some (OfSwitch w)) f = kept-at o input k high w f (at (OfSwitch w) f)
