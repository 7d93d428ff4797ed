-- A source without faults is plain: one source a net bit, free names, and ports of their own.
use Rattle.std.proofs.Common.{◌≡◌, ◌≤◌, ◌+◌, ℕ, Bool, true, false, ◌&&◌, List, [], ◌∷◌, ◌++◌, map, length, Option, Some, None, inl, inr, refl, sym, ap, ◌∙◌, subst, arith}
use Rattle.std.specs.Prelude.{filter, bytes_eq}
use Rattle.std.specs.List.{list_any}
use Rattle.std.proofs.lemmas.Bool.{true≢false, ltb-false}
use Rattle.std.proofs.lemmas.List.{length-map}
use Rattle.lp_model.specs.NetlistView.{BitView, PortView, ConnectionView, ConnectionsView, ByName, ByPosition, InstanceView, ModuleView}
use Rattle.lp_spec_design.specs.Keys.{Name, Path, Node, Inner, Outer, Fixed, Source, same_index}
use Rattle.lp_spec_design.specs.Netlists.{Structure, first, module_at, module_named, indices}
use Rattle.lp_spec_design.specs.Graph.{sources_of, outside, pairs}
use Rattle.lp_spec_design.specs.Nodes.{inner_nodes}
use Rattle.lp_spec_design.specs.Reads.{one, name-true, name-self}
use Rattle.lp_spec_design.specs.Winners.{IsIn}
use Rattle.lp_spec_design.proofs.Members.{IsApart, in-flat, of-filter, of-map, of-pairs}
use Rattle.lp_spec_design.proofs.Looped.{source_by, outer_sources, outer_by}
use Rattle.lp_spec_design.proofs.Sources.{sources_known, first_in}
use Rattle.lp_spec_realises.specs.Projects.{Project}
use Rattle.lp_spec_realises.specs.Implements.{Lists}
use Rattle.lp_spec_faults.specs.Modules.{is_own}
use Rattle.lp_spec_faults.specs.Wires.{ConnectionAt, named_from, connections_of, connections_in, all_connections, port_of, is_refused_port, is_unknown_pin, unknown_pin, two_drivers}
use Rattle.lp_spec_agreement.proofs.Apart.{ports_apart, same_named}
use Rattle.lp_spec_agreement.proofs.Framed.{no_fault}
use Rattle.lp_spec_faultless.specs.Faults.{IsRead}
use Rattle.lp_spec_written.specs.Nets.{by_names}
use Rattle.lp_spec_wired.specs.Reserved.{LeavesNames}
use Rattle.lp_spec_written_at.proofs.Modules.{from-modules, free-port}
use Rattle.lp_spec_written_at.proofs.SourceCells.{in-filter}
use Rattle.lp_spec_written_at.proofs.Weave.{names-apart, apart-filter}
use Rattle.lp_spec_written_at.proofs.CellsApart.{of-apart-map}
use Rattle.lp_spec_driven.specs.Sound.{IsPlainSource}
use Rattle.lp_spec_driven.proofs.Sources.{only-one}
use Rattle.lp_spec_proper.specs.Insertable.{IsInsertable, IsWithinLimits}
use Rattle.lp_spec_proper.proofs.Base.{is-free, bits, free-bit, inner-of}

-- ---- lists

pub at-most-one : {A : Type 0} (xs : List A) → IsApart xs → ((a b : A) → IsIn a xs → IsIn b xs → a ≡ b) → length xs ≤ 1
at-most-one [] apart same = omega arith
at-most-one (x ∷ []) apart same = omega arith
at-most-one (x ∷ y ∷ xs) apart same = absurd (apart.0 (inl (same x y (inl refl) (inr (inl refl)))))

-- ---- connections

-- each connection by name is a place of the table of faults
pub record IsPlace (m : ModuleView) (y : InstanceView) (c : ConnectionView) (z : ConnectionAt) : Type 0 where
  pub parent : z.parent ≡ m
  pub instance : z.instance ≡ y
  pub name : z.name ≡ Some c.port

named-place : (m : ModuleView) (y : InstanceView) (k : ℕ) (before : List Name) (cs : List ConnectionView) (c : ConnectionView) → IsIn c cs
    → (z : ConnectionAt) × IsIn z (named_from m y k before cs) × IsPlace m y c z
named-place m y k before [] c h = absurd h
named-place m y k before (d ∷ cs) c (inl is) =
    (record { parent = m; instance = y; number = k; name = Some d.port; bits = d.bits; before = before }, inl refl, record { parent = refl; instance = refl; name = ap (λ (e : ConnectionView). Some e.port) (sym is) })
named-place m y k before (d ∷ cs) c (inr h) =
    let more = named-place m y (k + 1) (before ++ d.port ∷ []) cs c h in (more.0, inr more.1, more.2)

by-name-places : (m : ModuleView) (y : InstanceView) (cs : List ConnectionView) → y.connections ≡ ByName cs → connections_of m y ≡ named_from m y 1 [] cs
by-name-places m y cs e = rw (e) refl

pub place-of : (s : Structure) (m : ModuleView) (y : InstanceView) (cs : List ConnectionView) (c : ConnectionView)
    → IsIn m s.modules → IsIn y m.instances → y.connections ≡ ByName cs → IsIn c cs → (z : ConnectionAt) × IsIn z (all_connections s) × IsPlace m y c z
place-of s m y cs c hm hy e h =
    let at = named-place m y 1 [] cs c h in
    let here : IsIn at.0 (connections_of m y) = subst (λ r. IsIn at.0 r) (sym (by-name-places m y cs e)) at.1 in
    (at.0, in-flat connections_in m at.0 s.modules hm (in-flat (connections_of m) y at.0 m.instances hy here), at.2)

-- ---- ports that connections name

port-by-name : (m : ModuleView) (z : ConnectionAt) (n : Name) → z.name ≡ Some n → port_of m z ≡ first (λ (q : PortView). bytes_eq q.name n) m.ports
port-by-name m z n e = rw (e) refl

unknown-in : (s : Structure) (z : ConnectionAt) (m : ModuleView) → module_named s z.instance.target ≡ Some m → is_unknown_pin s z ≡ is_refused_port z (port_of m z)
unknown-in s z m e = rw (e) refl

takes-port : (z : ConnectionAt) (o : Option PortView) → is_refused_port z o ≡ false → (q : PortView) × (o ≡ Some q)
takes-port z None e = absurd (true≢false e)
takes-port z (Some q) e = (q, refl)

pub named-port : (s : Structure) (m inner : ModuleView) (y : InstanceView) (cs : List ConnectionView) (c : ConnectionView)
    → IsIn m s.modules → IsIn y m.instances → module_named s y.target ≡ Some inner → y.connections ≡ ByName cs → IsIn c cs
    → ((z : ConnectionAt) → IsIn z (all_connections s) → is_unknown_pin s z ≡ false)
    → (q : PortView) × IsIn q inner.ports × (q.name ≡ c.port)
named-port s m inner y cs c hm hy target e h none =
    let at = place-of s m y cs c hm hy e h in
    let its : module_named s at.0.instance.target ≡ Some inner = ap (λ (z : InstanceView). module_named s z.target) at.2.instance ∙ target in
    let q = takes-port at.0 (port_of inner at.0) (sym (unknown-in s at.0 inner its) ∙ none at.0 at.1) in
    let found = first_in (λ (r : PortView). bytes_eq r.name c.port) inner.ports q.0 (sym (port-by-name inner at.0 c.port at.2.name) ∙ q.1) in
    (q.0, found.0, name-true q.0.name c.port found.1)

-- ---- the whole

module _ (p : Project) (l : Lists) (switch_command : ℕ → ℕ) (read : IsRead p) (good : IsInsertable p l switch_command) (within : IsWithinLimits p l) where
  abbrev s : Structure
  s = p.structure

  -- no two ports of a module have one name
  one-port : (x : Path) (m : ModuleView) → module_at s x ≡ Some m → (q r : PortView) → IsIn q m.ports → IsIn r m.ports → q.name ≡ r.name → q ≡ r
  one-port x m e q r h g same = same_named (λ (t : PortView). t.name) m.ports (ports_apart s read.netlist.names_apart x m e) q r h g same

  ports-once : (x : Path) (m : ModuleView) → module_at s x ≡ Some m → IsApart m.ports
  ports-once x m e = of-apart-map (λ (t : PortView). t.name) m.ports (names-apart (map (λ (t : PortView). t.name) m.ports) (ports_apart s read.netlist.names_apart x m e))

  few-named : (x : Path) (m : ModuleView) → module_at s x ≡ Some m → (n : Name) (t : PortView → Bool) → ((q : PortView) → t q ≡ true → q.name ≡ n) → length (filter t m.ports) ≤ 1
  few-named x m e n t named =
      at-most-one (filter t m.ports) (apart-filter t m.ports (ports-once x m e))
      (λ a b h g.
      let one = of-filter t a m.ports h in
      let two = of-filter t b m.ports g in
      one-port x m e a b one.0 two.0 (named a one.1 ∙ sym (named b two.1)))

  pub only-port : (x : Path) (m : ModuleView) (q : PortView) → module_at s x ≡ Some m → IsIn q m.ports → filter (λ (r : PortView). bytes_eq r.name q.name) m.ports ≡ q ∷ []
  only-port x m q e h =
      only-one (filter (λ (r : PortView). bytes_eq r.name q.name) m.ports) q
      (few-named x m e q.name (λ (r : PortView). bytes_eq r.name q.name) (λ r g. name-true r.name q.name g))
      (in-filter (λ (r : PortView). bytes_eq r.name q.name) m.ports q h (name-self q.name))

  outer-few : (n : Name) (i : Option ℕ) (o : Option ModuleView) → module_at s [] ≡ o → length (outer_sources s n i o) ≤ 1
  outer-few n i None e = omega arith
  outer-few n i (Some m) e =
      let t = λ (port : PortView). bytes_eq port.name n && list_any (same_index i) (indices port.range) in
      let few = few-named [] m e n t (λ q g. name-true q.name n (one (bytes_eq q.name n) (list_any (same_index i) (indices q.range)) g)) in
      let same = length-map (filter t m.ports) (outside n i) in
      omega (arith, few, same)

  pub single : (k : Node) → length (sources_of s k) ≤ 1
  single (Fixed b) = omega arith
  single (Outer n i) = subst (λ r. length r ≤ 1) (sym (outer_by s n i (module_at s []) refl)) (outer-few n i (module_at s []) refl)
  single (Inner n i x) = by (sources_of s (Inner n i x)) refl
    where
      by : (xs : List Source) → sources_of s (Inner n i x) ≡ xs → length xs ≤ 1
      by [] e = omega arith
      by (y ∷ rest) e =
          let here : IsIn (Inner n i x) (inner_nodes s) = inner-of s n i x (sources_known s (bits p l switch_command read good within) (Inner n i x) y (source_by s (Inner n i x) (y ∷ rest) e)) in
          let less = ltb-false 1 (length (sources_of s (Inner n i x))) (no_fault (two_drivers s) good.one_driver (Inner n i x) here) in
          subst (λ r. length r ≤ 1) e less

  connected : (x : Path) (m inner : ModuleView) (y : InstanceView) (c : ConnectionView)
      → module_at s x ≡ Some m → IsIn y m.instances → module_named s y.target ≡ Some inner → IsIn c (by_names inner.ports y.connections) → is_own c.port ≡ false
  connected x m inner y c e hy target h = by y.connections refl h
    where
      known : IsIn inner s.modules
      known = (first_in (λ (k : ModuleView). bytes_eq k.name y.target) s.modules inner target).0

      by : (cs : ConnectionsView) → y.connections ≡ cs → IsIn c (by_names inner.ports cs) → is_own c.port ≡ false
      by (ByName cs) is g =
          let q = named-port s m inner y cs c (from-modules s x m e) hy target is g (λ z there. no_fault (unknown_pin s) good.pins z there) in
          ap is_own (sym q.2) ∙ free-port p (is-free p l switch_command read good within) inner q.0 known q.1
      by (ByPosition values) is g =
          let z = of-map (λ (z : PortView × List BitView). record { port = z.0.name; bits = z.1 }) c (pairs inner.ports values) g in
          let port = of-pairs z.0 inner.ports values z.1 in
          ap (λ (d : ConnectionView). is_own d.port) z.2 ∙ free-port p (is-free p l switch_command read good within) inner z.0.0 known port.0

  leaves : LeavesNames s
  leaves = record {
    ports = λ x m q e h. free-port p (is-free p l switch_command read good within) m q (from-modules s x m e) h;
    connected = connected;
  }

  pub is-plain : IsPlainSource s
  is-plain = record {
    single = single;
    free = λ x m b e h. free-bit p l switch_command read good within x m b e (read.netlist.declared x m b e h);
    leaves = leaves;
    ports = λ x m q e h. only-port x m q e h;
  }
