-- Controls that go down: input ports of instances on their routes.
use Rattle.std.proofs.Common.{◌≡◌, ◌⊎◌, ◌<◌, ◌≤◌, ◌^◌, ℕ, suc, ◌+◌, Bool, true, false, not, ◌&&◌, ◌||◌, cond, List, [], ◌∷◌, ◌++◌, map, length, Option, Some, None, inl, inr, refl, sym, ◌∙◌, ap, subst, arith}
use Rattle.std.specs.Prelude.{bytes_eq, filter, slice_get, if◌then◌else◌}
use Rattle.std.proofs.lemmas.Bool.{both_ways, true≢false}
use Rattle.std.proofs.lemmas.Option.{slice_get_within}
use Rattle.lp_model.specs.declared.netlist.Direction.TheVariants.{Input, Output}
use Rattle.lp_model.specs.NetlistView.{BitView, NetBit, PortView, ConnectionView, ModuleView}
use Rattle.lp_spec_design.specs.Keys.{Name, Path, same_path, Node, Inner, Way, same_node}
use Rattle.lp_spec_design.specs.Netlists.{Structure, first, module_at, node_of, bits_named}
use Rattle.lp_spec_design.specs.Graph.{numbered, when}
use Rattle.lp_spec_design.specs.Intents.{Origin, FromPort, FromSwitch}
use Rattle.lp_spec_design.specs.Reads.{name-true, name-self, path-true, path-self, node-true, node-self, one, other, both}
use Rattle.lp_spec_design.specs.Winners.{IsIn}
use Rattle.lp_spec_design.proofs.Members.{in-right, of-map, of-some, of-filter, of-any, of-numbered, any-in}
use Rattle.lp_spec_design.proofs.Sources.{then_is}
use Rattle.lp_spec_realises.specs.Projects.{Project, network_of, port_of_origin}
use Rattle.lp_spec_realises.specs.Operators.{Placement}
use Rattle.lp_spec_written.specs.Places.{Switching}
use Rattle.lp_spec_written.specs.Nets.{bit_of, renamed}
use Rattle.lp_spec_written.specs.Supplies.{scalar, switch_net, switch_port, switch_of, has_port_of, goes_out, goes_in, port_by_kind, origin_port, joined_to}
use Rattle.lp_spec_written.specs.Routes.{Kind, PortOut, Between, PortIn, Part, port_of_kind, same_part_kind, same_part, has_part, is_between, control_net, control_bits, control_port, control_ports, control_connection, control_connections, parts_in, part_for, part_bits, carried}
use Rattle.lp_spec_written.specs.Written.{Additions, added_supply_ports}
use Rattle.lp_spec_hub.specs.Spots.{OfNode, Routed, FromSpot}
use Rattle.lp_spec_hub.specs.Drives.{drive, part_at, part_in, part_from, control_spot}
use Rattle.lp_spec_hub.specs.Entries.{carries}
use Rattle.lp_spec_hub.specs.Begins.{LeadsTo, IsWired}
use Rattle.lp_spec_wired.specs.Names.{name_by, name_of_part}
use Rattle.lp_spec_wired.specs.Contents.{IsWrittenAt}
use Rattle.lp_spec_wired.specs.Reserved.{LeavesNames}
use Rattle.lp_spec_wired.specs.Laws.{done_of, StandsFor, IsOneWay, ControlsComeDown}
use Rattle.lp_spec_wired.proofs.Added.{origin-control, switch-control, control-number}
use Rattle.lp_spec_wired.proofs.Lists.{first-there, first-none, in-some, at-numbered, bits-behind, bits-there}
use Rattle.lp_spec_wired.proofs.Down.{added_ports, added_connections, added-input}
use Rattle.lp_spec_wired.proofs.Chains.{first-agree, in-filter}

of-when-is : {A : Type 0} (b : Bool) (x y : A) → when b x ≡ Some y → y ≡ x
of-when-is true x y e = cc
of-when-is false x y e = absurd cc

append-none : {A : Type 0} (xs : List A) → xs ++ [] ≡ xs
append-none [] = refl
append-none (x ∷ xs) = ap (λ ys. x ∷ ys) (append-none xs)

has-number : {A : Type 0} (x : A) (xs : List A) (n : ℕ) → IsIn x xs → (k : ℕ) × IsIn (k, x) (numbered n xs)
has-number x [] n h = absurd h
has-number x (y ∷ xs) n h = elim h [ inl is ↦ (n, inl (ap (λ z. (n, z)) is)) | inr r ↦ let found = has-number x xs (n + 1) r in (found.0, inr found.1) ]

pub filter-short : {A : Type 0} (p : A → Bool) (xs : List A) → length (filter p xs) ≤ length xs
filter-short p [] = omega arith
filter-short p (x ∷ xs) = by (p x) (filter-short p xs)
  where
    by : (b : Bool) → length (filter p xs) ≤ length xs → length (cond b (x ∷ filter p xs) (filter p xs)) ≤ suc (length xs)
    by true h = omega (arith, h)
    by false h = omega (arith, h)

-- ---- parts

pub kind-true : (a b : Kind) → same_part_kind a b ≡ true → a ≡ b
kind-true PortOut PortOut e = refl
kind-true Between Between e = refl
kind-true PortIn PortIn e = refl
kind-true PortOut Between e = absurd (true≢false (sym e))
kind-true PortOut PortIn e = absurd (true≢false (sym e))
kind-true Between PortOut e = absurd (true≢false (sym e))
kind-true Between PortIn e = absurd (true≢false (sym e))
kind-true PortIn PortOut e = absurd (true≢false (sym e))
kind-true PortIn Between e = absurd (true≢false (sym e))

kind-self : (a : Kind) → same_part_kind a a ≡ true
kind-self PortOut = refl
kind-self Between = refl
kind-self PortIn = refl

-- two tests that follow from each other agree
agree : (a b : Bool) → (a ≡ true → b ≡ true) → (b ≡ true → a ≡ true) → a ≡ b
agree true b f g = sym (f refl)
agree false true f g = g refl
agree false false f g = refl

module _ (made : List Part) (k : Node) (x : Path) where
  abbrev here : List (ℕ × Part)
  here = parts_in made x

  -- what stands in an instance
  pub in-here : (y : ℕ × Part) → IsIn y here → IsIn y.1 made × (y.1.path ≡ x)
  in-here y h =
      let kept = of-filter (λ (t : Part). same_path t.path x) y.1 made (of-numbered 0 y (filter (λ (t : Part). same_path t.path x) made) h) in
      (kept.0, path-true y.1.path x kept.1)

  part-test : (kind : Kind) (y : ℕ × Part) → y.1.kind ≡ kind → y.1.path ≡ x → y.1.control ≡ k → same_part (part_at k x kind) y.1 ≡ true
  part-test kind y a b c =
      both (same_part_kind kind y.1.kind) (same_path x y.1.path && same_node k y.1.control) (ap (same_part_kind kind) a ∙ kind-self kind)
      (both (same_path x y.1.path) (same_node k y.1.control) (ap (same_path x) b ∙ path-self x) (ap (same_node k) c ∙ node-self k))

  pub part-kind : (kind : Kind) (y : ℕ × Part) → same_part (part_at k x kind) y.1 ≡ true → (y.1.kind ≡ kind) × (y.1.control ≡ k)
  part-kind kind y e =
      let rest = other (same_part_kind kind y.1.kind) (same_path x y.1.path && same_node k y.1.control) e in
      (sym (kind-true kind y.1.kind (one (same_part_kind kind y.1.kind) _ e)), sym (node-true k y.1.control (other (same_path x y.1.path) (same_node k y.1.control) rest)))

  -- a part that is made stands there with a number
  pub found-part : (kind : Kind) → has_part made (part_at k x kind) ≡ true → (y : ℕ × Part) × IsIn y here × (same_part (part_at k x kind) y.1 ≡ true) × (first (λ z. same_part (part_at k x kind) z.1) here ≡ Some y)
  found-part kind h =
      let some = of-any (same_part (part_at k x kind)) made h in
      let rest = other (same_part_kind kind some.0.kind) (same_path x some.0.path && same_node k some.0.control) some.2 in
      let at : same_path some.0.path x ≡ true = ap (λ y. same_path y x) (sym (path-true x some.0.path (one (same_path x some.0.path) _ rest))) ∙ path-self x in
      let numbered_one = has-number some.0 (filter (λ (t : Part). same_path t.path x) made) 0 (in-filter (λ (t : Part). same_path t.path x) made some.0 some.1 at) in
      first-there (λ z. same_part (part_at k x kind) z.1) here (numbered_one.0, some.0) numbered_one.1 some.2

  made-part : (kind : Kind) (y : ℕ × Part) → IsIn y here → y.1.kind ≡ kind → y.1.control ≡ k → has_part made (part_at k x kind) ≡ true
  made-part kind y h a c = any-in (same_part (part_at k x kind)) y.1 made (in-here y h).0 (part-test kind y a (in-here y h).1 c)

  -- ---- where a control is in an instance that is not its own

  between-agree : (y : ℕ × Part) → IsIn y here → (same_node y.1.control k && is_between y.1) ≡ same_part (part_at k x Between) y.1
  between-agree y h = agree (same_node y.1.control k && is_between y.1) (same_part (part_at k x Between) y.1)
      (λ e. part-test Between y (kind-true y.1.kind Between (other (same_node y.1.control k) _ e)) (in-here y h).1 (node-true y.1.control k (one (same_node y.1.control k) _ e)))
      (λ e. let is = part-kind Between y e in both (same_node y.1.control k) (is_between y.1) (ap (λ j. same_node j k) is.1 ∙ node-self k) (ap (λ j. same_part_kind j Between) is.0))

  -- where there is no wire, a part of the control is of the one kind of port that there is
  port-agree : (kind : Kind) → has_part made (part_at k x Between) ≡ false → ((y : ℕ × Part) → IsIn y here → y.1.control ≡ k → y.1.kind ≡ kind)
      → (y : ℕ × Part) → IsIn y here → (same_node y.1.control k && true) ≡ same_part (part_at k x kind) y.1
  port-agree kind none only y h = agree (same_node y.1.control k && true) (same_part (part_at k x kind) y.1)
      (λ e. let is = node-true y.1.control k (one (same_node y.1.control k) true e) in part-test kind y (only y h is) (in-here y h).1 is)
      (λ e. both (same_node y.1.control k) true (ap (λ j. same_node j k) (part-kind kind y e).1 ∙ node-self k) refl)

  no-wire : has_part made (part_at k x Between) ≡ false → part_for here k is_between ≡ None
  no-wire none = first-agree (λ y. same_node y.1.control k && is_between y.1) (λ y. same_part (part_at k x Between) y.1) here between-agree
      ∙ first-none (λ y. same_part (part_at k x Between) y.1) here (λ y h. by y h (same_part (part_at k x Between) y.1) refl)
    where
      by : (y : ℕ × Part) → IsIn y here → (b : Bool) → same_part (part_at k x Between) y.1 ≡ b → b ≡ false
      by y h false is = refl
      by y h true is = absurd (both_ways (has_part made (part_at k x Between)) none (made-part Between y h (part-kind Between y is).0 (part-kind Between y is).1))

  -- the net of the control, with the number of its part
  pub record IsCarried (kind : Kind) : Type 0 where
    pub number : ℕ
    pub bits : carried here k ≡ NetBit (control_net number) ∷ []
    pub name : name_of_part (part_at k x kind) (first (λ y. same_part (part_at k x kind) y.1) here) ≡ Inner (control_net number) None x

  by-wire : has_part made (part_at k x Between) ≡ true → IsCarried Between
  by-wire h =
      let it = found-part Between h in
      record {
        number = it.0.0;
        bits = ap (λ o. part_bits o (part_for here k (λ y. true))) (first-agree (λ y. same_node y.1.control k && is_between y.1) (λ y. same_part (part_at k x Between) y.1) here between-agree ∙ it.3);
        name = ap (name_of_part (part_at k x Between)) it.3;
      }

  by-port : (kind : Kind) → has_part made (part_at k x Between) ≡ false → ((y : ℕ × Part) → IsIn y here → y.1.control ≡ k → y.1.kind ≡ kind) → has_part made (part_at k x kind) ≡ true → IsCarried kind
  by-port kind none only h =
      let it = found-part kind h in
      record {
        number = it.0.0;
        bits = ap (λ o. part_bits o (part_for here k (λ y. true))) (no-wire none)
            ∙ ap (part_bits None) (first-agree (λ y. same_node y.1.control k && true) (λ y. same_part (part_at k x kind) y.1) here (port-agree kind none only) ∙ it.3);
        name = ap (name_of_part (part_at k x kind)) it.3;
      }

  part-in : (s r : Bool) → has_part made (part_at k x Between) ≡ s → has_part made (part_at k x PortOut) ≡ r → part_in made k x ≡ part_at k x (if s then Between else if r then PortOut else PortIn)
  part-in s r e f =
      ap (λ c. part_at k x (if c then Between else if has_part made (part_at k x PortOut) then PortOut else PortIn)) e
      ∙ ap (λ c. part_at k x (if s then Between else if c then PortOut else PortIn)) f

  -- what the parts of a control there are, where there is no wire
  only-kind : (good bad : Kind) → has_part made (part_at k x Between) ≡ false → has_part made (part_at k x bad) ≡ false → ((t : Kind) → (t ≡ good → ⊥) → (t ≡ Between) ⊎ (t ≡ bad)) → ((t : Kind) → (b : Bool) → same_part_kind t good ≡ b → (t ≡ good) ⊎ (t ≡ good → ⊥))
      → (y : ℕ × Part) → IsIn y here → y.1.control ≡ k → y.1.kind ≡ good
  only-kind good bad none not_bad other_kind decide y h c = elim (decide y.1.kind (same_part_kind y.1.kind good) refl) [
    | inl is ↦ is
    | inr differ ↦ elim (other_kind y.1.kind differ) [
      | inl wire ↦ absurd (both_ways (has_part made (part_at k x Between)) none (made-part Between y h wire c))
      | inr port ↦ absurd (both_ways (has_part made (part_at k x bad)) not_bad (made-part bad y h port c))
    ]
  ]

  decided : (good : Kind) → (t : Kind) → (b : Bool) → same_part_kind t good ≡ b → (t ≡ good) ⊎ (t ≡ good → ⊥)
  decided good t true e = inl (kind-true t good e)
  decided good t false e = inr (λ is. both_ways (same_part_kind t good) e (ap (λ j. same_part_kind j good) is ∙ kind-self good))

  not-out : (t : Kind) → (t ≡ PortOut → ⊥) → (t ≡ Between) ⊎ (t ≡ PortIn)
  not-out PortOut h = absurd (h refl)
  not-out Between h = inl refl
  not-out PortIn h = inr refl

  not-in : (t : Kind) → (t ≡ PortIn → ⊥) → (t ≡ Between) ⊎ (t ≡ PortOut)
  not-in PortOut h = inr refl
  not-in Between h = inl refl
  not-in PortIn h = absurd (h refl)

  pub carried-as : (has_part made (part_at k x Between) || (has_part made (part_at k x PortOut) || has_part made (part_at k x PortIn))) ≡ true → IsOneWay made k x → (kind : Kind) × (part_in made k x ≡ part_at k x kind) × IsCarried kind
  carried-as come oneway = by (has_part made (part_at k x Between)) (has_part made (part_at k x PortOut)) refl refl come
    where
      by : (s r : Bool) → has_part made (part_at k x Between) ≡ s → has_part made (part_at k x PortOut) ≡ r → (s || (r || has_part made (part_at k x PortIn))) ≡ true → (kind : Kind) × (part_in made k x ≡ part_at k x kind) × IsCarried kind
      by true r e f h = (Between, part-in true r e f, by-wire e)
      by false true e f h = (PortOut, part-in false true e f, by-port PortOut e (only-kind PortOut PortIn e (oneway f) not-out (decided PortOut)) f)
      by false false e f h = (PortIn, part-in false false e f, by-port PortIn e (only-kind PortIn PortOut e f not-in (decided PortIn)) h)

-- ---- connections of supplies have other names

switch-apart : (out into : Bool) (s : Switching) (q : PortView) (j : ℕ) → (if out then Some (scalar (switch_net s) Output) else when into (scalar (switch_net s) Input)) ≡ Some q → bytes_eq q.name (control_net j) ≡ false
switch-apart true into s q j e = let is : q ≡ scalar (switch_net s) Output = cc in ap (λ (r : PortView). bytes_eq r.name (control_net j)) is ∙ switch-control s.number j
switch-apart false into s q j e = ap (λ (r : PortView). bytes_eq r.name (control_net j)) (of-when-is into (scalar (switch_net s) Input) q e) ∙ switch-control s.number j

module _ (p : Project) (a : Additions) where
  kind-apart : (x : Path) (o : ℕ) (kind : Origin) (q : PortView) (j : ℕ) → port_by_kind p a.plan a.uses x o kind ≡ Some q → bytes_eq q.name (control_net j) ≡ false
  kind-apart x o FromPort q j e = ap (λ (r : PortView). bytes_eq r.name (control_net j)) (of-when-is (has_port_of a.uses o x) (scalar (port_of_origin p o) Input) q e) ∙ origin-control p o j
  kind-apart x o (FromSwitch input control high) q j e =
      let found = then_is (λ (s : Switching). switch_port a.uses s x) (switch_of a.plan o) q e in
      switch-apart (goes_out a.uses found.0 x) (goes_in a.uses found.0 x) found.0 q j found.2

  pub supply-apart : (x : Path) (j : ℕ) (c : ConnectionView) → IsIn c (map (λ (q : PortView). joined_to q.name (NetBit q.name ∷ [])) (added_supply_ports p a x)) → bytes_eq c.port (control_net j) ≡ false
  supply-apart x j c h =
      let port = of-map (λ (q : PortView). joined_to q.name (NetBit q.name ∷ [])) c (added_supply_ports p a x) h in
      let found = of-some (origin_port p a.plan a.uses x) port.0 (numbered 0 (network_of p).origins) port.1 in
      ap (λ (d : ConnectionView). bytes_eq d.port (control_net j)) port.2 ∙ kind-apart x found.0.0 found.0.1 port.0 j found.2

  module _ (few : length a.controls < 2 ^ 64) (i : Name) (x : Path) (n : Name) (b : Option ℕ) (own : Path)
      (has : has_part a.controls (part_at (Inner n b own) (i ∷ x) PortIn) ≡ true) (come : carries a.controls (Inner n b own) x ≡ true) (oneway : IsOneWay a.controls (Inner n b own) x) where
    abbrev control : Node
    control = Inner n b own

    abbrev made : List Part
    made = a.controls

    abbrev part : Part
    part = part_at control (i ∷ x) PortIn

    abbrev stand : List Part
    stand = filter (λ (t : Part). same_path t.path (i ∷ x)) made

    it : (y : ℕ × Part) × IsIn y (parts_in made (i ∷ x)) × (same_part part y.1 ≡ true) × (first (λ z. same_part part z.1) (parts_in made (i ∷ x)) ≡ Some y)
    it = found-part made control (i ∷ x) PortIn has

    abbrev net : Name
    net = control_net it.0.0

    is-part : (it.0.1.kind ≡ PortIn) × (it.0.1.control ≡ control)
    is-part = part-kind made control (i ∷ x) PortIn it.0 it.2

    port : IsIn (scalar net Input) (added_ports p a (i ∷ x))
    port = in-right (scalar net Input) (added_supply_ports p a (i ∷ x)) (control_ports made (i ∷ x)) (in-some control_port it.0 (scalar net Input) (parts_in made (i ∷ x)) it.1 (ap (port_of_kind it.0.0) is-part.0))

    small : (z : ℕ × Part) → IsIn z (parts_in made (i ∷ x)) → z.0 < 2 ^ 64
    small z h =
        let inside = slice_get_within stand z.0 z.1 (at-numbered stand z h) in
        let short = filter-short (λ (t : Part). same_path t.path (i ∷ x)) made in
        omega (arith, inside, short, few)

    same-part : (z : ℕ × Part) → IsIn z (parts_in made (i ∷ x)) → z.0 ≡ it.0.0 → z.1 ≡ it.0.1
    same-part z h e = let same : Some z.1 ≡ Some it.0.1 = sym (at-numbered stand z h) ∙ (ap (slice_get stand) e ∙ at-numbered stand it.0 it.1) in cc

    connected : bits_named net (added_connections p a x (i ∷ x)) ≡ control_bits a.chains made x control
    connected =
        bits-behind net (map (λ (q : PortView). joined_to q.name (NetBit q.name ∷ [])) (added_supply_ports p a (i ∷ x))) (control_connections a.chains made x (i ∷ x)) (supply-apart (i ∷ x) it.0.0)
        ∙ (ap (bits_named net) (sym (append-none (control_connections a.chains made x (i ∷ x))))
        ∙ bits-there net (control_bits a.chains made x control) (control_connections a.chains made x (i ∷ x)) [] (joined_to net (control_bits a.chains made x control))
        (in-some (control_connection a.chains made x) it.0 (joined_to net (control_bits a.chains made x control)) (parts_in made (i ∷ x)) it.1
        (ap (λ kind. when (not (same_part_kind kind Between)) (joined_to net (control_bits a.chains made x it.0.1.control))) is-part.0 ∙ ap (λ j. Some (joined_to net (control_bits a.chains made x j))) is-part.1))
        (name-self net)
        (λ d g e.
        let source = of-some (control_connection a.chains made x) d (parts_in made (i ∷ x)) g in
        let is = of-when-is (not (is_between source.0.1)) (joined_to (control_net source.0.0) (control_bits a.chains made x source.0.1.control)) d source.2 in
        let same = name-true (control_net source.0.0) net (ap (λ (c : ConnectionView). bytes_eq c.port net) (sym is) ∙ e) in
        let number = control-number source.0.0 it.0.0 (small source.0 source.1) (small it.0 it.1) same in
        ap (λ (c : ConnectionView). c.bits) is ∙ (ap (λ (t : Part). control_bits a.chains made x t.control) (same-part source.0 source.1 number) ∙ ap (control_bits a.chains made x) is-part.1)))

    -- where the control is in the parent
    source : (v : BitView) × (control_bits a.chains made x control ≡ v ∷ []) × (node_of x v ≡ name_by p a (control_spot made control x))
    source = by (same_path own x) refl come
      where
        by : (s : Bool) → same_path own x ≡ s → (s || (has_part made (part_at control x Between) || (has_part made (part_at control x PortOut) || has_part made (part_at control x PortIn)))) ≡ true
            → (v : BitView) × (control_bits a.chains made x control ≡ v ∷ []) × (node_of x v ≡ name_by p a (control_spot made control x))
        by true is h = (
          renamed a.chains x (bit_of n b),
          ap (λ c. if c then renamed a.chains x (bit_of n b) ∷ [] else carried (parts_in made x) control) is,
          ap (λ y. node_of y (renamed a.chains y (bit_of n b))) (sym (path-true own x is)) ∙ sym (ap (λ c. name_by p a (if c then OfNode control else Routed (part_in made control x))) is),
        )
        by false is h =
            let got = carried-as made control x h oneway in (
              NetBit (control_net got.2.number),
              ap (λ c. if c then renamed a.chains x (bit_of n b) ∷ [] else carried (parts_in made x) control) is ∙ got.2.bits,
              sym (ap (λ c. name_by p a (if c then OfNode control else Routed (part_in made control x))) is ∙ (ap (λ t. name_by p a (Routed t)) got.1 ∙ got.2.name)),
            )

    module _ (free : LeavesNames p.structure) (w : Structure) (written : IsWrittenAt p a w) (m : ModuleView) (e : module_at p.structure (i ∷ x) ≡ Some m) (at : Placement) (from : Way → Node) where
      leads : LeadsTo w (node_of x source.0) (Inner net None (i ∷ x))
      leads = added-input p a free w written i x m e net refl port source.0 (connected ∙ source.1)

      driven : drive p (done_of a) from (Routed part) ≡ Some (FromSpot (control_spot made control x))
      driven = ap (λ c. when c (FromSpot (part_from made control (i ∷ x) PortIn))) has

      pub control-stands : StandsFor p a w at from (Routed part)
      control-stands =
          subst (IsWired p w at (name_by p a) (Routed part)) (sym driven)
          (subst (λ j. LeadsTo w j (name_by p a (Routed part))) source.2 (subst (LeadsTo w (node_of x source.0)) (sym (ap (name_of_part part) it.3)) leads))

pub controls-come-down : ControlsComeDown
controls-come-down p a w at from written free few i x m e n b own has come oneway = control-stands p a few i x n b own has come oneway free w written m e at from
