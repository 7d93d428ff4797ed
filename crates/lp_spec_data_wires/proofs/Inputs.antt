-- Net bits inside input ports, and what the first operator inside such a port reads.
use Rattle.std.proofs.Common.{◌≡◌, ℕ, Bool, true, false, List, [], ◌∷◌, ◌++◌, length, Option, Some, inl, inr, refl, sym, ◌∙◌, ap, subst}
use Rattle.std.specs.Prelude.{slice_get, option_and_then}
use Rattle.std.specs.List.{list_any}
use Rattle.std.proofs.lemmas.Bool.{both_ways}
use Rattle.lp_model.specs.NetlistView.{PortView, InstanceView, ModuleView}
use Rattle.lp_spec_design.specs.Keys.{Name, Path, same_path, same_index, same_bool, Node, Inner, Outer, Way, PortBit, Source, From}
use Rattle.lp_spec_design.specs.Netlists.{Structure, module_named, instance_named, module_at, indices, is_input}
use Rattle.lp_spec_design.specs.Graph.{from_port, source_of}
use Rattle.lp_spec_design.specs.Reads.{path-true, path-self}
use Rattle.lp_spec_design.specs.Winners.{IsIn}
use Rattle.lp_spec_design.proofs.Sources.{then_is}
use Rattle.lp_spec_design.proofs.Members.{in-left, in-right}
use Rattle.lp_spec_realises.specs.Projects.{Project}
use Rattle.lp_spec_realises.specs.Implements.{parent_of}
use Rattle.lp_spec_written.specs.Places.{instances, Standing}
use Rattle.lp_spec_written.specs.Written.{Additions}
use Rattle.lp_spec_hub.specs.Spots.{Spot, OfNode, Before, on_way, is_behind}
use Rattle.lp_spec_wired.specs.Contents.{IsWrittenAt}
use Rattle.lp_spec_wired.specs.Names.{placement_by}
use Rattle.lp_spec_wired.specs.Laws.{StandsFor, IsOnlyInput}
use Rattle.lp_spec_wired.proofs.Kept.{inputs-come-down, inner-reads-come-down}
use Rattle.lp_spec_wired.proofs.Tops.{top-inputs-come-in, top-reads-come-in}
use Rattle.lp_spec_written_at.proofs.Modules.{in-instances}
use Rattle.lp_spec_driven.specs.Sound.{IsProper, node_behind, behind_by}
use Rattle.lp_spec_driven.proofs.Edges.{path_of_way, bit_of_port}
use Rattle.lp_spec_data_wires.proofs.Flow.{Edged}
use Rattle.lp_spec_data_wires.proofs.Ports as ports

module _ (p : Project) (a : Additions) (w : Structure) (from : Way → Node) (written : IsWrittenAt p a w) (proper : IsProper p a from) where
  abbrev s : Structure
  s = p.structure

  abbrev Stands : Spot → Type 0
  Stands x = StandsFor p a w (placement_by p a) from x

  module _ (x : Path) (m : ModuleView) (e : module_at s x ≡ Some m) (q : PortView) (q_in : IsIn q m.ports) (input : is_input q ≡ true) (i : Option ℕ) where
    abbrev way : Way
    way = PortBit x q.name i

    abbrev self : Node
    self = Inner q.name i x

    abbrev here : List Standing
    here = on_way a.plan.operators way

    only : IsOnlyInput m q
    only = record { listed = q_in; input = input; alone = proper.plain.ports x m q e q_in }

    -- the way leads to it
    behind-is : (o : Standing) → IsIn o here → node_behind s o.asked.bit ≡ self
    behind-is o h =
        ap (behind_by s o.asked.bit o.asked.bit.path) (ap is_input (ports.port-is p a w from written proper x m e q q_in i o h) ∙ input)
        ∙ ap bit_of_port (ports.on-plan p a w from written proper way o h).1

    side-is : (o : Standing) → IsIn o here → is_behind o ≡ same_path o.path x
    side-is o h = ports.side-is p a w from written proper x m e q q_in i o h ∙ ap (λ t. same_bool t (same_path o.path x)) input

    inside-is : (o : Standing) → IsIn o here → is_behind o ≡ true → o.path ≡ x
    inside-is o h side = path-true o.path x (sym (side-is o h) ∙ side)

    outside-is : (o : Standing) → IsIn o here → is_behind o ≡ false → o.path ≡ parent_of x
    outside-is o h side =
        let on = ports.on-plan p a w from written proper way o h in
        elim (proper.on_ways.near o on.0) [
          | inl own ↦ absurd (both_ways (is_behind o) side (side-is o h ∙ (ap (λ u. same_path u x) (own ∙ ap path_of_way on.1) ∙ path-self x)))
          | inr up ↦ up ∙ ap (λ v. parent_of (path_of_way v)) on.1
        ]

    comes : (o : Standing) → IsIn o here → (j : Node) → source_of s self ≡ Some (From way j) → from way ≡ j
    comes o h j source = ports.comes-is p a w from written proper way o h self j (behind-is o h) source

  -- ---- the top

  module _ (m : ModuleView) (e : module_at s [] ≡ Some m) (q : PortView) (q_in : IsIn q m.ports) (input : is_input q ≡ true) (i : Option ℕ) (ranged : list_any (same_index i) (indices q.range) ≡ true) where
    abbrev top_way : Way
    top_way = PortBit [] q.name i

    abbrev at_top : List Standing
    at_top = on_way a.plan.operators top_way

    all-in : (o : Standing) → IsIn o at_top → is_behind o ≡ true
    all-in o h = by (is_behind o) refl
      where
        by : (d : Bool) → is_behind o ≡ d → is_behind o ≡ true
        by true is = is
        by false is = side-is [] m e q q_in input i o h ∙ (ap (λ u. same_path u []) (outside-is [] m e q q_in input i o h is) ∙ refl)

    pub top-node : Stands (OfNode (Inner q.name i []))
    top-node = ports.node-stands p a w from written proper top_way (Inner q.name i []) (behind-is [] m e q q_in input i) (by at_top refl)
      where
        by : (os : List Standing) → at_top ≡ os → ((o : Standing) → IsIn o at_top → is_behind o ≡ false) → Stands (OfNode (Inner q.name i []))
        by [] list none = top-inputs-come-in p a w (placement_by p a) from written proper.names.chains m e q i (only [] m e q q_in input i) ranged list
        by (o ∷ os) list none = let o_in : IsIn o at_top = subst (λ l. IsIn o l) (sym list) (inl refl) in absurd (both_ways (is_behind o) (none o o_in) (all-in o o_in))

    pub top-reading : source_of s (Inner q.name i []) ≡ Some (From top_way (Outer q.name i)) → (k : ℕ) (o : Standing) → slice_get at_top k ≡ Some o → is_behind o ≡ true → Stands (Before top_way k)
    top-reading source k o f side = ports.reading-stands p a w from written proper top_way k o f side (λ edged. by edged edged.outer refl)
      where
        by : (edged : Edged at_top k o) (os : List Standing) → edged.outer ≡ os → Stands (Before top_way k)
        by edged [] list =
            let all : at_top ≡ o ∷ edged.inner = edged.all ∙ ap (λ l. l ++ (o ∷ edged.inner)) list in
            let o_in : IsIn o at_top = subst (λ l. IsIn o l) (sym all) (inl refl) in
            subst (λ n. Stands (Before top_way n)) (ap length (sym list) ∙ edged.long)
            (top-reads-come-in p a w (placement_by p a) from written proper.names.chains proper.names.stand proper.names.bits m e q i (only [] m e q q_in input i) ranged o edged.inner all
            (inside-is [] m e q q_in input i o o_in (all-in o o_in)) (comes [] m e q q_in input i o o_in (Outer q.name i) source))
        by edged (r ∷ os) list =
            let front : IsIn r edged.outer = subst (λ l. IsIn r l) (sym list) (inl refl) in
            let r_in : IsIn r at_top = subst (λ l. IsIn r l) (sym (edged.all ∙ ap (λ l. l ++ (o ∷ edged.inner)) list)) (inl refl) in
            absurd (both_ways (is_behind r) (edged.front r front) (all-in r r_in))

  -- ---- below the top

  module _ (inst : Name) (up : Path) (m : ModuleView) (e : module_at s (inst ∷ up) ≡ Some m) (q : PortView) (q_in : IsIn q m.ports) (input : is_input q ≡ true) (i : Option ℕ)
      (j : Node) (more : List Source) (joined : from_port s (inst ∷ up) q.name i q ≡ From (PortBit (inst ∷ up) q.name i) j ∷ more) where
    abbrev low_way : Way
    low_way = PortBit (inst ∷ up) q.name i

    abbrev low : List Standing
    low = on_way a.plan.operators low_way

    above : IsIn up (instances p)
    above =
        let parent = then_is (λ (k : ModuleView). option_and_then (λ (z : InstanceView). module_named s z.target) (instance_named k inst)) (module_at s up) m e in
        in-instances p a proper.fit.free proper.fit.listed up parent.0 parent.1

    pub low-node : Stands (OfNode (Inner q.name i (inst ∷ up)))
    low-node = ports.node-stands p a w from written proper low_way (Inner q.name i (inst ∷ up)) (behind-is (inst ∷ up) m e q q_in input i)
        (λ none. inputs-come-down p a w (placement_by p a) from written proper.plain.leaves proper.names.chains inst up m e above q i (only (inst ∷ up) m e q q_in input i)
        (λ o h. outside-is (inst ∷ up) m e q q_in input i o h (none o h)) j more joined)

    pub low-reading : source_of s (Inner q.name i (inst ∷ up)) ≡ Some (From low_way j) → (k : ℕ) (o : Standing) → slice_get low k ≡ Some o → is_behind o ≡ true → Stands (Before low_way k)
    low-reading source k o f side = ports.reading-stands p a w from written proper low_way k o f side (λ edged. by edged)
      where
        by : Edged low k o → Stands (Before low_way k)
        by edged =
            let in-front : (r : Standing) → IsIn r edged.outer → IsIn r low = λ r h. subst (λ l. IsIn r l) (sym edged.all) (in-left r edged.outer (o ∷ edged.inner) h) in
            let in-back : (r : Standing) → IsIn r (o ∷ edged.inner) → IsIn r low = λ r h. subst (λ l. IsIn r l) (sym edged.all) (in-right r edged.outer (o ∷ edged.inner) h) in
            subst (λ n. Stands (Before low_way n)) edged.long
            (inner-reads-come-down p a w (placement_by p a) from written proper.plain.leaves proper.names.chains inst up m e above (in-instances p a proper.fit.free proper.fit.listed (inst ∷ up) m e) q i (only (inst ∷ up) m e q q_in input i)
            edged.outer o edged.inner
            (record {
              all = edged.all;
              outside = λ r h. outside-is (inst ∷ up) m e q q_in input i r (in-front r h) (edged.front r h);
              inside = λ r h. inside-is (inst ∷ up) m e q q_in input i r (in-back r h) (edged.back r h);
            })
            j more joined (comes (inst ∷ up) m e q q_in input i o (in-back o (inl refl)) j source))
