-- A net bit that has a source is driven as the wire that has this net bit, and one whose wire nothing drives has none.
use Rattle.std.proofs.Common.{◌≡◌, ℕ, List, [], ◌∷◌, ◌++◌, Option, Some, None, inl, refl, sym, ◌∙◌, ap, subst}
use Rattle.std.specs.Prelude.{flat_map, option_and_then}
use Rattle.lp_model.specs.NetlistView.{ModuleView}
use Rattle.lp_spec_design.specs.Keys.{Name, Path, Node, Inner, Outer, Fixed, Way, Source}
use Rattle.lp_spec_design.specs.Netlists.{Structure, module_at}
use Rattle.lp_spec_design.specs.Graph.{numbered, ports_in, from_one, from_assign, sources_of, source_of, way_in}
use Rattle.lp_spec_design.specs.Winners.{IsIn}
use Rattle.lp_spec_design.proofs.Looped.{source_by}
use Rattle.lp_spec_realises.specs.Projects.{Project}
use Rattle.lp_spec_realises.specs.Operators.{Placement}
use Rattle.lp_spec_realises.specs.Ends.{own_end, end_across}
use Rattle.lp_spec_written.specs.Places.{instances}
use Rattle.lp_spec_written.specs.Written.{Additions}
use Rattle.lp_spec_hub.specs.Spots.{Spot, OfNode, Behind, Before, Lead, Carried, Routed, Drive, AsSource, ByOperator, BySwitch, ByPort, FromSpot}
use Rattle.lp_spec_hub.specs.Drives.{drive, drive_by}
use Rattle.lp_spec_hub.specs.Begins.{IsWired}
use Rattle.lp_spec_wired.specs.Contents.{IsWrittenAt}
use Rattle.lp_spec_wired.specs.Names.{name_by, placement_by}
use Rattle.lp_spec_wired.specs.Laws.{done_of, StandsFor}
use Rattle.lp_spec_written_at.proofs.Modules.{in-instances}
use Rattle.lp_spec_driven.specs.Wires.{IsThere, Gives}
use Rattle.lp_spec_driven.specs.Sound.{IsProper}
use Rattle.lp_spec_driven.specs.Laws.{DrivenAsTold, UndrivenStand}
use Rattle.lp_spec_driven.proofs.Sources.{in-by}
use Rattle.lp_spec_driven.proofs.WiresApart.{wires-apart}
use Rattle.lp_spec_driven.proofs.Given.{sources-give}
use Rattle.lp_spec_driven.proofs.Inputs.{comes-in-by}

-- a source that is what drives the wire
wired : (p : Project) (w : Structure) (at : Placement) (name : Spot → Node) (x : Spot) (d : Drive) (y : Source) → source_of w (name x) ≡ Some y → Gives p w at name x d y → IsWired p w at name x (Some d)
wired p w at name (OfNode k) (AsSource z) y e g = record { first = ap way_in e ∙ g.first; own = ap (own_end (name (OfNode k))) e ∙ g.own }
wired p w at name (Behind v k) (AsSource z) y e g = tt
wired p w at name (Before v k) (AsSource z) y e g = tt
wired p w at name (Lead v) (AsSource z) y e g = tt
wired p w at name (Carried o u) (AsSource z) y e g = tt
wired p w at name (Routed t) (AsSource z) y e g = tt
wired p w at name x (ByOperator way k) y e g = record { first = ap way_in e ∙ g.first; own = ap (own_end (name x)) e ∙ g.own }
wired p w at name x (BySwitch o) y e g = record { first = ap way_in e ∙ g.first; own = ap (own_end (name x)) e ∙ g.own }
wired p w at name x (ByPort o) y e g = record { leads = record { way = g.leads.way; source = e ∙ ap (λ t. Some t) g.leads.is }; starts = g.starts }
wired p w at name x (FromSpot z) y e g = record { way = g.way; source = e ∙ ap (λ t. Some t) g.is }

module _ (p : Project) (a : Additions) (w : Structure) (from : Way → Node) (written : IsWrittenAt p a w) (proper : IsProper p a from) (wire : Spot) (there : IsThere p a wire)
    (n : Name) (i : Option ℕ) (x : Path) (name : name_by p a wire ≡ Inner n i x) (m here : ModuleView) (e : module_at p.structure x ≡ Some m) (f : module_at w x ≡ Some here) where
  abbrev at : Placement
  at = placement_by p a

  abbrev others : List Source
  others = flat_map (from_one w x n i) here.instances ++ flat_map (from_assign x n i) (numbered 0 here.assigns)

  inside : IsIn x (instances p)
  inside = in-instances p a proper.fit.free proper.fit.listed x m e

  -- from an input port
  by-port : (z : Source) → IsIn z (ports_in w x n i here) → StandsFor p a w at from wire
  by-port z h =
      let found = comes-in-by p a w at from written proper x m here e f n i z h in
      subst (StandsFor p a w at from) (wires-apart p a proper.names found.wire wire found.there there (found.name ∙ sym name)) found.stands

  -- from anywhere else
  by-other : (z : Source) → IsIn z others → source_of w (Inner n i x) ≡ Some z → StandsFor p a w at from wire
  by-other z h source =
      let found = sources-give p a w from written proper x m here e inside f n i z h in
      let same : found.wire ≡ wire = wires-apart p a proper.names found.wire wire found.there there (found.name ∙ sym name) in
      subst (StandsFor p a w at from) same
      (subst (IsWired p w at (name_by p a) found.wire) (sym found.is)
      (wired p w at (name_by p a) found.wire found.driven z (ap (source_of w) found.name ∙ source) found.gives))

  split : sources_of w (Inner n i x) ≡ ports_in w x n i here ++ others
  split = in-by w x n i here f

  by-lists : (y : Source) (ports rest : List Source) → ports_in w x n i here ≡ ports → others ≡ rest → source_of w (Inner n i x) ≡ Some y → StandsFor p a w at from wire
  by-lists y (z ∷ more) rest g h e2 = by-port z (subst (λ l. IsIn z l) (sym g) (inl refl))
  by-lists y [] (z ∷ more) g h e2 = by-other z (subst (λ l. IsIn z l) (sym h) (inl refl)) (source_by w (Inner n i x) (z ∷ more) (split ∙ (ap (λ l. l ++ others) g ∙ h)))
  by-lists y [] [] g h e2 = let none : None ≡ Some y = sym (source_by w (Inner n i x) [] (split ∙ (ap (λ l. l ++ others) g ∙ h))) ∙ e2 in absurd cc

  pub as-told : (y : Source) → source_of w (Inner n i x) ≡ Some y → StandsFor p a w at from wire
  as-told y e2 = by-lists y (ports_in w x n i here) others refl refl e2

pub driven-as-told : DrivenAsTold
driven-as-told p a w from written proper wire there n i x name m e y source =
    let at_path = written.modules x m e in
    as-told p a w from written proper wire there n i x name m at_path.here e at_path.is y source

-- ---- a wire that nothing drives

undriven-node : (p : Project) (a : Additions) (w : Structure) (from : Way → Node) (k : Node) (n : Name) (i : Option ℕ) (x : Path) → name_by p a (OfNode k) ≡ Inner n i x → source_of w (Inner n i x) ≡ None
    → (o : Option Source) → source_of p.structure k ≡ o → drive p (done_of a) from (OfNode k) ≡ None → StandsFor p a w (placement_by p a) from (OfNode k)
undriven-node p a w from k n i x name none (Some z) e undriven =
    let bad : Some (drive_by a.plan.operators z) ≡ None = sym (ap (option_and_then (λ t. Some (drive_by a.plan.operators t))) e) ∙ undriven in absurd cc
undriven-node p a w from (Fixed b) n i x name none None e undriven = let bad : Fixed b ≡ Inner n i x = name in absurd cc
undriven-node p a w from (Outer m j) n i x name none None e undriven = let bad : Outer m j ≡ Inner n i x = name in absurd cc
undriven-node p a w from (Inner m j y) n i x name none None e undriven =
    subst (IsWired p w (placement_by p a) (name_by p a) (OfNode (Inner m j y))) (sym undriven)
    (record {
      first = ap (λ t. way_in (source_of w t)) name ∙ ap way_in none;
      own =
          ap (λ t. own_end t (source_of w t)) name
          ∙ (ap (own_end (Inner n i x)) none
          ∙ sym (ap (λ t. end_across p.structure w (own_end (Inner m j y) t)) e));
    })

by-wire : (p : Project) (a : Additions) (w : Structure) (from : Way → Node) (wire : Spot) (n : Name) (i : Option ℕ) (x : Path) → name_by p a wire ≡ Inner n i x → source_of w (Inner n i x) ≡ None → drive p (done_of a) from wire ≡ None → StandsFor p a w (placement_by p a) from wire
by-wire p a w from (OfNode k) n i x name none e = undriven-node p a w from k n i x name none (source_of p.structure k) refl e
by-wire p a w from (Behind v k) n i x name none e = subst (IsWired p w (placement_by p a) (name_by p a) (Behind v k)) (sym e) tt
by-wire p a w from (Before v k) n i x name none e = subst (IsWired p w (placement_by p a) (name_by p a) (Before v k)) (sym e) tt
by-wire p a w from (Lead v) n i x name none e = subst (IsWired p w (placement_by p a) (name_by p a) (Lead v)) (sym e) tt
by-wire p a w from (Carried o u) n i x name none e = subst (IsWired p w (placement_by p a) (name_by p a) (Carried o u)) (sym e) tt
by-wire p a w from (Routed t) n i x name none e = subst (IsWired p w (placement_by p a) (name_by p a) (Routed t)) (sym e) tt

pub undriven-stand : UndrivenStand
undriven-stand p a w from written proper wire there n i x name m e undriven = by (source_of w (Inner n i x)) refl
  where
    by : (o : Option Source) → source_of w (Inner n i x) ≡ o → StandsFor p a w (placement_by p a) from wire
    by None g = by-wire p a w from wire n i x name g undriven
    by (Some y) g = driven-as-told p a w from written proper wire there n i x name m e y g
