-- The judging stages: what they give and their faults.
use Rattle.std.proofs.Common.{◌≡◌, ℕ, ◌+◌, ◌≤◌, true, false, List, [], ◌∷◌, ◌++◌, map, length, Option, Some, None, ◌⊎◌, inl, inr, refl, sym, ap, ◌∙◌, subst, arith}
use Rattle.std.specs.Prelude.{Err, ◌&&◌, flat_map, ltb}
use Rattle.std.specs.List.{list_all}
use Rattle.std.proofs.lemmas.Bool.{and_parts}
use Rattle.std.proofs.lemmas.List.{map-append, length-append, length-map}
use Rattle.lp_text.specs.Texts.{text_at, distinct, distinct-append_left}
use Rattle.lp_model.specs.Agreement.{numbers_below}
use Rattle.lp_model.specs.declared.netlist.BitRange.{BitRange}
use Rattle.lp_model.specs.declared.netlist.Module.{Module}
use Rattle.lp_model.specs.declared.netlist.Port.{Port}
use Rattle.lp_model.specs.declared.netlist.NetDecl.{NetDecl}
use Rattle.lp_model.specs.NetlistView.{PortView, NetView, InstanceView, ModuleView, port_view, net_view, module_view, port_numbers, net_numbers, instance_numbers, assign_numbers, module_numbers}
use Rattle.lp_model.specs.LibraryView.{CellView}
use Rattle.lp_plain_upf.specs.declared.plain.Intent.{Intent}
use Rattle.lp_plain_upf.specs.Upf.{IsIntent}
use Rattle.lp_plain_index.proofs.Numbers.{below-left, below-right, below-tail}
use Rattle.lp_vwrite.specs.WellFormed.{names_of, is_name, is_net, is_assign}
use Rattle.lp_vwrite.specs.Sound.{is_read_instance, is_read_module}
use Rattle.lp_vwrite.specs.Layout.{declared}
use Rattle.lp_spec_plain_netlist.specs.Fits.{is_fit, are_plain, is_read_cell, are_read}
use Rattle.lp_spec_insertion.specs.Faults.{not_yet}
use Rattle.lp_accept.specs.declared.stop.Stop.{Stop}
use Rattle.lp_accept.specs.declared.stop.Stop.TheVariants as stops
use Rattle.lp_accept.specs.Stages.{IsLine, OrStop}
use Rattle.lp_accept.specs.Judged.{Fitting, Misfits, NoIntent, Unsound, Judged, Unjudged, Looped}
use Rattle.lp_accept.proofs.Few.{few-distinct}

-- a stop by a line whose fault stands
pub stops-line : {T : Type 0} (P : T → Type 0) (Q : List ℕ → Type 0) (line : List ℕ) (s : Stop) → IsLine line s → Q line → OrStop P Q (Err s)
stops-line P Q line (stops.Fault l) e q = subst Q (sym e) q
stops-line P Q line stops.NoMemory e q = tt

-- ---- no more nets than names

module _ (names : List (List ℕ)) where
  net-numbers : Module → List ℕ
  net-numbers m = map (λ (p : Port). p.name.0) m.ports ++ map (λ (n : NetDecl). n.name.0) m.nets

  ports-below : (ps : List Port) (k : ℕ) → numbers_below k (flat_map port_numbers ps) ≡ true → numbers_below k (map (λ p. p.name.0) ps) ≡ true
  ports-below [] k h = refl
  ports-below (p ∷ ps) k h = let parts = and_parts (ltb p.name.0 k) (numbers_below k (flat_map port_numbers ps)) h in ap (λ b. b && numbers_below k (map (λ x. x.name.0) ps)) parts.0 ∙ ports-below ps k parts.1

  nets-below : (ns : List NetDecl) (k : ℕ) → numbers_below k (flat_map net_numbers ns) ≡ true → numbers_below k (map (λ n. n.name.0) ns) ≡ true
  nets-below [] k h = refl
  nets-below (n ∷ ns) k h = let parts = and_parts (ltb n.name.0 k) (numbers_below k (flat_map net_numbers ns)) h in ap (λ b. b && numbers_below k (map (λ x. x.name.0) ns)) parts.0 ∙ nets-below ns k parts.1

  abbrev first : List ℕ × Option BitRange → List ℕ
  first n = n.0

  ports-texts : (ps : List Port) → map first (map (λ (p : PortView). (p.name, p.range)) (map (port_view names) ps)) ≡ map (text_at names) (map (λ (p : Port). p.name.0) ps)
  ports-texts [] = refl
  ports-texts (p ∷ ps) = ap (λ xs. text_at names p.name.0 ∷ xs) (ports-texts ps)

  nets-texts : (ns : List NetDecl) → map first (map (λ (n : NetView). (n.name, n.range)) (map (net_view names) ns)) ≡ map (text_at names) (map (λ (n : NetDecl). n.name.0) ns)
  nets-texts [] = refl
  nets-texts (n ∷ ns) = ap (λ xs. text_at names n.name.0 ∷ xs) (nets-texts ns)

  texts-of : (m : Module) → map first (declared (module_view names m)) ≡ map (text_at names) (net-numbers m)
  unfolding net-numbers
  texts-of m =
      map-append first (map (λ (p : PortView). (p.name, p.range)) (map (port_view names) m.ports)) (map (λ (n : NetView). (n.name, n.range)) (map (net_view names) m.nets))
      ∙ (λ i. ports-texts m.ports i ++ nets-texts m.nets i)
      ∙ sym (map-append (text_at names) (map (λ (p : Port). p.name.0) m.ports) (map (λ (n : NetDecl). n.name.0) m.nets))

  numbers-below : (m : Module) → numbers_below (length names) (module_numbers m) ≡ true → numbers_below (length names) (net-numbers m) ≡ true
  unfolding net-numbers
  numbers-below m b =
      let k = length names in
      let ports = flat_map port_numbers m.ports in
      let nets = flat_map net_numbers m.nets in
      let others = flat_map instance_numbers m.instances ++ flat_map assign_numbers m.assigns in
      let all = below-tail k m.name.0 (ports ++ (nets ++ others)) b in
      let first = below-left k ports (nets ++ others) all in
      let second = below-left k nets others (below-right k ports (nets ++ others) all) in
      joined k (map (λ p. p.name.0) m.ports) (map (λ n. n.name.0) m.nets) (ports-below m.ports k first) (nets-below m.nets k second)
    where
      joined : (k : ℕ) (xs ys : List ℕ) → numbers_below k xs ≡ true → numbers_below k ys ≡ true → numbers_below k (xs ++ ys) ≡ true
      joined k [] ys h g = g
      joined k (x ∷ xs) ys h g = let parts = and_parts (ltb x k) (numbers_below k xs) h in ap (λ b. b && numbers_below k (xs ++ ys)) parts.0 ∙ joined k xs ys parts.1 g

  -- a module that was read has no more nets than the table has names
  few-nets : (m : Module) → numbers_below (length names) (module_numbers m) ≡ true → is_read_module (module_view names m) ≡ true → length m.ports + length m.nets ≤ length names
  unfolding net-numbers
  few-nets m b h =
      let v = module_view names m in
      let behind_apart = list_all (is_read_instance (declared v)) v.instances && list_all (is_assign (declared v)) v.assigns in
      let g0 = and_parts (is_name v.name) (list_all is_net (declared v) && (distinct (names_of v) && behind_apart)) h in
      let g1 = and_parts (list_all is_net (declared v)) (distinct (names_of v) && behind_apart) g0.1 in
      let g2 = and_parts (distinct (names_of v)) behind_apart g1.1 in
      let apart = distinct-append_left (map first (declared v)) (map (λ (i : InstanceView). i.name) v.instances) g2.0 in
      let few = few-distinct names (length names) (net-numbers m) (ap distinct (sym (texts-of m)) ∙ apart) (numbers-below m b) in
      let e = length-append (map (λ (p : Port). p.name.0) m.ports) (map (λ (n : NetDecl). n.name.0) m.nets) in
      let p = length-map m.ports (λ (x : Port). x.name.0) in
      let n = length-map m.nets (λ (x : NetDecl). x.name.0) in
      omega (arith, few, e, p, n)

  pub read-few : (cells : List CellView) (m : Module) → numbers_below (length names) (module_numbers m) ≡ true → are_read cells (module_view names m) ≡ true → length m.ports + length m.nets ≤ length names
  read-few cells m b e = few-nets m b (and_parts (list_all is_read_cell cells) (is_read_module (module_view names m)) e).1

-- ---- the stages joined

pub misfit : {T : Type 0} (P : T → Type 0) (cells : List CellView) (m : ModuleView) (s : Stop) → IsLine (not_yet 4) s → is_fit cells m ≡ false → OrStop P (Misfits cells m) (Err s)
misfit P cells m s e f = stops-line P (Misfits cells m) (not_yet 4) s e (f, refl)

pub no-intent : {T : Type 0} (P : T → Type 0) (text : List ℕ) (o : Option Intent) (s : Stop) → IsLine (not_yet 5) s → o ≡ None → ((i : Intent) → IsIntent text i → o ≡ Some i) → OrStop P (NoIntent text) (Err s)
no-intent P text o s e none only = stops-line P (NoIntent text) (not_yet 5) s e ((λ i is. let gone : None ≡ Some i = sym none ∙ only i is in let no : ⊥ = cc in no), refl)

pub unsound : {T : Type 0} (P : T → Type 0) (cells : List CellView) (m : ModuleView) (s : Stop) → IsLine (not_yet 7) s → (are_plain cells m ≡ false) ⊎ ((are_plain cells m ≡ true) × Looped cells m) → OrStop P (Unsound cells m) (Err s)
unsound P cells m s e why = stops-line P (Unsound cells m) (not_yet 7) s e (record { why = why; spelled = refl })

pub stop-fit : (cells : List CellView) (m : ModuleView) (text : List ℕ) (s : Stop) {T : Type 0} (P : T → Type 0) → OrStop P (Misfits cells m) (Err s) → OrStop (Judged cells m text) (Unjudged cells m text) (Err s)
stop-fit cells m text (stops.Fault l) P h = inl h
stop-fit cells m text stops.NoMemory P h = tt

pub stop-intent : (cells : List CellView) (m : ModuleView) (text : List ℕ) (s : Stop) {T : Type 0} (P : T → Type 0) → Fitting cells m → OrStop P (NoIntent text) (Err s) → OrStop (Judged cells m text) (Unjudged cells m text) (Err s)
stop-intent cells m text (stops.Fault l) P f h = inr (f, inl h)
stop-intent cells m text stops.NoMemory P f h = tt

pub stop-sound : (cells : List CellView) (m : ModuleView) (text : List ℕ) (i : Intent) (s : Stop) {T : Type 0} (P : T → Type 0) → Fitting cells m → IsIntent text i → OrStop P (Unsound cells m) (Err s) → OrStop (Judged cells m text) (Unjudged cells m text) (Err s)
stop-sound cells m text i (stops.Fault l) P f is h = inr (f, inr (record { under = i; intent = is; unsound = h }))
stop-sound cells m text i stops.NoMemory P f is h = tt
