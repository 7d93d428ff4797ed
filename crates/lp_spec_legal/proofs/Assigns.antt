-- The assigns of a written module are well formed.
use Rattle.std.proofs.Common.{◌≡◌, ◌≤◌, ℕ, Bool, true, false, not, ◌&&◌, ◌||◌, List, [], ◌∷◌, ◌++◌, map, length, Option, Some, None, inl, inr, refl, sym, ap, ◌∙◌, subst, arith}
use Rattle.std.specs.Prelude.{filter, is_some, if◌then◌else◌}
use Rattle.std.specs.List.{list_any, list_all}
use Rattle.std.proofs.lemmas.Bool.{false≢true, and_parts, and_from}
use Rattle.lp_model.specs.NetlistView.{BitView, NetBit, SelectBit, ConstBit, AssignView, ModuleView}
use Rattle.lp_vwrite.specs.Layout.{declared}
use Rattle.lp_vwrite.specs.WellFormed.{is_bit, is_constant, is_filled, is_assign}
use Rattle.lp_spec_design.specs.Keys.{Name, Path, same_path, Inner}
use Rattle.lp_spec_design.specs.Netlists.{first, module_at, is_input}
use Rattle.lp_spec_design.specs.Graph.{some_of}
use Rattle.lp_spec_design.specs.Nodes.{IsDeclared}
use Rattle.lp_spec_design.specs.Winners.{IsIn}
use Rattle.lp_spec_design.proofs.Members.{in-either, of-map, of-filter, of-some, of-when, of-numbered}
use Rattle.lp_spec_realises.specs.Projects.{Project}
use Rattle.lp_spec_realises.specs.Implements.{Lists}
use Rattle.lp_spec_faultless.specs.Faults.{IsRead}
use Rattle.lp_spec_written.specs.Places.{plan}
use Rattle.lp_spec_written.specs.Nets as nets
use Rattle.lp_spec_written.specs.Nets.{Stretch, stretches, stretches_in, stood, leads_constant, chain_net, near, or_near, is_own, bit_of, is_inside, renamed, renamed_assign, constant_assign}
use Rattle.lp_spec_written.specs.Routes.{Part, parts, parts_in, part_for, part_bits, is_between, is_own_control, is_led_out, same_part_kind, PortOut, control_net, carried, control_bits, control_assign, control_assigns}
use Rattle.lp_spec_written.specs.Written.{Additions, additions, written_assigns, written_module}
use Rattle.lp_spec_written_at.specs.Laws.{IsReady}
use Rattle.lp_spec_written_at.proofs.Lists.{of-all, all-of}
use Rattle.lp_spec_written_at.proofs.Modules.{from-modules}
use Rattle.lp_spec_written_at.proofs.PartNames.{part-names}
use Rattle.lp_spec_written_at.proofs.SupplyNames.{of-when-is}
use Rattle.lp_spec_written_at.proofs.ControlNodes.{part-good}
use Rattle.lp_spec_written_at.proofs.Declared.{renamed-bit, control-here}
use Rattle.lp_spec_written_at.proofs.JoinedBits.{assign-good}
use Rattle.lp_spec_driven.proofs.Short.{stood-short}
use Rattle.lp_spec_proper.specs.Insertable.{IsInsertable, IsWithinLimits}
use Rattle.lp_spec_proper.proofs.Free.{ready}
use Rattle.lp_spec_proper.proofs.Routed.{is-part}
use Rattle.lp_spec_legal.specs.Legal.{IsLegal}
use Rattle.lp_spec_legal.proofs.Names.{read-parts}
use Rattle.lp_spec_legal.proofs.Declares.{declared-bit}

-- ---- lists of bits

map-filled : {A B : Type 0} (f : A → B) (xs : List A) → is_filled xs ≡ true → is_filled (map f xs) ≡ true
map-filled f [] h = absurd (false≢true h)
map-filled f (x ∷ xs) h = refl

any-filled : {A : Type 0} (t : A → Bool) (xs : List A) → list_any t xs ≡ true → is_filled xs ≡ true
any-filled t [] h = absurd (false≢true h)
any-filled t (x ∷ xs) h = refl

-- what stands alone where there is a constant is that constant
lone-constant : (bits : List BitView) → length bits ≤ 1 → list_any nets.is_constant bits ≡ true → (b : BitView) → IsIn b bits → is_constant b ≡ true
lone-constant [] few any b h = absurd h
lone-constant (c ∷ d ∷ rest) few any b h = absurd (omega (arith, few))
lone-constant (c ∷ []) few any b (inr h) = absurd h
lone-constant (ConstBit c ∷ []) few any b (inl is) = ap is_constant is
lone-constant (NetBit n ∷ []) few any b (inl is) = absurd (false≢true any)
lone-constant (SelectBit n i ∷ []) few any b (inl is) = absurd (false≢true any)

-- a net takes the place of a net
renamed-net : (all : List Stretch) (x : Path) (b : BitView) → is_constant b ≡ false → is_constant (renamed all x b) ≡ false
renamed-net all x b h = by (first (is_own x b) all)
  where
    by : (o : Option Stretch) → is_constant (or_near b o) ≡ false
    by None = h
    by (Some s) = refl

not-true : (b : Bool) → not b ≡ true → b ≡ false
not-true true h = absurd (false≢true h)
not-true false h = refl

-- both sides have a bit, and the left one no constant
record IsFormed (a : AssignView) : Type 0 where
  left : is_filled a.left ≡ true
  right : is_filled a.right ≡ true
  free : (b : BitView) → IsIn b a.left → is_constant b ≡ false

module _ (p : Project) (l : Lists) (switch_command : ℕ → ℕ) (read : IsRead p) (insertable : IsInsertable p l switch_command) (limits : IsWithinLimits p l) (legal : IsLegal p) (x : Path) (m : ModuleView) (e : module_at p.structure x ≡ Some m) where
  abbrev a : Additions
  a = additions p l

  abbrev chains : List Stretch
  chains = stretches p (plan p l)

  abbrev here : ModuleView
  here = written_module p a x m

  is-ready : IsReady p l
  is-ready = ready p l switch_command read insertable limits

  bit-formed : (b : BitView) → IsDeclared x here b → is_bit (declared here) b ≡ true
  bit-formed b h = declared-bit x here (part-names p l is-ready.free is-ready.names is-ready.few x m e) b h

  -- ---- assigns of the source

  source-formed : (s : AssignView) → IsIn s m.assigns → IsFormed s
  source-formed s h =
      let one = of-all (is_assign (declared m)) s m.assigns (read-parts p legal m (from-modules p.structure x m e)).assigns h in
      let left = and_parts (is_filled s.left) (is_filled s.right && (list_all (is_bit (declared m)) s.left && (list_all (is_bit (declared m)) s.right && list_all (λ b. not (is_constant b)) s.left))) one in
      let right = and_parts (is_filled s.right) (list_all (is_bit (declared m)) s.left && (list_all (is_bit (declared m)) s.right && list_all (λ b. not (is_constant b)) s.left)) left.1 in
      let bits = and_parts (list_all (is_bit (declared m)) s.left) (list_all (is_bit (declared m)) s.right && list_all (λ b. not (is_constant b)) s.left) right.1 in
      let others = and_parts (list_all (is_bit (declared m)) s.right) (list_all (λ b. not (is_constant b)) s.left) bits.1 in
      record {
        left = left.0;
        right = right.0;
        free = λ b g. not-true (is_constant b) (of-all (λ c. not (is_constant c)) b s.left others.1 g);
      }

  renamed-formed : (s : AssignView) → IsIn s m.assigns → IsFormed (renamed_assign chains x s)
  renamed-formed s h =
      let old = source-formed s h in
      record {
        left = map-filled (renamed chains x) s.left old.left;
        right = map-filled (renamed chains x) s.right old.right;
        free = λ b g. let c = of-map (renamed chains x) b s.left g in ap is_constant c.2 ∙ renamed-net chains x c.0 (old.free c.0 c.1);
      }

  renamed-right : (s : AssignView) → IsIn s m.assigns → (b : BitView) → IsIn b (renamed_assign chains x s).right → IsDeclared x here b
  renamed-right s h b g =
      let c = of-map (renamed chains x) b s.right g in
      subst (λ v. IsDeclared x here v) (sym c.2) (renamed-bit p l x m e is-ready.bits c.0 (read.netlist.assigned x m s c.0 e h c.1))

  -- ---- those of constants, and of controls

  lone : (n : Name) (b : BitView) → IsIn b (NetBit n ∷ []) → is_constant b ≡ false
  lone n b (inl is) = ap is_constant is
  lone n b (inr h) = absurd h

  has-constant : (s : Stretch) → leads_constant p.structure s.path s.bit ≡ true → list_any nets.is_constant (stood p.structure s.bit) ≡ true
  has-constant s h = (and_parts (not (is_inside s.path s.bit)) (list_any nets.is_constant (stood p.structure s.bit)) (and_parts (is_input s.bit.port) (not (is_inside s.path s.bit) && list_any nets.is_constant (stood p.structure s.bit)) h).1).1

  constant-formed : (s : Stretch) → leads_constant p.structure s.path s.bit ≡ true → IsFormed (record { left = NetBit (chain_net s.start) ∷ []; right = stood p.structure s.bit })
  constant-formed s h = record { left = refl; right = any-filled nets.is_constant (stood p.structure s.bit) (has-constant s h); free = lone (chain_net s.start) }

  -- a constant is a bit of every module
  declared-constant : (b : BitView) → is_constant b ≡ true → IsDeclared x here b
  declared-constant (ConstBit c) h = tt
  declared-constant (NetBit n) h = absurd (false≢true h)
  declared-constant (SelectBit n i) h = absurd (false≢true h)

  constant-right : (s : Stretch) → leads_constant p.structure s.path s.bit ≡ true → (b : BitView) → IsIn b (stood p.structure s.bit) → IsDeclared x here b
  constant-right s h b g = declared-constant b (lone-constant (stood p.structure s.bit) (stood-short p.structure s.bit) (has-constant s h) b g)

  part-filled : (u v : Option (ℕ × Part)) → is_some u ≡ true → is_filled (part_bits u v) ≡ true
  part-filled (Some y) v h = refl
  part-filled None v h = absurd (false≢true h)

  control-filled : (n : Name) (i : Option ℕ) (own : Path) → (same_path own x || is_some (part_for (parts_in a.controls x) (Inner n i own) is_between)) ≡ true → is_filled (control_bits chains a.controls x (Inner n i own)) ≡ true
  control-filled n i own h = by (same_path own x) h
    where
      by : (t : Bool) → (t || is_some (part_for (parts_in a.controls x) (Inner n i own) is_between)) ≡ true → is_filled (if t then renamed chains x (bit_of n i) ∷ [] else carried (parts_in a.controls x) (Inner n i own)) ≡ true
      by true g = refl
      by false g = part-filled (part_for (parts_in a.controls x) (Inner n i own) is_between) (part_for (parts_in a.controls x) (Inner n i own) (λ y. true)) g

  -- a part is that of the route of a net bit
  listed-part : (y : ℕ × Part) → IsIn y (parts_in a.controls x) → IsIn y.1 (parts p (plan p l))
  listed-part y h = (of-filter (λ (t : Part). same_path t.path x) y.1 a.controls (of-numbered 0 y (filter (λ (t : Part). same_path t.path x) a.controls) h)).0

  led-filled : (y : ℕ × Part) → IsIn y (parts_in a.controls x) → is_led_out a.controls x y.1 ≡ true → is_filled (control_bits chains a.controls x y.1.control) ≡ true
  led-filled y h out =
      let of = is-part p l y.1 (listed-part y h) in
      let way = (and_parts (same_part_kind y.1.kind PortOut) (is_own_control x y.1.control || is_some (part_for (parts_in a.controls x) y.1.control is_between)) out).1 in
      ap (λ k. is_filled (control_bits chains a.controls x k)) of.control
      ∙ control-filled of.name of.index of.own (subst (λ k. (is_own_control x k || is_some (part_for (parts_in a.controls x) k is_between)) ≡ true) of.control way)

  control-formed : (y : ℕ × Part) → IsIn y (parts_in a.controls x) → is_led_out a.controls x y.1 ≡ true → IsFormed (record { left = NetBit (control_net y.0) ∷ []; right = control_bits chains a.controls x y.1.control })
  control-formed y h out = record { left = refl; right = led-filled y h out; free = lone (control_net y.0) }

  control-right : (y : ℕ × Part) → IsIn y (parts_in a.controls x) → (b : BitView) → IsIn b (control_bits chains a.controls x y.1.control) → IsDeclared x here b
  control-right y h b g = control-here p l x m e y.1.control (part-good p is-ready.controls l y.1 (listed-part y h)) b g

  -- ---- all of a module

  record IsGood (s : AssignView) : Type 0 where
    form : IsFormed s
    right : (b : BitView) → IsIn b s.right → IsDeclared x here b

  good : (s : AssignView) → IsIn s (written_assigns p a x m) → IsGood s
  good s h = elim (in-either s (map (renamed_assign chains x) m.assigns) (constants ++ controls) h) [
    | inl own ↦
        let one = of-map (renamed_assign chains x) s m.assigns own in
        subst IsGood (sym one.2) (record { form = renamed-formed one.0 one.1; right = renamed-right one.0 one.1 })
    | inr new ↦ elim (in-either s constants controls new) [
      | inl c ↦
          let one = of-some (constant_assign p) s (stretches_in chains x) c in
          let made : AssignView = record { left = NetBit (chain_net one.0.start) ∷ []; right = stood p.structure one.0.bit } in
          let led = of-when (leads_constant p.structure one.0.path one.0.bit) made s one.2 in
          subst IsGood (sym (of-when-is (leads_constant p.structure one.0.path one.0.bit) made s one.2)) (record { form = constant-formed one.0 led; right = constant-right one.0 led })
      | inr c ↦
          let one = of-some (control_assign chains a.controls x) s (parts_in a.controls x) c in
          let made : AssignView = record { left = NetBit (control_net one.0.0) ∷ []; right = control_bits chains a.controls x one.0.1.control } in
          let out = of-when (is_led_out a.controls x one.0.1) made s one.2 in
          subst IsGood (sym (of-when-is (is_led_out a.controls x one.0.1) made s one.2)) (record { form = control-formed one.0 one.1 out; right = control-right one.0 one.1 })
    ]
  ]
    where
      constants : List AssignView
      constants = some_of (constant_assign p) (stretches_in chains x)

      controls : List AssignView
      controls = control_assigns chains a.controls x

  assign-formed : (s : AssignView) → IsIn s (written_assigns p a x m) → is_assign (declared here) s ≡ true
  assign-formed s h =
      let of = good s h in
      and_from (is_filled s.left) (is_filled s.right && (list_all (is_bit (declared here)) s.left && (list_all (is_bit (declared here)) s.right && list_all (λ b. not (is_constant b)) s.left))) of.form.left
      (and_from (is_filled s.right) (list_all (is_bit (declared here)) s.left && (list_all (is_bit (declared here)) s.right && list_all (λ b. not (is_constant b)) s.left)) of.form.right
      (and_from (list_all (is_bit (declared here)) s.left) (list_all (is_bit (declared here)) s.right && list_all (λ b. not (is_constant b)) s.left)
      (all-of (is_bit (declared here)) s.left (λ b g. bit-formed b (assign-good p l is-ready.free is-ready.bits is-ready.controls x m e s h b g)))
      (and_from (list_all (is_bit (declared here)) s.right) (list_all (λ b. not (is_constant b)) s.left)
      (all-of (is_bit (declared here)) s.right (λ b g. bit-formed b (of.right b g)))
      (all-of (λ b. not (is_constant b)) s.left (λ b g. ap not (of.form.free b g))))))

  pub assigns-formed : list_all (is_assign (declared (written_module p (additions p l) x m))) (written_assigns p (additions p l) x m) ≡ true
  assigns-formed = all-of (is_assign (declared here)) (written_assigns p a x m) assign-formed
