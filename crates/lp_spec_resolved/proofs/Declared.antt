-- Controls are net bits that their instances declare.
use Rattle.std.proofs.Common.{◌≡◌, ℕ, List, map, Option, Some, None, inl, inr, refl, sym, ap, ◌∙◌, subst}
use Rattle.std.specs.Prelude.{option_and_then, flat_map, bytes_eq, Ok}
use Rattle.std.specs.Option.{option_map}
use Rattle.lp_model.specs.declared.library.Action.{Action}
use Rattle.lp_model.specs.declared.netlist.BitRange.{BitRange}
use Rattle.lp_model.specs.declared.upf.OptionWord.{OptionWord}
use Rattle.lp_model.specs.declared.upf.OptionWord.TheVariants as options
use Rattle.lp_model.specs.NetlistView.{PortView, NetView, ModuleView}
use Rattle.lp_model.specs.CommandsView.{WordView, CommandView}
use Rattle.lp_spec_design.specs.Keys.{Name, Path, Node, Inner}
use Rattle.lp_spec_design.specs.Netlists.{Structure, first, module_at, indices}
use Rattle.lp_spec_design.specs.Nodes.{nodes_in}
use Rattle.lp_spec_design.specs.Intents.{Strategy}
use Rattle.lp_spec_design.specs.Winners.{IsIn}
use Rattle.lp_spec_design.proofs.Members.{in-left, in-right, in-either, in-map, in-flat, of-map, of-flat}
use Rattle.lp_spec_design.proofs.Sources.{first_in}
use Rattle.lp_spec_realises.specs.Controls.{whole_name, bits_of_net, all_bits, is_scalar, or_bit, bit_named, control_node}
use Rattle.lp_spec_intent.specs.Names as names
use Rattle.lp_spec_intent.specs.Made.{Fact, IsSwitch, IsStrategy, Made, nothing, facts, first_of}
use Rattle.lp_spec_intent.specs.Lookups.{words, word_at, control}
use Rattle.lp_spec_intent.specs.Effects.{action_of, control_by, signal_by}
use Rattle.lp_spec_intent.specs.Intent.{made_by}
use Rattle.lp_spec_intent.proofs.Places.{some-same}
use Rattle.lp_spec_resolved.specs.Laws.{IsDeclaredBit}
use Rattle.lp_spec_resolved.proofs.Kept.{one-in}
use Rattle.lp_spec_resolved.proofs.Facts.{All, Has, made-have, known-or-made, goes-on}

-- ---- names of controls

either-in : (a b : Option (Name × Option ℕ)) (bits : List (Name × Option ℕ)) (x : Name × Option ℕ) → ((y : Name × Option ℕ) → a ≡ Some y → IsIn y bits) → ((y : Name × Option ℕ) → b ≡ Some y → IsIn y bits) → or_bit a b ≡ Some x → IsIn x bits
either-in None b bits x h g e = g x e
either-in (Some y) b bits x h g e = h x e

bit-in : (text : Name) (bits : List (Name × Option ℕ)) (x : Name × Option ℕ) → bit_named text bits ≡ Some x → IsIn x bits
bit-in text bits x e =
    either-in (first (is_scalar text) bits) (first (λ b. bytes_eq (whole_name b.0 b.1) text) bits) bits x
    (λ y f. (first_in (is_scalar text) bits y f).0) (λ y f. (first_in (λ b. bytes_eq (whole_name b.0 b.1) text) bits y f).0) e

abbrev node_at : Path → Name × Option ℕ → Node
node_at p b = Inner b.0 b.1 p

net-nodes : (p : Path) (n : Name) (r : Option BitRange) (b : Name × Option ℕ) → IsIn b (bits_of_net n r) → IsIn (node_at p b) (map (λ i. Inner n i p) (indices r))
net-nodes p n r b i =
    let found = of-map (λ j. (n, j)) b (indices r) i in
    subst (λ k. IsIn k (map (λ j. Inner n j p) (indices r))) (ap (node_at p) (sym found.2)) (in-map (λ j. Inner n j p) found.0 (indices r) found.1)

bit-node : (p : Path) (m : ModuleView) (b : Name × Option ℕ) → IsIn b (all_bits m) → IsIn (node_at p b) (nodes_in p (Some m))
bit-node p m b i =
    let ports = flat_map (λ (x : PortView). map (λ j. Inner x.name j p) (indices x.range)) m.ports in
    let nets = flat_map (λ (x : NetView). map (λ j. Inner x.name j p) (indices x.range)) m.nets in
    elim (in-either b (flat_map (λ (x : PortView). bits_of_net x.name x.range) m.ports) (flat_map (λ (x : NetView). bits_of_net x.name x.range) m.nets) i) [
      | inl h ↦
          let found = of-flat (λ (x : PortView). bits_of_net x.name x.range) b m.ports h in
          in-left (node_at p b) ports nets (in-flat (λ (x : PortView). map (λ j. Inner x.name j p) (indices x.range)) found.0 (node_at p b) m.ports found.1 (net-nodes p found.0.name found.0.range b found.2))
      | inr h ↦
          let found = of-flat (λ (x : NetView). bits_of_net x.name x.range) b m.nets h in
          in-right (node_at p b) ports nets (in-flat (λ (x : NetView). map (λ j. Inner x.name j p) (indices x.range)) found.0 (node_at p b) m.nets found.1 (net-nodes p found.0.name found.0.range b found.2))
    ]

node-declared : (s : Structure) (p : Path) (text : Name) (k : Node) → control_node s p text ≡ Some k → IsDeclaredBit s k
node-declared s p text k e = by (module_at s p) refl e
  where
    bit : (m : ModuleView) → module_at s p ≡ Some m → (o : Option (Name × Option ℕ)) → bit_named text (all_bits m) ≡ o → option_and_then (λ b. Some (Inner b.0 b.1 p)) o ≡ Some k → IsDeclaredBit s k
    bit m f None g h = absurd cc
    bit m f (Some b) g h =
        let there = bit-node p m b (bit-in text (all_bits m) b g) in
        subst (λ x. IsDeclaredBit s x) (some-same (node_at p b) k h)
        (λ n e. subst (λ y. IsIn (node_at p b) (nodes_in p y)) (sym f ∙ e) there)

    by : (o : Option ModuleView) → module_at s p ≡ o → option_and_then (λ (m : ModuleView). option_and_then (λ b. Some (Inner b.0 b.1 p)) (bit_named text (all_bits m))) o ≡ Some k → IsDeclaredBit s k
    by None f g = absurd cc
    by (Some m) f g = bit m f (bit_named text (all_bits m)) refl g

control-declared : (s : Structure) (m : Made) (w : WordView) (k : Node) → control s m w ≡ Some k → IsDeclaredBit s k
control-declared s m w k e = node-declared s (names.whole_name s m.scope w.text).scope (names.whole_name s m.scope w.text).name k e

-- ---- facts

pub record Declares (s : Structure) (t : Strategy) : Type 0 where
  pub enables : (k : Node) → t.control ≡ Some k → IsDeclaredBit s k
  pub saves : (k : Node × Action) → t.save ≡ Some k → IsDeclaredBit s k.0
  pub restores : (k : Node × Action) → t.restore ≡ Some k → IsDeclaredBit s k.0

abbrev pub HasDeclared : Structure → Fact → Type 0
HasDeclared s (IsStrategy name t) = Declares s t
HasDeclared s (IsSwitch w port) = IsDeclaredBit s w.control
HasDeclared s f = Unit {0}

module _ (s : Structure) (m : Made) (c : CommandView) where
  control-stands : (o : OptionWord) (k : Node) → control_by s m c o ≡ Some k → IsDeclaredBit s k
  control-stands o k e = let found = one-in (control s m) (word_at (words c o) 0) k e in control-declared s m found.0 k found.1

  signal-stands : (o : OptionWord) (k : Node × Action) → signal_by s m c o ≡ Some k → IsDeclaredBit s k.0
  signal-stands o k e = by (control_by s m c o) refl e
    where
      when_ : (j : Node) (a : Option WordView) → control_by s m c o ≡ Some j → option_map (λ w. (j, action_of w)) a ≡ Some k → IsDeclaredBit s k.0
      when_ j None f g = absurd cc
      when_ j (Some w) f g = subst (λ (x : Node × Action). IsDeclaredBit s x.0) (some-same (j, action_of w) k g) (control-stands o j f)

      by : (a : Option Node) → control_by s m c o ≡ a → option_and_then (λ j. option_map (λ w. (j, action_of w)) (first_of (word_at (words c o) 1))) a ≡ Some k → IsDeclaredBit s k.0
      by None f g = absurd cc
      by (Some j) f g = when_ j (first_of (word_at (words c o) 1)) f g

  has-declared : Has s m c (HasDeclared s)
  has-declared = record {
    new_domain = λ w. tt;
    named_handle = λ d g k w e. tt;
    new_port = λ a i e. tt;
    new_net = λ w. tt;
    connects = λ a ps. tt;
    own_set = λ w e. tt;
    primary_set = λ d e. tt;
    primary = λ d e i. tt;
    state = λ x n y. tt;
    table = λ a xs. tt;
    row = λ n xs. tt;
    driver = λ a w e. tt;
    receiver = λ a w e. tt;
    new_switch = λ w u v x i o k a b e. control-declared s m x k e;
    strategy = λ kind w d e. record {
      enables = λ k f. control-stands options.IsolationSignal k f;
      saves = λ k f. signal-stands options.SaveSignal k f;
      restores = λ k f. signal-stands options.RestoreSignal k f;
    };
    interface = λ w. tt;
    cells = λ xs ys zs. tt;
  }

pub all-declared : (s : Structure) (all : List CommandView) (end : Made) → made_by s all ≡ Ok end → All (HasDeclared s) (facts end)
all-declared s all end e =
    goes-on s (λ m. All (HasDeclared s) (facts m)) (λ c. Unit {0})
    (λ m c x old f. known-or-made s m c (HasDeclared s) old (made-have s m c (HasDeclared s) (has-declared s m c)))
    all nothing end (λ c i. tt) (λ f i. absurd i) e
