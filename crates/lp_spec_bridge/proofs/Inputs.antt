-- The input pins of a cell instance by number are those by paths.
use Rattle.std.proofs.Common.{◌≡◌, ◌+◌, ℕ, Bool, true, false, not, List, [], ◌∷◌, ◌++◌, map, drop, get_or, Option, Some, None, refl, sym, ap, ◌∙◌, arith}
use Rattle.std.specs.Prelude.{filter, option_and_then, if◌then◌else◌, slice_get, slice_index_or}
use Rattle.std.proofs.lemmas.List.{get_or-drop, drop-drop}
use Rattle.lp_model.specs.declared.graph.EdgeFrom.{EdgeFrom}
use Rattle.lp_model.specs.declared.graph.Leaf.{Leaf}
use Rattle.lp_model.specs.declared.graph.PinNet.{PinNet}
use Rattle.lp_model.specs.declared.graph.PinNet.TheVariants.{Unconnected, Const as PinConst, Node as PinNode}
use Rattle.lp_model.specs.NetlistView.{InstanceView, ModuleView}
use Rattle.lp_model.specs.LibraryView.{PgPinView, CellView, PinView}
use Rattle.lp_spec_design.specs.Keys.{Name, Node, Fixed}
use Rattle.lp_spec_design.specs.Netlists.{Structure, module_at, cell_at, cell_named, instance_named}
use Rattle.lp_spec_design.specs.Instances.{Placed}
use Rattle.lp_spec_design.specs.Graph.{Reader, InputPin, and_more, pairs, some_of, numbered, is_output_pin, pin_node, pins_in, pins_of}
use Rattle.lp_spec_bridge.specs.Tables.{Tables}
use Rattle.lp_spec_bridge.specs.Keyed.{Keyed, node_at, leaf_at}
use Rattle.lp_spec_bridge.specs.Represents.{Represents, row_of, from_key, pin_key, joined_at, nodes_at_pins}
use Rattle.lp_spec_bridge.specs.Inputs.{placed, input_at, inputs_in, inputs_by, input_key}
use Rattle.lp_spec_bridge.proofs.Passed.{pins_key, cell-entry}

pub map-same : {A B : Type 0} (f g : A → B) (xs : List A) → ((x : A) → f x ≡ g x) → map f xs ≡ map g xs
map-same f g [] h = refl
map-same f g (x ∷ xs) h = ap (λ y. y ∷ map f xs) (h x) ∙ ap (λ r. g x ∷ r) (map-same f g xs h)

module _ (ks : Keyed) (a : Placed) (names : List Name) where
  -- a reader with its node
  read : ℕ × EdgeFrom → Reader × Node
  read x = (InputPin a.path a.instance (slice_index_or names x.0 []), from_key ks x.1)

  -- one pin, by what its net means
  one-input : (j : ℕ) (n : Name) (net : PinNet) (o : Option Node) (rest : List (ℕ × EdgeFrom)) (more : List (Reader × Node)) → slice_index_or names j [] ≡ n → pin_key ks net ≡ o → map read rest ≡ more
      → map read (and_more (placed j net) rest) ≡ and_more (option_and_then (λ (k : Node). Some (InputPin a.path a.instance n, k)) o) more
  unfolding read
  one-input j n Unconnected o rest more name key same = ap (λ (z : Option Node). and_more (option_and_then (λ (k : Node). Some (InputPin a.path a.instance n, k)) z) (map read rest)) key ∙ ap (λ r. and_more (option_and_then (λ (k : Node). Some (InputPin a.path a.instance n, k)) o) r) same
  one-input j n (PinConst b) o rest more name key same =
      ap (λ m. (InputPin a.path a.instance m, Fixed b) ∷ map read rest) name
      ∙ ap (λ (z : Option Node). and_more (option_and_then (λ (k : Node). Some (InputPin a.path a.instance n, k)) z) (map read rest)) key
      ∙ ap (λ r. and_more (option_and_then (λ (k : Node). Some (InputPin a.path a.instance n, k)) o) r) same
  one-input j n (PinNode i) o rest more name key same =
      ap (λ m. (InputPin a.path a.instance m, node_at ks i.0) ∷ map read rest) name
      ∙ ap (λ (z : Option Node). and_more (option_and_then (λ (k : Node). Some (InputPin a.path a.instance n, k)) z) (map read rest)) key
      ∙ ap (λ r. and_more (option_and_then (λ (k : Node). Some (InputPin a.path a.instance n, k)) o) r) same

  all-inputs : (f : Name → Option Node) (pins : List PinView) (row : List PinNet) (rest : List (Option Node)) (j : ℕ) → map (pin_key ks) row ≡ map (λ (q : PinView). f q.name) pins ++ rest → drop j names ≡ map (λ (q : PinView). q.name) pins
      → map read (some_of input_at (pairs (numbered j pins) row)) ≡ some_of (λ (q : PinView). option_and_then (λ (k : Node). Some (InputPin a.path a.instance q.name, k)) (f q.name)) (filter (λ q. not (is_output_pin q)) pins)
  all-inputs f [] row rest j same named = refl
  all-inputs f (q ∷ pins) [] rest j same named = absurd cc
  all-inputs f (q ∷ pins) (net ∷ row) rest j same named =
      let here : pin_key ks net ≡ f q.name = cc in
      let later : map (pin_key ks) row ≡ map (λ (q : PinView). f q.name) pins ++ rest = cc in
      let at_zero : get_or (drop j names) 0 [] ≡ get_or names (j + 0) [] = get_or-drop j names 0 [] in
      let place : j + 0 ≡ j = omega arith in
      let name : slice_index_or names j [] ≡ q.name = ap (λ i. get_or names i []) (sym place) ∙ sym at_zero ∙ ap (λ (xs : List Name). get_or xs 0 []) named in
      let others : drop (j + 1) names ≡ map (λ (q : PinView). q.name) pins = sym (drop-drop 1 j names) ∙ ap (λ (xs : List Name). drop 1 xs) named in
      let more = all-inputs f pins row rest (j + 1) later others in
      by (is_output_pin q) more (one-input j q.name net (f q.name) (some_of input_at (pairs (numbered (j + 1) pins) row)) (some_of (λ (z : PinView). option_and_then (λ (k : Node). Some (InputPin a.path a.instance z.name, k)) (f z.name)) (filter (λ z. not (is_output_pin z)) pins)) name here more)
    where
      by : (b : Bool)
          → map read (some_of input_at (pairs (numbered (j + 1) pins) row)) ≡ some_of (λ (z : PinView). option_and_then (λ (k : Node). Some (InputPin a.path a.instance z.name, k)) (f z.name)) (filter (λ z. not (is_output_pin z)) pins)
          → map read (and_more (placed j net) (some_of input_at (pairs (numbered (j + 1) pins) row))) ≡ and_more (option_and_then (λ (k : Node). Some (InputPin a.path a.instance q.name, k)) (f q.name)) (some_of (λ (z : PinView). option_and_then (λ (k : Node). Some (InputPin a.path a.instance z.name, k)) (f z.name)) (filter (λ z. not (is_output_pin z)) pins))
          → map read (and_more (if b then None else placed j net) (some_of input_at (pairs (numbered (j + 1) pins) row)))
          ≡ some_of (λ (z : PinView). option_and_then (λ (k : Node). Some (InputPin a.path a.instance z.name, k)) (f z.name)) (if not b then q ∷ filter (λ z. not (is_output_pin z)) pins else filter (λ z. not (is_output_pin z)) pins)
      by true skip take = skip
      by false skip take = take

module _ (s : Structure) (ks : Keyed) (t : Tables) (r : Represents s ks t) where
  -- by the instance and the cell of a cell instance
  inputs-of : (a : Placed) (row : List PinNet) (o : Option InstanceView) (c : Option CellView) → option_and_then (λ (m : ModuleView). instance_named m a.instance) (module_at s a.path) ≡ o → cell_at s a.path a.instance ≡ c → option_and_then (λ (x : InstanceView). cell_named s x.target) o ≡ c → map (pin_key ks) row ≡ nodes_at_pins s a c
      → map (input_key ks a c) (inputs_in c row) ≡ pins_in a o c
  unfolding read
  inputs-of a row o None e d f same = by o
    where
      by : (o : Option InstanceView) → [] ≡ pins_in a o None
      by None = refl
      by (Some x) = refl
  inputs-of a row None (Some c) e d f same = absurd cc
  inputs-of a row (Some x) (Some c) e d f same =
      let joined : (q : Name) → joined_at s a q ≡ pin_node a.path q x.connections = λ q. joined-by q (module_at s a.path) e in
      let nets : map (pin_key ks) row ≡ map (λ (q : PinView). pin_node a.path q.name x.connections) c.pins ++ map (λ (g : PgPinView). joined_at s a g.name) c.pgs =
      same ∙ ap (λ r. r ++ map (λ (g : PgPinView). joined_at s a g.name) c.pgs) (map-same (λ (q : PinView). joined_at s a q.name) (λ (q : PinView). pin_node a.path q.name x.connections) c.pins (λ q. joined q.name)) in
      all-inputs ks a (map (λ (q : PinView). q.name) c.pins) (λ n. pin_node a.path n x.connections) c.pins row (map (λ (g : PgPinView). joined_at s a g.name) c.pgs) 0 nets refl
    where
      joined-by : (q : Name) (m : Option ModuleView) → option_and_then (λ (m : ModuleView). instance_named m a.instance) m ≡ Some x → option_and_then (λ (m : ModuleView). option_and_then (λ (y : InstanceView). pin_node a.path q y.connections) (instance_named m a.instance)) m ≡ pin_node a.path q x.connections
      joined-by q None e = absurd cc
      joined-by q (Some m) e = ap (option_and_then (λ (y : InstanceView). pin_node a.path q y.connections)) e

  cell-of : (a : Placed) (m : Option ModuleView) → module_at s a.path ≡ m → option_and_then (λ (x : InstanceView). cell_named s x.target) (option_and_then (λ (m : ModuleView). instance_named m a.instance) m) ≡ option_and_then (λ (m : ModuleView). option_and_then (λ (x : InstanceView). cell_named s x.target) (instance_named m a.instance)) m
  cell-of a None e = refl
  cell-of a (Some m) e = refl

  pub inputs_key : (k : ℕ) (l : Leaf) → slice_get t.leaves k ≡ Some l → map (input_key ks (leaf_at ks k) (cell_at s (leaf_at ks k).path (leaf_at ks k).instance)) (inputs_by s t l) ≡ pins_of s (leaf_at ks k)
  inputs_key k l e =
      let a = leaf_at ks k in
      let c = cell_at s (leaf_at ks k).path (leaf_at ks k).instance in
      ap (λ o. map (input_key ks (leaf_at ks k) (cell_at s (leaf_at ks k).path (leaf_at ks k).instance)) (inputs_in o (row_of s t l))) (cell-entry s ks t r k l e)
      ∙ inputs-of a (row_of s t l) (option_and_then (λ (m : ModuleView). instance_named m (leaf_at ks k).instance) (module_at s (leaf_at ks k).path)) c refl refl (cell-of a (module_at s a.path) refl) (pins_key s ks t r k l e)
