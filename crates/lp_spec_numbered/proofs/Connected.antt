-- What is connected to ports and pins by the numbers of their names is what is connected by the texts.
use Rattle.std.proofs.Common.{◌≡◌, ℕ, zero, suc, ◌<◌, ◌==◌, Bool, true, false, ◌&&◌, List, [], ◌∷◌, map, length, Option, Some, None, inl, inr, refl, ap, ◌∙◌}
use Rattle.std.specs.Prelude.{bytes_eq, slice_get, if◌then◌else◌, flat_map, ltb}
use Rattle.std.specs.Option.{option_map, option_and_then}
use Rattle.std.proofs.lemmas.List.Folds.{list_all-append}
use Rattle.lp_text.specs.Texts.{text_at, distinct, same_text_comm}
use Rattle.lp_model.specs.Agreement.{numbers_below}
use Rattle.lp_model.specs.declared.bits.Bit.{Bit}
use Rattle.lp_model.specs.declared.netlist.Connection.{Connection}
use Rattle.lp_model.specs.declared.netlist.Connections.{Connections}
use Rattle.lp_model.specs.declared.netlist.Connections.TheVariants.{Named, Ordered}
use Rattle.lp_model.specs.declared.netlist.Port.{Port}
use Rattle.lp_model.specs.NetlistView.{BitView, PortView, ConnectionView, bit_view, bits_view, port_view, connection_view, connections_view, bit_numbers, bits_numbers, connection_numbers, connections_numbers}
use Rattle.lp_spec_design.specs.Netlists.{bits_named, connected}
use Rattle.lp_spec_design.specs.Nodes.{connected_bits}
use Rattle.lp_spec_design.specs.Winners.{IsIn}
use Rattle.lp_spec_design.proofs.Members.{in-flat, in-map}
use Rattle.lp_spec_bridge.specs.Keyed.{IsApart}
use Rattle.lp_spec_layout.proofs.Lists.{get-in, get-map}
use Rattle.lp_places.specs.Places.{place_of_number}
use Rattle.lp_places.proofs.Numbers.{below-left, below-right, below-head, below-tail, same_name}
use Rattle.lp_templates.specs.Connected.{bits_or_none, port_numbers, connection_bits, bits_at_name, named_bits, port_bits}
use Rattle.lp_spec_numbered.proofs.Faults.{at-or-none, placed-at}

-- ---- numbers

-- the first number of each item
pub below-first : {A : Type 0} (n : ℕ) (f : A → ℕ) (rest : A → List ℕ) (xs : List A) → numbers_below n (flat_map (λ x. f x ∷ rest x) xs) ≡ true → numbers_below n (map f xs) ≡ true
below-first n f rest [] below = refl
below-first n f rest (x ∷ xs) below =
    let here = below-left n (f x ∷ rest x) (flat_map (λ y. f y ∷ rest y) xs) below in
    let behind = below-right n (f x ∷ rest x) (flat_map (λ y. f y ∷ rest y) xs) below in
    let head : numbers_below n (f x ∷ []) ≡ true = below-left n (f x ∷ []) (rest x) here in
    list_all-append (λ k. ltb k n) (f x ∷ []) (map f xs) ∙ (λ i. head i && below-first n f rest xs behind i)

-- the numbers of a member
pub below-in : {A : Type 0} (n : ℕ) (numbers : A → List ℕ) (xs : List A) (x : A) → IsIn x xs → numbers_below n (flat_map numbers xs) ≡ true → numbers_below n (numbers x) ≡ true
below-in n numbers [] x h below = absurd h
below-in n numbers (y ∷ xs) x (inl is) below = ap (λ z. numbers_below n (numbers z)) is ∙ below-left n (numbers y) (flat_map numbers xs) below
below-in n numbers (y ∷ xs) x (inr h) below = below-in n numbers xs x h (below-right n (numbers y) (flat_map numbers xs) below)

-- ---- the bits of a connection

bits-or-none-in : (values : List (List Bit)) (j : ℕ) (o : Option (List Bit)) → slice_get values j ≡ o → (b : Bit) → IsIn b (bits_or_none o) → (v : List Bit) × IsIn v values × IsIn b v
bits-or-none-in values j None e b h = absurd h
bits-or-none-in values j (Some v) e b h = (v, get-in values j v e, h)

name-bits-in : (cs : List Connection) (r : Option ℕ) → (o : Option Connection) → option_and_then (slice_get cs) r ≡ o → (b : Bit) → IsIn b (connection_bits o) → (c : Connection) × IsIn c cs × IsIn b c.bits
name-bits-in cs r None e b h = absurd h
name-bits-in cs None (Some c) e b h = cc
name-bits-in cs (Some k) (Some c) e b h = (c, get-in cs k c e, h)

-- the bits at a port are among those that an instance connects
pub bit-connected : (texts : List (List ℕ)) (n : ℕ) (cs : Connections) (j name : ℕ) (b : Bit) → IsIn b (port_bits cs j name) → numbers_below n (connections_numbers cs) ≡ true
    → (numbers_below n (bit_numbers b) ≡ true) × IsIn (bit_view texts b) (connected_bits (connections_view texts cs))
bit-connected texts n (Named cs) j name b h below =
    let there = name-bits-in cs (place_of_number name (port_numbers cs)) (option_and_then (slice_get cs) (place_of_number name (port_numbers cs))) refl b h in (
      below-in n bit_numbers there.0.bits b there.2 (below-tail n there.0.port.0 (bits_numbers there.0.bits) (below-in n connection_numbers cs there.0 there.1 below)),
      in-flat (λ (c : ConnectionView). c.bits) (connection_view texts there.0) (bit_view texts b) (map (connection_view texts) cs) (in-map (connection_view texts) there.0 cs there.1) (in-map (bit_view texts) b there.0.bits there.2),
    )
bit-connected texts n (Ordered values) j name b h below =
    let there = bits-or-none-in values j (slice_get values j) refl b h in (
      below-in n bit_numbers there.0 b there.2 (below-in n bits_numbers values there.0 there.1 below),
      in-flat (λ (bits : List BitView). bits) (bits_view texts there.0) (bit_view texts b) (map (bits_view texts) values) (in-map (bits_view texts) there.0 values there.1) (in-map (bit_view texts) b there.0 there.2),
    )

-- the bits at a pin are those at a port of that name
pub pin-bit-connected : (texts : List (List ℕ)) (n : ℕ) (cs : Connections) (name : ℕ) (b : Bit) → IsIn b (named_bits cs name) → numbers_below n (connections_numbers cs) ≡ true
    → (numbers_below n (bit_numbers b) ≡ true) × IsIn (bit_view texts b) (connected_bits (connections_view texts cs))
pin-bit-connected texts n (Named cs) name b h below = bit-connected texts n (Named cs) 0 name b h below
pin-bit-connected texts n (Ordered values) name b h below = absurd h

-- ---- by numbers and by texts

module _ (texts : List (List ℕ)) (apart : distinct texts ≡ true) where
  abbrev Below : List ℕ → Type 0
  Below ks = numbers_below (length texts) ks ≡ true

  bits-at-name : (k : ℕ) (cs : List Connection) → k < length texts → Below (port_numbers cs) → bits_named (text_at texts k) (map (connection_view texts) cs) ≡ bits_view texts (bits_at_name k cs)
  bits-at-name k [] low below = refl
  bits-at-name k (c ∷ cs) low below =
      let here : bytes_eq (text_at texts c.port.0) (text_at texts k) ≡ (k == c.port.0) =
      same_text_comm (text_at texts c.port.0) (text_at texts k) ∙ same_name texts apart k c.port.0 low (below-head (length texts) c.port.0 (port_numbers cs) below) in
      ap (λ b. if b then bits_view texts c.bits else bits_named (text_at texts k) (map (connection_view texts) cs)) here
      ∙ by (k == c.port.0) (place_of_number k (port_numbers cs)) (bits-at-name k cs low (below-tail (length texts) c.port.0 (port_numbers cs) below))
    where
      by : (b : Bool) (r : Option ℕ) → bits_named (text_at texts k) (map (connection_view texts) cs) ≡ bits_view texts (connection_bits (option_and_then (slice_get cs) r))
          → (if b then bits_view texts c.bits else bits_named (text_at texts k) (map (connection_view texts) cs)) ≡ bits_view texts (connection_bits (option_and_then (slice_get (c ∷ cs)) (if b then Some 0 else option_map suc r)))
      by true r e = refl
      by false None e = e
      by false (Some j) e = e

  names-below : (cs : List Connection) → Below (connections_numbers (Named cs)) → Below (port_numbers cs)
  names-below cs below = below-first (length texts) (λ (c : Connection). c.port.0) (λ (c : Connection). bits_numbers c.bits) cs below

  pub at-pin : (cs : Connections) (k : ℕ) → k < length texts → Below (connections_numbers cs) → connected [] (text_at texts k) (connections_view texts cs) ≡ bits_view texts (named_bits cs k)
  at-pin (Named cs) k low below = bits-at-name k cs low (names-below cs below)
  at-pin (Ordered values) k low below = refl

  placed-view : (values : List (List Bit)) (j : ℕ) → at-or-none (slice_get (map (bits_view texts) values) j) ≡ bits_view texts (bits_or_none (slice_get values j))
  placed-view [] j = refl
  placed-view (v ∷ values) zero = refl
  placed-view (v ∷ values) (suc j) = placed-view values j

  pub at-port : (cs : Connections) (ports : List Port) (j : ℕ) (p : Port) → slice_get ports j ≡ Some p → IsApart (map (λ (q : PortView). q.name) (map (port_view texts) ports)) → p.name.0 < length texts → Below (connections_numbers cs)
      → connected (map (port_view texts) ports) (text_at texts p.name.0) (connections_view texts cs) ≡ bits_view texts (port_bits cs j p.name.0)
  at-port (Named cs) ports j p at names low below = bits-at-name p.name.0 cs low (names-below cs below)
  at-port (Ordered values) ports j p at names low below =
      placed-at (map (port_view texts) ports) (map (bits_view texts) values) j (port_view texts p) names (get-map (port_view texts) ports j p at)
      ∙ placed-view values j
