-- What code sees of a module is what its text says: which places are driven from inside, how many bits there are, and which bits are inputs.
use Rattle.std.proofs.Common.{◌≡◌, ◌+◌, ◌-◌, ℕ, zero, suc, min, Bool, true, false, List, [], ◌∷◌, ◌++◌, map, length, length-append, Option, Some, None, refl, sym, ap, ◌∙◌, arith}
use Rattle.std.specs.Prelude.{flat_map, is_some, nat_le, if◌then◌else◌, option_map, slice_get, slice_index_or, sum_by}
use Rattle.std.proofs.lemmas.List.{length-map}
use Rattle.std.proofs.lemmas.List.Sums.{sum_by-cons}
use Rattle.lp_model.specs.declared.library.Cell.{Cell}
use Rattle.lp_model.specs.declared.library.Library.{Library}
use Rattle.lp_model.specs.declared.library.PgPin.{PgPin}
use Rattle.lp_model.specs.declared.library.Pin.{Pin}
use Rattle.lp_model.specs.declared.library.Switched.{Switched}
use Rattle.lp_model.specs.declared.netlist.BitRange.{BitRange}
use Rattle.lp_model.specs.declared.netlist.Direction.{Direction}
use Rattle.lp_model.specs.declared.netlist.Direction.TheVariants.{Input, Output}
use Rattle.lp_model.specs.declared.netlist.Module.{Module}
use Rattle.lp_model.specs.declared.netlist.NetDecl.{NetDecl}
use Rattle.lp_model.specs.declared.netlist.Port.{Port}
use Rattle.lp_model.specs.LibraryView.{PgPinView, switched_view, pin_view, pg_pin_view, cell_view, library_view}
use Rattle.lp_model.specs.NetlistView.{PortView, NetView, ModuleView, port_view, net_view, module_view}
use Rattle.lp_spec_design.specs.Netlists.{upward, downward, indices, is_input}
use Rattle.lp_spec_design.specs.Graph.{pairs, and_more, some_of, numbered, when, is_output_pin}
use Rattle.lp_spec_bridge.specs.Templates.{bit_named, bits_in}
use Rattle.lp_spec_layout.specs.Parts.{Statement, OfModule, OfCell, Template, driving_pins}
use Rattle.lp_spec_layout.specs.Sites.{port_bits}
use Rattle.lp_spec_layout.proofs.Lists.{flat-equal}
use Rattle.lp_spec_faults.specs.Modules.{bit_count}
use Rattle.lp_spec_drivers.specs.Drivers.{joint_places, pin_place, statement_places, inside_places, input_places}
use Rattle.lp_targets.specs.Sizes.{module_bits}
use Rattle.lp_drivers.specs.Cells.{is_output, pins_driving, places_by, places_inside}
use Rattle.lp_drivers.specs.Table.{most_bits, width_in, input_run, input_runs}

-- the module that a view is of
pub module-at : (texts : List (List ℕ)) (ms : List Module) (k : ℕ) (m : ModuleView) → slice_get (map (module_view texts) ms) k ≡ Some m → (x : Module) × (slice_get ms k ≡ Some x) × (module_view texts x ≡ m)
module-at texts [] k m e = cc
module-at texts (x ∷ ms) zero m e = let is : module_view texts x ≡ m = cc in (x, refl, is)
module-at texts (x ∷ ms) (suc k) m e = module-at texts ms k m e

-- ---- which pins drive

output-same : (texts : List (List ℕ)) (q : Pin) → is_output q.direction ≡ is_output_pin (pin_view texts q)
output-same texts q = by q.direction
  where
    by : (d : Direction) → is_output d ≡ is_output_pin (record (pin_view texts q) { direction = d })
    by Input = refl
    by Output = refl

switched-same : (texts : List (List ℕ)) (o : Option Switched) → is_some o ≡ is_some (option_map (switched_view texts) o)
switched-same texts None = refl
switched-same texts (Some x) = refl

pins-same : (texts : List (List ℕ)) (qs : List Pin) → map (λ (q : Pin). is_output q.direction) qs ≡ map is_output_pin (map (pin_view texts) qs)
pins-same texts [] = refl
pins-same texts (q ∷ qs) = λ i. output-same texts q i ∷ pins-same texts qs i

pgs-same : (texts : List (List ℕ)) (gs : List PgPin) → map (λ (g : PgPin). is_some g.switched) gs ≡ map (λ (g : PgPinView). is_some g.switched) (map (pg_pin_view texts) gs)
pgs-same texts [] = refl
pgs-same texts (g ∷ gs) = λ i. switched-same texts g.switched i ∷ pgs-same texts gs i

drives-at : (texts : List (List ℕ)) (cs : List Cell) (k : ℕ) → slice_index_or (map pins_driving cs) k [] ≡ driving_pins (slice_get (map (cell_view texts) cs) k)
drives-at texts [] k = refl
drives-at texts (c ∷ cs) zero = λ i. pins-same texts c.pins i ++ pgs-same texts c.pgs i
drives-at texts (c ∷ cs) (suc k) = drives-at texts cs k

statement-same : (texts : List (List ℕ)) (l : Library) (z : Statement) → places_by (map pins_driving l.cells) z ≡ statement_places (library_view texts l) z
statement-same texts l (OfModule c) = refl
statement-same texts l (OfCell c) = ap (λ ds. some_of pin_place (pairs ds c.row)) (drives-at texts l.cells c.of)

pub inside-same : (texts : List (List ℕ)) (l : Library) (x : Template) → places_inside (map pins_driving l.cells) x ≡ inside_places (library_view texts l) (Some x)
inside-same texts l x =
    ap (λ ps. ps ++ joint_places x.assigns) (flat-equal (places_by (map pins_driving l.cells)) (statement_places (library_view texts l)) x.statements (statement-same texts l))

-- ---- how many bits

count-upward : (n from : ℕ) → length (upward n from) ≡ n
count-upward zero from = refl
count-upward (suc n) from = ap suc (count-upward n (from + 1))

count-downward : (n from : ℕ) → length (downward n from) ≡ n
count-downward zero from = refl
count-downward (suc n) from = ap suc (count-downward n (from - 1))

count-indices : (r : Option BitRange) → length (indices r) ≡ bit_count r
count-indices None = refl
count-indices (Some r) = by (nat_le r.left r.right)
  where
    by : (b : Bool) → length (map (λ i. Some i) (if b then upward (r.right + 1 - r.left) r.left else downward (r.left + 1 - r.right) r.left)) ≡ (if b then r.right + 1 - r.left else r.left + 1 - r.right)
    by true = length-map (upward (r.right + 1 - r.left) r.left) (λ i. Some i) ∙ count-upward (r.right + 1 - r.left) r.left
    by false = length-map (downward (r.left + 1 - r.right) r.left) (λ i. Some i) ∙ count-downward (r.left + 1 - r.right) r.left

ports-count : (texts : List (List ℕ)) (ps : List Port) → length (flat_map (λ (x : PortView). map (bit_named x.name) (indices x.range)) (map (port_view texts) ps)) ≡ sum_by (λ (p : Port). bit_count p.range) ps
ports-count texts [] = refl
ports-count texts (p ∷ ps) =
    let more = ports-count texts ps in
    let here = length-map (indices p.range) (bit_named (port_view texts p).name) ∙ count-indices p.range in
    length-append (map (bit_named (port_view texts p).name) (indices p.range)) (flat_map (λ (x : PortView). map (bit_named x.name) (indices x.range)) (map (port_view texts) ps))
    ∙ (λ i. here i + more i)
    ∙ sym (sum_by-cons (λ (q : Port). bit_count q.range) p ps)

nets-count : (texts : List (List ℕ)) (ns : List NetDecl) → length (flat_map (λ (x : NetView). map (bit_named x.name) (indices x.range)) (map (net_view texts) ns)) ≡ sum_by (λ (n : NetDecl). bit_count n.range) ns
nets-count texts [] = refl
nets-count texts (n ∷ ns) =
    let more = nets-count texts ns in
    let here = length-map (indices n.range) (bit_named (net_view texts n).name) ∙ count-indices n.range in
    length-append (map (bit_named (net_view texts n).name) (indices n.range)) (flat_map (λ (x : NetView). map (bit_named x.name) (indices x.range)) (map (net_view texts) ns))
    ∙ (λ i. here i + more i)
    ∙ sym (sum_by-cons (λ (m : NetDecl). bit_count m.range) n ns)

pub bits-count : (texts : List (List ℕ)) (m : Module) → length (bits_in (module_view texts m)) ≡ module_bits m
bits-count texts m =
    length-append (flat_map (λ (x : PortView). map (bit_named x.name) (indices x.range)) (map (port_view texts) m.ports)) (flat_map (λ (x : NetView). map (bit_named x.name) (indices x.range)) (map (net_view texts) m.nets))
    ∙ (λ i. ports-count texts m.ports i + nets-count texts m.nets i)

pub width-same : (texts : List (List ℕ)) (ms : List Module) (k : ℕ) (m : ModuleView) → slice_get (map (module_view texts) ms) k ≡ Some m → width_in (slice_get ms k) ≡ min most_bits (length (bits_in m))
width-same texts ms k m e =
    let source = module-at texts ms k m e in
    ap width_in source.1
    ∙ ap (min most_bits) (sym (bits-count texts source.0))
    ∙ ap (λ (w : ModuleView). min most_bits (length (bits_in w))) source.2

-- ---- the inputs

-- the numbers of those that are inputs
abbrev inputs-from : ℕ → List Bool → List ℕ
inputs-from k bs = some_of (λ (z : ℕ × Bool). when z.1 z.0) (numbered k bs)

inputs-join : (k : ℕ) (xs ys : List Bool) → inputs-from k (xs ++ ys) ≡ inputs-from k xs ++ inputs-from (k + length xs) ys
inputs-join k [] ys = let place : k ≡ k + 0 = omega arith in ap (λ n. inputs-from n ys) place
inputs-join k (x ∷ xs) ys =
    let place : (k + 1) + length xs ≡ k + suc (length xs) = omega arith in
    ap (and_more (when x k)) (inputs-join (k + 1) xs ys)
    ∙ ap (λ n. and_more (when x k) (inputs-from (k + 1) xs ++ inputs-from n ys)) place
    ∙ by x
  where
    by : (b : Bool) → and_more (when b k) (inputs-from (k + 1) xs ++ inputs-from (k + suc (length xs)) ys) ≡ and_more (when b k) (inputs-from (k + 1) xs) ++ inputs-from (k + suc (length xs)) ys
    by true = refl
    by false = refl

all-inputs : {A : Type 0} (k : ℕ) (xs : List A) → inputs-from k (map (λ x. true) xs) ≡ upward (length xs) k
all-inputs k [] = refl
all-inputs k (x ∷ xs) = ap (λ r. k ∷ r) (all-inputs (k + 1) xs)

no-inputs : {A : Type 0} (k : ℕ) (xs : List A) → inputs-from k (map (λ x. false) xs) ≡ []
no-inputs k [] = refl
no-inputs k (x ∷ xs) = no-inputs (k + 1) xs

port-inputs : (texts : List (List ℕ)) (p : Port) (k : ℕ) (is : List (Option ℕ)) → input_run p.direction k (length is) ≡ inputs-from k (map (λ i. is_input (port_view texts p)) is)
port-inputs texts p k is = by p.direction
  where
    by : (d : Direction) → input_run d k (length is) ≡ inputs-from k (map (λ i. is_input (record (port_view texts p) { direction = d })) is)
    by Input = sym (all-inputs k is)
    by Output = sym (no-inputs k is)

runs-are : (texts : List (List ℕ)) (k : ℕ) (ps : List Port) → input_runs k ps ≡ inputs-from k (flat_map (λ (x : PortView). map (λ i. is_input x) (indices x.range)) (map (port_view texts) ps))
runs-are texts k [] = refl
runs-are texts k (p ∷ ps) =
    let here : List Bool = map (λ i. is_input (port_view texts p)) (indices p.range) in
    let later : List Bool = flat_map (λ (x : PortView). map (λ i. is_input x) (indices x.range)) (map (port_view texts) ps) in
    let many : length (map (λ i. is_input (port_view texts p)) (indices p.range)) ≡ bit_count p.range = length-map (indices p.range) (λ i. is_input (port_view texts p)) ∙ count-indices p.range in
    ap (λ n. input_run p.direction k n ++ input_runs (k + bit_count p.range) ps) (sym (count-indices p.range))
    ∙ ap (λ r. r ++ input_runs (k + bit_count p.range) ps) (port-inputs texts p k (indices p.range))
    ∙ ap (λ r. inputs-from k here ++ r) (runs-are texts (k + bit_count p.range) ps)
    ∙ ap (λ n. inputs-from k here ++ inputs-from (k + n) later) (sym many)
    ∙ sym (inputs-join k here later)

-- the input bits of the module at a place
pub inputs-same : (texts : List (List ℕ)) (m : Module) → input_runs 0 m.ports ≡ input_places (port_bits (module_view texts m))
inputs-same texts m = runs-are texts 0 m.ports
