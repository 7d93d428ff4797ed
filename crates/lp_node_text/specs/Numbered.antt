-- The text of a net bit by the number of its node, found by going down the modules by the numbers of names (own rule).
use Rattle.std.specs.Prelude.{ℕ, zero, suc, ◌+◌, ◌-◌, nat_lt, nat_le, List, [], ◌∷◌, ◌++◌, map, codes, Option, Some, None, option_map, if◌then◌else◌, slice_get}
use Rattle.lp_text.specs.Texts.{text_at}
use Rattle.lp_text.specs.declared.names.NameId.{NameId}
use Rattle.lp_model.specs.declared.graph.NodeName.{NodeName}
use Rattle.lp_model.specs.declared.graph.NodeName.TheVariants.{Scalar, Bit as BitOf}
use Rattle.lp_model.specs.declared.netlist.BitRange.{BitRange}
use Rattle.lp_model.specs.declared.netlist.Instance.{Instance}
use Rattle.lp_model.specs.declared.netlist.Module.{Module}
use Rattle.lp_model.specs.declared.netlist.NetDecl.{NetDecl}
use Rattle.lp_model.specs.declared.netlist.Port.{Port}
use Rattle.lp_fault_text.specs.Paths.{bit_name}
use Rattle.lp_spec_layout.specs.Parts.{Statement, OfModule, OfCell, Template}
use Rattle.lp_spec_faults.specs.Modules.{bit_count}
use Rattle.lp_node_text.specs.declared.bits.Own.{Own}
use Rattle.lp_node_text.specs.declared.bits.Own.TheVariants as owns
use Rattle.lp_node_text.specs.declared.entered.Entered.{Entered}
use Rattle.lp_node_text.specs.declared.found.Found.{Found}
use Rattle.lp_node_text.specs.declared.found.Found.TheVariants as founds

-- ---- the bits of a module

-- a name and the range of a vector
abbrev pub Declaration : Type 0
Declaration = NameId × Option BitRange

abbrev pub port_declared : Port → Declaration
port_declared p = (p.name, p.range)

abbrev pub net_declared : NetDecl → Declaration
net_declared n = (n.name, n.range)

-- the index of a vector's bit at a place, the left one first
abbrev pub index_in : BitRange → ℕ → ℕ
index_in r k = if nat_le r.left r.right then r.left + k else r.left - k

abbrev pub bit_named : NameId → Option BitRange → ℕ → NodeName
bit_named n None k = Scalar n
bit_named n (Some r) k = BitOf n (index_in r k)

-- the bit at a place, or how far the place is behind the last one
abbrev pub bit_from : List Declaration → ℕ → Own
bit_from [] k = owns.Behind k
bit_from (d ∷ ds) k = if nat_lt k (bit_count d.1) then owns.Bit (bit_named d.0 d.1 k) else bit_from ds (k - bit_count d.1)

abbrev pub or_from : List Declaration → Own → Own
or_from ds (owns.Bit b) = owns.Bit b
or_from ds (owns.Behind k) = bit_from ds k

-- ports before nets
abbrev pub own_bit : Module → ℕ → Own
own_bit m k = or_from (map net_declared m.nets) (bit_from (map port_declared m.ports) k)

-- ---- the instance that has a place

-- an instance of a module that begins at a place or before it, else the one before
abbrev pub entered_by : ℕ → Option Entered → ℕ → Statement → Option Entered
entered_by k last j (OfModule c) = if nat_le c.before.bits k then Some (record { number = j; of = c.of; before = c.before.bits }) else last
entered_by k last j (OfCell c) = last

-- the last one of statements, counted from a number on
abbrev pub entered_from : ℕ → Option Entered → ℕ → List Statement → Option Entered
entered_from k last j [] = last
entered_from k last j (z ∷ zs) = entered_from k (entered_by k last j z) (j + 1) zs

-- by the statement of a number, where there is one
abbrev pub entered_there : ℕ → Option Entered → ℕ → Option Statement → Option Entered
entered_there k last j None = last
entered_there k last j (Some z) = entered_by k last j z

-- ---- where a place stands

abbrev pub in_instance : List Instance → ℕ → Option Entered → Option Found
in_instance ys k None = None
in_instance ys k (Some e) = option_map (λ (y : Instance). founds.Inside (record { name = y.name; of = e.of; place = k - e.before })) (slice_get ys e.number)

abbrev pub found_own : List Instance → Template → ℕ → Own → Option Found
found_own ys x k (owns.Bit b) = Some (founds.Bit b)
found_own ys x k (owns.Behind j) = in_instance ys k (entered_from k None 0 x.statements)

abbrev pub found_in : Module → Template → ℕ → Option Found
found_in m x k = found_own m.instances x k (own_bit m k)

abbrev pub found_by : ℕ → Option Module → Option Template → Option Found
found_by k (Some m) (Some x) = found_in m x k
found_by k _ _ = None

-- by the number of the module
abbrev pub found_at : List Module → List Template → ℕ → ℕ → Option Found
found_at ms xs n k = found_by k (slice_get ms n) (slice_get xs n)

-- ---- the text

abbrev pub found_text : List (List ℕ) → (ℕ → ℕ → List ℕ) → Option Found → List ℕ
found_text texts more None = []
found_text texts more (Some (founds.Bit b)) = bit_name texts b
found_text texts more (Some (founds.Inside x)) = text_at texts x.name.0 ++ (codes "/" ++ more x.of x.place)

-- of a place of a module, down to a depth
abbrev pub text_below : List (List ℕ) → List Module → List Template → ℕ → ℕ → ℕ → List ℕ
text_below texts ms xs zero n k = []
text_below texts ms xs (suc depth) n k = found_text texts (text_below texts ms xs depth) (found_at ms xs n k)

-- of a place of the top; no instance is deeper than 64
unfoldable pub place_text : List (List ℕ) → List Module → List Template → ℕ → ℕ → List ℕ
place_text texts ms xs top k = text_below texts ms xs 64 top k
