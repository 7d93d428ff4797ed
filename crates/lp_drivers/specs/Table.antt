-- The first node that is driven twice below each module, noted by the modules' numbers, up to the largest number of a node (own rule).
use Rattle.std.specs.Prelude.{ℕ, ◌+◌, min, Bool, List, [], ◌∷◌, ◌++◌, map, length, replicate, Option, Some, None, option_map, slice_get, slice_index_or, slice_set}
use Rattle.lp_model.specs.declared.netlist.Direction.{Direction}
use Rattle.lp_model.specs.declared.netlist.Direction.TheVariants.{Input, Output}
use Rattle.lp_model.specs.declared.netlist.Module.{Module}
use Rattle.lp_model.specs.declared.netlist.Port.{Port}
use Rattle.lp_spec_design.specs.Netlists.{upward}
use Rattle.lp_spec_design.specs.Graph.{numbered}
use Rattle.lp_spec_layout.specs.Parts.{Child, Statement, OfModule, OfCell, Template}
use Rattle.lp_spec_faults.specs.Modules.{bit_count}
use Rattle.lp_targets.specs.Sizes.{module_bits}
use Rattle.lp_spec_drivers.specs.Counts.{or_else, found}
use Rattle.lp_spec_drivers.specs.Drivers.{joint_places}
use Rattle.lp_drivers.specs.Seen.{Seen, none_seen, see_all, lower_all, known, twice_with}
use Rattle.lp_drivers.specs.Cells.{places_inside}

-- the largest number of 32 bits
abbrev pub largest : ℕ
largest = 4294967295

abbrev pub capped : ℕ → ℕ
capped k = min largest k

abbrev pub moved_by : ℕ → Option ℕ → Option ℕ
moved_by before o = option_map (λ k. capped (before + k)) o

-- the first place of a module's instance
abbrev pub own_by : List Seen → Child → Option ℕ
own_by seen c = twice_with (slice_index_or seen c.of (none_seen 0)) (joint_places c.inputs)

-- a statement's instance and those below it
abbrev pub twice_by : List Seen → List (Option ℕ) → Statement → Option ℕ
twice_by seen table (OfModule c) = moved_by c.before.bits (or_else (own_by seen c) (slice_index_or table c.of None))
twice_by seen table (OfCell c) = None

abbrev pub below_by : List Seen → List (Option ℕ) → Template → Option ℕ
below_by seen table x = found (twice_by seen table) x.statements

-- the largest number of 64 bits
abbrev pub most_bits : ℕ
most_bits = 18446744073709551615

-- of the statement at a place, where there is one
abbrev pub twice_there : List Seen → List (Option ℕ) → Option Statement → Option ℕ
twice_there seen table None = None
twice_there seen table (Some z) = twice_by seen table z

abbrev pub no_template : Template
no_template = record { statements = []; assigns = [] }

-- the bits of a module, up to the largest number; none where there is no module
abbrev pub width_in : Option Module → ℕ
width_in None = 0
width_in (Some m) = min most_bits (module_bits m)

-- what is seen of a module, by its number and its template
abbrev pub seen_at : List (List Bool) → List Module → ℕ × Template → Seen
seen_at cells ms z = see_all (none_seen (width_in (slice_get ms z.0))) (places_inside cells z.1)

-- of all modules
abbrev pub seen_in : List (List Bool) → List Module → List Template → List Seen
seen_in cells ms xs = map (seen_at cells ms) (numbered 0 xs)

-- the bits of a port, where it is an input
abbrev pub input_run : Direction → ℕ → ℕ → List ℕ
input_run Input start count = upward count start
input_run Output start count = []

-- the input bits of ports, from a place on
abbrev pub input_runs : ℕ → List Port → List ℕ
input_runs start [] = []
input_runs start (p ∷ ports) = input_run p.direction start (bit_count p.range) ++ input_runs (start + bit_count p.range) ports

-- the first place of the top that is driven twice: all its input bits are connected outside
abbrev pub twice_on_top : Seen → List Port → Option ℕ
twice_on_top m ports = known (length m.1) (lower_all m.1 m.0 (input_runs 0 ports))

-- ---- all modules

-- the module at a place, where those in it are noted
abbrev pub note : List Seen → List Template → List (Option ℕ) → ℕ → List (Option ℕ)
note seen templates table k = slice_set table k (below_by seen table (slice_index_or templates k no_template))

-- one after another
abbrev pub note_all : List Seen → List Template → List (Option ℕ) → List ℕ → List (Option ℕ)
note_all seen templates table [] = table
note_all seen templates table (k ∷ ks) = note_all seen templates (note seen templates table k) ks

abbrev pub table_of : List Seen → List Template → List ℕ → List (Option ℕ)
table_of seen templates order = note_all seen templates (replicate (length templates) None) order

-- ---- the top

abbrev pub own_on_top : Option Seen → Option Module → Option ℕ
own_on_top (Some m) (Some source) = twice_on_top m source.ports
own_on_top _ _ = None

abbrev pub on_top : List Seen → List (Option ℕ) → List Module → ℕ → Option ℕ
on_top seen table ms top = or_else (moved_by 0 (own_on_top (slice_get seen top) (slice_get ms top))) (slice_index_or table top None)

-- the first node of a netlist, by what is seen of its modules
abbrev pub first_by : List Seen → List Module → List Template → List ℕ → ℕ → Option ℕ
first_by seen ms templates order top = on_top seen (table_of seen templates order) ms top
