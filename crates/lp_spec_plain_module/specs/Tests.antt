-- What a flat design has to be for its netlist to be supplied (own rule).
use Rattle.std.specs.Prelude.{Bool, true, false, not, ◌&&◌, List, [], ◌∷◌, Option, Some, None, bytes_eq}
use Rattle.std.specs.List.{list_all, list_any}
use Rattle.lp_model.specs.NetlistView.{BitView, NetBit, SelectBit, ConstBit, PortView, ConnectionView, ConnectionsView, ByName, ByPosition, InstanceView, AssignView}
use Rattle.lp_model.specs.LibraryView.{PgPinView, PinView, CellView}
use Rattle.lp_spec_design.specs.Keys.{Name}
use Rattle.lp_spec_plain.specs.Cells.{is_plain_cell}
use Rattle.lp_spec_plain_module.specs.Designs.{Flat}
use Rattle.lp_spec_plain_module.specs.Netlists.{power_port, ground_port, is_supply, cell_of}

-- the name is that of a power or ground pin
abbrev pub is_pg_name : List PgPinView → Name → Bool
is_pg_name gs n = list_any (λ (g : PgPinView). bytes_eq g.name n) gs

abbrev pub are_distinct : List PgPinView → Bool
are_distinct [] = true
are_distinct (g ∷ gs) = not (is_pg_name gs g.name) && are_distinct gs

-- signal pins and power and ground pins have different names
abbrev pub has_names_apart : CellView → Bool
has_names_apart c = list_all (λ (q : PinView). not (is_pg_name c.pgs q.name)) c.pins && are_distinct c.pgs

abbrev pub is_free_bit : Flat → BitView → Bool
is_free_bit f (NetBit n) = not (is_supply f n)
is_free_bit f (SelectBit n i) = not (is_supply f n)
is_free_bit f (ConstBit b) = true

-- no power or ground pin is connected yet, and no net has the name of a supply port
abbrev pub is_free_connection : Flat → CellView → ConnectionView → Bool
is_free_connection f c k = not (is_pg_name c.pgs k.port) && list_all (is_free_bit f) k.bits

abbrev pub are_free : Flat → CellView → ConnectionsView → Bool
are_free f c (ByName cs) = list_all (is_free_connection f c) cs
are_free f c (ByPosition values) = false

abbrev pub fits_cell : Flat → ConnectionsView → Option CellView → Bool
fits_cell f cs None = false
fits_cell f cs (Some c) = is_plain_cell c && (has_names_apart c && are_free f c cs)

abbrev pub is_flat_instance : Flat → InstanceView → Bool
is_flat_instance f x = not (bytes_eq f.source.name x.target) && fits_cell f x.connections (cell_of f x.target)

abbrev pub has_no_assign : List AssignView → Bool
has_no_assign [] = true
has_no_assign (a ∷ rest) = false

-- a module of instances of plain cells and nothing else, in which no name is that of a supply port
abbrev pub is_flat : Flat → Bool
is_flat f =
    not (bytes_eq (power_port f) (ground_port f))
    && (has_no_assign f.source.assigns
    && (list_all (λ (p : PortView). not (is_supply f p.name)) f.source.ports
    && list_all (is_flat_instance f) f.source.instances))
