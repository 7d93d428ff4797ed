-- What the laws of this crate ask of a project follows from the absence of faults.
use Rattle.std.proofs.Common.{sym, subst}
use Rattle.lp_spec_proper.specs.Laws.{AdditionsAreProper, AdditionsHavePlaces, CellsHaveFreePins, InsertableIsOrderly, AddedCellsHavePinsApart, RoutesAreOfControls, ClampsHaveEnables, PortsHaveSupplies, UsesAreOfOrigins}
use Rattle.lp_spec_begun.specs.Begun.{HasOrigins}
use Rattle.lp_spec_begun.specs.Laws.{ContentHasWires, BeginsAsIntended, InsertableBegins}

pub insertable-begins : InsertableIsOrderly → AdditionsAreProper → AdditionsHavePlaces → CellsHaveFreePins → AddedCellsHavePinsApart → RoutesAreOfControls → ClampsHaveEnables → PortsHaveSupplies → UsesAreOfOrigins
    → ContentHasWires → BeginsAsIntended → InsertableBegins
insertable-begins orderly proper places free apart inside enables ports used has begins p l switch_command w read good within content fuel =
    let pins = apart p l switch_command read good within in
    begins p l w
    (has p l w content (orderly p l switch_command read good within) (proper p l switch_command read good within) (places p l switch_command read good within) fuel)
    (record { few = within.few; own = λ x m y source c e h named cell. free p l switch_command read good within x m e y h source c named cell; operators = pins.operators; switches = pins.switches })
    (record { declared = within.controls; inside = inside p l switch_command read good within; enables = enables p l switch_command read good within; scopes = within.scopes })
    (record {
      cells_fit = good.values.cells_fit;
      unfit_power = good.values.unfit_power;
      joined = used p l switch_command read good within;
      outer = λ q h. let s = ports p l switch_command read good within q in subst (HasOrigins p) (sym s.is) (s.power, s.gnd);
      scopes = within.scopes;
    })
