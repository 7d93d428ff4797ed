-- What the reader's functions answer, in terms of the list machine.
use Rattle.std.specs.Prelude.{◌≡◌}
use Rattle.lp_liberty.specs.declared.run.Stop.{Stop}
use Rattle.lp_liberty.specs.declared.run.Stop.TheVariants as stops
use Rattle.lp_liberty.specs.Machine.{Step, Refused, Reading, Stopped, Deep, Long}

abbrev pub IsStop : Stop → Reading → Type 0
IsStop (stops.Syntax place) r = r ≡ Stopped place
IsStop (stops.Deep place) r = r ≡ Deep place
IsStop (stops.Long place) r = r ≡ Long place
IsStop stops.NoMemory r = Unit {0}

abbrev pub RefusedBy : Stop → Step → Type 0
RefusedBy (stops.Syntax place) s = s ≡ Refused (Stopped place)
RefusedBy (stops.Deep place) s = s ≡ Refused (Deep place)
RefusedBy (stops.Long place) s = s ≡ Refused (Long place)
RefusedBy stops.NoMemory s = Unit {0}
