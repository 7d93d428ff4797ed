-- What an intent whose names stand in its text denotes.
use Rattle.lp_plain_upf.specs.declared.plain.Intent.{Intent}
use Rattle.lp_plain_upf.specs.declared.spelled.Spelled.{Spelled}

abbrev pub denoted : Spelled → Intent
denoted s = record { power = s.power.now; gnd = s.gnd.now; set = s.set.now; domain = s.domain.now; state = s.state.now; voltage = s.voltage }
