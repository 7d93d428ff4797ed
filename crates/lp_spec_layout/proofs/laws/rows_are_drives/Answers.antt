use Rattle.lp_spec_layout.proofs.Fed.{are_drives}
use Rattle.lp_spec_layout.proofs.laws.rows_are_drives.Goals as goal

pub returns : goal.returns
returns c = λ s t l names single sited cells made. are_drives s t names single cells l sited made
