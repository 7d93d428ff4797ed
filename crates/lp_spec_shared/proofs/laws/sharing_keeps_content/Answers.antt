use Rattle.lp_spec_shared.proofs.Sharing.{content-kept}
use Rattle.lp_spec_shared.proofs.laws.sharing_keeps_content.Goals as goal

pub returns : goal.returns
returns c = content-kept
