use Rattle.lp_spec_written_at.proofs.JoinedBits.{content-declares}
use Rattle.lp_spec_written_at.proofs.laws.content_declares_its_bits.Goals as goal

pub returns : goal.returns
returns c = λ p l w f d has is. content-declares p l w f d has is
