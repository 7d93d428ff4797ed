use Rattle.std.proofs.Common.{ℕ, List, ◌≤◌, length, ap, ◌∙◌, rules}
use Rattle.lp_text.proofs.Whole.{whole}
use Rattle.lp_text.proofs.stream.read_whole.Goals as goal

pub returns-in-Ok-2-clause-contents : goal.returns-in-Ok-2-clause-contents
returns-in-Ok-2-clause-contents g c =
    let fits : length c.read_to_end.new.buf.items ≤ 67108864 = search rules in
    whole (g.R.Read.remaining c.args.reader) (g.R.Read.remaining c.take.result.inner) 67108864 c.take.result.limit c.reserve.new.self.items _
    (ap g.R.Read.remaining c.take.ensures.inner) c.take.ensures.limit (◌∙◌ {A = List ℕ} c.reserve.ensures.items c.new-bytes.ensures.items) c.in-Ok-2.ensures.bytes fits
