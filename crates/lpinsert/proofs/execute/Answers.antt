use Rattle.std.proofs.Common.{◌∙◌}
use Rattle.lpinsert.proofs.execute.Goals as goal

pub returns : goal.returns
returns g c = record {
  outcome = c.run-outcome.result;
  status_is = c.from.ensures ∙ c.status.ensures;
  by_words = c.run-outcome.ensures.words;
  by_files = c.run-outcome.ensures.files;
  by_counts = c.run-outcome.ensures.counts;
  by_said = c.run-outcome.ensures.said;
}
