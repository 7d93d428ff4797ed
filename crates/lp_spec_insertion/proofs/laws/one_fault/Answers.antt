use Rattle.lp_spec_insertion.proofs.Verdicts.{one-line}
use Rattle.lp_spec_insertion.proofs.laws.one_fault.Goals as goal

pub returns : goal.returns
returns c = one-line (record {
  answer = c.one_answer.ensures.read;
  refusal = c.one_answer.ensures.refused;
  groups = c.one_list_of_groups.ensures;
  library = c.one_library.ensures;
  line = c.one_line.ensures;
  netlist = c.one_netlist.ensures;
  refused = c.refused_reads_nothing.ensures;
  intent = c.one_intent.ensures;
})
