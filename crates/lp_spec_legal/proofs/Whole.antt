-- The written netlist, and the one with each content once, are well formed, and their texts read as themselves.
use Rattle.std.proofs.Common.{List}
use Rattle.lp_model.specs.NetlistView.{ModuleView}
use Rattle.lp_verilog.proofs.Unique.{one_view}
use Rattle.lp_vwrite.specs.Layout.{layout}
use Rattle.lp_vwrite.specs.WellFormed.{IsWellFormed, HasTable}
use Rattle.lp_vwrite.proofs.ReadBack.{read_back}
use Rattle.lp_spec_written.specs.Shared.{shared}
use Rattle.lp_spec_written.specs.Written.{written}
use Rattle.lp_spec_legal.specs.Laws.{SharedIsWellFormed, ReadsAsItself, WrittenReadsBack, SharedReadsBack}
use Rattle.lp_spec_legal.proofs.Modules.{written-formed}
use Rattle.lp_spec_legal.proofs.Shared.{shared-formed}

pub shared-is-formed : SharedIsWellFormed
shared-is-formed p l switch_command read insertable limits legal = shared-formed (written p l) (written-formed p l switch_command read insertable limits legal)

as-itself : (modules : List ModuleView) → IsWellFormed modules → HasTable modules → ReadsAsItself modules
as-itself modules formed table = record {
  back = read_back modules formed table;
  alone = λ others reads. one_view (layout modules) others modules reads (read_back modules formed table);
}

pub written-back : WrittenReadsBack
written-back p l switch_command read insertable limits legal table = as-itself (written p l) (written-formed p l switch_command read insertable limits legal) table

pub shared-back : SharedReadsBack
shared-back p l switch_command read insertable limits legal table = as-itself (shared (written p l)) (shared-is-formed p l switch_command read insertable limits legal) table
