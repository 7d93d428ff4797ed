use Rattle.std.proofs.lemmas.Str.{IsUtf8-from_ascii}
use Rattle.lp_verilog_tokens.proofs.Visible.{visible_ascii, passes}
use Rattle.lp_verilog_tokens.proofs.ascii.text_of.Goals as goal

pub unwrap-requires : goal.unwrap-requires
unwrap-requires c = passes _ _ c.from_utf8.result c.from_utf8.ensures.cases (IsUtf8-from_ascii c.args.bytes.now (visible_ascii c.args.bytes.now c.requires))
