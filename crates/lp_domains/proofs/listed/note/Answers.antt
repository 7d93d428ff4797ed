use Rattle.std.proofs.Common.{◌<◌, ◌≤◌, length, ap, ◌∙◌, arith}
use Rattle.std.specs.Prelude.{not}
use Rattle.lp_domains.proofs.Noted.{note-none, note-some, note-past}
use Rattle.lp_domains.proofs.listed.note.Goals as goal
use Rattle.lp_domains.proofs.listed.note.Goals.{else-place-len-via-then-place-len+else-is_none, else-place-len-via-else-place-len}

pub returns-then-is_none : goal.returns-then-is_none
returns-then-is_none c =
    let low : c.args.instance.0 < length c.args.table.now.items = omega (arith, c.if-place-len.true, c.len.ensures) in
    note-none c.args.table.now.items c.args.instance.0 c.args.domain c.index.result.now low c.index.ensures (c.is_none.ensures ∙ ap not c.if-is_none.true)

pub returns-else-place-len : goal.returns-else-place-len
returns-else-place-len c = elim c.else-place-len.branch [
  | else-place-len-via-then-place-len+else-is_none w ↦
      let low : c.args.instance.0 < length c.args.table.now.items = omega (arith, w.if-place-len.true, c.len.ensures) in
      note-some c.args.table.now.items c.args.instance.0 c.args.domain w.index.result.now low w.index.ensures (w.is_none.ensures ∙ ap not w.if-is_none.false)
  | else-place-len-via-else-place-len w ↦
      let high : length c.args.table.now.items ≤ c.args.instance.0 = omega (arith, w.if-place-len.false, c.len.ensures) in
      note-past c.args.table.now.items c.args.instance.0 c.args.domain high
]
