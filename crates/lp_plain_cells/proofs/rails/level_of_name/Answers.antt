use Rattle.std.proofs.Common.{◌∙◌, ap, sym, not, cond}
use Rattle.std.specs.Prelude.{option_copied}
use Rattle.lp_behaviour.specs.Signals.{known}
use Rattle.lp_plain_cells.specs.Rails.{pg_found}
use Rattle.lp_plain_cells.proofs.Seen.{value-Some, value-None}
use Rattle.lp_plain_cells.proofs.rails.level_of_name.Goals as goal

pub returns-in-Some : goal.returns-in-Some
returns-in-Some c =
    let found = sym (c.pg_named.ensures ∙ ap (λ pgs. pg_found c.args.names.now pgs c.args.name) c.as_slice.ensures) ∙ ap option_copied c.in-Some.is in
    c.level.ensures
    ∙ (ap (λ b. known (cond b c.args.on.power (not c.args.on.gnd))) c.is_power.ensures
    ∙ sym (value-Some c.args.names.now c.args.cell.now c.args.on.power c.args.on.gnd c.args.name c.in-Some.pg.now found))

pub returns-in-None : goal.returns-in-None
returns-in-None c =
    sym (value-None c.args.names.now c.args.cell.now c.args.on.power c.args.on.gnd c.args.name (sym (c.pg_named.ensures ∙ ap (λ pgs. pg_found c.args.names.now pgs c.args.name) c.as_slice.ensures) ∙ ap option_copied c.in-None.is))
