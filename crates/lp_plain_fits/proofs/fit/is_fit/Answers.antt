use Rattle.lp_plain_fits.proofs.Fitting.{if_fit}
use Rattle.lp_plain_fits.proofs.fit.is_fit.Goals as goal

pub returns : goal.returns
returns c =
    if_fit c.args.names.now c.count-count.ensures.distinct c.args.index.now c.requires.cells
    c.is_fit_numbered.result c.args.source.now c.requires.source c.is_fit_numbered.ensures
