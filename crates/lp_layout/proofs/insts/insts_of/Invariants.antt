use Rattle.std.proofs.Common.{◌≡◌, map, take}
use Rattle.lp_layout.specs.Insts.{inst_of}
use Rattle.lp_layout.specs.Sites.{sites_view}
use Rattle.lp_layout.proofs.insts.insts_of.Given as goal

abbrev pub invariant-loop-site : goal.invariant-loop-site
invariant-loop-site l = l.insts ≡ map (inst_of l.modules (sites_view l.sites) l.own.0) (sites_view (take l.site-index l.sites))
