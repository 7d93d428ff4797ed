-- What is laid out once the module instances are known (own rule).
use Rattle.lp_spec_layout.specs.Sites.{Layout}
use Rattle.lp_layout.specs.declared.feeds.Plan.{Plan}
use Rattle.lp_layout.specs.Sites.{sites_view}

abbrev pub plan_view : Plan → Layout
plan_view p = record { templates = p.templates.now; sites = sites_view p.sites.now; inner = p.inner; ports = p.ports.now }
