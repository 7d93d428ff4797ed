-- Module instances as a walk over them notes them (own rule).
use Rattle.std.specs.Prelude.{List, map, option_map}
use Rattle.lp_spec_layout.specs.Sites as layout
use Rattle.lp_layout.specs.declared.site.Site.{Site}
use Rattle.lp_layout.specs.declared.site.Spot.{Spot}

abbrev pub spot_view : Spot → layout.Spot
spot_view a = (a.inst, a.place)

abbrev pub site_view : Site → layout.Site
site_view x = record { of = x.of; by = option_map spot_view x.by; start = x.start; leaf = x.leaf }

abbrev pub sites_view : List Site → List layout.Site
sites_view xs = map site_view xs
