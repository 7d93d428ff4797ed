-- The laws of this crate.
use Rattle.lp_spec_hub.specs.Laws.{NodesBegin, DataBegins, ControlsBegin, BeginAsIntended, DataAsIntended, EndsAsWired, RoutesAreSound, RoutesCome, SuppliesBegin, OriginsAsIntended, PlanByBits, PlanByNumbers, PlanIsWhole, PlanIsInFlow, DoneIsInFlow, StandsNear, ChainByReaders, ContentIsEquivalence, ModuleNamesDiffer, WaysFromBits, OneMoreOperator, CellsAreThere, WaysApart, WholePlan, PartsStandAside, PartsStay, OtherEntries}
use Rattle.lp_spec_hub.specs.Begins.{begin_of}
use Rattle.lp_spec_hub.proofs.Ends.{nodes-end, data-ends}
use Rattle.lp_spec_hub.proofs.Routed.{control-ends}
use Rattle.lp_spec_hub.proofs.Intended.{as-intended, data-intended}
use Rattle.lp_spec_hub.proofs.Routes.{none-sound, routes-sound, routes-come}
use Rattle.lp_spec_hub.proofs.Supplied.{supply-ends, origin-as-intended}
use Rattle.lp_spec_hub.proofs.Flow.{in-plan, in-done}
use Rattle.lp_spec_hub.proofs.ModuleNames.{names-differ}
use Rattle.lp_spec_hub.proofs.Near.{stands-near}
use Rattle.lp_spec_hub.proofs.Readers.{chain-alike}
use Rattle.lp_spec_hub.proofs.Equal.{content-equivalence}
use Rattle.lp_spec_hub.proofs.Ways.{from-bits}
use Rattle.lp_spec_hub.proofs.Changed.{one-more, register-same, switch-same}
use Rattle.lp_spec_hub.proofs.Cells.{cells-there}
use Rattle.lp_spec_hub.proofs.Apart.{ways-apart}
use Rattle.lp_spec_hub.proofs.Orderly.{should}
use Rattle.lp_spec_hub.proofs.Keeping.{aside-law, keeps}
use Rattle.lp_spec_hub.proofs.Whole.{way-of-plan, numbers, has-all}
use Rattle.lp_spec_hub.proofs.Wired.{wired-ends}
use Rattle.lp_spec_hub.specs.Drives.{drive}

pub nodes : NodesBegin
nodes p a from fuel k = nodes-end p a from fuel k

pub reading : DataBegins
reading p a from fuel flows w k o is = data-ends p a from fuel flows w k o is

pub controls : ControlsBegin
controls p a from fuel sound k x has = control-ends p a from sound k (begin_of p.structure a.plan.operators k) (nodes-end p a from fuel k) x has

pub begins : BeginAsIntended
begins p all whole w at k = as-intended p w at all whole k

pub takes : DataAsIntended
takes p all whole w at o = data-intended p w at all whole o

pub wired : EndsAsWired
wired p a from w at name there enough all closed x e here ends = wired-ends w enough p at name (drive p a from) there all closed x e here ends

pub sound : RoutesAreSound
sound = (none-sound, λ made all h. routes-sound all made h)

pub come : RoutesCome
come made all h r there control = routes-come all made h r there control

pub supplied : SuppliesBegin
supplied p a from all carried o x origin is there h = supply-ends p a from all carried o x origin is there h

pub origins : OriginsAsIntended
origins p w at o origin is = origin-as-intended p w at o origin is

pub by_bits : PlanByBits
by_bits p l apart w = way-of-plan p l apart w

pub by_numbers : PlanByNumbers
by_numbers p l apart cells w b e k o is = numbers p l apart cells w b e k o is

pub whole : PlanIsWhole
whole p l apart cells ways = has-all p l apart cells ways

pub flows : PlanIsInFlow
flows p l ordered apart cells = in-plan p l ordered apart cells

pub still_flows : DoneIsInFlow
still_flows all done front h = in-done all done front h

pub near : StandsNear
near p l o s e = stands-near p l o s e

pub by_readers : ChainByReaders
by_readers n i c rs qs alike s = chain-alike rs qs alike n i c s

pub equivalence : ContentIsEquivalence
equivalence modules depth = content-equivalence modules depth

pub module_names : ModuleNamesDiffer
module_names p few x y m n h g a b e = names-differ p few x y m n h g a b e

pub ways : WaysFromBits
ways p apart k j w b source found = from-bits p apart k j w b source found

pub more : OneMoreOperator
more p a from o x = one-more p a from o x

pub cells : CellsAreThere
cells p l none = cells-there p l none

pub apart : WaysApart
apart p names w = ways-apart p names w

pub whole_plan : WholePlan
whole_plan p l orderly w at = should p l orderly w at

pub aside : PartsStandAside
aside = aside-law

pub stay : PartsStay
stay p a from r sound standing t h = keeps p a from r sound standing t h

pub others : OtherEntries
others p a from = (λ r x. register-same p a from r x, λ w none x. switch-same p a from w none x)
