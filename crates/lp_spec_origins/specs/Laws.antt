-- The statements of the laws of this crate (own rule).
use Rattle.std.specs.Prelude.{◌≡◌, ◌≤◌, ◌↔◌, ℕ, List, length, Some, IsTrue, true}
use Rattle.lp_spec_origins.specs.Commands.{Supply, Command}
use Rattle.lp_spec_origins.specs.Groups.{Joined, connected, group_of, is_among, IsWhole}
use Rattle.lp_spec_origins.specs.Origins.{IsOneOrigin, origin_of}

-- the group that is found from a port or net is all that is joined with it, where nothing leads out of that group
abbrev pub AClosedGroupIsAll : Type 0
AClosedGroupIsAll =
    (commands : List Command) (fuel : ℕ) (a b : Supply)
    → IsWhole commands fuel a
    → IsTrue (is_among b (group_of commands fuel a)) ↔ Joined commands a b

-- where nothing leads out of the group that is found from a port or net, an origin that is computed for it is its one origin
abbrev pub OneOrigin : Type 0
OneOrigin =
    (commands : List Command) (fuel : ℕ) (a : Supply) (o : ℕ)
    → IsWhole commands fuel a
    → origin_of commands fuel a ≡ Some o
    → IsOneOrigin commands a o

-- nothing leads out of the group that is found from a port or net, where the fuel is the number of ports and nets: of a list that has all that some command connects, or more
abbrev pub AWholeGroupIsClosed : Type 0
AWholeGroupIsClosed =
    (commands : List Command) (all : List Supply) (fuel : ℕ) (a : Supply)
    → ((x y : Supply) → connected commands x y ≡ true → is_among y all ≡ true)
    → length all ≤ fuel
    → IsWhole commands fuel a
