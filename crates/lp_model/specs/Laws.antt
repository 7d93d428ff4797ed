-- The statements of the laws of this crate (own rule).
use Rattle.std.specs.Prelude.{◌≡◌, ℕ, List, IsTrue, length}
use Rattle.lp_text.specs.Texts.{Grown}
use Rattle.lp_model.specs.Agreement.{numbers_below}
use Rattle.lp_model.specs.LibraryView.{library_view, library_numbers}
use Rattle.lp_model.specs.NetlistView.{netlist_view, netlist_numbers}
use Rattle.lp_model.specs.GroupsView.{groups_view, groups_numbers}
use Rattle.lp_model.specs.CommandsView.{words_view, words_numbers, commands_view, commands_numbers}
use Rattle.lp_model.specs.declared.groups.Groups.{Groups}
use Rattle.lp_model.specs.declared.library.Library.{Library}
use Rattle.lp_model.specs.declared.netlist.Netlist.{Netlist}
use Rattle.lp_model.specs.declared.upf.WordList.{WordList}
use Rattle.lp_model.specs.declared.upf.Commands.{Commands}

-- a library says the same when the table of its names has grown
abbrev pub GrownNamesKeepLibraries : Type 0
GrownNamesKeepLibraries =
    (old new : List (List ℕ)) (l : Library)
    → Grown old new
    → IsTrue (numbers_below (length old) (library_numbers l))
    → library_view new l ≡ library_view old l

-- a netlist says the same when the table of its names has grown
abbrev pub GrownNamesKeepNetlists : Type 0
GrownNamesKeepNetlists =
    (old new : List (List ℕ)) (n : Netlist)
    → Grown old new
    → IsTrue (numbers_below (length old) (netlist_numbers n))
    → netlist_view new n ≡ netlist_view old n

-- liberty groups say the same when the table of their names has grown
abbrev pub GrownNamesKeepGroups : Type 0
GrownNamesKeepGroups =
    (old new : List (List ℕ)) (g : Groups)
    → Grown old new
    → IsTrue (numbers_below (length old) (groups_numbers g))
    → groups_view new g ≡ groups_view old g

-- the words and the commands of a UPF text say the same when the table of their names has grown
abbrev pub GrownNamesKeepWords : Type 0
GrownNamesKeepWords =
    (old new : List (List ℕ)) (w : WordList)
    → Grown old new
    → IsTrue (numbers_below (length old) (words_numbers w))
    → words_view new w ≡ words_view old w

-- the words and the commands of a UPF text say the same when the table of their names has grown
abbrev pub GrownNamesKeepCommands : Type 0
GrownNamesKeepCommands =
    (old new : List (List ℕ)) (c : Commands)
    → Grown old new
    → IsTrue (numbers_below (length old) (commands_numbers c))
    → commands_view new c ≡ commands_view old c
