use Rattle.std.proofs.Common.{◌≤◌, ◌++◌, [], ◌∷◌, List, ap, sym, ◌∙◌, subst, length, arith}
use Rattle.std.specs.Prelude.{None}
use Rattle.std.specs.List.{flat_map}
use Rattle.std.proofs.lemmas.List.{append-nil, map-append}
use Rattle.std.proofs.lemmas.List.Concat.{flat_map-append}
use Rattle.lp_model.specs.declared.upf.CommandItem.{CommandItem}
use Rattle.lp_model.specs.declared.upf.CommandItem.TheVariants as items
use Rattle.lp_model.specs.Agreement.{numbers_below}
use Rattle.lp_model.specs.CommandsView.{ItemView, command_numbers, command_view, item_numbers, item_view}
use Rattle.lp_model.specs.CommandsView as view
use Rattle.lp_spec_upf.specs.Commands.{Said, TableOf, tables_after}
use Rattle.lp_upf.specs.declared.command.Said as code
use Rattle.lp_upf.specs.declared.commands.Turn.TheVariants as turns
use Rattle.lp_upf.specs.Said.{done_numbers, items_view, said_numbers, said_view}
use Rattle.lp_upf.specs.States.{SameTables, tables_numbers, tables_view}
use Rattle.lp_upf.specs.Turns.{TurnOf}
use Rattle.lp_upf.proofs.Carried.{below_join, below_more, below_parts, grown_length}
use Rattle.lp_upf.proofs.Ready.{items-grown}
use Rattle.lp_upf.proofs.Rows.{tables-grown}
use Rattle.lp_upf.proofs.commands.Done.take.Goals as goal

pub add_table-requires-clause-states : goal.add_table-requires-clause-states
add_table-requires-clause-states c =
    let old = c.args.names.now in
    let new = c.command_of.new.names in
    below_more (length old) (length new) (tables_numbers c.args.self.now.states) (grown_length old new c.in_ok-command.ensures.grown) c.requires.ready.tables

pub returns-in_ok-push-in-Does-clause-value : goal.returns-in_ok-push-in-Does-clause-value
returns-in_ok-push-in-Does-clause-value c = λ s i.
    let old = c.args.names.now in
    let new = c.command_of.new.names in
    let before = c.args.self.now in
    let command = c.in-Does.command in
    let parts = below_parts (length old) (flat_map item_numbers before.commands) (tables_numbers before.states) c.requires.below in
    let is = ap (said_view new) (sym c.in-Does.is) ∙ c.in_ok-command.ensures.value s i in
    let shown =
    ap (items_view new) c.in_ok-push-in-Does.ensures.ok
    ∙ map-append (item_view new) before.commands (items.Command command ∷ [])
    ∙ ap (λ (xs : List ItemView). xs ++ view.Does (command_view new command) ∷ []) (items-grown old new before.commands c.in_ok-command.ensures.grown parts.0) in
    let tables = subst (λ (ts : List TableOf). SameTables (tables_view new c.add_table.new.states) (tables_after command.word (command_view new command) ts)) (tables-grown old new before.states c.in_ok-command.ensures.grown c.requires.ready.tables) c.in_ok-add_table-in-Does.ensures.same in
    subst (λ (x : Said). TurnOf old new before (record { commands = c.push.new.self; states = c.add_table.new.states }) x turns.On) is (shown, tables)

pub returns-in_ok-push-in-Does-clause-below : goal.returns-in_ok-push-in-Does-clause-below
returns-in_ok-push-in-Does-clause-below c =
    let old = c.args.names.now in
    let new = c.command_of.new.names in
    let before = c.args.self.now in
    let command = c.in-Does.command in
    let parts = below_parts (length old) (flat_map item_numbers before.commands) (tables_numbers before.states) c.requires.below in
    let first = below_more (length old) (length new) (flat_map item_numbers before.commands) (grown_length old new c.in_ok-command.ensures.grown) parts.0 in
    let last = ap (λ (r : code.Said). numbers_below (length new) (said_numbers r)) (sym c.in-Does.is) ∙ c.in_ok-command.ensures.below in
    let all =
    ap (λ (xs : List CommandItem). numbers_below (length new) (flat_map item_numbers xs)) c.in_ok-push-in-Does.ensures.ok
    ∙ ap (numbers_below (length new)) (flat_map-append item_numbers before.commands (items.Command command ∷ []))
    ∙ below_join (length new) (flat_map item_numbers before.commands) (flat_map item_numbers (items.Command command ∷ [])) first
    (ap (numbers_below (length new)) (append-nil (command_numbers command)) ∙ last) in
    below_join (length new) (flat_map item_numbers c.push.new.self) (tables_numbers c.add_table.new.states) all c.in_ok-add_table-in-Does.ensures.below

pub returns-in_ok-fault-in-Fails-clause-below : goal.returns-in_ok-fault-in-Fails-clause-below
returns-in_ok-fault-in-Fails-clause-below c =
    let old = c.args.names.now in
    let new = c.command_of.new.names in
    let last = c.intent_fault.new.names in
    let a = grown_length old new c.in_ok-command.ensures.grown in
    let b = grown_length new last c.in_ok-fault-in-Fails.ensures.grown in
    let less : length old ≤ length last = omega (arith, a, b) in
    below_more (length old) (length last) (done_numbers c.args.self.now) less c.requires.below

pub returns-in-Breaks-clause-value : goal.returns-in-Breaks-clause-value
returns-in-Breaks-clause-value c = λ s i.
    let old = c.args.names.now in
    let new = c.command_of.new.names in
    let before = c.args.self.now in
    let parts = below_parts (length old) (flat_map item_numbers before.commands) (tables_numbers before.states) c.requires.below in
    let is = ap (said_view new) (sym c.in-Breaks.is) ∙ c.in_ok-command.ensures.value s i in
    subst (λ (x : Said). TurnOf old new before before x (turns.Ends None)) is (items-grown old new before.commands c.in_ok-command.ensures.grown parts.0)

pub returns-in-Breaks-clause-below : goal.returns-in-Breaks-clause-below
returns-in-Breaks-clause-below c =
    let old = c.args.names.now in
    let new = c.command_of.new.names in
    below_more (length old) (length new) (done_numbers c.args.self.now) (grown_length old new c.in_ok-command.ensures.grown) c.requires.below
