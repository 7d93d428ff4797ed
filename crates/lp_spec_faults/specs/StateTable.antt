-- The line of the table of faults about the state table (own rule, after IEEE 1801-2015 create_pst, add_pst_state, add_port_state and create_power_switch).
use Rattle.std.specs.Prelude.{ℕ, ◌+◌, ◌==◌, Bool, true, false, not, ◌&&◌, List, [], ◌∷◌, ◌++◌, map, filter, length}
use Rattle.std.specs.List.{list_any, list_all}
use Rattle.lp_model.specs.declared.intent.DeclaredState.{DeclaredState}
use Rattle.lp_model.specs.declared.intent.DeclaredState.TheVariants.{On, Off}
use Rattle.lp_model.specs.declared.intent.RowState.{RowState}
use Rattle.lp_model.specs.declared.intent.RowState.TheVariants as Listed
use Rattle.lp_model.specs.declared.supply.Supplies.{Supplies}
use Rattle.lp_rows.specs.Network.{port_states, root_of}
use Rattle.lp_rows.specs.Rows.{is_on_at}
use Rattle.lp_rows.specs.Leaks.{each_below, fits}
use Rattle.lp_spec_design.specs.Netlists.{upward}
use Rattle.lp_spec_design.specs.Graph.{pairs, numbered}
use Rattle.lp_spec_faults.specs.Lines.{Line}
use Rattle.lp_spec_faults.specs.Order.{in_command_order}

-- ---- F42 StateMismatch: a row has no combination of states, or a switch's output has a voltage that its root lacks

-- a row by its number, from 1, with a state for each column, or a switch by its origin
pub data Entry : Type 0 where
  OfRow : ℕ → List RowState → Entry
  OfSwitch : ℕ → Entry

-- the supply network, the origins of the table's columns, the rows and the origins of switches, each with the number of the command that made it, and the declared states of each switch's output by its origin
pub record StateTable : Type 0 where
  pub supplies : Supplies
  pub columns : List ℕ
  pub rows : List (ℕ × List RowState)
  pub switches : List (ℕ × ℕ)
  pub output_states : ℕ → List DeclaredState

-- rows and switches in the order of the commands
abbrev pub entries : StateTable → List Entry
entries t =
    in_command_order
    (map (λ x. (x.1.0, OfRow (x.0 + 1) x.1.1)) (numbered 0 t.rows)
    ++ map (λ x. (x.0, OfSwitch x.1)) t.switches)

abbrev pub same_row_state : RowState → RowState → Bool
same_row_state (Listed.On v) (Listed.On w) = v == w
same_row_state Listed.Off Listed.Off = true
same_row_state Listed.Free Listed.Free = true
same_row_state _ _ = false

-- the states that a row lists for an origin, over all columns that have it; a free one is none
abbrev pub listed_for : StateTable → List RowState → ℕ → List RowState
listed_for t states o = map (λ c. c.1) (filter (λ c. (c.0 == o) && not (same_row_state c.1 Listed.Free)) (pairs t.columns states))

abbrev pub first_or_free : List RowState → RowState
first_or_free [] = Listed.Free
first_or_free (x ∷ xs) = x

abbrev pub are_same : List RowState → Bool
are_same [] = true
are_same (x ∷ xs) = list_all (same_row_state x) xs

-- the origins by their numbers
abbrev pub origins : StateTable → List ℕ
origins t = upward (length t.supplies.origins) 0

abbrev pub by_origins : StateTable → List RowState → List RowState
by_origins t states = map (λ o. first_or_free (listed_for t states o)) (origins t)

-- each port that has states has one with which all that hangs on it agrees: the test for a leak, asked of no origin, since none has the number of all origins
abbrev pub combines : Supplies → List RowState → Bool
combines s row = each_below (fits s row (length s.origins) (length s.origins)) (length s.origins)

-- no supply is listed with two states, and there are states of all that the row allows together
abbrev pub has_combination : StateTable → List RowState → Bool
has_combination t states = list_all (λ o. are_same (listed_for t states o)) (origins t) && combines t.supplies (by_origins t states)

-- a voltage that none of the root's states has
abbrev pub root_lacks : Supplies → ℕ → DeclaredState → Bool
root_lacks s o Off = false
root_lacks s o (On v) = not (list_any (is_on_at v) (port_states s (root_of s o)))

abbrev pub is_mismatch : StateTable → Entry → Bool
is_mismatch t (OfRow n states) = not (has_combination t states)
is_mismatch t (OfSwitch o) = list_any (root_lacks t.supplies o) (t.output_states o)

abbrev pub state_mismatch : StateTable → Line Entry
state_mismatch t = record { places = entries t; test = is_mismatch t }
