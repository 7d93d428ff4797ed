-- Steps of the code: one more statement, one more instance on the way, and the line of a fault.
use Rattle.std.proofs.Common.{◌≡◌, ◌<◌, ◌+◌, ◌-◌, ℕ, zero, suc, List, [], ◌∷◌, ◌++◌, length, drop, Option, Some, refl, sym, ap, ◌∙◌, append_assoc, arith}
use Rattle.std.specs.Prelude.{codes, option_map, slice_get}
use Rattle.lp_text.specs.Texts.{text_at}
use Rattle.lp_model.specs.declared.netlist.Module.{Module}
use Rattle.lp_model.specs.FaultLines.{line_text}
use Rattle.lp_spec_design.specs.Keys.{Node}
use Rattle.lp_spec_design.specs.Netlists.{Structure}
use Rattle.lp_spec_layout.specs.Parts.{Statement, Template}
use Rattle.lp_spec_faults.specs.Lines.{first_of}
use Rattle.lp_spec_faults.specs.Wires.{two_drivers}
use Rattle.lp_node_text.specs.declared.entered.Entered.{Entered}
use Rattle.lp_node_text.specs.declared.found.Found.TheVariants as founds
use Rattle.lp_node_text.specs.declared.found.Inside.{Inside}
use Rattle.lp_node_text.specs.Numbered.{entered_from, entered_there, found_at, found_text, text_below}
use Rattle.lp_node_text.specs.Paths.{node_text}
use Rattle.lp_node_text.specs.Reports.{report_line, source_report}

-- the statements from one on
record Next (zs : List Statement) (i : ℕ) : Type 0 where
  statement : Statement
  at : slice_get zs i ≡ Some statement
  rest : drop i zs ≡ statement ∷ drop (i + 1) zs

next-at : (zs : List Statement) (i : ℕ) → i < length zs → Next zs i
next-at [] i low = absurd (omega (arith, low))
next-at (z ∷ zs) zero low = record { statement = z; at = refl; rest = refl }
next-at (z ∷ zs) (suc i) low =
    let more = next-at zs i (omega (arith, low)) in
    let place : suc (i + 1) ≡ suc i + 1 = omega arith in
    record { statement = more.statement; at = more.at; rest = more.rest ∙ ap (λ n. more.statement ∷ drop n (z ∷ zs)) place }

pub entered-next : (k j : ℕ) (last next : Option Entered) (zs : List Statement) → j < length zs → next ≡ entered_there k last j (slice_get zs j) → entered_from k next (j + 1) (drop (j + 1) zs) ≡ entered_from k last j (drop j zs)
entered-next k j last next zs low is =
    let n = next-at zs j low in
    ap (λ o. entered_from k o (j + 1) (drop (j + 1) zs)) (is ∙ ap (entered_there k last j) n.at)
    ∙ ap (entered_from k last j) (sym n.rest)

-- the name of an instance and a `/` before what is inside
pub inside-text : (texts : List (List ℕ)) (ms : List Module) (xs : List Template) (depth of place : ℕ) (x : Inside) (out named slashed : List ℕ) → 0 < depth → found_at ms xs of place ≡ Some (founds.Inside x) → named ≡ out ++ text_at texts x.name.0 → slashed ≡ named ++ codes "/"
    → slashed ++ text_below texts ms xs (depth - 1) x.of x.place ≡ out ++ text_below texts ms xs depth of place
inside-text texts ms xs zero of place x out named slashed low found a b = absurd (omega (arith, low))
inside-text texts ms xs (suc depth) of place x out named slashed low found a b =
    let more = text_below texts ms xs depth x.of x.place in
    let one : suc depth - 1 ≡ depth = omega arith in
    ap (λ d. slashed ++ text_below texts ms xs d x.of x.place) one
    ∙ ap (λ r. r ++ text_below texts ms xs depth x.of x.place) (b ∙ ap (λ r. r ++ codes "/") a)
    ∙ append_assoc (out ++ text_at texts x.name.0) (codes "/") (text_below texts ms xs depth x.of x.place)
    ∙ append_assoc out (text_at texts x.name.0) (codes "/" ++ text_below texts ms xs depth x.of x.place)
    ∙ ap (λ o. out ++ found_text texts (text_below texts ms xs depth) o) (sym found)

-- the line of the first net bit with two drivers
pub line-is : (s : Structure) (k : Node) (text line : List ℕ) → first_of (two_drivers s) ≡ Some k → text ≡ node_text k → line ≡ line_text (codes "F16 TwoDrivers") (text ∷ []) → Some line ≡ option_map report_line (source_report s)
line-is s k text line found named is =
    ap (λ (l : List ℕ). Some l) (is ∙ ap (λ t. line_text (codes "F16 TwoDrivers") (t ∷ [])) named)
    ∙ ap (λ o. option_map report_line (option_map (λ j. (codes "F16 TwoDrivers", node_text j ∷ [])) o)) (sym found)
