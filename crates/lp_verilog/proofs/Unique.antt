-- A text denotes one netlist by the texts of its names, whatever the table.
use Rattle.std.proofs.Common.{◌≡◌, ℕ, ◌+◌, ◌≤◌, Bool, true, false, List, [], ◌∷◌, ◌++◌, map, length, None, refl, sym, ap, ◌∙◌, subst}
use Rattle.std.specs.Prelude.{◌||◌}
use Rattle.std.proofs.lemmas.Option.{slice_get_past}
use Rattle.lp_text.specs.Texts.{has_text, has_text-append, distinct}
use Rattle.lp_model.specs.declared.netlist.Direction.TheVariants as directions
use Rattle.lp_model.specs.declared.netlist.Module.{Module}
use Rattle.lp_model.specs.NetlistView.{ModuleView, module_view}
use Rattle.lp_verilog_grammar.specs.declared.symbol.Symbol.TheVariants as symbols
use Rattle.lp_verilog_draft.specs.declared.stop.Off.{Off}
use Rattle.lp_verilog_draft.specs.declared.value.Side.TheVariants as sides
use Rattle.lp_verilog_draft.specs.declared.declaring.Form.TheVariants as forms
use Rattle.lp_verilog_grammar.specs.declared.reader.Reader.{Reader}
use Rattle.lp_verilog_grammar.specs.Machine.{start}
use Rattle.lp_verilog.specs.Reading.{Outcome, Whole, Left}
use Rattle.lp_verilog.specs.Denotes.{Leads, LeadsTo}
use Rattle.lp_verilog.specs.Reads.{Reads}
use Rattle.lp_verilog.proofs.Renaming.{md, rd}
use Rattle.lp_verilog.proofs.Across.{renumber, by_text, Covers, oc, moved_from_start, same_text_at, seen_modules}
use Rattle.lp_verilog.proofs.Found.{leads_one}

or_left : (a b : Bool) → a ≡ true → (a || b) ≡ true
or_left true b e = refl
or_left false b e = absurd cc

or_right : (a b : Bool) → b ≡ true → (a || b) ≡ true
or_right true b e = refl
or_right false b e = e

pub covers_left : (a b : List (List ℕ)) → Covers a (a ++ b)
covers_left a b t h = has_text-append t a b ∙ or_left (has_text t a) (has_text t b) h

pub covers_right : (a b : List (List ℕ)) → Covers b (a ++ b)
covers_right a b t h = has_text-append t a b ∙ or_right (has_text t a) (has_text t b) h

-- the number that stands for no name
pub none : ℕ → Reader
none q = record {
  waiting = symbols.Source ∷ [];
  modules = [];
  taken = [];
  draft = record { name = record { 0 = q }; scope = []; instances = []; assigns = [] };
  declaring = record { form = forms.Wires; direction = directions.Input; range = None; left = 0 };
  joint = record { target = record { 0 = q }; name = record { 0 = q }; port = record { 0 = q }; positional = false; named = []; ordered = [] };
  value = record { side = sides.Connection; subject = record { 0 = q }; range = None; index = 0; bits = [] };
  left = [];
}

pub begun : (from to : List (List ℕ)) → length from ≤ 4294967295 → rd (renumber from to) start ≡ none (length to + 4294967295)
unfolding none
begun from to few = ap none (ap (by_text to 4294967295) (slice_get_past from 4294967295 few))

-- the outcomes of one text over two tables
pub both : (a b : List (List ℕ)) (text : List ℕ) (x y : Outcome) → distinct a ≡ true → length a ≤ 4294967295 → distinct b ≡ true → length b ≤ 4294967295 → LeadsTo a text x → LeadsTo b text y → oc (renumber a (a ++ b)) x ≡ oc (renumber b (a ++ b)) y
both a b text x y da fa db fb h k =
    let all = a ++ b in
    let size = length text in
    let first = moved_from_start a all da (covers_left a b) size h.tokens text x h.leads in
    let second = moved_from_start b all db (covers_right a b) size k.tokens text y k.leads in
    let starts : rd (renumber b all) start ≡ rd (renumber a all) start = begun b all fb ∙ sym (begun a all fa) in
    let moved = subst (λ m. Leads all size k.tokens true text m (oc (renumber b all) y)) starts second in
    leads_one all size h.tokens k.tokens true text (rd (renumber a all) start) (oc (renumber a all) x) (oc (renumber b all) y) first moved

pub one_view : (text : List ℕ) (u v : List ModuleView) → Reads text u → Reads text v → u ≡ v
one_view text u v h k =
    let all = h.names ++ k.names in
    let outcomes = both h.names k.names text (Whole h.modules) (Whole k.modules) h.apart h.few k.apart k.few h.denotes k.denotes in
    let modules : map (md (renumber h.names all)) h.modules ≡ map (md (renumber k.names all)) k.modules = whole_same _ _ outcomes in
    let left = seen_modules h.names all (renumber h.names all) (same_text_at h.names all h.apart (covers_left h.names k.names)) h.modules in
    let right = seen_modules k.names all (renumber k.names all) (same_text_at k.names all k.apart (covers_right h.names k.names)) k.modules in
    h.seen ∙ sym left ∙ ap (map (module_view all)) modules ∙ right ∙ sym k.seen
  where
    whole_same : (xs ys : List Module) → Whole xs ≡ Whole ys → xs ≡ ys
    whole_same xs ys e = cc

pub none_where_refused : (names : List (List ℕ)) (text : List ℕ) (u : List ModuleView) (o : Off) (at : ℕ) (word : List ℕ) → distinct names ≡ true → length names ≤ 4294967295 → LeadsTo names text (Left o at word) → Reads text u → ⊥
none_where_refused names text u o at word apart few h k =
    let outcomes = both k.names names text (Whole k.modules) (Left o at word) k.apart k.few apart few k.denotes h in
    absurd cc
