-- The place of a fault is the first at which the text leaves the netlists.
use Rattle.std.proofs.Common.{◌≡◌, ℕ, ◌+◌, ◌-◌, ◌≤◌, ◌⊎◌, inl, inr, Bool, true, false, List, [], ◌∷◌, ◌++◌, map, length, drop, Some, None, refl, sym, ap, ◌∙◌, subst, arith}
use Rattle.std.specs.Prelude.{not, ◌&&◌}
use Rattle.std.specs.List.{list_any}
use Rattle.std.proofs.lemmas.Bool.{true≢false}
use Rattle.std.proofs.lemmas.List.{length-append}
use Rattle.lp_text.specs.Texts.{distinct}
use Rattle.lp_spec_place.specs.Leaving.{Leaves}
use Rattle.lp_model.specs.declared.netlist.Module.{Module}
use Rattle.lp_model.specs.NetlistView.{module_view}
use Rattle.lp_verilog_tokens.specs.Cutting.{Lexeme, Named, Plain, Piece, piece_of}
use Rattle.lp_verilog_draft.specs.declared.stop.Off.{Off}
use Rattle.lp_verilog_draft.specs.declared.stop.Off.TheVariants as offs
use Rattle.lp_verilog_draft.specs.Verdicts.{Stops}
use Rattle.lp_verilog_grammar.specs.declared.reader.Reader.{Reader}
use Rattle.lp_verilog_grammar.specs.Machine.{start, step, accepts}
use Rattle.lp_verilog.specs.Reading.{Outcome, Whole, Left, ending, behind, piece_bytes, read_rest}
use Rattle.lp_verilog.specs.Denotes.{numbered, is_known, Follows, Leads, LeadsTo}
use Rattle.lp_verilog.specs.Places.{Cuts, IsNetlist, is_ports, plain, can_take, is_stuck, IsStuck, FirstFault}
use Rattle.lp_verilog.proofs.Found.{found, grown_same}
use Rattle.lp_verilog.proofs.Across.{renumber, renumber_apart, same_number, oc, moved_from_start}
use Rattle.lp_verilog.proofs.Unique.{begun, both, covers_left, covers_right}
use Rattle.lp_verilog.proofs.Renaming.{md, rd, vd, off}
use Rattle.lp_verilog.proofs.Renamed.{step_same}
use Rattle.lp_verilog.proofs.States.{start_sound}
use Rattle.lp_verilog.proofs.Ending.{Led, Directed, goes_on}
use Rattle.lp_verilog.proofs.Spelling.{take_front, drop_front}
use Rattle.lp_verilog.proofs.Tabled.{extended, Clean, reading_clean}
use Rattle.lp_verilog.proofs.Fronts.{Through, Fault, AtToken, AtEnd, split, reached, respell, spell, Past, past, moved_through}
use Rattle.lp_verilog.proofs.Leaving.{words, pieces_of, after, words_lead, leads_cut, one_cut, through_begins, through_cuts, through_from, through_grown}

not_stuck : (a b c : Bool) → (a && (not b && not c)) ≡ false → a ≡ true → b ≡ false → c ≡ true
not_stuck true false true h ports waits = refl
not_stuck true false false h ports waits = absurd (true≢false h)
not_stuck true true c h ports waits = absurd (true≢false waits)
not_stuck false b c h ports waits = absurd (true≢false (sym ports))

-- ---- a table of a text's own

pub record Own (text : List ℕ) (at : ℕ) : Type 0 where
  pub names : List (List ℕ)
  pub clean : Clean names (length text)
  pub off : Off
  pub word : List ℕ
  pub leads : LeadsTo names text (Left off at word)

left_of : (ρ : ℕ → ℕ) (o : Outcome) (f : Off) (at : ℕ) (word : List ℕ) → oc ρ o ≡ Left f at word → (g : Off) × (w : List ℕ) × (o ≡ Left g at w)
left_of ρ (Whole ms) f at word e = absurd cc
left_of ρ (Left g a w) f at word e = let same : a ≡ at = cc in (g, w, ap (λ n. Left g n w) same)

own : (names : List (List ℕ)) (text : List ℕ) (f : Off) (at : ℕ) (word : List ℕ) → distinct names ≡ true → length names ≤ 4294967295 → length text ≤ 67108864 → LeadsTo names text (Left f at word) → Own text at
own names text f at word apart few short h =
    let reading = read_rest text (length text) true text [] start in
    let mine = reading.names in
    let read = reading_clean text (length text) true text [] start 0 (record { apart = refl; all = refl; few = omega arith }) in
    let count = read.few in
    let clean : Clean mine (length text) = record { apart = read.apart; all = read.all; few = omega (arith, count) } in
    let less = clean.few in
    let led = found text [] mine (grown_same mine) in
    let same = both mine names text reading.outcome (Left f at word) clean.apart (omega (arith, less, short)) apart few led h in
    let left = left_of (renumber mine (mine ++ names)) reading.outcome (off (renumber names (mine ++ names)) f) at word same in
    record { names = mine; clean = clean; off = left.0; word = left.1; leads = subst (LeadsTo mine text) left.2 led }

-- ---- the tokens before a fault go on

module _ (names : List (List ℕ)) (text : List ℕ) (clean : Clean names (length text)) (short : length text ≤ 67108864) where
  pub completed : (front : List Piece) (fresh2 : Bool) (rest2 : List ℕ) (m2 : Reader) → Through names (length text) front true text start fresh2 rest2 m2 → is_stuck m2 ≡ false → (more : List Piece) × IsNetlist (front ++ more)
  completed front fresh2 rest2 m2 through free =
      let r = reached names (length text) front true text start fresh2 rest2 m2 (start_sound (length names)) through in
      let c = length m2.waiting in
      let t = extended c names clean.apart clean.all in
      let table = t.names in
      let long = t.long in
      let k = length text - length rest2 + 1 in
      let d : Directed m2.declaring m2.waiting m2.draft.scope = λ ports waits. not_stuck (is_ports m2.declaring.form) (plain m2.waiting) (list_any (λ e. can_take m2.declaring m2.waiting e.1) m2.draft.scope) free ports waits in
      let go : Led (after table) k (length table) m2 = goes_on (after table) k (length names) (length table) m2 r.sound d (omega (arith, long)) in
      let tail = words table go.rest in
      let new = respell front text (32 ∷ tail) in
      let more = pieces_of table go.rest in
      let through2 = through_grown names table t.grown (length text) front true text start fresh2 rest2 m2 through in
      let leads : Leads table (length new) (front ++ more) true new start (Whole go.last.modules) =
      spell table (length text) front true text start fresh2 rest2 m2 tail (length new) more (Whole go.last.modules) through2 (omega arith) (omega arith) (omega arith)
      (λ f same within. words_lead table t.apart t.all (length new) go.rest k f m2 go.last go.goes go.accepted go.spelled (ap (λ n. n + 1) same) within) in
      let waits = r.waits in
      let many = r.many in
      let less = clean.few in
      let one_waits : length start.waiting ≡ 1 = refl in (
        more,
        record {
          text = new;
          view = map (module_view table) go.last.modules;
          cuts = leads_cut table (length new) (front ++ more) true new start go.last.modules leads;
          reads = record { names = table; modules = go.last.modules; apart = t.apart; few = omega (arith, long, waits, many, less, short, one_waits); denotes = record { tokens = front ++ more; leads = leads }; seen = refl };
        },
      )

-- ---- other texts with the same tokens

module _ (names : List (List ℕ)) (text : List ℕ) (apart : distinct names ≡ true) (few : length names ≤ 4294967295) where
  -- they come to the same state
  pub record Elsewhere (rest2 : List ℕ) (m2 : Reader) (ys : List Piece) : Type 0 where
    pub table : List (List ℕ)
    pub ρ : ℕ → ℕ
    pub size2 : ℕ
    pub modules : List Module
    pub past : Past table (length text) (rd ρ m2) rest2 size2 ys (Whole modules)
    pub steps : (l : Lexeme) (at : ℕ) (f : Off) → is_known names l ≡ true → step (numbered names l) at m2 ≡ Stops f → step (numbered table l) at (rd ρ m2) ≡ Stops (off ρ f)

  pub elsewhere : (front : List Piece) (fresh2 : Bool) (rest2 : List ℕ) (m2 : Reader) (ys : List Piece) → Through names (length text) front true text start fresh2 rest2 m2 → IsNetlist (front ++ ys) → Elsewhere rest2 m2 ys
  elsewhere front fresh2 rest2 m2 ys through k =
      let reads = k.reads in
      let all = names ++ reads.names in
      let mine = renumber names all in
      let theirs = renumber reads.names all in
      let other = k.text in
      let moved = moved_from_start reads.names all reads.apart (covers_right names reads.names) (length other) reads.denotes.tokens other (Whole reads.modules) reads.denotes.leads in
      let starts : rd theirs start ≡ rd mine start = begun reads.names all reads.few ∙ sym (begun names all few) in
      let cut : Cuts reads.denotes.tokens true other = leads_cut reads.names (length other) reads.denotes.tokens true other start reads.modules reads.denotes.leads in
      let tokens : reads.denotes.tokens ≡ front ++ ys = one_cut reads.denotes.tokens (front ++ ys) true other cut k.cuts in
      let there = subst (λ m. Leads all (length other) reads.denotes.tokens true other m (oc theirs (Whole reads.modules))) starts moved in
      let leads = subst (λ ts. Leads all (length other) ts true other (rd mine start) (oc theirs (Whole reads.modules))) tokens there in
      let through2 = moved_through names all apart (covers_left names reads.names) (length text) front true text start fresh2 rest2 m2 through in
      record {
        table = all;
        ρ = mine;
        size2 = length other;
        modules = map (md theirs) reads.modules;
        past = past all (length text) front true text (rd mine start) fresh2 rest2 (rd mine m2) (length other) other ys (map (md theirs) reads.modules) through2 (omega arith) (omega arith) (omega arith) leads;
        steps = λ l at f known stops.
            ap (λ t. step t at (rd mine m2)) (same_number names all apart l known (known_there l known))
            ∙ step_same mine (renumber_apart names all apart) (numbered names l) at m2
            ∙ ap (vd mine (rd mine)) stops;
      }
    where
      known_there : (l : Lexeme) → is_known names l ≡ true → is_known (names ++ k.reads.names) l ≡ true
      known_there (Plain t) known = refl
      known_there (Named t) known = covers_left names k.reads.names t known

  -- a text with these tokens and the next one is none
  pub never_token : (front : List Piece) (fresh2 : Bool) (rest2 : List ℕ) (m2 : Reader) (p : Piece) (f : Off) (more : List Piece) → Through names (length text) front true text start fresh2 rest2 m2 → is_known names p.lexeme ≡ true → step (numbered names p.lexeme) (length text - length rest2 + p.gap) m2 ≡ Stops f → IsNetlist (front ++ p ∷ more) → ⊥
  never_token front fresh2 rest2 m2 p f more through known stops k =
      let e = elsewhere front fresh2 rest2 m2 (p ∷ more) through k in
      let here = e.past in
      let at : e.size2 - length here.rest + p.gap ≡ length text - length rest2 + p.gap = ap (λ n. n + p.gap) here.same in
      let stopped : step (numbered e.table p.lexeme) (e.size2 - length here.rest + p.gap) (rd e.ρ m2) ≡ Stops (off e.ρ f) = ap (λ n. step (numbered e.table p.lexeme) n (rd e.ρ m2)) at ∙ e.steps p.lexeme (length text - length rest2 + p.gap) f known stops in
      let gone = subst (Follows (λ n. Leads e.table e.size2 more false (behind p here.rest) n (Whole e.modules)) more (e.size2 - length here.rest + p.gap) (piece_bytes p here.rest) (Whole e.modules)) stopped here.leads.2 in
      whole_left e.modules (off e.ρ f) (e.size2 - length here.rest + p.gap) (piece_bytes p here.rest) gone.1
    where
      whole_left : (ms : List Module) (g : Off) (a : ℕ) (w : List ℕ) → Whole ms ≡ Left g a w → ⊥
      whole_left ms g a w e = absurd cc

  -- and none has these tokens alone
  pub never_end : (front : List Piece) (fresh2 : Bool) (rest2 : List ℕ) (m2 : Reader) → Through names (length text) front true text start fresh2 rest2 m2 → accepts m2 ≡ false → IsNetlist (front ++ []) → ⊥
  never_end front fresh2 rest2 m2 through refused k =
      let e = elsewhere front fresh2 rest2 m2 [] through k in
      refused_end e.size2 (rd e.ρ m2) e.modules refused e.past.leads.1
    where
      refused_end : (n : ℕ) (m : Reader) (ms : List Module) → accepts m ≡ false → Whole ms ≡ ending n m → ⊥
      refused_end n m ms no_end h = let left : Whole ms ≡ Left offs.Syntax n [] = h ∙ rw no_end refl in absurd cc

-- ---- the place of a fault

same_next : (p q : Piece) (xs ys : List Piece) → p ∷ xs ≡ q ∷ ys → p ≡ q
same_next p q xs ys e = cc

-- the tokens that are left behind those before the fault
behind_all : (front next : List Piece) → drop (length front) (front ++ next) ≡ next
behind_all front next = drop_front front next

module _ (text : List ℕ) (at : ℕ) (short : length text ≤ 67108864) (o : Own text at) where
  few : length o.names ≤ 4294967295
  few = let less = o.clean.few in omega (arith, less, short)

  at_token : (ts front : List Piece) (fresh2 : Bool) (rest2 : List ℕ) (m2 : Reader) (p : Piece) → Through o.names (length text) front true text start fresh2 rest2 m2 → piece_of fresh2 rest2 ≡ Some p → is_known o.names p.lexeme ≡ true → step (numbered o.names p.lexeme) (length text - length rest2 + p.gap) m2 ≡ Stops o.off → at ≡ length text - length rest2 + p.gap → FirstFault text at
  at_token ts front fresh2 rest2 m2 p through there known stops place =
      let r = reached o.names (length text) front true text start fresh2 rest2 m2 (start_sound (length o.names)) through in
      let bytes = r.bytes in
      record {
        tokens = front;
        next = p ∷ [];
        begins = through_begins o.names (length text) front (p ∷ []) true text start fresh2 rest2 m2 through (there, tt);
        byte = place ∙ omega (arith, bytes);
        never = λ q more is. subst (λ x. IsNetlist (front ++ x ∷ more) → ⊥) (same_next p q [] [] is) (never more);
        leaves = by (is_stuck m2) refl;
      }
    where
      never : (more : List Piece) → IsNetlist (front ++ p ∷ more) → ⊥
      never more = never_token o.names text o.clean.apart few front fresh2 rest2 m2 p o.off more through known stops

      by : (b : Bool) → is_stuck m2 ≡ b → Leaves Piece IsNetlist (front ++ p ∷ []) (length front) ⊎ IsStuck text front
      by true e = inr (record { names = o.names; apart = o.clean.apart; few = few; last = m2; leads = through_from o.names (length text) front true text start fresh2 rest2 m2 through; stuck = e })
      by false e =
          let done = completed o.names text o.clean short front fresh2 rest2 m2 through e in
          let sum = length-append front (p ∷ []) in
          inl (record {
            within = omega (arith, sum);
            before = (done.0, subst (λ xs. IsNetlist (xs ++ done.0)) (sym (take_front front (p ∷ []))) done.1);
            here = λ t rest is more k.
                let next : p ≡ t = same_next p t [] rest (sym (behind_all front (p ∷ [])) ∙ is) in
                never more (subst (λ x. IsNetlist (front ++ x ∷ more)) (sym next) (subst (λ xs. IsNetlist (xs ++ t ∷ more)) (take_front front (p ∷ [])) k));
            ended = λ is k. some_left (sym (behind_all front (p ∷ [])) ∙ is);
          })
        where
          some_left : p ∷ [] ≡ [] → ⊥
          some_left e = cc

  at_end : (front : List Piece) (fresh2 : Bool) (rest2 : List ℕ) (m2 : Reader) → Through o.names (length text) front true text start fresh2 rest2 m2 → piece_of fresh2 rest2 ≡ None → accepts m2 ≡ false → at ≡ length text → FirstFault text at
  at_end front fresh2 rest2 m2 through none refused place =
      record {
        tokens = front;
        next = [];
        begins = through_begins o.names (length text) front [] true text start fresh2 rest2 m2 through tt;
        byte = (through_cuts o.names (length text) front true text start fresh2 rest2 m2 through none, place);
        never = λ p more is. absurd cc;
        leaves = by (is_stuck m2) refl;
      }
    where
      by : (b : Bool) → is_stuck m2 ≡ b → Leaves Piece IsNetlist (front ++ []) (length front) ⊎ IsStuck text front
      by true e = inr (record { names = o.names; apart = o.clean.apart; few = few; last = m2; leads = through_from o.names (length text) front true text start fresh2 rest2 m2 through; stuck = e })
      by false e =
          let done = completed o.names text o.clean short front fresh2 rest2 m2 through e in
          let sum = length-append front [] in
          inl (record {
            within = omega (arith, sum);
            before = (done.0, subst (λ xs. IsNetlist (xs ++ done.0)) (sym (take_front front [])) done.1);
            here = λ t rest is more k. none_left t rest (sym (behind_all front []) ∙ is);
            ended = λ is k. never_end o.names text o.clean.apart few front fresh2 rest2 m2 through refused k;
          })
        where
          none_left : (t : Piece) (rest : List Piece) → [] ≡ t ∷ rest → ⊥
          none_left t rest e = cc

  pub first : FirstFault text at
  first = by (split o.names (length text) o.leads.tokens true text start o.off at o.word o.leads.leads)
    where
      by : Fault o.names (length text) o.leads.tokens true text start o.off at → FirstFault text at
      by (AtToken front fresh2 rest2 m2 p through is there known stops place) = at_token o.leads.tokens front fresh2 rest2 m2 p through there known stops place
      by (AtEnd fresh2 rest2 m2 through none refused place) = at_end o.leads.tokens fresh2 rest2 m2 through none refused place

-- where a text of at most 64 MiB leads to a fault, it leaves the netlists there
pub first_fault : (names : List (List ℕ)) (text : List ℕ) (f : Off) (at : ℕ) (word : List ℕ) → distinct names ≡ true → length names ≤ 4294967295 → length text ≤ 67108864 → LeadsTo names text (Left f at word) → FirstFault text at
first_fault names text f at word apart few short h = first text at short (own names text f at word apart few short h)
