-- The tokens that a text begins with, and the state to which they lead.
use Rattle.std.proofs.Common.{◌≡◌, ℕ, zero, suc, ◌+◌, ◌*◌, ◌-◌, ◌≤◌, ◌<◌, inl, inr, Bool, true, false, List, [], ◌∷◌, ◌++◌, length, take, drop, Some, None, refl, sym, ap, ◌∙◌, subst, arith}
use Rattle.std.specs.Prelude.{max, nat_lt, unwrap_or, if◌then◌else◌}
use Rattle.std.proofs.lemmas.Bool.{true≢false}
use Rattle.std.proofs.lemmas.Bool.Decides.{nat_tests}
use Rattle.std.proofs.lemmas.List.{length-append, length-drop}
use Rattle.lp_text.specs.Texts.{place_of-Some, distinct}
use Rattle.lp_model.specs.declared.netlist.Module.{Module}
use Rattle.lp_verilog_tokens.specs.declared.token.Token.TheVariants as tokens
use Rattle.lp_verilog_tokens.specs.Cutting.{Lexeme, Named, Plain, Piece, piece_of}
use Rattle.lp_verilog_draft.specs.declared.stop.Off.{Off}
use Rattle.lp_verilog_draft.specs.declared.stop.Off.TheVariants as offs
use Rattle.lp_verilog_draft.specs.Verdicts.{Verdict, Goes, Stops}
use Rattle.lp_verilog_grammar.specs.declared.reader.Reader.{Reader}
use Rattle.lp_verilog_grammar.specs.Machine.{step, accepts}
use Rattle.lp_verilog.specs.Reading.{Outcome, Whole, Left, behind, piece_bytes}
use Rattle.lp_verilog.specs.Denotes.{numbered, is_known, Follows, Leads}
use Rattle.lp_verilog.specs.Places.{bytes_of}
use Rattle.lp_verilog.proofs.Across.{has_place, Covers, same_number, renumber, renumber_apart}
use Rattle.lp_verilog.proofs.Renaming.{rd, vd}
use Rattle.lp_verilog.proofs.Renamed.{step_same}
use Rattle.lp_verilog.proofs.States.{token_ok, Sound, Held, step_sound, step_few, step_stands}
use Rattle.lp_verilog.proofs.Spelling.{Like, may_stand, Bytes, token_bytes, take_front, drop_front}
use Rattle.lp_verilog.proofs.Pieces.{fine, Stands, stands_there, piece_fine, blanks, blanks_length, drop_blanks, made_piece}

module _ (names : List (List ℕ)) (size : ℕ) where
  -- tokens lead from a place and a state to others
  abbrev pub Through : List Piece → Bool → List ℕ → Reader → Bool → List ℕ → Reader → Type 0
  Through [] fresh rest m fresh2 rest2 m2 = (fresh ≡ fresh2) × (rest ≡ rest2) × (m ≡ m2)
  Through (p ∷ ps) fresh rest m fresh2 rest2 m2 = (piece_of fresh rest ≡ Some p) × (is_known names p.lexeme ≡ true) × ((u : Reader) × (step (numbered names p.lexeme) (size - length rest + p.gap) m ≡ Goes u) × Through ps false (behind p rest) u fresh2 rest2 m2)

  -- a token that the state does not take, or the end in a state that does not accept
  pub data Fault (tokens : List Piece) (fresh : Bool) (rest : List ℕ) (m : Reader) (off : Off) (at : ℕ) : Type 0 where
    AtToken : (front : List Piece) (fresh2 : Bool) (rest2 : List ℕ) (m2 : Reader) (p : Piece) → Through front fresh rest m fresh2 rest2 m2 → tokens ≡ front ++ p ∷ [] → piece_of fresh2 rest2 ≡ Some p → is_known names p.lexeme ≡ true → step (numbered names p.lexeme) (size - length rest2 + p.gap) m2 ≡ Stops off → at ≡ size - length rest2 + p.gap → Fault tokens fresh rest m off at
    AtEnd : (fresh2 : Bool) (rest2 : List ℕ) (m2 : Reader) → Through tokens fresh rest m fresh2 rest2 m2 → piece_of fresh2 rest2 ≡ None → accepts m2 ≡ false → at ≡ size → Fault tokens fresh rest m off at

  same_at : (o o2 : Off) (a b : ℕ) (w w2 : List ℕ) → Left o a w ≡ Left o2 b w2 → a ≡ b
  same_at o o2 a b w w2 e = cc

  same_off : (o o2 : Off) (a b : ℕ) (w w2 : List ℕ) → Left o a w ≡ Left o2 b w2 → o ≡ o2
  same_off o o2 a b w w2 e = cc

  pub split : (ts : List Piece) (fresh : Bool) (rest : List ℕ) (m : Reader) (off : Off) (at : ℕ) (word : List ℕ) → Leads names size ts fresh rest m (Left off at word) → Fault ts fresh rest m off at
  split [] fresh rest m off at word h = by (accepts m) refl h.1
    where
      by : (b : Bool) → accepts m ≡ b → Left off at word ≡ (if b then Whole m.modules else Left offs.Syntax size []) → Fault [] fresh rest m off at
      by true e k = absurd cc
      by false e k = AtEnd fresh rest m (refl, refl, refl) h.0 e (same_at off offs.Syntax at size word [] k)
  split (p ∷ ts) fresh rest m off at word h = by (step (numbered names p.lexeme) here m) refl h.2 (λ u k. split ts false (behind p rest) u off at word k)
    where
      here : ℕ
      here = size - length rest + p.gap

      longer : (u : Reader) → step (numbered names p.lexeme) here m ≡ Goes u → Fault ts false (behind p rest) u off at → Fault (p ∷ ts) fresh rest m off at
      longer u e (AtToken front fresh2 rest2 m2 q through is there known stops place) = AtToken (p ∷ front) fresh2 rest2 m2 q (h.0, h.1, (u, e, through)) (ap (λ xs. p ∷ xs) is) there known stops place
      longer u e (AtEnd fresh2 rest2 m2 through none refused place) = AtEnd fresh2 rest2 m2 (h.0, h.1, (u, e, through)) none refused place

      by : (v : Verdict Reader) → step (numbered names p.lexeme) here m ≡ v → Follows (λ n. Leads names size ts false (behind p rest) n (Left off at word)) ts here (piece_bytes p rest) (Left off at word) v → ((u : Reader) → Leads names size ts false (behind p rest) u (Left off at word) → Fault ts false (behind p rest) u off at) → Fault (p ∷ ts) fresh rest m off at
      by (Goes u) e k more = longer u e (more u k)
      by (Stops off2) e k more =
          AtToken [] fresh rest m p (refl, refl, refl) (ap (λ xs. p ∷ xs) k.0) h.0 h.1 (e ∙ ap Stops (sym (same_off off off2 at here word (piece_bytes p rest) k.1))) (same_at off off2 at here word (piece_bytes p rest) k.1)

-- ---- how a token that may stand lies in a text

pub record Lies (rest : List ℕ) (p : Piece) : Type 0 where
  pub stands : Stands rest p
  pub bytes : Bytes stands.first stands.more p.size p.lexeme
  pub left : behind p rest ≡ bytes.left
  pub long : length rest ≡ p.gap + max p.size 1 + length (behind p rest)

pub lies : (fresh : Bool) (rest : List ℕ) (p : Piece) → piece_of fresh rest ≡ Some p → may_stand p.lexeme ≡ true → Lies rest p
lies fresh rest p e stand =
    let s = stands_there fresh rest p e stand in
    let b = token_bytes s.fresh s.first s.more p.size p.lexeme stand s.none s.front in
    let long_size = b.long in
    let bigger : max p.size 1 ≡ suc (length b.word) = omega (arith, long_size) in
    let left : behind p rest ≡ b.left = ap (λ xs. drop (max p.size 1) xs) s.there ∙ ap (λ n. drop n (s.first ∷ s.more)) bigger ∙ ap (λ xs. drop (suc (length b.word)) (s.first ∷ xs)) b.parts ∙ drop_front b.word b.left in
    let size_more : length s.more ≡ length b.word + length b.left = ap length b.parts ∙ length-append b.word b.left in
    let size_there : length (drop p.gap rest) ≡ suc (length s.more) = ap length s.there in
    let dropped = length-drop p.gap rest in
    let size_left : length (behind p rest) ≡ length b.left = ap length left in
    record { stands = s; bytes = b; left = left; long = omega (arith, size_more, size_there, dropped, size_left, bigger) }

known_below : (names : List (List ℕ)) (l : Lexeme) → is_known names l ≡ true → fine l ≡ true → may_stand l ≡ true → token_ok (length names) (numbered names l) ≡ true
known_below names (Named text) known f s =
    let p = has_place text names known in
    let inside = place_of-Some text names p.0 p.1 in
    subst (λ o. nat_lt (unwrap_or o 0) (length names) ≡ true) (sym p.1) (less p.0 (length names) inside.0)
  where
    less : (i n : ℕ) → i < n → nat_lt i n ≡ true
    less i n h = grind (arith, nat_tests)
known_below names (Plain (tokens.Mark mark)) known f s = refl
known_below names (Plain (tokens.Keyword word)) known f s = refl
known_below names (Plain (tokens.Number (Some v))) known f s = f
known_below names (Plain (tokens.Constant size value)) known f s = refl
known_below names (Plain _) known f s = absurd (true≢false (sym s))

held_goes : {A : Type 0} (P : A → Type 0) (v : Verdict A) (x : A) → v ≡ Goes x → Held P v → P x
held_goes P v x e h = subst (Held P) e h

module _ (names : List (List ℕ)) (size : ℕ) where
  -- the state behind some tokens is sound, and they have these bytes
  pub record Reached (front : List Piece) (rest : List ℕ) (m : Reader) (rest2 : List ℕ) (m2 : Reader) : Type 0 where
    pub sound : Sound (length names) m2
    pub waits : length m2.waiting ≤ 4 * length front + length m.waiting
    pub bytes : length rest ≡ bytes_of front + length rest2
    pub many : length front ≤ length rest

  pub reached : (front : List Piece) (fresh : Bool) (rest : List ℕ) (m : Reader) (fresh2 : Bool) (rest2 : List ℕ) (m2 : Reader) → Sound (length names) m → Through names size front fresh rest m fresh2 rest2 m2 → Reached front rest m rest2 m2
  reached [] fresh rest m fresh2 rest2 m2 s h =
      let same : length rest ≡ length rest2 = ap length h.1 in
      let waits : length m.waiting ≡ length m2.waiting = ap (λ (r : Reader). length r.waiting) h.2 in
      record { sound = subst (Sound (length names)) h.2 s; waits = omega (arith, waits); bytes = omega (arith, same); many = omega arith }
  reached (p ∷ front) fresh rest m fresh2 rest2 m2 s h =
      let at = size - length rest + p.gap in
      let u = h.2.0 in
      let goes = h.2.1 in
      let stand = step_stands names p.lexeme at m u goes in
      let l = lies fresh rest p h.0 stand in
      let ok = known_below names p.lexeme h.1 (piece_fine rest p l.stands) stand in
      let sound = held_goes (Sound (length names)) (step (numbered names p.lexeme) at m) u goes (step_sound (length names) (numbered names p.lexeme) at m s ok) in
      let few = held_goes (λ (r : Reader). length r.waiting ≤ 4 + length m.waiting) (step (numbered names p.lexeme) at m) u goes (step_few (length names) (numbered names p.lexeme) at m s ok) in
      let r = reached front false (behind p rest) u fresh2 rest2 m2 sound h.2.2 in
      let waits = r.waits in
      let bytes = r.bytes in
      let many = r.many in
      let long = l.long in
      record { sound = r.sound; waits = omega (arith, few, waits); bytes = omega (arith, long, bytes); many = omega (arith, long, many) }

-- ---- the same tokens in another text: their bytes, with blanks before them

abbrev pub respell : List Piece → List ℕ → List ℕ → List ℕ
respell [] rest tail = tail
respell (p ∷ front) rest tail = blanks p.gap ++ (take p.size (drop p.gap rest) ++ respell front (behind p rest) tail)

-- a text begins as the other does, or with a blank
like_begin : (g b : ℕ) (rest more xs : List ℕ) → drop g rest ≡ b ∷ more → Like rest (blanks g ++ b ∷ xs)
like_begin zero b rest more xs there = inr (b, more, xs, there, refl)
like_begin (suc g) b rest more xs there = inl (blanks g ++ b ∷ xs, refl)

token_taken : (rest : List ℕ) (p : Piece) (l : Lies rest p) → take p.size (drop p.gap rest) ≡ l.stands.first ∷ l.bytes.word
token_taken rest p l =
    ap (take p.size) (l.stands.there ∙ ap (λ xs. l.stands.first ∷ xs) l.bytes.parts)
    ∙ ap (λ n. take n (l.stands.first ∷ (l.bytes.word ++ l.bytes.left))) l.bytes.long
    ∙ ap (λ xs. l.stands.first ∷ xs) (take_front l.bytes.word l.bytes.left)

module _ (names : List (List ℕ)) (size : ℕ) where
  respell_like : (front : List Piece) (fresh : Bool) (rest : List ℕ) (m : Reader) (fresh2 : Bool) (rest2 : List ℕ) (m2 : Reader) (tail : List ℕ) → Through names size front fresh rest m fresh2 rest2 m2 → Like rest (respell front rest (32 ∷ tail))
  respell_like [] fresh rest m fresh2 rest2 m2 tail h = inl (tail, refl)
  respell_like (p ∷ front) fresh rest m fresh2 rest2 m2 tail h =
      let l = lies fresh rest p h.0 (step_stands names p.lexeme (size - length rest + p.gap) m h.2.0 h.2.1) in
      subst (λ xs. Like rest (blanks p.gap ++ (xs ++ respell front (behind p rest) (32 ∷ tail)))) (sym (token_taken rest p l)) (like_begin p.gap l.stands.first rest l.stands.more (l.bytes.word ++ respell front (behind p rest) (32 ∷ tail)) l.stands.there)

  -- the first of the tokens stands in the new text, and behind it what is left of that
  record Respelled (p : Piece) (fresh : Bool) (text more : List ℕ) : Type 0 where
    pub piece : piece_of fresh text ≡ Some p
    pub left : behind p text ≡ more
    pub long : length text ≡ p.gap + max p.size 1 + length more

  respelled : (p : Piece) (fresh : Bool) (rest more : List ℕ) (l : Lies rest p) → Like (behind p rest) more → Respelled p fresh (blanks p.gap ++ (take p.size (drop p.gap rest) ++ more)) more
  respelled p fresh rest more l like =
      let b = l.bytes in
      let first = l.stands.first in
      let like2 : Like b.left more = subst (λ xs. Like xs more) l.left like in
      let text : List ℕ = blanks p.gap ++ first ∷ (b.word ++ more) in
      let is : blanks p.gap ++ (take p.size (drop p.gap rest) ++ more) ≡ text = ap (λ xs. blanks p.gap ++ (xs ++ more)) (token_taken rest p l) in
      let piece : piece_of fresh text ≡ Some p = made_piece fresh p.gap first p.size (b.word ++ more) p.lexeme (λ g. b.begins g more like2) (b.again more like2) in
      let long_size = b.long in
      let bigger : max p.size 1 ≡ suc (length b.word) = omega (arith, long_size) in
      let left : behind p text ≡ more = ap (λ xs. drop (max p.size 1) xs) (drop_blanks p.gap (first ∷ (b.word ++ more))) ∙ ap (λ n. drop n (first ∷ (b.word ++ more))) bigger ∙ drop_front b.word more in
      let long_word = length-append b.word more in
      let long_text = length-append (blanks p.gap) (first ∷ (b.word ++ more)) in
      let long_gap = blanks_length p.gap in
      let long : length text ≡ p.gap + max p.size 1 + length more = omega (arith, long_word, long_text, long_gap, bigger) in
      record { piece = ap (piece_of fresh) is ∙ piece; left = ap (behind p) is ∙ left; long = ap length is ∙ long }

  -- the tokens lead through the new text to where its end leads
  pub spell : (front : List Piece) (fresh : Bool) (rest : List ℕ) (m : Reader) (fresh2 : Bool) (rest2 : List ℕ) (m2 : Reader) (tail : List ℕ) (size2 : ℕ) (more : List Piece) (o : Outcome)
      → Through names size front fresh rest m fresh2 rest2 m2 → length rest ≤ size → length (respell front rest (32 ∷ tail)) ≤ size2 → size2 - length (respell front rest (32 ∷ tail)) ≡ size - length rest
      → ((f : Bool) → size2 - length (32 ∷ tail) ≡ size - length rest2 → length (32 ∷ tail) ≤ size2 → Leads names size2 more f (32 ∷ tail) m2 o) → Leads names size2 (front ++ more) fresh (respell front rest (32 ∷ tail)) m o
  spell [] fresh rest m fresh2 rest2 m2 tail size2 more o h within within2 same end =
      subst (λ r. Leads names size2 more fresh (32 ∷ tail) r o) (sym h.2) (end fresh (same ∙ ap (λ xs. size - length xs) h.1) within2)
  spell (p ∷ front) fresh rest m fresh2 rest2 m2 tail size2 more o h within within2 same end =
      let u = h.2.0 in
      let l = lies fresh rest p h.0 (step_stands names p.lexeme (size - length rest + p.gap) m u h.2.1) in
      let rest_of = respell front (behind p rest) (32 ∷ tail) in
      let r = respelled p fresh rest rest_of l (respell_like front false (behind p rest) u fresh2 rest2 m2 tail h.2.2) in
      let text = respell (p ∷ front) rest (32 ∷ tail) in
      let long = l.long in
      let long2 = r.long in
      let at : size2 - length text + p.gap ≡ size - length rest + p.gap = ap (λ n. n + p.gap) same in
      let stepped : Goes u ≡ step (numbered names p.lexeme) (size2 - length text + p.gap) m = sym (ap (λ n. step (numbered names p.lexeme) n m) at ∙ h.2.1) in
      let next : Leads names size2 (front ++ more) false rest_of u o = spell front false (behind p rest) u fresh2 rest2 m2 tail size2 more o h.2.2 (omega (arith, long, within)) (omega (arith, long2, within2)) (omega (arith, long, long2, same, within, within2)) end in
      let here : Leads names size2 (front ++ more) false (behind p text) u o = subst (λ xs. Leads names size2 (front ++ more) false xs u o) (sym r.left) next in
      (r.piece, h.1, subst (Follows (λ n. Leads names size2 (front ++ more) false (behind p text) n o) (front ++ more) (size2 - length text + p.gap) (piece_bytes p text) o) stepped here)

  -- the same tokens lead through another text to the same state
  pub record Past (m2 : Reader) (rest2 : List ℕ) (size2 : ℕ) (ys : List Piece) (o : Outcome) : Type 0 where
    pub fresh : Bool
    pub rest : List ℕ
    pub leads : Leads names size2 ys fresh rest m2 o
    pub same : size2 - length rest ≡ size - length rest2

  pub past : (front : List Piece) (fresh : Bool) (rest : List ℕ) (m : Reader) (fresh2 : Bool) (rest2 : List ℕ) (m2 : Reader) (size2 : ℕ) (other : List ℕ) (ys : List Piece) (ms : List Module)
      → Through names size front fresh rest m fresh2 rest2 m2 → length rest ≤ size → length other ≤ size2 → size2 - length other ≡ size - length rest → Leads names size2 (front ++ ys) fresh other m (Whole ms) → Past m2 rest2 size2 ys (Whole ms)
  past [] fresh rest m fresh2 rest2 m2 size2 other ys ms h within within2 same leads =
      record { fresh = fresh; rest = other; leads = subst (λ r. Leads names size2 ys fresh other r (Whole ms)) h.2 leads; same = same ∙ ap (λ xs. size - length xs) h.1 }
  past (p ∷ front) fresh rest m fresh2 rest2 m2 size2 other ys ms h within within2 same leads =
      let u = h.2.0 in
      let stand = step_stands names p.lexeme (size - length rest + p.gap) m u h.2.1 in
      let l = lies fresh rest p h.0 stand in
      let k = lies fresh other p leads.0 stand in
      let long = l.long in
      let long2 = k.long in
      let at : size2 - length other + p.gap ≡ size - length rest + p.gap = ap (λ n. n + p.gap) same in
      let stepped : step (numbered names p.lexeme) (size2 - length other + p.gap) m ≡ Goes u = ap (λ n. step (numbered names p.lexeme) n m) at ∙ h.2.1 in
      let next : Leads names size2 (front ++ ys) false (behind p other) u (Whole ms) = subst (Follows (λ n. Leads names size2 (front ++ ys) false (behind p other) n (Whole ms)) (front ++ ys) (size2 - length other + p.gap) (piece_bytes p other) (Whole ms)) stepped leads.2 in
      past front false (behind p rest) u fresh2 rest2 m2 size2 (behind p other) ys ms h.2.2 (omega (arith, long, within)) (omega (arith, long2, within2)) (omega (arith, long, long2, same, within, within2)) next

-- the same over the numbers of a larger table
module _ (from to : List (List ℕ)) (apart : distinct from ≡ true) (covers : Covers from to) (size : ℕ) where
  pub moved_through : (front : List Piece) (fresh : Bool) (rest : List ℕ) (m : Reader) (fresh2 : Bool) (rest2 : List ℕ) (m2 : Reader) → Through from size front fresh rest m fresh2 rest2 m2 → Through to size front fresh rest (rd (renumber from to) m) fresh2 rest2 (rd (renumber from to) m2)
  moved_through [] fresh rest m fresh2 rest2 m2 h = (h.0, h.1, ap (rd (renumber from to)) h.2)
  moved_through (p ∷ front) fresh rest m fresh2 rest2 m2 h =
      let ρ = renumber from to in
      let at = size - length rest + p.gap in
      let known = known_still p.lexeme h.1 in
      let stepped : step (numbered to p.lexeme) at (rd ρ m) ≡ vd ρ (rd ρ) (step (numbered from p.lexeme) at m) = ap (λ t. step t at (rd ρ m)) (same_number from to apart p.lexeme h.1 known) ∙ step_same ρ (renumber_apart from to apart) (numbered from p.lexeme) at m in
      (h.0, known, (rd ρ h.2.0, stepped ∙ ap (vd ρ (rd ρ)) h.2.1, moved_through front false (behind p rest) h.2.0 fresh2 rest2 m2 h.2.2))
    where
      known_still : (l : Lexeme) → is_known from l ≡ true → is_known to l ≡ true
      known_still (Plain t) k = refl
      known_still (Named t) k = covers t k
