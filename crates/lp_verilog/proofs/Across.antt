-- Two tables of names give netlists of the same texts.
use Rattle.std.proofs.Common.{◌≡◌, ℕ, ◌+◌, ◌-◌, ◌⊎◌, Bool, true, false, List, [], ◌∷◌, map, length, Option, Some, None, refl, sym, ap, ◌∙◌, subst, inl, inr, arith}
use Rattle.std.specs.Prelude.{slice_get, slice_index_or, unwrap_or, is_some, if◌then◌else◌}
use Rattle.std.proofs.lemmas.Option.{slice_get_within, get_or_from_slice_get, slice_get-get_or, unwrap_or-slice_get}
use Rattle.std.proofs.lemmas.List.{get_or_past}
use Rattle.lp_text.specs.Texts.{place_of, has_text, text_at, distinct, place_of-Some, place_of-distinct, is_some-place_of}
use Rattle.lp_model.specs.declared.bits.Bit.{Bit}
use Rattle.lp_model.specs.declared.bits.Bit.TheVariants as bits
use Rattle.lp_model.specs.declared.netlist.Port.{Port}
use Rattle.lp_model.specs.declared.netlist.NetDecl.{NetDecl}
use Rattle.lp_model.specs.declared.netlist.Connection.{Connection}
use Rattle.lp_model.specs.declared.netlist.Connections.{Connections}
use Rattle.lp_model.specs.declared.netlist.Connections.TheVariants.{Named, Ordered}
use Rattle.lp_model.specs.declared.netlist.Instance.{Instance}
use Rattle.lp_model.specs.declared.netlist.Assign.{Assign}
use Rattle.lp_model.specs.declared.netlist.Module.{Module}
use Rattle.lp_model.specs.NetlistView as seen
use Rattle.lp_verilog_tokens.specs.declared.token.Token.TheVariants as tokens
use Rattle.lp_verilog_draft.specs.declared.stop.Off.TheVariants as offs
use Rattle.lp_verilog_grammar.specs.declared.reader.Reader.{Reader}
use Rattle.lp_verilog_tokens.specs.Cutting as cutting
use Rattle.lp_verilog_draft.specs.Verdicts.{Verdict, Goes, Stops}
use Rattle.lp_verilog_grammar.specs.Machine.{start, step, accepts}
use Rattle.lp_verilog.specs.Reading.{Outcome, Whole, Left, ending, behind, piece_bytes}
use Rattle.lp_verilog.specs.Denotes.{numbered, is_known, Follows, Leads}
use Rattle.lp_verilog.proofs.Renaming.{tk, bt, bts, pt, nt, cn, cs, it, sg, md, rd, off, vd}
use Rattle.lp_verilog.proofs.Renamed.{step_same}

-- the number in a table of the text that has a number in another; what has none gets a number of its own
abbrev pub by_place : List (List ℕ) → ℕ → Option ℕ → ℕ
by_place to i None = length to + i
by_place to i (Some k) = k

abbrev pub by_text : List (List ℕ) → ℕ → Option (List ℕ) → ℕ
by_text to i None = length to + i
by_text to i (Some t) = by_place to i (place_of t to)

abbrev pub renumber : List (List ℕ) → List (List ℕ) → ℕ → ℕ
renumber from to i = by_text to i (slice_get from i)

-- the texts of a table are among those of another
abbrev pub Covers : List (List ℕ) → List (List ℕ) → Type 0
Covers from to = (t : List ℕ) → has_text t from ≡ true → has_text t to ≡ true

pub has_place : (t : List ℕ) (names : List (List ℕ)) → has_text t names ≡ true → (k : ℕ) × (place_of t names ≡ Some k)
has_place t names h = by (place_of t names) refl
  where
    by : (o : Option ℕ) → place_of t names ≡ o → (k : ℕ) × (place_of t names ≡ Some k)
    by None e = let no : false ≡ true = ap is_some (sym e) ∙ is_some-place_of t names ∙ h in absurd cc
    by (Some k) e = (k, e)

place_has : (t : List ℕ) (names : List (List ℕ)) (k : ℕ) → place_of t names ≡ Some k → has_text t names ≡ true
place_has t names k e = sym (is_some-place_of t names) ∙ ap is_some e

module _ (from to : List (List ℕ)) (apart : distinct from ≡ true) where
  abbrev pub Placed : ℕ → Type 0
  Placed i = (t : List ℕ) × (place_of t from ≡ Some i) × (place_of t to ≡ Some (renumber from to i))

  kind_of : (i : ℕ) → (renumber from to i ≡ length to + i) ⊎ Placed i
  kind_of i = by (slice_get from i) refl
    where
      on : (t : List ℕ) → slice_get from i ≡ Some t → (o : Option ℕ) → place_of t to ≡ o → (renumber from to i ≡ length to + i) ⊎ Placed i
      on t e None p = inl (ap (by_text to i) e ∙ ap (by_place to i) p)
      on t e (Some k) p =
          let within = slice_get_within from i t e in
          let here : slice_index_or from i [] ≡ t = get_or_from_slice_get from i t [] e in
          let first : place_of t from ≡ Some i = subst (λ (x : List ℕ). place_of x from ≡ Some i) here (place_of-distinct from i apart within) in
          let number : renumber from to i ≡ k = ap (by_text to i) e ∙ ap (by_place to i) p in
          inr (t, first, p ∙ ap (λ (x : ℕ). Some x) (sym number))

      by : (o : Option (List ℕ)) → slice_get from i ≡ o → (renumber from to i ≡ length to + i) ⊎ Placed i
      by None e = inl (ap (by_text to i) e)
      by (Some t) e = on t e (place_of t to) refl

  both_placed : (i j : ℕ) → renumber from to i ≡ renumber from to j → Placed i → Placed j → i ≡ j
  both_placed i j e p q =
      let a : slice_index_or to (renumber from to i) [] ≡ p.0 = (place_of-Some p.0 to (renumber from to i) p.2).1 in
      let b : slice_index_or to (renumber from to j) [] ≡ q.0 = (place_of-Some q.0 to (renumber from to j) q.2).1 in
      let texts : p.0 ≡ q.0 = sym a ∙ ap (λ k. slice_index_or to k []) e ∙ b in
      let places : Some i ≡ Some j = sym p.1 ∙ ap (λ (t : List ℕ). place_of t from) texts ∙ q.1 in
      cc

  below : (i j : ℕ) → renumber from to i ≡ length to + i → Placed j → renumber from to i ≡ renumber from to j → ⊥
  below i j e q same = omega (arith, (place_of-Some q.0 to (renumber from to j) q.2).0)

  pub renumber_apart : (i j : ℕ) → renumber from to i ≡ renumber from to j → i ≡ j
  renumber_apart i j e =
      elim (kind_of i) [
        | inl a ↦ elim (kind_of j) [ inl b ↦ omega arith | inr q ↦ absurd (below i j a q e) ]
        | inr p ↦ elim (kind_of j) [ inl b ↦ absurd (below j i b p (sym e)) | inr q ↦ both_placed i j e p q ]
      ]

  -- a name of both tables
  pub same_number : (l : cutting.Lexeme) → is_known from l ≡ true → is_known to l ≡ true → numbered to l ≡ tk (renumber from to) (numbered from l)
  same_number (cutting.Plain (tokens.Mark m)) h k = refl
  same_number (cutting.Plain (tokens.Keyword m)) h k = refl
  same_number (cutting.Plain (tokens.Name n)) h k = refl
  same_number (cutting.Plain (tokens.Number v)) h k = refl
  same_number (cutting.Plain (tokens.Constant size value)) h k = refl
  same_number (cutting.Plain tokens.Unread) h k = refl
  same_number (cutting.Plain tokens.Foreign) h k = refl
  same_number (cutting.Plain tokens.Broken) h k = refl
  same_number (cutting.Named t) h k =
      let p = has_place t from h in
      let q = has_place t to k in
      let inside = place_of-Some t from p.0 p.1 in
      let got : slice_get from p.0 ≡ Some t = slice_get-get_or from p.0 [] inside.0 ∙ ap (λ (x : List ℕ). Some x) inside.1 in
      let number : renumber from to p.0 ≡ q.0 = ap (by_text to p.0) got ∙ ap (by_place to p.0) q.1 in
      let left : unwrap_or (place_of t to) 0 ≡ q.0 = ap (λ o. unwrap_or o 0) q.1 in
      let right : unwrap_or (place_of t from) 0 ≡ p.0 = ap (λ o. unwrap_or o 0) p.1 in
      ap (λ n. tokens.Name (record { 0 = n })) (left ∙ sym number ∙ ap (renumber from to) (sym right))

  -- the texts of numbers are the same
  pub same_text_at : Covers from to → (i : ℕ) → text_at to (renumber from to i) ≡ text_at from i
  same_text_at covers i = by (slice_get from i) refl
    where
      by : (o : Option (List ℕ)) → slice_get from i ≡ o → text_at to (renumber from to i) ≡ text_at from i
      by None e =
          let number : renumber from to i ≡ length to + i = ap (by_text to i) e in
          let gone : text_at from i ≡ [] = sym (unwrap_or-slice_get from i []) ∙ ap (λ (o : Option (List ℕ)). unwrap_or o []) e in
          ap (text_at to) number ∙ get_or_past to (length to + i) [] (omega arith) ∙ sym gone
      by (Some t) e =
          let within = slice_get_within from i t e in
          let here : slice_index_or from i [] ≡ t = get_or_from_slice_get from i t [] e in
          let first : place_of t from ≡ Some i = subst (λ (x : List ℕ). place_of x from ≡ Some i) here (place_of-distinct from i apart within) in
          let q = has_place t to (covers t (place_has t from i first)) in
          let number : renumber from to i ≡ q.0 = ap (by_text to i) e ∙ ap (by_place to i) q.1 in
          ap (text_at to) number ∙ (place_of-Some t to q.0 q.1).1 ∙ sym here

-- what is seen of a netlist with other numbers
module _ (from to : List (List ℕ)) (ρ : ℕ → ℕ) (same : (i : ℕ) → text_at to (ρ i) ≡ text_at from i) where
  seen_map : {A B : Type 0} (f : A → A) (u v : A → B) → ((x : A) → u (f x) ≡ v x) → (xs : List A) → map u (map f xs) ≡ map v xs
  seen_map f u v e [] = refl
  seen_map f u v e (x ∷ xs) = rw (e x, seen_map f u v e xs) refl

  seen_bit : (b : Bit) → seen.bit_view to (bt ρ b) ≡ seen.bit_view from b
  seen_bit (bits.Net n) = ap (λ t. seen.NetBit t) (same n.0)
  seen_bit (bits.Select n i) = ap (λ t. seen.SelectBit t i) (same n.0)
  seen_bit (bits.Const b) = refl

  seen_bits : (xs : List Bit) → seen.bits_view to (bts ρ xs) ≡ seen.bits_view from xs
  seen_bits xs = seen_map (bt ρ) (seen.bit_view to) (seen.bit_view from) seen_bit xs

  seen_port : (p : Port) → seen.port_view to (pt ρ p) ≡ seen.port_view from p
  seen_port p = rw (same p.name.0) refl

  seen_net : (n : NetDecl) → seen.net_view to (nt ρ n) ≡ seen.net_view from n
  seen_net n = rw (same n.name.0) refl

  seen_connection : (c : Connection) → seen.connection_view to (cn ρ c) ≡ seen.connection_view from c
  seen_connection c = rw (same c.port.0, seen_bits c.bits) refl

  seen_connections : (c : Connections) → seen.connections_view to (cs ρ c) ≡ seen.connections_view from c
  seen_connections (Named xs) = ap (λ ys. seen.ByName ys) (seen_map (cn ρ) (seen.connection_view to) (seen.connection_view from) seen_connection xs)
  seen_connections (Ordered xs) = ap (λ ys. seen.ByPosition ys) (seen_map (bts ρ) (seen.bits_view to) (seen.bits_view from) seen_bits xs)

  seen_instance : (i : Instance) → seen.instance_view to (it ρ i) ≡ seen.instance_view from i
  seen_instance i = rw (same i.name.0, same i.target.0, seen_connections i.connections) refl

  seen_assign : (a : Assign) → seen.assign_view to (sg ρ a) ≡ seen.assign_view from a
  seen_assign a = rw (seen_bits a.left, seen_bits a.right) refl

  seen_module : (m : Module) → seen.module_view to (md ρ m) ≡ seen.module_view from m
  seen_module m =
      let name = same m.name.0 in
      let ports = seen_map (pt ρ) (seen.port_view to) (seen.port_view from) seen_port m.ports in
      let nets = seen_map (nt ρ) (seen.net_view to) (seen.net_view from) seen_net m.nets in
      let instances = seen_map (it ρ) (seen.instance_view to) (seen.instance_view from) seen_instance m.instances in
      let assigns = seen_map (sg ρ) (seen.assign_view to) (seen.assign_view from) seen_assign m.assigns in
      cc

  pub seen_modules : (ms : List Module) → map (seen.module_view to) (map (md ρ) ms) ≡ map (seen.module_view from) ms
  seen_modules ms = seen_map (md ρ) (seen.module_view to) (seen.module_view from) seen_module ms

abbrev pub oc : (ℕ → ℕ) → Outcome → Outcome
oc ρ (Whole ms) = Whole (map (md ρ) ms)
oc ρ (Left o at w) = Left (off ρ o) at w

-- the tokens of a text lead to the same outcome over the numbers of a larger table
module _ (from to : List (List ℕ)) (apart : distinct from ≡ true) (covers : Covers from to) (size : ℕ) where
  ending_same : (m : Reader) → ending size (rd (renumber from to) m) ≡ oc (renumber from to) (ending size m)
  ending_same m = by (accepts m)
    where
      by : (b : Bool) → (if b then Whole (map (md (renumber from to)) m.modules) else Left offs.Syntax size []) ≡ oc (renumber from to) (if b then Whole m.modules else Left offs.Syntax size [])
      by true = refl
      by false = refl

  known_same : (l : cutting.Lexeme) → is_known from l ≡ true → is_known to l ≡ true
  known_same (cutting.Plain t) h = refl
  known_same (cutting.Named t) h = covers t h

  followed : (xs : List cutting.Piece) (at : ℕ) (bytes rest : List ℕ) (o : Outcome) (v : Verdict Reader) → ((n : Reader) → Leads from size xs false rest n o → Leads to size xs false rest (rd (renumber from to) n) (oc (renumber from to) o))
      → Follows (λ n. Leads from size xs false rest n o) xs at bytes o v → Follows (λ n. Leads to size xs false rest n (oc (renumber from to) o)) xs at bytes (oc (renumber from to) o) (vd (renumber from to) (rd (renumber from to)) v)
  followed xs at bytes rest o (Goes n) more h = more n h
  followed xs at bytes rest o (Stops f) more h = (h.0, ap (oc (renumber from to)) h.1)

  moved : (xs : List cutting.Piece) (fresh : Bool) (rest : List ℕ) (m : Reader) (o : Outcome) → Leads from size xs fresh rest m o → Leads to size xs fresh rest (rd (renumber from to) m) (oc (renumber from to) o)
  moved [] fresh rest m o h = (h.0, ap (oc (renumber from to)) h.1 ∙ sym (ending_same m))
  moved (p ∷ xs) fresh rest m o h =
      let ρ = renumber from to in
      let at = size - length rest + p.gap in
      let known = known_same p.lexeme h.1 in
      let token : numbered to p.lexeme ≡ tk ρ (numbered from p.lexeme) = same_number from to apart p.lexeme h.1 known in
      let stepped : vd ρ (rd ρ) (step (numbered from p.lexeme) at m) ≡ step (numbered to p.lexeme) at (rd ρ m) = sym (ap (λ t. step t at (rd ρ m)) token ∙ step_same ρ (renumber_apart from to apart) (numbered from p.lexeme) at m) in
      let next = followed xs at (piece_bytes p rest) (behind p rest) o (step (numbered from p.lexeme) at m) (λ n k. moved xs false (behind p rest) n o k) h.2 in
      (h.0, known, subst (Follows (λ n. Leads to size xs false (behind p rest) n (oc ρ o)) xs at (piece_bytes p rest) (oc ρ o)) stepped next)

  pub moved_from_start : (xs : List cutting.Piece) (text : List ℕ) (o : Outcome) → Leads from size xs true text start o → Leads to size xs true text (rd (renumber from to) start) (oc (renumber from to) o)
  moved_from_start xs text o h = moved xs true text start o h
