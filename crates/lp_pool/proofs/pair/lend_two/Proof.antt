-- `lend_two` lends two records, and the pool follows them. Assumes `Logic`.
use mathlib.Core.Path.{◌≡◌, refl, sym, ap, subst, ◌∙◌}
use lib.Dec.{lit<}
use Prim.Native.Nat.{ℕ, ◌+◌, ◌*◌, ◌<◌, ◌^◌}
use native.Mathlib.Omega.{arith}
use mathlib.Core.List.{List, [], ◌∷◌, ◌++◌}
use seplogic.Ra.Ura.{Ura}
use base.Fraction.{full_share}
use mir.Syntax.{Fn, named, w64}
use mir.MapTy.{inst_fn}
use mir.Val.{Val, vptr, vint}
use base.Logic.{SProp, ent, sep, never, id⊢}
use base.Fml.{Lft, GName, Share, Fml, ftrue, fsep, fat, flft, fobs, fbor}
use prog.Wp.{Env, Calls, Loops, WpFn, Tables}
use types.Logic.{Logic, sem}
use contract.Monad.{fact}
use contract.Running.{tables, tables_of}
use sound.WpLaws.{WpFn-mono}
use types.Kit.{Item, ⋆, ‵, ◌⊛◌, some, later, await, pick, at_ret, ◌$◌, ◌∵◌, !, qed, by, move, keep, use1, use2, split, join, group, rewrite, fsplit, fsplit3, fjoin, fjoin3, feq_l, suffices, frame, done}
use types.Part.{whole, sub}
use types.Run.{stop, fld, of_opd, addr, blocks, exec, returns, enter}
use types.ByLocal.{alloc_all, pass_all, free_all, look_at, get, get_in, through, sets, sets_last, env}
use types.SemTy.{Body as Borrowed}
use denote.Exit.{no}
use denote.RattleType.{owns}
use denote.Memory.{mem}
use denote.Param.{layout}
use denote.RawPtr.{Ptr, block_ptr, in_a_block}
use denote.Ref.{MutBor, MutRef}
use denote.Signature.{plain}
use denote.Steps.{nothing}
use denote.Triple.Carry.{spared}
use denote.Triple.Clauses.{Clauses, Ended, closing}
use denote.Triple.Entry.{on_entry}
use denote.Triple.Spec.{Meets, triple_of}
use denote.Triple.Table.{entered, run_framed}
use denote.Triple.Walked.{says, needs, Stays, stay_dropped, walk_of, ends_at, Goes-dropped, walk_Meets}
use Rattle.std_alloc.proofs.VecSteps.Shapes.{after}
use Rattle.std_alloc.proofs.RcSteps.{word, word-Good}
use lib.ListN.{length, set, get_or, length-set}
use types.Kit.{flt_l, flt_i}
use types.Run.{bin, size_lit}
use types.ByLocal.{take_at, give_at}
use denote.Builtin.{usize}
use Rattle.core.proofs.mem.Param.{El, R, args, el_x}
use Rattle.core.proofs.ptr.Rows.{times_below, one_below}
use Rattle.lp_pool.specs.Places.{Spot, nowhere, chunk, IsSpot}
use Rattle.lp_pool.specs.Ownership.{held, row}
use Rattle.lp_pool.proofs.Walks.{Bs, sz, word_had, big_lit, slot_low}
use Rattle.lp_pool.proofs.Rows.{besides_two, pair_out, pair_in}
use Rattle.core.proofs.slice.Lists.{any-default}
use Rattle.core.proofs.ptr.Rows.{hd}
use Rattle.std.specs.Prelude.{◌%◌}
use Rattle.lp_pool.specs.contracts.pair.lend_two.Key.{name as #self}
use Rattle.lp_pool.proofs.pair.lend_two.Statement as stated
use Rattle.lp_pool.proofs.pair.lend_two.Code as code
use denote.Signature.{mut_slice_of}
use denote.Builtin.{SliceRefMutOf}
use denote.Slice.{MutSlice, slice_val}
use denote.Struct.Tuple.{Tuple}
use denote.Triple.Walked.{Goes-spent_slice}
use denote.Follow.{both_by, follows_both}
use denote.Array.{Array}
use denote.RattleType.{RattleType}
use types.SemTy.{SemTy, Arr}
use types.Follow.{after₂, takes_two}
use types.Mut.{open_ref}
use types.Part.{agg}
use types.Run.{and_then, no_more, first as first_in}
use types.Kit.{use3, drop as skip_item}
use base.Fml.{fex}
use denote.Memory.{part_at}
use types.Kit.{fpick, feq_i, split3}
use mathlib.Core.Logic.{◌≢◌}
use Rattle.lp_pool.proofs.Walks.{two_val, two_of}
use Rattle.lp_pool.proofs.Opens.{Pl, Opened, Kept, opens_pool, shuts_pool}
use Rattle.lp_pool.specs.Pool.{Held, held as pool_of, with_record}
use Rattle.lp_pool.specs.PairLends.{sole}

module _ (E : El) where
  abbrev function : Fn
  function = inst_fn (args E) code.function

  abbrev Both : Lft → List RattleType
  Both κ = MutRef (named 0) κ (R E) ∷ MutRef (named 0) κ (R E) ∷ []

  abbrev ended : Ended
  ended = record { signature = record { lifetimes = 1; outlives = []; params = SliceRefMutOf (0 ∷ []) tt (plain (λ _. Pl E)) (λ _. tt) ∷ plain (λ _. Bs E) ∷ plain (λ _. usize) ∷ plain (λ _. Bs E) ∷ plain (λ _. usize) ∷ []; result = plain (λ κs. Tuple (Both κs.0)) }; kept = (no, (no, (no, (no, (no, tt))))) }

  abbrev stayed : Stays ended.signature.params ended.kept
  stayed = (stay_dropped (mut_slice_of (0 ∷ []) tt (plain (λ _. Pl E))) no, (stay_dropped (plain (λ _. Bs E)) no, (stay_dropped (plain (λ _. usize)) no, (stay_dropped (plain (λ _. Bs E)) no, (stay_dropped (plain (λ _. usize)) no, tt)))))

  abbrev Asks : List (Held (el_x E)) → (Bs E).Denot → ℕ → (Bs E).Denot → ℕ → Type 0
  Asks ds first i second j = (length ds ≡ 1) × (i < length (sole ds).items) × (j < length (sole ds).items) × (i ≢ j) × IsSpot (sole ds).spots i first.ptr × IsSpot (sole ds).spots j second.ptr

  abbrev Gives0 : List (Held (el_x E)) → ℕ → ℕ → MutBor (el_x E) × MutBor (el_x E) → Type 0
  Gives0 ds i j r = (r.0.now ≡ get_or (sole ds).items i r.0.now) × (r.1.now ≡ get_or (sole ds).items j r.1.now)

  abbrev ends_as : List (Held (el_x E)) → ℕ → ℕ → el_x E → el_x E → List (Held (el_x E))
  ends_as ds i j x y = with_record (with_record (sole ds) i x) j y ∷ []

  abbrev spec : {M : Type 1} {𝓤 : Ura M} (𝓛 : Logic 𝓤) → Clauses 𝓤 ended
  spec {𝓤 = 𝓤} 𝓛 κs a = record {
    ghost = Unit {0};
    requires = λ _. fact 𝓤 (Asks a.0.now a.1.0 a.1.1.0 a.1.1.1.0 a.1.1.1.1.0);
    ensures = λ _ r w. sep 𝓤 (sem 𝓛 (follows_both (Array (Pl E) 0) (R E) (R E) a.0.ghost_name r.0.ghost_name r.1.ghost_name (ends_as a.0.now a.1.1.0 a.1.1.1.1.0))) (fact 𝓤 (Gives0 a.0.now a.1.1.0 a.1.1.1.1.0 r));
  }

module _ (E : El) {M : Type 1} {𝓤 : Ura M} (𝓛 : Logic 𝓤) (C : Calls 𝓤 𝓛.H) (Λ : Loops 𝓤 𝓛.H) (κ : Lft) (q : Share) (rb ro : ℕ) (γ : GName) (d : Held (el_x E)) (first : (Bs E).Denot) (i : ℕ) (second : (Bs E).Denot) (j : ℕ) (us0 us1 us2 us3 us4 : List Val) where
  open 𝓛 use {H, A}

  abbrev self : MutBor (List (Held (el_x E)))
  self = record { ref_ptr = (rb, ro); ghost_name = γ; now = d ∷ [] }

  abbrev bound : (walk_of 𝓛 (ended E) (stayed E) (spec E 𝓛)).Ghost
  bound = (((κ, tt), (q, tt), tt, (self, (first, (i, (second, (j, tt))))), (us0, (us1, (us2, (us3, (us4, tt)))))), tt)

  abbrev Post : Val → SProp 𝓤
  Post = (walk_of 𝓛 (ended E) (stayed E) (spec E 𝓛)).post bound

  abbrev new : el_x E → el_x E → List (Held (el_x E))
  new = ends_as E (d ∷ []) i j

  abbrev Row : ℕ → SemTy
  Row n = Arr (mem (Pl E)) n

  abbrev Had : List (Item 𝓤)
  Had = ‵ (fobs γ ((Row 1).coded.code (d ∷ []))) ∷ ‵ (fbor κ (Borrowed (Row 1) rb ro γ)) ∷ ‵ (flft κ q) ∷ []

  ends : (z : Opened E d) (v w : el_x E) → with_record (with_record d i v) j w ≡ pool_of (set (set z.0.0.records.items i v) j w) z.0.0.records.spots
  ends z v w = ap (λ p. with_record (with_record p i v) j w) (sym z.0.1.0)

  abbrev Rest : Opened E d → Fml
  Rest z = fsep (besides_two E z.0.0.records.spots z.0.0.records.items i j) (Kept E rb ro d z)

  -- both records are back
  back : (z : Opened E d) (b o b' o' : ℕ) → Asks E (pool_of z.0.0.records.items z.0.0.records.spots ∷ []) first i second j → first.ptr ≡ block_ptr b o → second.ptr ≡ block_ptr b' o'
      → (v w : el_x E) → ent 𝓤 (sep 𝓤 (sem 𝓛 ((mem (R E)).own_at v b (i % chunk * sz E + o))) (sep 𝓤 (sem 𝓛 ((mem (R E)).own_at w b' (j % chunk * sz E + o'))) (sem 𝓛 (Rest z)))) (sem 𝓛 ((Row 1).own_at (new v w) rb ro))
  back z b o b' o' asks e e' v w =
      let ps = z.0.0.records.spots in let xs = z.0.0.records.items in
      qed 𝓛 (‵ (held (R E) (block_ptr b o, i % chunk) v) ∷ ‵ (held (R E) (block_ptr b' o', j % chunk) w) ∷ ‵ (fsep (besides_two E ps xs i j) (Kept E rb ro d z)) ∷ []) ∵
      rewrite ! 0 (λ (p : Spot). ‵ (held (R E) p v)) (sym (asks.4.there ∙ ap (λ (p : Ptr). (p, i % chunk)) e)) refl $
      rewrite ! 1 (λ (p : Spot). ‵ (held (R E) p w)) (sym (asks.5.there ∙ ap (λ (p : Ptr). (p, j % chunk)) e')) refl $
      move ! (2 ∷ []) $ fsplit ! $ move ! (2 ∷ 3 ∷ 0 ∷ []) $
      use3 𝓛 (‵ (row (R E) ps (set (set xs i v) j w))) (pair_in E 𝓛 ps xs i j v w asks.4.within asks.1 asks.5.within asks.2 asks.3) $
      use2 𝓛 (‵ (part_at (Pl E) full_share (pool_of (set (set xs i v) j w) ps) rb ro)) (shuts_pool E rb ro 𝓛 d z (set (set xs i v) j w) (length-set (set xs i v) j w ∙ length-set xs i v)) $
      rewrite ! 0 (λ (p : Held (el_x E)). ‵ (part_at (Pl E) full_share p rb ro)) (sym (ends z v w)) refl $
      nothing ! $ move ! (1 ∷ 0 ∷ []) $ fjoin ! $ feq_i ! ℕ 1 1 refl $ fjoin ! $ done !

  exits : (v : Val) (r : MutBor (el_x E) × MutBor (el_x E)) → Gives0 E (d ∷ []) i j r
      → ent 𝓤 (sep 𝓤 (sem 𝓛 ((Tuple (Both E κ)).own_val r (v ∷ []))) (sep 𝓤 (A.lft κ q) (sem 𝓛 (follows_both (Array (Pl E) 0) (R E) (R E) γ r.0.ghost_name r.1.ghost_name new)))) (Post v)
  exits v r g =
      qed 𝓛 (‵ ((Tuple (Both E κ)).own_val r (v ∷ [])) ∷ ‵ (flft κ q) ∷ ‵ (follows_both (Array (Pl E) 0) (R E) (R E) γ r.0.ghost_name r.1.ghost_name new) ∷ []) ∵
      suffices ! _ (ends_at 𝓛 (ended E) (stayed E) (spec E 𝓛) bound v r (tt, (tt, (tt, (tt, (tt, tt))))) (tt, (tt, (tt, (tt, (tt, tt)))))) $
      nothing ! $ nothing ! $ fjoin ! $ nothing ! $ fjoin ! $ nothing ! $ fjoin ! $ nothing ! $ fjoin ! $ nothing ! $ fjoin ! $ join ! $ nothing ! $ move ! (2 ∷ 0 ∷ []) $ join ! $ join ! $ frame ! $ says ! g $ done !

  walk : Asks E (d ∷ []) first i second j → i < 2 ^ 64 → j < 2 ^ 64 → ent 𝓤 (⋆ 𝓛 Had) (WpFn 𝓤 H C Λ (function E) (slice_val (rb, ro) 1 ∷ word first.ptr ∷ vint w64 i ∷ word second.ptr ∷ vint w64 j ∷ []) Post)
  unfolding both_by
  walk asked fits_i fits_j =
      qed 𝓛 Had ∵ enter ! C Λ (function E) (slice_val (rb, ro) 1 ∷ word first.ptr ∷ vint w64 i ∷ word second.ptr ∷ vint w64 j ∷ []) _ $
      alloc_all ! (λ l. pass_all ! refl ((tt, (tt, (record { fits = lit< tt }, tt))), (word-Good [] first.ptr, ((tt, record { fits = fits_i }), (word-Good [] second.ptr, ((tt, record { fits = fits_j }), tt))))) $
      let En : Env 𝓤 H = env (function E).locals l in
      open_ref ! tt (Row 1) {b = rb} {o = ro} $ fsplit ! $ feq_l ! (λ len. fsplit ! $
      use1 𝓛 (‵ (fex (Opened E d) (λ z. fsep (row (R E) z.0.0.records.spots z.0.0.records.items) (Kept E rb ro d z)))) (opens_pool E rb ro 𝓛 d) $ fpick ! (λ z. fsplit ! $
      move ! (1 ∷ []) $ fsplit ! $ flt_l ! (λ small. flt_i ! (chunk * sz E) (2 ^ 63) small $ fjoin ! $ move ! (1 ∷ 0 ∷ []) $
      let ps = z.0.0.records.spots in let xs = z.0.0.records.items in
      let asks : Asks E (pool_of xs ps ∷ []) first i second j = subst (λ (p : Held (el_x E)). Asks E (p ∷ []) first i second j) (sym z.0.1.0) asked in
      let k = hd xs (omega (arith, asks.1)) in let x = get_or xs i k in let y = get_or xs j k in
      use1 𝓛 (‵ (held (R E) (get_or ps i nowhere) x) ⊛ ‵ (held (R E) (get_or ps j nowhere) y) ⊛ ‵ (besides_two E ps xs i j)) (pair_out E 𝓛 ps xs i j k asks.4.within asks.1 asks.5.within asks.2 asks.3) $ split3 ! $
      rewrite ! 0 (λ (p : Spot). ‵ (held (R E) p x)) asks.4.there refl $ rewrite ! 1 (λ (p : Spot). ‵ (held (R E) p y)) asks.5.there refl $
      in_a_block ! first.ptr (λ p. held (R E) (p, i % chunk) x) (id⊢ 𝓤 (never 𝓤)) (λ b o e. move ! (1 ∷ []) $
      in_a_block ! second.ptr (λ p. held (R E) (p, j % chunk) y) (id⊢ 𝓤 (never 𝓤)) (λ b' o' e'. move ! (1 ∷ 0 ∷ []) $
      -- [the records; the other slots; the pool's fields; nothing; the open borrow; obs; auth]
      let s = sz E in let tiny : s < 2 ^ 64 = omega (arith, one_below chunk s (2 ^ 63) (omega arith) small) in
      let far : i % chunk * s < 2 ^ 64 = omega (arith, slot_low i, times_below (i % chunk) chunk s (2 ^ 63) (omega (arith, slot_low i)) small) in
      let far' : j % chunk * s < 2 ^ 64 = omega (arith, slot_low j, times_below (j % chunk) chunk s (2 ^ 63) (omega (arith, slot_low j)) small) in
      let at = i % chunk * s + o in let at' = j % chunk * s + o' in
      take_at ! 2 $ rewrite ! 0 (λ (p : Ptr). ‵ (fat full_share (layout (Bs E)) (l 2) 0 (word p))) e refl $ give_at ! 2 $
      take_at ! 4 $ rewrite ! 0 (λ (p : Ptr). ‵ (fat full_share (layout (Bs E)) (l 4) 0 (word p))) e' refl $ give_at ! 4 $ first_in ! $ blocks ! $
      sets ! (bin ! (get ! refl) (big_lit ! (record { fits = lit< tt })) (omega arith)) refl (tt, record { fits = omega (arith, slot_low i) }) $
      sets ! (bin ! (get ! refl) (size_lit ! (record { fits = tiny })) (record { fits = far })) refl (tt, record { fits = far }) $
      sets ! (bin ! (get_in ! (fld ! refl (stop !)) (sub ! 0 refl (whole !))) (get ! refl) tt) refl (tt, tt) $
      sets ! (bin ! (get ! refl) (big_lit ! (record { fits = lit< tt })) (omega arith)) refl (tt, record { fits = omega (arith, slot_low j) }) $
      sets ! (bin ! (get ! refl) (size_lit ! (record { fits = tiny })) (record { fits = far' })) refl (tt, record { fits = far' }) $
      sets ! (bin ! (get_in ! (fld ! refl (stop !)) (sub ! 0 refl (whole !))) (get ! refl) tt) refl (tt, tt) $
      sets ! (addr ! (through ! refl (stop !))) refl (tt, tt) $ sets ! (addr ! (through ! refl (stop !))) refl (tt, tt) $
      sets_last ! (agg ! (and_then ! (get ! refl) (and_then ! (get ! refl) (no_more !)))) refl (tt, (tt, (tt, tt))) $
      exec ! C Λ En (after 1 (function E).body) (at_ret En Post) $ sets ! (of_opd ! (get ! refl)) refl (tt, (tt, (tt, tt))) $
      move ! (2 ∷ 3 ∷ []) $ fjoin ! $ move ! (4 ∷ 5 ∷ 6 ∷ 1 ∷ 2 ∷ 0 ∷ []) $ group ! 6 $
      use1 𝓛 (later (some (λ (γs : GName × GName). (‵ (fobs γs.0 ((R E).coded.code x)) ⊛ ‵ (fbor κ (Borrowed (mem (R E)) b at γs.0))) ⊛ (‵ (fobs γs.1 ((R E).coded.code y)) ⊛ ‵ (fbor κ (Borrowed (mem (R E)) b' at' γs.1)))
      ⊛ ‵ (flft κ q) ⊛ ‵ (after₂ (Row 1) (mem (R E)) (mem (R E)) γ γs.0 γs.1 new))))
      (takes_two 𝓛 (Row 1) (mem (R E)) (mem (R E)) new κ q rb ro b at b' at' γ (sem 𝓛 (Rest z)) (back z b o b' o' asks e e') ((Row 1).coded.code (d ∷ [])) ((Row 1).coded.code (d ∷ [])) x y) $ await ! tt $ pick ! (λ γs.
      let one : MutBor (el_x E) = record { ref_ptr = (b, at); ghost_name = γs.0; now = x } in let two : MutBor (el_x E) = record { ref_ptr = (b', at'); ghost_name = γs.1; now = y } in
      split3 ! $ split ! $ feq_i ! (List Val) (vptr b at ∷ []) (vptr b at ∷ []) refl $ fjoin3 ! $ move ! (1 ∷ []) $ split ! $ feq_i ! (List Val) (vptr b' at' ∷ []) (vptr b' at' ∷ []) refl $ fjoin3 ! $ move ! (1 ∷ 0 ∷ []) $
      use2 𝓛 (‵ ((Tuple (Both E κ)).own_val (one, two) (two_val (vptr b at) (vptr b' at') ∷ []))) (two_of 𝓛 (MutRef (named 0) κ (R E)) (MutRef (named 0) κ (R E)) one two (vptr b at) (vptr b' at')) $
      move ! (1 ∷ []) $ split ! $ returns ! (look_at ! 0 refl) $ free_all ! refl $ keep ! (2 ∷ 0 ∷ 1 ∷ []) $
      by ! (exits (two_val (vptr b at) (vptr b' at')) (one, two) (subst (λ (p : Held (el_x E)). Gives0 E (p ∷ []) i j (one, two)) z.0.1.0 (any-default xs i k x asks.1, any-default xs j k y asks.2))))))))))

  entry : Asks E (d ∷ []) first i second j → ent 𝓤 (on_entry 𝓛 (ended E).signature (κ, tt) (q, tt) (self, (first, (i, (second, (j, tt))))) (us0, (us1, (us2, (us3, (us4, tt)))))) (WpFn 𝓤 H C Λ (function E) (us0 ++ (us1 ++ (us2 ++ (us3 ++ (us4 ++ []))))) Post)
  entry asked =
      qed 𝓛 ((‵ (flft κ q) ⊛ ‵ ftrue) ∷ ‵ (owns (MutSlice (named 0) κ (Pl E) ∷ Bs E ∷ usize ∷ Bs E ∷ usize ∷ []) (self, (first, (i, (second, (j, tt))))) (us0, (us1, (us2, (us3, (us4, tt)))))) ∷ []) ∵
      split ! $ move ! (2 ∷ []) $ fsplit ! $ fsplit3 ! $ fsplit ! $ feq_l ! (λ e0. skip_item ! $
      move ! (2 ∷ []) $ fsplit ! $ word_had ! first.ptr us1 (λ e1. fsplit ! $ fsplit ! $ feq_l ! (λ e2. flt_l ! (λ fits_i.
      fsplit ! $ word_had ! second.ptr us3 (λ e3. fsplit ! $ fsplit ! $ feq_l ! (λ e4. flt_l ! (λ fits_j.
      keep ! (1 ∷ 2 ∷ 3 ∷ []) $
      by ! (subst (λ (ws : List Val × List Val × List Val × List Val × List Val). ent 𝓤 (⋆ 𝓛 Had) (WpFn 𝓤 H C Λ (function E) (ws.0 ++ (ws.1 ++ (ws.2 ++ (ws.3 ++ (ws.4 ++ []))))) Post))
      (λ k. (sym e0 k, sym e1 k, sym e2 k, sym e3 k, sym e4 k)) (walk asked fits_i fits_j)))))))))

module _ (E : El) {M : Type 1} {𝓤 : Ura M} (𝓛 : Logic 𝓤) (C : Calls 𝓤 𝓛.H) (Λ : Loops 𝓤 𝓛.H) (κ : Lft) (q : Share) (rb ro : ℕ) (γ : GName) where
  -- the row has one pool
  entries : (ds : List (Held (el_x E))) (first : (Bs E).Denot) (i : ℕ) (second : (Bs E).Denot) (j : ℕ) (us0 us1 us2 us3 us4 : List Val) → Asks E ds first i second j
      → ent 𝓤 (on_entry 𝓛 (ended E).signature (κ, tt) (q, tt) (record { ref_ptr = (rb, ro); ghost_name = γ; now = ds }, (first, (i, (second, (j, tt))))) (us0, (us1, (us2, (us3, (us4, tt))))))
      (WpFn 𝓤 𝓛.H C Λ (function E) (us0 ++ (us1 ++ (us2 ++ (us3 ++ (us4 ++ []))))) ((walk_of 𝓛 (ended E) (stayed E) (spec E 𝓛)).post ((((κ, tt), (q, tt), tt, (record { ref_ptr = (rb, ro); ghost_name = γ; now = ds }, (first, (i, (second, (j, tt))))), (us0, (us1, (us2, (us3, (us4, tt)))))), tt))))
  entries [] first i second j us0 us1 us2 us3 us4 asked = absurd (omega (arith, asked.0))
  entries (d ∷ []) first i second j us0 us1 us2 us3 us4 asked = entry E 𝓛 C Λ κ q rb ro γ d first i second j us0 us1 us2 us3 us4 asked
  entries (d ∷ d' ∷ ds) first i second j us0 us1 us2 us3 us4 asked = absurd (omega (arith, asked.0))

meets : (E : El) {M : Type 1} {𝓤 : Ura M} (𝓛 : Logic 𝓤) (𝓣 : Tables 𝓤 𝓛.H)
    → Meets 𝓛 (ended E).signature (WpFn 𝓤 𝓛.H 𝓣.C 𝓣.Λ (function E)) (closing 𝓛 (ended E) (spec E 𝓛))
meets E {𝓤 = 𝓤} 𝓛 𝓣 =
    walk_Meets 𝓛 (ended E) (stayed E) (Goes-spent_slice 𝓛 1 (0 ∷ []) tt (plain (λ _. Pl E)), (Goes-dropped 𝓛 1 (plain (λ _. Bs E)) no (λ κs x f. refl), (Goes-dropped 𝓛 1 (plain (λ _. usize)) no (λ κs x f. refl), (Goes-dropped 𝓛 1 (plain (λ _. Bs E)) no (λ κs x f. refl), (Goes-dropped 𝓛 1 (plain (λ _. usize)) no (λ κs x f. refl), tt))))) (spec E 𝓛) (WpFn 𝓤 𝓛.H 𝓣.C 𝓣.Λ (function E)) (WpFn-mono 𝓤 𝓛.H 𝓛.laws 𝓣 (function E))
    (λ z. let a = z.0.3 in let vss = z.0.4 in needs 𝓤 (Asks E a.0.now a.1.0 a.1.1.0 a.1.1.1.0 a.1.1.1.1.0) _
    (entries E 𝓛 𝓣.C 𝓣.Λ z.0.0.0 z.0.1.0 a.0.ref_ptr.0 a.0.ref_ptr.1 a.0.ghost_name a.0.now a.1.0 a.1.1.0 a.1.1.1.0 a.1.1.1.1.0 vss.0 vss.1.0 vss.1.1.0 vss.1.1.1.0 vss.1.1.1.1.0))

pub lend_two_spec : {M : Type 1} → stated.statement M
unfolding tables_of
lend_two_spec 𝓤 𝓛 𝓜 𝓡 wired X LX y =
    let E : El = record { row = X; laws = LX } in
    let 𝓣 : Tables 𝓤 𝓛.H = tables_of 𝓤 𝓛.H 𝓜 (tables 𝓤 𝓛.H 𝓜 𝓡 𝓡.env) in
    let k = #self (args E) in
    spared 𝓛 (ended E).signature (𝓡.run (𝓡.env k)) (run_framed 𝓤 𝓛.H 𝓜 𝓡 (𝓡.env k)) 1 (X.lives, tt) (closing 𝓛 (ended E) (spec E 𝓛))
    (entered 𝓤 𝓛.H (triple_of 𝓛 (ended E).signature (closing 𝓛 (ended E) (spec E 𝓛))) 𝓣.C 𝓣.Λ k (function E) (code.unfolded 𝓤 𝓛.H 𝓜 𝓡 wired (X, tt)) (meets E 𝓛 𝓣))
    ((y.0.0, y.0.1, tt, y.0.3, y.0.4), y.1)
