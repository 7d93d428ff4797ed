-- What is read so far is sound: each token keeps it so.
use Rattle.std.proofs.Common.{◌≡◌, ℕ, ◌-◌, Bool, true, false, List, [], ◌∷◌, ◌++◌, map, Option, Some, None, refl, sym, ap, ◌∙◌, subst}
use Rattle.std.specs.Prelude.{nat_eq, nat_lt, not, ◌&&◌, ◌||◌, if◌then◌else◌}
use Rattle.std.specs.List.{list_all, list_any}
use Rattle.indexmap.specs.IndexSet.{insert_key}
use Rattle.std.proofs.lemmas.Bool.{true≢false, and_parts, and_from}
use Rattle.std.proofs.lemmas.List.{append-nil, map-append}
use Rattle.std.proofs.lemmas.List.Folds.{list_all-append}
use Rattle.lp_text.specs.declared.names.NameId.{NameId}
use Rattle.lp_model.specs.declared.bits.Bit.{Bit}
use Rattle.lp_model.specs.declared.bits.Bit.TheVariants as bits
use Rattle.lp_model.specs.declared.netlist.BitRange.{BitRange}
use Rattle.lp_model.specs.declared.netlist.Connection.{Connection}
use Rattle.lp_model.specs.declared.netlist.Connections.{Connections}
use Rattle.lp_model.specs.declared.netlist.Connections.TheVariants as connections
use Rattle.lp_model.specs.declared.netlist.Instance.{Instance}
use Rattle.lp_model.specs.declared.netlist.Assign.{Assign}
use Rattle.lp_model.specs.declared.netlist.Module.{Module}
use Rattle.lp_verilog_tokens.specs.declared.token.Token.{Token}
use Rattle.lp_verilog_tokens.specs.declared.token.Token.TheVariants as tokens
use Rattle.lp_verilog_tokens.specs.declared.token.Keyword.TheVariants as keywords
use Rattle.lp_verilog_draft.specs.declared.stop.Off.TheVariants as offs
use Rattle.lp_verilog_draft.specs.declared.value.Side.{Side}
use Rattle.lp_verilog_draft.specs.declared.value.Side.TheVariants as sides
use Rattle.lp_verilog_draft.specs.declared.value.Value.{Value}
use Rattle.lp_verilog_draft.specs.declared.declaring.Declaring.{Declaring}
use Rattle.lp_verilog_draft.specs.declared.draft.Joint.{Joint}
use Rattle.lp_verilog_draft.specs.Verdicts.{Verdict, Goes, Stops, and_then}
use Rattle.lp_verilog_draft.specs.Scopes.{Entries, found, lacking_of, ports_of, nets_of, add_new, declare, use_name, range_in, listed, instance_entry}
use Rattle.lp_verilog_draft.specs.Steps
use Rattle.lp_verilog_draft.specs.Values.{is_in, goes_along, between, indices, select, whole, constant_bits}
use Rattle.lp_verilog_grammar.specs.declared.symbol.Symbol.{Symbol}
use Rattle.lp_verilog_grammar.specs.declared.symbol.Action.{Action}
use Rattle.lp_verilog_grammar.specs.declared.symbol.Action.TheVariants as actions
use Rattle.lp_verilog_grammar.specs.declared.reader.Reader.{Reader}
use Rattle.lp_verilog_grammar.specs.Machine.{start, with_scope, with_value, with_side, scoped, valued, begun_instance, end_instance, end_ordered, end_named, end_left, end_assign, with_subject, start_value, perform, is_left}
use Rattle.lp_verilog.proofs.Shapes.{Good, eq_sym}
use Rattle.lp_verilog.proofs.States.{Held, range_has}
use Rattle.lp_verilog.proofs.Phases.{Context, Outside, Inside, Targeted, Open, Joined, LeftSide, RightSide, Stage, Empty, Subject, Indexed, Filled, Phase, In, act, begun}
use Rattle.lp_verilog.proofs.Phased.{Acted}
use Rattle.lp_vwrite.specs.WellFormed.{has_index, is_filled}
use Rattle.lp_vwrite.proofs.Nets.{settled_range, bit_in, Extends, bit_more, all_weaker, instances_of, Keeps, add_keeps, add_instance, declare_keeps, Used, use_used, select_in, whole_in, constants_in, is_net_bit, selected_nets, whole_nets, select_filled, whole_filled, constant_filled, filled_end}

-- ---- what is sound

abbrev pub connection_in : Entries → Connection → Bool
connection_in es c = list_all (bit_in es) c.bits

abbrev pub connections_in : Entries → Connections → Bool
connections_in es (connections.Named cs) = list_all (connection_in es) cs
connections_in es (connections.Ordered values) = list_all (list_all (bit_in es)) values

abbrev pub instance_in : Entries → Instance → Bool
instance_in es i = connections_in es i.connections

abbrev pub assign_in : Entries → Assign → Bool
assign_in es a = list_all (bit_in es) a.left && list_all (bit_in es) a.right

-- both sides have a bit, and the left one has no constant
abbrev pub assign_shape : Assign → Bool
assign_shape a = is_filled a.left && (is_filled a.right && list_all is_net_bit a.left)

abbrev pub module_names : List Module → List ℕ
module_names ms = map (λ m. m.name.0) ms

abbrev pub instance_names : List Instance → List ℕ
instance_names is = map (λ i. i.name.0) is

-- no number stands at two places
abbrev pub unique : List ℕ → Bool
unique [] = true
unique (k ∷ ks) = not (list_any (nat_eq k) ks) && unique ks

-- a module, with what its names stood for at its end
pub record Ended (n : ℕ) (m : Module) : Type 0 where
  pub scope : Entries
  pub good : Good n scope
  pub ports : m.ports ≡ ports_of scope
  pub nets : m.nets ≡ nets_of scope
  pub complete : lacking_of scope ≡ None
  pub names : instances_of scope ≡ instance_names m.instances
  pub instances : list_all (instance_in scope) m.instances ≡ true
  pub assigns : list_all (assign_in scope) m.assigns ≡ true
  pub shapes : list_all assign_shape m.assigns ≡ true

abbrev pub AllEnded : ℕ → List Module → Type 0
AllEnded n [] = Unit {0}
AllEnded n (m ∷ ms) = Ended n m × AllEnded n ms

ended_end : (n : ℕ) (ms : List Module) (m : Module) → AllEnded n ms → Ended n m → AllEnded n (ms ++ m ∷ [])
ended_end n [] m h e = (e, tt)
ended_end n (x ∷ ms) m h e = (h.0, ended_end n ms m h.1 e)

-- each bit is one of a settled net
pub record Bitted (es : Entries) (is : List Instance) (as_ : List Assign) (ns : List Connection) (os : List (List Bit)) (bs ls : List Bit) : Type 0 where
  pub instances : list_all (instance_in es) is ≡ true
  pub assigns : list_all (assign_in es) as_ ≡ true
  pub named : list_all (connection_in es) ns ≡ true
  pub ordered : list_all (list_all (bit_in es)) os ≡ true
  pub bits : list_all (bit_in es) bs ≡ true
  pub left : list_all (bit_in es) ls ≡ true

bits_more : (old new : Entries) → Extends old new → (bs : List Bit) → list_all (bit_in old) bs ≡ true → list_all (bit_in new) bs ≡ true
bits_more old new more bs h = all_weaker (bit_in old) (bit_in new) (bit_more old new more) bs h

connections_more : (old new : Entries) → Extends old new → (cs : List Connection) → list_all (connection_in old) cs ≡ true → list_all (connection_in new) cs ≡ true
connections_more old new more cs h = all_weaker (connection_in old) (connection_in new) (λ c k. bits_more old new more c.bits k) cs h

values_more : (old new : Entries) → Extends old new → (vs : List (List Bit)) → list_all (list_all (bit_in old)) vs ≡ true → list_all (list_all (bit_in new)) vs ≡ true
values_more old new more vs h = all_weaker (list_all (bit_in old)) (list_all (bit_in new)) (bits_more old new more) vs h

instance_more : (old new : Entries) → Extends old new → (cs : Connections) → connections_in old cs ≡ true → connections_in new cs ≡ true
instance_more old new more (connections.Named cs) h = connections_more old new more cs h
instance_more old new more (connections.Ordered vs) h = values_more old new more vs h

assign_more : (old new : Entries) → Extends old new → (a : Assign) → assign_in old a ≡ true → assign_in new a ≡ true
assign_more old new more a h =
    let parts = and_parts (list_all (bit_in old) a.left) (list_all (bit_in old) a.right) h in
    and_from (list_all (bit_in new) a.left) (list_all (bit_in new) a.right) (bits_more old new more a.left parts.0) (bits_more old new more a.right parts.1)

bitted_more : (old new : Entries) (is : List Instance) (as_ : List Assign) (ns : List Connection) (os : List (List Bit)) (bs ls : List Bit) → Extends old new → Bitted old is as_ ns os bs ls → Bitted new is as_ ns os bs ls
bitted_more old new is as_ ns os bs ls more h =
    record {
      instances = all_weaker (instance_in old) (instance_in new) (λ i k. instance_more old new more i.connections k) is h.instances;
      assigns = all_weaker (assign_in old) (assign_in new) (assign_more old new more) as_ h.assigns;
      named = connections_more old new more ns h.named;
      ordered = values_more old new more os h.ordered;
      bits = bits_more old new more bs h.bits;
      left = bits_more old new more ls h.left;
    }

all_end : {A : Type 0} (p : A → Bool) (xs : List A) (x : A) → list_all p xs ≡ true → p x ≡ true → list_all p (xs ++ x ∷ []) ≡ true
all_end p xs x h k = list_all-append p xs (x ∷ []) ∙ and_from (list_all p xs) (p x && true) h (and_from (p x) true k refl)

pub all_both : {A : Type 0} (p : A → Bool) (xs ys : List A) → list_all p xs ≡ true → list_all p ys ≡ true → list_all p (xs ++ ys) ≡ true
all_both p xs ys h k = list_all-append p xs ys ∙ and_from (list_all p xs) (list_all p ys) h k

none_of : {A : Type 0} (p : A → Bool) (xs : List A) → xs ≡ [] → list_all p xs ≡ true
none_of p xs e = ap (list_all p) e

-- ---- numbers that differ

pub or_false : (a b : Bool) → (a || b) ≡ false → (a ≡ false) × (b ≡ false)
or_false true b h = absurd (true≢false h)
or_false false b h = (refl, h)

unique_end : (ks : List ℕ) (k : ℕ) → list_any (nat_eq k) ks ≡ false → unique ks ≡ true → unique (ks ++ k ∷ []) ≡ true
unique_end [] k absent h = refl
unique_end (x ∷ ks) k absent h =
    let parts = and_parts (not (list_any (nat_eq x) ks)) (unique ks) h in
    let other = or_false (nat_eq k x) (list_any (nat_eq k) ks) absent in
    and_from (not (list_any (nat_eq x) (ks ++ k ∷ []))) (unique (ks ++ k ∷ [])) (ap not (still ks (eq_sym k x other.0)) ∙ parts.0) (unique_end ks k other.1 parts.1)
  where
    still : (ys : List ℕ) → nat_eq x k ≡ false → list_any (nat_eq x) (ys ++ k ∷ []) ≡ list_any (nat_eq x) ys
    still [] e = ap (λ b. b || false) e
    still (y ∷ ys) e = ap (λ b. nat_eq x y || b) (still ys e)

pub unique_front : (xs ys : List ℕ) → unique (xs ++ ys) ≡ true → unique xs ≡ true
unique_front [] ys h = refl
unique_front (x ∷ xs) ys h =
    let parts = and_parts (not (list_any (nat_eq x) (xs ++ ys))) (unique (xs ++ ys)) h in
    and_from (not (list_any (nat_eq x) xs)) (unique xs) (fewer xs parts.0) (unique_front xs ys parts.1)
  where
    fewer : (zs : List ℕ) → not (list_any (nat_eq x) (zs ++ ys)) ≡ true → not (list_any (nat_eq x) zs) ≡ true
    fewer [] k = refl
    fewer (z ∷ zs) k = by (nat_eq x z) k (fewer zs)
      where
        by : (b : Bool) → not (b || list_any (nat_eq x) (zs ++ ys)) ≡ true → (not (list_any (nat_eq x) (zs ++ ys)) ≡ true → not (list_any (nat_eq x) zs) ≡ true) → not (b || list_any (nat_eq x) zs) ≡ true
        by true j more = j
        by false j more = more j

-- ---- states

-- the module that is read has a name
abbrev pub current : Context → NameId → List ℕ
current Outside name = []
current Inside name = name.0 ∷ []
current Targeted name = name.0 ∷ []
current Open name = name.0 ∷ []
current Joined name = name.0 ∷ []
current LeftSide name = name.0 ∷ []
current RightSide name = name.0 ∷ []

-- the instance that is read has a name
abbrev pub pending : Context → NameId → List ℕ
pending Outside name = []
pending Inside name = []
pending Targeted name = []
pending Open name = name.0 ∷ []
pending Joined name = name.0 ∷ []
pending LeftSide name = []
pending RightSide name = []

abbrev pub Sided : Context → Side → Joint → List Bit → Type 0
Sided Outside side j left = (j.named ≡ []) × (j.ordered ≡ []) × (left ≡ [])
Sided Inside side j left = (j.named ≡ []) × (j.ordered ≡ []) × (left ≡ [])
Sided Targeted side j left = (j.named ≡ []) × (j.ordered ≡ []) × (left ≡ [])
Sided Open side j left = left ≡ []
Sided Joined side j left = left ≡ []
Sided LeftSide side j left = (j.named ≡ []) × (j.ordered ≡ []) × (left ≡ []) × (side ≡ sides.Left)
Sided RightSide side j left = (j.named ≡ []) × (j.ordered ≡ []) × (is_filled left ≡ true) × (list_all is_net_bit left ≡ true)

abbrev pub Valued : Stage → Entries → Value → Type 0
Valued Empty es v = v.bits ≡ []
Valued Subject es v = settled_range es v.subject.0 ≡ Some v.range
Valued Indexed es v = (settled_range es v.subject.0 ≡ Some v.range) × (range_has v.range v.index ≡ true)
Valued Filled es v = is_filled v.bits ≡ true

valued_more : (s : Stage) (old new : Entries) (v : Value) → Extends old new → Valued s old v → Valued s new v
valued_more Empty old new v more h = h
valued_more Subject old new v more h = more v.subject.0 v.range h
valued_more Indexed old new v more h = (more v.subject.0 v.range h.0, h.1)
valued_more Filled old new v more h = h

pub record Formed (n : ℕ) (c : Context) (s : Stage) (m : Reader) : Type 0 where
  pub built : AllEnded n m.modules
  pub taken : m.taken ≡ module_names m.modules ++ current c m.draft.name
  pub apart : unique m.taken ≡ true
  pub bitted : Bitted m.draft.scope m.draft.instances m.draft.assigns m.joint.named m.joint.ordered m.value.bits m.left
  pub shapes : list_all assign_shape m.draft.assigns ≡ true
  pub instances : instances_of m.draft.scope ≡ instance_names m.draft.instances ++ pending c m.joint.name
  pub plain : is_left m.value.side ≡ true → list_all is_net_bit m.value.bits ≡ true
  pub sided : Sided c m.value.side m.joint m.left
  pub valued : Valued s m.draft.scope m.value

-- a constant has a bit
abbrev pub Sized : Token → Type 0
Sized (tokens.Constant size value) = nat_lt 0 size ≡ true
Sized _ = Unit {0}

module _ (n : ℕ) where
  abbrev pub Forms : Phase → Reader → Type 0
  Forms (In c s) m = Formed n c s m

  scope_formed : (c : Context) (s : Stage) (m : Reader) (es : Entries) → Formed n c s m → Keeps m.draft.scope es → Formed n c s (with_scope m es)
  scope_formed c s m es h k =
      record {
        built = h.built;
        taken = h.taken;
        apart = h.apart;
        bitted = bitted_more m.draft.scope es m.draft.instances m.draft.assigns m.joint.named m.joint.ordered m.value.bits m.left k.0 h.bitted;
        shapes = h.shapes;
        instances = k.1 ∙ h.instances;
        plain = h.plain;
        sided = h.sided;
        valued = valued_more s m.draft.scope es m.value k.0 h.valued;
      }

  value_formed : (c : Context) (s r : Stage) (m : Reader) (v : Value) → Formed n c s m → v.side ≡ m.value.side → list_all (bit_in m.draft.scope) v.bits ≡ true → (is_left v.side ≡ true → list_all is_net_bit v.bits ≡ true) → Valued r m.draft.scope v → Formed n c r (with_value m v)
  value_formed c s r m v h same b p k =
      record {
        built = h.built;
        taken = h.taken;
        apart = h.apart;
        bitted = record { instances = h.bitted.instances; assigns = h.bitted.assigns; named = h.bitted.named; ordered = h.bitted.ordered; bits = b; left = h.bitted.left };
        shapes = h.shapes;
        instances = h.instances;
        plain = p;
        sided = subst (λ side. Sided c side m.joint m.left) (sym same) h.sided;
        valued = k;
      }

  -- a value with more bits of nets
  grown_formed : (c : Context) (s : Stage) (m : Reader) (more : List Bit) → Formed n c s m → list_all (bit_in m.draft.scope) more ≡ true → list_all is_net_bit more ≡ true → is_filled more ≡ true → Formed n c Filled (with_value m (Steps.value_with more m.value))
  grown_formed c s m more h b p f =
      value_formed c s Filled m (Steps.value_with more m.value) h refl (all_both (bit_in m.draft.scope) m.value.bits more h.bitted.bits b) (λ e. all_both is_net_bit m.value.bits more (h.plain e) p) (filled_end m.value.bits more f)

  declaring_formed : (f : Phase) (m : Reader) (d : Declaring) → Forms f m → Forms f (record m { declaring = d })
  declaring_formed (In c s) m d h = record { built = h.built; taken = h.taken; apart = h.apart; bitted = h.bitted; shapes = h.shapes; instances = h.instances; plain = h.plain; sided = h.sided; valued = h.valued }

  pub awaits_formed : (f : Phase) (w : List Symbol) (m : Reader) → Forms f m → Forms f (record m { waiting = w })
  awaits_formed (In c s) w m h = record { built = h.built; taken = h.taken; apart = h.apart; bitted = h.bitted; shapes = h.shapes; instances = h.instances; plain = h.plain; sided = h.sided; valued = h.valued }

  pub whole_formed : (c : Context) (m : Reader) → Forms (In c Subject) m → Forms (In c Filled) (with_value m (Steps.value_whole m.value))
  whole_formed c m h =
      let v = m.value in
      grown_formed c Subject m (whole v.subject v.range) h (whole_in m.draft.scope v.subject v.range h.valued) (whole_nets v.subject v.range) (whole_filled v.subject v.range)

  scoped_formed : (f : Phase) (m : Reader) (v : Verdict Entries) → Forms f m → Held (Keeps m.draft.scope) v → Held (Forms f) (scoped m v)
  scoped_formed (In c s) m (Goes es) h k = scope_formed c s m es h k
  scoped_formed (In c s) m (Stops off) h k = tt

  -- ---- what each action does

  start_formed : (t : Token) (at : ℕ) (f : Phase) (m : Reader) → Sized t → Forms f m → Acted Forms (begun t f) (start_value m at t)
  start_formed (tokens.Name id) at (In c s) m ok h = by (use_name m.value.side at m.draft.scope id) (use_used m.value.side at m.draft.scope id (found m.draft.scope id) refl)
    where
      by : (v : Verdict Entries) → Held (Used m.draft.scope id) v → Held (Forms (In c Subject)) (and_then (scoped m v) (λ r. Goes (with_subject id r)))
      by (Goes es) k =
          let u = with_scope m es in
          let g = scope_formed c s m es h k.0 in
          value_formed c s Subject u (Steps.value_subject id (range_in es id) m.value) g refl g.bitted.bits g.plain k.1
      by (Stops off) k = tt
  start_formed (tokens.Constant size value) at (In c s) m ok h = by m.value.side refl
    where
      filled : list_all (bit_in m.draft.scope) (m.value.bits ++ constant_bits size value) ≡ true
      filled = all_both (bit_in m.draft.scope) m.value.bits (constant_bits size value) h.bitted.bits (constants_in m.draft.scope value (indices false (size - 1) 0 size))

      made : is_left m.value.side ≡ false → Formed n c Filled (with_value m (Steps.value_with (constant_bits size value) m.value))
      made other = value_formed c s Filled m (Steps.value_with (constant_bits size value) m.value) h refl filled (λ e. absurd (true≢false (sym e ∙ other))) (filled_end m.value.bits (constant_bits size value) (constant_filled size value ok))

      by : (side : Side) → m.value.side ≡ side → Held (Forms (In c Filled)) (valued m (Steps.constant_on side size value m.value))
      by sides.Left e = tt
      by sides.Right e = made (ap is_left e)
      by sides.Connection e = made (ap is_left e)
  start_formed (tokens.Mark mark) at f m ok h = h
  start_formed (tokens.Keyword word) at f m ok h = tt
  start_formed (tokens.Number v) at f m ok h = tt
  start_formed tokens.Unread at f m ok h = tt
  start_formed tokens.Foreign at f m ok h = tt
  start_formed tokens.Broken at f m ok h = tt

  begin_formed : (t : Token) (m : Reader) (at : ℕ) → Forms (In Outside Empty) m → Held (Forms (In Inside Empty)) (perform actions.BeginModule t at m)
  begin_formed (tokens.Name id) m at h = by (list_any (nat_eq id.0) m.taken) refl
    where
      by : (b : Bool) → list_any (nat_eq id.0) m.taken ≡ b → Held (Forms (In Inside Empty)) (if b then Stops (offs.Duplicate id) else Goes (record m { taken = insert_key nat_eq m.taken id.0; draft = Steps.module_named id }))
      by true e = tt
      by false e =
          let put : insert_key nat_eq m.taken id.0 ≡ m.taken ++ id.0 ∷ [] = ap (λ b. if b then m.taken else m.taken ++ id.0 ∷ []) e in
          record {
            built = h.built;
            taken = put ∙ ap (λ xs. xs ++ id.0 ∷ []) (h.taken ∙ append-nil (module_names m.modules));
            apart = ap unique put ∙ unique_end m.taken id.0 e h.apart;
            bitted = record { instances = refl; assigns = refl; named = none_of (connection_in []) m.joint.named h.sided.0; ordered = none_of (list_all (bit_in [])) m.joint.ordered h.sided.1; bits = none_of (bit_in []) m.value.bits h.valued; left = none_of (bit_in []) m.left h.sided.2 };
            shapes = refl;
            instances = refl;
            plain = h.plain;
            sided = h.sided;
            valued = h.valued;
          }
  begin_formed _ m at h = tt

  -- between items
  abbrev pub Resting : Reader → Type 0
  Resting m = (m.taken ≡ module_names m.modules ++ m.draft.name.0 ∷ []) × (instances_of m.draft.scope ≡ instance_names m.draft.instances ++ []) × (m.joint.named ≡ []) × (m.joint.ordered ≡ []) × (m.left ≡ [])

  resting_inside : (m : Reader) → Formed n Inside Empty m → Resting m
  resting_inside m h = (h.taken, h.instances, h.sided.0, h.sided.1, h.sided.2)

  resting_targeted : (m : Reader) → Formed n Targeted Empty m → Resting m
  resting_targeted m h = (h.taken, h.instances, h.sided.0, h.sided.1, h.sided.2)

  end_formed : (c : Context) (t : Token) (m : Reader) (at : ℕ) → Good n m.draft.scope → Resting m → Formed n c Empty m → Held (Forms (In Outside Empty)) (perform actions.EndModule t at m)
  end_formed c t m at good rest h = by (lacking_of m.draft.scope) refl
    where
      by : (o : Option ℕ) → lacking_of m.draft.scope ≡ o → Held (Forms (In Outside Empty)) (and_then (Steps.end_by m.draft o) (λ module_. Goes (record m { modules = m.modules ++ module_ ∷ []; draft = Steps.module_named m.draft.name })))
      by None e =
          let new = Steps.module_of m.draft in
          let ended : Ended n new = record {
            scope = m.draft.scope;
            good = good;
            ports = refl;
            nets = refl;
            complete = e;
            names = rest.1 ∙ append-nil (instance_names m.draft.instances);
            instances = h.bitted.instances;
            assigns = h.bitted.assigns;
            shapes = h.shapes;
          } in
          record {
            built = ended_end n m.modules new h.built ended;
            taken = rest.0 ∙ sym (map-append (λ x. x.name.0) m.modules (new ∷ [])) ∙ sym (append-nil (module_names (m.modules ++ new ∷ [])));
            apart = h.apart;
            bitted = record { instances = refl; assigns = refl; named = none_of (connection_in []) m.joint.named rest.2; ordered = none_of (list_all (bit_in [])) m.joint.ordered rest.3; bits = none_of (bit_in []) m.value.bits h.valued; left = none_of (bit_in []) m.left rest.4 };
            shapes = refl;
            instances = refl;
            plain = h.plain;
            sided = (rest.2, rest.3, rest.4);
            valued = h.valued;
          }
      by (Some place) e = tt

  target_formed : (c : Context) (t : Token) (m : Reader) (at : ℕ) → Resting m → Formed n c Empty m → Held (Forms (In Targeted Empty)) (perform actions.Target t at m)
  target_formed c (tokens.Name id) m at rest h =
      record {
        built = h.built;
        taken = rest.0;
        apart = h.apart;
        bitted = record { instances = h.bitted.instances; assigns = h.bitted.assigns; named = h.bitted.named; ordered = h.bitted.ordered; bits = h.bitted.bits; left = h.bitted.left };
        shapes = h.shapes;
        instances = rest.1;
        plain = h.plain;
        sided = (rest.2, rest.3, rest.4);
        valued = h.valued;
      }
  target_formed c _ m at rest h = tt

  instance_formed : (t : Token) (m : Reader) (at : ℕ) → Formed n Targeted Empty m → Held (Forms (In Open Empty)) (perform actions.BeginInstance t at m)
  instance_formed (tokens.Name id) m at h = by (add_new m.draft.scope id (instance_entry at) (found m.draft.scope id)) (add_instance m.draft.scope id at (found m.draft.scope id) refl)
    where
      by : (v : Verdict Entries) → Held (λ new. Extends m.draft.scope new × (instances_of new ≡ instances_of m.draft.scope ++ id.0 ∷ [])) v → Held (Forms (In Open Empty)) (and_then (scoped m v) (λ r. Goes (begun_instance id r)))
      by (Goes es) k =
          let moved = bitted_more m.draft.scope es m.draft.instances m.draft.assigns m.joint.named m.joint.ordered m.value.bits m.left k.0 h.bitted in
          record {
            built = h.built;
            taken = h.taken;
            apart = h.apart;
            bitted = record { instances = moved.instances; assigns = moved.assigns; named = moved.named; ordered = moved.ordered; bits = moved.bits; left = moved.left };
            shapes = h.shapes;
            instances = k.1 ∙ ap (λ xs. xs ++ id.0 ∷ []) (h.instances ∙ append-nil (instance_names m.draft.instances));
            plain = λ e. absurd (true≢false (sym e));
            sided = h.sided.2;
            valued = h.valued;
          }
      by (Stops off) k = tt
  instance_formed _ m at h = tt

  joint_in : (es : Entries) (j : Joint) → list_all (connection_in es) j.named ≡ true → list_all (list_all (bit_in es)) j.ordered ≡ true → instance_in es (Steps.joint_instance j) ≡ true
  joint_in es j named ordered = by j.positional
    where
      by : (b : Bool) → connections_in es (if b then connections.Ordered j.ordered else connections.Named j.named) ≡ true
      by true = ordered
      by false = named

  end_instance_formed : (m : Reader) → Formed n Open Empty m → Formed n Targeted Empty (end_instance m)
  end_instance_formed m h =
      let new = Steps.joint_instance m.joint in
      record {
        built = h.built;
        taken = h.taken;
        apart = h.apart;
        bitted = record { instances = all_end (instance_in m.draft.scope) m.draft.instances new h.bitted.instances (joint_in m.draft.scope m.joint h.bitted.named h.bitted.ordered); assigns = h.bitted.assigns; named = refl; ordered = refl; bits = h.bitted.bits; left = h.bitted.left };
        shapes = h.shapes;
        instances = h.instances ∙ sym (map-append (λ i. i.name.0) m.draft.instances (new ∷ [])) ∙ sym (append-nil (instance_names (m.draft.instances ++ new ∷ [])));
        plain = h.plain;
        sided = (refl, refl, h.sided);
        valued = h.valued;
      }

  ordered_formed : (m : Reader) → Formed n Open Filled m → Formed n Open Empty (end_ordered m)
  ordered_formed m h =
      record {
        built = h.built;
        taken = h.taken;
        apart = h.apart;
        bitted = record { instances = h.bitted.instances; assigns = h.bitted.assigns; named = h.bitted.named; ordered = all_end (list_all (bit_in m.draft.scope)) m.joint.ordered m.value.bits h.bitted.ordered h.bitted.bits; bits = refl; left = h.bitted.left };
        shapes = h.shapes;
        instances = h.instances;
        plain = λ e. refl;
        sided = h.sided;
        valued = refl;
      }

  port_formed : (t : Token) (m : Reader) (at : ℕ) → Formed n Open Empty m → Held (Forms (In Joined Empty)) (perform actions.ConnectionName t at m)
  port_formed (tokens.Name id) m at h =
      record {
        built = h.built;
        taken = h.taken;
        apart = h.apart;
        bitted = record { instances = h.bitted.instances; assigns = h.bitted.assigns; named = h.bitted.named; ordered = h.bitted.ordered; bits = h.bitted.bits; left = h.bitted.left };
        shapes = h.shapes;
        instances = h.instances;
        plain = h.plain;
        sided = h.sided;
        valued = h.valued;
      }
  port_formed _ m at h = tt

  named_formed : (s : Stage) (m : Reader) → Formed n Joined s m → Formed n Open Empty (end_named m)
  named_formed s m h =
      let new : Connection = record { bits = m.value.bits; port = m.joint.port } in
      record {
        built = h.built;
        taken = h.taken;
        apart = h.apart;
        bitted = record { instances = h.bitted.instances; assigns = h.bitted.assigns; named = all_end (connection_in m.draft.scope) m.joint.named new h.bitted.named h.bitted.bits; ordered = h.bitted.ordered; bits = refl; left = h.bitted.left };
        shapes = h.shapes;
        instances = h.instances;
        plain = λ e. refl;
        sided = h.sided;
        valued = refl;
      }

  left_formed : (c : Context) (m : Reader) → Resting m → Formed n c Empty m → Formed n LeftSide Empty (with_side sides.Left m)
  left_formed c m rest h =
      record {
        built = h.built;
        taken = rest.0;
        apart = h.apart;
        bitted = record { instances = h.bitted.instances; assigns = h.bitted.assigns; named = h.bitted.named; ordered = h.bitted.ordered; bits = h.bitted.bits; left = h.bitted.left };
        shapes = h.shapes;
        instances = rest.1;
        plain = λ e. none_of is_net_bit m.value.bits h.valued;
        sided = (rest.2, rest.3, rest.4, refl);
        valued = h.valued;
      }

  right_formed : (m : Reader) → Formed n LeftSide Filled m → Formed n RightSide Empty (end_left m)
  right_formed m h =
      record {
        built = h.built;
        taken = h.taken;
        apart = h.apart;
        bitted = record { instances = h.bitted.instances; assigns = h.bitted.assigns; named = h.bitted.named; ordered = h.bitted.ordered; bits = refl; left = h.bitted.bits };
        shapes = h.shapes;
        instances = h.instances;
        plain = λ e. refl;
        sided = (h.sided.0, h.sided.1, h.valued, h.plain (ap is_left h.sided.3));
        valued = refl;
      }

  assign_formed : (m : Reader) → Formed n RightSide Filled m → Formed n Inside Empty (end_assign m)
  assign_formed m h =
      let new : Assign = record { left = m.left; right = m.value.bits } in
      let shape = and_from (is_filled m.left) (is_filled m.value.bits && list_all is_net_bit m.left) h.sided.2 (and_from (is_filled m.value.bits) (list_all is_net_bit m.left) h.valued h.sided.3) in
      record {
        built = h.built;
        taken = h.taken;
        apart = h.apart;
        bitted = record { instances = h.bitted.instances; assigns = all_end (assign_in m.draft.scope) m.draft.assigns new h.bitted.assigns (and_from (list_all (bit_in m.draft.scope) m.left) (list_all (bit_in m.draft.scope) m.value.bits) h.bitted.left h.bitted.bits); named = h.bitted.named; ordered = h.bitted.ordered; bits = refl; left = refl };
        shapes = all_end assign_shape m.draft.assigns new h.shapes shape;
        instances = h.instances;
        plain = λ e. refl;
        sided = (h.sided.0, h.sided.1, refl);
        valued = refl;
      }

  select_formed : (c : Context) (m : Reader) (o : Option BitRange) → Forms (In c Subject) m → Held (Forms (In c Subject)) (valued m (Steps.value_select_by m.value o))
  select_formed c m None h = tt
  select_formed c m (Some r) h = value_formed c Subject Subject m m.value h refl h.bitted.bits h.plain h.valued

  index_formed : (c : Context) (i : ℕ) (m : Reader) (o : Option BitRange) → m.value.range ≡ o → Forms (In c Subject) m → Held (Forms (In c Indexed)) (valued m (Steps.value_index_by i m.value o))
  index_formed c i m None is h = tt
  index_formed c i m (Some r) is h = by (is_in r i) refl
    where
      by : (b : Bool) → is_in r i ≡ b → Held (Forms (In c Indexed)) (valued m (if b then Goes (record m.value { index = i }) else Stops offs.Syntax))
      by true e = value_formed c Subject Indexed m (record m.value { index = i }) h refl h.bitted.bits h.plain (h.valued, ap (λ x. range_has x i) is ∙ e)
      by false e = tt

  many_formed : (c : Context) (j : ℕ) (m : Reader) (o : Option BitRange) → m.value.range ≡ o → Forms (In c Indexed) m → Held (Forms (In c Filled)) (valued m (Steps.value_many_by j m.value o))
  many_formed c j m None is h = tt
  many_formed c j m (Some r) is h = by (is_in r j && goes_along r m.value.index j) refl
    where
      by : (b : Bool) → (is_in r j && goes_along r m.value.index j) ≡ b → Held (Forms (In c Filled)) (valued m (if b then Goes (Steps.value_with (select m.value.subject m.value.index j) m.value) else Stops offs.Syntax))
      by true e =
          let v = m.value in
          let parts = and_parts (is_in r j) (goes_along r v.index j) e in
          let first : is_in r v.index ≡ true = ap (λ x. range_has x v.index) (sym is) ∙ h.valued.1 in
          grown_formed c Indexed m (select v.subject v.index j) h (select_in m.draft.scope v.subject r v.index j (h.valued.0 ∙ ap Some is) first parts.0) (selected_nets v.subject (between v.index j)) (select_filled v.subject v.index j)
      by false e = tt

  one_formed : (c : Context) (m : Reader) → Forms (In c Indexed) m → Forms (In c Filled) (with_value m (Steps.value_one m.value))
  one_formed c m h = grown_formed c Indexed m (bits.Select m.value.subject m.value.index ∷ []) h (and_from (bit_in m.draft.scope (bits.Select m.value.subject m.value.index)) true (by m.value.range h.valued.0 h.valued.1) refl) refl refl
    where
      by : (r : Option BitRange) → settled_range m.draft.scope m.value.subject.0 ≡ Some r → range_has r m.value.index ≡ true → bit_in m.draft.scope (bits.Select m.value.subject m.value.index) ≡ true
      by None is k = absurd (true≢false (sym k))
      by (Some r) is k = ap (λ o. has_index o m.value.index) is ∙ k

  list_formed : (t : Token) (at : ℕ) (f : Phase) (m : Reader) → Forms f m → Held (Forms f) (perform actions.ListPort t at m)
  list_formed (tokens.Name id) at f m h = scoped_formed f m (add_new m.draft.scope id (listed at) (found m.draft.scope id)) h (add_keeps m.draft.scope id (listed at) (found m.draft.scope id) refl refl)
  list_formed _ at f m h = tt

  declare_formed : (t : Token) (at : ℕ) (f : Phase) (m : Reader) → Forms f m → Held (Forms f) (perform actions.Declare t at m)
  declare_formed (tokens.Name id) at f m h = scoped_formed f m (declare m.declaring at m.draft.scope id) h (declare_keeps m.declaring.form m.declaring at m.draft.scope id)
  declare_formed _ at f m h = tt

  positional_formed : (m : Reader) → Formed n Open Empty m → Formed n Open Empty (record m { joint = Steps.joint_positional m.joint })
  positional_formed m h =
      record {
        built = h.built;
        taken = h.taken;
        apart = h.apart;
        bitted = record { instances = h.bitted.instances; assigns = h.bitted.assigns; named = h.bitted.named; ordered = h.bitted.ordered; bits = h.bitted.bits; left = h.bitted.left };
        shapes = h.shapes;
        instances = h.instances;
        plain = h.plain;
        sided = h.sided;
        valued = h.valued;
      }

  pub acts_formed : (a : Action) (t : Token) (at : ℕ) (f : Phase) (m : Reader) → Sized t → Good n m.draft.scope → Forms f m → Acted Forms (act a t f) (perform a t at m)
  acts_formed actions.Pass t at f m ok good h = h
  acts_formed actions.BeginModule t at (In Outside Empty) m ok good h = begin_formed t m at h
  acts_formed actions.BeginModule t at (In _ _) m ok good h = tt
  acts_formed actions.ListPort t at f m ok good h = list_formed t at f m h
  acts_formed actions.HeaderDirection (tokens.Keyword keywords.Input) at f m ok good h = declaring_formed f m _ h
  acts_formed actions.HeaderDirection (tokens.Keyword keywords.Output) at f m ok good h = declaring_formed f m _ h
  acts_formed actions.HeaderDirection _ at f m ok good h = tt
  acts_formed actions.ItemDirection (tokens.Keyword keywords.Input) at f m ok good h = declaring_formed f m _ h
  acts_formed actions.ItemDirection (tokens.Keyword keywords.Output) at f m ok good h = declaring_formed f m _ h
  acts_formed actions.ItemDirection _ at f m ok good h = tt
  acts_formed actions.ItemWires t at f m ok good h = declaring_formed f m _ h
  acts_formed actions.Declare t at f m ok good h = declare_formed t at f m h
  acts_formed actions.EndModule t at (In Inside Empty) m ok good h = end_formed Inside t m at good (resting_inside m h) h
  acts_formed actions.EndModule t at (In Targeted Empty) m ok good h = end_formed Targeted t m at good (resting_targeted m h) h
  acts_formed actions.EndModule t at (In _ _) m ok good h = tt
  acts_formed actions.LeftBound (tokens.Number (Some v)) at f m ok good h = declaring_formed f m _ h
  acts_formed actions.LeftBound _ at f m ok good h = tt
  acts_formed actions.RightBound (tokens.Number (Some v)) at f m ok good h = declaring_formed f m _ h
  acts_formed actions.RightBound _ at f m ok good h = tt
  acts_formed actions.Target t at (In Inside Empty) m ok good h = target_formed Inside t m at (resting_inside m h) h
  acts_formed actions.Target t at (In Targeted Empty) m ok good h = target_formed Targeted t m at (resting_targeted m h) h
  acts_formed actions.Target t at (In _ _) m ok good h = tt
  acts_formed actions.BeginInstance t at (In Targeted Empty) m ok good h = instance_formed t m at h
  acts_formed actions.BeginInstance t at (In _ _) m ok good h = tt
  acts_formed actions.EndInstance t at (In Open Empty) m ok good h = end_instance_formed m h
  acts_formed actions.EndInstance t at (In _ _) m ok good h = tt
  acts_formed actions.FirstOrdered t at (In Open Empty) m ok good h = start_formed t at (In Open Empty) (record m { joint = Steps.joint_positional m.joint }) ok (positional_formed m h)
  acts_formed actions.FirstOrdered t at (In _ _) m ok good h = tt
  acts_formed actions.NextOrdered t at (In Open Filled) m ok good h = ordered_formed m h
  acts_formed actions.NextOrdered t at (In _ _) m ok good h = tt
  acts_formed actions.LastOrdered t at (In Open Filled) m ok good h = end_instance_formed (end_ordered m) (ordered_formed m h)
  acts_formed actions.LastOrdered t at (In _ _) m ok good h = tt
  acts_formed actions.ConnectionName t at (In Open Empty) m ok good h = port_formed t m at h
  acts_formed actions.ConnectionName t at (In _ _) m ok good h = tt
  acts_formed actions.EndNamed t at (In Joined Empty) m ok good h = named_formed Empty m h
  acts_formed actions.EndNamed t at (In Joined Filled) m ok good h = named_formed Filled m h
  acts_formed actions.EndNamed t at (In _ _) m ok good h = tt
  acts_formed actions.BeginAssign t at (In Inside Empty) m ok good h = left_formed Inside m (resting_inside m h) h
  acts_formed actions.BeginAssign t at (In Targeted Empty) m ok good h = left_formed Targeted m (resting_targeted m h) h
  acts_formed actions.BeginAssign t at (In _ _) m ok good h = tt
  acts_formed actions.EndLeft t at (In LeftSide Filled) m ok good h = right_formed m h
  acts_formed actions.EndLeft t at (In _ _) m ok good h = tt
  acts_formed actions.NextAssign t at (In RightSide Filled) m ok good h = let g = assign_formed m h in left_formed Inside (end_assign m) (resting_inside (end_assign m) g) g
  acts_formed actions.NextAssign t at (In _ _) m ok good h = tt
  acts_formed actions.LastAssign t at (In RightSide Filled) m ok good h = assign_formed m h
  acts_formed actions.LastAssign t at (In _ _) m ok good h = tt
  acts_formed actions.StartValue t at f m ok good h = start_formed t at f m ok h
  acts_formed actions.Select t at (In c Subject) m ok good h = select_formed c m m.value.range h
  acts_formed actions.Select t at (In c Empty) m ok good h = tt
  acts_formed actions.Select t at (In c Indexed) m ok good h = tt
  acts_formed actions.Select t at (In c Filled) m ok good h = tt
  acts_formed actions.Index (tokens.Number (Some v)) at (In c Subject) m ok good h = index_formed c v m m.value.range refl h
  acts_formed actions.Index _ at (In c Subject) m ok good h = tt
  acts_formed actions.Index t at (In c Empty) m ok good h = tt
  acts_formed actions.Index t at (In c Indexed) m ok good h = tt
  acts_formed actions.Index t at (In c Filled) m ok good h = tt
  acts_formed actions.OneBit t at (In c Indexed) m ok good h = one_formed c m h
  acts_formed actions.OneBit t at (In c Empty) m ok good h = tt
  acts_formed actions.OneBit t at (In c Subject) m ok good h = tt
  acts_formed actions.OneBit t at (In c Filled) m ok good h = tt
  acts_formed actions.ManyBits (tokens.Number (Some v)) at (In c Indexed) m ok good h = many_formed c v m m.value.range refl h
  acts_formed actions.ManyBits _ at (In c Indexed) m ok good h = tt
  acts_formed actions.ManyBits t at (In c Empty) m ok good h = tt
  acts_formed actions.ManyBits t at (In c Subject) m ok good h = tt
  acts_formed actions.ManyBits t at (In c Filled) m ok good h = tt

  pub start_forms : Forms (In Outside Empty) start
  start_forms = record { built = tt; taken = refl; apart = refl; bitted = record { instances = refl; assigns = refl; named = refl; ordered = refl; bits = refl; left = refl }; shapes = refl; instances = refl; plain = λ e. refl; sided = (refl, refl, refl); valued = refl }
