-- The names of what is added to a module (own rule).
use Rattle.std.specs.Prelude.{◌≡◌, ◌<◌, ◌^◌, ℕ, false, ◌++◌, codes, bytes_eq}
use Rattle.lp_spec_design.specs.Keys.{Name}
use Rattle.lp_spec_faults.specs.Modules.{is_own}
use Rattle.lp_spec_written.specs.Places.{with_number}

-- the supply port of a name, the output of a switch, a net of a chain, a port or wire of a control route; a clamp, a shifter, a switch
pub data Addition : Type 0 where
  OfPort : Name → Addition
  OfSwitch : ℕ → Addition
  OfChain : ℕ → Addition
  OfControl : ℕ → Addition
  Clamps : ℕ → Addition
  Shifts : ℕ → Addition
  Switches : ℕ → Addition

abbrev pub added_name : Addition → Name
added_name (OfPort n) = codes "lp_v_" ++ n
added_name (OfSwitch k) = with_number (codes "lp_w_") k
added_name (OfChain k) = with_number (codes "lp_n_") k
added_name (OfControl k) = with_number (codes "lp_c_") k
added_name (Clamps k) = with_number (codes "lp_i_") k
added_name (Shifts k) = with_number (codes "lp_l_") k
added_name (Switches k) = with_number (codes "lp_s_") k

-- numbers fit 64 bits
abbrev pub HasNumber : Addition → Type 0
HasNumber (OfPort n) = Unit {0}
HasNumber (OfSwitch k) = k < 2 ^ 64
HasNumber (OfChain k) = k < 2 ^ 64
HasNumber (OfControl k) = k < 2 ^ 64
HasNumber (Clamps k) = k < 2 ^ 64
HasNumber (Shifts k) = k < 2 ^ 64
HasNumber (Switches k) = k < 2 ^ 64

-- two additions of one name are one, and no name of the source is that of an addition
pub record AreApart : Type 0 where
  pub one : (a b : Addition) → HasNumber a → HasNumber b → added_name a ≡ added_name b → a ≡ b
  pub free : (n : Name) (a : Addition) → is_own n ≡ false → bytes_eq n (added_name a) ≡ false
