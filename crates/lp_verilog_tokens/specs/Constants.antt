-- Numbers and sized constants (IEEE 1364-2005, integer constants).
use Rattle.std.specs.Prelude.{ℕ, ◌+◌, ◌*◌, ◌-◌, ◌^◌, Bool, false, not, ◌&&◌, ◌||◌, ◌==◌, nat_le, nat_lt, List, [], ◌∷◌, Option, Some, None, if◌then◌else◌}
use Rattle.std.specs.List.{list_all, list_any}
use Rattle.lp_verilog_tokens.specs.Lexical.{is_digit, is_between}
use Rattle.lp_verilog_tokens.specs.declared.token.Token.{Token}
use Rattle.lp_verilog_tokens.specs.declared.token.Token.TheVariants as tokens

-- the value of digits behind a value; none where a byte is no digit, or the value exceeds 32 bits
abbrev pub number_behind : ℕ → List ℕ → Option ℕ
number_behind value [] = Some value
number_behind value (b ∷ rest) = if is_digit b && nat_le (value * 10 + (b - 48)) 4294967295 then number_behind (value * 10 + (b - 48)) rest else None

abbrev pub number_of : List ℕ → Option ℕ
number_of run = number_behind 0 run

-- the base that a letter stands for, 0 where it stands for none
abbrev pub base_of : ℕ → ℕ
base_of b =
    if (b == 98) || (b == 66) then 2
    else if (b == 111) || (b == 79) then 8
    else if (b == 100) || (b == 68) then 10
    else if (b == 104) || (b == 72) then 16
    else 0

-- the value of a digit of the greatest base, 16 where it is none
abbrev pub digit_value : ℕ → ℕ
digit_value b =
    if is_between 48 57 b then b - 48
    else if is_between 97 102 b then b - 87
    else if is_between 65 70 b then b - 55
    else 16

-- x and z, in either case
abbrev pub is_unknown : ℕ → Bool
is_unknown b = (b == 120) || (b == 122) || (b == 88) || (b == 90)

-- a digit of the base, an unknown digit or _
abbrev pub is_base_byte : ℕ → ℕ → Bool
is_base_byte base b = nat_lt (digit_value b) base || (is_unknown b || (b == 95))

-- digits of a base begin with a digit
abbrev pub are_digits : ℕ → List ℕ → Bool
are_digits base [] = false
are_digits base (b ∷ rest) = not (b == 95) && list_all (is_base_byte base) (b ∷ rest)

-- the value of digits of a base behind a value, over all _; none from 128 bits on
abbrev pub value_behind : ℕ → ℕ → List ℕ → Option ℕ
value_behind base value [] = Some value
value_behind base value (b ∷ rest) =
    if b == 95 then value_behind base value rest
    else if nat_lt (value * base + digit_value b) (2 ^ 128) then value_behind base (value * base + digit_value b) rest
    else None

-- 1 to 128 bits
abbrev pub is_size : Option ℕ → Bool
is_size None = false
is_size (Some n) = nat_le 1 n && nat_le n 128

abbrev pub fitted : ℕ → Option ℕ → Token
fitted size None = tokens.Unread
fitted size (Some value) = if nat_lt value (2 ^ size) then tokens.Constant size value else tokens.Unread

abbrev pub sized : ℕ → List ℕ → Option ℕ → Token
sized base digits None = tokens.Broken
sized base digits (Some size) = if list_any is_unknown digits then tokens.Unread else fitted size (value_behind base 0 digits)

-- the constant with this size and these digits
abbrev pub constant_with : List ℕ → ℕ → List ℕ → Token
constant_with [] base digits = tokens.Unread
constant_with (b ∷ size) base digits = if not (b == 48) && is_size (number_of (b ∷ size)) then sized base digits (number_of (b ∷ size)) else tokens.Broken

-- the constant with this size, and with a base and digits behind its quote
abbrev pub constant_of : List ℕ → List ℕ → Token
constant_of size [] = tokens.Broken
constant_of size (b ∷ digits) = if nat_lt 0 (base_of b) && are_digits (base_of b) digits then constant_with size (base_of b) digits else tokens.Broken
