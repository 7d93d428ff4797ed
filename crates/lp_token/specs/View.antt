-- How contracts see the tokens of the code, and the letters of its tables.
use Rattle.std.specs.Prelude.{ℕ, ◌==◌, if◌then◌else◌}
use Rattle.lp_token.specs.declared.token.Token as code
use Rattle.lp_token.specs.declared.token.Token.TheVariants as tokens
use Rattle.lp_token.specs.Tokens.{Class, Blank, Inner, Single, Quote, Foreign, Token, Word, Mark, Quoted}

-- a token of the code
abbrev pub view : code.Token → Token
view (tokens.Word w) = Word w.now
view (tokens.Mark m) = Mark m
view (tokens.Quoted s) = Quoted s.now

-- the class that a letter of a table stands for
abbrev pub class_named : ℕ → Class
class_named letter = if letter == 95 then Blank else if letter == 119 then Inner else if letter == 109 then Single else if letter == 113 then Quote else Foreign
