-- The reserved words of IEEE 1364-2005, annex B, and what a word is.
use Rattle.std.specs.Prelude.{ℕ, List, [], ◌∷◌, ◌==◌, if◌then◌else◌, codes}
use Rattle.lp_text.specs.Texts.{same_text}
use Rattle.lp_verilog_tokens.specs.declared.token.Token.{Token}
use Rattle.lp_verilog_tokens.specs.declared.token.Token.TheVariants as tokens
use Rattle.lp_verilog_tokens.specs.declared.token.Keyword.TheVariants as keywords

unfoldable pub reserved_words : List (List ℕ)
reserved_words =
    codes "always" ∷ codes "and" ∷ codes "assign" ∷ codes "automatic" ∷ codes "begin" ∷ codes "buf" ∷ codes "bufif0" ∷ codes "bufif1" ∷ codes "case" ∷
    codes "casex" ∷ codes "casez" ∷ codes "cell" ∷ codes "cmos" ∷ codes "config" ∷ codes "deassign" ∷ codes "default" ∷ codes "defparam" ∷ codes "design" ∷
    codes "disable" ∷ codes "edge" ∷ codes "else" ∷ codes "end" ∷ codes "endcase" ∷ codes "endconfig" ∷ codes "endfunction" ∷ codes "endgenerate" ∷ codes "endmodule" ∷
    codes "endprimitive" ∷ codes "endspecify" ∷ codes "endtable" ∷ codes "endtask" ∷ codes "event" ∷ codes "for" ∷ codes "force" ∷ codes "forever" ∷ codes "fork" ∷
    codes "function" ∷ codes "generate" ∷ codes "genvar" ∷ codes "highz0" ∷ codes "highz1" ∷ codes "if" ∷ codes "ifnone" ∷ codes "incdir" ∷ codes "include" ∷
    codes "initial" ∷ codes "inout" ∷ codes "input" ∷ codes "instance" ∷ codes "integer" ∷ codes "join" ∷ codes "large" ∷ codes "liblist" ∷ codes "library" ∷
    codes "localparam" ∷ codes "macromodule" ∷ codes "medium" ∷ codes "module" ∷ codes "nand" ∷ codes "negedge" ∷ codes "nmos" ∷ codes "nor" ∷ codes "noshowcancelled" ∷
    codes "not" ∷ codes "notif0" ∷ codes "notif1" ∷ codes "or" ∷ codes "output" ∷ codes "parameter" ∷ codes "pmos" ∷ codes "posedge" ∷ codes "primitive" ∷
    codes "pull0" ∷ codes "pull1" ∷ codes "pulldown" ∷ codes "pullup" ∷ codes "pulsestyle_ondetect" ∷ codes "pulsestyle_onevent" ∷ codes "rcmos" ∷ codes "real" ∷
    codes "realtime" ∷ codes "reg" ∷ codes "release" ∷ codes "repeat" ∷ codes "rnmos" ∷ codes "rpmos" ∷ codes "rtran" ∷ codes "rtranif0" ∷ codes "rtranif1" ∷
    codes "scalared" ∷ codes "showcancelled" ∷ codes "signed" ∷ codes "small" ∷ codes "specify" ∷ codes "specparam" ∷ codes "strong0" ∷ codes "strong1" ∷
    codes "supply0" ∷ codes "supply1" ∷ codes "table" ∷ codes "task" ∷ codes "time" ∷ codes "tran" ∷ codes "tranif0" ∷ codes "tranif1" ∷ codes "tri" ∷
    codes "tri0" ∷ codes "tri1" ∷ codes "triand" ∷ codes "trior" ∷ codes "trireg" ∷ codes "unsigned" ∷ codes "use" ∷ codes "uwire" ∷ codes "vectored" ∷
    codes "wait" ∷ codes "wand" ∷ codes "weak0" ∷ codes "weak1" ∷ codes "while" ∷ codes "wire" ∷ codes "wor" ∷ codes "xnor" ∷ codes "xor" ∷ []

-- a reserved word is a keyword that is read, or foreign
abbrev pub reserved_token : List ℕ → Token
reserved_token w =
    if same_text w (codes "module") then tokens.Keyword keywords.Module
    else if same_text w (codes "endmodule") then tokens.Keyword keywords.EndModule
    else if same_text w (codes "input") then tokens.Keyword keywords.Input
    else if same_text w (codes "output") then tokens.Keyword keywords.Output
    else if same_text w (codes "wire") then tokens.Keyword keywords.Wire
    else if same_text w (codes "assign") then tokens.Keyword keywords.Assign
    else tokens.Foreign

-- the reserved words that begin with a byte
abbrev pub words_from : ℕ → List (List ℕ)
words_from b =
    if b == 97 then codes "always" ∷ codes "and" ∷ codes "assign" ∷ codes "automatic" ∷ [] else
    if b == 98 then codes "begin" ∷ codes "buf" ∷ codes "bufif0" ∷ codes "bufif1" ∷ [] else
    if b == 99 then codes "case" ∷ codes "casex" ∷ codes "casez" ∷ codes "cell" ∷ codes "cmos" ∷ codes "config" ∷ [] else
    if b == 100 then codes "deassign" ∷ codes "default" ∷ codes "defparam" ∷ codes "design" ∷ codes "disable" ∷ [] else
    if b == 101 then codes "edge" ∷ codes "else" ∷ codes "end" ∷ codes "endcase" ∷ codes "endconfig" ∷ codes "endfunction" ∷ codes "endgenerate" ∷ codes "endmodule" ∷ codes "endprimitive" ∷ codes "endspecify" ∷ codes "endtable" ∷ codes "endtask" ∷ codes "event" ∷ [] else
    if b == 102 then codes "for" ∷ codes "force" ∷ codes "forever" ∷ codes "fork" ∷ codes "function" ∷ [] else
    if b == 103 then codes "generate" ∷ codes "genvar" ∷ [] else
    if b == 104 then codes "highz0" ∷ codes "highz1" ∷ [] else
    if b == 105 then codes "if" ∷ codes "ifnone" ∷ codes "incdir" ∷ codes "include" ∷ codes "initial" ∷ codes "inout" ∷ codes "input" ∷ codes "instance" ∷ codes "integer" ∷ [] else
    if b == 106 then codes "join" ∷ [] else
    if b == 108 then codes "large" ∷ codes "liblist" ∷ codes "library" ∷ codes "localparam" ∷ [] else
    if b == 109 then codes "macromodule" ∷ codes "medium" ∷ codes "module" ∷ [] else
    if b == 110 then codes "nand" ∷ codes "negedge" ∷ codes "nmos" ∷ codes "nor" ∷ codes "noshowcancelled" ∷ codes "not" ∷ codes "notif0" ∷ codes "notif1" ∷ [] else
    if b == 111 then codes "or" ∷ codes "output" ∷ [] else
    if b == 112 then codes "parameter" ∷ codes "pmos" ∷ codes "posedge" ∷ codes "primitive" ∷ codes "pull0" ∷ codes "pull1" ∷ codes "pulldown" ∷ codes "pullup" ∷ codes "pulsestyle_ondetect" ∷ codes "pulsestyle_onevent" ∷ [] else
    if b == 114 then codes "rcmos" ∷ codes "real" ∷ codes "realtime" ∷ codes "reg" ∷ codes "release" ∷ codes "repeat" ∷ codes "rnmos" ∷ codes "rpmos" ∷ codes "rtran" ∷ codes "rtranif0" ∷ codes "rtranif1" ∷ [] else
    if b == 115 then codes "scalared" ∷ codes "showcancelled" ∷ codes "signed" ∷ codes "small" ∷ codes "specify" ∷ codes "specparam" ∷ codes "strong0" ∷ codes "strong1" ∷ codes "supply0" ∷ codes "supply1" ∷ [] else
    if b == 116 then codes "table" ∷ codes "task" ∷ codes "time" ∷ codes "tran" ∷ codes "tranif0" ∷ codes "tranif1" ∷ codes "tri" ∷ codes "tri0" ∷ codes "tri1" ∷ codes "triand" ∷ codes "trior" ∷ codes "trireg" ∷ [] else
    if b == 117 then codes "unsigned" ∷ codes "use" ∷ codes "uwire" ∷ [] else
    if b == 118 then codes "vectored" ∷ [] else
    if b == 119 then codes "wait" ∷ codes "wand" ∷ codes "weak0" ∷ codes "weak1" ∷ codes "while" ∷ codes "wire" ∷ codes "wor" ∷ [] else
    if b == 120 then codes "xnor" ∷ codes "xor" ∷ [] else
    []
