-- The words for what makes a cell unusable, or unfit where a source instantiates it (own rule).
use Rattle.std.specs.Prelude.{ℕ, List, codes}
use Rattle.lp_model.specs.declared.reason.Reason.{Reason}
use Rattle.lp_model.specs.declared.reason.Reason.TheVariants.{Name, Twice, Pg, Direction, Related, Function, Range, Groups, Retention, Construct}

abbrev pub reason_word : Reason → List ℕ
reason_word Name = codes "name"
reason_word Twice = codes "twice"
reason_word Pg = codes "pg"
reason_word Direction = codes "direction"
reason_word Related = codes "related"
reason_word Function = codes "function"
reason_word Range = codes "range"
reason_word Groups = codes "groups"
reason_word Retention = codes "retention"
reason_word Construct = codes "construct"
