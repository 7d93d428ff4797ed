-- Places in a table of names as numbers of names.
use Rattle.std.specs.Prelude.{ℕ, Option, Some, None}
use Rattle.lp_text.specs.declared.names.NameId.{NameId}

abbrev pub numbered : Option ℕ → Option NameId
numbered None = None
numbered (Some place) = Some (record { 0 = place })
