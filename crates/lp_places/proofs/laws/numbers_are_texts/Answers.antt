use Rattle.lp_places.proofs.Numbers.{same_name}
use Rattle.lp_places.proofs.laws.numbers_are_texts.Goals as goal

pub returns : goal.returns
returns c names a b apart l m = same_name names apart a b l m
