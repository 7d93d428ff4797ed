use Rattle.std.proofs.Common.{◌≡◌, length, map, take}
use Rattle.std.specs.Option.{option_map}
use Rattle.lp_top.specs.Reading.{HoldsAll, count_more}
use Rattle.lp_top.proofs.reading.read_files.Given as goal

abbrev pub invariant-loop-name : goal.invariant-loop-name
invariant-loop-name g l = record {
  held : g.S.Shelf.held l.shelf ≡ g.S.Shelf.held l.initial.shelf;
  said : g.S.Shelf.said l.shelf ≡ g.S.Shelf.said l.initial.shelf;
  faults : g.S.Shelf.faults l.shelf ≡ g.S.Shelf.faults l.initial.shelf;
  missed : g.S.Shelf.missed l.shelf ≡ g.S.Shelf.missed l.initial.shelf;
  calls : g.S.Shelf.calls l.shelf ≡ option_map (count_more l.name-index) (g.S.Shelf.calls l.initial.shelf);
  texts : HoldsAll (g.S.Shelf.held l.initial.shelf) (take l.name-index (map (λ n. n.now) l.names)) l.texts;
  count : length l.texts ≡ l.name-index;
}
