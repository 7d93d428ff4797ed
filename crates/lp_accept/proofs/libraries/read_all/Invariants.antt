use Rattle.std.proofs.Common.{◌≡◌, ◌*◌, ◌≤◌, length, take}
use Rattle.lp_accept.specs.Read.{AreGroups}
use Rattle.lp_accept.proofs.libraries.read_all.Given as goal

abbrev pub invariant-loop-library : goal.invariant-loop-library
invariant-loop-library l = record {
  read : AreGroups l.names (take l.library-index l.libs) l.files;
  count : length l.files ≡ l.library-index;
  few : length l.names ≤ l.library-index * 67108864;
}
