-- ROOM asks for room, ADDS and SUBS push zeros and delete words, SPLT and JOIN change the mode. Each is proved under its name.
use Rattle.hp_yields.proofs.WordYields as wordyields
use Rattle.hp_yields.proofs.laws.counts_yield.Goals as goal

pub returns : goal.returns
returns c = record {
  room_there = wordyields.room_there;
  room_lacking = wordyields.room_lacking;
  top_room_there = wordyields.top_room_there;
  top_room_lacking = wordyields.top_room_lacking;
  zeros_added = wordyields.zeros_added;
  words_dropped = wordyields.words_dropped;
  mode_split = wordyields.mode_split;
  mode_joined = wordyields.mode_joined;
}
