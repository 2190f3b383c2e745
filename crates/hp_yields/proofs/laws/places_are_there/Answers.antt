-- What is read and stored at a place is among the words on its side. Each is proved under its name.
use Rattle.hp_yields.proofs.MemoryYields as memoryyields
use Rattle.hp_yields.proofs.laws.places_are_there.Goals as goal

pub returns : goal.returns
returns c = record {
  read_there = memoryyields.read_there;
  read_past = memoryyields.read_past;
  written_there = memoryyields.written_there;
  written_past = memoryyields.written_past;
  byte_written_there = memoryyields.byte_written_there;
}
