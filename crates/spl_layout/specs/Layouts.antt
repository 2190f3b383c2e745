-- What the layout of a program is.
use Rattle.std.specs.Prelude.{◌≡◌, List}
use Rattle.spl_sound.specs.spl_meaning.Tables.{Source}
use Rattle.spl_sound.specs.spl_meaning.Places.{put_cells, put_initials}
use Rattle.spl_sound.specs.spl_meaning.Bodies.{data_words, program_of}
use Rattle.spl_sound.specs.spl_meaning.Runs.{global_address, zeros}
use Rattle.spl_entries.specs.spl_initials.Memory.{memory_of}
use Rattle.spl_entries.specs.Entries.{entries_of}
use Rattle.spl_rooms.specs.Rooms.{rooms_of}
use Rattle.spl_layout.specs.declared.layouts.Layout.{Layout}

-- its data words are those with which a run begins; its places and rooms are those of the definitions, in order
pub record IsLayout (us : List Source) (l : Layout) : Type 0 where
  pub globals :
      memory_of l.globals.items
      ≡ put_initials global_address (program_of us).initials (put_cells global_address (program_of us).cells (zeros (data_words us)))
  pub places : l.places.items ≡ entries_of us
  pub bodies : l.bodies.items ≡ rooms_of us
