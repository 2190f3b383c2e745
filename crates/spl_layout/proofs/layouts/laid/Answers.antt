-- In units that break no rule each item's name is new in its list.
use Rattle.std.proofs.Common.{List, map, sym, subst}
use Rattle.spl_sound.specs.spl_tree.declared.units.SplUnit.{SplUnit}
use Rattle.spl_sound.specs.Spelled.{source_of}
use Rattle.spl_rooms.specs.spl_places.Programs.{NewInAll}
use Rattle.spl_rooms.proofs.spl_places_proofs.SoundLaws.{sound_new}
use Rattle.spl_layout.proofs.layouts.laid.Goals as goal

pub data_words-requires : goal.data_words-requires
data_words-requires c =
    subst (λ (us : List SplUnit). NewInAll (map source_of us)) (sym c.deref.ensures.value)
    (sound_new (map source_of c.args.sound.now.units.items) c.args.sound.now.sound)

pub places-requires : goal.places-requires
places-requires c =
    subst (λ (us : List SplUnit). NewInAll (map source_of us)) (sym c.deref-2.ensures.value)
    (sound_new (map source_of c.args.sound.now.units.items) c.args.sound.now.sound)

pub rooms-requires : goal.rooms-requires
rooms-requires c =
    subst (λ (us : List SplUnit). NewInAll (map source_of us)) (sym c.deref-3.ensures.value)
    (sound_new (map source_of c.args.sound.now.units.items) c.args.sound.now.sound)
