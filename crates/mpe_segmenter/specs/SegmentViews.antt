-- What contracts see of segments with their entries: the letters of their names, and their modules.
use Rattle.std.specs.Prelude.{List, map}
use Rattle.mpe_segmenter.specs.declared.segments.Segment.{Segment}
use Rattle.mpe_segmenter.specs.Names.{Part}

abbrev pub segment_in : Segment → Part
segment_in s = record { name = s.name.text.items; modules = s.modules.items }

abbrev pub segments_in : List Segment → List Part
segments_in ss = map segment_in ss
