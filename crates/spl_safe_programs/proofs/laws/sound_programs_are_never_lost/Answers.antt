-- All bodies that are called are ready, and so is the main body.
use Rattle.spl_safe_programs.proofs.Programs.{never_lost}
use Rattle.spl_safe_programs.proofs.laws.sound_programs_are_never_lost.Goals as goal

pub returns : goal.returns
returns c =
    never_lost (record {
      covered = c.sound_programs_are_covered.ensures;
      unique = c.linked_names_are_unique.ensures;
      kinds = c.modules_have_kinds.ensures.code;
      well = c.sound_units_begin_well.ensures.code;
      entries = c.calls_find.ensures.entries;
      wants = c.calls_find.ensures.wants;
      mean = c.names_mean.ensures;
      inners = c.inners_find.ensures;
      alike = c.bodies_read_alike.ensures;
      statements_alike = c.statements_read_alike.ensures;
      lists = c.covered_lists_are_linked.ensures;
      parts = c.covered_parts_are_safe.ensures;
      bodies = c.bodies_are_safe.ensures;
      statements = c.statements_are_safe.ensures.list;
      sizes = c.values_have_their_words.ensures;
    })
