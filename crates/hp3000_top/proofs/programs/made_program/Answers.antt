-- What is answered of the texts says what is made of them.
use Rattle.std.proofs.Common.{List, map, ap, subst}
use Rattle.spl_tree.specs.declared.names_and_places.Chars.{Chars}
use Rattle.job_gen.specs.job_text.Views.{text_value}
use Rattle.spl_program.specs.spl_sound.Spelled.{source_of}
use Rattle.spl_program.specs.Programs.{texts_of, IsProgram}
use Rattle.hp3000_top.proofs.Making.{short_so, refused_so, linked_made, linked_refused}
use Rattle.hp3000_top.proofs.programs.made_program.Goals as goal

pub read_program-requires-clause-short : goal.read_program-requires-clause-short
read_program-requires-clause-short c = short_so c.args.text.now.units.items c.deref.result.now c.requires.short c.deref.ensures.value

pub returns-in-Err-clause-refused : goal.returns-in-Err-clause-refused
returns-in-Err-clause-refused c =
    refused_so (text_value c.args.text.now) (texts_of c.deref.result.now) c.in-Err.fault c.in_ok-line-in-Err.line.items (ap texts_of c.deref.ensures.value)
    c.in_ok-line-in-Err.ensures.told c.in-Err.ensures.fault c.in_ok-line-in-Err.ensures.line

pub linked_program-requires : goal.linked_program-requires
linked_program-requires c = c.in-Ok.ensures.program.within

pub returns-clause-made : goal.returns-clause-made
returns-clause-made c =
    linked_made (texts_of c.args.text.now.units.items) (map source_of c.in-Ok.sound.units.items) c.linked_program.result
    (subst (λ (ts : List Chars). IsProgram (texts_of ts) (map source_of c.in-Ok.sound.units.items)) c.deref.ensures.value c.in-Ok.ensures.program)
    c.linked_program.ensures.built

pub returns-clause-refused : goal.returns-clause-refused
returns-clause-refused c =
    linked_refused (text_value c.args.text.now) (map source_of c.in-Ok.sound.units.items) c.linked_program.result
    (subst (λ (ts : List Chars). IsProgram (texts_of ts) (map source_of c.in-Ok.sound.units.items)) c.deref.ensures.value c.in-Ok.ensures.program)
    c.linked_program.ensures.refused
