-- The frame that a procedure needs, by what the generator has of it.
use Rattle.std.specs.Prelude.{false, map}
use Rattle.spl_tree.specs.DeclarationTrees.{declarations}
use Rattle.spl_tree.specs.Spells.{heading_tree, declaration}
use Rattle.spl_sorts.specs.spl_meaning.Names.{find, parameters, formals_of}
use Rattle.spl_sorts.specs.Tables.{table_of}
use Rattle.spl_initials.specs.spl_places.ListedData.{datum_of}
use Rattle.spl_initials.specs.Cells.{found_in, cells_by, initials_by}
use Rattle.spl_body_code.specs.Bodies.{Frame}
use Rattle.spl_gen_body.specs.declared.bodies.Procedure.{Procedure}

-- its words and room; the cells and initial values of its items that are not OWN, by the places of its list
abbrev pub frame_for : Procedure → Frame
frame_for of = record {
  words = of.room.locals;
  room = of.room.depth;
  cells = cells_by false (found_in of.places.now) (map datum_of of.items.now);
  initials = initials_by false (find (table_of of.outer.now)) (found_in of.places.now) (find (parameters (formals_of (heading_tree of.heading.now))))
      (declarations (map declaration of.declarations.now));
  split = of.heading.now.split;
}
