-- What a procedure's body may use, by its names and those around it.
use Rattle.std.specs.Prelude.{false, if◌then◌else◌, [], ◌∷◌, is_some}
use Rattle.spl_tree.specs.DeclarationTrees.{Heading}
use Rattle.spl_sound.specs.spl_meaning.Names.{Names}
use Rattle.spl_sound.specs.spl_meaning.ExpressionRules.{Scope}
use Rattle.spl_uses.specs.spl_found.OwnNames.{over}

-- its own name is its result, where its own list does not declare it
abbrev pub procedure_inside : Names → Names → Heading → Scope
procedure_inside here globals h = record {
  names = over here globals;
  is_local = λ x. is_some (here x);
  results = if is_some (here h.name) then [] else h.name ∷ [];
  split = h.split;
  is_main = false;
}
