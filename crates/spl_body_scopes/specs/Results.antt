-- The results that may be assigned in bodies, by name.
use Rattle.std.specs.Prelude.{if◌then◌else◌, Option, Some, None, is_some}
use Rattle.spl_tree.specs.declared.expressions.Kind.{Kind}
use Rattle.spl_tree.specs.DeclarationTrees.{Heading}
use Rattle.spl_tree.specs.Views.{letters}
use Rattle.spl_sorts.specs.spl_meaning.Names.{Names, same_name, or_else, profile_of}
use Rattle.spl_sorts.specs.spl_meaning.Places.{Place}
use Rattle.spl_sorts.specs.spl_meaning.Bodies.{result_by, result_place}
use Rattle.spl_places.specs.spl_spots.declared.places.Place as code
use Rattle.spl_places.specs.Spots.{spot_of}
use Rattle.spl_scopes.specs.Scopes.{Results}
use Rattle.spl_body_scopes.specs.declared.places.Base.{Base}
use Rattle.spl_body_scopes.specs.declared.places.Base.TheVariants as base
use Rattle.spl_body_scopes.specs.declared.results.BodyResult.{BodyResult}
use Rattle.spl_body_scopes.specs.Bases.{below_in, gap_of}

-- a result with its place
abbrev pub placed_result : Kind × code.Place → Kind × Place
placed_result r = (r.0, spot_of r.1)

-- what a body's own result is, as the code has it
abbrev pub result_of : Option BodyResult → Results
result_of None x = None
result_of (Some r) x = if same_name x (letters r.name) then Some (r.kind, spot_of r.place) else None

-- the result of a heading, below its parameters
abbrev pub heading_result : Base → Heading → Results
heading_result b h = result_by h.name h.result (result_place (below_in b) (gap_of b) (profile_of h))

-- that of a procedure, with the names of its list, which may hide it
abbrev pub routine_result : Names → Heading → Results
routine_result own h x = if is_some (own h.name) then None else heading_result base.Marker h x

-- the results in a subroutine: its own, and that of the procedure around it
abbrev pub results_through : Results → Results → Results
results_through inner own x = or_else (inner x) (own x)
