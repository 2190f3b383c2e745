-- The parts of headings, declarations and units, in order of text.
use Rattle.std.specs.Prelude.{Bool, true, false, if◌then◌else◌, List, [], ◌∷◌, ◌++◌}
use Rattle.spl_meaning.specs.spl_tree.declared.names_and_places.At.{At}
use Rattle.spl_meaning.specs.spl_tree.declared.expressions.Kind.{Kind}
use Rattle.spl_meaning.specs.spl_tree.Trees.{Constant}
use Rattle.spl_meaning.specs.spl_tree.StatementTrees.{Statement, statements}
use Rattle.spl_meaning.specs.spl_tree.DeclarationTrees as decl
use Rattle.spl_meaning.specs.spl_tree.DeclarationTrees.{Placed, Spec, Heading, Item, Equal, Term, Declaration, Declarations, declarations}
use Rattle.spl_meaning.specs.Names.{Names, Sort, Formal, Table, find, within, nothing_declared, parameters, formals_of}
use Rattle.spl_meaning.specs.Tables.{Source, Routine, declared, shaped, with_equates, with_intrinsics, with_labels, with_declaration}
use Rattle.spl_meaning.specs.Bodies.{all_routines}
use Rattle.spl_meaning.specs.ExpressionRules.{Scope}
use Rattle.spl_meaning.specs.StatementRules.{all_labels}
use Rattle.spl_meaning.specs.DeclarationRules.{Around, all_listed, Waiting, waiting_behind, subroutine_scope, procedure_scope, main_scope}
use Rattle.spl_rules.specs.Parts as part
use Rattle.spl_rules.specs.Parts.{Part}
use Rattle.spl_rules.specs.StatementParts.{label_parts, statement_parts, body_parts}

-- ---- items

-- the shape of an item
abbrev pub shape_parts : Around → Table Sort → Bool → Kind → decl.Shape → At → List Part
shape_parts a table own k decl.Shape.simple at = []
shape_parts a table own k (decl.Shape.array low high) at =
    part.constant (within table a.names) at low ∷ part.constant (within table a.names) at high
    ∷ part.bounds (within table a.names) low high at ∷ part.elements a at ∷ []
shape_parts a table own k (decl.Shape.view base) at = part.base a.names table own k base at ∷ part.elements a at ∷ []
shape_parts a table own k decl.Shape.pointer at = []

-- initial values in order
abbrev pub initials_parts : Names → Kind → At → List Constant → List Part
initials_parts names k at [] = []
initials_parts names k at (c ∷ cs) = part.constant names at c ∷ part.initial names k at c ∷ initials_parts names k at cs

-- the items of a declaration, each behind those before it
abbrev pub items_parts : Around → Table Sort → Bool → Kind → List Item → List Part
items_parts a table own k [] = []
items_parts a table own k (i ∷ is) =
    (part.declared table i.name i.at ∷ shape_parts a table own k i.shape i.at
    ++ initials_parts (within table a.names) k i.at i.first ++ part.item a table own k i ∷ [])
    ++ items_parts a (declared table i.name (shaped (within table a.names) own k i.shape)) own k is

-- ---- EQUATE, INTRINSIC and LABEL

-- the constants of a sum
abbrev pub terms_parts : Names → At → List Term → List Part
terms_parts names at [] = []
terms_parts names at (t ∷ ts) = part.constant names at t.value ∷ terms_parts names at ts

-- the items of an EQUATE
abbrev pub equates_parts : Around → Table Sort → List Equal → List Part
equates_parts a table [] = []
equates_parts a table (e ∷ es) =
    (part.declared table e.name e.at ∷ terms_parts (within table a.names) e.at e.terms ++ part.sum (within table a.names) e.terms e.at ∷ [])
    ++ equates_parts a (with_equates a.names table (e ∷ [])) es

-- the names of an INTRINSIC
abbrev pub intrinsics_parts : Table Sort → List Placed → List Part
intrinsics_parts table [] = []
intrinsics_parts table (x ∷ xs) =
    part.declared table x.letters x.at ∷ part.intrinsic x ∷ intrinsics_parts (with_intrinsics table (x ∷ [])) xs

-- the names of a LABEL
abbrev pub labels_parts : Table Sort → List Placed → List Part
labels_parts table [] = []
labels_parts table (x ∷ xs) = part.declared table x.letters x.at ∷ labels_parts (with_labels table (x ∷ [])) xs

-- ---- headings

-- parameters, each behind those before it
abbrev pub parameters_parts : List Placed → List Placed → List Part
parameters_parts before [] = []
parameters_parts before (x ∷ xs) = part.parameter before x ∷ parameters_parts (x ∷ before) xs

-- names that a heading lists
abbrev pub listed_parts : List Placed → List Placed → List Part
listed_parts names [] = []
listed_parts names (x ∷ xs) = part.listed names x ∷ listed_parts names xs

-- names that VALUE lists
abbrev pub values_parts : List Spec → List Placed → List Part
values_parts specs [] = []
values_parts specs (x ∷ xs) = part.value_listed specs x ∷ values_parts specs xs

-- parameters with the lists of kinds
abbrev pub kinds_parts : List Spec → List Placed → List Part
kinds_parts specs [] = []
kinds_parts specs (x ∷ xs) = part.kind_listed specs x ∷ kinds_parts specs xs

-- names in the lists of kinds, each behind those before it
abbrev pub again_parts : List Placed → List Placed → List Part
again_parts before [] = []
again_parts before (x ∷ xs) = part.listed_again before x ∷ again_parts (x ∷ before) xs

-- parameters of a procedure that is split or not
abbrev pub formals_parts : Bool → List Formal → List Part
formals_parts split [] = []
formals_parts split (f ∷ fs) = part.formal split f ∷ formals_parts split fs

-- a heading
abbrev pub heading_parts : Bool → Heading → List Part
heading_parts split h =
    parameters_parts [] h.names ++ listed_parts h.names h.values ++ listed_parts h.names (all_listed h.specs) ++ values_parts h.specs h.values
    ++ kinds_parts h.specs h.names ++ again_parts [] (all_listed h.specs) ++ formals_parts split (formals_of h)

-- ---- subroutines and procedures

-- a subroutine in a scope
abbrev pub subroutine_parts : Around → Table Sort → Scope → Heading → Statement → List Part
subroutine_parts a table sc h s =
    part.declared table h.name h.at ∷ part.subroutine a h.at ∷ heading_parts sc.split h
    ++ statement_parts (subroutine_scope sc h) [] false s ++ label_parts [] (all_labels s)

-- a declaration of a procedure's body; no procedure stands there
abbrev pub local_parts_of : Around → Scope → Table Sort → Declaration → List Part
local_parts_of a sc table (decl.Declaration.data_items own k items) = items_parts a table own k items
local_parts_of a sc table (decl.Declaration.equate es) = equates_parts a table es
local_parts_of a sc table (decl.Declaration.intrinsic xs) = intrinsics_parts table xs
local_parts_of a sc table (decl.Declaration.label xs) = labels_parts table xs
local_parts_of a sc table (decl.Declaration.subroutine h s) = subroutine_parts a table sc h s
local_parts_of a sc table d = []

-- the declarations of a procedure's body, in the scope of the whole list
abbrev pub local_parts : Around → Scope → Table Sort → Declarations → List Part
local_parts a sc table decl.none = []
local_parts a sc table (decl.and d ds) = local_parts_of a sc table d ++ local_parts a sc (with_declaration a.names table d) ds

-- a procedure, behind the list of its unit up to its heading
abbrev pub procedure_parts : Table Sort → Heading → Declarations → List Statement → List Part
procedure_parts globals h items ss =
    heading_parts h.split h
    ++ local_parts (record { names = find globals; in_procedure = true; split = h.split; subprogram = false })
    (procedure_scope globals h items) (parameters (formals_of h)) items
    ++ body_parts (procedure_scope globals h items) (statements ss)

-- ---- units

-- an EXTERNAL with each procedure of the other units
abbrev pub external_parts : Heading → List Routine → List Part
external_parts h [] = []
external_parts h (r ∷ rs) = part.external h r ∷ external_parts h rs

-- a declaration of a unit, with those behind it, the procedures of the other units and the scope of the main body
abbrev pub global_parts : Around → Scope → List Routine → Waiting → Table Sort → Declaration → Declarations → List Part
global_parts a sc others waiting table (decl.Declaration.data_items own k items) ds = items_parts a table own k items
global_parts a sc others waiting table (decl.Declaration.equate es) ds = equates_parts a table es
global_parts a sc others waiting table (decl.Declaration.intrinsic xs) ds = intrinsics_parts table xs
global_parts a sc others waiting table (decl.Declaration.label xs) ds = labels_parts table xs
global_parts a sc others waiting table (decl.Declaration.forward h) ds =
    part.declared table h.name h.at ∷ heading_parts h.split h ++ part.forward h ds ∷ []
global_parts a sc others waiting table (decl.Declaration.external h) ds =
    part.declared table h.name h.at ∷ heading_parts h.split h ++ external_parts h others
global_parts a sc others waiting table (decl.Declaration.procedure h items ss) ds =
    part.body table (find waiting h.name) h
    ∷ procedure_parts (with_declaration nothing_declared table (decl.Declaration.procedure h items ss)) h items ss
global_parts a sc others waiting table (decl.Declaration.subroutine h s) ds = subroutine_parts a table sc h s

-- the declarations of a unit, with the FORWARDs that wait
abbrev pub globals_parts : Around → Scope → List Routine → Waiting → Table Sort → Declarations → List Part
globals_parts a sc others waiting table decl.none = []
globals_parts a sc others waiting table (decl.and d ds) =
    global_parts a sc others waiting table d ds
    ++ globals_parts a sc others (waiting_behind waiting d) (with_declaration nothing_declared table d) ds

-- the statements of a subprogram
abbrev pub silent_parts : At → List Statement → List Part
silent_parts unit [] = []
silent_parts unit (s ∷ ss) = part.silent unit s ∷ silent_parts unit ss

-- a unit, with the procedures of the others
abbrev pub unit_parts : List Routine → Source → List Part
unit_parts others u =
    globals_parts (record { names = nothing_declared; in_procedure = false; split = false; subprogram = u.subprogram }) (main_scope u) others [] []
    (declarations u.tree.items)
    ++ body_parts (main_scope u) (statements u.tree.statements)
    ++ (if u.subprogram then silent_parts u.tree.at u.tree.statements else [])

-- units behind others
abbrev pub parts_behind : List Source → List Source → List Part
parts_behind before [] = []
parts_behind before (u ∷ us) = unit_parts (all_routines before ++ all_routines us) u ++ parts_behind (before ++ u ∷ []) us

-- all parts of some units
abbrev pub all_parts : List Source → List Part
all_parts us = parts_behind [] us
