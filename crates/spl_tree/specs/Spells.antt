-- What it means that the tokens of a text spell a unit.
use Rattle.std.specs.Prelude.{◌≡◌, Bool, List, map}
use Rattle.spl_tree.specs.declared.names_and_places.Name.{Name}
use Rattle.spl_tree.specs.declared.names_and_places.At.{At}
use Rattle.spl_tree.specs.declared.declarations.Decl.{Decl}
use Rattle.spl_tree.specs.declared.declarations.Decl.TheOpen.{Decl-F, Body-F}
use Rattle.spl_tree.specs.declared.declarations.Decl.TheFolds.{fold-Decl}
use Rattle.spl_tree.specs.declared.declarations.Heading.{Heading}
use Rattle.spl_tree.specs.declared.declarations.Spec.{Spec}
use Rattle.spl_tree.specs.declared.declarations.Item.{Item}
use Rattle.spl_tree.specs.declared.declarations.Shape.{Shape}
use Rattle.spl_tree.specs.declared.declarations.Shape.TheVariants as shape
use Rattle.spl_tree.specs.declared.expressions.Const.{Const}
use Rattle.spl_tree.specs.declared.tokens.Lexed.{Lexed}
use Rattle.spl_tree.specs.declared.units.SplUnit.{SplUnit}
use Rattle.spl_tree.specs.Symbols.{lexeme_of}
use Rattle.spl_tree.specs.StatementTrees as stat
use Rattle.spl_tree.specs.DeclarationTrees as decl
use Rattle.spl_tree.specs.DeclarationTrees.{Placed, declarations, UnitTree}
use Rattle.spl_tree.specs.Units.{Unit_of}
use Rattle.spl_tree.specs.Views.{letters, constant, statement}

-- a name with its place
abbrev pub placed : Name × At → Placed
placed p = record { letters = letters p.0; at = p.1 }

abbrev pub spec_tree : Spec → decl.Spec
spec_tree x = record { kind = x.kind; array = x.array; names = map placed x.names.items }

abbrev pub heading_tree : Heading → decl.Heading
heading_tree h = record {
  result = h.result;
  name = letters h.name;
  names = map placed h.names.items;
  values = map placed h.values.items;
  specs = map spec_tree h.specs.items;
  split = h.split;
  at = h.at;
  segment = h.segment;
}

abbrev pub shape_tree : Shape → decl.Shape
shape_tree shape.Simple = decl.Shape.simple
shape_tree (shape.Array low high) = decl.Shape.array (constant low) (constant high)
shape_tree (shape.View name) = decl.Shape.view (letters name)
shape_tree shape.Pointer = decl.Shape.pointer

abbrev pub item_tree : Item → decl.Item
item_tree i = record {
  name = letters i.name;
  at = i.at;
  shape = shape_tree i.shape;
  first = map constant i.first.items;
}

abbrev pub term : Bool × Const → decl.Term
term t = record { minus = t.0; value = constant t.1 }

-- a body: its declarations and statements
pub record BodyTree : Type 0 where
  pub items : List decl.Declaration
  pub statements : List stat.Statement

-- one layer of a declaration, and of a body
abbrev pub declaration_step : Decl-F decl.Declaration BodyTree → decl.Declaration
declaration_step (Decl-F.Data own kind items) = decl.Declaration.data_items own kind (map item_tree items.items)
declaration_step (Decl-F.Equate es) = decl.Declaration.equate
    (map (λ e. record { name = letters e.0; at = e.1; terms = map term e.2.items }) es.items)
declaration_step (Decl-F.Intrinsic names) = decl.Declaration.intrinsic (map placed names.items)
declaration_step (Decl-F.Label names) = decl.Declaration.label (map placed names.items)
declaration_step (Decl-F.Forward h) = decl.Declaration.forward (heading_tree h)
declaration_step (Decl-F.External h) = decl.Declaration.external (heading_tree h)
declaration_step (Decl-F.Procedure h b) = decl.Declaration.procedure (heading_tree h) (declarations b.items)
    b.statements
declaration_step (Decl-F.Subroutine h s) = decl.Declaration.subroutine (heading_tree h) (statement s)

abbrev pub body_step : Body-F decl.Declaration BodyTree → BodyTree
body_step b = record { items = b.items.items; statements = map statement b.statements.items }

abbrev pub declaration : Decl → decl.Declaration
declaration = fold-Decl decl.Declaration BodyTree declaration_step body_step

-- a unit, but for whether it is a subprogram and the names of its segments
abbrev pub unit_tree : SplUnit → UnitTree
unit_tree u = record {
  items = map declaration u.items.items;
  statements = map statement u.statements.items;
  segment =
      u.segment;
  at = u.at;
}

-- The unit is spelled: it is a subprogram where the text is one, has the text's segments, and the tokens spell the
-- rest.
pub record Spells (unit : SplUnit) (lexed : Lexed) : Type 0 where
  pub subprogram : unit.subprogram ≡ lexed.subprogram
  pub segments : map letters unit.segments.items ≡ map letters lexed.segments.items
  pub rest : Unit_of (unit_tree unit) (map lexeme_of lexed.tokens.items)
