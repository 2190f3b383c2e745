-- Headings and options, as the grammar has them.
use Rattle.std.specs.Prelude.{ℕ, Bool, Option, Some, None}
use Rattle.spl_tree.specs.declared.declarations.Heading.{Heading}
use Rattle.spl_tree.specs.Symbols.{Lexeme}
use Rattle.spl_tree.specs.DeclarationTrees as decl
use Rattle.spl_tree.specs.Declarations as dl
use Rattle.spl_tree.specs.Spells as spells
use Rattle.spl_headings.specs.declared.options.Options.{Options}

-- the options that were read
abbrev pub options : Options → dl.Options
options a = record { forward = a.forward; external = a.external; split = a.split }

-- a heading with the option SPLIT or not
abbrev pub with_split : decl.Heading → Bool → decl.Heading
with_split h split = record {
  result = h.result;
  name = h.name;
  names = h.names;
  values = h.values;
  specs = h.specs;
  split = split;
  at = h.at;
  segment = h.segment;
}

abbrev pub heading : Heading → Bool → decl.Heading
heading h = with_split (spells.heading_tree h)

-- the segment of a heading: this one, or that in force at its word
abbrev pub segment_by : Option ℕ → Lexeme → ℕ
segment_by None = λ p. p.segment
segment_by (Some segment) = λ p. segment
