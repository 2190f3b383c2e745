-- How many constructs stand around a statement in a unit, and how many of them are FORs.
use Rattle.std.specs.Prelude.{ℕ, suc, max, [], ◌∷◌}
use Rattle.spl_sound.specs.spl_tree.StatementTrees as stat
use Rattle.spl_sound.specs.spl_tree.StatementTrees.{Statement, Statements, statements}
use Rattle.spl_sound.specs.spl_tree.DeclarationTrees as decl
use Rattle.spl_sound.specs.spl_tree.DeclarationTrees.{Declaration, Declarations, UnitTree, declarations}

abbrev mutual
  -- the most constructs that stand around one statement inside a statement
  pub nested : Statement → ℕ
  nested stat.Statement.empty = 0
  nested (stat.Statement.labelled x at s) = suc (nested s)
  nested (stat.Statement.block ss) = suc (nested_among ss)
  nested (stat.Statement.if_test q then_part else_part at) = suc (max (nested then_part) (nested_among else_part))
  nested (stat.Statement.while_true q s at) = suc (nested s)
  nested (stat.Statement.until_true s q at) = suc (nested s)
  nested (stat.Statement.for_values x first step last s at) = suc (nested s)
  nested (stat.Statement.case_of e ss at) = suc (nested_among ss)
  nested (stat.Statement.go_to x at) = 0
  nested (stat.Statement.return at) = 0
  nested (stat.Statement.assign to e at) = 0
  nested (stat.Statement.assign_effect to e at) = 0
  nested (stat.Statement.do_effect e at) = 0
  nested (stat.Statement.call x es at) = 0

  -- inside a list
  pub nested_among : Statements → ℕ
  nested_among stat.Statements.none = 0
  nested_among (stat.Statements.and s ss) = max (nested s) (nested_among ss)

abbrev mutual
  -- the most FORs that stand around one statement inside a statement
  pub fors : Statement → ℕ
  fors stat.Statement.empty = 0
  fors (stat.Statement.labelled x at s) = fors s
  fors (stat.Statement.block ss) = fors_among ss
  fors (stat.Statement.if_test q then_part else_part at) = max (fors then_part) (fors_among else_part)
  fors (stat.Statement.while_true q s at) = fors s
  fors (stat.Statement.until_true s q at) = fors s
  fors (stat.Statement.for_values x first step last s at) = suc (fors s)
  fors (stat.Statement.case_of e ss at) = fors_among ss
  fors (stat.Statement.go_to x at) = 0
  fors (stat.Statement.return at) = 0
  fors (stat.Statement.assign to e at) = 0
  fors (stat.Statement.assign_effect to e at) = 0
  fors (stat.Statement.do_effect e at) = 0
  fors (stat.Statement.call x es at) = 0

  -- inside a list
  pub fors_among : Statements → ℕ
  fors_among stat.Statements.none = 0
  fors_among (stat.Statements.and s ss) = max (fors s) (fors_among ss)

abbrev mutual
  -- the most in the bodies of a declaration, as statements are measured
  pub most_in : (Statements → ℕ) → Declaration → ℕ
  most_in measure (decl.Declaration.procedure h ds xs) = max (most_in_all measure ds) (measure (statements xs))
  most_in measure (decl.Declaration.subroutine h x) = measure (statements (x ∷ []))
  most_in measure (decl.Declaration.data_items own k is) = 0
  most_in measure (decl.Declaration.equate es) = 0
  most_in measure (decl.Declaration.intrinsic xs) = 0
  most_in measure (decl.Declaration.label xs) = 0
  most_in measure (decl.Declaration.forward h) = 0
  most_in measure (decl.Declaration.external h) = 0

  -- in those of declarations
  pub most_in_all : (Statements → ℕ) → Declarations → ℕ
  most_in_all measure decl.none = 0
  most_in_all measure (decl.and d ds) = max (most_in measure d) (most_in_all measure ds)

-- in all bodies of a unit
abbrev pub most_in_unit : (Statements → ℕ) → UnitTree → ℕ
most_in_unit measure u = max (most_in_all measure (declarations u.items)) (measure (statements u.statements))
