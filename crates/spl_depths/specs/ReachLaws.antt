-- What is found along a subroutine's heading and statement is the first of its limits.
use Rattle.std.specs.Prelude.{ℕ, ◌≡◌, ◌++◌, List, Option}
use Rattle.spl_tree.specs.StatementTrees.{Statement}
use Rattle.spl_tree.specs.DeclarationTrees.{Heading}
use Rattle.spl_sorts.specs.spl_meaning.Names.{Names, profile_of}
use Rattle.spl_sorts.specs.spl_meaning.Limits.{Full, first_among, joined, use_limits, statement_uses, heading_limits}
use Rattle.spl_depths.specs.Reach.{reach_of}
use Rattle.spl_depths.specs.Reached.{reached_statement}

-- the limits of a subroutine's heading, and of its statement with these names in it
abbrev pub body_limits : Heading → Names → Statement → List Full
body_limits h names s = heading_limits h ++ joined (use_limits h) (statement_uses names s 0)

-- along a statement
abbrev pub FirstUseIsFound : Type 0
FirstUseIsFound = (h : Heading) (names : Names) (s : Statement) (k : ℕ) (f : Option Full)
    → reached_statement names (reach_of h.name (profile_of h)) s k f ≡ first_among f (joined (use_limits h) (statement_uses names s k))
