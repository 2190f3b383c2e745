-- How the code of expressions and statements begins, and that each statement in it whose names are found has a word that is run
-- right behind its beginning.
use Rattle.std.specs.Prelude.{◌≡◌, ℕ, Bool, true, List}
use Rattle.spl_statement_code.specs.spl_tree.Trees.{Tree}
use Rattle.spl_statement_code.specs.spl_tree.StatementTrees.{Statement, Statements}
use Rattle.spl_statement_code.specs.spl_code.Calls.{Scope}
use Rattle.spl_statement_code.specs.spl_code.Code.{as_value, as_test, code, reference}
use Rattle.spl_statement_code.specs.Landings.{Context}
use Rattle.spl_statement_code.specs.Statements.{statement, listed}
use Rattle.spl_beginnings.specs.Opens.{BeginsWell, Opens, MayOpen}
use Rattle.spl_beginnings.specs.Found.{Lands, has_value, is_found, are_found}

-- the code of a value begins with a word that is run, or is none
abbrev pub ValuesMayOpen : Type 0
ValuesMayOpen = (c : Scope) (e : Tree) (k : ℕ) → MayOpen (code c e as_value k)

-- and is not none where the value is found
abbrev pub FoundValuesOpen : Type 0
FoundValuesOpen = (c : Scope) (e : Tree) (k : ℕ) → has_value c e ≡ true → Opens (code c e as_value k)

-- a test always has a word
abbrev pub TestsOpen : Type 0
TestsOpen = (c : Scope) (e : Tree) (fail k : ℕ) → Opens (code c e (as_test fail) k)

-- the address of a reference
abbrev pub ReferencesMayOpen : Type 0
ReferencesMayOpen = (c : Scope) (e : Tree) (k : ℕ) → MayOpen (reference c e k)

abbrev pub StatementBeginsWell : Type 0
StatementBeginsWell = (c : Context) (labels : List ℕ → Bool) → Lands c labels → (s : Statement) → is_found c.scope labels s ≡ true → (k : ℕ)
    → BeginsWell (statement c s k)

abbrev pub StatementsBeginWell : Type 0
StatementsBeginWell = (c : Context) (labels : List ℕ → Bool) → Lands c labels → (ss : Statements) → are_found c.scope labels ss ≡ true → (k : ℕ)
    → BeginsWell (listed c ss k)
