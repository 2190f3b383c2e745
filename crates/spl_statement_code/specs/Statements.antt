-- The code of statements: one recursion on the tree, by how many words wait. Where a debugger may stop at a statement, its first word has a
-- start. A statement that does nothing of its own has one word, which deletes none.
use Rattle.std.specs.Prelude.{ℕ, ◌+◌, Bool, true, false, List, [], ◌∷◌, ◌++◌, Option, Some, None}
use Rattle.spl_code.specs.hp_instr.declared.instruction.Mode.{Mode}
use Rattle.spl_code.specs.hp_instr.declared.instruction.Mode.TheVariants.{SMinus}
use Rattle.spl_code.specs.spl_tree.declared.names_and_places.At.{At}
use Rattle.spl_code.specs.spl_tree.declared.expressions.Kind.{Kind}
use Rattle.spl_code.specs.spl_tree.declared.expressions.Kind.TheVariants as kind
use Rattle.spl_code.specs.spl_tree.Trees as tree
use Rattle.spl_code.specs.spl_tree.Trees.{Tree, Trees}
use Rattle.spl_code.specs.spl_tree.StatementTrees as stat
use Rattle.spl_code.specs.spl_tree.StatementTrees.{Statement, Statements, Test}
use Rattle.spl_code.specs.spl_meaning.Names.{Profile}
use Rattle.spl_code.specs.spl_meaning.Kinds.{callable}
use Rattle.spl_code.specs.spl_meaning.References.{Access, its_own, by_address, by_cell, its_result, nowhere, access_of}
use Rattle.spl_code.specs.spl_branch.declared.pieces.Piece.{Piece}
use Rattle.spl_code.specs.spl_branch.declared.pieces.Piece.TheVariants.{Begin, Mark}
use Rattle.spl_code.specs.Instructions.{LDI, LOAD, STOR, LRA, XCH, DEL, DDEL, BR}
use Rattle.spl_code.specs.Parts.{Part, pieces, piece, nothing, ◌⨟◌, with_fresh}
use Rattle.spl_code.specs.Operands.{at_place, mode_of}
use Rattle.spl_code.specs.Calls.{Scope}
use Rattle.spl_code.specs.Code.{code, as_value, as_test, related}
use Rattle.spl_code.specs.Stores.{from_top, cell_under, own_stored}
use Rattle.spl_statement_code.specs.Instructions.{TEST, LSUB, SUBS, TBA, MTBA}
use Rattle.spl_statement_code.specs.Landings.{Context, gone_to, landed, jump}
use Rattle.spl_statement_code.specs.Assignments.{assigned}
use Rattle.spl_statement_code.specs.Effects.{effect}

-- the word of a statement that does nothing of its own
abbrev pub idle : Part
idle = piece (SUBS 0)

-- ---- tests

-- a test leads to a mark where it is false: of a condition, or of the condition code by the number of a relation
abbrev pub tested : Scope → Test → ℕ → ℕ → Part
tested c (stat.Test.condition e) fail k = code c e (as_test fail) k
tested c (stat.Test.code op) fail k = related op fail

-- an IF without ELSE
abbrev pub chosen : (ℕ → Part) → Part → Part
chosen test then_part = with_fresh (λ fail. test fail ⨟ then_part ⨟ piece (Mark fail))

-- an IF with ELSE
abbrev pub chosen_or : (ℕ → Part) → Part → Part → Part
chosen_or test then_part other =
    with_fresh (λ fail. with_fresh (λ end.
    test fail ⨟ then_part ⨟ piece (BR end) ⨟ piece (Mark fail) ⨟ other ⨟ piece (Mark end)))

-- ---- loops

-- WHILE: the test stands before the body, to which the loop goes back
abbrev pub repeated_while : (ℕ → Part) → Part → Part
repeated_while test body =
    with_fresh (λ next. with_fresh (λ end.
    piece (Mark next) ⨟ test end ⨟ body ⨟ piece (BR next) ⨟ piece (Mark end)))

-- DO UNTIL: the test stands behind the body, and leads back where it is false
abbrev pub repeated_until : Part → (ℕ → Part) → Part
repeated_until body test = with_fresh (λ again. idle ⨟ piece (Mark again) ⨟ body ⨟ test again)

-- The first value of a FOR is stored, and the variable's address stays in its place. Of a variable with words of its own the address is taken
-- behind the store; that of a parameter by reference is read before it, and where the value has moved its word away it is brought below it.
abbrev pub counter_at : Access → Bool → Mode → List Piece
counter_at (its_own k) moved mode = own_stored k moved mode ++ LRA false false mode ∷ []
counter_at (by_address k) false mode = LOAD false false mode ∷ XCH ∷ STOR true false (SMinus 1) ∷ []
counter_at (by_address k) true mode = cell_under kind.Integer 1 mode ++ STOR true false (SMinus 1) ∷ []
counter_at (by_cell is_pointer k) moved mode = []
counter_at its_result moved mode = []
counter_at nowhere moved mode = []

-- of the variable that has a name
abbrev pub counter : Scope → List ℕ → ℕ → List Piece
counter c x k = at_place (c.places x) (λ place. counter_at (access_of (c.names x)) (from_top place) (mode_of k place))

-- the step, 1 where there is none
abbrev pub step_value : Scope → Trees → ℕ → Part
step_value c tree.Trees.none k = piece (LDI 1)
step_value c (tree.Trees.and e es) k = code c e as_value k

-- What stands before the turns of a FOR: the first value is stored, and address, step and limit stay.
abbrev pub counting : Scope → List ℕ → Tree → Trees → Tree → ℕ → Part
counting c x first step last k =
    code c first as_value k ⨟ pieces (counter c x k) ⨟ step_value c step (k + 1) ⨟ code c last as_value (k + 2)

-- The turns of a FOR, behind address, step and limit: a first test leads to the body or past it; behind the body the step is added, and the
-- test leads back.
abbrev pub turns : Part → Part
turns body =
    with_fresh (λ again. with_fresh (λ end.
    piece (TBA again) ⨟ piece (BR end) ⨟ piece (Mark again) ⨟ body ⨟ piece (MTBA again) ⨟ piece (Mark end)))

-- ---- CASE

-- An arm of a CASE, for the value 0: behind it the value is one less. The value waits on top where the arm is not taken.
abbrev pub arm : Part → ℕ → Part
arm body end =
    with_fresh (λ next.
    piece TEST ⨟ related 0 next ⨟ piece DEL ⨟ body ⨟ piece (BR end) ⨟ piece (Mark next) ⨟ piece (LDI 1) ⨟ piece LSUB)

-- A CASE: behind the arms, none of which was taken, the value is deleted.
abbrev pub chosen_among : Part → (ℕ → Part) → Part
chosen_among value arms = with_fresh (λ end. value ⨟ arms end ⨟ piece DEL ⨟ piece (Mark end))

-- ---- calls

-- a result is deleted
abbrev pub result_dropped : Option Kind → List Piece
result_dropped None = []
result_dropped (Some kind.Double) = DDEL ∷ []
result_dropped (Some _) = DEL ∷ []

-- the result of what a name stands for
abbrev pub result_of : Option Profile → Option Kind
result_of None = None
result_of (Some p) = p.result

-- a call by itself: its result is not used
abbrev pub call_dropped : Scope → List ℕ → Trees → At → ℕ → Part
call_dropped c x es at k = code c (tree.Tree.named x es at) as_value k ⨟ pieces (result_dropped (result_of (callable (c.names x))))

-- ---- statements

abbrev mutual
  -- a statement
  pub statement : Context → Statement → ℕ → Part
  statement c stat.Statement.empty k = idle
  statement c (stat.Statement.labelled x at s) k = landed (c.landings x) ⨟ idle ⨟ statement c s k
  statement c (stat.Statement.block ss) k = idle ⨟ listed c ss k
  statement c (stat.Statement.if_test q then_part stat.Statements.none at) k =
      piece (Begin at) ⨟ chosen (λ fail. tested c.scope q fail k) (statement c then_part k)
  statement c (stat.Statement.if_test q then_part (stat.Statements.and other ss) at) k =
      piece (Begin at) ⨟ chosen_or (λ fail. tested c.scope q fail k) (statement c then_part k) (statement c other k)
  statement c (stat.Statement.while_true e s at) k = repeated_while (λ end. code c.scope e (as_test end) k) (statement c s k)
  statement c (stat.Statement.until_true s e at) k = repeated_until (statement c s k) (λ again. code c.scope e (as_test again) k)
  statement c (stat.Statement.for_values x first step last s at) k =
      piece (Begin at) ⨟ counting c.scope x first step last k ⨟ turns (statement c s (k + 3))
  statement c (stat.Statement.case_of e ss at) k =
      piece (Begin at) ⨟ chosen_among (code c.scope e as_value k) (λ end. arms c ss k end)
  statement c (stat.Statement.go_to x at) k = piece (Begin at) ⨟ gone_to (c.landings x) k
  statement c (stat.Statement.return at) k = piece (Begin at) ⨟ jump k c.leave
  statement c (stat.Statement.assign to e at) k = piece (Begin at) ⨟ assigned c.scope to (λ j. code c.scope e as_value j) k
  statement c (stat.Statement.assign_effect to e at) k = piece (Begin at) ⨟ assigned c.scope to (λ j. effect c.scope true e j) k
  statement c (stat.Statement.do_effect e at) k = piece (Begin at) ⨟ effect c.scope false e k
  statement c (stat.Statement.call x es at) k = piece (Begin at) ⨟ call_dropped c.scope x es at k

  -- the statements of a list, one behind the other
  pub listed : Context → Statements → ℕ → Part
  listed c stat.Statements.none k = nothing
  listed c (stat.Statements.and s ss) k = statement c s k ⨟ listed c ss k

  -- the arms of a CASE, each of which leads to its end
  pub arms : Context → Statements → ℕ → ℕ → Part
  arms c stat.Statements.none k end = nothing
  arms c (stat.Statements.and s ss) k end = arm (statement c s k) end ⨟ arms c ss k end
