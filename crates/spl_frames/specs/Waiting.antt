-- What waits: the depth of a body covers its calls and the uses of names in it.
use Rattle.std.specs.Prelude.{ℕ, ◌≡◌, ◌≤◌, ◌+◌, List, [], ◌∷◌}
use Rattle.spl_meaning.specs.spl_tree.Trees.{Tree}
use Rattle.spl_meaning.specs.spl_tree.StatementTrees.{Statement, Statements}
use Rattle.spl_meaning.specs.Names.{Names, Profile}
use Rattle.spl_meaning.specs.Pending.{formals_words, result_words, link_words, most, statement_most, statements_most}
use Rattle.spl_meaning.specs.Limits.{Use, uses, statement_uses, statements_uses}
use Rattle.spl_meaning.specs.References.{Here}
use Rattle.spl_meaning.specs.Values.{Who, Callee, a_call, sense_of, value}
use Rattle.spl_meaning.specs.Statements.{run, run_all, run_body}
use Rattle.spl_meaning.specs.States.{State}

-- Two callees do the same where the words that wait, the result, the parameters, and the marker or the return word are so many at most.
abbrev pub AgreeWithin : Names → ℕ → Callee → Callee → Type 0
AgreeWithin names most call other = (x : List ℕ) (who : Who) (p : Profile) → sense_of x (names x) ≡ a_call who p
    → (ws : List ℕ) (k : ℕ) (s : State) → k + (result_words p + formals_words p.formals + link_words (names x)) ≤ most
    → call who ws k s ≡ other who ws k s

-- A part calls nothing that reaches more words above the frame than wait before it and its depth says: callees that agree so far cannot
-- be told apart.
pub record DepthsCoverCalls : Type 0 where
  pub values : (h : Here) (call other : Callee) (e : Tree) (k : ℕ) → AgreeWithin h.names (k + most h.names e) call other
      → (s : State) → value h call e k s ≡ value h other e k s
  pub statements : (h : Here) (call other : Callee) (d i : ℕ) (st : Statement) (k : ℕ) → AgreeWithin h.names (k + statement_most h.names st) call other
      → (s : State) → run h call d i st k s ≡ run h other d i st k s
  pub lists : (h : Here) (call other : Callee) (d i : ℕ) (ss : Statements) (k : ℕ) → AgreeWithin h.names (k + statements_most h.names ss) call other
      → (s : State) → run_all h call d i ss k s ≡ run_all h other d i ss k s
  pub bodies : (h : Here) (call other : Callee) (d i : ℕ) (ss : Statements) → AgreeWithin h.names (statements_most h.names ss) call other
      → (s : State) → run_body h call d i ss s ≡ run_body h other d i ss s

-- at each of these uses so many words wait at most
abbrev pub WaitWithin : ℕ → List Use → Type 0
WaitWithin most [] = Unit {0}
WaitWithin most (u ∷ us) = (u.waiting ≤ most) × WaitWithin most us

-- no use of a name has more words waiting than wait before its part and the part's depth says
pub record DepthsCoverUses : Type 0 where
  pub values : (names : Names) (e : Tree) (k : ℕ) → WaitWithin (k + most names e) (uses names e k)
  pub statements : (names : Names) (st : Statement) (k : ℕ) → WaitWithin (k + statement_most names st) (statement_uses names st k)
  pub lists : (names : Names) (ss : Statements) (k : ℕ) → WaitWithin (k + statements_most names ss) (statements_uses names ss k)
