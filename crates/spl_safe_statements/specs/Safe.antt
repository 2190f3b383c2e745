-- What comes of parts of a run that is never lost, and of which parts of statements so much is asked.
use Rattle.std.specs.Prelude.{◌≡◌, ℕ, ◌+◌, ◌&&◌, Bool, true, false, List, length, is_some, None}
use Rattle.spl_meaning.specs.spl_tree.declared.expressions.Kind.TheVariants as kind
use Rattle.spl_meaning.specs.spl_tree.Trees as tree
use Rattle.spl_meaning.specs.spl_tree.Trees.{Tree, Trees}
use Rattle.spl_meaning.specs.spl_tree.StatementTrees as stat
use Rattle.spl_meaning.specs.spl_tree.StatementTrees.{Statement, Statements, Test}
use Rattle.spl_meaning.specs.Names.{Names}
use Rattle.spl_meaning.specs.References.{Here, Located, locate}
use Rattle.spl_meaning.specs.Values.{Callee, value}
use Rattle.spl_meaning.specs.Statements.{is_intrinsic, is_intrinsic_alone, target_keeps_code, assign, assigned, effect_done, value_dropped, call_statement}
use Rattle.spl_meaning.specs.StatementRules.{has_name}
use Rattle.spl_meaning.specs.States.{State, Exit, to_label, back, Outcome, done, leaves, spent, ends, strays}

-- ---- what comes of a part

-- a state that is not lost, and in which a condition code is known where that is asked
pub record Fine (known : Bool) (s : State) : Type 0 where
  pub found : s.lost ≡ false
  pub code : known ≡ true → is_some s.code ≡ true

-- An outcome that is not lost. Where it is done, its state is fine and so much is said of its value; and it leaves by such ways out alone.
abbrev pub Comes : {A : Type 0} → Bool → (A → Type 0) → (Exit → Type 0) → Outcome A → Type 0
Comes known P Q (done a s) = Fine known s × P a
Comes known P Q (leaves x s) = (s.lost ≡ false) × Q x
Comes known P Q (spent s) = s.lost ≡ false
Comes known P Q (ends e s) = s.lost ≡ false
Comes known P Q (strays s) = s.lost ≡ false

-- A part from whose fine states such outcomes come: whether a condition code is known before it, and behind it.
pub record Keeps {A : Type 0} (before after : Bool) (P : A → Type 0) (Q : Exit → Type 0) (f : State → Outcome A) : Type 0 where
  pub comes : (s : State) → Fine before s → Comes after P Q (f s)

-- ---- values and ways out

-- nothing is said of a value
abbrev pub Any : {A : Type 0} → A → Type 0
Any a = Unit {0}

-- a value of one word
abbrev pub IsWord : List ℕ → Type 0
IsWord vs = length vs ≡ 1

-- the location of a word that counts
abbrev pub IsCounter : Located → Type 0
IsCounter p = p.kind ≡ kind.Integer

-- no way out
abbrev pub NoWay : Exit → Type 0
NoWay x = ⊥

-- to these labels; and back, where that may be
abbrev pub Ways : Bool → List (List ℕ) → Exit → Type 0
Ways returns labels (to_label x) = has_name labels x ≡ true
Ways returns labels back = returns ≡ true

-- ---- the parts of statements

-- an expression of one word
abbrev pub WordIsSafe : Here → Callee → Tree → ℕ → Type 0
WordIsSafe h call e k = Keeps false false IsWord NoWay (λ s. value h call e k s)

-- what an IF tests
abbrev pub TestIsSafe : Here → Callee → Test → ℕ → Type 0
TestIsSafe h call (stat.Test.condition e) k = WordIsSafe h call e k
TestIsSafe h call (stat.Test.code op) k = Unit {0}

-- the step of a FOR, which may be left out
abbrev pub StepIsSafe : Here → Callee → Trees → ℕ → Type 0
StepIsSafe h call tree.Trees.none k = Unit {0}
StepIsSafe h call (tree.Trees.and e es) k = WordIsSafe h call e k

-- its variable
abbrev pub CounterIsSafe : Here → List ℕ → Type 0
CounterIsSafe h x = Keeps false false IsCounter NoWay (λ s. locate h x None s)

-- a statement without statements in it, behind which a condition code is known or not
abbrev pub IsSafe : Bool → (State → Outcome (Unit {0})) → Type 0
IsSafe sets f = Keeps false sets Any NoWay f

abbrev mutual
  -- The parts of a statement, while k words wait; `d` bounds what a MOVE or a SCAN passes by. Where rule 22 lets a test of the condition code follow, a code
  -- is known behind the statement.
  pub PartsAreSafe : Names → Here → Callee → ℕ → Statement → ℕ → Type 0
  PartsAreSafe names h call d stat.Statement.empty k = Unit {0}
  PartsAreSafe names h call d (stat.Statement.labelled x at s) k = PartsAreSafe names h call d s k
  PartsAreSafe names h call d (stat.Statement.block ss) k = AllPartsAreSafe names h call d ss k
  PartsAreSafe names h call d (stat.Statement.if_test q s ss at) k =
      TestIsSafe h call q k × (PartsAreSafe names h call d s k × AllPartsAreSafe names h call d ss k)
  PartsAreSafe names h call d (stat.Statement.while_true e s at) k = WordIsSafe h call e k × PartsAreSafe names h call d s k
  PartsAreSafe names h call d (stat.Statement.until_true s e at) k = WordIsSafe h call e k × PartsAreSafe names h call d s k
  PartsAreSafe names h call d (stat.Statement.for_values x first step last s at) k =
      (CounterIsSafe h x × (WordIsSafe h call first k × (StepIsSafe h call step (k + 1) × WordIsSafe h call last (k + 2))))
      × PartsAreSafe names h call d s (k + 3)
  PartsAreSafe names h call d (stat.Statement.case_of e ss at) k = WordIsSafe h call e k × AllPartsAreSafe names h call d ss k
  PartsAreSafe names h call d (stat.Statement.go_to x at) k = Unit {0}
  PartsAreSafe names h call d (stat.Statement.return at) k = Unit {0}
  PartsAreSafe names h call d (stat.Statement.assign to e at) k =
      IsSafe (is_intrinsic_alone names e && target_keeps_code names to) (λ s. assign h call to e k s)
  PartsAreSafe names h call d (stat.Statement.assign_effect to e at) k =
      IsSafe false (λ s. assigned h call to (λ j t. effect_done h call d true e j t) k s)
  PartsAreSafe names h call d (stat.Statement.do_effect e at) k = IsSafe false (λ s. value_dropped (effect_done h call d false e k s))
  PartsAreSafe names h call d (stat.Statement.call x es at) k = IsSafe (is_intrinsic (names x)) (λ s. call_statement h call x es at k s)

  -- those of the statements of a list
  pub AllPartsAreSafe : Names → Here → Callee → ℕ → Statements → ℕ → Type 0
  AllPartsAreSafe names h call d stat.Statements.none k = Unit {0}
  AllPartsAreSafe names h call d (stat.Statements.and s ss) k = PartsAreSafe names h call d s k × AllPartsAreSafe names h call d ss k
