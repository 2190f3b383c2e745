-- How many words values have: those of their kind.
use Rattle.std.specs.Prelude.{ℕ, ◌≡◌, List, length, Some}
use Rattle.spl_meaning.specs.Names.{Names, Formal, Profile, profile_of}
use Rattle.spl_meaning.specs.Kinds.{Operand, of, const, unknown, width, kind_of}
use Rattle.spl_meaning.specs.Pending.{formals_words, result_words}
use Rattle.spl_meaning.specs.Tables.{Subroutine, subroutine_named}
use Rattle.spl_meaning.specs.Bodies.{Body, Named, body_named}
use Rattle.spl_meaning.specs.Values.{Who, procedure, subroutine, Callee, a_call, sense_of, value, arguments}
use Rattle.spl_meaning.specs.References.{Here}
use Rattle.spl_meaning.specs.Runs.{calls}
use Rattle.spl_meaning.specs.States.{State, Outcome, done, leaves, spent, ends, strays}
use Rattle.spl_meaning.specs.spl_tree.Trees.{Tree, Trees}

-- so many words as an operand has; of one that is not known nothing is said
abbrev pub HasWordsOf : Operand → List ℕ → Type 0
HasWordsOf (of k) vs = length vs ≡ width k
HasWordsOf const vs = length vs ≡ 1
HasWordsOf unknown vs = Unit {0}

-- what is said of a value, where there is one
abbrev pub IsDone : {A : Type 0} → (A → Type 0) → Outcome A → Type 0
IsDone P (done a s) = P a
IsDone P (leaves x s) = Unit {0}
IsDone P (spent s) = Unit {0}
IsDone P (ends e s) = Unit {0}
IsDone P (strays s) = Unit {0}

-- Calls give as many words as the result has of the procedure or the subroutine that a name stands for.
abbrev pub CallsFit : Names → Callee → Type 0
CallsFit names call = (x : List ℕ) (who : Who) (p : Profile) → sense_of x (names x) ≡ a_call who p
    → (ws : List ℕ) (k : ℕ) (s : State) → IsDone (λ vs. length vs ≡ result_words p) (call who ws k s)

-- A value has the words of its kind, and arguments those of their parameters, where calls give the words of theirs; and a call gives those of
-- the body that it calls.
pub record ValuesHaveTheirWords : Type 0 where
  pub values : (h : Here) (call : Callee) → CallsFit h.names call → (e : Tree) (k : ℕ) (s : State)
      → IsDone (HasWordsOf (kind_of h.names e)) (value h call e k s)
  pub argument_lists : (h : Here) (call : Callee) → CallsFit h.names call → (fs : List Formal) (es : Trees) (k : ℕ) (s : State)
      → IsDone (λ ws. length ws ≡ formals_words fs) (arguments h call fs es k s)
  pub procedures : (procedures : List Named) (d : ℕ) (b c : Body) (x : List ℕ) (ws : List ℕ) (k : ℕ) (s : State)
      → body_named procedures x ≡ Some c → IsDone (λ vs. length vs ≡ result_words c.profile) (calls procedures d b (procedure x) ws k s)
  pub subroutines : (procedures : List Named) (d : ℕ) (b : Body) (z : Subroutine) (x : List ℕ) (ws : List ℕ) (k : ℕ) (s : State)
      → subroutine_named b.subroutines x ≡ Some z
      → IsDone (λ vs. length vs ≡ result_words (profile_of z.heading)) (calls procedures d b (subroutine x) ws k s)
