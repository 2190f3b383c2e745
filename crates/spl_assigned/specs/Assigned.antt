-- Which assignments are proved; and the law of what an intrinsic answers, over its arguments and its target as parts.
use Rattle.std.specs.Prelude.{◌≡◌, ◌⊎◌, ℕ, ◌+◌, ◌≤◌, ◌&&◌, ◌||◌, Bool, true, false, List, [], ◌∷◌, Option, Some, None}
use Rattle.spl_wide.specs.hp_word.declared.intrinsics.Intrinsic.{Intrinsic}
use Rattle.spl_wide.specs.hp_word.Intrinsics.{answer_words}
use Rattle.spl_wide.specs.hp_instr.declared.instruction.Mode.{Mode}
use Rattle.spl_wide.specs.hp_session.State.{Machine}
use Rattle.spl_wide.specs.spl_tree.declared.expressions.Kind.{Kind}
use Rattle.spl_wide.specs.spl_tree.declared.names_and_places.At.{At}
use Rattle.spl_wide.specs.spl_tree.Trees.{Tree}
use Rattle.spl_wide.specs.spl_tree.StatementTrees.{Target}
use Rattle.spl_wide.specs.spl_branch.declared.pieces.Piece.{Piece}
use Rattle.spl_wide.specs.spl_branch.declared.pieces.Piece.TheVariants.{Begin}
use Rattle.spl_wide.specs.spl_meaning.Kinds.{width}
use Rattle.spl_wide.specs.spl_meaning.Operations.{kept}
use Rattle.spl_wide.specs.spl_meaning.Pending.{waiting}
use Rattle.spl_wide.specs.spl_meaning.Places.{Place, below_return}
use Rattle.spl_wide.specs.spl_meaning.References.{Setting, Located, own_located, led_located, store}
use Rattle.spl_wide.specs.spl_meaning.Serving.{served}
use Rattle.spl_wide.specs.spl_meaning.States.{State, Outcome, then_go, stopping}
use Rattle.spl_wide.specs.spl_meaning.Values.{Who}
use Rattle.spl_wide.specs.spl_code.Calls.{Scope}
use Rattle.spl_wide.specs.spl_code.Operands.{mode_of}
use Rattle.spl_wide.specs.spl_code.Parts.{Part, pieces, piece, nothing, ◌⨟◌}
use Rattle.spl_wide.specs.spl_code.Stores as code
use Rattle.spl_wide.specs.spl_code.Stores.{own_stored, cell_stored}
use Rattle.spl_wide.specs.spl_follow.Matching.{Matched}
use Rattle.spl_wide.specs.spl_follow.Simulating.{Surroundings, Performs}
use Rattle.spl_wide.specs.spl_operands.Operands.{Refers}
use Rattle.spl_wide.specs.spl_tops.Seen.{is_seen}
use Rattle.spl_wide.specs.spl_intrinsics.Calls.{asked, IsAsked}
use Rattle.spl_wide.specs.spl_covered.Covered.{is_covered, is_wide}
use Rattle.spl_wide.specs.spl_targets.Targets.{is_word_target}
use Rattle.spl_wide.specs.Wide.{is_wide_target}

-- What is covered is assigned to a target of as many words; the value is made while the index of that waits, where it has one.
abbrev pub is_covered_assignment : (Who → Bool) → Scope → (List ℕ → Option (Kind × Place)) → Setting → Target → Tree → ℕ → Bool
is_covered_assignment may c results st to e k =
    (is_word_target may c results st to k && is_covered may c st e (waiting to k))
    || (is_wide_target may c results st to k && is_wide may c st e (waiting to k))

-- ---- what puts n words from the top of the stack where a reference leads

-- a store of its kind
pub record PutsStraight (z : Surroundings) (k n : ℕ) (ps : List Piece) (located : State → Outcome Located) : Type 0 where
  pub type : Kind
  pub mode : Mode
  pub indirect : Bool
  pub is : ps ≡ code.store type indirect false mode ∷ []
  pub wide : width type ≡ n
  pub refers : (s : State) (m : Machine) → Matched z.setting s.now m (k + n) → s.now.top + (k + n) ≤ s.now.stack
      → Refers type mode indirect false s m (located s)

-- the store of a variable that is counted from the top: X takes its mode back over these words
pub record PutsBack (z : Surroundings) (k n : ℕ) (ps : List Piece) (located : State → Outcome Located) : Type 0 where
  pub type : Kind
  pub below : ℕ
  pub is : ps ≡ own_stored type true (mode_of k (below_return below))
  pub wide : width type ≡ n
  pub seen : is_seen z.setting k (below_return below) ≡ true
  pub leads : (s : State) → located s ≡ own_located type (Some (below_return below)) None s

-- the store through a word that is counted from the top: it is brought below these words, for which there is room
pub record PutsUnder (z : Surroundings) (k n need : ℕ) (ps : List Piece) (located : State → Outcome Located) : Type 0 where
  pub type : Kind
  pub below : ℕ
  pub far : Bool
  pub is : ps ≡ cell_stored type true (mode_of k (below_return below))
  pub wide : width type ≡ n
  pub seen : is_seen z.setting k (below_return below) ≡ true
  pub side : far ≡ z.setting.split
  pub room : n + 1 ≤ need
  pub leads : (s : State) → located s ≡ led_located far type (Some (below_return below)) 0 s

abbrev pub Puts : Surroundings → ℕ → ℕ → ℕ → List Piece → (State → Outcome Located) → Type 0
Puts z k n need ps located = PutsStraight z k n ps located ⊎ (PutsBack z k n ps located ⊎ PutsUnder z k n need ps located)

-- What an intrinsic answers, in one word or two, is put so; the condition code of the call stays.
abbrev pub AnswersPut : Type 0
AnswersPut = (z : Surroundings) (d k need number : ℕ) (at : At) (i : Intrinsic) (x : List ℕ) (a : Part) (words : State → Outcome (List ℕ))
    (ps : List Piece) (located : State → Outcome Located) → IsAsked z d k need i x a words → 1 ≤ answer_words i → Puts z k (answer_words i) need ps located
    → Performs z d k need (piece (Begin at) ⨟ (nothing ⨟ (asked i x a ⨟ nothing) ⨟ pieces ps))
    (λ s. stopping number at s (λ u. then_go (then_go (words u) (λ ws t. served i ws t))
    (λ vs v. then_go (located v) (λ p y. store p (kept p.kind vs) y))))
