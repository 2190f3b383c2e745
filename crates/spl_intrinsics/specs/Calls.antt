-- The code of a call of an intrinsic, and the laws of such calls as statements, over the code of their arguments.
use Rattle.std.specs.Prelude.{◌≡◌, ℕ, ◌+◌, ◌≤◌, true, false, List, Some}
use Rattle.spl_statement_code.specs.hp_word.declared.intrinsics.Intrinsic.{Intrinsic}
use Rattle.spl_statement_code.specs.hp_word.Intrinsics.{parameter_words, answer_words}
use Rattle.spl_statement_code.specs.spl_tree.declared.expressions.Kind.{Kind}
use Rattle.spl_statement_code.specs.spl_tree.declared.names_and_places.At.{At}
use Rattle.spl_statement_code.specs.spl_branch.declared.pieces.Piece.TheVariants.{Begin}
use Rattle.spl_statement_code.specs.spl_meaning.Names.{intrinsic_named, intrinsic_profile}
use Rattle.spl_statement_code.specs.spl_meaning.Operations.{kept}
use Rattle.spl_statement_code.specs.spl_meaning.Places.{Place}
use Rattle.spl_statement_code.specs.spl_meaning.References.{its_own, address_of, variable_located, store}
use Rattle.spl_statement_code.specs.spl_meaning.Serving.{served}
use Rattle.spl_statement_code.specs.spl_meaning.States.{State, Outcome, then_go, stopping}
use Rattle.spl_statement_code.specs.spl_meaning.Statements.{value_dropped}
use Rattle.spl_statement_code.specs.spl_code.Code.{as_value, calling}
use Rattle.spl_statement_code.specs.spl_code.Parts.{Part, pieces, piece, nothing, ◌⨟◌, call_wanted}
use Rattle.spl_statement_code.specs.spl_code.Stores.{stored}
use Rattle.spl_statement_code.specs.Statements.{result_dropped}
use Rattle.spl_endings.specs.spl_follow.Simulating.{Surroundings, Simulates, Performs}
use Rattle.spl_operands.specs.spl_values.Reached.{is_word_kind, is_reached, IsWhole}
use Rattle.spl_endings.specs.Gates.{GatesLead}
use Rattle.spl_intrinsics.specs.Laws.{is_answered}

-- a call by its name: room for its answer, its arguments, and the call of what is wanted
abbrev pub asked : Intrinsic → List ℕ → Part → Part
asked i x arguments = calling (intrinsic_profile i) arguments (call_wanted x true)

-- what such a call is given: its arguments' code, which makes the words of its parameters while those of its answer wait too
pub record IsAsked (z : Surroundings) (d k need : ℕ) (i : Intrinsic) (x : List ℕ) (a : Part) (words : State → Outcome (List ℕ)) : Type 0 where
  pub answered : is_answered i ≡ true
  pub gates : GatesLead z.sites z.wants
  pub named : intrinsic_named x ≡ Some i
  pub whole : z.setting.split ≡ false
  pub closed : IsWhole a
  pub more : ℕ
  pub enough : answer_words i + more ≤ need
  pub room : parameter_words i ≤ more
  pub simulates : Simulates z d as_value (parameter_words i) (k + answer_words i) more a words

-- A call by itself: its answer is deleted, and its condition code stays.
abbrev pub CallsPerform : Type 0
CallsPerform = (z : Surroundings) (d k need number : ℕ) (at : At) (i : Intrinsic) (x : List ℕ) (a : Part) (words : State → Outcome (List ℕ))
    → IsAsked z d k need i x a words
    → Performs z d k need (piece (Begin at) ⨟ (asked i x a ⨟ nothing ⨟ pieces (result_dropped (intrinsic_profile i).result)))
    (λ s. stopping number at s (λ u. value_dropped (then_go (words u) (λ ws t. served i ws t))))

-- A call whose answer of one word is stored in a variable of one word; the condition code of the call stays.
abbrev pub AnswersAssigned : Type 0
AnswersAssigned = (z : Surroundings) (d k need number : ℕ) (at : At) (i : Intrinsic) (x : List ℕ) (a : Part) (words : State → Outcome (List ℕ))
    (t : Kind) (place : Place) → IsAsked z d k need i x a words → answer_words i ≡ 1 → is_word_kind t ≡ true → is_reached z.setting k place ≡ true
    → Performs z d k need (piece (Begin at) ⨟ (nothing ⨟ (asked i x a ⨟ nothing) ⨟ pieces (stored (its_own t) false k place)))
    (λ s. stopping number at s (λ u. then_go (then_go (words u) (λ ws t. served i ws t))
    (λ vs v. store (variable_located t (address_of place v.now)) (kept t vs) v)))
