-- Whom a name calls in an expression: a procedure or a subroutine that may be called, or an intrinsic by its name, with a result of one word or of two.
use Rattle.std.specs.Prelude.{◌≡◌, ℕ, ◌==◌, ◌&&◌, not, Bool, true, false, List, Option, Some, None}
use Rattle.spl_names.specs.hp_word.declared.intrinsics.Intrinsic.{Intrinsic}
use Rattle.spl_names.specs.hp_word.declared.intrinsics.Intrinsic.TheVariants as gate
use Rattle.spl_names.specs.hp_word.Intrinsics.{answer_words}
use Rattle.spl_names.specs.spl_tree.declared.expressions.Kind.{Kind}
use Rattle.spl_names.specs.spl_tree.declared.expressions.Kind.TheVariants as kind
use Rattle.spl_names.specs.spl_meaning.Names as n
use Rattle.spl_names.specs.spl_meaning.Names.{Sort, Profile, intrinsic_named, intrinsic_profile}
use Rattle.spl_names.specs.spl_meaning.Pending.{result_words}
use Rattle.spl_names.specs.spl_meaning.References.{Setting}
use Rattle.spl_names.specs.spl_meaning.Values.{Who, procedure, subroutine}
use Rattle.spl_links.specs.spl_operators.Laws.{is_single}

-- ---- results

-- a result of one word, and one of two
abbrev pub is_word_result : Option Kind → Bool
is_word_result (Some t) = is_single t
is_word_result None = false

abbrev pub is_double_result : Option Kind → Bool
is_double_result (Some kind.Double) = true
is_double_result o = false

-- ---- intrinsics

-- the entry of the gate at which an intrinsic is served
abbrev pub entry_of : Intrinsic → ℕ
entry_of gate.Print = 1
entry_of gate.Read = 2
entry_of gate.Ascii = 3
entry_of gate.Dascii = 4
entry_of gate.Binary = 5
entry_of gate.Dbinary = 6
entry_of gate.Terminate = 7
entry_of gate.Quit = 8

-- the intrinsic of a name is this one
abbrev pub is_that : Intrinsic → Option Intrinsic → Bool
is_that i (Some j) = entry_of i == entry_of j
is_that i None = false

-- an intrinsic that is called by its name, in no split mode
abbrev pub is_gate : Setting → List ℕ → Intrinsic → Bool
is_gate st x i = not st.split && is_that i (intrinsic_named x)

-- ---- names

-- what a name stands for that is called: in no split mode a procedure that may be called or an intrinsic, in either mode a subroutine that may be called, with
-- a result of one word, and of two
abbrev pub is_word_call : (Who → Bool) → Setting → List ℕ → Option Sort → Bool
is_word_call may st x (Some (n.procedure p)) = (may (procedure x) && not st.split) && is_word_result p.result
is_word_call may st x (Some (n.subroutine p)) = may (subroutine x) && is_word_result p.result
is_word_call may st x (Some (n.intrinsic i)) = (answer_words i == 1) && is_gate st x i
is_word_call may st x sort = false

abbrev pub is_double_call : (Who → Bool) → Setting → List ℕ → Option Sort → Bool
is_double_call may st x (Some (n.procedure p)) = (may (procedure x) && not st.split) && is_double_result p.result
is_double_call may st x (Some (n.subroutine p)) = may (subroutine x) && is_double_result p.result
is_double_call may st x (Some (n.intrinsic i)) = (answer_words i == 2) && is_gate st x i
is_double_call may st x sort = false

-- a name that calls one of them, whose result has so many words
pub data IsCalled (may : Who → Bool) (st : Setting) (x : List ℕ) (o : Option Sort) (words : ℕ) : Type 0 where
  a_procedure : (p : Profile) → o ≡ Some (n.procedure p) → may (procedure x) ≡ true → st.split ≡ false → result_words p ≡ words → IsCalled may st x o words
  a_subroutine : (p : Profile) → o ≡ Some (n.subroutine p) → may (subroutine x) ≡ true → result_words p ≡ words → IsCalled may st x o words
  an_intrinsic : (i : Intrinsic) → o ≡ Some (n.intrinsic i) → intrinsic_named x ≡ Some i → st.split ≡ false → answer_words i ≡ words
      → IsCalled may st x o words

-- what it takes and gives
abbrev pub profile_called : {may : Who → Bool} {st : Setting} {x : List ℕ} {o : Option Sort} {words : ℕ} → IsCalled may st x o words → Profile
profile_called (a_procedure p is allowed whole wide) = p
profile_called (a_subroutine p is allowed wide) = p
profile_called (an_intrinsic i is named whole wide) = intrinsic_profile i
