-- Whom a name calls, by what it stands for; and the kind of what it gives.
use Rattle.std.proofs.Common.{◌≡◌, ℕ, ◌≤◌, Bool, true, false, List, refl, sym, ap, subst, ◌∙◌, arith}
use Rattle.std.specs.Prelude.{Option, Some, None, ◌&&◌, ◌==◌, not}
use Rattle.std.proofs.lemmas.Bool.{false≢true, not-true, eqb-true}
use Rattle.spl_names.specs.hp_word.declared.intrinsics.Intrinsic.{Intrinsic}
use Rattle.spl_names.specs.hp_word.declared.intrinsics.Intrinsic.TheVariants as gate
use Rattle.spl_names.specs.hp_word.Intrinsics.{parameter_words, answer_words}
use Rattle.spl_links.specs.hp_call_rows.GateRows.{intrinsic}
use Rattle.spl_names.specs.spl_tree.declared.expressions.Kind.{Kind}
use Rattle.spl_names.specs.spl_tree.declared.expressions.Kind.TheVariants as kind
use Rattle.spl_names.specs.spl_meaning.Kinds.{of, named_operand, callable}
use Rattle.spl_names.specs.spl_meaning.Names as n
use Rattle.spl_names.specs.spl_meaning.Names.{Sort, Profile, intrinsic_named, intrinsic_profile}
use Rattle.spl_names.specs.spl_meaning.Pending.{result_words, formals_words}
use Rattle.spl_names.specs.spl_meaning.References.{Setting}
use Rattle.spl_names.specs.spl_meaning.Values.{Who, procedure, subroutine}
use Rattle.spl_links.proofs.spl_values_proofs.VariableLemmas.{both}
use Rattle.spl_links.specs.spl_operators.Laws.{is_word_operand}
use Rattle.spl_links.specs.spl_intrinsics.Laws.{is_answered}
use Rattle.spl_names.proofs.LedLemmas.{single_word, single_width}
use Rattle.spl_whom.specs.Whom.{is_word_result, is_double_result, entry_of, is_that, is_gate, is_word_call, is_double_call, IsCalled, a_procedure, a_subroutine, an_intrinsic, profile_called}

-- ---- which intrinsic

entry_served : (i : Intrinsic) → intrinsic (entry_of i) ≡ Some i
entry_served gate.Print = refl
entry_served gate.Read = refl
entry_served gate.Ascii = refl
entry_served gate.Dascii = refl
entry_served gate.Binary = refl
entry_served gate.Dbinary = refl
entry_served gate.Terminate = refl
entry_served gate.Quit = refl

-- a name that is this intrinsic's names it
that_is : (i : Intrinsic) (o : Option Intrinsic) → is_that i o ≡ true → o ≡ Some i
that_is i (Some j) e = sym (entry_served j) ∙ ap intrinsic (sym (eqb-true (entry_of i) (entry_of j) e)) ∙ entry_served i
that_is i None e = absurd (false≢true e)

-- in no split mode
pub gate_case : (st : Setting) (x : List ℕ) (i : Intrinsic) → is_gate st x i ≡ true → (st.split ≡ false) × (intrinsic_named x ≡ Some i)
gate_case st x i e =
    let two = both (not st.split) (is_that i (intrinsic_named x)) e in (not-true st.split two.0, that_is i (intrinsic_named x) two.1)

-- what an intrinsic takes and gives, in words
pub answer_wide : (i : Intrinsic) → result_words (intrinsic_profile i) ≡ answer_words i
answer_wide gate.Print = refl
answer_wide gate.Read = refl
answer_wide gate.Ascii = refl
answer_wide gate.Dascii = refl
answer_wide gate.Binary = refl
answer_wide gate.Dbinary = refl
answer_wide gate.Terminate = refl
answer_wide gate.Quit = refl

pub parameters_wide : (i : Intrinsic) → formals_words (intrinsic_profile i).formals ≡ parameter_words i
parameters_wide gate.Print = refl
parameters_wide gate.Read = refl
parameters_wide gate.Ascii = refl
parameters_wide gate.Dascii = refl
parameters_wide gate.Binary = refl
parameters_wide gate.Dbinary = refl
parameters_wide gate.Terminate = refl
parameters_wide gate.Quit = refl

-- what gives words answers, and takes some
pub giving_answers : (i : Intrinsic) → 1 ≤ answer_words i → (is_answered i ≡ true) × (1 ≤ parameter_words i)
giving_answers gate.Print some = absurd (omega (arith, some))
giving_answers gate.Read some = (refl, omega arith)
giving_answers gate.Ascii some = (refl, omega arith)
giving_answers gate.Dascii some = (refl, omega arith)
giving_answers gate.Binary some = (refl, omega arith)
giving_answers gate.Dbinary some = (refl, omega arith)
giving_answers gate.Terminate some = absurd (omega (arith, some))
giving_answers gate.Quit some = absurd (omega (arith, some))

-- ---- whom

-- a result of one word, and of two
word_width : (p : Profile) (o : Option Kind) → p.result ≡ o → is_word_result o ≡ true → result_words p ≡ 1
word_width p (Some t) is e = ap (λ (r : Option Kind). result_words (record p { result = r })) is ∙ single_width t e
word_width p None is e = absurd (false≢true e)

double_width : (p : Profile) (o : Option Kind) → p.result ≡ o → is_double_result o ≡ true → result_words p ≡ 2
double_width p (Some kind.Double) is e = ap (λ (r : Option Kind). result_words (record p { result = r })) is
double_width p (Some kind.Integer) is e = absurd (false≢true e)
double_width p (Some kind.Logical) is e = absurd (false≢true e)
double_width p (Some kind.Byte) is e = absurd (false≢true e)
double_width p None is e = absurd (false≢true e)

-- by what a name stands for
intrinsic_case : (may : Who → Bool) (st : Setting) (x : List ℕ) (i : Intrinsic) (words : ℕ) → ((answer_words i == words) && is_gate st x i) ≡ true
    → IsCalled may st x (Some (n.intrinsic i)) words
intrinsic_case may st x i words e =
    let two = both (answer_words i == words) (is_gate st x i) e in
    let here = gate_case st x i two.1 in an_intrinsic i refl here.1 here.0 (eqb-true (answer_words i) words two.0)

pub word_case : (may : Who → Bool) (st : Setting) (x : List ℕ) (o : Option Sort) → is_word_call may st x o ≡ true → IsCalled may st x o 1
word_case may st x (Some (n.procedure p)) e =
    let two = both (may (procedure x) && not st.split) (is_word_result p.result) e in
    let first = both (may (procedure x)) (not st.split) two.0 in
    a_procedure p refl first.0 (not-true st.split first.1) (word_width p p.result refl two.1)
word_case may st x (Some (n.intrinsic i)) e = intrinsic_case may st x i 1 e
word_case may st x None e = absurd (false≢true e)
word_case may st x (Some (n.equate v)) e = absurd (false≢true e)
word_case may st x (Some (n.simple t own)) e = absurd (false≢true e)
word_case may st x (Some (n.array t own low high)) e = absurd (false≢true e)
word_case may st x (Some (n.view t own base)) e = absurd (false≢true e)
word_case may st x (Some (n.pointer t own)) e = absurd (false≢true e)
word_case may st x (Some (n.value t)) e = absurd (false≢true e)
word_case may st x (Some (n.by_reference t)) e = absurd (false≢true e)
word_case may st x (Some (n.array_parameter t)) e = absurd (false≢true e)
word_case may st x (Some n.label) e = absurd (false≢true e)
word_case may st x (Some (n.subroutine p)) e =
    let two = both (may (subroutine x)) (is_word_result p.result) e in a_subroutine p refl two.0 (word_width p p.result refl two.1)
word_case may st x (Some n.unknown) e = absurd (false≢true e)

pub double_case : (may : Who → Bool) (st : Setting) (x : List ℕ) (o : Option Sort) → is_double_call may st x o ≡ true → IsCalled may st x o 2
double_case may st x (Some (n.procedure p)) e =
    let two = both (may (procedure x) && not st.split) (is_double_result p.result) e in
    let first = both (may (procedure x)) (not st.split) two.0 in
    a_procedure p refl first.0 (not-true st.split first.1) (double_width p p.result refl two.1)
double_case may st x (Some (n.intrinsic i)) e = intrinsic_case may st x i 2 e
double_case may st x None e = absurd (false≢true e)
double_case may st x (Some (n.equate v)) e = absurd (false≢true e)
double_case may st x (Some (n.simple t own)) e = absurd (false≢true e)
double_case may st x (Some (n.array t own low high)) e = absurd (false≢true e)
double_case may st x (Some (n.view t own base)) e = absurd (false≢true e)
double_case may st x (Some (n.pointer t own)) e = absurd (false≢true e)
double_case may st x (Some (n.value t)) e = absurd (false≢true e)
double_case may st x (Some (n.by_reference t)) e = absurd (false≢true e)
double_case may st x (Some (n.array_parameter t)) e = absurd (false≢true e)
double_case may st x (Some n.label) e = absurd (false≢true e)
double_case may st x (Some (n.subroutine p)) e =
    let two = both (may (subroutine x)) (is_double_result p.result) e in a_subroutine p refl two.0 (double_width p p.result refl two.1)
double_case may st x (Some n.unknown) e = absurd (false≢true e)

-- it takes and gives what the name does
pub called_is : (may : Who → Bool) (st : Setting) (x : List ℕ) (o : Option Sort) (words : ℕ) (r : IsCalled may st x o words) → callable o ≡ Some (profile_called r)
called_is may st x o words (a_procedure p is allowed whole wide) = ap callable is
called_is may st x o words (a_subroutine p is allowed wide) = ap callable is
called_is may st x o words (an_intrinsic i is named whole wide) = ap callable is

-- in so many words
pub called_wide : (may : Who → Bool) (st : Setting) (x : List ℕ) (o : Option Sort) (words : ℕ) (r : IsCalled may st x o words)
    → result_words (profile_called r) ≡ words
called_wide may st x o words (a_procedure p is allowed whole wide) = wide
called_wide may st x o words (a_subroutine p is allowed wide) = wide
called_wide may st x o words (an_intrinsic i is named whole wide) = answer_wide i ∙ wide

-- ---- the kind of a value: by its result

result_word : (o : Option Kind) → is_word_result o ≡ true → is_word_operand (named_operand (Some (n.procedure (record { result = o; formals = List.[]; split = false })))) ≡ true
result_word (Some t) e = single_word t e
result_word None e = absurd (false≢true e)

answer_word : (i : Intrinsic) → answer_words i ≡ 1 → is_word_operand (named_operand (Some (n.intrinsic i))) ≡ true
answer_word gate.Print e = absurd (omega (arith, e))
answer_word gate.Read e = refl
answer_word gate.Ascii e = refl
answer_word gate.Dascii e = refl
answer_word gate.Binary e = refl
answer_word gate.Dbinary e = absurd (omega (arith, e))
answer_word gate.Terminate e = absurd (omega (arith, e))
answer_word gate.Quit e = absurd (omega (arith, e))

pub call_word : (may : Who → Bool) (st : Setting) (x : List ℕ) (o : Option Sort) → is_word_call may st x o ≡ true → is_word_operand (named_operand o) ≡ true
call_word may st x o e = by (word_case may st x o e) where
  by : IsCalled may st x o 1 → is_word_operand (named_operand o) ≡ true
  by (a_procedure p is allowed whole wide) =
      let called' = subst (λ (s : Option Sort). is_word_call may st x s ≡ true) is e in
      subst (λ (s : Option Sort). is_word_operand (named_operand s) ≡ true) (sym is)
      (result_word p.result (both (may (procedure x) && not st.split) (is_word_result p.result) called').1)
  by (a_subroutine p is allowed wide) =
      let called' = subst (λ (s : Option Sort). is_word_call may st x s ≡ true) is e in
      subst (λ (s : Option Sort). is_word_operand (named_operand s) ≡ true) (sym is)
      (result_word p.result (both (may (subroutine x)) (is_word_result p.result) called').1)
  by (an_intrinsic i is named whole one) = subst (λ (s : Option Sort). is_word_operand (named_operand s) ≡ true) (sym is) (answer_word i one)

result_double : (o : Option Kind) → is_double_result o ≡ true → named_operand (Some (n.procedure (record { result = o; formals = List.[]; split = false }))) ≡ of kind.Double
result_double (Some kind.Double) e = refl
result_double (Some kind.Integer) e = absurd (false≢true e)
result_double (Some kind.Logical) e = absurd (false≢true e)
result_double (Some kind.Byte) e = absurd (false≢true e)
result_double None e = absurd (false≢true e)

answer_double : (i : Intrinsic) → answer_words i ≡ 2 → named_operand (Some (n.intrinsic i)) ≡ of kind.Double
answer_double gate.Print e = absurd (omega (arith, e))
answer_double gate.Read e = absurd (omega (arith, e))
answer_double gate.Ascii e = absurd (omega (arith, e))
answer_double gate.Dascii e = absurd (omega (arith, e))
answer_double gate.Binary e = absurd (omega (arith, e))
answer_double gate.Dbinary e = refl
answer_double gate.Terminate e = absurd (omega (arith, e))
answer_double gate.Quit e = absurd (omega (arith, e))

pub call_double : (may : Who → Bool) (st : Setting) (x : List ℕ) (o : Option Sort) → is_double_call may st x o ≡ true → named_operand o ≡ of kind.Double
call_double may st x o e = by (double_case may st x o e) where
  by : IsCalled may st x o 2 → named_operand o ≡ of kind.Double
  by (a_procedure p is allowed whole wide) =
      let called' = subst (λ (s : Option Sort). is_double_call may st x s ≡ true) is e in
      ap named_operand is ∙ result_double p.result (both (may (procedure x) && not st.split) (is_double_result p.result) called').1
  by (a_subroutine p is allowed wide) =
      let called' = subst (λ (s : Option Sort). is_double_call may st x s ≡ true) is e in
      ap named_operand is ∙ result_double p.result (both (may (subroutine x)) (is_double_result p.result) called').1
  by (an_intrinsic i is named whole two) = ap named_operand is ∙ answer_double i two
