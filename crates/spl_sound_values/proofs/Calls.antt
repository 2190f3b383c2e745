-- Calls in expressions that break no rule, and their arguments.
-- 1. what the rules ask of a call     (call_sound)
-- 2. one argument                 (argument_covered)
use Rattle.std.proofs.Common.{◌≡◌, ℕ, ◌==◌, ◌&&◌, ◌||◌, not, Bool, true, false, if◌then◌else◌, List, [], ◌++◌, length, Option, Some, None, is_some, refl, sym, ap, ◌∙◌}
use Rattle.std.proofs.lemmas.Bool.{and_from, not_from_false, false_from_ne_true}
use Rattle.spl_near_places.specs.hp_word.declared.intrinsics.Intrinsic.{Intrinsic}
use Rattle.spl_near_places.specs.hp_word.declared.intrinsics.Intrinsic.TheVariants as gate
use Rattle.spl_near_places.specs.hp_word.Intrinsics.{answer_words}
use Rattle.spl_shapes.specs.spl_tree.declared.names_and_places.At.{At}
use Rattle.spl_shapes.specs.spl_tree.declared.expressions.Kind.{Kind}
use Rattle.spl_shapes.specs.spl_tree.declared.expressions.Kind.TheVariants as kind
use Rattle.spl_shapes.specs.spl_tree.Trees as tree
use Rattle.spl_shapes.specs.spl_tree.Trees.{Tree}
use Rattle.spl_near_places.specs.spl_meaning.Names as n
use Rattle.spl_near_places.specs.spl_meaning.Names.{Names, Sort, Formal, Profile, intrinsic_named, intrinsic_profile}
use Rattle.spl_near_places.specs.spl_meaning.Kinds.{result_of, named_operand, kind_of, reference_kind, variable_kind, is_double, is_unknown}
use Rattle.spl_near_places.specs.spl_meaning.Pending.{by_value}
use Rattle.spl_near_places.specs.spl_meaning.References.{Setting}
use Rattle.spl_near_places.specs.spl_meaning.Values.{Who}
use Rattle.spl_near_places.specs.spl_meaning.Faults.{Fault, unless}
use Rattle.spl_near_places.specs.spl_meaning.ExpressionRules as rule
use Rattle.spl_near_places.specs.spl_meaning.ExpressionRules.{rule_kind, fits, passes, value_fits, is_open_sort, is_open, is_label, is_label_name, is_subroutine, own_faults, argument_faults, place_in, call_faults}
use Rattle.spl_near_places.specs.spl_code.Calls.{Scope}
use Rattle.spl_covered.specs.spl_whom.Whom.{is_word_result, is_double_result, entry_of, is_that, is_gate}
use Rattle.spl_covered.specs.Covered.{is_passed, is_covered, is_wide, is_covered_reference}
use Rattle.spl_near_places.proofs.spl_sound_names_proofs.Tables.{left_none, right_none, unless_none, never}
use Rattle.spl_sound_values.proofs.Parts.{other, not_so}
use Rattle.spl_sound_values.proofs.Names.{single_kind}
use Rattle.spl_sound_values.proofs.Operands.{fits_wide}

-- ---- 1. whom a name calls

-- a result that there is has one word or two
pub result_known : (o : Option Kind) → is_some o ≡ true → is_unknown (result_of o) ≡ false
result_known (Some t) is = refl
result_known None is = never is

pub result_word : (o : Option Kind) → is_some o ≡ true → is_double (result_of o) ≡ false → is_word_result o ≡ true
result_word (Some t) is single = single_kind t single
result_word None is single = never is

pub result_wide : (o : Option Kind) → is_double (result_of o) ≡ true → is_double_result o ≡ true
result_wide (Some kind.Double) is = refl
result_wide (Some kind.Integer) is = never is
result_wide (Some kind.Logical) is = never is
result_wide (Some kind.Byte) is = never is
result_wide None is = never is

-- an intrinsic that has one answers as many words
pub answer_word : (i : Intrinsic) → is_some (intrinsic_profile i).result ≡ true → is_double (result_of (intrinsic_profile i).result) ≡ false → (answer_words i == 1) ≡ true
answer_word gate.Print is single = never is
answer_word gate.Read is single = refl
answer_word gate.Ascii is single = refl
answer_word gate.Dascii is single = refl
answer_word gate.Binary is single = refl
answer_word gate.Dbinary is single = never (sym single)
answer_word gate.Terminate is single = never is
answer_word gate.Quit is single = never is

pub answer_wide : (i : Intrinsic) → is_double (result_of (intrinsic_profile i).result) ≡ true → (answer_words i == 2) ≡ true
answer_wide gate.Print is = never is
answer_wide gate.Read is = never is
answer_wide gate.Ascii is = never is
answer_wide gate.Dascii is = never is
answer_wide gate.Binary is = never is
answer_wide gate.Dbinary is = refl
answer_wide gate.Terminate is = never is
answer_wide gate.Quit is = never is

-- it is that of its name
pub own_gate : (st : Setting) (x : List ℕ) (i : Intrinsic) → st.split ≡ false → intrinsic_named x ≡ Some i → is_gate st x i ≡ true
own_gate st x i unsplit named =
    and_from (not st.split) (is_that i (intrinsic_named x)) (not_from_false st.split unsplit)
    (ap (λ (o : Option Intrinsic). is_that i o) named ∙ same i)
  where
    same : (j : Intrinsic) → (entry_of j == entry_of j) ≡ true
    same gate.Print = refl
    same gate.Read = refl
    same gate.Ascii = refl
    same gate.Dascii = refl
    same gate.Binary = refl
    same gate.Dbinary = refl
    same gate.Terminate = refl
    same gate.Quit = refl

-- what the rules ask of a call
pub record CallSound (sc : rule.Scope) (s : Option Sort) (p : Profile) (given : ℕ) (wants : Bool) : Type 0 where
  pub many : (given == length p.formals) ≡ true
  pub result : wants ≡ true → is_some p.result ≡ true
  pub whole : is_subroutine s ≡ false → sc.split ≡ false

either_of : (b d : Bool) → (b || not d) ≡ true → d ≡ true → b ≡ true
either_of true d is wanted = refl
either_of false true is wanted = is
either_of false false is wanted = never wanted

first_of : (b d : Bool) → (b || d) ≡ true → d ≡ false → b ≡ true
first_of true d is none = refl
first_of false d is none = never (sym none ∙ is)

pub call_sound : (sc : rule.Scope) (s : Option Sort) (p : Profile) (given : ℕ) (wants : Bool) (at : At) → call_faults sc s p given wants at ≡ []
    → CallSound sc s p given wants
call_sound sc s p given wants at none =
    let many = unless (given == length p.formals) 8 at in
    let result = unless (is_some p.result || not wants) 11 at in
    let split = unless (not sc.split || is_subroutine s) 27 at in
    let front = left_none (many ++ result) split none in
    record {
      many = unless_none (given == length p.formals) 8 at (left_none many result front);
      result = either_of (is_some p.result) wants (unless_none (is_some p.result || not wants) 11 at (right_none many result front));
      whole = λ is. not_so sc.split (first_of (not sc.split) (is_subroutine s) (unless_none (not sc.split || is_subroutine s) 27 at (right_none (many ++ result) split none)) is);
    }

-- ---- 2. one argument

-- A value is covered: its kind is known, and it has one word or is a DOUBLE; and where it is a reference, so is its address.
pub record ValueCovered (may : Who → Bool) (c : Scope) (st : Setting) (e : Tree) (k : ℕ) : Type 0 where
  pub known : is_unknown (kind_of c.names e) ≡ false
  pub word : is_double (kind_of c.names e) ≡ false → is_covered may c st e k ≡ true
  pub wide : is_double (kind_of c.names e) ≡ true → is_wide may c st e k ≡ true
  pub reference : is_some (reference_kind c.names e) ≡ true → is_covered_reference may c st e k ≡ true

-- a reference that matches its parameter is no label, and known
sort_no_label : (t : Kind) (o : Option Sort) → (is_open_sort o || passes (Some t) (variable_kind o)) ≡ true → is_label o ≡ false
sort_no_label t (Some n.label) is = never is
sort_no_label t o is = refl

no_label : (names : Names) (t : Kind) (e : Tree) → (is_open names e || passes (Some t) (reference_kind names e)) ≡ true → is_label_name names e ≡ false
no_label names t (tree.Tree.named x es at) is = sort_no_label t (names x) is
no_label names t e is = refl

sort_open : (o : Option Sort) → is_open_sort o ≡ true → is_unknown (named_operand o) ≡ true
sort_open None is = refl
sort_open (Some n.unknown) is = refl
sort_open (Some (n.simple k own)) is = never is
sort_open (Some (n.array k own low high)) is = never is
sort_open (Some (n.view k own base)) is = never is
sort_open (Some (n.pointer k own)) is = never is
sort_open (Some (n.value k)) is = never is
sort_open (Some (n.by_reference k)) is = never is
sort_open (Some (n.array_parameter k)) is = never is
sort_open (Some (n.equate v)) is = never is
sort_open (Some n.label) is = never is
sort_open (Some (n.intrinsic i)) is = never is
sort_open (Some (n.procedure p)) is = never is
sort_open (Some (n.subroutine p)) is = never is

open_unknown : (names : Names) (e : Tree) → is_open names e ≡ true → is_unknown (kind_of names e) ≡ true
open_unknown names (tree.Tree.named x es at) is = sort_open (names x) is
open_unknown names (tree.Tree.number v) is = never is
open_unknown names (tree.Tree.wide v) is = never is
open_unknown names (tree.Tree.text bytes) is = never is
open_unknown names (tree.Tree.truth b) is = never is
open_unknown names (tree.Tree.address x es at) is = never is
open_unknown names (tree.Tree.unary op e at) is = never is
open_unknown names (tree.Tree.binary op a b at) is = never is
open_unknown names (tree.Tree.shift op e by at) is = never is
open_unknown names (tree.Tree.field e start size at) is = never is
open_unknown names (tree.Tree.transfer k e at) is = never is
open_unknown names (tree.Tree.bytes op a b size at) is = never is

closed : (names : Names) (e : Tree) → is_unknown (kind_of names e) ≡ false → is_open names e ≡ false
closed names e known = false_from_ne_true (is_open names e) (λ is. never (sym known ∙ open_unknown names e is))

passes_some : (t : Kind) (o : Option Kind) → passes (Some t) o ≡ true → is_some o ≡ true
passes_some t (Some k) is = refl
passes_some t None is = never is

-- an argument of a parameter that has a kind
pub argument_covered : (may : Who → Bool) (c : Scope) (st : Setting) (f : Formal) (e : Tree) (at : At) (k : ℕ) (fs : List Fault) → is_some f.kind ≡ true
    → own_faults c.names (Some f) e fs ≡ [] → argument_faults c.names (Some f) e at ≡ [] → (fs ≡ [] → rule_kind c.names e ≡ kind_of c.names e)
    → (fs ≡ [] → ValueCovered may c st e k)
    → is_passed (by_value f) f.kind (is_covered may c st e k) (is_wide may c st e k) (is_covered_reference may c st e k) ≡ true
argument_covered may c st f e at k fs some own fit same covered = by (by_value f) f.kind some own fit
  where
    single : fs ≡ [] → unless (not (is_double (rule_kind c.names e))) 9 (place_in at e) ≡ [] → is_double (kind_of c.names e) ≡ false
    single own fit =
        sym (ap is_double (same own))
        ∙ not_so (is_double (rule_kind c.names e)) (unless_none (not (is_double (rule_kind c.names e))) 9 (place_in at e) fit)

    by : (b : Bool) (o : Option Kind) → is_some o ≡ true → (if not b && is_label_name c.names e then [] else fs) ≡ []
        → (if b then unless (value_fits o (rule_kind c.names e)) 9 (place_in at e)
        else unless (is_open c.names e || passes o (reference_kind c.names e)) 10 (place_in at e)) ≡ []
        → is_passed b o (is_covered may c st e k) (is_wide may c st e k) (is_covered_reference may c st e k) ≡ true
    by b None some own fit = never some
    by true (Some kind.Double) some own fit =
        let v = covered own in v.wide (fits_wide (kind_of c.names e) v.known (sym (ap (λ o. fits kind.Double o) (same own)) ∙ unless_none (fits kind.Double (rule_kind c.names e)) 9 (place_in at e) fit))
    by true (Some kind.Integer) some own fit = (covered own).word (single own fit)
    by true (Some kind.Logical) some own fit = (covered own).word (single own fit)
    by true (Some kind.Byte) some own fit = (covered own).word (single own fit)
    by false (Some t) some own fit =
        let matches = unless_none (is_open c.names e || passes (Some t) (reference_kind c.names e)) 10 (place_in at e) fit in
        let v = covered (sym (ap (λ (b : Bool). if b then [] else fs) (no_label c.names t e matches)) ∙ own) in
        v.reference (passes_some t (reference_kind c.names e)
        (other (is_open c.names e) (passes (Some t) (reference_kind c.names e)) matches (closed c.names e v.known)))
