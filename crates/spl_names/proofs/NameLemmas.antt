-- Constants and names, whatever is wanted of them.
use Rattle.std.proofs.Common.{◌≡◌, ◌⊎◌, inl, inr, ℕ, ℤ, ◌+◌, ◌-◌, ◌/◌, ◌%◌, ◌<◌, ◌≤◌, Bool, true, false, List, [], ◌∷◌, refl, sym, ap, subst, ◌∙◌, arith}
use Rattle.std.specs.Prelude.{is_some, Option, Some, None, nat_lt, if◌then◌else◌}
use Rattle.std.proofs.lemmas.Bool.{false≢true}
use Rattle.std.proofs.Math.Logic.{⊎_elim}
use Rattle.spl_statement_code.specs.hp_word.Words.{word_of}
use Rattle.spl_statement_code.proofs.hp_word_proofs.WordLaws.{word_of-below}
use Rattle.spl_statement_code.specs.spl_tree.declared.expressions.Kind.{Kind}
use Rattle.spl_statement_code.specs.spl_tree.declared.expressions.Kind.TheVariants as kind
use Rattle.spl_statement_code.specs.spl_tree.declared.names_and_places.At.{At}
use Rattle.spl_statement_code.specs.spl_tree.Trees as tree
use Rattle.spl_statement_code.specs.spl_meaning.Names as n
use Rattle.spl_statement_code.specs.spl_meaning.Names.{Sort}
use Rattle.spl_statement_code.specs.spl_meaning.Kinds.{named_operand}
use Rattle.spl_statement_code.specs.spl_meaning.Pending.{result_words}
use Rattle.spl_statement_code.specs.spl_meaning.Places.{Place}
use Rattle.spl_statement_code.specs.spl_meaning.References.{Here, Setting, Access, its_own, access_of, own_located, locate_by, read}
use Rattle.spl_statement_code.specs.spl_meaning.States.{State, Outcome, done, then_go}
use Rattle.spl_statement_code.specs.spl_meaning.Values.{Callee, Sense, a_constant, a_variable, sense_of, text_done, named_value, value, arguments}
use Rattle.spl_statement_code.specs.spl_code.Parts.{Part, pieces, nothing, ◌⨟◌}
use Rattle.spl_statement_code.specs.spl_code.Constants.{constant, text_constant}
use Rattle.spl_statement_code.specs.spl_code.Operands.{mode_of, load, loaded, at_place}
use Rattle.spl_statement_code.specs.spl_code.Calls.{Scope}
use Rattle.spl_statement_code.specs.spl_code.Code as made
use Rattle.spl_statement_code.specs.spl_code.Code.{Aim, as_value, closing, code}
use Rattle.spl_statement_code.specs.spl_code.Instructions.{LDI, LDNI, LSL, ORI}
use Rattle.spl_addresses.specs.spl_follow.Standing.{IsClosed, due_after}
use Rattle.spl_addresses.specs.spl_follow.Simulating.{Surroundings, Simulates}
use Rattle.spl_addresses.specs.spl_values.Reached.{IsWhole}
use Rattle.spl_addresses.proofs.spl_values_proofs.ConstantLemmas.{constants_give}
use Rattle.spl_addresses.proofs.spl_values_proofs.VariableLemmas.{both}
use Rattle.spl_addresses.proofs.spl_values_proofs.WholeLemmas.{whole_pieces, whole_first, same_simulates, first_simulates}
use Rattle.spl_tops.specs.spl_operators.Laws.{is_word_operand, is_single}
use Rattle.spl_tops.specs.Seen.{is_seen}
use Rattle.spl_addresses.proofs.spl_variables_proofs.OwnLemmas.{own_words_give}
use Rattle.spl_tops.proofs.spl_conditions_proofs.ConditionLemmas.{closed_values}
use Rattle.spl_word_operators.proofs.OperatorLemmas.{closing_whole}
use Rattle.spl_names.specs.Names.{read_with, is_covered_name}
use Rattle.spl_names.proofs.LedLemmas.{IsLed, led_case, single_word, single_width, led_code, led_whole, led_simulates}

-- ---- constants

-- a constant closes
constant_closed : (c : ℕ) → IsClosed (constant c)
constant_closed c = by (nat_lt c 256) (nat_lt 65280 c) where
  by : (x y : Bool)
      → due_after true (if x then LDI c ∷ [] else if y then LDNI (65536 - c) ∷ [] else LDI (c / 256) ∷ LSL 8 ∷ ORI (c % 256) ∷ []) ≡ false
  by true y = refl
  by false true = refl
  by false false = refl

-- its code is whole, and simulates it
pub constant_whole : (v : ℕ) (aim : Aim) → IsWhole (pieces (constant v) ⨟ closing aim)
constant_whole v aim = closing_whole (pieces (constant v)) aim (whole_pieces (constant v) (constant_closed v))

pub constant_simulates : (z : Surroundings) (d : ℕ) (aim : Aim) (k need v : ℕ) → v < 65536 → 1 ≤ need
    → Simulates z d aim 1 k need (pieces (constant v) ⨟ closing aim) (λ s. done (v ∷ []) s)
constant_simulates z d aim k need v small enough =
    closed_values z d k need aim (pieces (constant v)) (λ s. done (v ∷ []) s) (whole_pieces (constant v) (constant_closed v)) (constants_give z d k need v small enough)

-- a string that is a word
pub text_whole : (o : Option ℕ) (aim : Aim) → is_some o ≡ true → IsWhole (text_constant o ⨟ closing aim)
text_whole (Some w) aim e = constant_whole (w % 65536) aim
text_whole None aim e = absurd (false≢true e)

pub text_simulates : (z : Surroundings) (d : ℕ) (aim : Aim) (k need : ℕ) (o : Option ℕ) → is_some o ≡ true → 1 ≤ need
    → Simulates z d aim 1 k need (text_constant o ⨟ closing aim) (λ s. text_done o s)
text_simulates z d aim k need (Some w) e enough = constant_simulates z d aim k need (w % 65536) (omega arith) enough
text_simulates z d aim k need None e enough = absurd (false≢true e)

-- ---- names

-- what a covered name is: a constant that has a value, a variable of one word where it is seen, or one whose word leads to a word
pub record IsVariable (st : Setting) (x : List ℕ) (k : ℕ) (o : Option Sort) (pl : Option Place) : Type 0 where
  pub type : Kind
  pub place : Place
  pub sense : sense_of x o ≡ a_variable
  pub access : access_of o ≡ its_own type
  pub operand : is_word_operand (named_operand o) ≡ true
  pub is : pl ≡ Some place
  pub word : is_single type ≡ true
  pub seen : is_seen st k place ≡ true

pub record IsConstant (x : List ℕ) (o : Option Sort) : Type 0 where
  pub number : ℤ
  pub sense : sense_of x o ≡ a_constant (Some number)
  pub operand : is_word_operand (named_operand o) ≡ true

-- by what it stands for
pub name_cases : (st : Setting) (x : List ℕ) (k : ℕ) (o : Option Sort) (pl : Option Place) → is_covered_name st k o pl ≡ true
    → IsConstant x o ⊎ (IsVariable st x k o pl ⊎ IsLed st x k o pl)
name_cases st x k (Some (n.equate (Some v))) pl e = inl (record { number = v; sense = refl; operand = refl })
name_cases st x k (Some (n.simple t own)) (Some place) e =
    let two = both (is_single t) (is_seen st k place) e in
    inr (inl (record { type = t; place = place; sense = refl; access = refl; operand = single_word t two.0; is = refl; word = two.0; seen = two.1 }))
name_cases st x k (Some (n.value t)) (Some place) e =
    let two = both (is_single t) (is_seen st k place) e in
    inr (inl (record { type = t; place = place; sense = refl; access = refl; operand = single_word t two.0; is = refl; word = two.0; seen = two.1 }))
name_cases st x k (Some (n.simple t own)) None e = absurd (false≢true (both (is_single t) false e).1)
name_cases st x k (Some (n.value t)) None e = absurd (false≢true (both (is_single t) false e).1)
name_cases st x k None pl e = absurd (false≢true e)
name_cases st x k (Some (n.equate None)) pl e = absurd (false≢true e)
name_cases st x k (Some (n.array t own low high)) pl e = inr (inr (led_case st x k (Some (n.array t own low high)) pl e))
name_cases st x k (Some (n.view t own base)) pl e = inr (inr (led_case st x k (Some (n.view t own base)) pl e))
name_cases st x k (Some (n.pointer t own)) pl e = inr (inr (led_case st x k (Some (n.pointer t own)) pl e))
name_cases st x k (Some (n.by_reference t)) pl e = inr (inr (led_case st x k (Some (n.by_reference t)) pl e))
name_cases st x k (Some (n.array_parameter t)) pl e = inr (inr (led_case st x k (Some (n.array_parameter t)) pl e))
name_cases st x k (Some n.label) pl e = absurd (false≢true e)
name_cases st x k (Some (n.intrinsic i)) pl e = absurd (false≢true e)
name_cases st x k (Some (n.procedure p)) pl e = absurd (false≢true e)
name_cases st x k (Some (n.subroutine p)) pl e = absurd (false≢true e)
name_cases st x k (Some n.unknown) pl e = absurd (false≢true e)

-- the code of a constant's name
constant_code : (c : Scope) (x : List ℕ) (at : At) (aim : Aim) (k : ℕ) (r : IsConstant x (c.names x))
    → code c (tree.Tree.named x tree.Trees.none at) aim k ≡ pieces (constant (word_of r.number)) ⨟ closing aim
constant_code c x at aim k r =
    ap (λ (s : Sense). made.named c x s (λ p. made.arguments c p.formals tree.Trees.none (k + result_words p)) (nothing ⨟ pieces (at_place (c.places x) (λ place. loaded (access_of (c.names x)) false (mode_of k place)))) ⨟ closing aim)
    r.sense

-- and of a variable's
variable_code : (c : Scope) (st : Setting) (x : List ℕ) (at : At) (aim : Aim) (k : ℕ) (r : IsVariable st x k (c.names x) (c.places x))
    → code c (tree.Tree.named x tree.Trees.none at) aim k ≡ nothing ⨟ pieces (loaded (its_own r.type) false (mode_of k r.place)) ⨟ closing aim
variable_code c st x at aim k r =
    ap (λ (s : Sense). made.named c x s (λ p. made.arguments c p.formals tree.Trees.none (k + result_words p)) (nothing ⨟ pieces (at_place (c.places x) (λ place. loaded (access_of (c.names x)) false (mode_of k place)))) ⨟ closing aim)
    r.sense
    ∙ ap (λ (a : Access). nothing ⨟ pieces (at_place (c.places x) (λ place. loaded a false (mode_of k place))) ⨟ closing aim) r.access
    ∙ ap (λ (o : Option Place). nothing ⨟ pieces (at_place o (λ place. loaded (its_own r.type) false (mode_of k place))) ⨟ closing aim) r.is

-- a load closes
loaded_closed : (t : Kind) (k : ℕ) (place : Place) → is_single t ≡ true → IsClosed (loaded (its_own t) false (mode_of k place))
loaded_closed kind.Integer k place e = refl
loaded_closed kind.Logical k place e = refl
loaded_closed kind.Byte k place e = refl
loaded_closed kind.Double k place e = absurd (false≢true e)

-- and so does a variable's code, with nothing before it
variable_whole : (t : Kind) (k : ℕ) (place : Place) → is_single t ≡ true → IsWhole (nothing ⨟ pieces (loaded (its_own t) false (mode_of k place)))
variable_whole t k place word =
    whole_first (pieces (loaded (its_own t) false (mode_of k place))) (whole_pieces (loaded (its_own t) false (mode_of k place)) (loaded_closed t k place word))

-- a variable's one word is given
one_variable : (z : Surroundings) (d k need : ℕ) (t : Kind) (place : Place) → is_single t ≡ true → is_seen z.setting k place ≡ true → 1 ≤ need
    → Simulates z d as_value 1 k need (pieces (loaded (its_own t) false (mode_of k place))) (λ s. then_go (own_located t (Some place) None s) (λ p u. read p u))
one_variable z d k need t place single seen enough =
    let wide = single_width t single in
    subst (λ (j : ℕ). Simulates z d as_value j k need (pieces (loaded (its_own t) false (mode_of k place))) (λ s. then_go (own_located t (Some place) None s) (λ p u. read p u)))
    wide (own_words_give z d k need t place seen (omega (arith, wide, enough)))

-- a covered name's code is whole, whatever is wanted of it
pub name_whole : (c : Scope) (st : Setting) (x : List ℕ) (at : At) (aim : Aim) (k : ℕ) → is_covered_name st k (c.names x) (c.places x) ≡ true
    → IsWhole (code c (tree.Tree.named x tree.Trees.none at) aim k)
name_whole c st x at aim k e =
    ⊎_elim
    (λ r. subst (λ (a : Part). IsWhole a) (sym (constant_code c x at aim k r)) (constant_whole (word_of r.number) aim))
    (λ other. ⊎_elim
    (λ r. subst (λ (a : Part). IsWhole a) (sym (variable_code c st x at aim k r))
    (closing_whole (nothing ⨟ pieces (loaded (its_own r.type) false (mode_of k r.place))) aim (variable_whole r.type k r.place r.word)))
    (λ r. subst (λ (a : Part). IsWhole a) (sym (led_code c st x at aim k r))
    (closing_whole (nothing ⨟ pieces (load r.type true false (mode_of k r.place) ∷ [])) aim (led_whole r.type k r.place)))
    other)
    (name_cases st x k (c.names x) (c.places x) e)

-- and it simulates the name
pub name_simulates : (c : Scope) (results : List ℕ → Option (Kind × Place)) (z : Surroundings) (call : Callee) (d : ℕ) (x : List ℕ) (at : At) (aim : Aim)
    (k need : ℕ) → is_covered_name z.setting k (c.names x) (c.places x) ≡ true → 1 ≤ need
    → Simulates z d aim 1 k need (code c (tree.Tree.named x tree.Trees.none at) aim k)
    (λ s. value (read_with c results z.setting) call (tree.Tree.named x tree.Trees.none at) k s)
name_simulates c results z call d x at aim k need e enough =
    ⊎_elim
    (λ r. same_simulates z d aim 1 k need (code c (tree.Tree.named x tree.Trees.none at) aim k) (pieces (constant (word_of r.number)) ⨟ closing aim)
    (λ s. value h call (tree.Tree.named x tree.Trees.none at) k s) (λ s. done (word_of r.number ∷ []) s) (constant_code c x at aim k r)
    (λ s. ap (λ (t : Sense). valued t s) r.sense) (constant_simulates z d aim k need (word_of r.number) (word_of-below r.number) enough))
    (λ other. ⊎_elim
    (λ r. same_simulates z d aim 1 k need (code c (tree.Tree.named x tree.Trees.none at) aim k) (nothing ⨟ pieces (loaded (its_own r.type) false (mode_of k r.place)) ⨟ closing aim)
    (λ s. value h call (tree.Tree.named x tree.Trees.none at) k s) (λ s. then_go (own_located r.type (Some r.place) None s) (λ p t. read p t)) (variable_code c z.setting x at aim k r)
    (λ s. ap (λ (t : Sense). valued t s) r.sense ∙ ap (λ (a : Access). then_go (locate_by h x a None s) (λ p t. read p t)) r.access
    ∙ ap (λ (o : Option Place). then_go (own_located r.type o None s) (λ p t. read p t)) r.is)
    (closed_values z d k need aim (nothing ⨟ pieces (loaded (its_own r.type) false (mode_of k r.place)))
    (λ s. then_go (own_located r.type (Some r.place) None s) (λ p t. read p t)) (variable_whole r.type k r.place r.word)
    (first_simulates z d as_value 1 k need (pieces (loaded (its_own r.type) false (mode_of k r.place))) (λ s. then_go (own_located r.type (Some r.place) None s) (λ p t. read p t))
    (one_variable z d k need r.type r.place r.word r.seen enough))))
    (λ r. led_simulates c results z call d x at aim k need r enough) other)
    (name_cases z.setting x k (c.names x) (c.places x) e) where
      h : Here
      h = read_with c results z.setting

      valued : Sense → State → Outcome (List ℕ)
      valued t s =
          named_value h x t (λ s1. done None s1) (λ p s1. arguments h call p.formals tree.Trees.none (k + result_words p) s1) call k s
