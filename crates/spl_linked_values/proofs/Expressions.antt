-- Expressions that are covered call what is linked, along the tree.
use Rattle.std.proofs.Common.{◌≡◌, ◌⊎◌, inl, inr, ℕ, ◌+◌, ◌%◌, ◌==◌, ◌&&◌, ◌||◌, not, nat_lt, nat_le, ℤ, Bool, true, false, if◌then◌else◌, List, [], ◌∷◌, map, length, is_some, Option, Some, None, refl, sym, ap, subst, ◌∙◌}
use Rattle.std.proofs.lemmas.Bool.{and_parts, and_from, or_left, or_right, eqb-true}
use Rattle.spl_covered.specs.hp_word.Words.{word_of}
use Rattle.spl_covered.specs.hp_word.declared.intrinsics.Intrinsic.{Intrinsic}
use Rattle.spl_covered.specs.spl_tree.declared.expressions.Kind.{Kind}
use Rattle.spl_covered.specs.spl_tree.declared.expressions.Kind.TheVariants as kind
use Rattle.spl_covered.specs.spl_tree.Trees as tree
use Rattle.spl_covered.specs.spl_tree.Trees.{Tree, Trees}
use Rattle.spl_covered.specs.spl_meaning.Names as n
use Rattle.spl_covered.specs.spl_meaning.Names.{Names, Sort, Formal, Profile, intrinsic_profile, text_value, truth_word}
use Rattle.spl_covered.specs.spl_meaning.Kinds.{Class, kind_of, class_of, operand_width, is_connective, is_relation, compares_text, relation_number, or_operator, plus, minus, positive, negative, callable, is_byte, reference_kind, is_long_text}
use Rattle.spl_covered.specs.spl_meaning.Pending.{by_value, formal_words, result_words, profile_formals, profile_result_words}
use Rattle.spl_covered.specs.spl_meaning.References.{Setting, access_of}
use Rattle.spl_covered.specs.spl_meaning.Elements.{as_words}
use Rattle.spl_covered.specs.spl_meaning.Values.{Who, procedure, subroutine, sense_of, text_bytes, small_constant}
use Rattle.spl_covered.specs.spl_branch.declared.pieces.Piece.TheVariants.{Literal, Place as PlaceOf, Mark}
use Rattle.spl_covered.specs.spl_code.Instructions.{ZERO, LDNI, BR, LSL, CMPB, LOAD_BEFORE}
use Rattle.spl_covered.specs.spl_code.Parts.{Part, Wanted, pieces, ◌⨟◌, call_wanted}
use Rattle.spl_covered.specs.spl_code.Constants.{constant, double_constant, text_constant, number_constant, text_offset}
use Rattle.spl_covered.specs.spl_code.Operators.{operator, comparison, sign_operator, shift_operator, field_operator, transfer, as_parameter}
use Rattle.spl_covered.specs.spl_code.Operands.{leads_to_doubles, index_to_x}
use Rattle.spl_covered.specs.spl_code.Calls.{Scope, result_room, result_taken, procedure_called, subroutine_called}
use Rattle.spl_covered.specs.spl_code.Code.{Aim, as_value, as_test, code, reference, index, arguments, closing, condition, text_compared, variable, calling, named, is_indexed, connected, both_tested, either_tested, either_of, text_related, bytes_related, compared, operated}
use Rattle.spl_covered.specs.spl_values.Reached.{is_sum, is_word_class}
use Rattle.spl_covered.specs.spl_operators.Laws.{is_word_operand, is_single}
use Rattle.spl_covered.specs.spl_word_operators.Operators.{is_covered_operator, is_covered_sign}
use Rattle.spl_covered.specs.spl_byte_tests.Elements.{is_byte_element}
use Rattle.spl_covered.specs.spl_whom.Whom.{is_word_result, is_double_result, is_word_call, is_double_call}
use Rattle.spl_covered.specs.spl_names.Names.{is_led_element, is_covered_name, is_addressed_element, is_wide_name, is_wide_element, is_wide_led}
use Rattle.spl_covered.specs.Covered.{is_passed, is_spelled, is_covered, is_wide, is_covered_variable, is_wide_variable, is_covered_address, is_covered_reference, are_covered_arguments}
use Rattle.spl_linked_values.specs.Linked.{is_linked, linked_of, Tells}
use Rattle.spl_linked_values.specs.Laws.{CoveredValuesAreLinked}
use Rattle.spl_linked_values.proofs.PartLaws.{never, either, tell_pieces, tell_then, tell_behind, tell_before, tell_fresh, tell_as, tell_if, tell_want}

-- ---- constants and strings

tell_text : {t : Wanted → Bool} {P : Type 0} (o : Option ℕ) → P → Tells t P (text_constant o)
tell_text (Some w) p = tell_pieces (constant (w % 65536)) p
tell_text None p = tell_pieces [] p

tell_number : {t : Wanted → Bool} {P : Type 0} (o : Option ℤ) → P → Tells t P (number_constant o)
tell_number (Some v) p = tell_pieces (constant (word_of v)) p
tell_number None p = tell_pieces [] p

pub tell_offset : {t : Wanted → Bool} {P : Type 0} (bs : List ℕ) → P → Tells t P (text_offset bs)
tell_offset bs p = tell_fresh _ (λ over. tell_fresh _ (λ start.
    tell_behind (LOAD_BEFORE ∷ []) (tell_behind (Mark over ∷ []) (tell_behind (PlaceOf start ∷ []) (tell_behind (map Literal (as_words bs))
    (tell_behind (Mark start ∷ []) (tell_pieces (BR over ∷ []) p)))))))

tell_text_compared : {t : Wanted → Bool} {P : Type 0} (bs : List ℕ) → P → Tells t P (text_compared bs)
tell_text_compared bs p =
    tell_behind (CMPB 1 ∷ []) (tell_behind (constant (length bs % 65536)) (tell_behind (LSL 1 ∷ []) (tell_offset bs p)))

-- ---- tests

pub closed : {t : Wanted → Bool} {P : Type 0} {p : Part} (aim : Aim) → Tells t P p → Tells t P (p ⨟ closing aim)
closed as_value h = tell_behind [] h
closed (as_test fail) h = tell_behind _ h

tell_condition : {t : Wanted → Bool} {P : Type 0} (aim : Aim) (test : ℕ → Part) → ((f : ℕ) → Tells t P (test f)) → Tells t P (condition aim test)
tell_condition (as_test f) test h = h f
tell_condition as_value test h = tell_fresh _ (λ fail. tell_fresh _ (λ end.
    tell_behind (Mark end ∷ []) (tell_behind (ZERO ∷ []) (tell_behind (Mark fail ∷ []) (tell_behind (BR end ∷ []) (tell_behind (LDNI 1 ∷ []) (h fail)))))))

tell_operated : {t : Wanted → Bool} {P : Type 0} (op : ℕ) (cl : Class) (aim : Aim) (p : Part) → Tells t P p → Tells t P (operated op cl aim p)
tell_operated op cl aim p h =
    tell_if (is_relation op) (compared (relation_number op) cl aim p) (p ⨟ pieces (operator cl op) ⨟ closing aim)
    (λ _. tell_condition aim _ (λ fail. tell_behind _ (tell_behind (comparison cl) h))) (λ _. closed aim (tell_behind (operator cl op) h))

tell_text_related : {t : Wanted → Bool} {P : Type 0} (op : ℕ) (aim : Aim) (p : Part) (bs : List ℕ) → Tells t P p → Tells t P (text_related op aim p bs)
tell_text_related op aim p bs h =
    tell_condition aim _ (λ fail. tell_behind _ (tell_as (λ (both : _ × Unit {0}). both.0) (tell_then h (tell_text_compared {P = Unit {0}} bs tt))))

tell_bytes_related : {t : Wanted → Bool} {P : Type 0} (op : ℕ) (aim : Aim) (p : Part) → Tells t P p → Tells t P (bytes_related op aim p)
tell_bytes_related op aim p h = tell_condition aim _ (λ fail. tell_behind _ (tell_behind (CMPB 0 ∷ []) h))

tell_connected : {t : Wanted → Bool} {P Q : Type 0} (op : ℕ) (aim : Aim) (x y : Aim → Part) → ((f : ℕ) → Tells t P (x (as_test f))) → ((f : ℕ) → Tells t Q (y (as_test f)))
    → Tells t (P × Q) (connected op aim x y)
tell_connected {t} {P} {Q} op aim x y hx hy =
    tell_if (op == or_operator) (either_tested aim x y) (both_tested aim x y)
    (λ _. tell_condition aim (either_of x y) either_told) (λ _. tell_condition aim _ (λ fail. tell_then (hx fail) (hy fail)))
  where
    either_told : (fail : ℕ) → Tells t (P × Q) (either_of x y fail)
    either_told fail = tell_fresh _ (λ next. tell_fresh _ (λ over.
        tell_behind (Mark over ∷ []) (tell_then (tell_behind (Mark next ∷ []) (tell_behind (BR over ∷ []) (hx next))) (hy fail))))

-- ---- arguments

tell_passed : {t : Wanted → Bool} (b : Bool) (o : Option Kind) (w d r w' d' r' : Bool) (v a : Part) → is_passed b o w d r ≡ true
    → (w ≡ true → Tells t (w' ≡ true) v) → (d ≡ true → Tells t (d' ≡ true) v) → (r ≡ true → Tells t (r' ≡ true) a)
    → Tells t (is_passed b o w' d' r' ≡ true) (if b then v ⨟ pieces (as_parameter o) else a)
tell_passed true (Some kind.Double) w d r w' d' r' v a e word double refers = tell_behind _ (double e)
tell_passed true (Some kind.Integer) w d r w' d' r' v a e word double refers = tell_behind _ (word e)
tell_passed true (Some kind.Logical) w d r w' d' r' v a e word double refers = tell_behind _ (word e)
tell_passed true (Some kind.Byte) w d r w' d' r' v a e word double refers = tell_behind _ (word e)
tell_passed true None w d r w' d' r' v a e word double refers = never e
tell_passed false o w d r w' d' r' v a e word double refers = refers e

-- a sum compares no bytes
sum_is_apart : (names : Names) (op : ℕ) (a b : Tree) → is_sum op ≡ true → compares_text names op a b ≡ false
sum_is_apart names op a b e = by (either (op == plus) (op == minus) e)
  where
    apart : (o : ℕ) → is_relation o ≡ false → op ≡ o → compares_text names op a b ≡ false
    apart o none is =
        ap (λ (m : ℕ). is_relation m && is_byte (reference_kind names a) && is_long_text b) is
        ∙ ap (λ (c : Bool). c && is_byte (reference_kind names a) && is_long_text b) none

    by : ((op == plus) ≡ true) ⊎ ((op == minus) ≡ true) → compares_text names op a b ≡ false
    by (inl is) = apart plus refl (eqb-true op plus is)
    by (inr is) = apart minus refl (eqb-true op minus is)

-- ---- whom names call

module _ (t : Wanted → Bool) (may : Who → Bool) (c : Scope) (st : Setting) where
  abbrev less : Who → Bool
  less = linked_of t c may

  -- a procedure that is wanted is linked
  pub tell_procedure : (x : List ℕ) → Tells t (is_linked t c (procedure x) ≡ true) (procedure_called x (c.procedures x))
  tell_procedure x = by (c.procedures x)
    where
      by : (o : Option ℕ) → Tells t ((is_some o || t (record { name = x; gate = false })) ≡ true) (procedure_called x o)
      by (Some entry) = tell_pieces _ refl
      by None = tell_want t x false

  pub tell_subroutine : {P : Type 0} (o : Option ℕ) → P → Tells t P (subroutine_called o)
  tell_subroutine (Some entry) p = tell_pieces _ p
  tell_subroutine None p = tell_pieces [] p

  pub tell_calling : {P Q : Type 0} (p : Profile) (args call : Part) → Tells t P args → Tells t Q call → Tells t (P × Q) (calling p args call)
  tell_calling p args call a b = tell_behind (result_taken p.result) (tell_then (tell_before (result_room p.result) a) b)

  -- the call of an intrinsic
  pub tell_asked : {P : Type 0} (x : List ℕ) (i : Intrinsic) (args : Part) → Tells t P args → Tells t P (calling (intrinsic_profile i) args (call_wanted x true))
  tell_asked {P} x i args a =
      tell_as (λ (both : P × (t (record { name = x; gate = true }) ≡ true)). both.0) (tell_calling (intrinsic_profile i) args (call_wanted x true) a (tell_want t x true))

  -- one that may be called, and is linked
  pub both_less : (x : List ℕ) (b d : Bool) → (may (procedure x) && b && d) ≡ true → is_linked t c (procedure x) ≡ true → (less (procedure x) && b && d) ≡ true
  both_less x b d e linked =
      let two = and_parts (may (procedure x) && b) d e in
      let one = and_parts (may (procedure x)) b two.0 in
      and_from (less (procedure x) && b) d (and_from (less (procedure x)) b (and_from (may (procedure x)) (is_linked t c (procedure x)) one.0 linked) one.1) two.1

  pub inner_less : (x : List ℕ) (d : Bool) → (may (subroutine x) && d) ≡ true → (less (subroutine x) && d) ≡ true
  inner_less x d e = let two = and_parts (may (subroutine x)) d e in and_from (less (subroutine x)) d (and_from (may (subroutine x)) true two.0 refl) two.1

  -- a test of whom a name calls, which asks of a procedure that it may be called
  record Calls (asked : (Who → Bool) → Option Sort → Bool) (x : List ℕ) : Type 0 where
    procedures : (p : Profile) → asked may (Some (n.procedure p)) ≡ true → is_linked t c (procedure x) ≡ true → asked less (Some (n.procedure p)) ≡ true
    subroutines : (p : Profile) → asked may (Some (n.subroutine p)) ≡ true → asked less (Some (n.subroutine p)) ≡ true
    intrinsics : (i : _) → asked may (Some (n.intrinsic i)) ≡ true → asked less (Some (n.intrinsic i)) ≡ true

  word_calls : (x : List ℕ) → Calls (λ m o. is_word_call m st x o) x
  word_calls x = record {
    procedures = λ p e linked. both_less x (not st.split) (is_word_result p.result) e linked;
    subroutines = λ p e. inner_less x (is_word_result p.result) e;
    intrinsics = λ i e. e;
  }

  double_calls : (x : List ℕ) → Calls (λ m o. is_double_call m st x o) x
  double_calls x = record {
    procedures = λ p e linked. both_less x (not st.split) (is_double_result p.result) e linked;
    subroutines = λ p e. inner_less x (is_double_result p.result) e;
    intrinsics = λ i e. e;
  }

  -- the arguments of a call of what a name stands for
  abbrev asked_of : (Who → Bool) → Option Sort → Trees → ℕ → Bool
  asked_of m o es k = are_covered_arguments m c st (profile_formals (callable o)) es (k + profile_result_words (callable o))

  -- A name: a constant or a variable, of which one test is asked, which is no test of what is called; or a call.
  tell_named : (asked : (Who → Bool) → Option Sort → Bool) (x : List ℕ) (o : Option Sort) (es : Trees) (k : ℕ) (v v' : Bool) (at : Part) → Calls asked x
      → ((p : Profile) → are_covered_arguments may c st p.formals es (k + result_words p) ≡ true
      → Tells t (are_covered_arguments less c st p.formals es (k + result_words p) ≡ true) (arguments c p.formals es (k + result_words p)))
      → ((p : Profile) → callable o ≡ Some p → v ≡ false) → ((z : Option ℤ) → o ≡ Some (n.equate z) → v ≡ true → v' ≡ true)
      → ((m : Who → Bool) → callable o ≡ None → asked m o ≡ false)
      → (v ≡ true → Tells t (v' ≡ true) at) → (v || (asked may o && asked_of may o es k)) ≡ true
      → Tells t ((v' || (asked less o && asked_of less o es k)) ≡ true) (named c x (sense_of x o) (λ p. arguments c p.formals es (k + result_words p)) at)
  tell_named asked x o es k v v' at calls args apart constants none there e = by o refl
    where
      -- it is a call
      is_call : (p : Profile) → callable o ≡ Some p → (asked may o ≡ true) × (asked_of may o es k ≡ true)
      is_call p is = and_parts (asked may o) (asked_of may o es k) (only v (apart p is) e)
        where
          only : (b : Bool) → b ≡ false → (b || (asked may o && asked_of may o es k)) ≡ true → (asked may o && asked_of may o es k) ≡ true
          only true b e' = never (sym b)
          only false b e' = e'

      -- it is none
      is_name : callable o ≡ None → v ≡ true
      is_name is = only v (none may is) e
        where
          only : (b : Bool) → asked may o ≡ false → (b || (asked may o && asked_of may o es k)) ≡ true → b ≡ true
          only true n' e' = refl
          only false n' e' = never (sym n' ∙ (and_parts (asked may o) (asked_of may o es k) e').0)

      all_less : (w : Bool) → w ≡ true → (w || (asked less o && asked_of less o es k)) ≡ true
      all_less w is = or_left w (asked less o && asked_of less o es k) is

      call_less : asked less o ≡ true → asked_of less o es k ≡ true → (v' || (asked less o && asked_of less o es k)) ≡ true
      call_less w a = or_right v' (asked less o && asked_of less o es k) (and_from (asked less o) (asked_of less o es k) w a)

      variable_told : (q : Option Sort) → o ≡ q → callable q ≡ None → Tells t ((v' || (asked less q && asked_of less q es k)) ≡ true) at
      variable_told q is free =
          tell_as (λ w. or_left v' (asked less q && asked_of less q es k) w) (there (is_name (ap (λ (r : Option Sort). callable r) is ∙ free)))

      by : (q : Option Sort) → o ≡ q
          → Tells t ((v' || (asked less q && asked_of less q es k)) ≡ true) (named c x (sense_of x q) (λ p. arguments c p.formals es (k + result_words p)) at)
      by None is = variable_told None is refl
      by (Some (n.equate z)) is =
          tell_number z (or_left v' (asked less (Some (n.equate z)) && asked_of less (Some (n.equate z)) es k)
          (constants z is (is_name (ap (λ (r : Option Sort). callable r) is))))
      by (Some (n.intrinsic i)) is =
          let p = intrinsic_profile i in
          let both = is_call p (ap (λ (r : Option Sort). callable r) is) in
          let whole = subst (λ (q : Option Sort). (asked may q ≡ true) × (asked_of may q es k ≡ true)) is both in
          tell_as (λ (told : (are_covered_arguments less c st p.formals es (k + result_words p) ≡ true) × (t (record { name = x; gate = true }) ≡ true)).
          or_right v' (asked less (Some (n.intrinsic i)) && asked_of less (Some (n.intrinsic i)) es k)
          (and_from (asked less (Some (n.intrinsic i))) (asked_of less (Some (n.intrinsic i)) es k) (calls.intrinsics i whole.0) told.0))
          (tell_calling p _ _ (args p whole.1) (tell_want t x true))
      by (Some (n.procedure p)) is =
          let both = is_call p (ap (λ (r : Option Sort). callable r) is) in
          let whole = subst (λ (q : Option Sort). (asked may q ≡ true) × (asked_of may q es k ≡ true)) is both in
          tell_as (λ (told : (are_covered_arguments less c st p.formals es (k + result_words p) ≡ true) × (is_linked t c (procedure x) ≡ true)).
          or_right v' (asked less (Some (n.procedure p)) && asked_of less (Some (n.procedure p)) es k)
          (and_from (asked less (Some (n.procedure p))) (asked_of less (Some (n.procedure p)) es k) (calls.procedures p whole.0 told.1) told.0))
          (tell_calling p _ _ (args p whole.1) (tell_procedure x))
      by (Some (n.subroutine p)) is =
          let both = is_call p (ap (λ (r : Option Sort). callable r) is) in
          let whole = subst (λ (q : Option Sort). (asked may q ≡ true) × (asked_of may q es k ≡ true)) is both in
          tell_as (λ (told : (are_covered_arguments less c st p.formals es (k + result_words p) ≡ true) × Unit {0}).
          or_right v' (asked less (Some (n.subroutine p)) && asked_of less (Some (n.subroutine p)) es k)
          (and_from (asked less (Some (n.subroutine p))) (asked_of less (Some (n.subroutine p)) es k) (calls.subroutines p whole.0) told.0))
          (tell_calling p _ _ (args p whole.1) (tell_subroutine (c.subroutines x) tt))
      by (Some (n.simple w own)) is = variable_told (Some (n.simple w own)) is refl
      by (Some (n.array w own low high)) is = variable_told (Some (n.array w own low high)) is refl
      by (Some (n.view w own base)) is = variable_told (Some (n.view w own base)) is refl
      by (Some (n.pointer w own)) is = variable_told (Some (n.pointer w own)) is refl
      by (Some (n.value w)) is = variable_told (Some (n.value w)) is refl
      by (Some (n.by_reference w)) is = variable_told (Some (n.by_reference w)) is refl
      by (Some (n.array_parameter w)) is = variable_told (Some (n.array_parameter w)) is refl
      by (Some n.label) is = variable_told (Some n.label) is refl
      by (Some n.unknown) is = variable_told (Some n.unknown) is refl

  -- what calls is no variable
  no_variable : (x : List ℕ) (es : Trees) (k : ℕ) (p : Profile) → callable (c.names x) ≡ Some p → is_covered_variable may c st x es k ≡ false
  no_variable x tree.Trees.none k p is = by (c.names x) is
    where
      by : (o : Option Sort) → callable o ≡ Some p → is_covered_name st k o (c.places x) ≡ false
      by (Some (n.procedure q)) e = refl
      by (Some (n.subroutine q)) e = refl
      by (Some (n.intrinsic i)) e = refl
      by None e = cc
      by (Some (n.equate z)) e = cc
      by (Some (n.simple w own)) e = cc
      by (Some (n.array w own low high)) e = cc
      by (Some (n.view w own base)) e = cc
      by (Some (n.pointer w own)) e = cc
      by (Some (n.value w)) e = cc
      by (Some (n.by_reference w)) e = cc
      by (Some (n.array_parameter w)) e = cc
      by (Some n.label) e = cc
      by (Some n.unknown) e = cc
  no_variable x (tree.Trees.and e tree.Trees.none) k p is = by (c.names x) is
    where
      by : (o : Option Sort) → callable o ≡ Some p → (is_led_element st k (access_of o) (c.places x) && is_covered may c st e k) ≡ false
      by (Some (n.procedure q)) e = refl
      by (Some (n.subroutine q)) e = refl
      by (Some (n.intrinsic i)) e = refl
      by None e = cc
      by (Some (n.equate z)) e = cc
      by (Some (n.simple w own)) e = cc
      by (Some (n.array w own low high)) e = cc
      by (Some (n.view w own base)) e = cc
      by (Some (n.pointer w own)) e = cc
      by (Some (n.value w)) e = cc
      by (Some (n.by_reference w)) e = cc
      by (Some (n.array_parameter w)) e = cc
      by (Some n.label) e = cc
      by (Some n.unknown) e = cc
  no_variable x (tree.Trees.and e (tree.Trees.and f fs)) k p is = refl

  no_wide : (x : List ℕ) (es : Trees) (k : ℕ) (p : Profile) → callable (c.names x) ≡ Some p → is_wide_variable may c st x es k ≡ false
  no_wide x tree.Trees.none k p is = by (c.names x) is
    where
      by : (o : Option Sort) → callable o ≡ Some p → (is_wide_name st k o (c.places x) || is_wide_led st k (access_of o) (c.places x)) ≡ false
      by (Some (n.procedure q)) e = refl
      by (Some (n.subroutine q)) e = refl
      by (Some (n.intrinsic i)) e = refl
      by None e = cc
      by (Some (n.equate z)) e = cc
      by (Some (n.simple w own)) e = cc
      by (Some (n.array w own low high)) e = cc
      by (Some (n.view w own base)) e = cc
      by (Some (n.pointer w own)) e = cc
      by (Some (n.value w)) e = cc
      by (Some (n.by_reference w)) e = cc
      by (Some (n.array_parameter w)) e = cc
      by (Some n.label) e = cc
      by (Some n.unknown) e = cc
  no_wide x (tree.Trees.and e tree.Trees.none) k p is = by (c.names x) is
    where
      by : (o : Option Sort) → callable o ≡ Some p → (is_wide_element st k (access_of o) (c.places x) && is_covered may c st e k) ≡ false
      by (Some (n.procedure q)) e = refl
      by (Some (n.subroutine q)) e = refl
      by (Some (n.intrinsic i)) e = refl
      by None e = cc
      by (Some (n.equate z)) e = cc
      by (Some (n.simple w own)) e = cc
      by (Some (n.array w own low high)) e = cc
      by (Some (n.view w own base)) e = cc
      by (Some (n.pointer w own)) e = cc
      by (Some (n.value w)) e = cc
      by (Some (n.by_reference w)) e = cc
      by (Some (n.array_parameter w)) e = cc
      by (Some n.label) e = cc
      by (Some n.unknown) e = cc
  no_wide x (tree.Trees.and e (tree.Trees.and f fs)) k p is = refl

  -- a constant has no index
  constant_less : (x : List ℕ) (es : Trees) (k : ℕ) (z : Option ℤ) → c.names x ≡ Some (n.equate z) → is_covered_variable may c st x es k ≡ true
      → is_covered_variable less c st x es k ≡ true
  constant_less x tree.Trees.none k z is e = e
  constant_less x (tree.Trees.and a tree.Trees.none) k z is e =
      never (sym (ap (λ (o : Option Sort). is_led_element st k (access_of o) (c.places x) && is_covered may c st a k) is) ∙ e)
  constant_less x (tree.Trees.and a (tree.Trees.and f fs)) k z is e = never e

  constant_wide : (x : List ℕ) (es : Trees) (k : ℕ) (z : Option ℤ) → c.names x ≡ Some (n.equate z) → is_wide_variable may c st x es k ≡ true
      → is_wide_variable less c st x es k ≡ true
  constant_wide x tree.Trees.none k z is e = e
  constant_wide x (tree.Trees.and a tree.Trees.none) k z is e =
      never (sym (ap (λ (o : Option Sort). is_wide_element st k (access_of o) (c.places x) && is_covered may c st a k) is) ∙ e)
  constant_wide x (tree.Trees.and a (tree.Trees.and f fs)) k z is e = never e

  -- what calls nothing is called by no name
  no_word_call : (x : List ℕ) (m : Who → Bool) (o : Option Sort) → callable o ≡ None → is_word_call m st x o ≡ false
  no_word_call x m (Some (n.procedure q)) e = cc
  no_word_call x m (Some (n.subroutine q)) e = cc
  no_word_call x m (Some (n.intrinsic i)) e = cc
  no_word_call x m None e = refl
  no_word_call x m (Some (n.equate z)) e = refl
  no_word_call x m (Some (n.simple w own)) e = refl
  no_word_call x m (Some (n.array w own low high)) e = refl
  no_word_call x m (Some (n.view w own base)) e = refl
  no_word_call x m (Some (n.pointer w own)) e = refl
  no_word_call x m (Some (n.value w)) e = refl
  no_word_call x m (Some (n.by_reference w)) e = refl
  no_word_call x m (Some (n.array_parameter w)) e = refl
  no_word_call x m (Some n.label) e = refl
  no_word_call x m (Some n.unknown) e = refl

  no_double_call : (x : List ℕ) (m : Who → Bool) (o : Option Sort) → callable o ≡ None → is_double_call m st x o ≡ false
  no_double_call x m (Some (n.procedure q)) e = cc
  no_double_call x m (Some (n.subroutine q)) e = cc
  no_double_call x m (Some (n.intrinsic i)) e = cc
  no_double_call x m None e = refl
  no_double_call x m (Some (n.equate z)) e = refl
  no_double_call x m (Some (n.simple w own)) e = refl
  no_double_call x m (Some (n.array w own low high)) e = refl
  no_double_call x m (Some (n.view w own base)) e = refl
  no_double_call x m (Some (n.pointer w own)) e = refl
  no_double_call x m (Some (n.value w)) e = refl
  no_double_call x m (Some (n.by_reference w)) e = refl
  no_double_call x m (Some (n.array_parameter w)) e = refl
  no_double_call x m (Some n.label) e = refl
  no_double_call x m (Some n.unknown) e = refl

  -- ---- along the tree

  -- two that are told are both so
  pub both_told : {a : Part} (p q : Bool) → Tells t ((p ≡ true) × (q ≡ true)) a → Tells t ((p && q) ≡ true) a
  both_told p q u = tell_as (λ (both : (p ≡ true) × (q ≡ true)). and_from p q both.0 both.1) u

  -- with what holds without it
  pub with_first : {a : Part} (p q : Bool) → p ≡ true → Tells t (q ≡ true) a → Tells t ((p && q) ≡ true) a
  with_first p q is u = tell_as (λ e. and_from p q is e) u

  -- either of two
  pub tell_either : {a : Part} (p q p' q' : Bool) → (p || q) ≡ true → (p ≡ true → Tells t (p' ≡ true) a) → (q ≡ true → Tells t (q' ≡ true) a) → Tells t ((p' || q') ≡ true) a
  tell_either {a = a} p q p' q' e u v = by (either p q e)
    where
      by : (p ≡ true) ⊎ (q ≡ true) → Tells t ((p' || q') ≡ true) a
      by (inl is) = tell_as (λ f. or_left p' q' f) (u is)
      by (inr is) = tell_as (λ f. or_right p' q' f) (v is)

  -- an operator of two operands, which are made one behind the other
  abbrev binary_code : ℕ → Tree → Tree → Aim → ℕ → Bool → Bool → Part
  binary_code op a b aim k connective text =
      if connective then connected op aim (λ v. code c a v k) (λ v. code c b v k)
      else if text then text_related (relation_number op) aim (reference c a k) (text_bytes b)
      else operated op (class_of (kind_of c.names a) (kind_of c.names b)) aim
      (code c a as_value k ⨟ code c b as_value (k + operand_width (kind_of c.names a)))

  abbrev are_words : ℕ → Tree → Tree → ℕ → Bool → (Who → Bool) → Bool
  are_words op a b k text m =
      (is_covered_operator op && not text) && is_word_class (class_of (kind_of c.names a) (kind_of c.names b))
      && is_covered m c st a k && is_covered m c st b (k + operand_width (kind_of c.names a))

  abbrev are_doubles : ℕ → Tree → Tree → ℕ → Bool → (Who → Bool) → Bool
  are_doubles op a b k text m = (is_relation op && not text) && (is_wide m c st a k && is_wide m c st b (k + operand_width (kind_of c.names a)))

  abbrev are_texts : Tree → Tree → ℕ → (Who → Bool) → Bool
  are_texts a b k m = is_spelled b && (is_byte_element c st a && is_covered_reference m c st a k)

  abbrev fits_words : ℕ → Tree → Tree → Bool
  fits_words op a b = (is_covered_operator op && true) && is_word_class (class_of (kind_of c.names a) (kind_of c.names b))

  abbrev is_binary : (Who → Bool) → ℕ → Tree → Tree → ℕ → Bool → Bool → Bool
  is_binary m op a b k connective text =
      if connective then is_covered m c st a k && is_covered m c st b k
      else ((is_covered_operator op && not text) && is_word_class (class_of (kind_of c.names a) (kind_of c.names b))
      && is_covered m c st a k && is_covered m c st b (k + operand_width (kind_of c.names a)))
      || ((is_relation op && not text) && (is_wide m c st a k && is_wide m c st b (k + operand_width (kind_of c.names a)))
      || (text && (is_spelled b && (is_byte_element c st a && is_covered_reference m c st a k))))

  tell_binary : (op : ℕ) (a b : Tree) (aim : Aim) (k : ℕ) (connective text : Bool) → is_binary may op a b k connective text ≡ true
      → ((f : ℕ) → is_covered may c st a k ≡ true → Tells t (is_covered less c st a k ≡ true) (code c a (as_test f) k))
      → ((f : ℕ) → is_covered may c st b k ≡ true → Tells t (is_covered less c st b k ≡ true) (code c b (as_test f) k))
      → (is_covered may c st a k ≡ true → Tells t (is_covered less c st a k ≡ true) (code c a as_value k))
      → (is_covered may c st b (k + operand_width (kind_of c.names a)) ≡ true
      → Tells t (is_covered less c st b (k + operand_width (kind_of c.names a)) ≡ true) (code c b as_value (k + operand_width (kind_of c.names a))))
      → (is_wide may c st a k ≡ true → Tells t (is_wide less c st a k ≡ true) (code c a as_value k))
      → (is_wide may c st b (k + operand_width (kind_of c.names a)) ≡ true
      → Tells t (is_wide less c st b (k + operand_width (kind_of c.names a)) ≡ true) (code c b as_value (k + operand_width (kind_of c.names a))))
      → (is_covered_reference may c st a k ≡ true → Tells t (is_covered_reference less c st a k ≡ true) (reference c a k))
      → Tells t (is_binary less op a b k connective text ≡ true) (binary_code op a b aim k connective text)
  tell_binary op a b aim k true text h test_a test_b word_a word_b wide_a wide_b refer =
      let two = and_parts (is_covered may c st a k) (is_covered may c st b k) h in
      both_told (is_covered less c st a k) (is_covered less c st b k)
      (tell_connected op aim (λ v. code c a v k) (λ v. code c b v k) (λ f. test_a f two.0) (λ f. test_b f two.1))
  tell_binary op a b aim k false true h test_a test_b word_a word_b wide_a wide_b refer =
      tell_text_related (relation_number op) aim (reference c a k) (text_bytes b)
      (tell_as (λ e. or_right (are_words op a b k true less) (are_doubles op a b k true less || are_texts a b k less) (or_right (are_doubles op a b k true less) (are_texts a b k less)
      (and_from (is_spelled b) (is_byte_element c st a && is_covered_reference less c st a k) parts.0
      (and_from (is_byte_element c st a) (is_covered_reference less c st a k) last.0 e)))) (refer last.1))
    where
      none : (p : Bool) → (p && false) ≡ false
      none true = refl
      none false = refl

      no_words : are_words op a b k true may ≡ true → are_texts a b k may ≡ true
      no_words e =
          let one = and_parts ((is_covered_operator op && false) && is_word_class (class_of (kind_of c.names a) (kind_of c.names b)) && is_covered may c st a k)
          (is_covered may c st b (k + operand_width (kind_of c.names a))) e in
          let more = and_parts ((is_covered_operator op && false) && is_word_class (class_of (kind_of c.names a) (kind_of c.names b))) (is_covered may c st a k) one.0 in
          let first = and_parts (is_covered_operator op && false) (is_word_class (class_of (kind_of c.names a) (kind_of c.names b))) more.0 in
          never (sym (none (is_covered_operator op)) ∙ first.0)

      no_doubles : are_doubles op a b k true may ≡ true → are_texts a b k may ≡ true
      no_doubles e =
          never (sym (none (is_relation op)) ∙ (and_parts (is_relation op && false) (is_wide may c st a k && is_wide may c st b (k + operand_width (kind_of c.names a))) e).0)

      text_there : are_texts a b k may ≡ true
      text_there = by (either (are_words op a b k true may) (are_doubles op a b k true may || are_texts a b k may) h)
        where
          then_by : (are_doubles op a b k true may ≡ true) ⊎ (are_texts a b k may ≡ true) → are_texts a b k may ≡ true
          then_by (inl e) = no_doubles e
          then_by (inr e) = e

          by : (are_words op a b k true may ≡ true) ⊎ ((are_doubles op a b k true may || are_texts a b k may) ≡ true) → are_texts a b k may ≡ true
          by (inl e) = no_words e
          by (inr e) = then_by (either (are_doubles op a b k true may) (are_texts a b k may) e)

      parts : (is_spelled b ≡ true) × ((is_byte_element c st a && is_covered_reference may c st a k) ≡ true)
      parts = and_parts (is_spelled b) (is_byte_element c st a && is_covered_reference may c st a k) text_there

      last : (is_byte_element c st a ≡ true) × (is_covered_reference may c st a k ≡ true)
      last = and_parts (is_byte_element c st a) (is_covered_reference may c st a k) parts.1
  tell_binary op a b aim k false false h test_a test_b word_a word_b wide_a wide_b refer =
      tell_operated op (class_of (kind_of c.names a) (kind_of c.names b)) aim _ (by (either (are_words op a b k false may) (are_doubles op a b k false may || false) h))
    where
      of_words : are_words op a b k false may ≡ true
          → Tells t ((are_words op a b k false less || (are_doubles op a b k false less || false)) ≡ true)
          (code c a as_value k ⨟ code c b as_value (k + operand_width (kind_of c.names a)))
      of_words e =
          let one = and_parts (fits_words op a b && is_covered may c st a k) (is_covered may c st b (k + operand_width (kind_of c.names a))) e in
          let first = and_parts (fits_words op a b) (is_covered may c st a k) one.0 in
          tell_as (λ (told : (is_covered less c st a k ≡ true) × (is_covered less c st b (k + operand_width (kind_of c.names a)) ≡ true)).
          or_left (are_words op a b k false less) (are_doubles op a b k false less || false)
          (and_from (fits_words op a b && is_covered less c st a k) (is_covered less c st b (k + operand_width (kind_of c.names a)))
          (and_from (fits_words op a b) (is_covered less c st a k) first.0 told.0) told.1)) (tell_then (word_a first.1) (word_b one.1))

      of_doubles : are_doubles op a b k false may ≡ true
          → Tells t ((are_words op a b k false less || (are_doubles op a b k false less || false)) ≡ true)
          (code c a as_value k ⨟ code c b as_value (k + operand_width (kind_of c.names a)))
      of_doubles e =
          let one = and_parts (is_relation op && true) (is_wide may c st a k && is_wide may c st b (k + operand_width (kind_of c.names a))) e in
          let both = and_parts (is_wide may c st a k) (is_wide may c st b (k + operand_width (kind_of c.names a))) one.1 in
          tell_as (λ (told : (is_wide less c st a k ≡ true) × (is_wide less c st b (k + operand_width (kind_of c.names a)) ≡ true)).
          or_right (are_words op a b k false less) (are_doubles op a b k false less || false) (or_left (are_doubles op a b k false less) false
          (and_from (is_relation op && true) (is_wide less c st a k && is_wide less c st b (k + operand_width (kind_of c.names a))) one.0
          (and_from (is_wide less c st a k) (is_wide less c st b (k + operand_width (kind_of c.names a))) told.0 told.1))))
          (tell_then (wide_a both.0) (wide_b both.1))

      then_by : (are_doubles op a b k false may ≡ true) ⊎ (false ≡ true)
          → Tells t ((are_words op a b k false less || (are_doubles op a b k false less || false)) ≡ true)
          (code c a as_value k ⨟ code c b as_value (k + operand_width (kind_of c.names a)))
      then_by (inl e) = of_doubles e
      then_by (inr e) = never e

      by : (are_words op a b k false may ≡ true) ⊎ ((are_doubles op a b k false may || false) ≡ true)
          → Tells t ((are_words op a b k false less || (are_doubles op a b k false less || false)) ≡ true)
          (code c a as_value k ⨟ code c b as_value (k + operand_width (kind_of c.names a)))
      by (inl e) = of_words e
      by (inr e) = then_by (either (are_doubles op a b k false may) false e)

  -- a sum of two DOUBLEs
  tell_sum : {P : Type 0} (op : ℕ) (a b : Tree) (aim : Aim) (k : ℕ) → is_sum op ≡ true
      → Tells t P (code c a as_value k ⨟ code c b as_value (k + operand_width (kind_of c.names a)))
      → Tells t P (binary_code op a b aim k (is_connective op) (compares_text c.names op a b))
  tell_sum {P} op a b aim k e u = by (is_connective op) (no_connective (either (op == plus) (op == minus) e)) (compares_text c.names op a b) (sum_is_apart c.names op a b e)
    where
      no_connective : ((op == plus) ≡ true) ⊎ ((op == minus) ≡ true) → is_connective op ≡ false
      no_connective (inl is) = ap (λ (m : ℕ). is_connective m) (eqb-true op plus is)
      no_connective (inr is) = ap (λ (m : ℕ). is_connective m) (eqb-true op minus is)

      by : (p : Bool) → p ≡ false → (q : Bool) → q ≡ false → Tells t P (binary_code op a b aim k p q)
      by true none q apart = never (sym none)
      by false none true apart = never (sym apart)
      by false none false apart = tell_operated op (class_of (kind_of c.names a) (kind_of c.names b)) aim _ u

  mutual
    pub tell_code : (e : Tree) (aim : Aim) (k : ℕ) → is_covered may c st e k ≡ true → Tells t (is_covered less c st e k ≡ true) (code c e aim k)
    tell_code (tree.Tree.number v) aim k h = closed aim (tell_pieces (constant (v % 65536)) refl)
    tell_code (tree.Tree.wide v) aim k h = never h
    tell_code (tree.Tree.text bytes) aim k h = closed aim (tell_text (text_value bytes) h)
    tell_code (tree.Tree.truth b) aim k h = closed aim (tell_pieces (constant (truth_word b)) refl)
    tell_code (tree.Tree.named x es at) aim k h =
        closed aim (tell_named (λ m o. is_word_call m st x o) x (c.names x) es k (is_covered_variable may c st x es k) (is_covered_variable less c st x es k)
        (index c es false k ⨟ variable c x (is_indexed es) k) (word_calls x) (λ p given. tell_arguments p.formals es (k + result_words p) given)
        (no_variable x es k) (constant_less x es k) (λ m. no_word_call x m (c.names x)) (λ given. tell_behind _ (tell_variable x es k given)) h)
    tell_code (tree.Tree.address x es at) aim k h = closed aim (tell_behind _ (tell_address x es (leads_to_doubles (access_of (c.names x))) k h))
    tell_code (tree.Tree.unary op a at) aim k h =
        let two = and_parts (is_covered_sign op) (is_covered may c st a k) h in
        closed aim (tell_behind (sign_operator op (kind_of c.names a)) (with_first (is_covered_sign op) (is_covered less c st a k) two.0 (tell_code a as_value k two.1)))
    tell_code (tree.Tree.shift op a by at) aim k h =
        let two = and_parts (nat_lt op 6 && nat_lt (small_constant c.names by) 64) (is_covered may c st a k) h in
        closed aim (tell_behind (shift_operator op (small_constant c.names by))
        (with_first (nat_lt op 6 && nat_lt (small_constant c.names by) 64) (is_covered less c st a k) two.0 (tell_code a as_value k two.1)))
    tell_code (tree.Tree.field a start size at) aim k h =
        let inside = nat_le 1 (small_constant c.names size) && nat_le (small_constant c.names start + small_constant c.names size) 16 in
        let two = and_parts inside (is_covered may c st a k) h in
        closed aim (tell_behind (field_operator (small_constant c.names start) (small_constant c.names size))
        (with_first inside (is_covered less c st a k) two.0 (tell_code a as_value k two.1)))
    tell_code (tree.Tree.transfer to a at) aim k h =
        let two = and_parts (is_single to) (is_covered may c st a k || is_wide may c st a k) h in
        closed aim (tell_behind (transfer to (kind_of c.names a)) (with_first (is_single to) (is_covered less c st a k || is_wide less c st a k) two.0
        (tell_either (is_covered may c st a k) (is_wide may c st a k) (is_covered less c st a k) (is_wide less c st a k) two.1
        (λ e. tell_code a as_value k e) (λ e. tell_wide a as_value k e))))
    tell_code (tree.Tree.binary op a b at) aim k h =
        tell_binary op a b aim k (is_connective op) (compares_text c.names op a b) h
        (λ f e. tell_code a (as_test f) k e) (λ f e. tell_code b (as_test f) k e) (λ e. tell_code a as_value k e)
        (λ e. tell_code b as_value (k + operand_width (kind_of c.names a)) e) (λ e. tell_wide a as_value k e)
        (λ e. tell_wide b as_value (k + operand_width (kind_of c.names a)) e) (λ e. tell_reference a k e)
    tell_code (tree.Tree.bytes op a b count at) aim k h =
        let two = and_parts (is_byte_element c st a && is_covered_reference may c st a k)
        ((is_byte_element c st b && is_covered_reference may c st b (k + 1)) && is_covered may c st count (k + 2)) h in
        let left = and_parts (is_byte_element c st a) (is_covered_reference may c st a k) two.0 in
        let rest = and_parts (is_byte_element c st b && is_covered_reference may c st b (k + 1)) (is_covered may c st count (k + 2)) two.1 in
        let right = and_parts (is_byte_element c st b) (is_covered_reference may c st b (k + 1)) rest.0 in
        tell_bytes_related op aim _ (tell_as (λ (told : ((is_covered_reference less c st a k ≡ true) × (is_covered_reference less c st b (k + 1) ≡ true))
        × (is_covered less c st count (k + 2) ≡ true)).
        and_from (is_byte_element c st a && is_covered_reference less c st a k)
        ((is_byte_element c st b && is_covered_reference less c st b (k + 1)) && is_covered less c st count (k + 2))
        (and_from (is_byte_element c st a) (is_covered_reference less c st a k) left.0 told.0.0)
        (and_from (is_byte_element c st b && is_covered_reference less c st b (k + 1)) (is_covered less c st count (k + 2))
        (and_from (is_byte_element c st b) (is_covered_reference less c st b (k + 1)) right.0 told.0.1) told.1))
        (tell_then (tell_then (tell_reference a k left.1) (tell_reference b (k + 1) right.1)) (tell_code count as_value (k + 2) rest.1)))

    pub tell_wide : (e : Tree) (aim : Aim) (k : ℕ) → is_wide may c st e k ≡ true → Tells t (is_wide less c st e k ≡ true) (code c e aim k)
    tell_wide (tree.Tree.wide v) aim k h = closed aim (tell_pieces (double_constant (v % 4294967296)) refl)
    tell_wide (tree.Tree.named x es at) aim k h =
        closed aim (tell_named (λ m o. is_double_call m st x o) x (c.names x) es k (is_wide_variable may c st x es k) (is_wide_variable less c st x es k)
        (index c es false k ⨟ variable c x (is_indexed es) k) (double_calls x) (λ p given. tell_arguments p.formals es (k + result_words p) given)
        (no_wide x es k) (constant_wide x es k) (λ m. no_double_call x m (c.names x)) (λ given. tell_behind _ (tell_wide_variable x es k given)) h)
    tell_wide (tree.Tree.transfer kind.Double a at) aim k h =
        closed aim (tell_behind (transfer kind.Double (kind_of c.names a))
        (tell_either (is_word_operand (kind_of c.names a) && is_covered may c st a k) (is_wide may c st a k)
        (is_word_operand (kind_of c.names a) && is_covered less c st a k) (is_wide less c st a k) h
        (λ e. let two = and_parts (is_word_operand (kind_of c.names a)) (is_covered may c st a k) e in
        with_first (is_word_operand (kind_of c.names a)) (is_covered less c st a k) two.0 (tell_code a as_value k two.1)) (λ e. tell_wide a as_value k e)))
    tell_wide (tree.Tree.unary op a at) aim k h =
        let two = and_parts ((op == positive) || (op == negative)) (is_wide may c st a k) h in
        closed aim (tell_behind (sign_operator op (kind_of c.names a))
        (with_first ((op == positive) || (op == negative)) (is_wide less c st a k) two.0 (tell_wide a as_value k two.1)))
    tell_wide (tree.Tree.binary op a b at) aim k h =
        let w = k + operand_width (kind_of c.names a) in
        let two = and_parts (is_sum op) (is_wide may c st a k && is_wide may c st b w) h in
        let both = and_parts (is_wide may c st a k) (is_wide may c st b w) two.1 in
        with_first (is_sum op) (is_wide less c st a k && is_wide less c st b w) two.0
        (both_told (is_wide less c st a k) (is_wide less c st b w)
        (tell_sum op a b aim k two.0 (tell_then (tell_wide a as_value k both.0) (tell_wide b as_value w both.1))))
    tell_wide (tree.Tree.transfer kind.Integer a at) aim k h = never h
    tell_wide (tree.Tree.transfer kind.Logical a at) aim k h = never h
    tell_wide (tree.Tree.transfer kind.Byte a at) aim k h = never h
    tell_wide (tree.Tree.number v) aim k h = never h
    tell_wide (tree.Tree.text bytes) aim k h = never h
    tell_wide (tree.Tree.truth b) aim k h = never h
    tell_wide (tree.Tree.address x es at) aim k h = never h
    tell_wide (tree.Tree.shift op a by at) aim k h = never h
    tell_wide (tree.Tree.field a start size at) aim k h = never h
    tell_wide (tree.Tree.bytes op a b count at) aim k h = never h

    -- names by themselves, and elements at an index
    tell_variable : (x : List ℕ) (es : Trees) (k : ℕ) → is_covered_variable may c st x es k ≡ true
        → Tells t (is_covered_variable less c st x es k ≡ true) (index c es false k)
    tell_variable x tree.Trees.none k h = tell_pieces [] h
    tell_variable x (tree.Trees.and e tree.Trees.none) k h =
        let led = is_led_element st k (access_of (c.names x)) (c.places x) in
        let two = and_parts led (is_covered may c st e k) h in
        tell_behind (index_to_x false) (with_first led (is_covered less c st e k) two.0 (tell_code e as_value k two.1))
    tell_variable x (tree.Trees.and e (tree.Trees.and f fs)) k h = never h

    tell_wide_variable : (x : List ℕ) (es : Trees) (k : ℕ) → is_wide_variable may c st x es k ≡ true
        → Tells t (is_wide_variable less c st x es k ≡ true) (index c es false k)
    tell_wide_variable x tree.Trees.none k h = tell_pieces [] h
    tell_wide_variable x (tree.Trees.and e tree.Trees.none) k h =
        let led = is_wide_element st k (access_of (c.names x)) (c.places x) in
        let two = and_parts led (is_covered may c st e k) h in
        tell_behind (index_to_x false) (with_first led (is_covered less c st e k) two.0 (tell_code e as_value k two.1))
    tell_wide_variable x (tree.Trees.and e (tree.Trees.and f fs)) k h = never h

    pub tell_address : (x : List ℕ) (es : Trees) (d : Bool) (k : ℕ) → is_covered_address may c st x es k ≡ true
        → Tells t (is_covered_address less c st x es k ≡ true) (index c es d k)
    tell_address x tree.Trees.none d k h = tell_pieces [] h
    tell_address x (tree.Trees.and e tree.Trees.none) d k h =
        let led = is_addressed_element st k (access_of (c.names x)) (c.places x) in
        let two = and_parts led (is_covered may c st e k) h in
        tell_behind (index_to_x d) (with_first led (is_covered less c st e k) two.0 (tell_code e as_value k two.1))
    tell_address x (tree.Trees.and e (tree.Trees.and f fs)) d k h = never h

    -- references
    pub tell_reference : (e : Tree) (k : ℕ) → is_covered_reference may c st e k ≡ true → Tells t (is_covered_reference less c st e k ≡ true) (reference c e k)
    tell_reference (tree.Tree.named x es at) k h = tell_behind _ (tell_address x es (leads_to_doubles (access_of (c.names x))) k h)
    tell_reference (tree.Tree.number v) k h = never h
    tell_reference (tree.Tree.wide v) k h = never h
    tell_reference (tree.Tree.text bytes) k h = never h
    tell_reference (tree.Tree.truth b) k h = never h
    tell_reference (tree.Tree.address x es at) k h = never h
    tell_reference (tree.Tree.unary op a at) k h = never h
    tell_reference (tree.Tree.binary op a b at) k h = never h
    tell_reference (tree.Tree.shift op a by at) k h = never h
    tell_reference (tree.Tree.field a start size at) k h = never h
    tell_reference (tree.Tree.transfer to a at) k h = never h
    tell_reference (tree.Tree.bytes op a b count at) k h = never h

    -- arguments
    pub tell_arguments : (fs : List Formal) (es : Trees) (k : ℕ) → are_covered_arguments may c st fs es k ≡ true
        → Tells t (are_covered_arguments less c st fs es k ≡ true) (arguments c fs es k)
    tell_arguments [] tree.Trees.none k h = tell_pieces [] refl
    tell_arguments (f ∷ fs) (tree.Trees.and e es) k h =
        let one = is_passed (by_value f) f.kind (is_covered may c st e k) (is_wide may c st e k) (is_covered_reference may c st e k) in
        let one' = is_passed (by_value f) f.kind (is_covered less c st e k) (is_wide less c st e k) (is_covered_reference less c st e k) in
        let two = and_parts one (are_covered_arguments may c st fs es (k + formal_words f)) h in
        both_told one' (are_covered_arguments less c st fs es (k + formal_words f))
        (tell_then
        (tell_passed (by_value f) f.kind (is_covered may c st e k) (is_wide may c st e k) (is_covered_reference may c st e k) (is_covered less c st e k)
        (is_wide less c st e k) (is_covered_reference less c st e k) (code c e as_value k) (reference c e k) two.0
        (λ g. tell_code e as_value k g) (λ g. tell_wide e as_value k g) (λ g. tell_reference e k g))
        (tell_arguments fs es (k + formal_words f) two.1))
    tell_arguments [] (tree.Trees.and e es) k h = never h
    tell_arguments (f ∷ fs) tree.Trees.none k h = never h

-- ---- the law

pub all_linked : CoveredValuesAreLinked
all_linked = record {
  words = λ t may c st e aim k h. tell_code t may c st e aim k h;
  doubles = λ t may c st e aim k h. tell_wide t may c st e aim k h;
  references = λ t may c st e k h. tell_reference t may c st e k h;
}
