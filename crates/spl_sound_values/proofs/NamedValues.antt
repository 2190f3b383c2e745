-- A name in an expression that breaks no rule is covered: a constant, a variable, an element or a call.
use Rattle.std.proofs.Common.{◌≡◌, ℕ, ◌+◌, ◌==◌, ◌&&◌, ◌||◌, not, Bool, true, false, if◌then◌else◌, List, [], length, ℤ, Option, Some, None, is_some, refl, subst, ap, ◌∙◌, arith}
use Rattle.std.specs.List.{list_all}
use Rattle.std.proofs.lemmas.Bool.{and_from, or_left, or_right, not_from_false}
use Rattle.spl_shapes.specs.spl_tree.declared.names_and_places.At.{At}
use Rattle.spl_shapes.specs.spl_tree.Trees as tree
use Rattle.spl_shapes.specs.spl_tree.Trees.{Tree, Trees}
use Rattle.spl_near_places.specs.spl_meaning.Names as n
use Rattle.spl_near_places.specs.spl_meaning.Names.{Sort, Formal, Profile, intrinsic_profile}
use Rattle.spl_near_places.specs.spl_meaning.Kinds.{named_operand, variable_kind, is_double, is_unknown, callable}
use Rattle.spl_near_places.specs.spl_meaning.Limits.{use_of, uses_among}
use Rattle.spl_near_places.specs.spl_meaning.Pending.{profile_formals, profile_result_words}
use Rattle.spl_near_places.specs.spl_meaning.References.{Setting}
use Rattle.spl_near_places.specs.spl_meaning.Values.{Who, procedure, subroutine}
use Rattle.spl_near_places.specs.spl_meaning.ExpressionRules as rule
use Rattle.spl_near_places.specs.spl_meaning.ExpressionRules.{count, is_callable, call_faults, uncalled_by, name_by, variable_faults, arguments_faults, indices_faults}
use Rattle.spl_near_places.specs.spl_code.Calls.{Scope}
use Rattle.spl_covered.specs.spl_whom.Whom.{is_word_result, is_double_result, is_gate, is_word_call, is_double_call}
use Rattle.spl_near_places.specs.hp_word.declared.intrinsics.Intrinsic.{Intrinsic}
use Rattle.spl_near_places.specs.hp_word.Intrinsics.{answer_words}
use Rattle.spl_covered.specs.spl_names.Names.{is_covered_name}
use Rattle.spl_covered.specs.Covered.{is_covered_variable, is_wide_variable, is_covered_address, are_covered_arguments}
use Rattle.spl_near_places.specs.spl_places.Programs.{Each}
use Rattle.spl_near_places.proofs.spl_sound_names_proofs.Tables.{unless_none, never}
use Rattle.spl_sound_values.specs.Seen.{Seen, UseAllowed}
use Rattle.spl_sound_values.proofs.Parts.{ruled, no_index}
use Rattle.spl_sound_values.proofs.Variables.{variable_seen}
use Rattle.spl_sound_values.proofs.Names.{is_covered_index, VariableCovered, variable_covered}
use Rattle.spl_sound_values.proofs.Calls.{CallSound, call_sound, own_gate, result_known, result_word, result_wide, answer_word, answer_wide, ValueCovered}

module _ (may : Who → Bool) (c : Scope) (st : Setting) (rules : rule.Scope) (seen : Seen may c st (ruled c st rules)) where
  abbrev sc : rule.Scope
  sc = ruled c st rules

  -- what is covered of a name, by what it stands for
  record NamedCovered (x : List ℕ) (es : Trees) (k : ℕ) (o : Option Sort) : Type 0 where
    known : is_unknown (named_operand o) ≡ false
    word : is_double (named_operand o) ≡ false
        → (is_covered_variable may c st x es k
        || (is_word_call may st x o && are_covered_arguments may c st (profile_formals (callable o)) es (k + profile_result_words (callable o)))) ≡ true
    wide : is_double (named_operand o) ≡ true
        → (is_wide_variable may c st x es k
        || (is_double_call may st x o && are_covered_arguments may c st (profile_formals (callable o)) es (k + profile_result_words (callable o)))) ≡ true
    reference : is_some (variable_kind o) ≡ true → is_covered_address may c st x es k ≡ true

  -- a variable
  variable_named : (x : List ℕ) (es : Trees) (at : At) (k : ℕ) (o : Option Sort) → c.names x ≡ o → variable_faults sc x (count es) at ≡ []
      → UseAllowed may c (use_of x at k false) → is_covered_index may c st es k ≡ true → NamedCovered x es k o
  variable_named x es at k o is none u index = subst (NamedCovered x es k) is (record {
    known = v.known;
    word = λ single. or_left (is_covered_variable may c st x es k) _ (v.word single);
    wide = λ double. or_left (is_wide_variable may c st x es k) _ (v.wide double);
    reference = λ some. v.addressed;
  })
    where
      v : VariableCovered may c st x es k
      v = variable_covered may c st rules seen x es at none k (variable_seen may c st rules seen x (count es) at none at k false u) index

  -- a call
  procedure_named : (x : List ℕ) (es : Trees) (at : At) (k : ℕ) (p : Profile) → c.names x ≡ Some (n.procedure p)
      → CallSound sc (Some (n.procedure p)) p (count es) true → UseAllowed may c (use_of x at k false)
      → are_covered_arguments may c st p.formals es (k + profile_result_words (Some p)) ≡ true → NamedCovered x es k (Some (n.procedure p))
  procedure_named x es at k p is s u given =
      let called = and_from (may (procedure x)) (not st.split) (u.called p is refl) (not_from_false st.split (s.whole refl)) in
      let some = s.result refl in
      record {
        known = result_known p.result some;
        word = λ single. or_right (is_covered_variable may c st x es k) _
            (and_from _ _ (and_from (may (procedure x) && not st.split) (is_word_result p.result) called (result_word p.result some single)) given);
        wide = λ double. or_right (is_wide_variable may c st x es k) _
            (and_from _ _ (and_from (may (procedure x) && not st.split) (is_double_result p.result) called (result_wide p.result double)) given);
        reference = never;
      }

  subroutine_named : (x : List ℕ) (es : Trees) (at : At) (k : ℕ) (p : Profile) → c.names x ≡ Some (n.subroutine p)
      → CallSound sc (Some (n.subroutine p)) p (count es) true
      → are_covered_arguments may c st p.formals es (k + profile_result_words (Some p)) ≡ true → NamedCovered x es k (Some (n.subroutine p))
  subroutine_named x es at k p is s given =
      let called = seen.subroutines x p is in
      let some = s.result refl in
      record {
        known = result_known p.result some;
        word = λ single. or_right (is_covered_variable may c st x es k) _
            (and_from _ _ (and_from (may (subroutine x)) (is_word_result p.result) called (result_word p.result some single)) given);
        wide = λ double. or_right (is_wide_variable may c st x es k) _
            (and_from _ _ (and_from (may (subroutine x)) (is_double_result p.result) called (result_wide p.result double)) given);
        reference = never;
      }

  intrinsic_named : (x : List ℕ) (es : Trees) (at : At) (k : ℕ) (i : Intrinsic) → c.names x ≡ Some (n.intrinsic i)
      → CallSound sc (Some (n.intrinsic i)) (intrinsic_profile i) (count es) true
      → are_covered_arguments may c st (intrinsic_profile i).formals es (k + profile_result_words (Some (intrinsic_profile i))) ≡ true
      → NamedCovered x es k (Some (n.intrinsic i))
  intrinsic_named x es at k i is s given =
      let opened = own_gate st x i (s.whole refl) (seen.intrinsics x i is) in
      let some = s.result refl in
      record {
        known = result_known (intrinsic_profile i).result some;
        word = λ single. or_right (is_covered_variable may c st x es k) _
            (and_from _ _ (and_from (answer_words i == 1) (is_gate st x i) (answer_word i some single) opened) given);
        wide = λ double. or_right (is_wide_variable may c st x es k) _
            (and_from _ _ (and_from (answer_words i == 2) (is_gate st x i) (answer_wide i double) opened) given);
        reference = never;
      }

  -- a constant that has a value
  constant_named : (x : List ℕ) (es : Trees) (at : At) (k : ℕ) (v : Option ℤ) → c.names x ≡ Some (n.equate v) → (count es == 0) ≡ true
      → NamedCovered x es k (Some (n.equate v))
  constant_named x es at k v is few = record {
    known = refl;
    word = λ single. or_left (is_covered_variable may c st x es k) _
        (ap (λ (i : Trees). is_covered_variable may c st x i k) (no_index es few)
        ∙ ap (λ (o : Option Sort). is_covered_name st k o (c.places x)) is ∙ valued v (seen.known x (n.equate v) is));
    wide = never;
    reference = never;
  }
    where
      valued : (w : Option ℤ) → is_some w ≡ true → is_covered_name st k (Some (n.equate w)) (c.places x) ≡ true
      valued (Some w) some = refl
      valued None some = never some

  -- A name, where its arguments are covered by those of what it calls, or its index is.
  pub named_covered : (x : List ℕ) (es : Trees) (at : At) (k : ℕ) → name_by sc x (callable (c.names x)) (count es) at ≡ []
      → (if is_callable (callable (c.names x)) then arguments_faults sc (profile_formals (callable (c.names x))) es at else indices_faults sc es at) ≡ []
      → UseAllowed may c (use_of x at k false)
      → Each (UseAllowed may c) (uses_among c.names (profile_formals (callable (c.names x))) es (k + profile_result_words (callable (c.names x))))
      → ((fs : List Formal) (j : ℕ) → (count es == length fs) ≡ true → list_all (λ f. is_some f.kind) fs ≡ true → arguments_faults sc fs es at ≡ []
      → Each (UseAllowed may c) (uses_among c.names fs es j) → are_covered_arguments may c st fs es j ≡ true)
      → (indices_faults sc es at ≡ [] → Each (UseAllowed may c) (uses_among c.names [] es k) → is_covered_index may c st es k ≡ true)
      → ValueCovered may c st (tree.Tree.named x es at) k
  named_covered x es at k none others u us arguments index =
      let v = by (c.names x) refl none others us in record { known = v.known; word = v.word; wide = v.wide; reference = v.reference }
    where
      variable : (o : Option Sort) → c.names x ≡ o → variable_faults sc x (count es) at ≡ [] → indices_faults sc es at ≡ []
          → Each (UseAllowed may c) (uses_among c.names [] es (k + 0)) → NamedCovered x es k o
      variable o is none others us =
          variable_named x es at k o is none u
          (index others (subst (λ (j : ℕ). Each (UseAllowed may c) (uses_among c.names [] es j)) (the_same k) us))
        where
          the_same : (j : ℕ) → j + 0 ≡ j
          the_same j = omega arith

      sound : (o : Option Sort) (p : Profile) → c.names x ≡ o → call_faults sc (c.names x) p (count es) true at ≡ [] → CallSound sc o p (count es) true
      sound o p is none = call_sound sc o p (count es) true at (subst (λ (q : Option Sort). call_faults sc q p (count es) true at ≡ []) is none)

      given : (o : Option Sort) (p : Profile) → c.names x ≡ o → callable o ≡ Some p → CallSound sc o p (count es) true → arguments_faults sc p.formals es at ≡ []
          → Each (UseAllowed may c) (uses_among c.names p.formals es (k + profile_result_words (Some p)))
          → are_covered_arguments may c st p.formals es (k + profile_result_words (Some p)) ≡ true
      given o p is calls s others us =
          arguments p.formals (k + profile_result_words (Some p)) s.many (seen.kinds x p (ap (λ (q : Option Sort). callable q) is ∙ calls)) others us

      by : (o : Option Sort) → c.names x ≡ o → name_by sc x (callable o) (count es) at ≡ []
          → (if is_callable (callable o) then arguments_faults sc (profile_formals (callable o)) es at else indices_faults sc es at) ≡ []
          → Each (UseAllowed may c) (uses_among c.names (profile_formals (callable o)) es (k + profile_result_words (callable o))) → NamedCovered x es k o
      by (Some (n.procedure p)) is none others us =
          let s = sound (Some (n.procedure p)) p is none in procedure_named x es at k p is s u (given (Some (n.procedure p)) p is refl s others us)
      by (Some (n.subroutine p)) is none others us =
          let s = sound (Some (n.subroutine p)) p is none in subroutine_named x es at k p is s (given (Some (n.subroutine p)) p is refl s others us)
      by (Some (n.intrinsic i)) is none others us =
          let s = sound (Some (n.intrinsic i)) (intrinsic_profile i) is none in
          intrinsic_named x es at k i is s (given (Some (n.intrinsic i)) (intrinsic_profile i) is refl s others us)
      by (Some (n.equate v)) is none others us =
          constant_named x es at k v is (unless_none (count es == 0) 3 at (subst (λ (q : Option Sort). uncalled_by sc x q (count es) at ≡ []) is none))
      by o is none others us = variable o is (subst (λ (q : Option Sort). uncalled_by sc x q (count es) at ≡ []) is none) others us
