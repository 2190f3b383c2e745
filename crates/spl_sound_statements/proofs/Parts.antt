-- Parts of statements that break no rule: conditions, assignments, calls, and what a FOR counts in.
use Rattle.std.proofs.Common.{◌≡◌, ℕ, ◌+◌, ◌&&◌, ◌||◌, not, Bool, true, false, List, [], ◌∷◌, ◌++◌, Option, Some, None, is_some, refl, sym, subst, ap, ◌∙◌}
use Rattle.std.proofs.lemmas.Bool.{and_from, or_left, or_right, and_parts, not_from_false}
use Rattle.spl_sound_values.specs.spl_tree.declared.names_and_places.At.{At}
use Rattle.spl_sound_values.specs.spl_tree.declared.expressions.Kind.{Kind}
use Rattle.spl_sound_values.specs.spl_tree.declared.expressions.Kind.TheVariants as kind
use Rattle.spl_sound_values.specs.spl_tree.Trees as tree
use Rattle.spl_sound_values.specs.spl_tree.Trees.{Tree, Trees}
use Rattle.spl_sound_values.specs.spl_tree.StatementTrees as stat
use Rattle.spl_sound_values.specs.spl_tree.StatementTrees.{Target, Effect}
use Rattle.spl_sound_values.specs.spl_meaning.Names as n
use Rattle.spl_sound_values.specs.spl_meaning.Names.{Sort, Profile, intrinsic_profile}
use Rattle.spl_sound_values.specs.spl_meaning.Kinds.{Operand, of, result_of, is_double, is_unknown, kind_of, callable}
use Rattle.spl_sound_values.specs.spl_meaning.Limits.{use_of, uses, uses_among, target_uses, effect_uses, step_uses}
use Rattle.spl_sound_values.specs.spl_meaning.Pending.{profile_formals, profile_result_words, result_words, waiting}
use Rattle.spl_sound_values.specs.spl_meaning.Places.{Place}
use Rattle.spl_sound_values.specs.spl_meaning.References.{Setting}
use Rattle.spl_sound_values.specs.spl_meaning.Values.{Who, procedure, subroutine}
use Rattle.spl_sound_values.specs.spl_meaning.Faults.{fault, unless}
use Rattle.spl_sound_values.specs.spl_meaning.ExpressionRules as rule
use Rattle.spl_sound_values.specs.spl_meaning.ExpressionRules.{rule_kind, fits, count, has_elements, field_faults, is_bits, bits_faults, single_faults, place_in, faults, indices_faults, arguments_faults}
use Rattle.spl_sound_values.specs.spl_meaning.StatementRules as statement
use Rattle.spl_sound_values.specs.spl_meaning.StatementRules.{target_by, target_kind_by, target_kind, reference_faults, pointer_faults, fit_faults, field_kind, assign_faults, may_be_moved_to, effect_faults, answer_faults, assign_effect_faults, called_by, call_statement_faults, counter_by, single_value_faults, step_faults, condition_faults}
use Rattle.spl_sound_values.specs.spl_code.Calls.{Scope}
use Rattle.spl_sound_values.specs.spl_names.Names.{has_reached, has_seen}
use Rattle.spl_sound_values.specs.spl_whom.Whom.{is_gate}
use Rattle.spl_sound_values.specs.spl_covered.Covered.{is_covered, is_wide, are_covered_arguments}
use Rattle.spl_stores.specs.spl_targets.Targets.{is_word_target}
use Rattle.spl_stores.specs.spl_wide.Wide.{is_wide_target}
use Rattle.spl_stores.specs.spl_assigned.Assigned.{is_covered_assignment}
use Rattle.spl_stores.specs.spl_calls.Covered.{is_covered_call}
use Rattle.spl_stores.specs.spl_moved.Moved.{is_covered_effect}
use Rattle.spl_stores.specs.Covered.{is_stored_effect, is_counted_name, is_covered_step}
use Rattle.spl_sound_values.specs.spl_places.Programs.{Each}
use Rattle.spl_sound_values.specs.spl_shapes.Shapes.{is_shaped, are_shaped, is_reference, is_shaped_target, is_shaped_effect}
use Rattle.spl_sound_values.proofs.spl_meaning_proofs.RuleKinds.{same_kind}
use Rattle.spl_sound_values.proofs.spl_sound_names_proofs.Tables.{left_none, right_none, clash, unless_none, never}
use Rattle.spl_sound_values.specs.Seen.{Seen, UseAllowed}
use Rattle.spl_sound_values.proofs.Parts.{each_left, each_right, implies, not_so, ruled}
use Rattle.spl_sound_values.proofs.Variables.{whole, item_seen}
use Rattle.spl_sound_values.proofs.Operands.{bits_single, fits_wide}
use Rattle.spl_sound_values.proofs.Calls.{CallSound, call_sound, own_gate, ValueCovered}
use Rattle.spl_sound_values.proofs.Values.{by_test, value_covered, index_covered, arguments_covered}
use Rattle.spl_sound_statements.specs.Results.{ResultsSeen}
use Rattle.spl_sound_statements.proofs.Targets.{TargetCovered, plain_covered, field_covered, pointer_covered}
use Rattle.spl_sound_statements.proofs.Effects.{single_covered, effect_covered}

-- what fits a kind of one word is no DOUBLE
fits_single : (t : Kind) (e : Operand) → is_double (of t) ≡ false → fits t e ≡ true → is_double e ≡ false
fits_single kind.Integer e single is = not_so (is_double e) is
fits_single kind.Logical e single is = not_so (is_double e) is
fits_single kind.Byte e single is = not_so (is_double e) is
fits_single kind.Double e single is = never (sym single)

fits_double : (t : Kind) (e : Operand) → is_double (of t) ≡ true → is_unknown e ≡ false → fits t e ≡ true → is_double e ≡ true
fits_double kind.Double e double known is = fits_wide e known is
fits_double kind.Integer e double known is = never double
fits_double kind.Logical e double known is = never double
fits_double kind.Byte e double known is = never double

-- a kind to which an answer of one word goes
moved_single : (o : Option Kind) → may_be_moved_to o ≡ true → is_double (result_of o) ≡ false
moved_single (Some kind.Double) is = never is
moved_single (Some kind.Integer) is = refl
moved_single (Some kind.Logical) is = refl
moved_single (Some kind.Byte) is = refl
moved_single None is = refl

-- bit fields have LOGICALs
abbrev is_bits_kind : Option Kind → Bool
is_bits_kind (Some kind.Logical) = true
is_bits_kind o = false

field_kind_known : (o : Option Kind) → is_unknown (result_of o) ≡ false → is_bits_kind (field_kind o) ≡ true
field_kind_known (Some t) known = refl
field_kind_known None known = never (sym known)

module _ (may : Who → Bool) (c : Scope) (results : List ℕ → Option (Kind × Place)) (st : Setting) (rules : rule.Scope) (seen : Seen may c st (ruled c st rules))
    (given : ResultsSeen c st (ruled c st rules) results) where
  abbrev sc : rule.Scope
  sc = ruled c st rules

  -- ---- values

  -- a condition
  pub condition_covered : (e : Tree) (at : At) (k : ℕ) → condition_faults sc at e ≡ [] → is_shaped e ≡ true → Each (UseAllowed may c) (uses c.names e k)
      → is_covered may c st e k ≡ true
  condition_covered e at k none shaped us =
      let own = left_none (faults sc at e) (bits_faults c.names at e) none in
      (value_covered may c st rules seen e at k own shaped us).word
      (bits_single (kind_of c.names e)
      (sym (ap is_bits (same_kind sc at e own))
      ∙ unless_none (is_bits (rule_kind c.names e)) 7 (place_in at e) (right_none (faults sc at e) (bits_faults c.names at e) none)))

  -- a value of one word
  pub one_covered : (e : Tree) (at : At) (k : ℕ) → single_value_faults sc at e ≡ [] → is_shaped e ≡ true → Each (UseAllowed may c) (uses c.names e k)
      → is_covered may c st e k ≡ true
  one_covered e at k none =
      single_covered may c st rules seen e at k (left_none (faults sc at e) (single_faults c.names at e) none)
      (right_none (faults sc at e) (single_faults c.names at e) none)

  -- a step
  pub step_covered : (es : Trees) (at : At) (k : ℕ) → step_faults sc at es ≡ [] → are_shaped es ≡ true → Each (UseAllowed may c) (step_uses c.names es k)
      → is_covered_step may c st es k ≡ true
  step_covered tree.Trees.none at k none shaped us = refl
  step_covered (tree.Trees.and e es) at k none shaped us = one_covered e at k none (and_parts (is_shaped e) (are_shaped es) shaped).0 us

  -- what a FOR counts in
  pub counter_covered : (x : List ℕ) (at : At) (k : ℕ) → counter_by sc x (c.names x) at ≡ [] → UseAllowed may c (use_of x at k true)
      → is_counted_name st k (c.names x) (c.places x) ≡ true
  counter_covered x at k none u = by (c.names x) refl none
    where
      by : (o : Option Sort) → c.names x ≡ o → counter_by sc x o at ≡ [] → is_counted_name st k o (c.places x) ≡ true
      by None is none = clash (fault 1 at) [] none
      by (Some (n.simple kind.Integer own)) is none =
          item_seen may c st rules seen x (n.simple kind.Integer own) is refl refl
          (implies st.split (sc.is_local x) (unless_none (not st.split || sc.is_local x) 27 at none)) at k true u
      by (Some (n.value kind.Integer)) is none =
          item_seen may c st rules seen x (n.value kind.Integer) is refl refl (λ split. seen.local x (n.value kind.Integer) is refl) at k true u
      by (Some (n.by_reference kind.Integer)) is none =
          let local : st.split ≡ true → sc.is_local x ≡ true = λ split. seen.local x (n.by_reference kind.Integer) is refl in
          and_from (not st.split) (has_seen st k (c.places x))
          (not_from_false st.split (whole may c st rules seen x (n.by_reference kind.Integer) is refl local))
          (item_seen may c st rules seen x (n.by_reference kind.Integer) is refl refl local at k true u)
      by (Some n.unknown) is none = never (seen.known x n.unknown is)
      by o is none = clash (fault 23 at) [] none

  -- ---- assignments

  -- a value that breaks no rule fits by its kind
  fit_sound : (e : Tree) (at : At) (o : Option Kind) → faults sc at e ≡ [] → fit_faults o (rule_kind c.names e) at ≡ [] → fit_faults o (kind_of c.names e) at ≡ []
  fit_sound e at o own = subst (λ p. fit_faults o p at ≡ []) (same_kind sc at e own)

  -- a value in a target that it fits
  fitted : (to : Target) (e : Tree) (at : At) (k : ℕ) (o : Option Kind) → is_unknown (result_of o) ≡ false → fit_faults o (kind_of c.names e) at ≡ []
      → (is_double (result_of o) ≡ false → is_word_target may c results st to k ≡ true)
      → (is_double (result_of o) ≡ true → is_wide_target may c results st to k ≡ true) → ValueCovered may c st e (waiting to k)
      → is_covered_assignment may c results st to e k ≡ true
  fitted to e at k None known none word wide v = never (sym known)
  fitted to e at k (Some t) known none word wide v = by (is_double (of t)) refl
    where
      fit : fits t (kind_of c.names e) ≡ true
      fit = unless_none (fits t (kind_of c.names e)) 6 at none

      by : (b : Bool) → is_double (of t) ≡ b → is_covered_assignment may c results st to e k ≡ true
      by false is =
          or_left (is_word_target may c results st to k && is_covered may c st e (waiting to k)) (is_wide_target may c results st to k && is_wide may c st e (waiting to k))
          (and_from (is_word_target may c results st to k) (is_covered may c st e (waiting to k)) (word is) (v.word (fits_single t (kind_of c.names e) is fit)))
      by true is =
          or_right (is_word_target may c results st to k && is_covered may c st e (waiting to k)) (is_wide_target may c results st to k && is_wide may c st e (waiting to k))
          (and_from (is_wide_target may c results st to k) (is_wide may c st e (waiting to k)) (wide is)
          (v.wide (fits_double t (kind_of c.names e) is v.known fit)))

  -- a value of one word
  word_fitted : (to : Target) (e : Tree) (at : At) (k : ℕ) (o : Option Kind) → is_bits_kind o ≡ true → fit_faults o (kind_of c.names e) at ≡ []
      → is_word_target may c results st to k ≡ true → ValueCovered may c st e (waiting to k) → is_covered_assignment may c results st to e k ≡ true
  word_fitted to e at k None known none word v = never known
  word_fitted to e at k (Some kind.Logical) known none word v =
      or_left (is_word_target may c results st to k && is_covered may c st e (waiting to k)) (is_wide_target may c results st to k && is_wide may c st e (waiting to k))
      (and_from (is_word_target may c results st to k) (is_covered may c st e (waiting to k)) word
      (v.word (fits_single kind.Logical (kind_of c.names e) refl (unless_none (fits kind.Logical (kind_of c.names e)) 6 at none))))
  word_fitted to e at k (Some kind.Integer) known none word v = never known
  word_fitted to e at k (Some kind.Byte) known none word v = never known
  word_fitted to e at k (Some kind.Double) known none word v = never known

  -- a name on the left of :=
  named_target : (x : List ℕ) (es : Trees) (at : At) (k : ℕ) → reference_faults sc (tree.Tree.named x es at) ≡ [] → are_shaped es ≡ true
      → Each (UseAllowed may c) (use_of x at k true ∷ uses_among c.names [] es k) → TargetCovered may c results st x es at k (c.names x)
  named_target x es at k none shaped us =
      let name = target_by sc x (c.names x) (count es) at in
      plain_covered may c results st rules seen given x es at k (left_none name (indices_faults sc es at) none) us.0
      (index_covered may c st rules seen es at k (right_none name (indices_faults sc es at) none) shaped us.1)

  pub assign_covered : (to : Target) (e : Tree) (at : At) (k : ℕ) → assign_faults sc to e at ≡ [] → is_shaped_target to ≡ true → is_shaped e ≡ true
      → Each (UseAllowed may c) (target_uses c.names to k ++ uses c.names e (waiting to k))
      → is_covered_assignment may c results st to e k ≡ true
  assign_covered (stat.Target.plain (tree.Tree.named x es a)) e at k none to_shape shaped us =
      let to = stat.Target.plain (tree.Tree.named x es a) in
      let reference = reference_faults sc (tree.Tree.named x es a) in
      let own = faults sc at e in
      let fit = fit_faults (target_kind c.names (tree.Tree.named x es a)) (rule_kind c.names e) at in
      let front = left_none (reference ++ own) fit none in
      let first = target_uses c.names to k in
      let second = uses c.names e (waiting to k) in
      let t =
      named_target x es a k (left_none reference own front) (and_parts (is_reference (tree.Tree.named x es a)) (are_shaped es) to_shape).1
      (each_left (UseAllowed may c) first second us) in
      fitted to e at k (target_kind_by (c.names x)) t.known
      (fit_sound e at (target_kind_by (c.names x)) (right_none reference own front) (right_none (reference ++ own) fit none)) t.word t.wide
      (value_covered may c st rules seen e at (waiting to k) (right_none reference own front) shaped (each_right (UseAllowed may c) first second us))
  assign_covered (stat.Target.field (tree.Tree.named x es a) start size) e at k none to_shape shaped us =
      let to = stat.Target.field (tree.Tree.named x es a) start size in
      let name = target_by sc x (c.names x) (count es) a in
      let reference = reference_faults sc (tree.Tree.named x es a) in
      let single = unless (statement.is_single (target_kind_by (c.names x))) 5 at in
      let within = field_faults c.names start size at in
      let own = faults sc at e in
      let fit = fit_faults (field_kind (target_kind_by (c.names x))) (rule_kind c.names e) at in
      let to_own = left_none (reference ++ single ++ within ++ own) fit none in
      let to_within = left_none (reference ++ single ++ within) own to_own in
      let to_single = left_none (reference ++ single) within to_within in
      let to_reference = left_none reference single to_single in
      let first = target_uses c.names to k in
      let second = uses c.names e (waiting to k) in
      let us_first = each_left (UseAllowed may c) first second us in
      let index =
      index_covered may c st rules seen es a k (right_none name (indices_faults sc es a) to_reference)
      (and_parts (is_reference (tree.Tree.named x es a)) (are_shaped es) to_shape).1 us_first.1 in
      let word =
      field_covered may c results st rules seen given x es a at start size k (left_none name (indices_faults sc es a) to_reference)
      (right_none reference single to_single) (right_none (reference ++ single) within to_within) us_first.0 index in
      let t = plain_covered may c results st rules seen given x es a k (left_none name (indices_faults sc es a) to_reference) us_first.0 index in
      word_fitted to e at k (field_kind (target_kind_by (c.names x))) (field_kind_known (target_kind_by (c.names x)) t.known)
      (fit_sound e at (field_kind (target_kind_by (c.names x))) (right_none (reference ++ single ++ within) own to_own)
      (right_none (reference ++ single ++ within ++ own) fit none)) word
      (value_covered may c st rules seen e at (waiting to k) (right_none (reference ++ single ++ within) own to_own) shaped
      (each_right (UseAllowed may c) first second us))
  assign_covered (stat.Target.address x a) e at k none to_shape shaped us =
      let pointer = pointer_faults sc x (c.names x) a in
      let own = faults sc at e in
      let fit = fit_faults (Some kind.Logical) (rule_kind c.names e) at in
      let front = left_none (pointer ++ own) fit none in
      word_fitted (stat.Target.address x a) e at k (Some kind.Logical) refl
      (fit_sound e at (Some kind.Logical) (right_none pointer own front) (right_none (pointer ++ own) fit none))
      (or_left (has_reached st k (c.places x)) false (pointer_covered may c results st rules seen given x a k (left_none pointer own front) us.0))
      (value_covered may c st rules seen e at k (right_none pointer own front) shaped us.1)
  assign_covered (stat.Target.plain r) e at k none to_shape shaped us = never to_shape
  assign_covered (stat.Target.field r start size) e at k none to_shape shaped us = never to_shape

  -- what a MOVE or a SCAN answers
  pub assign_effect_covered : (to : Target) (e : Effect) (at : At) (k : ℕ) → assign_effect_faults sc to e at ≡ [] → is_shaped_target to ≡ true
      → is_shaped_effect e ≡ true → Each (UseAllowed may c) (target_uses c.names to k ++ effect_uses c.names true e (waiting to k))
      → is_stored_effect may c results st to e k ≡ true
  assign_effect_covered (stat.Target.plain (tree.Tree.named x es a)) e at k none to_shape shaped us =
      let to = stat.Target.plain (tree.Tree.named x es a) in
      let answer = answer_faults sc (tree.Tree.named x es a) at in
      let first = target_uses c.names to k in
      let second = effect_uses c.names true e (waiting to k) in
      and_from (is_word_target may c results st to k) (is_covered_effect may c st true e (waiting to k))
      (by_test (has_elements (c.names x)) (fault 3 a ∷ indices_faults sc es a)
      (target_by sc x (c.names x) (count es) a ++ indices_faults sc es a ++ unless (may_be_moved_to (target_kind_by (c.names x))) 6 at)
      (λ some broken. clash (fault 3 a) (indices_faults sc es a) broken)
      (λ single sound. answered x es a at k (and_parts (is_reference (tree.Tree.named x es a)) (are_shaped es) to_shape).1 sound
      (each_left (UseAllowed may c) first second us)) (left_none answer (effect_faults sc e at) none))
      (effect_covered may c st rules seen true e at (waiting to k) (right_none answer (effect_faults sc e at) none) shaped
      (each_right (UseAllowed may c) first second us))
    where
      answered : (y : List ℕ) (fs : Trees) (there here : At) (j : ℕ) → are_shaped fs ≡ true
          → target_by sc y (c.names y) (count fs) there ++ indices_faults sc fs there ++ unless (may_be_moved_to (target_kind_by (c.names y))) 6 here ≡ []
          → Each (UseAllowed may c) (use_of y there j true ∷ uses_among c.names [] fs j)
          → is_word_target may c results st (stat.Target.plain (tree.Tree.named y fs there)) j ≡ true
      answered y fs there here j shape sound uses =
          let reference = reference_faults sc (tree.Tree.named y fs there) in
          let last = unless (may_be_moved_to (target_kind_by (c.names y))) 6 here in
          (named_target y fs there j (left_none reference last sound) shape uses).word
          (moved_single (target_kind_by (c.names y)) (unless_none (may_be_moved_to (target_kind_by (c.names y))) 6 here (right_none reference last sound)))
  assign_effect_covered (stat.Target.plain r) e at k none to_shape shaped us = never to_shape
  assign_effect_covered (stat.Target.field r start size) e at k none to_shape shaped us = cc
  assign_effect_covered (stat.Target.address x a) e at k none to_shape shaped us = cc

  -- ---- calls

  pub call_covered : (x : List ℕ) (es : Trees) (at : At) (k : ℕ) → call_statement_faults sc x es at ≡ [] → are_shaped es ≡ true
      → Each (UseAllowed may c) (uses c.names (tree.Tree.named x es at) k) → is_covered_call may c st x (c.names x) es k ≡ true
  call_covered x es at k none shaped us =
      let name = called_by sc (callable (c.names x)) (c.names x) (count es) at in
      let others = arguments_faults sc (profile_formals (callable (c.names x))) es at in
      by (c.names x) refl (left_none name others none) (right_none name others none) us.1
    where
      given_arguments : (o : Option Sort) (p : Profile) → c.names x ≡ o → callable o ≡ Some p → CallSound sc o p (count es) false
          → arguments_faults sc p.formals es at ≡ [] → Each (UseAllowed may c) (uses_among c.names p.formals es (k + profile_result_words (Some p)))
          → are_covered_arguments may c st p.formals es (k + profile_result_words (Some p)) ≡ true
      given_arguments o p is calls s others us =
          arguments_covered may c st rules seen es p.formals at (k + profile_result_words (Some p)) s.many
          (seen.kinds x p (ap (λ (q : Option Sort). callable q) is ∙ calls)) others shaped us

      by : (o : Option Sort) → c.names x ≡ o → called_by sc (callable o) o (count es) at ≡ []
          → arguments_faults sc (profile_formals (callable o)) es at ≡ []
          → Each (UseAllowed may c) (uses_among c.names (profile_formals (callable o)) es (k + profile_result_words (callable o)))
          → is_covered_call may c st x o es k ≡ true
      by (Some (n.procedure p)) is none others us_given =
          let s = call_sound sc (Some (n.procedure p)) p (count es) false at none in
          and_from (may (procedure x) && not st.split) (are_covered_arguments may c st p.formals es (k + result_words p))
          (and_from (may (procedure x)) (not st.split) (us.0.called p is refl) (not_from_false st.split (s.whole refl)))
          (given_arguments (Some (n.procedure p)) p is refl s others us_given)
      by (Some (n.subroutine p)) is none others us_given =
          let s = call_sound sc (Some (n.subroutine p)) p (count es) false at none in
          and_from (may (subroutine x) && is_some (c.subroutines x)) (are_covered_arguments may c st p.formals es (k + result_words p))
          (and_from (may (subroutine x)) (is_some (c.subroutines x)) (seen.subroutines x p is) (seen.entries x p is))
          (given_arguments (Some (n.subroutine p)) p is refl s others us_given)
      by (Some (n.intrinsic i)) is none others us_given =
          let s = call_sound sc (Some (n.intrinsic i)) (intrinsic_profile i) (count es) false at none in
          or_left _ false
          (and_from (is_gate st x i) (are_covered_arguments may c st (intrinsic_profile i).formals es (k + result_words (intrinsic_profile i)))
          (own_gate st x i (s.whole refl) (seen.intrinsics x i is)) (given_arguments (Some (n.intrinsic i)) (intrinsic_profile i) is refl s others us_given))
      by None is none others us_given = clash (fault 1 at) [] none
      by (Some n.unknown) is none others us_given = never (seen.known x n.unknown is)
      by o is none others us_given = clash (fault 3 at) [] none
