-- Statements that are covered call what is linked, along the tree.
use Rattle.std.proofs.Common.{◌≡◌, ◌⊎◌, inl, inr, ℕ, ◌+◌, ◌-◌, ◌%◌, ◌&&◌, ◌||◌, not, Bool, true, false, List, [], ◌∷◌, is_some, Option, Some, None, refl}
use Rattle.std.proofs.lemmas.Bool.{and_parts, and_from, or_left}
use Rattle.spl_linked_values.specs.spl_covered.spl_tree.declared.names_and_places.At.{At}
use Rattle.spl_linked_values.specs.spl_covered.spl_tree.declared.expressions.Kind.{Kind}
use Rattle.spl_linked_values.specs.spl_covered.spl_tree.Trees as tree
use Rattle.spl_linked_values.specs.spl_covered.spl_tree.Trees.{Tree, Trees}
use Rattle.spl_linked_values.specs.spl_covered.spl_tree.StatementTrees as stat
use Rattle.spl_linked_values.specs.spl_covered.spl_tree.StatementTrees.{Statement, Statements, Target, Source, Effect}
use Rattle.spl_linked_values.specs.spl_covered.spl_meaning.Kinds.{callable, variable_kind}
use Rattle.spl_linked_values.specs.spl_covered.spl_meaning.Names as n
use Rattle.spl_linked_values.specs.spl_covered.spl_meaning.Names.{Sort, Profile, intrinsic_profile}
use Rattle.spl_linked_values.specs.spl_covered.spl_meaning.Pending.{waiting, behind_first, behind_second, result_words}
use Rattle.spl_linked_values.specs.spl_covered.spl_meaning.Places.{Place}
use Rattle.spl_linked_values.specs.spl_covered.spl_meaning.References.{Setting, access_of}
use Rattle.spl_linked_values.specs.spl_covered.spl_meaning.Values.{Who, procedure, subroutine, small_constant, sense_of}
use Rattle.spl_linked_values.specs.spl_covered.spl_branch.declared.pieces.Piece.TheVariants.{Mark, Begin}
use Rattle.spl_linked_values.specs.spl_covered.spl_code.Instructions.{LDI, DEL, BR, BCC}
use Rattle.spl_linked_values.specs.spl_covered.spl_code.Operators.{failing_codes}
use Rattle.spl_linked_values.specs.spl_covered.spl_code.Parts.{Part, Wanted, pieces, ◌⨟◌}
use Rattle.spl_linked_values.specs.spl_covered.spl_code.Constants.{constant}
use Rattle.spl_linked_values.specs.spl_covered.spl_code.Calls.{Scope}
use Rattle.spl_linked_values.specs.spl_covered.spl_code.Code.{as_value, as_test, code, reference, arguments, index, variable, is_indexed, named}
use Rattle.spl_linked_values.specs.spl_covered.spl_whom.Whom.{is_gate}
use Rattle.spl_linked_values.specs.spl_covered.spl_names.Names.{is_led_element, is_wide_element}
use Rattle.spl_linked_values.specs.spl_covered.spl_byte_tests.Elements.{is_moved_place}
use Rattle.spl_linked_values.specs.spl_covered.Covered.{is_covered, is_wide, is_covered_address, are_covered_arguments}
use Rattle.spl_linked_values.specs.Linked.{is_linked, linked_of, Tells}
use Rattle.spl_linked_values.proofs.PartLaws.{never, either, tell_pieces, tell_then, tell_behind, tell_before, tell_fresh, tell_as}
use Rattle.spl_linked_values.proofs.Expressions.{tell_offset, tell_code, tell_wide, tell_reference, tell_arguments, tell_procedure, tell_subroutine, tell_calling, tell_asked, both_told, with_first, tell_either, inner_less, closed}
use Rattle.spl_safe_parts.specs.spl_safe_effects.spl_stores.spl_statement_code.Instructions.{TEST, LSUB, SUBS, TBA, MTBA}
use Rattle.spl_safe_parts.specs.spl_safe_effects.spl_stores.spl_statement_code.Landings.{Landing, Context, dropped, jump, gone_to, landed}
use Rattle.spl_safe_parts.specs.spl_safe_effects.spl_stores.spl_statement_code.Assignments.{target_index, target_stored, assigned}
use Rattle.spl_safe_parts.specs.spl_safe_effects.spl_stores.spl_statement_code.Effects.{kept_first, told, text_scaled, text_count, move_of, scan_of, leads_to_bytes, source_moved, effect}
use Rattle.spl_safe_parts.specs.spl_safe_effects.spl_stores.spl_statement_code.Statements.{tested, chosen, chosen_or, counter, step_value, turns, arm, result_dropped, result_of, call_dropped, statement, listed, arms}
use Rattle.spl_safe_parts.specs.spl_safe_effects.spl_stores.spl_targets.Targets.{is_word_target, has_field_elements}
use Rattle.spl_safe_parts.specs.spl_safe_effects.spl_stores.spl_field_stores.Laws.{is_within}
use Rattle.spl_safe_parts.specs.spl_safe_effects.spl_stores.spl_wide.Wide.{is_wide_target}
use Rattle.spl_safe_parts.specs.spl_safe_effects.spl_stores.spl_assigned.Assigned.{is_covered_assignment}
use Rattle.spl_safe_parts.specs.spl_safe_effects.spl_stores.spl_calls.Covered.{is_covered_question, is_covered_call}
use Rattle.spl_safe_parts.specs.spl_safe_effects.spl_stores.spl_moved.Moved.{is_moved_kind, is_moved, is_moved_source, is_covered_effect}
use Rattle.spl_safe_parts.specs.spl_safe_effects.spl_stores.Covered.{is_stored_effect, is_counted_name, is_covered_step, is_covered_statement, are_covered}
use Rattle.spl_linked_calls.specs.Laws.{CoveredListsAreLinked}

-- ---- jumps and tests of the condition code

tell_jump : {t : Wanted → Bool} {P : Type 0} (k mark : ℕ) → P → Tells t P (jump k mark)
tell_jump k mark p = tell_behind (BR mark ∷ []) (tell_pieces (dropped k) p)

tell_gone : {t : Wanted → Bool} {P : Type 0} (o : Option Landing) (k : ℕ) → P → Tells t P (gone_to o k)
tell_gone (Some l) k p = tell_jump (k - l.pending) l.mark p
tell_gone None k p = tell_pieces [] p

tell_landed : {t : Wanted → Bool} {P : Type 0} (o : Option Landing) → P → Tells t P (landed o)
tell_landed (Some l) p = tell_pieces (Mark l.mark ∷ []) p
tell_landed None p = tell_pieces [] p

-- what stands behind a part that says nothing
tell_last : {t : Wanted → Bool} {P : Type 0} {a b : Part} → Tells t (Unit {0}) a → Tells t P b → Tells t P (a ⨟ b)
tell_last u v = tell_as (λ (both : Unit {0} × _). both.1) (tell_then u v)

module _ (t : Wanted → Bool) (may : Who → Bool) (returns : Bool) (c : Context) (results : List ℕ → Option (Kind × Place)) (st : Setting) where
  abbrev sc : Scope
  sc = c.scope

  abbrev fewer : Who → Bool
  fewer = linked_of t c.scope may

  -- ---- targets

  -- an index
  tell_index : (b : Bool) (e : Tree) (k : ℕ) → (b && is_covered may sc st e k) ≡ true → Tells t ((b && is_covered fewer sc st e k) ≡ true) (code sc e as_value k)
  tell_index b e k h = let two = and_parts b (is_covered may sc st e k) h in with_first t may sc st b (is_covered fewer sc st e k) two.0 (tell_code t may sc st e as_value k two.1)

  tell_target : (to : Target) (k : ℕ) → is_word_target may sc results st to k ≡ true → Tells t (is_word_target fewer sc results st to k ≡ true) (target_index sc to k)
  tell_target (stat.Target.plain (tree.Tree.named x tree.Trees.none at)) k h = tell_pieces [] h
  tell_target (stat.Target.plain (tree.Tree.named x (tree.Trees.and e tree.Trees.none) at)) k h =
      let led = is_led_element st k (access_of (sc.names x)) (sc.places x) in
      tell_as (λ r. or_left (led && is_covered fewer sc st e k) false r) (tell_index led e k (of_first (led && is_covered may sc st e k) h))
    where
      of_first : (b : Bool) → (b || false) ≡ true → b ≡ true
      of_first true e' = refl
      of_first false e' = e'
  tell_target (stat.Target.plain (tree.Tree.named x (tree.Trees.and e (tree.Trees.and f fs)) at)) k h = never h
  tell_target (stat.Target.plain (tree.Tree.number v)) k h = never h
  tell_target (stat.Target.plain (tree.Tree.wide v)) k h = never h
  tell_target (stat.Target.plain (tree.Tree.text bytes)) k h = never h
  tell_target (stat.Target.plain (tree.Tree.truth b)) k h = never h
  tell_target (stat.Target.plain (tree.Tree.address x es at)) k h = never h
  tell_target (stat.Target.plain (tree.Tree.unary op a at)) k h = never h
  tell_target (stat.Target.plain (tree.Tree.binary op a b at)) k h = never h
  tell_target (stat.Target.plain (tree.Tree.shift op a by at)) k h = never h
  tell_target (stat.Target.plain (tree.Tree.field a start size at)) k h = never h
  tell_target (stat.Target.plain (tree.Tree.transfer to a at)) k h = never h
  tell_target (stat.Target.plain (tree.Tree.bytes op a b count at)) k h = never h
  tell_target (stat.Target.field (tree.Tree.named x tree.Trees.none at) start size) k h = tell_pieces [] h
  tell_target (stat.Target.field (tree.Tree.named x (tree.Trees.and e tree.Trees.none) at) start size) k h =
      let within = is_within (small_constant sc.names start) (small_constant sc.names size) in
      let has = has_field_elements st k (sc.names x) (sc.places x) in
      let two = and_parts within (has && is_covered may sc st e k) (of_first (within && (has && is_covered may sc st e k)) h) in
      tell_as (λ r. or_left (within && (has && is_covered fewer sc st e k)) false r)
      (with_first t may sc st within (has && is_covered fewer sc st e k) two.0 (tell_index has e k two.1))
    where
      of_first : (b : Bool) → (b || false) ≡ true → b ≡ true
      of_first true e' = refl
      of_first false e' = e'
  tell_target (stat.Target.field (tree.Tree.named x (tree.Trees.and e (tree.Trees.and f fs)) at) start size) k h = never h
  tell_target (stat.Target.field (tree.Tree.number v) start size) k h = never h
  tell_target (stat.Target.field (tree.Tree.wide v) start size) k h = never h
  tell_target (stat.Target.field (tree.Tree.text bytes) start size) k h = never h
  tell_target (stat.Target.field (tree.Tree.truth b) start size) k h = never h
  tell_target (stat.Target.field (tree.Tree.address x es at) start size) k h = never h
  tell_target (stat.Target.field (tree.Tree.unary op a at) start size) k h = never h
  tell_target (stat.Target.field (tree.Tree.binary op a b at) start size) k h = never h
  tell_target (stat.Target.field (tree.Tree.shift op a by at) start size) k h = never h
  tell_target (stat.Target.field (tree.Tree.field a s z at) start size) k h = never h
  tell_target (stat.Target.field (tree.Tree.transfer to a at) start size) k h = never h
  tell_target (stat.Target.field (tree.Tree.bytes op a b count at) start size) k h = never h
  tell_target (stat.Target.address x at) k h = tell_pieces [] h

  tell_wide_target : (to : Target) (k : ℕ) → is_wide_target may sc results st to k ≡ true → Tells t (is_wide_target fewer sc results st to k ≡ true) (target_index sc to k)
  tell_wide_target (stat.Target.plain (tree.Tree.named x tree.Trees.none at)) k h = tell_pieces [] h
  tell_wide_target (stat.Target.plain (tree.Tree.named x (tree.Trees.and e tree.Trees.none) at)) k h =
      tell_index (is_wide_element st k (access_of (sc.names x)) (sc.places x)) e k h
  tell_wide_target (stat.Target.plain (tree.Tree.named x (tree.Trees.and e (tree.Trees.and f fs)) at)) k h = never h
  tell_wide_target (stat.Target.plain (tree.Tree.number v)) k h = never h
  tell_wide_target (stat.Target.plain (tree.Tree.wide v)) k h = never h
  tell_wide_target (stat.Target.plain (tree.Tree.text bytes)) k h = never h
  tell_wide_target (stat.Target.plain (tree.Tree.truth b)) k h = never h
  tell_wide_target (stat.Target.plain (tree.Tree.address x es at)) k h = never h
  tell_wide_target (stat.Target.plain (tree.Tree.unary op a at)) k h = never h
  tell_wide_target (stat.Target.plain (tree.Tree.binary op a b at)) k h = never h
  tell_wide_target (stat.Target.plain (tree.Tree.shift op a by at)) k h = never h
  tell_wide_target (stat.Target.plain (tree.Tree.field a start size at)) k h = never h
  tell_wide_target (stat.Target.plain (tree.Tree.transfer to a at)) k h = never h
  tell_wide_target (stat.Target.plain (tree.Tree.bytes op a b count at)) k h = never h
  tell_wide_target (stat.Target.field r start size) k h = never h
  tell_wide_target (stat.Target.address x at) k h = never h

  -- a target and a value
  tell_assigned : (to : Target) (value : ℕ → Part) (k : ℕ) (p q : Bool) → Tells t (p ≡ true) (target_index sc to k) → Tells t (q ≡ true) (value (waiting to k))
      → Tells t ((p && q) ≡ true) (assigned sc to value k)
  tell_assigned to value k p q u v = tell_behind (target_stored sc to k) (both_told t may sc st p q (tell_then u v))

  tell_assignment : (to : Target) (e : Tree) (k : ℕ) → is_covered_assignment may sc results st to e k ≡ true
      → Tells t (is_covered_assignment fewer sc results st to e k ≡ true) (assigned sc to (λ j. code sc e as_value j) k)
  tell_assignment to e k h =
      tell_either t may sc st (is_word_target may sc results st to k && is_covered may sc st e (waiting to k)) (is_wide_target may sc results st to k && is_wide may sc st e (waiting to k))
      (is_word_target fewer sc results st to k && is_covered fewer sc st e (waiting to k)) (is_wide_target fewer sc results st to k && is_wide fewer sc st e (waiting to k)) h
      (λ g. let two = and_parts (is_word_target may sc results st to k) (is_covered may sc st e (waiting to k)) g in
      tell_assigned to (λ j. code sc e as_value j) k (is_word_target fewer sc results st to k) (is_covered fewer sc st e (waiting to k))
      (tell_target to k two.0) (tell_code t may sc st e as_value (waiting to k) two.1))
      (λ g. let two = and_parts (is_wide_target may sc results st to k) (is_wide may sc st e (waiting to k)) g in
      tell_assigned to (λ j. code sc e as_value j) k (is_wide_target fewer sc results st to k) (is_wide fewer sc st e (waiting to k))
      (tell_wide_target to k two.0) (tell_wide t may sc st e as_value (waiting to k) two.1))

  -- ---- MOVE and SCAN

  tell_moved : (bytes : Bool) (e : Tree) (k : ℕ) → is_moved may sc st bytes e k ≡ true → Tells t (is_moved fewer sc st bytes e k ≡ true) (reference sc e k)
  tell_moved bytes (tree.Tree.named x es at) k h =
      let kinds = is_moved_kind bytes (variable_kind (sc.names x)) && is_moved_place st (access_of (sc.names x)) in
      let two = and_parts kinds (is_covered_address may sc st x es k) h in
      with_first t may sc st kinds (is_covered_address fewer sc st x es k) two.0 (tell_reference t may sc st (tree.Tree.named x es at) k two.1)
  tell_moved bytes (tree.Tree.number v) k h = never h
  tell_moved bytes (tree.Tree.wide v) k h = never h
  tell_moved bytes (tree.Tree.text text) k h = never h
  tell_moved bytes (tree.Tree.truth b) k h = never h
  tell_moved bytes (tree.Tree.address x es at) k h = never h
  tell_moved bytes (tree.Tree.unary op a at) k h = never h
  tell_moved bytes (tree.Tree.binary op a b at) k h = never h
  tell_moved bytes (tree.Tree.shift op a by at) k h = never h
  tell_moved bytes (tree.Tree.field a start size at) k h = never h
  tell_moved bytes (tree.Tree.transfer to a at) k h = never h
  tell_moved bytes (tree.Tree.bytes op a b count at) k h = never h

  tell_source : (used bytes : Bool) (from : Source) (k : ℕ) → is_moved_source may sc st used bytes from k ≡ true
      → Tells t (is_moved_source fewer sc st used bytes from k ≡ true) (source_moved sc used bytes from k)
  tell_source used bytes (stat.Source.counted from count) k h =
      let two = and_parts (is_moved may sc st bytes from (behind_first used k)) (is_covered may sc st count (behind_second used k)) h in
      tell_behind (move_of bytes 0 ∷ []) (both_told t may sc st (is_moved fewer sc st bytes from (behind_first used k)) (is_covered fewer sc st count (behind_second used k))
      (tell_then (tell_moved bytes from (behind_first used k) two.0) (tell_code t may sc st count as_value (behind_second used k) two.1)))
  tell_source used bytes (stat.Source.text text) k h =
      tell_behind (move_of bytes 1 ∷ []) (tell_behind (constant (text_count bytes text % 65536)) (tell_behind (text_scaled bytes) (tell_offset text h)))
  tell_source used bytes (stat.Source.class_of from class) k h =
      let two = and_parts bytes (is_moved may sc st true from (behind_first used k)) h in
      tell_behind _ (with_first t may sc st bytes (is_moved fewer sc st true from (behind_first used k)) two.0 (tell_moved true from (behind_first used k) two.1))

  tell_effect : (used : Bool) (e : Effect) (k : ℕ) → is_covered_effect may sc st used e k ≡ true
      → Tells t (is_covered_effect fewer sc st used e k ≡ true) (effect sc used e k)
  tell_effect used (stat.Effect.move to from) k h =
      let two = and_parts (is_moved may sc st (leads_to_bytes sc to) to k) (is_moved_source may sc st used (leads_to_bytes sc to) from k) h in
      tell_behind (told used) (both_told t may sc st (is_moved fewer sc st (leads_to_bytes sc to) to k) (is_moved_source fewer sc st used (leads_to_bytes sc to) from k)
      (tell_then (tell_behind (kept_first used) (tell_moved (leads_to_bytes sc to) to k two.0)) (tell_source used (leads_to_bytes sc to) from k two.1)))
  tell_effect used (stat.Effect.scan from until e) k h =
      let two = and_parts (is_moved may sc st true from k) (is_covered may sc st e (behind_first used k)) h in
      tell_behind (told used) (tell_behind (scan_of until ∷ []) (both_told t may sc st (is_moved fewer sc st true from k) (is_covered fewer sc st e (behind_first used k))
      (tell_then (tell_behind (kept_first used) (tell_moved true from k two.0)) (tell_code t may sc st e as_value (behind_first used k) two.1))))

  tell_stored : (to : Target) (e : Effect) (k : ℕ) → is_stored_effect may sc results st to e k ≡ true
      → Tells t (is_stored_effect fewer sc results st to e k ≡ true) (assigned sc to (λ j. effect sc true e j) k)
  tell_stored to e k h =
      let two = and_parts (is_word_target may sc results st to k) (is_covered_effect may sc st true e (waiting to k)) h in
      tell_assigned to (λ j. effect sc true e j) k (is_word_target fewer sc results st to k) (is_covered_effect fewer sc st true e (waiting to k)) (tell_target to k two.0)
      (tell_effect true e (waiting to k) two.1)

  -- ---- calls

  -- a call by itself, by what its name stands for
  tell_call : (x : List ℕ) (o : Option Sort) (es : Trees) (k : ℕ) (at : Part) → is_covered_call may sc st x o es k ≡ true
      → Tells t (is_covered_call fewer sc st x o es k ≡ true) (named sc x (sense_of x o) (λ p. arguments sc p.formals es (k + result_words p)) at)
  tell_call x (Some (n.intrinsic i)) es k at h = by (either (is_covered_question may sc st x i es k) false h)
    where
      p : Profile
      p = intrinsic_profile i

      of_question : is_covered_question may sc st x i es k ≡ true
          → Tells t ((is_covered_question fewer sc st x i es k || false) ≡ true) (named sc x (sense_of x (Some (n.intrinsic i))) (λ q. arguments sc q.formals es (k + result_words q)) at)
      of_question e =
          let two = and_parts (is_gate st x i) (are_covered_arguments may sc st (intrinsic_profile i).formals es (k + result_words (intrinsic_profile i))) e in
          tell_as (λ r. or_left (is_covered_question fewer sc st x i es k) false r)
          (with_first t may sc st (is_gate st x i) (are_covered_arguments fewer sc st (intrinsic_profile i).formals es (k + result_words (intrinsic_profile i))) two.0
          (tell_asked t may sc st x i _ (tell_arguments t may sc st (intrinsic_profile i).formals es (k + result_words (intrinsic_profile i)) two.1)))

      by : (is_covered_question may sc st x i es k ≡ true) ⊎ (false ≡ true)
          → Tells t ((is_covered_question fewer sc st x i es k || false) ≡ true) (named sc x (sense_of x (Some (n.intrinsic i))) (λ q. arguments sc q.formals es (k + result_words q)) at)
      by (inl e) = of_question e
      by (inr e) = never e
  tell_call x (Some (n.procedure p)) es k at h =
      let two = and_parts (may (procedure x) && not st.split) (are_covered_arguments may sc st p.formals es (k + result_words p)) h in
      tell_as (λ (both : (are_covered_arguments fewer sc st p.formals es (k + result_words p) ≡ true) × (is_linked t sc (procedure x) ≡ true)).
      and_from (fewer (procedure x) && not st.split) (are_covered_arguments fewer sc st p.formals es (k + result_words p))
      (called (not st.split) two.0 both.1) both.0)
      (tell_calling t may sc st p _ _ (tell_arguments t may sc st p.formals es (k + result_words p) two.1) (tell_procedure t may sc st x))
    where
      called : (b : Bool) → (may (procedure x) && b) ≡ true → is_linked t sc (procedure x) ≡ true → (fewer (procedure x) && b) ≡ true
      called b e linked = let one = and_parts (may (procedure x)) b e in and_from (fewer (procedure x)) b (and_from (may (procedure x)) (is_linked t sc (procedure x)) one.0 linked) one.1
  tell_call x (Some (n.subroutine p)) es k at h =
      let two = and_parts (may (subroutine x) && is_some (sc.subroutines x)) (are_covered_arguments may sc st p.formals es (k + result_words p)) h in
      tell_as (λ (both : (are_covered_arguments fewer sc st p.formals es (k + result_words p) ≡ true) × Unit {0}).
      and_from (fewer (subroutine x) && is_some (sc.subroutines x)) (are_covered_arguments fewer sc st p.formals es (k + result_words p))
      (inner_less t may sc st x (is_some (sc.subroutines x)) two.0) both.0)
      (tell_calling t may sc st p _ _ (tell_arguments t may sc st p.formals es (k + result_words p) two.1) (tell_subroutine t may sc st (sc.subroutines x) tt))
  tell_call x None es k at h = never h
  tell_call x (Some (n.equate z)) es k at h = never h
  tell_call x (Some (n.simple w own)) es k at h = never h
  tell_call x (Some (n.array w own low high)) es k at h = never h
  tell_call x (Some (n.view w own base)) es k at h = never h
  tell_call x (Some (n.pointer w own)) es k at h = never h
  tell_call x (Some (n.value w)) es k at h = never h
  tell_call x (Some (n.by_reference w)) es k at h = never h
  tell_call x (Some (n.array_parameter w)) es k at h = never h
  tell_call x (Some n.label) es k at h = never h
  tell_call x (Some n.unknown) es k at h = never h

  tell_dropped : (x : List ℕ) (es : Trees) (at : At) (k : ℕ) → is_covered_call may sc st x (sc.names x) es k ≡ true
      → Tells t (is_covered_call fewer sc st x (sc.names x) es k ≡ true) (call_dropped sc x es at k)
  tell_dropped x es at k h =
      tell_behind (result_dropped (result_of (callable (sc.names x)))) (closed as_value (tell_call x (sc.names x) es k (index sc es false k ⨟ variable sc x (is_indexed es) k) h))

  -- ---- FOR and CASE

  tell_step : (es : Trees) (k : ℕ) → is_covered_step may sc st es k ≡ true → Tells t (is_covered_step fewer sc st es k ≡ true) (step_value sc es k)
  tell_step tree.Trees.none k h = tell_pieces (LDI 1 ∷ []) refl
  tell_step (tree.Trees.and e es) k h = tell_code t may sc st e as_value k h

  tell_turns : {P : Type 0} (body : Part) → Tells t P body → Tells t P (turns body)
  tell_turns body h = tell_fresh _ (λ again. tell_fresh _ (λ end.
      tell_behind (Mark end ∷ []) (tell_behind (MTBA again ∷ [])
      (tell_last (tell_behind (Mark again ∷ []) (tell_behind (BR end ∷ []) (tell_pieces (TBA again ∷ []) tt))) h))))

  tell_arm : {P : Type 0} (body : Part) (end : ℕ) → Tells t P body → Tells t P (arm body end)
  tell_arm body end h = tell_fresh _ (λ next.
      tell_behind (LSUB ∷ []) (tell_behind (LDI 1 ∷ []) (tell_behind (Mark next ∷ []) (tell_behind (BR end ∷ [])
      (tell_last (tell_behind (DEL ∷ []) (tell_behind (BCC (failing_codes 0) next ∷ []) (tell_pieces (TEST ∷ []) tt))) h)))))

  -- ---- IF

  tell_chosen : {P Q : Type 0} (at : At) (test : ℕ → Part) (s : Part) → ((f : ℕ) → Tells t P (test f)) → Tells t Q s
      → Tells t (P × Q) (pieces (Begin at ∷ []) ⨟ chosen test s)
  tell_chosen at test s u v = tell_before (Begin at ∷ []) (tell_fresh _ (λ fail. tell_behind (Mark fail ∷ []) (tell_then (u fail) v)))

  tell_chosen_or : {P Q R : Type 0} (at : At) (test : ℕ → Part) (s other : Part) → ((f : ℕ) → Tells t P (test f)) → Tells t Q s → Tells t R other
      → Tells t ((P × Q) × R) (pieces (Begin at ∷ []) ⨟ chosen_or test s other)
  tell_chosen_or at test s other u v w =
      tell_before (Begin at ∷ []) (tell_fresh _ (λ fail. tell_fresh _ (λ end.
      tell_behind (Mark end ∷ []) (tell_then (tell_behind (Mark fail ∷ []) (tell_behind (BR end ∷ []) (tell_then (u fail) v))) w))))

  -- a test of the condition code wants nothing
  tell_code_test : (op fail : ℕ) → Tells t (Unit {0}) (tested sc (stat.Test.code op) fail 0)
  tell_code_test op fail = tell_pieces _ tt

  -- ---- along the tree

  mutual
    pub tell_statement : (s : Statement) (k : ℕ) → is_covered_statement may returns sc results st s k ≡ true
        → Tells t (is_covered_statement fewer returns sc results st s k ≡ true) (statement c s k)
    tell_statement stat.Statement.empty k h = tell_pieces (SUBS 0 ∷ []) refl
    tell_statement (stat.Statement.labelled x at s) k h =
        tell_last (tell_behind (SUBS 0 ∷ []) (tell_landed (c.landings x) tt)) (tell_statement s k h)
    tell_statement (stat.Statement.block ss) k h = tell_before (SUBS 0 ∷ []) (tell_listed ss k h)
    tell_statement (stat.Statement.if_test (stat.Test.condition e) s stat.Statements.none at) k h =
        let two = and_parts (is_covered may sc st e k) (is_covered_statement may returns sc results st s k) h in
        both_told t may sc st (is_covered fewer sc st e k) (is_covered_statement fewer returns sc results st s k)
        (tell_chosen at _ _ (λ fail. tell_code t may sc st e (as_test fail) k two.0) (tell_statement s k two.1))
    tell_statement (stat.Statement.if_test (stat.Test.condition e) s (stat.Statements.and other stat.Statements.none) at) k h =
        let three = and_parts (is_covered may sc st e k && is_covered_statement may returns sc results st s k) (is_covered_statement may returns sc results st other k) h in
        let two = and_parts (is_covered may sc st e k) (is_covered_statement may returns sc results st s k) three.0 in
        tell_as (λ (told' : ((is_covered fewer sc st e k ≡ true) × (is_covered_statement fewer returns sc results st s k ≡ true))
        × (is_covered_statement fewer returns sc results st other k ≡ true)).
        and_from (is_covered fewer sc st e k && is_covered_statement fewer returns sc results st s k) (is_covered_statement fewer returns sc results st other k)
        (and_from (is_covered fewer sc st e k) (is_covered_statement fewer returns sc results st s k) told'.0.0 told'.0.1) told'.1)
        (tell_chosen_or at _ _ _ (λ fail. tell_code t may sc st e (as_test fail) k two.0) (tell_statement s k two.1) (tell_statement other k three.1))
    tell_statement (stat.Statement.if_test (stat.Test.condition e) s (stat.Statements.and other (stat.Statements.and more rest)) at) k h = never h
    tell_statement (stat.Statement.if_test (stat.Test.code op) s stat.Statements.none at) k h =
        tell_as (λ (told' : Unit {0} × (is_covered_statement fewer returns sc results st s k ≡ true)). told'.1)
        (tell_chosen at _ _ (λ fail. tell_code_test op fail) (tell_statement s k h))
    tell_statement (stat.Statement.if_test (stat.Test.code op) s (stat.Statements.and other stat.Statements.none) at) k h =
        let two = and_parts (is_covered_statement may returns sc results st s k) (is_covered_statement may returns sc results st other k) h in
        tell_as (λ (told' : (Unit {0} × (is_covered_statement fewer returns sc results st s k ≡ true)) × (is_covered_statement fewer returns sc results st other k ≡ true)).
        and_from (is_covered_statement fewer returns sc results st s k) (is_covered_statement fewer returns sc results st other k) told'.0.1 told'.1)
        (tell_chosen_or at _ _ _ (λ fail. tell_code_test op fail) (tell_statement s k two.0) (tell_statement other k two.1))
    tell_statement (stat.Statement.if_test (stat.Test.code op) s (stat.Statements.and other (stat.Statements.and more rest)) at) k h = never h
    tell_statement (stat.Statement.while_true e s at) k h =
        let two = and_parts (is_covered may sc st e k) (is_covered_statement may returns sc results st s k) h in
        both_told t may sc st (is_covered fewer sc st e k) (is_covered_statement fewer returns sc results st s k)
        (tell_fresh _ (λ next. tell_fresh _ (λ end.
        tell_behind (Mark end ∷ []) (tell_behind (BR next ∷ [])
        (tell_then (tell_before (Mark next ∷ []) (tell_code t may sc st e (as_test end) k two.0)) (tell_statement s k two.1))))))
    tell_statement (stat.Statement.until_true s e at) k h =
        let two = and_parts (is_covered may sc st e k) (is_covered_statement may returns sc results st s k) h in
        tell_fresh _ (λ again.
        tell_as (λ (told' : (is_covered_statement fewer returns sc results st s k ≡ true) × (is_covered fewer sc st e k ≡ true)).
        and_from (is_covered fewer sc st e k) (is_covered_statement fewer returns sc results st s k) told'.1 told'.0)
        (tell_then (tell_last (tell_behind (Mark again ∷ []) (tell_pieces (SUBS 0 ∷ []) tt)) (tell_statement s k two.1)) (tell_code t may sc st e (as_test again) k two.0)))
    tell_statement (stat.Statement.for_values x first step last s at) k h =
        let counts = is_counted_name st k (sc.names x) (sc.places x) in
        let five = and_parts (counts && is_covered may sc st first k && is_covered_step may sc st step (k + 1) && is_covered may sc st last (k + 2))
        (is_covered_statement may returns sc results st s (k + 3)) h in
        let four = and_parts (counts && is_covered may sc st first k && is_covered_step may sc st step (k + 1)) (is_covered may sc st last (k + 2)) five.0 in
        let three = and_parts (counts && is_covered may sc st first k) (is_covered_step may sc st step (k + 1)) four.0 in
        let two = and_parts counts (is_covered may sc st first k) three.0 in
        tell_as (λ (told' : (((is_covered fewer sc st first k ≡ true) × (is_covered_step fewer sc st step (k + 1) ≡ true)) × (is_covered fewer sc st last (k + 2) ≡ true))
        × (is_covered_statement fewer returns sc results st s (k + 3) ≡ true)).
        and_from (counts && is_covered fewer sc st first k && is_covered_step fewer sc st step (k + 1) && is_covered fewer sc st last (k + 2))
        (is_covered_statement fewer returns sc results st s (k + 3))
        (and_from (counts && is_covered fewer sc st first k && is_covered_step fewer sc st step (k + 1)) (is_covered fewer sc st last (k + 2))
        (and_from (counts && is_covered fewer sc st first k) (is_covered_step fewer sc st step (k + 1))
        (and_from counts (is_covered fewer sc st first k) two.0 told'.0.0.0) told'.0.0.1) told'.0.1) told'.1)
        (tell_then (tell_before (Begin at ∷ [])
        (tell_then (tell_then (tell_behind (counter sc x k) (tell_code t may sc st first as_value k two.1)) (tell_step step (k + 1) three.1))
        (tell_code t may sc st last as_value (k + 2) four.1)))
        (tell_turns (statement c s (k + 3)) (tell_statement s (k + 3) five.1)))
    tell_statement (stat.Statement.case_of e ss at) k h =
        let two = and_parts (is_covered may sc st e k) (are_covered may returns sc results st ss k) h in
        both_told t may sc st (is_covered fewer sc st e k) (are_covered fewer returns sc results st ss k)
        (tell_before (Begin at ∷ []) (tell_fresh _ (λ end.
        tell_behind (Mark end ∷ []) (tell_behind (DEL ∷ [])
        (tell_then (tell_code t may sc st e as_value k two.0) (tell_arms ss k end two.1))))))
    tell_statement (stat.Statement.go_to x at) k h = tell_before (Begin at ∷ []) (tell_gone (c.landings x) k refl)
    tell_statement (stat.Statement.return at) k h = tell_before (Begin at ∷ []) (tell_jump k c.leave h)
    tell_statement (stat.Statement.assign to e at) k h = tell_before (Begin at ∷ []) (tell_assignment to e k h)
    tell_statement (stat.Statement.assign_effect to e at) k h = tell_before (Begin at ∷ []) (tell_stored to e k h)
    tell_statement (stat.Statement.do_effect e at) k h = tell_before (Begin at ∷ []) (tell_effect false e k h)
    tell_statement (stat.Statement.call x es at) k h = tell_before (Begin at ∷ []) (tell_dropped x es at k h)

    pub tell_listed : (ss : Statements) (k : ℕ) → are_covered may returns sc results st ss k ≡ true
        → Tells t (are_covered fewer returns sc results st ss k ≡ true) (listed c ss k)
    tell_listed stat.Statements.none k h = tell_pieces [] refl
    tell_listed (stat.Statements.and s ss) k h =
        let two = and_parts (is_covered_statement may returns sc results st s k) (are_covered may returns sc results st ss k) h in
        both_told t may sc st (is_covered_statement fewer returns sc results st s k) (are_covered fewer returns sc results st ss k)
        (tell_then (tell_statement s k two.0) (tell_listed ss k two.1))

    tell_arms : (ss : Statements) (k end : ℕ) → are_covered may returns sc results st ss k ≡ true
        → Tells t (are_covered fewer returns sc results st ss k ≡ true) (arms c ss k end)
    tell_arms stat.Statements.none k end h = tell_pieces [] refl
    tell_arms (stat.Statements.and s ss) k end h =
        let two = and_parts (is_covered_statement may returns sc results st s k) (are_covered may returns sc results st ss k) h in
        both_told t may sc st (is_covered_statement fewer returns sc results st s k) (are_covered fewer returns sc results st ss k)
        (tell_then (tell_arm (statement c s k) end (tell_statement s k two.0)) (tell_arms ss k end two.1))

-- ---- the law

pub tell_lists : CoveredListsAreLinked
tell_lists t may returns c results st ss k h = tell_listed t may returns c results st ss k h
