-- MOVE and SCAN, over references to elements of one word.
use Rattle.std.proofs.Common.{◌≡◌, ℕ, zero, suc, Bool, true, List, [], ◌∷◌, Option, Some, None, refl, sym, ap, ◌∙◌}
use Rattle.std.specs.Prelude.{◌&&◌, nat_lt}
use Rattle.std.specs.List.{list_all}
use Rattle.std.proofs.lemmas.Bool.{false≢true}
use Rattle.spl_safe_values.specs.hp_word.Words.{signed}
use Rattle.spl_safe_values.specs.spl_tree.declared.expressions.Kind.{Kind}
use Rattle.spl_safe_values.specs.spl_tree.declared.expressions.Kind.TheVariants as kind
use Rattle.spl_safe_values.specs.spl_tree.Trees as tree
use Rattle.spl_safe_values.specs.spl_tree.Trees.{Tree}
use Rattle.spl_safe_values.specs.spl_tree.StatementTrees as stat
use Rattle.spl_safe_values.specs.spl_tree.StatementTrees.{Effect}
use Rattle.spl_safe_values.specs.spl_meaning.Kinds.{width, variable_kind}
use Rattle.spl_safe_values.specs.spl_meaning.Elements.{next_located, neighbour, count_size, is_upward, distance, moved, moved_by, text_elements, moved_list, moved_text, is_of_class, of_class, moved_while, is_passed, scanned}
use Rattle.spl_safe_values.specs.spl_meaning.Pending.{behind_first, behind_second}
use Rattle.spl_safe_values.specs.spl_meaning.Places.{Place}
use Rattle.spl_safe_values.specs.spl_meaning.References.{Setting, Located, access_of}
use Rattle.spl_safe_values.specs.spl_meaning.States.{State, Outcome}
use Rattle.spl_safe_values.specs.spl_meaning.Statements.{moved_far, effect_done}
use Rattle.spl_safe_values.specs.spl_meaning.Values.{Who, Callee, located}
use Rattle.spl_safe_values.specs.spl_code.Calls.{Scope}
use Rattle.spl_safe_values.specs.spl_covered.Covered.{is_covered, is_covered_address}
use Rattle.spl_safe_values.specs.spl_covered.spl_byte_tests.Elements.{is_moved_place}
use Rattle.spl_safe_values.specs.spl_names.Names.{read_with}
use Rattle.spl_stores.specs.spl_statement_code.Effects.{leads_to_bytes}
use Rattle.spl_stores.specs.spl_moved.Moved.{is_moved_kind, is_moved, is_moved_source, is_covered_effect}
use Rattle.spl_safe_values.specs.Safe.{SafeCalls}
use Rattle.spl_safe_effects.specs.Laws.{EffectsAreSafe}
use Rattle.spl_safe_values.proofs.spl_values_proofs.VariableLemmas.{both}
use Rattle.spl_safe_values.proofs.Came.{Comes, came_safe, Free, One, comes_go, comes_more, comes_done, comes_spent, comes_if, comes_step, comes_one}
use Rattle.spl_safe_values.proofs.Stores.{read_comes, store_comes}
use Rattle.spl_safe_values.proofs.Bytes.{Narrow, neighbour_narrow}
use Rattle.spl_safe_values.proofs.ValueLemmas.{values_come, references_come}

-- ---- elements

moved_comes : (up : Bool) (n : ℕ) (to from : Located) → Narrow to → Narrow from → Comes Free (moved up n to from)
moved_comes up zero to from one other = comes_done to tt
moved_comes up (suc n) to from one other =
    comes_step (comes_go (read_comes from) (λ vs x. comes_go (store_comes to vs (x ∙ other ∙ sym one)) (λ u _.
    moved_comes up n (neighbour up to) (neighbour up from) (neighbour_narrow up to one) (neighbour_narrow up from other))))

moved_list_comes : (vs : List ℕ) (to : Located) → Narrow to → Comes Free (moved_list vs to)
moved_list_comes [] to one = comes_done to tt
moved_list_comes (v ∷ vs) to one = comes_step (comes_go (store_comes to (v ∷ []) (sym one)) (λ u _. moved_list_comes vs (next_located to) one))

moved_while_comes : (d c : ℕ) (to from : Located) → Narrow to → Narrow from → Comes Free (moved_while d c to from)
moved_while_comes zero c to from one other = comes_spent
moved_while_comes (suc d) c to from one other =
    comes_go (read_comes from) (λ vs x. comes_one vs (x ∙ other) (λ b. comes_if (is_of_class c b)
    (comes_step (comes_go (store_comes to (of_class c b ∷ []) (sym one)) (λ u _.
    moved_while_comes d c (next_located to) (next_located from) one other))) (comes_done to tt)))

scanned_comes : (d : ℕ) (until : Bool) (test : ℕ) (from : Located) → Narrow from → Comes Free (scanned d until test from)
scanned_comes zero until test from one = comes_spent
scanned_comes (suc d) until test from one =
    comes_go (read_comes from) (λ vs x. comes_one vs (x ∙ one) (λ b. comes_if (is_passed until test b)
    (comes_step (scanned_comes d until test (next_located from) one)) (comes_done from tt)))

-- what is answered
far_comes : (p : Located) (f : State → Outcome Located) → Comes Free f → Comes One (λ s. moved_far p (f s))
far_comes p f h = comes_go h (λ end _. comes_done (distance end p.address ∷ []) refl)

-- ---- the tree

-- what is moved has one word
kind_narrow : (bytes : Bool) (o : Option Kind) (t : Kind) → is_moved_kind bytes o ≡ true → o ≡ Some t → width t ≡ 1
kind_narrow bytes (Some kind.Byte) t e is = let q : kind.Byte ≡ t = cc in sym (ap width q)
kind_narrow bytes (Some kind.Integer) t e is = let q : kind.Integer ≡ t = cc in sym (ap width q)
kind_narrow bytes (Some kind.Logical) t e is = let q : kind.Logical ≡ t = cc in sym (ap width q)
kind_narrow bytes (Some kind.Double) t e is = absurd (false≢true e)
kind_narrow bytes None t e is = absurd (false≢true e)

module _ (may : Who → Bool) (c : Scope) (results : List ℕ → Option (Kind × Place)) (st : Setting) (call : Callee) (calls : SafeCalls may c.names call) where
  moved_reference : (bytes : Bool) (e : Tree) (k : ℕ) → is_moved may c st bytes e k ≡ true → Comes Narrow (located (read_with c results st) call e k)
  moved_reference bytes (tree.Tree.named x es at) k e =
      let two = both (is_moved_kind bytes (variable_kind (c.names x)) && is_moved_place st (access_of (c.names x))) (is_covered_address may c st x es k) e in
      let first = both (is_moved_kind bytes (variable_kind (c.names x))) (is_moved_place st (access_of (c.names x))) two.0 in
      comes_more (references_come may c results st call calls (tree.Tree.named x es at) k two.1)
      (λ p led. kind_narrow bytes (variable_kind (c.names x)) p.kind first.0 led)
  moved_reference bytes t k e = absurd (false≢true e)

  pub effects_come : (d : ℕ) (used : Bool) (e : Effect) (k : ℕ) → is_covered_effect may c st used e k ≡ true
      → Comes One (effect_done (read_with c results st) call d used e k)
  effects_come d used (stat.Effect.move to (stat.Source.counted from count)) k e =
      let two = both (is_moved may c st (leads_to_bytes c to) to k) (is_moved_source may c st used (leads_to_bytes c to) (stat.Source.counted from count) k) e in
      let rest = both (is_moved may c st (leads_to_bytes c to) from (behind_first used k)) (is_covered may c st count (behind_second used k)) two.1 in
      comes_go (moved_reference (leads_to_bytes c to) to k two.0) (λ p one.
      comes_go (moved_reference (leads_to_bytes c to) from (behind_first used k) rest.0) (λ q other.
      comes_go (values_come may c results st call calls count (behind_second used k) rest.1) (λ vs single. comes_one vs single (λ size.
      far_comes p (moved_by size p q) (moved_comes (is_upward (signed size)) (count_size (signed size)) p q one other)))))
  effects_come d used (stat.Effect.move to (stat.Source.text bytes)) k e =
      let two = both (is_moved may c st (leads_to_bytes c to) to k) (list_all (λ b. nat_lt b 256) bytes) e in
      comes_go (moved_reference (leads_to_bytes c to) to k two.0) (λ p one.
      far_comes p (moved_text bytes p) (moved_list_comes (text_elements p.kind bytes) p one))
  effects_come d used (stat.Effect.move to (stat.Source.class_of from class)) k e =
      let two = both (is_moved may c st (leads_to_bytes c to) to k) (leads_to_bytes c to && is_moved may c st true from (behind_first used k)) e in
      let rest = both (leads_to_bytes c to) (is_moved may c st true from (behind_first used k)) two.1 in
      comes_go (moved_reference (leads_to_bytes c to) to k two.0) (λ p one. comes_go (moved_reference true from (behind_first used k) rest.1) (λ q other.
      far_comes p (moved_while (suc d) class p q) (moved_while_comes (suc d) class p q one other)))
  effects_come d used (stat.Effect.scan from until test) k e =
      let two = both (is_moved may c st true from k) (is_covered may c st test (behind_first used k)) e in
      comes_go (moved_reference true from k two.0) (λ p one.
      comes_go (values_come may c results st call calls test (behind_first used k) two.1) (λ vs single. comes_one vs single (λ w.
      far_comes p (scanned (suc d) until w p) (scanned_comes (suc d) until w p one))))

pub effects_safe : EffectsAreSafe
effects_safe may c results st call d used e k s calls h whole = came_safe One _ ((effects_come may c results st call calls d used e k h).is s whole)
