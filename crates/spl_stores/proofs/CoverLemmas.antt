-- Statements that are covered, along the tree: their code is whole, and performs them.
use Rattle.std.proofs.Common.{◌≡◌, ℕ, ◌+◌, ◌-◌, ◌≤◌, Bool, true, false, List, [], ◌∷◌, ◌++◌, refl, sym, ap, subst, ◌∙◌, arith}
use Rattle.std.specs.Prelude.{Option, is_some, ◌&&◌}
use Rattle.std.proofs.lemmas.Bool.{false≢true}
use Rattle.std.proofs.lemmas.List.{append-nil}
use Rattle.spl_counts.specs.hp_instr.declared.instruction.Instr.TheVariants as i
use Rattle.spl_counts.specs.spl_branch.declared.pieces.Piece.TheVariants.{Do, Begin}
use Rattle.spl_counts.specs.spl_tree.declared.expressions.Kind.{Kind}
use Rattle.spl_counts.specs.spl_tree.declared.names_and_places.At.{At}
use Rattle.spl_counts.specs.spl_tree.StatementTrees as stat
use Rattle.spl_counts.specs.spl_tree.StatementTrees.{Statement, Statements}
use Rattle.spl_counts.specs.spl_meaning.Laws.{IsFront}
use Rattle.spl_counts.specs.spl_meaning.Pending.{statement_most, statements_most}
use Rattle.spl_counts.specs.spl_meaning.Places.{Place}
use Rattle.spl_counts.specs.spl_meaning.References.{Setting}
use Rattle.spl_counts.specs.spl_meaning.StatementRules.{has_name, list_labels}
use Rattle.spl_counts.specs.spl_meaning.Statements.{bears, bears_among, run, run_all, run_from, run_at, run_bearer, run_arm}
use Rattle.spl_counts.specs.spl_meaning.States.{back, leaves, stopping}
use Rattle.spl_counts.specs.spl_meaning.Stops.{stops}
use Rattle.spl_counts.specs.spl_meaning.Values.{Who, Callee}
use Rattle.spl_counts.specs.spl_code.Instructions.{BR}
use Rattle.spl_counts.specs.spl_code.Parts.{Wanted, piece, ◌⨟◌}
use Rattle.spl_counts.specs.spl_statement_code.Landings.{Context, dropped, jump}
use Rattle.spl_counts.specs.spl_statement_code.Statements.{statement, listed, arms}
use Rattle.spl_counts.specs.spl_follow.Standing.{due_after}
use Rattle.spl_counts.specs.spl_follow.Simulating.{Surroundings, Performs, PerformsAll}
use Rattle.spl_counts.proofs.spl_follow_proofs.StandLemmas.{closed_any, closed_last, due_add}
use Rattle.spl_counts.proofs.spl_control_proofs.SequenceLemmas.{idle_performs, nothing_performs, lists_perform}
use Rattle.spl_moved.specs.spl_covered.Covered.{is_covered}
use Rattle.spl_moved.specs.spl_names.Names.{read_with}
use Rattle.spl_counts.proofs.spl_values_proofs.VariableLemmas.{both}
use Rattle.spl_counts.proofs.spl_values_proofs.SumLemmas.{front_on}
use Rattle.spl_counts.proofs.spl_values_proofs.WholeLemmas.{whole_pieces}
use Rattle.spl_counts.specs.spl_values.Reached.{IsWhole}
use Rattle.spl_counts.specs.spl_choices.Laws.{Chooses}
use Rattle.spl_counts.proofs.spl_choices_proofs.CaseLemmas.{no_arm, arm_keeps}
use Rattle.spl_jumps.specs.Landed.{is_landing, is_landed, are_landed}
use Rattle.spl_jumps.specs.Laws.{PerformsAt, PerformsFrom, listing, ChoosesAt}
use Rattle.spl_jumps.proofs.JumpLemmas.{jumps}
use Rattle.spl_jumps.proofs.LabelLemmas.{unlabelled_at}
use Rattle.spl_jumps.proofs.LandLemmas.{nothing_from, lists_from, lists_land, blocks}
use Rattle.spl_jumps.proofs.ArmLemmas.{no_arm_at, arm_at, arms_land}
use Rattle.spl_jumps.proofs.LandedLemmas.{gone_whole, gone_performs, labelled_whole, labelled_performs, labelled_from}
use Rattle.spl_stores.specs.Covered.{is_covered_statement, are_covered}
use Rattle.spl_stores.specs.Laws.{MayReturn, CoveredStatementsAreWhole, CoveredStatementsPerform, CoveredListsPerform}
use Rattle.spl_stores.proofs.WithinLemmas.{Around, AroundAll, behind_label, one_around, others_around, list_around, counted_around}
use Rattle.spl_stores.proofs.CaseLemmas.{cased_whole, first_arm, case_performs}
use Rattle.spl_counts.specs.Laws.{leaving_at_most}
use Rattle.spl_stores.proofs.ForLemmas.{for_parts, for_whole, for_performs}
use Rattle.spl_stores.proofs.ChoiceLemmas.{if_whole, if_performs, else_whole, else_performs, loop_whole, while_performs, repeat_whole, until_performs, code_if_whole, code_if_performs, code_else_whole, code_else_performs}
use Rattle.spl_calls.proofs.ProcedureLemmas.{call_whole, call_performs}
use Rattle.spl_moved.proofs.EffectLemmas.{moves_whole, covered_moves_perform}
use Rattle.spl_assigned.proofs.AssignLemmas.{assignments_whole, assignments}
use Rattle.spl_stores.proofs.AssignLemmas.{effect_whole, effect_performs}

-- ---- RETURN

-- a jump to the way out: of as many words as wait none stays
returned_whole : (leave k : ℕ) (at : At) → IsWhole (piece (Begin at) ⨟ jump k leave)
returned_whole leave k at = record {
  closed = λ l ws. closed_last (Begin at ∷ dropped k) (BR leave ∷ []) refl;
  keeps = λ l ws. record { rest = []; is = sym (append-nil ws) };
}

returned_performs : (leave : ℕ) (z : Surroundings) (d k need number : ℕ) (at : At) → MayReturn leave z
    → Performs z d k need (piece (Begin at) ⨟ jump k leave) (λ s. stopping number at s (λ u. leaves back u))
returned_performs leave z d k need number at x =
    let none = x.held in
    let all : k - z.exits.held back ≡ k = omega (arith, none) in
    subst (λ (j : ℕ). Performs z d k need (piece (Begin at) ⨟ jump j leave) (λ s. stopping number at s (λ u. leaves back u))) all
    (jumps z d k need number leave at back x.leads)

-- ---- trees

mutual
  -- what is covered has whole code
  pub statement_whole : CoveredStatementsAreWhole
  statement_whole may returns c results st stat.Statement.empty k e labels f = whole_pieces (Do (i.Control 8 0) ∷ []) refl
  statement_whole may returns c results st (stat.Statement.block ss) k e labels f = record {
    closed = λ l ws. list_clear may returns c results st ss k e (labels ++ list_labels ss) f (l + 0) ws;
    keeps = λ l ws. list_keeps may returns c results st ss k e (labels ++ list_labels ss) f (l + 0) ws;
  }
  statement_whole may returns c results st (stat.Statement.assign to v at) k e labels f = assignments_whole may c results st to v at k e
  statement_whole may returns c results st (stat.Statement.labelled y at s) k e labels f =
      labelled_whole (c.landings y) (statement c s k)
      (statement_whole may returns c results st s k e labels (both (is_landing (c.landings y) k) (is_landed c.landings labels s k) f).1)
  statement_whole may returns c results st (stat.Statement.if_test (stat.Test.condition v) s stat.Statements.none at) k e labels f =
      let two = both (is_covered may c.scope st v k) (is_covered_statement may returns c.scope results st s k) e in
      if_whole may c st v s at k two.0 (statement_whole may returns c results st s k two.1 labels (both (is_landed c.landings labels s k) true f).0)
  statement_whole may returns c results st (stat.Statement.if_test (stat.Test.condition v) s (stat.Statements.and other stat.Statements.none) at) k e labels f =
      let two = both (is_covered may c.scope st v k && is_covered_statement may returns c.scope results st s k) (is_covered_statement may returns c.scope results st other k) e in
      let first = both (is_covered may c.scope st v k) (is_covered_statement may returns c.scope results st s k) two.0 in
      let lands = both (is_landed c.landings labels s k) (is_landed c.landings labels other k && true) f in
      else_whole may c st v s other at k first.0 (statement_whole may returns c results st s k first.1 labels lands.0)
      (statement_whole may returns c results st other k two.1 labels (both (is_landed c.landings labels other k) true lands.1).0)
  statement_whole may returns c results st (stat.Statement.if_test (stat.Test.condition v) s (stat.Statements.and other (stat.Statements.and more ss)) at) k e labels f = absurd (false≢true e)
  statement_whole may returns c results st (stat.Statement.if_test (stat.Test.code o) s stat.Statements.none at) k e labels f =
      code_if_whole c o s at k (statement_whole may returns c results st s k e labels (both (is_landed c.landings labels s k) true f).0)
  statement_whole may returns c results st (stat.Statement.if_test (stat.Test.code o) s (stat.Statements.and other stat.Statements.none) at) k e labels f =
      let two = both (is_covered_statement may returns c.scope results st s k) (is_covered_statement may returns c.scope results st other k) e in
      let lands = both (is_landed c.landings labels s k) (is_landed c.landings labels other k && true) f in
      code_else_whole c o s other at k (statement_whole may returns c results st s k two.0 labels lands.0)
      (statement_whole may returns c results st other k two.1 labels (both (is_landed c.landings labels other k) true lands.1).0)
  statement_whole may returns c results st (stat.Statement.if_test (stat.Test.code o) s (stat.Statements.and other (stat.Statements.and more ss)) at) k e labels f = absurd (false≢true e)
  statement_whole may returns c results st (stat.Statement.while_true v s at) k e labels f =
      let two = both (is_covered may c.scope st v k) (is_covered_statement may returns c.scope results st s k) e in
      loop_whole may c st v s at k two.0 (statement_whole may returns c results st s k two.1 labels f)
  statement_whole may returns c results st (stat.Statement.until_true s v at) k e labels f =
      let two = both (is_covered may c.scope st v k) (is_covered_statement may returns c.scope results st s k) e in
      repeat_whole may c st s v at k two.0 (statement_whole may returns c results st s k two.1 labels f)
  statement_whole may returns c results st (stat.Statement.for_values y a b v s at) k e labels f =
      let r = for_parts may returns c.scope results st y a b v s k e in for_whole may c st y a b v s at k r.counted r.first r.step r.last (statement_whole may returns c results st s (k + 3) r.inside labels f)
  statement_whole may returns c results st (stat.Statement.case_of v ss at) k e labels f =
      let two = both (is_covered may c.scope st v k) (are_covered may returns c.scope results st ss k) e in
      cased_whole may c st v ss at k two.0 (λ end l ws. arms_keep may returns c results st ss k two.1 (labels ++ list_labels ss) f end l ws)
  statement_whole may returns c results st (stat.Statement.go_to y at) k e labels f = gone_whole (c.landings y) at k (both (has_name labels y) (is_some (c.landings y)) f).1
  statement_whole may returns c results st (stat.Statement.return at) k e labels f = returned_whole c.leave k at
  statement_whole may returns c results st (stat.Statement.assign_effect to v at) k e labels f = effect_whole may c results st to v at k e
  statement_whole may returns c results st (stat.Statement.do_effect v at) k e labels f = moves_whole may c st v at k e
  statement_whole may returns c results st (stat.Statement.call y es at) k e labels f = call_whole may c st y es at k e

  -- nothing is due behind a list
  pub list_clear : (may : Who → Bool) (returns : Bool) (c : Context) (results : List ℕ → Option (Kind × Place)) (st : Setting) (ss : Statements) (k : ℕ) → are_covered may returns c.scope results st ss k ≡ true → (labels : List (List ℕ))
      → are_landed c.landings labels ss k ≡ true → (l : ℕ) (ws : List Wanted)
      → due_after false (listed c ss k l ws).pieces ≡ false
  list_clear may returns c results st stat.Statements.none k e labels f l ws = refl
  list_clear may returns c results st (stat.Statements.and s ss) k e labels f l ws =
      let two = both (is_covered_statement may returns c.scope results st s k) (are_covered may returns c.scope results st ss k) e in
      let lands = both (is_landed c.landings labels s k) (are_landed c.landings labels ss k) f in
      let a = statement c s k l ws in
      let b = listed c ss k (l + a.marks) a.wants in
      due_add false a.pieces b.pieces
      ∙ ap (λ (x : Bool). due_after x b.pieces) (closed_any false a.pieces ((statement_whole may returns c results st s k two.0 labels lands.0).closed l ws))
      ∙ list_clear may returns c results st ss k two.1 labels lands.1 (l + a.marks) a.wants

  -- and it keeps the names that are wanted
  list_keeps : (may : Who → Bool) (returns : Bool) (c : Context) (results : List ℕ → Option (Kind × Place)) (st : Setting) (ss : Statements) (k : ℕ) → are_covered may returns c.scope results st ss k ≡ true → (labels : List (List ℕ))
      → are_landed c.landings labels ss k ≡ true → (l : ℕ) (ws : List Wanted)
      → IsFront ws (listed c ss k l ws).wants
  list_keeps may returns c results st stat.Statements.none k e labels f l ws = record { rest = []; is = sym (append-nil ws) }
  list_keeps may returns c results st (stat.Statements.and s ss) k e labels f l ws =
      let two = both (is_covered_statement may returns c.scope results st s k) (are_covered may returns c.scope results st ss k) e in
      let lands = both (is_landed c.landings labels s k) (are_landed c.landings labels ss k) f in
      let a = statement c s k l ws in
      front_on ws a.wants (listed c ss k (l + a.marks) a.wants).wants ((statement_whole may returns c results st s k two.0 labels lands.0).keeps l ws)
      (list_keeps may returns c results st ss k two.1 labels lands.1 (l + a.marks) a.wants)

  -- so do arms
  arms_keep : (may : Who → Bool) (returns : Bool) (c : Context) (results : List ℕ → Option (Kind × Place)) (st : Setting) (ss : Statements) (k : ℕ) → are_covered may returns c.scope results st ss k ≡ true → (labels : List (List ℕ))
      → are_landed c.landings labels ss k ≡ true → (end l : ℕ) (ws : List Wanted)
      → IsFront ws (arms c ss k end l ws).wants
  arms_keep may returns c results st stat.Statements.none k e labels f end l ws = record { rest = []; is = sym (append-nil ws) }
  arms_keep may returns c results st (stat.Statements.and s ss) k e labels f end l ws =
      let two = both (is_covered_statement may returns c.scope results st s k) (are_covered may returns c.scope results st ss k) e in
      let lands = both (is_landed c.landings labels s k) (are_landed c.landings labels ss k) f in
      arm_keeps (statement c s k) (λ end. arms c ss k end) (statement_whole may returns c results st s k two.0 labels lands.0) (λ end l ws. arms_keep may returns c results st ss k two.1 labels lands.1 end l ws) end l ws

mutual
  -- what is covered is performed
  statement_performs : (may : Who → Bool) (returns : Bool) (c : Context) (results : List ℕ → Option (Kind × Place)) (z : Surroundings) (call : Callee) (d number : ℕ) (st : Statement) (k need : ℕ)
      → is_covered_statement may returns c.scope results z.setting st k ≡ true → statement_most c.scope.names st + 8 ≤ need → Around may returns c results z d call k st
      → Performs z d k need (statement c st k) (λ s. run (read_with c.scope results z.setting) call d number st k s)
  statement_performs may returns c results z call d number stat.Statement.empty k need e enough around = idle_performs z d k need
  statement_performs may returns c results z call d number (stat.Statement.block ss) k need e enough around =
      let h = read_with c.scope results z.setting in
      let inside = list_around may returns c results z d call k ss around in
      blocks z d k need (listed c ss k) (bears_among ss) (λ x s. run_from h call d number ss x k s) (λ s. run_all h call d number ss k s)
      (list_performs may returns c results (listing (bears_among ss) k z) call d number ss k need e enough inside)
      (list_from may returns c results (listing (bears_among ss) k z) call d number ss k need e enough inside)
  statement_performs may returns c results z call d number (stat.Statement.assign to v at) k need e enough around =
      assignments may c results z call d number to v at k need around.calls around.agrees e enough
  statement_performs may returns c results z call d number (stat.Statement.labelled y at s) k need e enough around =
      labelled_performs c.landings z d k need y (statement c s k) (λ t. run (read_with c.scope results z.setting) call d number s k t)
      (both (is_landing (c.landings y) k) (is_landed c.landings around.labels s k) around.landed).0
      (statement_performs may returns c results z call d number s k need e enough (behind_label may returns c results z d call k y s around))
  statement_performs may returns c results z call d number (stat.Statement.if_test (stat.Test.condition v) s stat.Statements.none at) k need e enough around =
      let two = both (is_covered may c.scope z.setting v k) (is_covered_statement may returns c.scope results z.setting s k) e in
      let one = one_around may returns c results z d call k s stat.Statements.none around in
      if_performs may c results z call d number v s at k need around.calls two.0 (omega (arith, enough)) (statement_whole may returns c results z.setting s k two.1 one.labels one.landed)
      (statement_performs may returns c results z call d (number + 1) s k need two.1 (omega (arith, enough)) one)
  statement_performs may returns c results z call d number (stat.Statement.if_test (stat.Test.condition v) s (stat.Statements.and other stat.Statements.none) at) k need e enough around =
      let two = both (is_covered may c.scope z.setting v k && is_covered_statement may returns c.scope results z.setting s k) (is_covered_statement may returns c.scope results z.setting other k) e in
      let first = both (is_covered may c.scope z.setting v k) (is_covered_statement may returns c.scope results z.setting s k) two.0 in
      let one = one_around may returns c results z d call k s (stat.Statements.and other stat.Statements.none) around in
      let two' = one_around may returns c results z d call k other stat.Statements.none (others_around may returns c results z d call k s (stat.Statements.and other stat.Statements.none) around) in
      else_performs may c results z call d number v s other at k need around.calls first.0 (omega (arith, enough)) (statement_whole may returns c results z.setting s k first.1 one.labels one.landed)
      (statement_whole may returns c results z.setting other k two.1 two'.labels two'.landed)
      (statement_performs may returns c results z call d (number + 1) s k need first.1 (omega (arith, enough)) one)
      (statement_performs may returns c results z call d (number + 1 + stops s) other k need two.1 (omega (arith, enough)) two')
  statement_performs may returns c results z call d number (stat.Statement.if_test (stat.Test.condition v) s (stat.Statements.and other (stat.Statements.and more ss)) at) k need e enough around = absurd (false≢true e)
  statement_performs may returns c results z call d number (stat.Statement.if_test (stat.Test.code o) s stat.Statements.none at) k need e enough around =
      let one = one_around may returns c results z d call k s stat.Statements.none around in
      code_if_performs c (read_with c.scope results z.setting) z call d number o s at k need (statement_whole may returns c results z.setting s k e one.labels one.landed)
      (statement_performs may returns c results z call d (number + 1) s k need e (omega (arith, enough)) one)
  statement_performs may returns c results z call d number (stat.Statement.if_test (stat.Test.code o) s (stat.Statements.and other stat.Statements.none) at) k need e enough around =
      let two = both (is_covered_statement may returns c.scope results z.setting s k) (is_covered_statement may returns c.scope results z.setting other k) e in
      let one = one_around may returns c results z d call k s (stat.Statements.and other stat.Statements.none) around in
      let two' = one_around may returns c results z d call k other stat.Statements.none (others_around may returns c results z d call k s (stat.Statements.and other stat.Statements.none) around) in
      code_else_performs c (read_with c.scope results z.setting) z call d number o s other at k need (statement_whole may returns c results z.setting s k two.0 one.labels one.landed)
      (statement_whole may returns c results z.setting other k two.1 two'.labels two'.landed)
      (statement_performs may returns c results z call d (number + 1) s k need two.0 (omega (arith, enough)) one)
      (statement_performs may returns c results z call d (number + 1 + stops s) other k need two.1 (omega (arith, enough)) two')
  statement_performs may returns c results z call d number (stat.Statement.if_test (stat.Test.code o) s (stat.Statements.and other (stat.Statements.and more ss)) at) k need e enough around = absurd (false≢true e)
  statement_performs may returns c results z call d number (stat.Statement.while_true v s at) k need e enough around =
      let two = both (is_covered may c.scope z.setting v k) (is_covered_statement may returns c.scope results z.setting s k) e in
      while_performs may c results z call d number v s at k need around.calls two.0 (omega (arith, enough)) (statement_whole may returns c results z.setting s k two.1 around.labels around.landed)
      (statement_performs may returns c results z call d number s k need two.1 (omega (arith, enough)) around)
  statement_performs may returns c results z call d number (stat.Statement.until_true s v at) k need e enough around =
      let two = both (is_covered may c.scope z.setting v k) (is_covered_statement may returns c.scope results z.setting s k) e in
      until_performs may c results z call d number s v at k need around.calls two.0 (omega (arith, enough)) (statement_whole may returns c results z.setting s k two.1 around.labels around.landed)
      (statement_performs may returns c results z call d number s k need two.1 (omega (arith, enough)) around)
  statement_performs may returns c results z call d number (stat.Statement.for_values y a b v s at) k need e enough around =
      let r = for_parts may returns c.scope results z.setting y a b v s k e in
      for_performs may c results z call d number y a b v s at k need around.calls r.counted r.first r.step r.last (omega (arith, enough)) (omega (arith, enough)) (omega (arith, enough))
      (omega (arith, enough)) (statement_whole may returns c results z.setting s (k + 3) r.inside around.labels around.landed)
      (statement_performs may returns c results (leaving_at_most k z) call d (number + 1) s (k + 3) (need - 3) r.inside (omega (arith, enough)) (counted_around may returns c results z d call k s around))
  statement_performs may returns c results z call d number (stat.Statement.case_of v ss at) k need e enough around =
      let two = both (is_covered may c.scope z.setting v k) (are_covered may returns c.scope results z.setting ss k) e in
      let h = read_with c.scope results z.setting in
      let inside = list_around may returns c results z d call k ss around in
      case_performs may c results z call d number v ss at k need around.calls two.0 (omega (arith, enough))
      (arms_land z d k need (λ end. arms c ss k end) (bears_among ss) (λ j s. run_arm h call d (number + 1) ss j k s) (λ x s. run_bearer h call d (number + 1) ss x k s)
      (arms_choose may returns c results (listing (bears_among ss) k z) call d (number + 1) ss k need two.1 (omega (arith, enough)) inside)
      (arms_from may returns c results (listing (bears_among ss) k z) call d (number + 1) ss k need two.1 (omega (arith, enough)) inside))
  statement_performs may returns c results z call d number (stat.Statement.go_to y at) k need e enough around =
      let two = both (has_name around.labels y) (is_some (c.landings y)) around.landed in
      gone_performs c.landings z around.labels d k need number y at around.jumps two.0 two.1
  statement_performs may returns c results z call d number (stat.Statement.return at) k need e enough around = returned_performs c.leave z d k need number at (around.leads e)
  statement_performs may returns c results z call d number (stat.Statement.assign_effect to v at) k need e enough around =
      effect_performs may c results z call d number to v at k need around.calls around.agrees e enough
  statement_performs may returns c results z call d number (stat.Statement.do_effect v at) k need e enough around =
      covered_moves_perform may c results z call d number v at k need around.calls e enough
  statement_performs may returns c results z call d number (stat.Statement.call y es at) k need e enough around = call_performs may c results z call d number y es at k need e enough around.calls

  -- from its labels on
  statement_at : (may : Who → Bool) (returns : Bool) (c : Context) (results : List ℕ → Option (Kind × Place)) (z : Surroundings) (call : Callee) (d number : ℕ) (st : Statement) (k need : ℕ)
      → is_covered_statement may returns c.scope results z.setting st k ≡ true → statement_most c.scope.names st + 8 ≤ need → Around may returns c results z d call k st
      → PerformsAt z d k need (statement c st k) (λ x. bears st x) (λ x s. run_at (read_with c.scope results z.setting) call d number st x k s)
  statement_at may returns c results z call d number (stat.Statement.labelled y at s) k need e enough around =
      let h = read_with c.scope results z.setting in
      let behind = behind_label may returns c results z d call k y s around in
      labelled_from c.landings z around.labels d k need y (statement c s k) (λ t. run h call d number s k t) (λ x. bears s x) (λ x t. run_at h call d number s x k t) around.jumps
      (both (is_landing (c.landings y) k) (is_landed c.landings around.labels s k) around.landed).0 (statement_performs may returns c results z call d number s k need e enough behind)
      (statement_at may returns c results z call d number s k need e enough behind)
  statement_at may returns c results z call d number stat.Statement.empty k need e enough around = unlabelled_at z d k need _ _
  statement_at may returns c results z call d number (stat.Statement.block ss) k need e enough around = unlabelled_at z d k need _ _
  statement_at may returns c results z call d number (stat.Statement.if_test q s ss at) k need e enough around = unlabelled_at z d k need _ _
  statement_at may returns c results z call d number (stat.Statement.while_true v s at) k need e enough around = unlabelled_at z d k need _ _
  statement_at may returns c results z call d number (stat.Statement.until_true s v at) k need e enough around = unlabelled_at z d k need _ _
  statement_at may returns c results z call d number (stat.Statement.for_values y a b v s at) k need e enough around = unlabelled_at z d k need _ _
  statement_at may returns c results z call d number (stat.Statement.case_of v ss at) k need e enough around = unlabelled_at z d k need _ _
  statement_at may returns c results z call d number (stat.Statement.go_to y at) k need e enough around = unlabelled_at z d k need _ _
  statement_at may returns c results z call d number (stat.Statement.return at) k need e enough around = unlabelled_at z d k need _ _
  statement_at may returns c results z call d number (stat.Statement.assign to v at) k need e enough around = unlabelled_at z d k need _ _
  statement_at may returns c results z call d number (stat.Statement.assign_effect to v at) k need e enough around = unlabelled_at z d k need _ _
  statement_at may returns c results z call d number (stat.Statement.do_effect v at) k need e enough around = unlabelled_at z d k need _ _
  statement_at may returns c results z call d number (stat.Statement.call y es at) k need e enough around = unlabelled_at z d k need _ _

  -- a list, its statements one behind the other
  list_performs : (may : Who → Bool) (returns : Bool) (c : Context) (results : List ℕ → Option (Kind × Place)) (z : Surroundings) (call : Callee) (d number : ℕ) (ss : Statements) (k need : ℕ)
      → are_covered may returns c.scope results z.setting ss k ≡ true → statements_most c.scope.names ss + 8 ≤ need → AroundAll may returns c results z d call k ss
      → PerformsAll z d k need (listed c ss k) (λ s. run_all (read_with c.scope results z.setting) call d number ss k s)
  list_performs may returns c results z call d number stat.Statements.none k need e enough around = nothing_performs z d k need
  list_performs may returns c results z call d number (stat.Statements.and s ss) k need e enough around =
      let two = both (is_covered_statement may returns c.scope results z.setting s k) (are_covered may returns c.scope results z.setting ss k) e in
      let h = read_with c.scope results z.setting in
      let one = one_around may returns c results z d call k s ss around in
      let others = others_around may returns c results z d call k s ss around in
      lists_perform z d k need (statement c s k) (listed c ss k) (λ t. run h call d number s k t) (λ t. run_all h call d (number + stops s) ss k t)
      (λ l ws. closed_any false (statement c s k l ws).pieces ((statement_whole may returns c results z.setting s k two.0 one.labels one.landed).closed l ws))
      (λ l ws. list_keeps may returns c results z.setting ss k two.1 others.labels others.landed l ws)
      (statement_performs may returns c results z call d number s k need two.0 (omega (arith, enough)) one)
      (list_performs may returns c results z call d (number + stops s) ss k need two.1 (omega (arith, enough)) others)

  -- from its labels on
  list_from : (may : Who → Bool) (returns : Bool) (c : Context) (results : List ℕ → Option (Kind × Place)) (z : Surroundings) (call : Callee) (d number : ℕ) (ss : Statements) (k need : ℕ)
      → are_covered may returns c.scope results z.setting ss k ≡ true → statements_most c.scope.names ss + 8 ≤ need → AroundAll may returns c results z d call k ss
      → PerformsFrom z d k need (listed c ss k) (λ x. bears_among ss x) (λ x s. run_from (read_with c.scope results z.setting) call d number ss x k s)
  list_from may returns c results z call d number stat.Statements.none k need e enough around =
      nothing_from z d k need (listed c stat.Statements.none k) (λ x s. run_from (read_with c.scope results z.setting) call d number stat.Statements.none x k s)
  list_from may returns c results z call d number (stat.Statements.and s ss) k need e enough around =
      let two = both (is_covered_statement may returns c.scope results z.setting s k) (are_covered may returns c.scope results z.setting ss k) e in
      let h = read_with c.scope results z.setting in
      let one = one_around may returns c results z d call k s ss around in
      let others = others_around may returns c results z d call k s ss around in
      lists_from z d k need (statement c s k) (listed c ss k) (λ x. bears s x) (λ x. bears_among ss x) (λ x t. run_at h call d number s x k t)
      (λ x t. run_from h call d (number + stops s) ss x k t) (λ t. run_all h call d (number + stops s) ss k t)
      (λ l ws. closed_any false (statement c s k l ws).pieces ((statement_whole may returns c results z.setting s k two.0 one.labels one.landed).closed l ws))
      (λ l ws. list_keeps may returns c results z.setting ss k two.1 others.labels others.landed l ws)
      (statement_at may returns c results z call d number s k need two.0 (omega (arith, enough)) one)
      (list_performs may returns c results z call d (number + stops s) ss k need two.1 (omega (arith, enough)) others)
      (list_from may returns c results z call d (number + stops s) ss k need two.1 (omega (arith, enough)) others)

  -- arms choose by their number
  arms_choose : (may : Who → Bool) (returns : Bool) (c : Context) (results : List ℕ → Option (Kind × Place)) (z : Surroundings) (call : Callee) (d number : ℕ) (ss : Statements) (k need : ℕ)
      → are_covered may returns c.scope results z.setting ss k ≡ true → statements_most c.scope.names ss + 8 ≤ need → AroundAll may returns c results z d call k ss
      → Chooses z d k need (λ end. arms c ss k end) (λ v s. run_arm (read_with c.scope results z.setting) call d number ss v k s)
  arms_choose may returns c results z call d number stat.Statements.none k need e enough around = no_arm z d k need
  arms_choose may returns c results z call d number (stat.Statements.and s ss) k need e enough around =
      let two = both (is_covered_statement may returns c.scope results z.setting s k) (are_covered may returns c.scope results z.setting ss k) e in
      let one = one_around may returns c results z d call k s ss around in
      first_arm c results z call d number s ss k need (omega (arith, enough)) (statement_whole may returns c results z.setting s k two.0 one.labels one.landed)
      (statement_performs may returns c results z call d number s k need two.0 (omega (arith, enough)) one)
      (arms_choose may returns c results z call d (number + stops s) ss k need two.1 (omega (arith, enough)) (others_around may returns c results z d call k s ss around))

  -- from their labels on
  arms_from : (may : Who → Bool) (returns : Bool) (c : Context) (results : List ℕ → Option (Kind × Place)) (z : Surroundings) (call : Callee) (d number : ℕ) (ss : Statements) (k need : ℕ)
      → are_covered may returns c.scope results z.setting ss k ≡ true → statements_most c.scope.names ss + 8 ≤ need → AroundAll may returns c results z d call k ss
      → ChoosesAt z d k need (λ end. arms c ss k end) (λ x. bears_among ss x) (λ x s. run_bearer (read_with c.scope results z.setting) call d number ss x k s)
  arms_from may returns c results z call d number stat.Statements.none k need e enough around =
      no_arm_at z d k need (λ end. arms c stat.Statements.none k end) (λ x s. run_bearer (read_with c.scope results z.setting) call d number stat.Statements.none x k s)
  arms_from may returns c results z call d number (stat.Statements.and s ss) k need e enough around =
      let two = both (is_covered_statement may returns c.scope results z.setting s k) (are_covered may returns c.scope results z.setting ss k) e in
      let h = read_with c.scope results z.setting in
      let one = one_around may returns c results z d call k s ss around in
      let others = others_around may returns c results z d call k s ss around in
      arm_at z d k need (statement c s k) (λ end. arms c ss k end) (λ x. bears s x) (λ x. bears_among ss x) (λ x t. run_at h call d number s x k t)
      (λ x t. run_bearer h call d (number + stops s) ss x k t) (statement_whole may returns c results z.setting s k two.0 one.labels one.landed)
      (λ end l ws. arms_keep may returns c results z.setting ss k two.1 others.labels others.landed end l ws)
      (statement_at may returns c results z call d number s k need two.0 (omega (arith, enough)) one)
      (arms_from may returns c results z call d (number + stops s) ss k need two.1 (omega (arith, enough)) others)

-- ---- the laws

pub covered_performs : CoveredStatementsPerform
covered_performs may returns c results z call d number labels st k need e enough calls agrees leads jumps lands =
    statement_performs may returns c results z call d number st k need e enough
    (record { labels = labels; calls = calls; agrees = agrees; leads = leads; jumps = jumps; landed = lands })

pub covered_list_performs : CoveredListsPerform
covered_list_performs may returns c results z call d number labels ss k need e enough calls agrees leads jumps lands =
    let h = read_with c.scope results z.setting in
    let inside = list_around may returns c results z d call k ss (record { labels = labels; calls = calls; agrees = agrees; leads = leads; jumps = jumps; landed = lands }) in
    lists_land z d k need d (listed c ss k) (bears_among ss) (λ x s. run_from h call d number ss x k s) (λ s. run_all h call d number ss k s) (omega arith)
    (list_performs may returns c results (listing (bears_among ss) k z) call d number ss k need e enough inside)
    (list_from may returns c results (listing (bears_among ss) k z) call d number ss k need e enough inside)
