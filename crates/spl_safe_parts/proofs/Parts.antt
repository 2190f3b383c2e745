-- The parts of statements that are covered are never lost, along the tree.
use Rattle.std.proofs.Common.{◌≡◌, ℕ, ◌+◌, ◌&&◌, Bool, true, false, List, length, Option}
use Rattle.std.proofs.lemmas.Bool.{and_parts}
use Rattle.spl_safe_effects.specs.spl_tree.declared.expressions.Kind.{Kind}
use Rattle.spl_safe_effects.specs.spl_tree.Trees as tree
use Rattle.spl_safe_effects.specs.spl_tree.Trees.{Tree, Trees}
use Rattle.spl_safe_effects.specs.spl_tree.StatementTrees as stat
use Rattle.spl_safe_effects.specs.spl_tree.StatementTrees.{Statement, Statements}
use Rattle.spl_safe_effects.specs.spl_meaning.Places.{Place}
use Rattle.spl_safe_effects.specs.spl_meaning.References.{Here, Setting}
use Rattle.spl_safe_effects.specs.spl_meaning.States.{State, Outcome, done, leaves, spent, ends, strays}
use Rattle.spl_safe_effects.specs.spl_meaning.Statements.{is_intrinsic, is_intrinsic_alone, target_keeps_code}
use Rattle.spl_safe_effects.specs.spl_meaning.Values.{Who, Callee}
use Rattle.spl_safe_effects.specs.spl_code.Calls.{Scope}
use Rattle.spl_safe_effects.specs.spl_names.Names.{read_with}
use Rattle.spl_safe_effects.specs.spl_stores.Covered.{is_counted_name, is_covered_step, is_covered_statement, are_covered}
use Rattle.spl_safe_effects.specs.spl_safe_values.spl_covered.Covered.{is_covered}
use Rattle.spl_safe_effects.specs.spl_safe_values.Safe.{Safe, Coded, SafeCalls}
use Rattle.spl_safe_effects.proofs.spl_safe_values_proofs.Came.{Came, Comes, Free, comes_go, comes_done}
use Rattle.spl_safe_effects.proofs.spl_safe_values_proofs.ValueLemmas.{values_come}
use Rattle.spl_safe_effects.proofs.MoveLemmas.{effects_come}
use Rattle.spl_safe_effects.proofs.AssignLemmas.{assignments_come, stored_effects_come, call_statements_come}
use Rattle.spl_safe_effects.proofs.CodeLemmas.{calls_coded, assignments_coded}
use Rattle.spl_safe_effects.proofs.CountLemmas.{counters_come}
use Rattle.spl_safe_calls.specs.spl_safe_statements.Safe as safe
use Rattle.spl_safe_calls.specs.spl_safe_statements.Safe.{Keeps, Any, NoWay, WordIsSafe, StepIsSafe, PartsAreSafe, AllPartsAreSafe}
use Rattle.spl_safe_calls.specs.Calls.{CallsAreSafe}
use Rattle.spl_safe_parts.specs.Laws.{CoveredPartsAreSafe}

-- ---- two ways to say it

never : {A : Type 0} → false ≡ true → A
never e = cc

outcome_keeps : {A : Type 0} (sets : Bool) (P : A → Type 0) (o : Outcome A) → Came P o → (sets ≡ true → Coded o) → safe.Comes sets P NoWay o
outcome_keeps sets P (done a t) h coded = (record { found = h.0; code = λ e. coded e }, h.1)
outcome_keeps sets P (leaves x t) h coded = absurd h
outcome_keeps sets P (spent t) h coded = h
outcome_keeps sets P (ends e t) h coded = h
outcome_keeps sets P (strays t) h coded = h

keeps : {A : Type 0} {P : A → Type 0} {f : State → Outcome A} → Comes P f → Keeps false false P NoWay f
keeps {P = P} {f = f} h = record { comes = λ s g. outcome_keeps false P (f s) (h.is s g.found) (λ e. never e) }

-- a condition code is known behind it
keeps_coded : {A : Type 0} {P : A → Type 0} {f : State → Outcome A} (sets : Bool) → Comes P f → (sets ≡ true → (s : State) → Coded (f s)) → Keeps false sets P NoWay f
keeps_coded {P = P} {f = f} sets h coded = record { comes = λ s g. outcome_keeps sets P (f s) (h.is s g.found) (λ e. coded e s) }

outcome_safe : {A : Type 0} (P : A → Type 0) (o : Outcome A) → safe.Comes false P NoWay o → Safe o
outcome_safe P (done a t) h = h.0.found
outcome_safe P (leaves x t) h = absurd h.1
outcome_safe P (spent t) h = h
outcome_safe P (ends e t) h = h
outcome_safe P (strays t) h = h

safe_calls : (may : Who → Bool) (c : Scope) (call : Callee) → CallsAreSafe may c.names call → SafeCalls may c.names call
safe_calls may c call r = record {
  safe = λ x who p is allowed ws k s size whole. outcome_safe Any (call who ws k s) ((r.safe x who p is allowed ws k).comes s (record { found = whole; code = λ e. never e }));
  fit = r.fit;
}

-- ---- along the tree

module _ (may : Who → Bool) (returns : Bool) (c : Scope) (results : List ℕ → Option (Kind × Place)) (st : Setting) (call : Callee) (d : ℕ)
    (calls : SafeCalls may c.names call) where
  abbrev here : Here
  here = read_with c results st

  word_safe : (e : Tree) (k : ℕ) → is_covered may c st e k ≡ true → WordIsSafe here call e k
  word_safe e k h = keeps (values_come may c results st call calls e k h)

  step_safe : (es : Trees) (k : ℕ) → is_covered_step may c st es k ≡ true → StepIsSafe here call es k
  step_safe tree.Trees.none k h = tt
  step_safe (tree.Trees.and e es) k h = word_safe e k h

  mutual
    statement_safe : (s : Statement) (k : ℕ) → is_covered_statement may returns c results st s k ≡ true → PartsAreSafe c.names here call d s k
    statement_safe stat.Statement.empty k h = tt
    statement_safe (stat.Statement.labelled x at s) k h = statement_safe s k h
    statement_safe (stat.Statement.block ss) k h = list_safe ss k h
    statement_safe (stat.Statement.if_test (stat.Test.condition e) s stat.Statements.none at) k h =
        let two = and_parts (is_covered may c st e k) (is_covered_statement may returns c results st s k) h in
        (word_safe e k two.0, (statement_safe s k two.1, tt))
    statement_safe (stat.Statement.if_test (stat.Test.condition e) s (stat.Statements.and other stat.Statements.none) at) k h =
        let three = and_parts (is_covered may c st e k && is_covered_statement may returns c results st s k) (is_covered_statement may returns c results st other k) h in
        let two = and_parts (is_covered may c st e k) (is_covered_statement may returns c results st s k) three.0 in
        (word_safe e k two.0, (statement_safe s k two.1, (statement_safe other k three.1, tt)))
    statement_safe (stat.Statement.if_test (stat.Test.condition e) s (stat.Statements.and other (stat.Statements.and more rest)) at) k h = never h
    statement_safe (stat.Statement.if_test (stat.Test.code op) s stat.Statements.none at) k h = (tt, (statement_safe s k h, tt))
    statement_safe (stat.Statement.if_test (stat.Test.code op) s (stat.Statements.and other stat.Statements.none) at) k h =
        let two = and_parts (is_covered_statement may returns c results st s k) (is_covered_statement may returns c results st other k) h in
        (tt, (statement_safe s k two.0, (statement_safe other k two.1, tt)))
    statement_safe (stat.Statement.if_test (stat.Test.code op) s (stat.Statements.and other (stat.Statements.and more rest)) at) k h = never h
    statement_safe (stat.Statement.while_true e s at) k h =
        let two = and_parts (is_covered may c st e k) (is_covered_statement may returns c results st s k) h in (word_safe e k two.0, statement_safe s k two.1)
    statement_safe (stat.Statement.until_true s e at) k h =
        let two = and_parts (is_covered may c st e k) (is_covered_statement may returns c results st s k) h in (word_safe e k two.0, statement_safe s k two.1)
    statement_safe (stat.Statement.for_values x first step last s at) k h =
        let counts = is_counted_name st k (c.names x) (c.places x) in
        let five = and_parts (counts && is_covered may c st first k && is_covered_step may c st step (k + 1) && is_covered may c st last (k + 2))
        (is_covered_statement may returns c results st s (k + 3)) h in
        let four = and_parts (counts && is_covered may c st first k && is_covered_step may c st step (k + 1)) (is_covered may c st last (k + 2)) five.0 in
        let three = and_parts (counts && is_covered may c st first k) (is_covered_step may c st step (k + 1)) four.0 in
        let two = and_parts counts (is_covered may c st first k) three.0 in (
          (keeps (counters_come c results st x k two.0), (word_safe first k two.1, (step_safe step (k + 1) three.1, word_safe last (k + 2) four.1))),
          statement_safe s (k + 3) five.1,
        )
    statement_safe (stat.Statement.case_of e ss at) k h =
        let two = and_parts (is_covered may c st e k) (are_covered may returns c results st ss k) h in (word_safe e k two.0, list_safe ss k two.1)
    statement_safe (stat.Statement.go_to x at) k h = tt
    statement_safe (stat.Statement.return at) k h = tt
    statement_safe (stat.Statement.assign to e at) k h =
        keeps_coded (is_intrinsic_alone c.names e && target_keeps_code c.names to) (assignments_come may c results st call calls to e k h)
        (λ sets s. assignments_coded here call to e k s sets)
    statement_safe (stat.Statement.assign_effect to e at) k h = keeps (stored_effects_come may c results st call calls d to e k h)
    statement_safe (stat.Statement.do_effect e at) k h =
        keeps (comes_go {P = λ vs. length vs ≡ 1} {Q = Free} (effects_come may c results st call calls d false e k h) (λ vs one. comes_done tt tt))
    statement_safe (stat.Statement.call x es at) k h =
        keeps_coded (is_intrinsic (c.names x)) (call_statements_come may c results st call calls x es at k h) (λ sets s. calls_coded here call x es at k s sets)

    list_safe : (ss : Statements) (k : ℕ) → are_covered may returns c results st ss k ≡ true → AllPartsAreSafe c.names here call d ss k
    list_safe stat.Statements.none k h = tt
    list_safe (stat.Statements.and s ss) k h =
        let two = and_parts (is_covered_statement may returns c results st s k) (are_covered may returns c results st ss k) h in
        (statement_safe s k two.0, list_safe ss k two.1)

-- ---- the law

pub parts_safe : CoveredPartsAreSafe
parts_safe may returns c results st call d ss k calls h = list_safe may returns c results st call d (safe_calls may c call calls) ss k h
