-- What MOVE and SCAN answer, in targets along the tree: the code is whole, and performs the assignment.
use Rattle.std.proofs.Common.{◌≡◌, ℕ, ◌+◌, ◌≤◌, Bool, true, List, arith}
use Rattle.std.specs.Prelude.{Option}
use Rattle.spl_counts.specs.spl_tree.declared.expressions.Kind.{Kind}
use Rattle.spl_counts.specs.spl_tree.declared.names_and_places.At.{At}
use Rattle.spl_counts.specs.spl_tree.StatementTrees as stat
use Rattle.spl_counts.specs.spl_tree.StatementTrees.{Effect, Target}
use Rattle.spl_counts.specs.spl_meaning.Pending.{waiting, effect_most, statement_most}
use Rattle.spl_counts.specs.spl_meaning.Places.{Place}
use Rattle.spl_counts.specs.spl_meaning.References.{Here, Setting}
use Rattle.spl_counts.specs.spl_meaning.Statements.{effect_done, run}
use Rattle.spl_counts.specs.spl_meaning.Values.{Who, Callee}
use Rattle.spl_counts.specs.spl_statement_code.Effects.{effect}
use Rattle.spl_counts.specs.spl_statement_code.Landings.{Context}
use Rattle.spl_counts.specs.spl_statement_code.Statements.{statement}
use Rattle.spl_counts.specs.spl_follow.Simulating.{Surroundings, Performs}
use Rattle.spl_counts.specs.spl_values.Reached.{IsWhole}
use Rattle.spl_counts.proofs.spl_values_proofs.VariableLemmas.{both}
use Rattle.spl_moved.specs.spl_links.Links.{MayCall}
use Rattle.spl_moved.specs.spl_names.Names.{read_with}
use Rattle.spl_calls.specs.spl_targets.Results.{ResultsAgree}
use Rattle.spl_calls.specs.spl_targets.Targets.{is_word_target}
use Rattle.spl_calls.proofs.spl_targets_proofs.TargetLemmas.{word_stores_whole, word_stores, assign_room}
use Rattle.spl_moved.specs.Moved.{is_covered_effect}
use Rattle.spl_moved.proofs.AnswerLemmas.{answers_whole, covered_moves_answer}
use Rattle.spl_stores.specs.Covered.{is_stored_effect}

pub effect_whole : (may : Who → Bool) (c : Context) (results : List ℕ → Option (Kind × Place)) (st : Setting) (to : Target) (e : Effect) (at : At) (k : ℕ)
    → is_stored_effect may c.scope results st to e k ≡ true → IsWhole (statement c (stat.Statement.assign_effect to e at) k)
effect_whole may c results st to e at k h =
    let two = both (is_word_target may c.scope results st to k) (is_covered_effect may c.scope st true e (waiting to k)) h in
    word_stores_whole may c results st to (λ j. effect c.scope true e j) at k two.0 (answers_whole may c.scope st e (waiting to k) two.1)

pub effect_performs : (may : Who → Bool) (c : Context) (results : List ℕ → Option (Kind × Place)) (z : Surroundings) (call : Callee) (d number : ℕ)
    (to : Target) (e : Effect) (at : At) (k need : ℕ) → MayCall may c.scope z d call → ResultsAgree c.scope results
    → is_stored_effect may c.scope results z.setting to e k ≡ true → statement_most c.scope.names (stat.Statement.assign_effect to e at) + 8 ≤ need
    → Performs z d k need (statement c (stat.Statement.assign_effect to e at) k)
    (λ s. run (read_with c.scope results z.setting) call d number (stat.Statement.assign_effect to e at) k s)
effect_performs may c results z call d number to e at k need links agrees h enough =
    let two = both (is_word_target may c.scope results z.setting to k) (is_covered_effect may c.scope z.setting true e (waiting to k)) h in
    let here : Here = read_with c.scope results z.setting in
    let most = effect_most c.scope.names true e in
    let room = assign_room c.scope.names to most k need enough in
    word_stores may c results z call d number to (λ j. effect c.scope true e j) (λ j s. effect_done here call d true e j s) at k need (most + 8) links agrees two.0 room.0
    room.1 (answers_whole may c.scope z.setting e (waiting to k) two.1)
    (covered_moves_answer may c.scope results z call d e (waiting to k) (most + 8) links two.1 (omega arith))
