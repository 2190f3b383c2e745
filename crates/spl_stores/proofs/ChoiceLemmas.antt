-- IF, WHILE and DO in a tree, over the code of what is inside them.
use Rattle.std.proofs.Common.{◌≡◌, ℕ, Bool, ◌+◌, ◌≤◌, true, List, refl, sym, subst}
use Rattle.std.specs.Prelude.{Option}
use Rattle.spl_counts.specs.spl_tree.declared.expressions.Kind.{Kind}
use Rattle.spl_counts.specs.spl_tree.declared.names_and_places.At.{At}
use Rattle.spl_counts.specs.spl_tree.Trees.{Tree}
use Rattle.spl_counts.specs.spl_tree.StatementTrees as stat
use Rattle.spl_counts.specs.spl_tree.StatementTrees.{Statement}
use Rattle.spl_counts.specs.spl_meaning.Pending.{most}
use Rattle.spl_counts.specs.spl_meaning.Places.{Place}
use Rattle.spl_counts.specs.spl_meaning.References.{Here, Setting}
use Rattle.spl_counts.specs.spl_meaning.States.{State, Outcome, done, leaves, spent, ends, strays, then_go}
use Rattle.spl_counts.specs.spl_meaning.Statements.{run}
use Rattle.spl_counts.specs.spl_meaning.Stops.{stops}
use Rattle.spl_counts.specs.spl_meaning.Values.{Who, Callee, value}
use Rattle.spl_counts.specs.spl_code.Parts.{Part}
use Rattle.spl_counts.specs.spl_code.Calls.{Scope}
use Rattle.spl_counts.specs.spl_code.Code.{as_test, code, related}
use Rattle.spl_counts.specs.spl_statement_code.Landings.{Context}
use Rattle.spl_counts.specs.spl_statement_code.Statements.{statement, chosen, chosen_or}
use Rattle.spl_counts.specs.spl_follow.Parts.{Runs}
use Rattle.spl_counts.specs.spl_follow.Simulating.{Surroundings, Performs}
use Rattle.spl_counts.specs.spl_values.Reached.{IsWhole}
use Rattle.spl_counts.proofs.spl_values_proofs.WholeLemmas.{whole_pieces}
use Rattle.spl_moved.specs.spl_covered.Covered.{is_covered}
use Rattle.spl_moved.specs.spl_links.Links.{MayCall}
use Rattle.spl_moved.specs.spl_names.Names.{read_with}
use Rattle.spl_moved.proofs.spl_covered_proofs.CoverLemmas.{tests_whole, covered_tests}
use Rattle.spl_counts.specs.spl_choices.Laws.{Decides}
use Rattle.spl_counts.proofs.spl_choices_proofs.PartLemmas.{begun_whole, chosen_whole, chosen_or_whole, while_whole, until_whole}
use Rattle.spl_counts.proofs.spl_choices_proofs.ChoiceLemmas.{choices, eithers}
use Rattle.spl_counts.proofs.spl_choices_proofs.CodeLemmas.{code_choices, code_eithers}
use Rattle.spl_counts.proofs.spl_choices_proofs.LoopLemmas.{whiles, untils}

-- the code of a covered condition decides
decides : (may : Who → Bool) (c : Scope) (results : List ℕ → Option (Kind × Place)) (z : Surroundings) (call : Callee) (d : ℕ) (v : Tree) (k need : ℕ)
    → MayCall may c z d call → is_covered may c z.setting v k ≡ true → most c.names v + 8 ≤ need
    → Decides z d k need (λ fail. code c v (as_test fail) k) (λ s. value (read_with c results z.setting) call v k s)
decides may c results z call d v k need links covered enough = record {
  whole = λ fail. tests_whole may c z.setting v k fail covered;
  decides = λ fail. covered_tests may c results z call d v k need fail links covered enough;
}

-- ---- IF

pub if_whole : (may : Who → Bool) (c : Context) (st : Setting) (v : Tree) (s : Statement) (at : At) (k : ℕ) → is_covered may c.scope st v k ≡ true → IsWhole (statement c s k)
    → IsWhole (statement c (stat.Statement.if_test (stat.Test.condition v) s stat.Statements.none at) k)
if_whole may c st v s at k covered x =
    begun_whole at (chosen (λ fail. code c.scope v (as_test fail) k) (statement c s k))
    (chosen_whole (λ fail. code c.scope v (as_test fail) k) (statement c s k) (λ fail. tests_whole may c.scope st v k fail covered) x)

pub if_performs : (may : Who → Bool) (c : Context) (results : List ℕ → Option (Kind × Place)) (z : Surroundings) (call : Callee) (d number : ℕ) (v : Tree) (s : Statement) (at : At)
    (k need : ℕ) → MayCall may c.scope z d call → is_covered may c.scope z.setting v k ≡ true → most c.scope.names v + 8 ≤ need → IsWhole (statement c s k)
    → Performs z d k need (statement c s k) (λ t. run (read_with c.scope results z.setting) call d (number + 1) s k t)
    → Performs z d k need (statement c (stat.Statement.if_test (stat.Test.condition v) s stat.Statements.none at) k)
    (λ t. run (read_with c.scope results z.setting) call d number (stat.Statement.if_test (stat.Test.condition v) s stat.Statements.none at) k t)
if_performs may c results z call d number v s at k need links covered enough whole x =
    let h = read_with c.scope results z.setting in
    choices z d k need number at (λ fail. code c.scope v (as_test fail) k) (statement c s k) (λ t. value h call v k t) (λ t. run h call d (number + 1) s k t)
    (decides may c.scope results z call d v k need links covered enough) whole x

pub else_whole : (may : Who → Bool) (c : Context) (st : Setting) (v : Tree) (s other : Statement) (at : At) (k : ℕ) → is_covered may c.scope st v k ≡ true → IsWhole (statement c s k)
    → IsWhole (statement c other k)
    → IsWhole (statement c (stat.Statement.if_test (stat.Test.condition v) s (stat.Statements.and other stat.Statements.none) at) k)
else_whole may c st v s other at k covered x y =
    begun_whole at (chosen_or (λ fail. code c.scope v (as_test fail) k) (statement c s k) (statement c other k))
    (chosen_or_whole (λ fail. code c.scope v (as_test fail) k) (statement c s k) (statement c other k) (λ fail. tests_whole may c.scope st v k fail covered) x y)

-- a list of one statement is that statement
one_alone : (o : Outcome (Unit {0})) → then_go o (λ _ s. done tt s) ≡ o
one_alone (done u s) = refl
one_alone (leaves x s) = refl
one_alone (spent s) = refl
one_alone (ends e s) = refl
one_alone (strays s) = refl

alone_performs : (z : Surroundings) (d k need : ℕ) (a : Part) (meaning : State → Outcome (Unit {0})) → Performs z d k need a meaning
    → Performs z d k need a (λ s. then_go (meaning s) (λ _ t. done tt t))
alone_performs z d k need a meaning x = record {
  does = λ h ws p q s m stands front pays begins.
      subst (λ (o : Outcome (Unit {0})). Runs z.ground z.rate z.setting z.exits q k s m o) (sym (one_alone (meaning s))) (x.does h ws p q s m stands front pays begins);
}

pub else_performs : (may : Who → Bool) (c : Context) (results : List ℕ → Option (Kind × Place)) (z : Surroundings) (call : Callee) (d number : ℕ) (v : Tree) (s other : Statement)
    (at : At) (k need : ℕ) → MayCall may c.scope z d call → is_covered may c.scope z.setting v k ≡ true → most c.scope.names v + 8 ≤ need → IsWhole (statement c s k) → IsWhole (statement c other k)
    → Performs z d k need (statement c s k) (λ t. run (read_with c.scope results z.setting) call d (number + 1) s k t)
    → Performs z d k need (statement c other k) (λ t. run (read_with c.scope results z.setting) call d (number + 1 + stops s) other k t)
    → Performs z d k need (statement c (stat.Statement.if_test (stat.Test.condition v) s (stat.Statements.and other stat.Statements.none) at) k)
    (λ t. run (read_with c.scope results z.setting) call d number (stat.Statement.if_test (stat.Test.condition v) s (stat.Statements.and other stat.Statements.none) at) k t)
else_performs may c results z call d number v s other at k need links covered enough ws wo x y =
    let h = read_with c.scope results z.setting in
    let second = λ (t : State). run h call d (number + 1 + stops s) other k t in
    eithers z d k need number at (λ fail. code c.scope v (as_test fail) k) (statement c s k) (statement c other k) (λ t. value h call v k t)
    (λ t. run h call d (number + 1) s k t) (λ t. then_go (second t) (λ _ u. done tt u)) (decides may c.scope results z call d v k need links covered enough) ws wo x
    (alone_performs z d k need (statement c other k) second y)

-- ---- IF on the condition code

-- a test of the code is one branch
code_tested_whole : (o fail : ℕ) → IsWhole (related o fail)
code_tested_whole o fail = whole_pieces _ refl

pub code_if_whole : (c : Context) (o : ℕ) (s : Statement) (at : At) (k : ℕ) → IsWhole (statement c s k)
    → IsWhole (statement c (stat.Statement.if_test (stat.Test.code o) s stat.Statements.none at) k)
code_if_whole c o s at k x =
    begun_whole at (chosen (λ fail. related o fail) (statement c s k)) (chosen_whole (λ fail. related o fail) (statement c s k) (λ fail. code_tested_whole o fail) x)

pub code_if_performs : (c : Context) (h : Here) (z : Surroundings) (call : Callee) (d number o : ℕ) (s : Statement) (at : At) (k need : ℕ)
    → IsWhole (statement c s k) → Performs z d k need (statement c s k) (λ t. run h call d (number + 1) s k t)
    → Performs z d k need (statement c (stat.Statement.if_test (stat.Test.code o) s stat.Statements.none at) k)
    (λ t. run h call d number (stat.Statement.if_test (stat.Test.code o) s stat.Statements.none at) k t)
code_if_performs c h z call d number o s at k need whole x =
    code_choices z d k need number o at (statement c s k) (λ t. run h call d (number + 1) s k t) whole x

pub code_else_whole : (c : Context) (o : ℕ) (s other : Statement) (at : At) (k : ℕ) → IsWhole (statement c s k) → IsWhole (statement c other k)
    → IsWhole (statement c (stat.Statement.if_test (stat.Test.code o) s (stat.Statements.and other stat.Statements.none) at) k)
code_else_whole c o s other at k x y =
    begun_whole at (chosen_or (λ fail. related o fail) (statement c s k) (statement c other k))
    (chosen_or_whole (λ fail. related o fail) (statement c s k) (statement c other k) (λ fail. code_tested_whole o fail) x y)

pub code_else_performs : (c : Context) (h : Here) (z : Surroundings) (call : Callee) (d number o : ℕ) (s other : Statement) (at : At) (k need : ℕ)
    → IsWhole (statement c s k) → IsWhole (statement c other k) → Performs z d k need (statement c s k) (λ t. run h call d (number + 1) s k t)
    → Performs z d k need (statement c other k) (λ t. run h call d (number + 1 + stops s) other k t)
    → Performs z d k need (statement c (stat.Statement.if_test (stat.Test.code o) s (stat.Statements.and other stat.Statements.none) at) k)
    (λ t. run h call d number (stat.Statement.if_test (stat.Test.code o) s (stat.Statements.and other stat.Statements.none) at) k t)
code_else_performs c h z call d number o s other at k need ws wo x y =
    let second = λ (t : State). run h call d (number + 1 + stops s) other k t in
    code_eithers z d k need number o at (statement c s k) (statement c other k) (λ t. run h call d (number + 1) s k t) (λ t. then_go (second t) (λ _ u. done tt u)) ws wo x
    (alone_performs z d k need (statement c other k) second y)

-- ---- WHILE

pub loop_whole : (may : Who → Bool) (c : Context) (st : Setting) (v : Tree) (s : Statement) (at : At) (k : ℕ) → is_covered may c.scope st v k ≡ true → IsWhole (statement c s k)
    → IsWhole (statement c (stat.Statement.while_true v s at) k)
loop_whole may c st v s at k covered x =
    while_whole (λ fail. code c.scope v (as_test fail) k) (statement c s k) (λ fail. tests_whole may c.scope st v k fail covered) x

pub while_performs : (may : Who → Bool) (c : Context) (results : List ℕ → Option (Kind × Place)) (z : Surroundings) (call : Callee) (d number : ℕ) (v : Tree) (s : Statement) (at : At)
    (k need : ℕ) → MayCall may c.scope z d call → is_covered may c.scope z.setting v k ≡ true → most c.scope.names v + 8 ≤ need → IsWhole (statement c s k)
    → Performs z d k need (statement c s k) (λ t. run (read_with c.scope results z.setting) call d number s k t)
    → Performs z d k need (statement c (stat.Statement.while_true v s at) k)
    (λ t. run (read_with c.scope results z.setting) call d number (stat.Statement.while_true v s at) k t)
while_performs may c results z call d number v s at k need links covered enough whole x =
    let h = read_with c.scope results z.setting in
    whiles z d k need (λ fail. code c.scope v (as_test fail) k) (statement c s k) (λ t. value h call v k t) (λ t. run h call d number s k t)
    (decides may c.scope results z call d v k need links covered enough) whole x

-- ---- DO

pub repeat_whole : (may : Who → Bool) (c : Context) (st : Setting) (s : Statement) (v : Tree) (at : At) (k : ℕ) → is_covered may c.scope st v k ≡ true → IsWhole (statement c s k)
    → IsWhole (statement c (stat.Statement.until_true s v at) k)
repeat_whole may c st s v at k covered x =
    until_whole (λ fail. code c.scope v (as_test fail) k) (statement c s k) (λ fail. tests_whole may c.scope st v k fail covered) x

pub until_performs : (may : Who → Bool) (c : Context) (results : List ℕ → Option (Kind × Place)) (z : Surroundings) (call : Callee) (d number : ℕ) (s : Statement) (v : Tree) (at : At)
    (k need : ℕ) → MayCall may c.scope z d call → is_covered may c.scope z.setting v k ≡ true → most c.scope.names v + 8 ≤ need → IsWhole (statement c s k)
    → Performs z d k need (statement c s k) (λ t. run (read_with c.scope results z.setting) call d number s k t)
    → Performs z d k need (statement c (stat.Statement.until_true s v at) k)
    (λ t. run (read_with c.scope results z.setting) call d number (stat.Statement.until_true s v at) k t)
until_performs may c results z call d number s v at k need links covered enough whole x =
    let h = read_with c.scope results z.setting in
    untils z d k need (λ fail. code c.scope v (as_test fail) k) (statement c s k) (λ t. value h call v k t) (λ t. run h call d number s k t)
    (decides may c.scope results z call d v k need links covered enough) whole x
