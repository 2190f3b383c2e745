-- CASE in a tree, over the code of its arms.
use Rattle.std.proofs.Common.{◌≡◌, ℕ, Bool, zero, suc, ◌+◌, ◌-◌, ◌≤◌, true, List, refl, sym, subst}
use Rattle.std.specs.Prelude.{Option}
use Rattle.spl_counts.specs.spl_tree.declared.expressions.Kind.{Kind}
use Rattle.spl_counts.specs.spl_tree.declared.names_and_places.At.{At}
use Rattle.spl_counts.specs.spl_tree.Trees.{Tree}
use Rattle.spl_counts.specs.spl_tree.StatementTrees as stat
use Rattle.spl_counts.specs.spl_tree.StatementTrees.{Statement, Statements}
use Rattle.spl_counts.specs.spl_meaning.Laws.{IsFront}
use Rattle.spl_counts.specs.spl_meaning.Pending.{most}
use Rattle.spl_counts.specs.spl_meaning.Places.{Place}
use Rattle.spl_counts.specs.spl_meaning.References.{Setting}
use Rattle.spl_counts.specs.spl_meaning.States.{State, Outcome, code_dropped}
use Rattle.spl_counts.specs.spl_meaning.Statements.{bears_among, landing, run, run_arm, run_bearer}
use Rattle.spl_counts.specs.spl_meaning.Stops.{stops}
use Rattle.spl_counts.specs.spl_meaning.Values.{Who, Callee, value}
use Rattle.spl_counts.specs.spl_code.Parts.{Part, Wanted, ◌⨟◌}
use Rattle.spl_counts.specs.spl_code.Code.{as_value, code}
use Rattle.spl_counts.specs.spl_statement_code.Landings.{Context}
use Rattle.spl_counts.specs.spl_statement_code.Statements.{statement, arm, arms, chosen_among}
use Rattle.spl_counts.specs.spl_follow.Parts.{Leaving}
use Rattle.spl_counts.specs.spl_follow.Following.{tally, Follows}
use Rattle.spl_counts.specs.spl_follow.Simulating.{Surroundings, Simulates, Performs}
use Rattle.spl_counts.specs.spl_follow.Spots.{pos}
use Rattle.spl_counts.specs.spl_control.Laws.{Settles}
use Rattle.spl_counts.specs.spl_values.Reached.{IsWhole}
use Rattle.spl_moved.specs.spl_covered.Covered.{is_covered}
use Rattle.spl_moved.specs.spl_links.Links.{MayCall}
use Rattle.spl_moved.specs.spl_names.Names.{read_with}
use Rattle.spl_moved.proofs.spl_covered_proofs.CoverLemmas.{covered_width, covered_whole, covered_gives}
use Rattle.spl_counts.specs.spl_choices.Laws.{Chooses, chosen_before}
use Rattle.spl_counts.proofs.spl_choices_proofs.PartLemmas.{begun_whole}
use Rattle.spl_counts.proofs.spl_choices_proofs.CaseLemmas.{arm_before, cases, case_whole}

pub cased_whole : (may : Who → Bool) (c : Context) (st : Setting) (v : Tree) (ss : Statements) (at : At) (k : ℕ) → is_covered may c.scope st v k ≡ true
    → ((end l : ℕ) (ws : List Wanted) → IsFront ws (arms c ss k end l ws).wants) → IsWhole (statement c (stat.Statement.case_of v ss at) k)
cased_whole may c st v ss at k covered keeps =
    begun_whole at (chosen_among (code c.scope v as_value k) (λ end. arms c ss k end))
    (case_whole (code c.scope v as_value k) (λ end. arms c ss k end) (covered_whole may c.scope st v k covered) keeps)

-- arms that mean the same choose the same
same_chooses : (z : Surroundings) (d k need : ℕ) (arms' : ℕ → Part) (f g : ℕ → State → Outcome (Unit {0})) → ((v : ℕ) (s : State) → f v s ≡ g v s)
    → Chooses z d k need arms' g → Chooses z d k need arms' f
same_chooses z d k need arms' f g same x = record {
  keeps = x.keeps;
  chooses = λ end h ws p q v t s m n stands ends front pays room fuel less is.
      subst (λ (o : Outcome (Unit {0})). Follows z.ground z.rate (pos q - pos p) 0 3 (tally s) n (Settles z.setting q k t.now m) (Leaving z.setting z.exits k t.now m) (code_dropped o))
      (sym (same v s)) (x.chooses end h ws p q v t s m n stands ends front pays room fuel less is);
}

-- the first arm, before the others
pub first_arm : (c : Context) (results : List ℕ → Option (Kind × Place)) (z : Surroundings) (call : Callee) (d number : ℕ) (s : Statement) (ss : Statements)
    (k need : ℕ) → 2 ≤ need → IsWhole (statement c s k)
    → Performs z d k need (statement c s k) (λ t. run (read_with c.scope results z.setting) call d number s k t)
    → Chooses z d k need (λ end. arms c ss k end) (λ v t. run_arm (read_with c.scope results z.setting) call d (number + stops s) ss v k t)
    → Chooses z d k need (λ end. arms c (stat.Statements.and s ss) k end)
    (λ v t. run_arm (read_with c.scope results z.setting) call d number (stat.Statements.and s ss) v k t)
first_arm c results z call d number s ss k need enough whole x others =
    let h = read_with c.scope results z.setting in
    same_chooses z d k need (λ end. arm (statement c s k) end ⨟ arms c ss k end) (λ v t. run_arm h call d number (stat.Statements.and s ss) v k t)
    (chosen_before (λ t. run h call d number s k t) (λ v t. run_arm h call d (number + stops s) ss v k t)) by
    (arm_before z d k need (statement c s k) (λ t. run h call d number s k t) (λ end. arms c ss k end) (λ v t. run_arm h call d (number + stops s) ss v k t) enough
    whole x others) where
      by : (v : ℕ) (t : State) → run_arm (read_with c.scope results z.setting) call d number (stat.Statements.and s ss) v k t
          ≡ chosen_before (λ t. run (read_with c.scope results z.setting) call d number s k t)
          (λ v t. run_arm (read_with c.scope results z.setting) call d (number + stops s) ss v k t) v t
      by zero t = refl
      by (suc v) t = refl

-- a CASE over arms that take the jumps to their labels
pub case_performs : (may : Who → Bool) (c : Context) (results : List ℕ → Option (Kind × Place)) (z : Surroundings) (call : Callee) (d number : ℕ) (v : Tree) (ss : Statements)
    (at : At) (k need : ℕ) → MayCall may c.scope z d call → is_covered may c.scope z.setting v k ≡ true → most c.scope.names v + 8 ≤ need
    → Chooses z d k need (λ end. arms c ss k end) (λ j t. landing d (bears_among ss)
    (λ y u. run_bearer (read_with c.scope results z.setting) call d (number + 1) ss y k u) (run_arm (read_with c.scope results z.setting) call d (number + 1) ss j k t))
    → Performs z d k need (statement c (stat.Statement.case_of v ss at) k)
    (λ t. run (read_with c.scope results z.setting) call d number (stat.Statement.case_of v ss at) k t)
case_performs may c results z call d number v ss at k need links covered enough x =
    let h = read_with c.scope results z.setting in
    cases z d k need number at (code c.scope v as_value k) (λ s. value h call v k s) (λ end. arms c ss k end)
    (λ j s. landing d (bears_among ss) (λ y u. run_bearer h call d (number + 1) ss y k u) (run_arm h call d (number + 1) ss j k s))
    (covered_whole may c.scope z.setting v k covered)
    (subst (λ (j : ℕ). Simulates z d as_value j k need (code c.scope v as_value k) (λ s. value h call v k s)) (covered_width may c.scope z.setting v k covered)
    (covered_gives may c.scope results z call d v k need links covered enough)) x
