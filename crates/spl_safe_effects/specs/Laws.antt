-- The laws of this crate: MOVE and SCAN, assignments, calls by themselves, and the variable of a FOR are safe; and behind which of them a condition
-- code is known.
use Rattle.std.specs.Prelude.{◌≡◌, ℕ, ◌&&◌, Bool, true, false, List, length, Option, None}
use Rattle.spl_safe_values.specs.spl_tree.declared.expressions.Kind.{Kind}
use Rattle.spl_safe_values.specs.spl_tree.declared.expressions.Kind.TheVariants as kind
use Rattle.spl_safe_values.specs.spl_tree.declared.names_and_places.At.{At}
use Rattle.spl_safe_values.specs.spl_tree.Trees.{Tree, Trees}
use Rattle.spl_safe_values.specs.spl_tree.StatementTrees.{Target, Effect}
use Rattle.spl_safe_values.specs.spl_meaning.Places.{Place}
use Rattle.spl_safe_values.specs.spl_meaning.References.{Here, Setting, Located, read, store, locate}
use Rattle.spl_safe_values.specs.spl_meaning.States.{State}
use Rattle.spl_safe_values.specs.spl_meaning.Statements.{is_intrinsic, is_intrinsic_alone, target_keeps_code, assigned, assign, call_statement, effect_done, raised}
use Rattle.spl_safe_values.specs.spl_meaning.Values.{Who, Callee}
use Rattle.spl_safe_values.specs.spl_code.Calls.{Scope}
use Rattle.spl_safe_values.specs.spl_covered.spl_values.spl_frames.Sizes.{IsDone}
use Rattle.spl_safe_values.specs.spl_names.Names.{read_with}
use Rattle.spl_stores.specs.spl_assigned.Assigned.{is_covered_assignment}
use Rattle.spl_stores.specs.spl_calls.Covered.{is_covered_call}
use Rattle.spl_stores.specs.spl_moved.Moved.{is_covered_effect}
use Rattle.spl_stores.specs.Covered.{is_stored_effect, is_counted_name}
use Rattle.spl_safe_values.specs.Safe.{Safe, Coded, SafeCalls}

-- A MOVE or a SCAN that is covered, whose answer is used or not, is safe from where the run is not lost, where calls are.
abbrev pub EffectsAreSafe : Type 0
EffectsAreSafe = (may : Who → Bool) (c : Scope) (results : List ℕ → Option (Kind × Place)) (st : Setting) (call : Callee) (d : ℕ) (used : Bool) (e : Effect)
    (k : ℕ) (s : State) → SafeCalls may c.names call → is_covered_effect may c st used e k ≡ true → s.lost ≡ false
    → Safe (effect_done (read_with c results st) call d used e k s)

-- So are assignments of values, and of what a MOVE or a SCAN answers,
abbrev pub AssignmentsAreSafe : Type 0
AssignmentsAreSafe = (may : Who → Bool) (c : Scope) (results : List ℕ → Option (Kind × Place)) (st : Setting) (call : Callee) (to : Target) (e : Tree)
    (k : ℕ) (s : State) → SafeCalls may c.names call → is_covered_assignment may c results st to e k ≡ true → s.lost ≡ false
    → Safe (assign (read_with c results st) call to e k s)

abbrev pub StoredEffectsAreSafe : Type 0
StoredEffectsAreSafe = (may : Who → Bool) (c : Scope) (results : List ℕ → Option (Kind × Place)) (st : Setting) (call : Callee) (d : ℕ) (to : Target)
    (e : Effect) (k : ℕ) (s : State) → SafeCalls may c.names call → is_stored_effect may c results st to e k ≡ true → s.lost ≡ false
    → Safe (assigned (read_with c results st) call to (λ j t. effect_done (read_with c results st) call d true e j t) k s)

-- and calls by themselves.
abbrev pub CallStatementsAreSafe : Type 0
CallStatementsAreSafe = (may : Who → Bool) (c : Scope) (results : List ℕ → Option (Kind × Place)) (st : Setting) (call : Callee) (x : List ℕ) (es : Trees)
    (at : At) (k : ℕ) (s : State) → SafeCalls may c.names call → is_covered_call may c st x (c.names x) es k ≡ true → s.lost ≡ false
    → Safe (call_statement (read_with c results st) call x es at k s)

-- ---- condition codes

-- Where a call of an intrinsic by itself is done, a condition code is known,
abbrev pub CallsSetCodes : Type 0
CallsSetCodes = (h : Here) (call : Callee) (x : List ℕ) (es : Trees) (at : At) (k : ℕ) (s : State) → is_intrinsic (h.names x) ≡ true
    → Coded (call_statement h call x es at k s)

-- and where an assignment of one alone is, to a target that keeps the code.
abbrev pub AssignmentsSetCodes : Type 0
AssignmentsSetCodes = (h : Here) (call : Callee) (to : Target) (e : Tree) (k : ℕ) (s : State)
    → (is_intrinsic_alone h.names e && target_keeps_code h.names to) ≡ true → Coded (assign h call to e k s)

-- ---- the variable of a FOR

-- It is found, with a word of INTEGER; and it is read, stored and raised, from where the run is not lost.
pub record CountersAreSafe : Type 0 where
  pub found : (c : Scope) (results : List ℕ → Option (Kind × Place)) (st : Setting) (x : List ℕ) (k : ℕ) (s : State)
      → is_counted_name st k (c.names x) (c.places x) ≡ true → s.lost ≡ false → Safe (locate (read_with c results st) x None s)
  pub counts : (c : Scope) (results : List ℕ → Option (Kind × Place)) (st : Setting) (x : List ℕ) (k : ℕ) (s : State)
      → is_counted_name st k (c.names x) (c.places x) ≡ true → s.lost ≡ false
      → IsDone (λ (p : Located). p.kind ≡ kind.Integer) (locate (read_with c results st) x None s)
  pub read' : (p : Located) (s : State) → p.kind ≡ kind.Integer → s.lost ≡ false → Safe (read p s)
  pub stored : (p : Located) (vs : List ℕ) (s : State) → p.kind ≡ kind.Integer → length vs ≡ 1 → s.lost ≡ false → Safe (store p vs s)
  pub raised' : (p : Located) (step : ℕ) (s : State) → p.kind ≡ kind.Integer → s.lost ≡ false → Safe (raised p step s)
