-- The laws of runs, and of the first rule that is broken.
use Rattle.std.specs.Prelude.{ℕ, suc, ◌≡◌, ◌≢◌, ◌≤◌, ◌<◌, ◌++◌, ◌↔◌, List, [], length, Option, Some, None, false}
use Rattle.hp_word.specs.declared.endings.Ending.TheVariants.{Running}
use Rattle.spl_meaning.specs.Tables.{Source}
use Rattle.spl_tree.specs.Trees.{Tree}
use Rattle.spl_tree.specs.StatementTrees.{Statements}
use Rattle.spl_meaning.specs.States.{State, Begun, Outcome, done, leaves, spent, ends, strays}
use Rattle.spl_meaning.specs.Values.{Who, value}
use Rattle.spl_meaning.specs.Statements.{run_all, run_body}
use Rattle.spl_meaning.specs.Bodies.{Body, Named, Program}
use Rattle.spl_meaning.specs.Runs.{Seat, calls, run_program, run_of, alone, begins, stands}
use Rattle.spl_meaning.specs.Kinds.{kind_of}
use Rattle.spl_meaning.specs.Faults.{Fault, fault, is_before}
use Rattle.spl_meaning.specs.ExpressionRules.{Scope, rule_kind, faults}
use Rattle.spl_meaning.specs.Sound.{Breaks, IsSound, first_broken}
use Rattle.spl_tree.specs.declared.names_and_places.At.{At}

-- a run that has ended, or strayed, stays as it is
abbrev pub EndedRunsStay : Type 0
EndedRunsStay = (us : List Source) (seat : Seat) (n m : ℕ) → (alone us seat n).standing ≢ stands Running → n ≤ m
    → alone us seat m ≡ alone us seat n

-- these are the first of those
pub record IsFront {A : Type 0} (some all : List A) : Type 0 where
  pub rest : List A
  pub is : all ≡ some ++ rest

-- what was printed within fewer steps is the first of what is printed within more
abbrev pub PrintsOnlyGrow : Type 0
PrintsOnlyGrow = (us : List Source) (seat : Seat) (n m : ℕ) → n ≤ m → IsFront (alone us seat n).printed (alone us seat m).printed

-- and so are the statements begun
abbrev pub LogsOnlyGrow : Type 0
LogsOnlyGrow = (us : List Source) (seat : Seat) (n m : ℕ) → n ≤ m → IsFront (begins us seat n) (begins us seat m)

-- the first rule that units break is broken at its place, and none is at an earlier one, nor a lower one there
abbrev pub FirstRulesAreBroken : Type 0
FirstRulesAreBroken = (us : List Source) (f : Fault) → first_broken us ≡ Some f
    → Breaks f.rule us f.at × ((rule : ℕ) (at : At) → Breaks rule us at → is_before (fault rule at) f ≡ false)

-- units are sound exactly where there is no first rule that they break
abbrev pub SoundUnitsBreakNone : Type 0
SoundUnitsBreakNone = (us : List Source) → (first_broken us ≡ None) ↔ IsSound us

-- where an expression breaks no rule, the kind that rules go by is its kind
abbrev pub RuleKindsAreKinds : Type 0
RuleKindsAreKinds = (sc : Scope) (around : At) (e : Tree) → faults sc around e ≡ [] → rule_kind sc.names e ≡ kind_of sc.names e

-- ---- what one step more does

-- a state with one step more left
abbrev pub more : State → State
more s = record s { left = suc s.left }

-- A state that another comes to by one step: none is left; so many prints more at most, and at most one statement begun.
pub record Onward (p : ℕ) (s t : State) : Type 0 where
  pub left : t.left ≡ 0
  pub prints : List (List ℕ)
  pub printed : t.now.printed ≡ s.now.printed ++ prints
  pub few : length prints ≤ p
  pub log : List Begun
  pub begun : t.begun ≡ s.begun ++ log
  pub one : length log ≤ 1

-- an outcome that a state comes to by one step: only what lacks a step again may have printed, once
abbrev pub Beyond : {A : Type 0} → State → Outcome A → Type 0
Beyond s (done a t) = Onward 0 s t
Beyond s (leaves x t) = Onward 0 s t
Beyond s (spent t) = Onward 1 s t
Beyond s (ends e t) = Onward 0 s t
Beyond s (strays t) = Onward 0 s t

-- the outcome with one step more goes on from where the first one stood: it is the same with that step left, or a step beyond it
abbrev pub GoesOnAs : {A : Type 0} → Outcome A → Outcome A → Type 0
GoesOnAs (done a s) o = o ≡ done a (more s)
GoesOnAs (leaves x s) o = o ≡ leaves x (more s)
GoesOnAs (spent s) o = Beyond s o
GoesOnAs (ends e s) o = o ≡ ends e (more s)
GoesOnAs (strays s) o = o ≡ strays (more s)

-- a run with one step more goes on from where the run stood
abbrev pub StepsGoOn : Type 0
StepsGoOn = (us : List Source) (seat : Seat) (n : ℕ) → GoesOnAs (run_of us seat n) (run_of us seat (suc n))

-- The bound on calls, jumps and turns does not matter, where it is at least the steps that are left: of a program, of a call (whose own
-- step is spent), of a value, of a list of statements and of a body.
pub record BoundsDoNotMatter : Type 0 where
  pub programs : (p : Program) (o : Option Body) (d : ℕ) (s : State) → s.left ≤ d → run_program p o d s ≡ run_program p o s.left s
  pub callees : (procedures : List Named) (d : ℕ) (b : Body) (who : Who) (ws : List ℕ) (k : ℕ) (s : State) → s.left < d
      → calls procedures d b who ws k s ≡ calls procedures (suc s.left) b who ws k s
  pub values : (procedures : List Named) (d : ℕ) (b : Body) (e : Tree) (k : ℕ) (s : State) → s.left ≤ d
      → value b.here (calls procedures d b) e k s ≡ value b.here (calls procedures s.left b) e k s
  pub lists : (procedures : List Named) (d i : ℕ) (b : Body) (ss : Statements) (k : ℕ) (s : State) → s.left ≤ d
      → run_all b.here (calls procedures d b) d i ss k s ≡ run_all b.here (calls procedures s.left b) s.left i ss k s
  pub bodies : (procedures : List Named) (d i : ℕ) (b : Body) (ss : Statements) (s : State) → s.left ≤ d
      → run_body b.here (calls procedures d b) d i ss s ≡ run_body b.here (calls procedures s.left b) s.left i ss s
