-- The laws of this crate: IF, CASE, WHILE and DO over their parts as variables. A test is code that leads to any mark where it does not hold.
-- Nothing is due behind a test or a body.
use Rattle.std.specs.Prelude.{◌≡◌, ℕ, zero, suc, ◌+◌, ◌-◌, ◌≤◌, ◌<◌, Bool, if◌then◌else◌, List, [], ◌∷◌, ◌++◌}
use Rattle.spl_control.specs.hp_session.State.{Machine}
use Rattle.spl_statement_code.specs.spl_tree.declared.names_and_places.At.{At}
use Rattle.spl_statement_code.specs.spl_branch.declared.pieces.Piece.TheVariants.{Begin}
use Rattle.spl_statement_code.specs.spl_meaning.Elements.{with_one}
use Rattle.spl_statement_code.specs.spl_meaning.Laws.{IsFront}
use Rattle.spl_statement_code.specs.spl_meaning.Operations.{is_odd}
use Rattle.spl_statement_code.specs.spl_meaning.States.{State, Outcome, done, then_go, stepping, without_code, noted, beginning, stopping, code_dropped}
use Rattle.spl_statement_code.specs.spl_meaning.Statements.{looping, repeating, code_tested}
use Rattle.spl_statement_code.specs.spl_code.Instructions.{DEL}
use Rattle.spl_statement_code.specs.spl_code.Parts.{Part, Wanted, piece, nothing, ◌⨟◌}
use Rattle.spl_statement_code.specs.spl_code.Code.{as_value, as_test, related}
use Rattle.spl_statement_code.specs.Statements.{chosen, chosen_or, repeated_while, repeated_until, arm, chosen_among}
use Rattle.spl_control.specs.spl_follow.Spots.{Spot, pos, on}
use Rattle.spl_control.specs.spl_follow.Matching.{IsValue}
use Rattle.spl_control.specs.spl_follow.Following.{tally, Follows}
use Rattle.spl_control.specs.spl_follow.Standing.{Stands}
use Rattle.spl_control.specs.spl_follow.Parts.{Leaving}
use Rattle.spl_control.specs.spl_follow.Simulating.{Surroundings, Simulates, Performs}
use Rattle.spl_control.specs.Laws.{Settles}
use Rattle.spl_conditions.specs.spl_values.Reached.{IsWhole}

-- a condition: the lowest bit of a value
abbrev pub decided : (State → Outcome (List ℕ)) → State → Outcome Bool
decided value s = then_go (value s) (λ vs t. with_one vs t (λ v u. done (is_odd v) u))

-- code of a test, whatever its mark is, that is whole and simulates a value as a test
pub record Decides (z : Surroundings) (d k need : ℕ) (test : ℕ → Part) (value : State → Outcome (List ℕ)) : Type 0 where
  pub whole : (fail : ℕ) → IsWhole (test fail)
  pub decides : (fail : ℕ) → Simulates z d (as_test fail) 1 k need (test fail) value

-- An IF without ELSE: a statement is noted, and where its test does not hold it leads behind the statement inside. No condition code is known
-- behind it.
abbrev pub ChoicesPerform : Type 0
ChoicesPerform = (z : Surroundings) (d k need number : ℕ) (at : At) (test : ℕ → Part) (a : Part) (value : State → Outcome (List ℕ))
    (yes' : State → Outcome (Unit {0})) → Decides z d k need test value → IsWhole a → Performs z d k need a yes'
    → Performs z d k need (piece (Begin at) ⨟ chosen test a)
    (λ s. stopping number at s (λ u. then_go (decided value u) (λ b v. code_dropped (if b then yes' v else done tt v))))

-- An IF with ELSE: where the test does not hold it leads to the second statement; the first one leads over that.
abbrev pub EitherPerforms : Type 0
EitherPerforms = (z : Surroundings) (d k need number : ℕ) (at : At) (test : ℕ → Part) (a b : Part) (value : State → Outcome (List ℕ))
    (yes' no' : State → Outcome (Unit {0})) → Decides z d k need test value → IsWhole a → IsWhole b → Performs z d k need a yes' → Performs z d k need b no'
    → Performs z d k need (piece (Begin at) ⨟ chosen_or test a b)
    (λ s. stopping number at s (λ u. then_go (decided value u) (λ c v. code_dropped (if c then yes' v else no' v))))

-- ---- the condition code

-- A test of the condition code, which a call has left: a step, the note, and the relation that the code answers. Where none is known the run strays.
abbrev pub told : ℕ → ℕ → At → State → (Bool → State → Outcome (Unit {0})) → Outcome (Unit {0})
told number op at s go = stepping s (λ t. code_tested op t.code (noted number at t) (λ b u. go b (without_code u)))

-- IF on the condition code, without ELSE and with it
abbrev pub CodeChoicesPerform : Type 0
CodeChoicesPerform = (z : Surroundings) (d k need number op : ℕ) (at : At) (a : Part) (yes' : State → Outcome (Unit {0})) → IsWhole a
    → Performs z d k need a yes'
    → Performs z d k need (piece (Begin at) ⨟ chosen (λ fail. related op fail) a)
    (λ s. told number op at s (λ b v. code_dropped (if b then yes' v else done tt v)))

abbrev pub CodeEitherPerforms : Type 0
CodeEitherPerforms = (z : Surroundings) (d k need number op : ℕ) (at : At) (a b : Part) (yes' no' : State → Outcome (Unit {0})) → IsWhole a → IsWhole b
    → Performs z d k need a yes' → Performs z d k need b no'
    → Performs z d k need (piece (Begin at) ⨟ chosen_or (λ fail. related op fail) a b)
    (λ s. told number op at s (λ c v. code_dropped (if c then yes' v else no' v)))

-- ---- CASE

-- Arms of a CASE, by the mark of its end, behind a value that waits on top, and what is meant by them with that value. They are followed from
-- the value on to the end, before which it is deleted where no arm was taken; t is where the CASE began, behind its step.
pub record Chooses (z : Surroundings) (d k need : ℕ) (arms : ℕ → Part) (meaning : ℕ → State → Outcome (Unit {0})) : Type 0 where
  pub keeps : (end l : ℕ) (ws : List Wanted) → IsFront ws (arms end l ws).wants
  pub chooses : (end h : ℕ) (ws : List Wanted) (p q : Spot) (v : ℕ) (t s : State) (m n : Machine)
      → Stands z.ground z.sites (on p) ((arms end h ws).pieces ++ DEL ∷ []) q → z.sites.marks end ≡ q → IsFront (arms end h ws).wants z.wants
      → pos q ≤ z.rate.step → t.now.top + k + need ≤ t.now.stack → t.left < d → s.left ≤ t.left → IsValue z.setting p 1 k t.now m (v ∷ []) s n
      → Follows z.ground z.rate (pos q - pos p) 0 3 (tally s) n (Settles z.setting q k t.now m) (Leaving z.setting z.exits k t.now m)
      (code_dropped (meaning v s))

-- where there is no arm nothing is done
abbrev pub NoArmChooses : Type 0
NoArmChooses = (z : Surroundings) (d k need : ℕ) → Chooses z d k need (λ end. nothing) (λ v s. done tt s)

-- what an arm means before others: it is that for 0, and the others are counted from 1
abbrev pub chosen_before : (State → Outcome (Unit {0})) → (ℕ → State → Outcome (Unit {0})) → ℕ → State → Outcome (Unit {0})
chosen_before one others zero s = one s
chosen_before one others (suc v) s = others v s

-- An arm before others: it is taken for the value 0, and else the value is one less behind it.
abbrev pub ArmsChoose : Type 0
ArmsChoose = (z : Surroundings) (d k need : ℕ) (a : Part) (one : State → Outcome (Unit {0})) (arms : ℕ → Part)
    (others : ℕ → State → Outcome (Unit {0})) → 2 ≤ need → IsWhole a → Performs z d k need a one → Chooses z d k need arms others
    → Chooses z d k need (λ end. arm a end ⨟ arms end) (chosen_before one others)

-- A CASE: a statement is noted, its value is made, and its arms choose by it. No condition code is known behind it.
abbrev pub CasesPerform : Type 0
CasesPerform = (z : Surroundings) (d k need number : ℕ) (at : At) (a : Part) (value : State → Outcome (List ℕ)) (arms : ℕ → Part)
    (meaning : ℕ → State → Outcome (Unit {0})) → IsWhole a → Simulates z d as_value 1 k need a value → Chooses z d k need arms meaning
    → Performs z d k need (piece (Begin at) ⨟ chosen_among a arms)
    (λ s. stopping number at s (λ u. then_go (value u) (λ vs t. with_one vs t (λ v w. code_dropped (meaning v w)))))

-- ---- loops

-- WHILE: the test stands before the body, which leads back to it; where it does not hold it leads behind the loop.
abbrev pub WhilePerforms : Type 0
WhilePerforms = (z : Surroundings) (d k need : ℕ) (test : ℕ → Part) (a : Part) (value : State → Outcome (List ℕ)) (body : State → Outcome (Unit {0}))
    → Decides z d k need test value → IsWhole a → Performs z d k need a body
    → Performs z d k need (repeated_while test a) (λ s. beginning s (λ u. looping (suc d) (λ v. decided value v) (λ v. code_dropped (body v)) u))

-- DO: the test stands behind the body, and leads back to it where it does not hold.
abbrev pub UntilPerforms : Type 0
UntilPerforms = (z : Surroundings) (d k need : ℕ) (test : ℕ → Part) (a : Part) (value : State → Outcome (List ℕ)) (body : State → Outcome (Unit {0}))
    → Decides z d k need test value → IsWhole a → Performs z d k need a body
    → Performs z d k need (repeated_until a test) (λ s. beginning s (λ u. repeating (suc d) (λ v. decided value v) (λ v. code_dropped (body v)) u))
