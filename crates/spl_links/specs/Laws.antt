-- The laws of this crate: the call of a procedure or a subroutine, over its arguments as a part.
use Rattle.std.specs.Prelude.{◌≡◌, ◌⊎◌, ℕ, ◌+◌, ◌≤◌, Bool, true, is_some, List, [], Some}
use Rattle.spl_intrinsics.specs.spl_tree.declared.names_and_places.At.{At}
use Rattle.spl_intrinsics.specs.spl_branch.declared.pieces.Piece.TheVariants.{Begin}
use Rattle.spl_intrinsics.specs.spl_meaning.Names as n
use Rattle.spl_intrinsics.specs.spl_meaning.Names.{Sort, Profile}
use Rattle.spl_intrinsics.specs.spl_meaning.Pending.{result_words, formals_words, marker_words}
use Rattle.spl_intrinsics.specs.spl_meaning.States.{State, Outcome, done, then_go, stepping, stopping}
use Rattle.spl_intrinsics.specs.spl_meaning.Statements.{value_dropped}
use Rattle.spl_intrinsics.specs.spl_meaning.Values.{Who, procedure, subroutine, Callee}
use Rattle.spl_intrinsics.specs.spl_code.Calls.{Scope, called}
use Rattle.spl_intrinsics.specs.spl_code.Code.{as_value, calling}
use Rattle.spl_intrinsics.specs.spl_code.Parts.{Part, pieces, piece, nothing, ◌⨟◌}
use Rattle.spl_intrinsics.specs.spl_statement_code.Statements.{result_dropped}
use Rattle.spl_intrinsics.specs.spl_follow.Simulating.{Surroundings, Simulates, Performs}
use Rattle.spl_intrinsics.specs.spl_values.Reached.{IsWhole}
use Rattle.spl_links.specs.Links.{in_mode, MayCall}

-- what the code of arguments is: whole, or none where there are no parameters
pub data ArgumentsCode (p : Profile) (z : Surroundings) (d k more : ℕ) : Part → (State → Outcome (List ℕ)) → Type 0 where
  none : {words : State → Outcome (List ℕ)} → formals_words p.formals ≡ 0 → ((s : State) → words s ≡ done [] s) → ArgumentsCode p z d k more nothing words
  some : {a : Part} {words : State → Outcome (List ℕ)} → IsWhole a → Simulates z d as_value (formals_words p.formals) (k + result_words p) more a words
      → ArgumentsCode p z d k more a words

-- arguments that are whole, or none
pub data HasCode : Part → Type 0 where
  none : HasCode nothing
  some : {a : Part} → IsWhole a → HasCode a

-- ---- who is called

-- the name of a procedure or a subroutine, and what it stands for
abbrev pub name_of : Who → List ℕ
name_of (procedure x) = x
name_of (subroutine x) = x

abbrev pub sort_of : Who → Profile → Sort
sort_of (procedure x) p = n.procedure p
sort_of (subroutine x) p = n.subroutine p

-- one that may be called in a mode, and for which its name stands
pub record CanCall (may : Who → Bool) (c : Scope) (split : Bool) (who : Who) (p : Profile) : Type 0 where
  pub allowed : in_mode split may who ≡ true
  pub named : c.names (name_of who) ≡ Some (sort_of who p)

-- whether a call has a piece: one of a subroutine has it by its entry
abbrev pub has_entry : Scope → Who → Bool
has_entry c (procedure x) = true
has_entry c (subroutine x) = is_some (c.subroutines x)

-- a call by its value: the step that it takes, its arguments, which wait for those behind them and above its result, and what it means
abbrev pub call_value : Callee → Who → ℕ → (State → Outcome (List ℕ)) → State → Outcome (List ℕ)
call_value call who k words s = stepping s (λ t. then_go (words t) (λ ws u. call who ws k u))

-- ---- the laws

-- The code of a call is whole, where that has a piece, or makes room for a result.
abbrev pub CallsAreWhole : Type 0
CallsAreWhole = (c : Scope) (p : Profile) (who : Who) (a : Part) → HasCode a → (has_entry c who ≡ true) ⊎ (1 ≤ result_words p)
    → IsWhole (calling p a (called c who))

-- With room for the words of its result, of its parameters and of a marker, it gives the result of whom it calls, where there is one.
abbrev pub CallsSimulate : Type 0
CallsSimulate = (may : Who → Bool) (c : Scope) (z : Surroundings) (d : ℕ) (call : Callee) (who : Who) (p : Profile) (k need more : ℕ) (a : Part)
    (words : State → Outcome (List ℕ)) → MayCall may c z d call → CanCall may c z.setting.split who p
    → 1 ≤ result_words p → ArgumentsCode p z d k more a words → result_words p + more ≤ need
    → result_words p + formals_words p.formals + marker_words ≤ need
    → Simulates z d as_value (result_words p) k need (calling p a (called c who)) (call_value call who k words)

-- As a statement it is performed, whether it has a result or not, and its result is dropped.
abbrev pub CallsPerform : Type 0
CallsPerform = (may : Who → Bool) (c : Scope) (z : Surroundings) (d number : ℕ) (at : At) (call : Callee) (who : Who) (p : Profile) (k need more : ℕ)
    (a : Part) (words : State → Outcome (List ℕ)) → MayCall may c z d call → CanCall may c z.setting.split who p
    → ArgumentsCode p z d k more a words → result_words p + more ≤ need
    → result_words p + formals_words p.formals + marker_words ≤ need
    → Performs z d k need (piece (Begin at) ⨟ (calling p a (called c who) ⨟ pieces (result_dropped p.result)))
    (λ s. stopping number at s (λ t. value_dropped (call_value call who k words t)))
