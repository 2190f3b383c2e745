-- Whom the bodies of a program may call: procedures of some names whose bodies are covered, and subroutines of some names whose statements are.
use Rattle.std.specs.Prelude.{ℕ, suc, ◌&&◌, ◌||◌, not, nat_lt, max, Bool, true, false, List, [], ◌∷◌, Option, Some, is_some}
use Rattle.std.specs.List.{list_all}
use Rattle.spl_mains.specs.spl_meaning.Bodies.{Body, Named, program_of, body_named, subroutine_body}
use Rattle.spl_mains.specs.spl_meaning.DeclarationRules.{same_profile}
use Rattle.spl_mains.specs.spl_meaning.Names as n
use Rattle.spl_mains.specs.spl_meaning.Names.{Names, Sort, same_name, profile_of}
use Rattle.spl_mains.specs.spl_meaning.Pending.{formals_words}
use Rattle.spl_mains.specs.spl_meaning.Tables.{Source, Subroutine, subroutine_named}
use Rattle.spl_mains.specs.spl_meaning.Values.{Who, procedure, subroutine}
use Rattle.spl_readings.specs.spl_scopes.Entries.{Owner, routine, Entry, module_entries, subroutine_index}
use Rattle.spl_readings.specs.spl_scopes.Scopes.{Placed, first_reached, placed_units, routine_bodies, body_segment}
use Rattle.spl_readings.specs.spl_module_code.Bodies.{statements_scope}
use Rattle.spl_readings.specs.Readings.{are_plain}
use Rattle.spl_callees.specs.spl_cells.Settable.{are_settable}
use Rattle.spl_inners.specs.spl_routes.Unique.{are_unique}
pub use Rattle.spl_mains.specs.Laws.{are_covered}

-- ---- names

-- a name among some
abbrev pub is_among : List (List ℕ) → List ℕ → Bool
is_among [] x = false
is_among (y ∷ ys) x = same_name x y || is_among ys x

-- whom a body may call: procedures of the names xs, and of its subroutines those of the names ys, each of which has an entry
abbrev pub may_call : List (List ℕ) → List (List ℕ) → (List ℕ → Option ℕ) → Who → Bool
may_call xs ys entry (procedure x) = is_among xs x
may_call xs ys entry (subroutine x) = is_among ys x && is_some (entry x)

-- where a name stands for a procedure that has a body, its heading there is like that with the body
abbrev pub is_alike : Option Sort → Option Body → Bool
is_alike (Some (n.procedure p)) (Some b) = same_profile p b.profile
is_alike sort b = true

-- so it is with each of these names
abbrev pub are_alike : List (List ℕ) → List Named → Names → Bool
are_alike xs procedures names = list_all (λ x. is_alike (names x) (body_named procedures x)) xs

-- where a name stands for a subroutine, its heading there is like that of the body's own
abbrev pub is_inner_alike : Option Sort → Option Subroutine → Bool
is_inner_alike (Some (n.subroutine p)) (Some s) = same_profile p (profile_of s.heading)
is_inner_alike sort s = true

abbrev pub are_inner_alike : List (List ℕ) → List Subroutine → Names → Bool
are_inner_alike ys ss names = list_all (λ y. is_inner_alike (names y) (subroutine_named ss y)) ys

-- ---- bodies

-- a body in a module with these entries, where procedures and subroutines of these names may be called, and it may be left by RETURN or not: each of its
-- statements is covered
abbrev pub is_covered_body : List (List ℕ) → List (List ℕ) → List Named → List Entry → Owner → Bool → Body → Bool
is_covered_body xs ys procedures es o returns b =
    are_alike xs procedures b.here.names && are_inner_alike ys b.subroutines b.here.names
    && are_covered (may_call xs ys (subroutine_index o es)) returns (statements_scope es o b) b.here.results b.here.setting b.statements 0

-- a subroutine of a body: its statement is covered, and its parameters are as many words as an SXIT can delete
abbrev pub is_covered_inner : List (List ℕ) → List (List ℕ) → List Named → List Entry → Owner → Body → Subroutine → Bool
is_covered_inner xs ys procedures es o b s =
    nat_lt (formals_words (profile_of s.heading).formals) 256
    && (are_plain (subroutine_body b s).here.names (subroutine_body b s).statements && is_covered_body xs ys procedures es o true (subroutine_body b s))

-- those of these subroutines that have one of the names ys
abbrev pub are_covered_inners : List (List ℕ) → List (List ℕ) → List Named → List Entry → Owner → Body → List Subroutine → Bool
are_covered_inners xs ys procedures es o b ss = list_all (λ s. not (is_among ys s.heading.name) || is_covered_inner xs ys procedures es o b s) ss

-- a body is covered, and so are its subroutines of these names
abbrev pub is_covered_frame : List (List ℕ) → List (List ℕ) → List Named → List Entry → Owner → Bool → Body → Bool
is_covered_frame xs ys procedures es o returns b =
    is_covered_body xs ys procedures es o returns b && are_covered_inners xs ys procedures es o b b.subroutines

-- a procedure: its body and its subroutines are covered, what its entry sets is set, and its parameters are as many words as an EXIT can delete
abbrev pub is_covered_procedure : List (List ℕ) → List (List ℕ) → List Named → List Entry → ℕ → Body → Bool
is_covered_procedure xs ys procedures es i b =
    (are_settable b && nat_lt (formals_words b.profile.formals) 256)
    && (are_plain b.here.names b.statements && is_covered_frame xs ys procedures es (routine i) true b)

-- the procedures of a unit from number i on, of which those of the names xs are covered
abbrev pub are_covered_procedures : List (List ℕ) → List (List ℕ) → List Named → Placed → ℕ → List Named → Bool
are_covered_procedures xs ys procedures p i [] = true
are_covered_procedures xs ys procedures p i (b ∷ bs) =
    (not (is_among xs b.name) || is_covered_procedure xs ys procedures (module_entries p.unit (body_segment p.unit (routine i))) i b.body)
    && are_covered_procedures xs ys procedures p (suc i) bs

-- ---- programs

-- procedures that may be called: there are none, or no two of the program have one name, and each that has one of these names is covered
abbrev pub are_callable : List (List ℕ) → List (List ℕ) → List Source → Bool
are_callable [] ys us = true
are_callable (x ∷ xs) ys us =
    are_unique us
    && list_all (λ p. are_covered_procedures (x ∷ xs) ys (program_of us).procedures p 0 (routine_bodies p)) (placed_units (first_reached us) us)

-- ---- local words

-- the local words of the procedure that has most
abbrev pub most_words : List Named → ℕ
most_words [] = 0
most_words (b ∷ bs) = max b.body.words (most_words bs)
