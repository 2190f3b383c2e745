-- The walk in which FORWARDs wait by their names finds the same first fault.
use Rattle.std.proofs.Common.{ℕ, ◌≡◌, rules, not, Bool, true, false, List, [], ◌∷◌, ◌++◌, Option, Some, None, refl, sym, ap, ◌∙◌}
use Rattle.std.specs.Prelude.{◌||◌, if◌then◌else◌}
use Rattle.std.specs.Cmp.Lexicographic.{same_text}
use Rattle.spl_meaning.specs.spl_tree.StatementTrees.{statements}
use Rattle.spl_meaning.specs.spl_tree.DeclarationTrees as decl
use Rattle.spl_meaning.specs.spl_tree.DeclarationTrees.{Heading, Declaration, Declarations, declarations}
use Rattle.spl_meaning.specs.Names.{Names, Sort, Table, Profile, find, same_name, nothing_declared, profile_of}
use Rattle.spl_meaning.specs.Tables.{Source, Routine, with_declaration}
use Rattle.spl_meaning.specs.Bodies.{all_routines}
use Rattle.spl_meaning.specs.Faults.{Fault, fault, is_before, sooner, unless, first_fault}
use Rattle.spl_meaning.specs.DeclarationRules.{Around, Waiting, without, waiting_behind, gets_body, external_faults, same_profile}
use Rattle.spl_found.specs.FoundStatements.{found_body}
use Rattle.spl_found.specs.OwnNames.{behind_declaration}
use Rattle.spl_found.specs.FoundDeclarations.{again, found_heading, found_global, found_globals, found_subroutines, found_silent, around_unit, scope_in_main, found_unit, found_units}
use Rattle.spl_found.specs.FoundUnits.{Waits, none_waits, waits_without, waits_behind, agrees_with, agree, walked, walked_list, found_forward, found_forwards, walked_unit, walked_units, FirstRulesAreWalked}
use Rattle.spl_found.proofs.Order.{first_then}
use Rattle.spl_found.proofs.OwnNames.{find_declaration}
use Rattle.spl_found.proofs.FoundDeclarations.{globals_last, rest_of_globals, first_found}

-- ---- those that wait

-- texts that are one pass the test
is_itself : (x : List ℕ) → same_name x x ≡ true
is_itself x = search rules

same_as : (x y : List ℕ) → same_name x y ≡ true → x ≡ y
same_as x y e = same_text x y (sym e)

-- one name is the same as a second, and that is a third
chain : (x y z : List ℕ) → same_name x z ≡ true → same_name y z ≡ true → same_name y x ≡ true
chain x y z p q = ap (λ (t : List ℕ). same_name y t) (same_as x z p ∙ sym (same_as y z q)) ∙ is_itself y

forth : (x y z : List ℕ) → same_name y x ≡ true → same_name y z ≡ true → same_name x z ≡ true
forth x y z p q = ap (λ (t : List ℕ). same_name t z) (sym (same_as y x p)) ∙ q

-- a name among those that wait without one
without_is : (w : Waiting) (x y : List ℕ) → (if same_name y x then None else find w y) ≡ find (without w x) y
without_is [] x y = by (same_name y x)
  where
    nothing : Option Profile
    nothing = None

    by : (b : Bool) → (if b then nothing else nothing) ≡ nothing
    by true = refl
    by false = refl
without_is (e ∷ w) x y = by (same_name x e.0) (same_name y x) (same_name y e.0) refl refl refl (without_is w x y)
  where
    by : (b c d : Bool) → same_name x e.0 ≡ b → same_name y x ≡ c → same_name y e.0 ≡ d
        → (if c then None else find w y) ≡ find (without w x) y
        → (if c then None else if d then Some e.1 else find w y) ≡ find (if b then without w x else e ∷ without w x) y
    by true true d p q r h = h
    by true false false p q r h = h
    by true false true p q r h = cc (sym q ∙ chain x y e.0 p r)
    by false true true p q r h = cc (sym p ∙ forth x y e.0 q r)
    by false true false p q r h = rw r h
    by false false false p q r h = rw r h
    by false false true p q r h = rw r refl

-- what waits behind a declaration
waits_are : (w : Waiting) (d : Declaration) → waits_behind (find w) d ≡ find (waiting_behind w d)
waits_are w (decl.Declaration.data_items own k items) = refl
waits_are w (decl.Declaration.equate es) = refl
waits_are w (decl.Declaration.intrinsic xs) = refl
waits_are w (decl.Declaration.label xs) = refl
waits_are w (decl.Declaration.forward h) = refl
waits_are w (decl.Declaration.external h) = refl
waits_are w (decl.Declaration.procedure h items ss) = λ i y. without_is w h.name y i
waits_are w (decl.Declaration.subroutine h s) = refl

-- ---- EXTERNAL

-- a fault that is taken in again changes nothing
again_sooner : (f : Option Fault) (x : Fault) → sooner (sooner f x) x ≡ sooner f x
again_sooner f x = by f
  where
    kept : (b : Bool) → (if b then Some x else Some x) ≡ Some x
    kept true = refl
    kept false = refl

    by : (f : Option Fault) → sooner (sooner f x) x ≡ sooner f x
    by None = kept (is_before x x)
    by (Some g) = case (is_before x g) refl
      where
        case : (b : Bool) → is_before x g ≡ b → sooner (if b then Some x else Some g) x ≡ (if b then Some x else Some g)
        case true e = kept (is_before x x)
        case false e = rw e refl

-- the faults of an EXTERNAL heading are one, or none where all agree
external_is : (h : Heading) (rs : List Routine) (f : Option Fault)
    → first_fault f (unless (agree h rs) 19 h.at) ≡ first_fault f (external_faults h rs)
external_is h [] f = refl
external_is h (r ∷ rs) f =
    by (agrees_with h r) (external_is h rs f) (external_is h rs (sooner f (fault 19 h.at)))
    ∙ sym (first_then f (unless (agrees_with h r) 19 h.at) (external_faults h rs))
  where
    at_once : (b : Bool) → sooner f (fault 19 h.at) ≡ first_fault (sooner f (fault 19 h.at)) (unless b 19 h.at)
    at_once true = refl
    at_once false = sym (again_sooner f (fault 19 h.at))

    by : (b : Bool) → first_fault f (unless (agree h rs) 19 h.at) ≡ first_fault f (external_faults h rs)
        → first_fault (sooner f (fault 19 h.at)) (unless (agree h rs) 19 h.at) ≡ first_fault (sooner f (fault 19 h.at)) (external_faults h rs)
        → first_fault f (unless (if b then agree h rs else false) 19 h.at) ≡ first_fault (first_fault f (unless b 19 h.at)) (external_faults h rs)
    by true kept noted = kept
    by false kept noted = at_once (agree h rs) ∙ noted

-- ---- the list of a unit

-- a heading agrees with these
abbrev agree_with : List Routine → Heading → Bool
agree_with others h = agree h others

-- behind a declaration a FORWARD's body may be looked for at once
forward_last : (a : Around) (others : List Routine) (w v : Waiting) (t u : Table Sort) (d : Declaration) (ds : Declarations) (f : Option Fault)
    → found_forward d ds (found_globals a others v (find u) ds (walked a (agree_with others) (find w) (find t) d f))
    ≡ found_globals a others v (find u) ds (found_global a others w (find t) d ds f)
forward_last a others w v t u (decl.Declaration.data_items own k items) ds f = refl
forward_last a others w v t u (decl.Declaration.equate es) ds f = refl
forward_last a others w v t u (decl.Declaration.intrinsic xs) ds f = refl
forward_last a others w v t u (decl.Declaration.label xs) ds f = refl
forward_last a others w v t u (decl.Declaration.forward h) ds f =
    sym (globals_last a others v u ds (walked a (agree_with others) (find w) (find t) (decl.Declaration.forward h) f) (unless (gets_body ds h.name) 19 h.at))
forward_last a others w v t u (decl.Declaration.external h) ds f =
    ap (found_globals a others v (find u) ds) (external_is h others (found_heading h.split h (first_fault f (again (find t) h.name h.at))))
forward_last a others w v t u (decl.Declaration.procedure h items ss) ds f = refl
forward_last a others w v t u (decl.Declaration.subroutine h s) ds f = refl

lists_are : (a : Around) (others : List Routine) (w : Waiting) (t : Table Sort) (ds : Declarations) (f : Option Fault)
    → found_forwards ds (walked_list a (agree_with others) (find w) (find t) ds f) ≡ found_globals a others w (find t) ds f
lists_are a others w t decl.none f = refl
lists_are a others w t (decl.and d ds) f =
    let u = with_declaration nothing_declared t d in
    let v = waiting_behind w d in
    let e = walked a (agree_with others) (find w) (find t) d f in
    ap (λ (x : Waits). found_forward d ds (found_forwards ds (walked_list a (agree_with others) x (behind_declaration nothing_declared (find t) d) ds e))) (waits_are w d)
    ∙ ap (λ (here : Names). found_forward d ds (found_forwards ds (walked_list a (agree_with others) (find v) here ds e))) (sym (find_declaration nothing_declared t d))
    ∙ ap (found_forward d ds) (lists_are a others v u ds e)
    ∙ forward_last a others w v t u d ds f
    ∙ sym (rest_of_globals a others v t d ds (found_global a others w (find t) d ds f))

unit_walked : (others : List Routine) (u : Source) (f : Option Fault) → walked_unit (agree_with others) u f ≡ found_unit others u f
unit_walked others u f = ap
    (λ (e : Option Fault). let g = found_body (scope_in_main u) (statements u.tree.statements) (found_subroutines (scope_in_main u) (declarations u.tree.items) e) in
    if u.subprogram then found_silent u.tree.at u.tree.statements g else g)
    (lists_are (around_unit u) others [] [] (declarations u.tree.items) f)

pub units_walked : (before us : List Source) (f : Option Fault) → walked_units before us f ≡ found_units before us f
units_walked before [] f = refl
units_walked before (u ∷ us) f =
    units_walked (before ++ u ∷ []) us (walked_unit (agree_with (all_routines before ++ all_routines us)) u f)
    ∙ ap (found_units (before ++ u ∷ []) us) (unit_walked (all_routines before ++ all_routines us) u f)

pub first_walked : FirstRulesAreWalked
first_walked us = units_walked [] us None ∙ first_found us
