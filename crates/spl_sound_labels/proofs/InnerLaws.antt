-- A subroutine of a subprogram breaks rule 28.
use Rattle.std.proofs.Common.{ℕ, ◌≡◌, Bool, true, false, if◌then◌else◌, List, [], ◌∷◌, ◌++◌, refl, subst, ap, ◌∙◌, ◌+◌}
use Rattle.spl_places.specs.spl_tree.DeclarationTrees as decl
use Rattle.spl_places.specs.spl_tree.DeclarationTrees.{Declaration, Declarations, declarations}
use Rattle.spl_places.specs.spl_tree.StatementTrees.{statements}
use Rattle.spl_places.specs.spl_meaning.Names.{Sort, Table, nothing_declared}
use Rattle.spl_places.specs.spl_meaning.Tables.{Source, Routine, Subroutine, with_declaration, subroutine_in, subroutines_among}
use Rattle.spl_places.specs.spl_meaning.Bodies.{all_routines}
use Rattle.spl_places.specs.spl_meaning.Stops.{declaration_stops}
use Rattle.spl_places.specs.spl_meaning.ExpressionRules.{Scope}
use Rattle.spl_places.specs.spl_meaning.Faults.{fault}
use Rattle.spl_places.specs.spl_meaning.DeclarationRules.{Around, Waiting, twice, subroutine_faults, global_faults, globals_faults, waiting_behind, silent_faults, unit_faults, main_scope}
use Rattle.spl_places.specs.spl_meaning.StatementRules.{body_faults}
use Rattle.spl_places.specs.spl_meaning.Sound.{IsSound, all_faults, faults_behind}
use Rattle.spl_places.specs.Programs.{Each}
use Rattle.spl_sound_labels.specs.Labels.{NoSubroutines}
use Rattle.spl_sound_labels.proofs.LabelLaws.{left_none, right_none, no_faults}

-- what stands around the list of a unit
abbrev around_unit : Bool → Around
around_unit subprogram = record { names = nothing_declared; in_procedure = false; split = false; subprogram = subprogram }

one_none : (sc : Scope) (others : List Routine) (w : Waiting) (t : Table Sort) (m : ℕ) (d : Declaration) (ds : Declarations)
    → global_faults (around_unit true) sc others w t d ds ≡ [] → subroutine_in m d ≡ []
one_none sc others w t m (decl.Declaration.data_items own k items) ds none = refl
one_none sc others w t m (decl.Declaration.equate es) ds none = refl
one_none sc others w t m (decl.Declaration.intrinsic xs) ds none = refl
one_none sc others w t m (decl.Declaration.label xs) ds none = refl
one_none sc others w t m (decl.Declaration.forward h) ds none = refl
one_none sc others w t m (decl.Declaration.external h) ds none = refl
one_none sc others w t m (decl.Declaration.procedure h items ss) ds none = refl
one_none sc others w t m (decl.Declaration.subroutine h s) ds none =
    clash (right_none (twice t h.name h.at) (fault 28 h.at ∷ []) (left_none (twice t h.name h.at ++ fault 28 h.at ∷ []) (subroutine_faults sc h s) none))
  where
    clash : {A : Type 0} → fault 28 h.at ∷ [] ≡ [] → A
    clash {A} e = cc

all_none : (sc : Scope) (others : List Routine) (w : Waiting) (t : Table Sort) (m : ℕ) (ds : Declarations) → globals_faults (around_unit true) sc others w t ds ≡ []
    → subroutines_among m ds ≡ []
all_none sc others w t m decl.none none = refl
all_none sc others w t m (decl.and d ds) none =
    let of_d = global_faults (around_unit true) sc others w t d ds in
    let of_rest = globals_faults (around_unit true) sc others (waiting_behind w d) (with_declaration nothing_declared t d) ds in
    ap (λ (xs : List Subroutine). xs ++ subroutines_among (m + declaration_stops d) ds) (one_none sc others w t m d ds (left_none of_d of_rest none))
    ∙ all_none sc others (waiting_behind w d) (with_declaration nothing_declared t d) (m + declaration_stops d) ds (right_none of_d of_rest none)

unit_none : (others : List Routine) (u : Source) → unit_faults others u ≡ [] → NoSubroutines u
unit_none others u none is =
    let lists = globals_faults (around_unit u.subprogram) (main_scope u) others [] [] (declarations u.tree.items) in
    let body = body_faults (main_scope u) (statements u.tree.statements) in
    let silent = if u.subprogram then silent_faults u.tree.at u.tree.statements else [] in
    all_none (main_scope u) others [] [] 0 (declarations u.tree.items)
    (subst (λ (b : Bool). globals_faults (around_unit b) (main_scope u) others [] [] (declarations u.tree.items) ≡ []) is
    (left_none lists body (left_none (lists ++ body) silent none)))

units_none : (before us : List Source) → faults_behind before us ≡ [] → Each NoSubroutines us
units_none before [] none = tt
units_none before (u ∷ us) none =
    let of_u = unit_faults (all_routines before ++ all_routines us) u in
    let of_rest = faults_behind (before ++ u ∷ []) us in
    (unit_none (all_routines before ++ all_routines us) u (left_none of_u of_rest none), units_none (before ++ u ∷ []) us (right_none of_u of_rest none))

pub sound_none : (us : List Source) → IsSound us → Each NoSubroutines us
sound_none us sound = units_none [] us (no_faults us (all_faults us) refl sound)
