-- The names of units that break no rule, and the parameters of headings that break none.
use Rattle.std.proofs.Common.{◌≡◌, ℕ, zero, suc, Bool, false, if◌then◌else◌, List, [], ◌∷◌, ◌++◌, Some, inl, refl, subst}
use Rattle.std.specs.List.{slice_get}
use Rattle.spl_sound.specs.spl_tree.DeclarationTrees.{Heading, declarations}
use Rattle.spl_sound.specs.spl_tree.StatementTrees.{statements}
use Rattle.spl_sound.specs.spl_meaning.Names.{find, formals_of}
use Rattle.spl_sound.specs.spl_meaning.Tables.{Source, Routine, unit_table}
use Rattle.spl_sound.specs.spl_meaning.Bodies.{all_routines}
use Rattle.spl_sound.specs.spl_meaning.StatementRules.{repeated, body_faults}
use Rattle.spl_sound.specs.spl_meaning.DeclarationRules.{heading_faults, not_parameters, all_listed, array_values, without_kind, split_parameters, globals_faults, main_scope, silent_faults, unit_faults}
use Rattle.spl_sound.specs.spl_meaning.Faults.{Fault, IsAmong}
use Rattle.spl_sound.specs.spl_meaning.Sound.{IsSound, all_faults, faults_behind}
use Rattle.spl_sound_names.specs.Known.{AreKnown, has_inner}
use Rattle.spl_sound_names.specs.Laws.{UnitNamesAreKnown, ParametersAreFound, LocalNamesAreKnown}
use Rattle.spl_sound_names.proofs.Tables.{left_none, right_none}
use Rattle.spl_sound_names.proofs.Levels.{parameters_found}
use Rattle.spl_sound_names.proofs.Walks.{around_unit, known_globals, known_locals, known_none}

-- each parameter of a heading has a kind
pub kinds_none : (split : Bool) (h : Heading) → heading_faults split h ≡ [] → without_kind h.specs h.names ≡ []
kinds_none split h none =
    let front = repeated 2 [] h.names ++ not_parameters h.names h.values ++ not_parameters h.names (all_listed h.specs) ++ array_values h.specs h.values in
    let kinds = without_kind h.specs h.names in
    let again = repeated 18 [] (all_listed h.specs) in
    right_none front kinds (left_none (front ++ kinds) again (left_none (front ++ kinds ++ again) (split_parameters split (formals_of h)) none))

pub heading_found : ParametersAreFound
heading_found split h below gap entries none = parameters_found h below gap entries (kinds_none split h none)

pub locals_known : LocalNamesAreKnown
locals_known passed a sc t ds around are none = known_locals passed (has_inner ds) a sc t ds around are (λ x is. is) none

-- units without faults
pub sound_none : (us : List Source) (fs : List Fault) → fs ≡ all_faults us → IsSound us → fs ≡ []
sound_none us [] is sound = refl
sound_none us (f ∷ fs) is sound = absurd (sound f.rule f.at (subst (IsAmong f) is (inl refl)))

unit_known : (others : List Routine) (u : Source) → unit_faults others u ≡ [] → AreKnown (λ x. false) (has_inner (declarations u.tree.items)) (find (unit_table u))
unit_known others u none =
    let ds = declarations u.tree.items in
    let lists = globals_faults (around_unit u.subprogram) (main_scope u) others [] [] ds in
    let body = body_faults (main_scope u) (statements u.tree.statements) in
    let silent = if u.subprogram then silent_faults u.tree.at u.tree.statements else [] in
    known_globals (λ x. false) (has_inner ds) u.subprogram (main_scope u) others [] [] ds (known_none (λ x. false) (has_inner ds)) (λ x is. is)
    (left_none lists body (left_none (lists ++ body) silent none))

source_same : (u v : Source) → Some u ≡ Some v → u ≡ v
source_same u v is = cc

units_known : (before us : List Source) → faults_behind before us ≡ [] → (i : ℕ) (u : Source) → slice_get us i ≡ Some u
    → AreKnown (λ x. false) (has_inner (declarations u.tree.items)) (find (unit_table u))
units_known before [] none i u is = cc
units_known before (v ∷ us) none zero u is =
    let others = all_routines before ++ all_routines us in
    subst (λ (w : Source). AreKnown (λ x. false) (has_inner (declarations w.tree.items)) (find (unit_table w))) (source_same v u is)
    (unit_known others v (left_none (unit_faults others v) (faults_behind (before ++ v ∷ []) us) none))
units_known before (v ∷ us) none (suc i) u is =
    units_known (before ++ v ∷ []) us (right_none (unit_faults (all_routines before ++ all_routines us) v) (faults_behind (before ++ v ∷ []) us) none) i u is

pub units_are_known : UnitNamesAreKnown
units_are_known us sound i u is = units_known [] us (sound_none us (all_faults us) refl sound) i u is
