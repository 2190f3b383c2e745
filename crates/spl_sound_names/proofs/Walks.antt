-- Lists of declarations that break no rule: what each name of the list stands for is known, and a subroutine is one that the list declares.
use Rattle.std.proofs.Common.{◌≡◌, ℕ, Bool, true, false, if◌then◌else◌, List, [], refl, rules}
use Rattle.spl_sound.specs.spl_tree.DeclarationTrees as decl
use Rattle.spl_sound.specs.spl_tree.DeclarationTrees.{Declaration, Declarations, Heading}
use Rattle.spl_sound.specs.spl_meaning.Names as n
use Rattle.spl_sound.specs.spl_meaning.Names.{Sort, Table, find, same_name, nothing_declared, profile_of}
use Rattle.spl_sound.specs.spl_meaning.Tables.{Routine, with_declaration, with_declarations}
use Rattle.spl_sound.specs.spl_meaning.ExpressionRules.{Scope}
use Rattle.spl_sound.specs.spl_meaning.DeclarationRules.{Around, Waiting, local_faults_of, local_faults, global_faults, globals_faults, waiting_behind}
use Rattle.spl_sound_names.specs.Known.{AreKnown, declares_inner, has_inner}
use Rattle.spl_sound_names.proofs.Tables.{left_none, right_none, never, known_declared, known_items, Known, known_equates, known_intrinsics, known_labels}

pub same_self : (x : List ℕ) → same_name x x ≡ true
same_self x = search rules

-- what stands around the list of a unit
abbrev pub around_unit : Bool → Around
around_unit subprogram = record { names = nothing_declared; in_procedure = false; split = false; subprogram = subprogram }

known_nothing : Known nothing_declared
known_nothing x s is = cc

-- a procedure or a subroutine
known_procedure : (passed inner : List ℕ → Bool) (t : Table Sort) (h : Heading) → AreKnown passed inner (find t)
    → AreKnown passed inner (find (with_declaration nothing_declared t (decl.Declaration.forward h)))
known_procedure passed inner t h are = known_declared passed inner t h.name (n.procedure (profile_of h)) are refl never never

-- ---- in a procedure

known_local : (passed inner : List ℕ → Bool) (a : Around) (sc : Scope) (t : Table Sort) (d : Declaration) → Known a.names → AreKnown passed inner (find t)
    → ((x : List ℕ) → declares_inner d x ≡ true → inner x ≡ true) → local_faults_of a sc t d ≡ [] → AreKnown passed inner (find (with_declaration a.names t d))
known_local passed inner a sc t (decl.Declaration.data_items own k items) around are mine none = known_items passed inner a.names own k t items are
known_local passed inner a sc t (decl.Declaration.equate es) around are mine none = known_equates passed inner a t es around are none
known_local passed inner a sc t (decl.Declaration.intrinsic xs) around are mine none = known_intrinsics passed inner t xs are none
known_local passed inner a sc t (decl.Declaration.label xs) around are mine none = known_labels passed inner t xs are
known_local passed inner a sc t (decl.Declaration.forward h) around are mine none = known_procedure passed inner t h are
known_local passed inner a sc t (decl.Declaration.external h) around are mine none = known_procedure passed inner t h are
known_local passed inner a sc t (decl.Declaration.procedure h items ss) around are mine none = known_procedure passed inner t h are
known_local passed inner a sc t (decl.Declaration.subroutine h s) around are mine none =
    known_declared passed inner t h.name (n.subroutine (profile_of h)) are refl never (λ _. mine h.name (same_self h.name))

-- a subroutine of one declaration, or of a later one
first_inner : (b c : Bool) → b ≡ true → (if b then true else c) ≡ true
first_inner true c is = refl
first_inner false c is = never is

later_inner : (b c : Bool) → c ≡ true → (if b then true else c) ≡ true
later_inner true c is = refl
later_inner false c is = is

pub known_locals : (passed inner : List ℕ → Bool) (a : Around) (sc : Scope) (t : Table Sort) (ds : Declarations) → Known a.names → AreKnown passed inner (find t)
    → ((x : List ℕ) → has_inner ds x ≡ true → inner x ≡ true) → local_faults a sc t ds ≡ [] → AreKnown passed inner (find (with_declarations a.names t ds))
known_locals passed inner a sc t decl.none around are mine none = are
known_locals passed inner a sc t (decl.and d ds) around are mine none =
    let behind = with_declaration a.names t d in
    known_locals passed inner a sc behind ds around
    (known_local passed inner a sc t d around are (λ x is. mine x (first_inner (declares_inner d x) (has_inner ds x) is))
    (left_none (local_faults_of a sc t d) (local_faults a sc behind ds) none))
    (λ x is. mine x (later_inner (declares_inner d x) (has_inner ds x) is)) (right_none (local_faults_of a sc t d) (local_faults a sc behind ds) none)

-- ---- in a unit

pub known_global : (passed inner : List ℕ → Bool) (sub : Bool) (sc : Scope) (others : List Routine) (w : Waiting) (t : Table Sort) (d : Declaration) (ds : Declarations)
    → AreKnown passed inner (find t) → ((x : List ℕ) → declares_inner d x ≡ true → inner x ≡ true)
    → global_faults (around_unit sub) sc others w t d ds ≡ [] → AreKnown passed inner (find (with_declaration nothing_declared t d))
known_global passed inner sub sc others w t (decl.Declaration.data_items own k items) ds are mine none = known_items passed inner nothing_declared own k t items are
known_global passed inner sub sc others w t (decl.Declaration.equate es) ds are mine none = known_equates passed inner (around_unit sub) t es known_nothing are none
known_global passed inner sub sc others w t (decl.Declaration.intrinsic xs) ds are mine none = known_intrinsics passed inner t xs are none
known_global passed inner sub sc others w t (decl.Declaration.label xs) ds are mine none = known_labels passed inner t xs are
known_global passed inner sub sc others w t (decl.Declaration.forward h) ds are mine none = known_procedure passed inner t h are
known_global passed inner sub sc others w t (decl.Declaration.external h) ds are mine none = known_procedure passed inner t h are
known_global passed inner sub sc others w t (decl.Declaration.procedure h items ss) ds are mine none = known_procedure passed inner t h are
known_global passed inner sub sc others w t (decl.Declaration.subroutine h s) ds are mine none =
    known_declared passed inner t h.name (n.subroutine (profile_of h)) are refl never (λ _. mine h.name (same_self h.name))

pub known_globals : (passed inner : List ℕ → Bool) (sub : Bool) (sc : Scope) (others : List Routine) (w : Waiting) (t : Table Sort) (ds : Declarations)
    → AreKnown passed inner (find t) → ((x : List ℕ) → has_inner ds x ≡ true → inner x ≡ true)
    → globals_faults (around_unit sub) sc others w t ds ≡ [] → AreKnown passed inner (find (with_declarations nothing_declared t ds))
known_globals passed inner sub sc others w t decl.none are mine none = are
known_globals passed inner sub sc others w t (decl.and d ds) are mine none =
    let behind = with_declaration nothing_declared t d in
    let of_d = global_faults (around_unit sub) sc others w t d ds in
    let of_rest = globals_faults (around_unit sub) sc others (waiting_behind w d) behind ds in
    known_globals passed inner sub sc others (waiting_behind w d) behind ds
    (known_global passed inner sub sc others w t d ds are (λ x is. mine x (first_inner (declares_inner d x) (has_inner ds x) is)) (left_none of_d of_rest none))
    (λ x is. mine x (later_inner (declares_inner d x) (has_inner ds x) is)) (right_none of_d of_rest none)

-- no name is there before the first declaration
pub known_none : (passed inner : List ℕ → Bool) → AreKnown passed inner (find [])
known_none passed inner = record { known = λ x s is. cc; passed = λ x s is. cc; inner = λ x s is. cc }
