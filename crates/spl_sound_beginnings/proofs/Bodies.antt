-- The names of bodies that break no rule are found.
-- 1. a body, and the subroutines of one                       (body_found, inner_found)
-- 2. the names that a procedure and a main body see            (routine_names_found, main_names_found)
use Rattle.std.proofs.Common.{◌≡◌, ℕ, ◌+◌, not, true, false, List, [], ◌++◌, Option, Some, option_map, is_some, refl, sym, subst, ap}
use Rattle.std.proofs.lemmas.Bool.{and_from}
use Rattle.spl_sound_names.specs.spl_tree.DeclarationTrees as decl
use Rattle.spl_sound_names.specs.spl_tree.DeclarationTrees.{Declaration, Declarations, Heading}
use Rattle.spl_sound_names.specs.spl_tree.StatementTrees.{Statement}
use Rattle.spl_sound_names.specs.spl_meaning.Names.{Names, Sort, Table, find, within, parameters, formals_of}
use Rattle.spl_sound_names.specs.spl_meaning.Tables.{Routine, Subroutine, routine_table, subroutine_in, subroutines_among, with_declaration}
use Rattle.spl_sound_names.specs.spl_meaning.Places.{data_word, above_base, below_base, below_return, places_from}
use Rattle.spl_sound_names.specs.spl_meaning.Stops.{declaration_stops}
use Rattle.spl_sound_names.specs.spl_meaning.Bodies.{Body, subroutine_body, marker_gap, parameter_places, procedure_body}
use Rattle.spl_sound_names.specs.spl_meaning.Faults.{Fault, unless}
use Rattle.spl_sound_names.specs.spl_meaning.ExpressionRules as rule
use Rattle.spl_sound_names.specs.spl_meaning.StatementRules.{has_name, list_labels, repeated, all_labels, statement_faults, statements_faults}
use Rattle.spl_sound_names.specs.spl_meaning.DeclarationRules.{Around, twice, heading_faults, subroutine_scope, subroutine_faults, declared_subroutine, local_faults_of, local_faults, procedure_scope}
use Rattle.spl_piece_kinds.specs.spl_scopes.Entries.{Owner, Entry, procedure_index, subroutine_index}
use Rattle.spl_piece_kinds.specs.spl_module_code.LabelsOfBodies.{labels_among}
use Rattle.spl_piece_kinds.specs.spl_module_code.Bodies.{assigned_place, seen_results}
use Rattle.spl_beginnings.specs.Found.{are_found}
use Rattle.spl_sound_beginnings.specs.FoundBodies.{bears, is_found_body, are_found_inner}
use Rattle.spl_sound_names.specs.Known.{AreKnown, NamesAreFound, has_inner}
use Rattle.spl_sound_names.proofs.Tables.{left_none, right_none, never}
use Rattle.spl_sound_names.proofs.Levels.{known_parameters, parameters_found, list_found, first_found, over_found, more_found}
use Rattle.spl_sound_names.proofs.Walks.{known_locals}
use Rattle.spl_sound_names.proofs.Units.{kinds_none}
use Rattle.spl_sound_beginnings.proofs.Statements.{Inside, list_among, statements_found}

-- ---- 1. bodies

-- the scope of a body's statements has the names that they see, and the places of results before the others
body_scope : (es : List Entry) (o : Owner) (b : Body) (sc : rule.Scope) → sc.names ≡ b.here.names → NamesAreFound b.here.names b.here.places (subroutine_index o es)
    → (outer : List (List ℕ)) → Inside (has_name outer) (bears (labels_among b.statements 0)) → statements_faults sc outer false b.statements ≡ []
    → is_found_body es o b ≡ true
body_scope es o b sc same found outer around none =
    subst (λ (names : Names). are_found (record { names = names; places = assigned_place b; procedures = procedure_index es; subroutines = subroutine_index o es })
    (bears (labels_among b.statements 0)) b.statements ≡ true) same
    (statements_found sc (assigned_place b) (procedure_index es) (subroutine_index o es)
    (subst (λ (names : Names). NamesAreFound names (assigned_place b) (subroutine_index o es)) (sym same)
    (more_found b.here.names (λ x. option_map (λ r. r.1) (seen_results b.here.names b.here.results x)) b.here.places (subroutine_index o es) found))
    (bears (labels_among b.statements 0)) outer around b.statements 0 (λ x is. is) false none)

-- a body that is a list
pub body_found : (es : List Entry) (o : Owner) (b : Body) (sc : rule.Scope) → sc.names ≡ b.here.names → NamesAreFound b.here.names b.here.places (subroutine_index o es)
    → statements_faults sc (list_labels b.statements) false b.statements ≡ [] → is_found_body es o b ≡ true
body_found es o b sc same found none = body_scope es o b sc same found (list_labels b.statements) (list_among b.statements 0) none

-- a subroutine of a body
pub inner_found : (es : List Entry) (o : Owner) (b : Body) (sc : rule.Scope) → sc.names ≡ b.here.names → NamesAreFound b.here.names b.here.places (subroutine_index o es)
    → (a : Around) (t : Table Sort) (h : Heading) (s : Statement) (m : ℕ) → declared_subroutine a t sc h s ≡ []
    → is_found_body es o (subroutine_body b (record { heading = h; statement = s; before = m })) ≡ true
inner_found es o b sc same found a t h s m none =
    let head = twice t h.name h.at ++ unless (not a.subprogram) 28 h.at in
    let statement = statement_faults (subroutine_scope sc h) [] false s in
    let in_list = right_none head (subroutine_faults sc h s) none in
    let both = left_none (heading_faults sc.split h ++ statement) (repeated 20 [] (all_labels s)) in_list in
    let kinds = kinds_none sc.split h (left_none (heading_faults sc.split h) statement both) in
    let own = right_none (heading_faults sc.split h) statement both in
    body_scope es o (subroutine_body b (record { heading = h; statement = s; before = m })) (subroutine_scope sc h)
    (ap (λ (names : Names). within (parameters (formals_of h)) names) same)
    (over_found (find (parameters (formals_of h))) b.here.names (find (parameter_places below_return 0 (formals_of h))) b.here.places (subroutine_index o es)
    (parameters_found h below_return 0 (subroutine_index o es) kinds) found)
    [] (λ x is. never is) (ap (λ (fs : List Fault). fs ++ []) own)

-- the subroutines of a list
first_of_inner : (es : List Entry) (o : Owner) (b : Body) (sc : rule.Scope) → sc.names ≡ b.here.names → NamesAreFound b.here.names b.here.places (subroutine_index o es)
    → (a : Around) (t : Table Sort) (m : ℕ) (d : Declaration) (rest : List Subroutine) → local_faults_of a sc t d ≡ [] → are_found_inner es o b rest ≡ true
    → are_found_inner es o b (subroutine_in m d ++ rest) ≡ true
first_of_inner es o b sc same found a t m (decl.Declaration.subroutine h s) rest none others =
    and_from (is_found_body es o (subroutine_body b (record { heading = h; statement = s; before = m }))) (are_found_inner es o b rest)
    (inner_found es o b sc same found a t h s m none) others
first_of_inner es o b sc same found a t m (decl.Declaration.data_items own k items) rest none others = others
first_of_inner es o b sc same found a t m (decl.Declaration.equate es') rest none others = others
first_of_inner es o b sc same found a t m (decl.Declaration.intrinsic xs) rest none others = others
first_of_inner es o b sc same found a t m (decl.Declaration.label xs) rest none others = others
first_of_inner es o b sc same found a t m (decl.Declaration.forward h) rest none others = others
first_of_inner es o b sc same found a t m (decl.Declaration.external h) rest none others = others
first_of_inner es o b sc same found a t m (decl.Declaration.procedure h items ss) rest none others = others

pub all_inner_found : (es : List Entry) (o : Owner) (b : Body) (sc : rule.Scope) → sc.names ≡ b.here.names → NamesAreFound b.here.names b.here.places (subroutine_index o es)
    → (a : Around) (t : Table Sort) (m : ℕ) (ds : Declarations) → local_faults a sc t ds ≡ [] → are_found_inner es o b (subroutines_among m ds) ≡ true
all_inner_found es o b sc same found a t m decl.none none = refl
all_inner_found es o b sc same found a t m (decl.and d ds) none =
    let behind = with_declaration a.names t d in
    first_of_inner es o b sc same found a t m d (subroutines_among (m + declaration_stops d) ds) (left_none (local_faults_of a sc t d) (local_faults a sc behind ds) none)
    (all_inner_found es o b sc same found a behind (m + declaration_stops d) ds (right_none (local_faults_of a sc t d) (local_faults a sc behind ds) none))

-- ---- 2. the names that bodies see

-- a main body
pub main_names_found : (primary : ℕ) (t : Table Sort) (entries : List ℕ → Option ℕ) → AreKnown (λ x. false) (λ x. is_some (entries x)) (find t)
    → NamesAreFound (find t) (find (places_from data_word 0 primary t)) entries
main_names_found primary t entries are = list_found [] data_word 0 primary t entries are

-- a procedure, around which names are known, none of which is a subroutine
pub routine_names_found : (primary own own_arrays : ℕ) (t : Table Sort) (r : Routine) (entries : List ℕ → Option ℕ)
    → AreKnown (λ x. false) (λ x. false) (find r.globals) → ((x : List ℕ) (s : Sort) → find r.globals x ≡ Some s → find t x ≡ Some s)
    → heading_faults r.heading.split r.heading ≡ []
    → local_faults (record { names = find r.globals; in_procedure = true; split = r.heading.split; subprogram = false })
    (procedure_scope r.globals r.heading r.items) (parameters (formals_of r.heading)) r.items ≡ []
    → ((x : List ℕ) → has_inner r.items x ≡ true → is_some (entries x) ≡ true)
    → NamesAreFound (procedure_body (places_from data_word 0 primary t) own own_arrays r).here.names
    (procedure_body (places_from data_word 0 primary t) own own_arrays r).here.places entries
routine_names_found primary own own_arrays t r entries are kept heading locals inner =
    let a : Around = record { names = find r.globals; in_procedure = true; split = r.heading.split; subprogram = false } in
    let ps = parameter_places below_base marker_gap (formals_of r.heading) in
    let known = known_locals (λ x. is_some (find ps x)) (λ x. is_some (entries x)) a (procedure_scope r.globals r.heading r.items) (parameters (formals_of r.heading)) r.items
    are.known (known_parameters r.heading below_base marker_gap (λ x. is_some (entries x)) (kinds_none r.heading.split r.heading heading)) inner locals in
    over_found (find (routine_table r)) (find r.globals) (find (ps ++ places_from above_base own 1 (routine_table r))) (find (places_from data_word 0 primary t)) entries
    (list_found ps above_base own 1 (routine_table r) entries known) (first_found data_word 0 primary r.globals t entries are kept)
