-- Subroutines that were appended one behind the other are the subroutines of their body.
use Rattle.std.proofs.Common.{◌≡◌, ℕ, suc, ◌+◌, List, [], ◌∷◌, refl, sym, subst, add-one, arith}
use Rattle.spl_sound_labels.specs.spl_tree.DeclarationTrees as decl
use Rattle.spl_sound_labels.specs.spl_tree.DeclarationTrees.{Declaration, Declarations}
use Rattle.spl_sound_labels.specs.spl_tree.StatementTrees.{statements}
use Rattle.spl_sound_labels.specs.spl_meaning.Stops.{declaration_stops}
use Rattle.spl_sound_labels.specs.spl_meaning.Names.{formals_of}
use Rattle.spl_sound_labels.specs.spl_meaning.Pending.{formals_words}
use Rattle.spl_sound_labels.specs.spl_meaning.Tables.{Subroutine, subroutines_among}
use Rattle.spl_sound_labels.specs.spl_meaning.Bodies.{Body, subroutine_body}
use Rattle.spl_sound_labels.specs.spl_places.Programs.{Each}
use Rattle.spl_routine_code.specs.spl_rooms.declared.room_type.Room.{Room}
use Rattle.spl_routine_code.specs.spl_branch.declared.buffer.Code.{Code}
use Rattle.spl_routine_code.specs.spl_code.Calls.{Scope}
use Rattle.spl_routine_code.specs.spl_scopes.Entries.{Owner, Entry}
use Rattle.spl_routine_code.specs.spl_statement_scopes.Scopes.{StatesInner, StatesMainInner}
use Rattle.spl_routine_code.specs.Bodies.{statements_part}
use Rattle.spl_unit_codes.specs.spl_module_code.Bodies.{statements_scope, subroutine_part, subroutine_parts}
use Rattle.spl_routine_code.specs.Generates.{Generates, GeneratesFrom}
use Rattle.spl_routine_code.specs.Scoped.{subroutine_with}
use Rattle.spl_routine_code.specs.Routines.{Around, inner_count, inners_among, room_at, inner_first, InnerStands, InnerStep, InnersStand}
use Rattle.spl_routine_code.specs.Routines.{InnersStand as s}
use Rattle.spl_routine_code.proofs.OpenMarks.{one_generated, none_generated, then_generated}

-- the scope that a subroutine's statement sees through the levels around it is that of its body
abbrev pub Seen : List Entry → Owner → Body → Around → Subroutine → Type 0
Seen es o b a sub = (scope : Scope) → StatesInner (inner_first a sub.heading) a.own a.outer a.calls scope
    → StatesMainInner (inner_first a sub.heading) a.own a.outer a.calls scope → statements_scope es o (subroutine_body b sub) ≡ scope

-- the rooms of subroutines are what their bodies need
abbrev pub AllRoomy : List Room → Body → ℕ → List Subroutine → Type 0
AllRoomy rooms b k [] = Unit {0}
AllRoomy rooms b k (sub ∷ subs) = ((room_at rooms k).depth ≡ (subroutine_body b sub).depth') × AllRoomy rooms b (suc k) subs

-- one
pub inner_made : (es : List Entry) (o : Owner) (b : Body) (a : Around) (sub : Subroutine) (depth entry : ℕ) (c d : Code)
    → InnerStands a sub.heading sub.statement depth entry c d → Seen es o b a sub → depth ≡ (subroutine_body b sub).depth'
    → Generates entry (subroutine_part es o b entry sub) c d
inner_made es o b a sub depth entry c d one seen room =
    let body : Body = subroutine_body b sub in
    let words : ℕ = formals_words (formals_of sub.heading) in
    let ss = statements (sub.statement ∷ []) in
    let is = seen one.scope one.inner one.main_inner in
    subst (λ n. Generates entry (subroutine_with n words entry (statements_part (statements_scope es o body) ss)) c d) room
    (subst (λ (s : Scope). Generates entry (subroutine_with depth words entry (statements_part s ss)) c d) (sym is) one.stands)

-- what the rest of a list comes to, wherever it begins
abbrev Rest : List Entry → Owner → Body → Around → List Room → ℕ → Declarations → Code → Type 0
Rest es o b a rooms n ds f = (k entry : ℕ) (c : Code) → InnersStand a rooms ds k entry c f → Each (Seen es o b a) (subroutines_among n ds) → AllRoomy rooms b k (subroutines_among n ds)
    → GeneratesFrom entry (inners_among ds) (subroutine_parts es o b entry (subroutines_among n ds)) c f

zero_more : (k n : ℕ) → n ≡ 0 → k + n ≡ k
zero_more k n none = omega (arith, none)

-- behind a declaration that is no subroutine
plain : (es : List Entry) (o : Owner) (b : Body) (a : Around) (rooms : List Room) (n m : ℕ) (ds : Declarations) (k entry : ℕ) (c e f : Code) → m ≡ 0 → e ≡ c
    → Rest es o b a rooms n ds f → InnersStand a rooms ds (k + m) (entry + m) e f → Each (Seen es o b a) (subroutines_among n ds) → AllRoomy rooms b k (subroutines_among n ds)
    → GeneratesFrom entry (0 + inners_among ds) (subroutine_parts es o b entry (subroutines_among n ds)) c f
plain es o b a rooms n m ds k entry c e f none same rest stand seen roomy =
    subst (λ i. GeneratesFrom entry i (subroutine_parts es o b entry (subroutines_among n ds)) c f) (none_before (inners_among ds))
    (rest k entry c
    (subst (λ x. InnersStand a rooms ds k entry x f) same
    (subst (λ i. InnersStand a rooms ds i entry e f) (zero_more k m none)
    (subst (λ i. InnersStand a rooms ds (k + m) i e f) (zero_more entry m none) stand))) seen roomy)
  where
    none_before : (i : ℕ) → i ≡ 0 + i
    none_before i = omega arith

-- behind one that is
inner : (es : List Entry) (o : Owner) (b : Body) (a : Around) (rooms : List Room) (n : ℕ) (sub : Subroutine) (ds : Declarations) (k entry : ℕ) (c e f : Code)
    → InnerStands a sub.heading sub.statement (room_at rooms k).depth entry c e → Rest es o b a rooms n ds f → InnersStand a rooms ds (k + 1) (entry + 1) e f
    → Each (Seen es o b a) (sub ∷ subroutines_among n ds) → AllRoomy rooms b k (sub ∷ subroutines_among n ds)
    → GeneratesFrom entry (1 + inners_among ds) (subroutine_parts es o b entry (sub ∷ subroutines_among n ds)) c f
inner es o b a rooms n sub ds k entry c e f one rest stand seen roomy =
    let others = subroutines_among n ds in
    let here = one_generated entry (subroutine_part es o b entry sub) c e (inner_made es o b a sub (room_at rooms k).depth entry c e one seen.0 roomy.0) in
    let behind =
    rest (suc k) (suc entry) e
    (subst (λ i. InnersStand a rooms ds i (suc entry) e f) (add-one k) (subst (λ i. InnersStand a rooms ds (k + 1) i e f) (add-one entry) stand)) seen.1 roomy.1 in
    then_generated entry 1 (subroutine_part es o b entry sub) (suc entry) (inners_among ds) (subroutine_parts es o b (suc entry) others) c e f here (sym (add-one entry)) behind

step : (es : List Entry) (o : Owner) (b : Body) (a : Around) (rooms : List Room) (n : ℕ) (d : Declaration) (ds : Declarations) (k entry : ℕ) (c e f : Code)
    → InnerStep a rooms d k entry c e → Rest es o b a rooms (n + declaration_stops d) ds f → InnersStand a rooms ds (k + inner_count d) (entry + inner_count d) e f
    → Each (Seen es o b a) (subroutines_among n (decl.and d ds)) → AllRoomy rooms b k (subroutines_among n (decl.and d ds))
    → GeneratesFrom entry (inners_among (decl.and d ds)) (subroutine_parts es o b entry (subroutines_among n (decl.and d ds))) c f
step es o b a rooms n (decl.Declaration.subroutine h st) ds k entry c e f one rest stand seen roomy =
    inner es o b a rooms (n + declaration_stops (decl.Declaration.subroutine h st)) (record { heading = h; statement = st; before = n }) ds k entry c e f one rest stand seen roomy
step es o b a rooms n (decl.Declaration.data_items own kind is) ds k entry c e f one rest stand seen roomy =
    plain es o b a rooms (n + declaration_stops (decl.Declaration.data_items own kind is)) 0 ds k entry c e f refl one rest stand seen roomy
step es o b a rooms n (decl.Declaration.equate xs) ds k entry c e f one rest stand seen roomy =
    plain es o b a rooms (n + declaration_stops (decl.Declaration.equate xs)) 0 ds k entry c e f refl one rest stand seen roomy
step es o b a rooms n (decl.Declaration.intrinsic xs) ds k entry c e f one rest stand seen roomy =
    plain es o b a rooms (n + declaration_stops (decl.Declaration.intrinsic xs)) 0 ds k entry c e f refl one rest stand seen roomy
step es o b a rooms n (decl.Declaration.label xs) ds k entry c e f one rest stand seen roomy =
    plain es o b a rooms (n + declaration_stops (decl.Declaration.label xs)) 0 ds k entry c e f refl one rest stand seen roomy
step es o b a rooms n (decl.Declaration.forward h) ds k entry c e f one rest stand seen roomy =
    plain es o b a rooms (n + declaration_stops (decl.Declaration.forward h)) 0 ds k entry c e f refl one rest stand seen roomy
step es o b a rooms n (decl.Declaration.external h) ds k entry c e f one rest stand seen roomy =
    plain es o b a rooms (n + declaration_stops (decl.Declaration.external h)) 0 ds k entry c e f refl one rest stand seen roomy
step es o b a rooms n (decl.Declaration.procedure h items ss) ds k entry c e f one rest stand seen roomy =
    plain es o b a rooms (n + declaration_stops (decl.Declaration.procedure h items ss)) 0 ds k entry c e f refl one rest stand seen roomy

-- all of a list
pub inners_made : (es : List Entry) (o : Owner) (b : Body) (a : Around) (rooms : List Room) (n : ℕ) (ds : Declarations) (k entry : ℕ) (c e : Code)
    → InnersStand a rooms ds k entry c e → Each (Seen es o b a) (subroutines_among n ds) → AllRoomy rooms b k (subroutines_among n ds)
    → GeneratesFrom entry (inners_among ds) (subroutine_parts es o b entry (subroutines_among n ds)) c e
inners_made es o b a rooms n _ k entry c _ s.none seen roomy = none_generated entry c
inners_made es o b a rooms n (decl.and d ds) k entry c f (s.more {e = e} one rest) seen roomy =
    step es o b a rooms n d ds k entry c e f one (λ i j x stand see room. inners_made es o b a rooms (n + declaration_stops d) ds i j x f stand see room) rest seen roomy
