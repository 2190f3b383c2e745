-- Bodies have few words.
-- 1. room, zeros, cells and values by their counts                       (few_entered)
-- 2. zeros are one word where no array is local, 126 words at most else  (zeros_paid)
-- 3. heading, body and items pay for all of them                          (procedure_few)
use Rattle.std.proofs.Common.{◌≡◌, ◌≤◌, ℕ, ◌+◌, Bool, true, false, if◌then◌else◌, List, ◌++◌, refl, ◌∙◌, arith}
use Rattle.spl_code.specs.spl_tree.DeclarationTrees.{Heading}
use Rattle.spl_code.specs.spl_tree.StatementTrees.{statements}
use Rattle.spl_code.specs.spl_meaning.Names.{Table, parameters, formals_of}
use Rattle.spl_code.specs.spl_meaning.Tables.{Source, Routine, Subroutine, outer_names, routine_table, routine_subroutines, unit_subroutines}
use Rattle.spl_code.specs.spl_meaning.Places.{Place, list_words, list_array_words, places_from, arrays_from, above_base}
use Rattle.spl_code.specs.spl_meaning.Pending.{formals_words}
use Rattle.spl_code.specs.spl_meaning.Bodies.{Body, routine_starts, procedure_body, subroutine_body, main_body}
use Rattle.spl_code.specs.spl_meaning.Bound.{heading_weight, declarations_weight, statement_weight, statements_weight, subroutine_weight, subroutines_weight, routine_weight, main_weight}
use Rattle.spl_code.specs.spl_branch.declared.pieces.Piece.{Piece}
use Rattle.spl_code.specs.spl_branch.declared.pieces.Piece.TheVariants.{Mark}
use Rattle.spl_code.specs.spl_branch.Pieces.{count_of}
use Rattle.spl_code.specs.Parts.{Part, Wanted, pieces, piece, ◌⨟◌}
use Rattle.spl_code.proofs.CountLemmas.{Few, few_then, few_more, few_pieces, few_fresh, few_one, count_append}
use Rattle.spl_body_code.specs.Frames.{granted, zeroed}
use Rattle.spl_body_code.specs.Cells.{cells_set, initials_set}
use Rattle.spl_body_code.specs.Bodies.{Frame, frame_of, mode_entered, procedure_entered, procedure_left, subroutine_left, main_left, procedure_code, subroutine_code, main_code}
use Rattle.spl_body_code.specs.FewWords.{TakesAtMost}
use Rattle.spl_body_code.proofs.CountLemmas.{few_granted, few_zeroed_small, few_zeroed_large, few_cells}
use Rattle.spl_body_code.proofs.ListLaws.{all_cells, all_values, any_array_in, list_cells, list_arrays, list_values, list_pays, parameters_cells, parameters_arrays}

-- a part as the laws of expressions have it
few_part : {n : ℕ} (p : Part) → TakesAtMost n p → Few n p
few_part p h = record { few = h }

-- ---- what stands around statements

few_mode : (b : Bool) → count_of (mode_entered b) ≤ 1
few_mode true = omega arith
few_mode false = omega arith

few_entered : (f : Frame) → count_of (procedure_entered f) ≤ 5 + count_of (zeroed f.words) + count_of (cells_set f.cells) + count_of (initials_set f.initials)
few_entered f =
    let room = granted (f.words + f.room) in
    let zeros = zeroed f.words in
    let cells = cells_set f.cells in
    let values = initials_set f.initials in
    let few = few_granted (f.words + f.room) in
    let mode = few_mode f.split in
    let a = count_append room zeros in
    let b = count_append (room ++ zeros) cells in
    let c = count_append (room ++ zeros ++ cells) values in
    let d = count_append (room ++ zeros ++ cells ++ values) (mode_entered f.split) in
    omega arith

few_left : (b : Bool) (n : ℕ) → count_of (procedure_left b n) ≤ 2
few_left true n = omega arith
few_left false n = omega arith

few_main_left : Few 1 main_left
few_main_left = record { few = λ l ws. omega arith }

-- statements with what stands around them
few_around : {m n k : ℕ} (entry : ℕ) (entered left : List Piece) (ss : ℕ → Part) → count_of entered ≤ m → count_of left ≤ k
    → ((leave : ℕ) → TakesAtMost n (ss leave)) → (leave : ℕ)
    → Few (m + n + k) (piece (Mark entry) ⨟ pieces entered ⨟ ss leave ⨟ piece (Mark leave) ⨟ pieces left)
few_around {m} {n} {k} entry entered left ss e h s leave =
    few_more (few_then (few_then (few_then (few_then (few_one (Mark entry)) (few_pieces {n = m} entered e)) (few_part (ss leave) (s leave))) (few_one (Mark leave))) (few_pieces {n = k} left h)) (omega arith)

-- ---- procedures

-- Zeros are one word where there is no array, since simple items have at most 127 words; else they are paid by the array.
zeros_paid : (b : Bool) (items arrays : ℕ) → ((b ≡ false) → arrays ≡ 0) → items ≤ 127 → items + arrays ≤ 32000
    → count_of (zeroed (items + arrays)) ≤ 41 + (if b then 85 else 0)
zeros_paid true items arrays none most le = let few = few_zeroed_large (items + arrays) le in omega arith
zeros_paid false items arrays none most le =
    let no : arrays ≡ 0 = none refl in
    let few = few_zeroed_small (items + arrays) (omega arith) in omega arith

-- the local words of a procedure without local arrays are those of its items
no_arrays : (r : Routine) → any_array_in r.items ≡ false → list_array_words false (routine_table r) ≡ 0
no_arrays r none = list_arrays (outer_names r) (parameters (formals_of r.heading)) r.items none ∙ parameters_arrays (formals_of r.heading)

heading_least : (h : Heading) → 24 ≤ heading_weight h
heading_least h = omega arith

array_paid : (b : Bool) (z c v s w : ℕ) → z ≤ 41 + (if b then 85 else 0) → c + v + (if b then 88 else 0) + s ≤ w → z + c + v + s ≤ 41 + w
array_paid true z c v s w p q = omega arith
array_paid false z c v s w p q = omega arith

pub procedure_few : (globals : Table Place) (own own_arrays : ℕ) (r : Routine) (entry : ℕ) (ss : ℕ → Part) (l : ℕ) (ws : List Wanted)
    → list_words false (routine_table r) ≤ 127 → list_words false (routine_table r) + list_array_words false (routine_table r) ≤ 32000
    → ((leave : ℕ) → TakesAtMost (statements_weight (statements r.statements)) (ss leave))
    → count_of (procedure_code (procedure_body globals own own_arrays r) entry ss l ws).pieces + subroutines_weight (routine_subroutines r) ≤ routine_weight r
procedure_few globals own own_arrays r entry ss l ws items words few =
    let b : Body = procedure_body globals own own_arrays r in
    let before = parameters (formals_of r.heading) in
    let starts = routine_starts own own_arrays r in
    let places = places_from above_base starts.own starts.here (routine_table r) in
    let arrays = arrays_from above_base starts.own_arrays starts.here_arrays (routine_table r) in
    let zeros = zeros_paid (any_array_in r.items) (list_words false (routine_table r)) (list_array_words false (routine_table r)) (no_arrays r) items words in
    let cells = few_cells false places arrays (routine_table r) in
    let of_list = list_cells (outer_names r) before r.items in
    let of_parameters = parameters_cells (formals_of r.heading) in
    let values = list_values false (outer_names r) places arrays before r.items in
    let paid = list_pays r.before r.items in
    let sum = array_paid (any_array_in r.items) (count_of (zeroed b.words)) (all_cells r.items) (all_values r.items) (subroutines_weight (routine_subroutines r)) (declarations_weight r.items) zeros paid in
    let entered = few_entered (frame_of b) in
    let left = few_left b.here.setting.split (formals_words b.profile.formals) in
    let around = few_fresh _ (few_around {m = 5 + count_of (zeroed b.words) + count_of (cells_set b.cells) + count_of (initials_set b.initials)} {n = statements_weight (statements r.statements)} {k = 2}
    entry (procedure_entered (frame_of b)) (procedure_left b.here.setting.split (formals_words b.profile.formals)) ss entered left few) in
    let all : count_of (procedure_code b entry ss l ws).pieces ≤ 5 + count_of (zeroed b.words) + count_of (cells_set b.cells) + count_of (initials_set b.initials) + statements_weight (statements r.statements) + 2 = around.few l ws in
    let heading = heading_least r.heading in
    omega arith

-- ---- subroutines and main bodies

pub subroutine_few : (b : Body) (s : Subroutine) (entry : ℕ) (ss : ℕ → Part) (l : ℕ) (ws : List Wanted)
    → ((leave : ℕ) → TakesAtMost (statement_weight s.statement) (ss leave))
    → count_of (subroutine_code (subroutine_body b s) entry ss l ws).pieces ≤ subroutine_weight s.heading s.statement
subroutine_few b s entry ss l ws few =
    let c : Body = subroutine_body b s in
    let around = few_fresh _ (few_around {m = 4} {n = statement_weight s.statement} {k = 1} entry (granted c.depth') (subroutine_left (formals_words c.profile.formals)) ss (few_granted c.depth') (omega arith) few) in
    let all : count_of (subroutine_code c entry ss l ws).pieces ≤ 4 + statement_weight s.statement + 1 = around.few l ws in
    let heading = heading_least s.heading in
    omega arith

pub main_few : (globals : Table Place) (u : Source) (entry : ℕ) (ss : Part) (l : ℕ) (ws : List Wanted)
    → TakesAtMost (statements_weight (statements u.tree.statements)) ss
    → count_of (main_code (main_body globals u) entry ss l ws).pieces + subroutines_weight (unit_subroutines u) ≤ main_weight u
main_few globals u entry ss l ws few =
    let b : Body = main_body globals u in
    let all : count_of (main_code b entry ss l ws).pieces ≤ 4 + statements_weight (statements u.tree.statements) + 1 =
    (few_more {m = 4 + statements_weight (statements u.tree.statements) + 1} (few_then (few_then (few_then (few_one (Mark entry)) (few_pieces {n = 4} (granted b.depth') (few_granted b.depth'))) (few_part ss few)) few_main_left) (omega arith)).few l ws in
    omega arith
