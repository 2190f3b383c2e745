-- The code of bodies ends with their exit, and that of a main body with the call of what ends the program: so the code of a module ends with a
-- word, where there is any.
use Rattle.std.proofs.Common.{ℕ, suc, ◌%◌, nat_eq, length, Bool, true, List, [], ◌∷◌, codes, Option, Some, None, refl}
use Rattle.std.specs.List.{slice_get}
use Rattle.mpe_segmenter.specs.hp_instr.declared.instruction.Instr.TheVariants as i
use Rattle.mpe_segmenter.specs.spl_tree.DeclarationTrees as decl
use Rattle.mpe_segmenter.specs.spl_tree.DeclarationTrees.{Declaration, Declarations, declarations}
use Rattle.spl_wanted_names.specs.spl_meaning.Tables.{Subroutine}
use Rattle.spl_wanted_names.specs.spl_meaning.Pending.{formals_words}
use Rattle.spl_wanted_names.specs.spl_meaning.Bodies.{Body, Named, subroutine_body}
use Rattle.mpe_segmenter.specs.spl_branch.declared.pieces.Piece.TheVariants.{Mark, Call}
use Rattle.spl_wanted_names.specs.spl_code.Parts.{Part, pieces, piece, nothing, ◌⨟◌, wanted_place}
use Rattle.spl_wanted_names.specs.spl_body_code.Frames.{granted, EXIT, SXIT}
use Rattle.spl_wanted_names.specs.spl_body_code.Bodies.{frame_of, mode_left, procedure_entered, procedure_left, procedure_code, subroutine_left, subroutine_code, main_left, main_code}
use Rattle.spl_wanted_names.specs.spl_scopes.Entries.{Owner, main, routine, Entry, module_entries, routines_behind}
use Rattle.spl_wanted_names.specs.spl_scopes.Scopes.{Placed, routine_bodies, outer_body}
use Rattle.spl_wanted_names.specs.spl_module_code.Bodies.{body_statements, subroutine_parts}
use Rattle.spl_wanted_names.specs.spl_module_code.Modules.{inner_behind, routine_at, inner_with, inner_at, entries_behind, declared_part, declared_parts, holds_main, main_at, module_part}
use Rattle.spl_formed_modules.proofs.Closings.{Closing, Ending, closing_then, closing_fresh, ending_closing, ending_nothing, ending_then, ending_if}

-- the exit of a procedure
left_closing : (split : Bool) (words : ℕ) → Closing (pieces (procedure_left split words))
left_closing split words = record { closed = λ l ws. record { front = mode_left split; last = EXIT (words % 256); is = refl; closes_it = refl } }

closing_procedure : (b : Body) (mark : ℕ) (ss : ℕ → Part) → Closing (procedure_code b mark ss)
closing_procedure b mark ss = closing_fresh _ (λ leave.
    closing_then (piece (Mark mark) ⨟ pieces (procedure_entered (frame_of b)) ⨟ ss leave ⨟ piece (Mark leave))
    (pieces (procedure_left b.here.setting.split (formals_words b.profile.formals))) (left_closing b.here.setting.split (formals_words b.profile.formals)))

inner_left_closing : (words : ℕ) → Closing (pieces (subroutine_left words))
inner_left_closing words = record { closed = λ l ws. record { front = []; last = SXIT (words % 256); is = refl; closes_it = refl } }

closing_subroutine : (b : Body) (mark : ℕ) (ss : ℕ → Part) → Closing (subroutine_code b mark ss)
closing_subroutine b mark ss = closing_fresh _ (λ leave.
    closing_then (piece (Mark mark) ⨟ pieces (granted b.depth') ⨟ ss leave ⨟ piece (Mark leave)) (pieces (subroutine_left (formals_words b.profile.formals)))
    (inner_left_closing (formals_words b.profile.formals)))

-- the call of what ends the program
main_left_closing : Closing main_left
main_left_closing = record {
  closed = λ l ws. record { front = []; last = Call (i.Control 0 0) true (wanted_place (codes "TERMINATE") true ws); is = refl; closes_it = refl };
}

closing_main : (b : Body) (mark : ℕ) (ss : Part) → Closing (main_code b mark ss)
closing_main b mark ss = closing_then (piece (Mark mark) ⨟ pieces (granted b.depth') ⨟ ss) main_left main_left_closing

ending_subroutines : (es : List Entry) (o : Owner) (b : Body) (entry : ℕ) (ss : List Subroutine) → Ending (subroutine_parts es o b entry ss)
ending_subroutines es o b entry [] = ending_nothing
ending_subroutines es o b entry (s ∷ ss) =
    ending_then (ending_closing (closing_subroutine (subroutine_body b s) entry (body_statements es o (subroutine_body b s)))) (ending_subroutines es o b (suc entry) ss)

ending_routine : (es : List Entry) (i entry : ℕ) (o : Option Named) → Ending (routine_at es i entry o)
ending_routine es i entry None = ending_nothing
ending_routine es i entry (Some b) =
    ending_closing (closing_then (subroutine_parts es (routine i) b.body (suc entry) b.body.subroutines) (procedure_code b.body entry (body_statements es (routine i) b.body))
    (closing_procedure b.body entry (body_statements es (routine i) b.body)))

ending_inner_with : (es : List Entry) (b : Body) (entry : ℕ) (o : Option Subroutine) → Ending (inner_with es b entry o)
ending_inner_with es b entry None = ending_nothing
ending_inner_with es b entry (Some s) = ending_closing (closing_subroutine (subroutine_body b s) entry (body_statements es main (subroutine_body b s)))

ending_inner : (es : List Entry) (j entry : ℕ) (o : Option Body) → Ending (inner_at es j entry o)
ending_inner es j entry None = ending_nothing
ending_inner es j entry (Some b) = ending_inner_with es b entry (slice_get b.subroutines j)

ending_main : (es : List Entry) (o : Option Body) → Ending (main_at es o)
ending_main es None = ending_nothing
ending_main es (Some b) = ending_closing (closing_main b (length es) (body_statements es main b (length es)))

ending_declared : (p : Placed) (g n j entry : ℕ) (d : Declaration) → Ending (declared_part p g n j entry d)
ending_declared p g n j entry (decl.Declaration.procedure h items ss) =
    ending_if (nat_eq h.segment g) _ nothing (ending_routine (module_entries p.unit g) n entry (slice_get (routine_bodies p) n)) ending_nothing
ending_declared p g n j entry (decl.Declaration.subroutine h s) =
    ending_if (nat_eq p.unit.tree.segment g) _ nothing (ending_inner (module_entries p.unit g) j entry (outer_body p main)) ending_nothing
ending_declared p g n j entry (decl.Declaration.data_items own k items) = ending_nothing
ending_declared p g n j entry (decl.Declaration.equate es) = ending_nothing
ending_declared p g n j entry (decl.Declaration.intrinsic xs) = ending_nothing
ending_declared p g n j entry (decl.Declaration.label xs) = ending_nothing
ending_declared p g n j entry (decl.Declaration.forward h) = ending_nothing
ending_declared p g n j entry (decl.Declaration.external h) = ending_nothing

ending_declarations : (p : Placed) (g n j entry : ℕ) (ds : Declarations) → Ending (declared_parts p g n j entry ds)
ending_declarations p g n j entry decl.none = ending_nothing
ending_declarations p g n j entry (decl.and d ds) =
    ending_then (ending_declared p g n j entry d) (ending_declarations p g (routines_behind n d) (inner_behind j d) (entries_behind p g n entry d) ds)

pub ending_module : (p : Placed) (g : ℕ) → Ending (module_part p g)
ending_module p g =
    ending_then (ending_declarations p g 0 0 0 (declarations p.unit.tree.items))
    (ending_if (holds_main p g) _ nothing (ending_main (module_entries p.unit g) (outer_body p main)) ending_nothing)
