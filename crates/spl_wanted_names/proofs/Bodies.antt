-- The names that the code of bodies wants: those of its statements, and of a main body what ends the program.
use Rattle.std.proofs.Common.{ℕ, suc, ◌+◌, List, [], ◌∷◌, codes, refl, arith}
use Rattle.spl_module_code.specs.spl_tree.DeclarationTrees as decl
use Rattle.spl_module_code.specs.spl_tree.DeclarationTrees.{Declarations}
use Rattle.spl_module_code.specs.spl_meaning.Stops.{declaration_stops}
use Rattle.spl_module_code.specs.spl_meaning.Names.{Table}
use Rattle.spl_module_code.specs.spl_meaning.Tables.{Subroutine, subroutines_among}
use Rattle.spl_module_code.specs.spl_meaning.Pending.{formals_words}
use Rattle.spl_module_code.specs.spl_meaning.Bodies.{Body, subroutine_body}
use Rattle.spl_module_code.specs.spl_branch.declared.pieces.Piece.TheVariants.{Mark}
use Rattle.spl_module_code.specs.spl_code.Parts.{Part}
use Rattle.spl_module_code.specs.spl_statement_code.Landings.{Landing}
use Rattle.spl_module_code.specs.spl_body_code.Frames.{granted}
use Rattle.spl_module_code.specs.spl_body_code.Bodies.{frame_of, procedure_entered, procedure_left, procedure_code, subroutine_left, subroutine_code, main_code}
use Rattle.spl_module_code.specs.spl_scopes.Entries.{Owner, Entry}
use Rattle.spl_module_code.specs.LabelsOfBodies.{Label, labels_among, with_landings}
use Rattle.spl_module_code.specs.Bodies.{context_of, body_statements, subroutine_part, subroutine_parts}
use Rattle.spl_few_calls.specs.Calls.{calls_in, calls_within}
use Rattle.spl_wanted_names.specs.Wants.{IsWanting}
use Rattle.spl_wanted_names.specs.Counts.{all_inner_calls}
use Rattle.spl_wanted_names.proofs.PartLaws.{wanting_less, wanting_pieces, wanting_then, wanting_behind, wanting_fresh, wanting_gate}
use Rattle.spl_wanted_names.proofs.Intrinsics.{Known, known_inner}
use Rattle.spl_wanted_names.proofs.Statements.{wanting_listed}

wanting_landings : {m : ℕ} (xs : List Label) (part : Table Landing → Part) → ((t : Table Landing) → IsWanting m (part t)) → IsWanting m (with_landings xs part)
wanting_landings [] part h = h []
wanting_landings (x ∷ xs) part h =
    wanting_fresh _ (λ mark. wanting_landings xs (λ t. part ((x.name, record { mark = mark; pending = x.pending }) ∷ t)) (λ t. h ((x.name, record { mark = mark; pending = x.pending }) ∷ t)))

pub wanting_statements : (es : List Entry) (o : Owner) (b : Body) (leave : ℕ) → Known b.here.names → IsWanting (calls_within b.statements) (body_statements es o b leave)
wanting_statements es o b leave known =
    wanting_landings (labels_among b.statements 0) _ (λ labels. wanting_listed (context_of es o b labels leave) known b.statements 0)

pub wanting_procedure : {m : ℕ} (b : Body) (mark : ℕ) (ss : ℕ → Part) → ((leave : ℕ) → IsWanting m (ss leave)) → IsWanting m (procedure_code b mark ss)
wanting_procedure b mark ss h = wanting_fresh _ (λ leave.
    wanting_behind (procedure_left b.here.setting.split (formals_words b.profile.formals)) (wanting_behind (Mark leave ∷ [])
    (wanting_less (omega arith) (wanting_then (wanting_behind (procedure_entered (frame_of b)) (wanting_pieces {n = 0} (Mark mark ∷ []))) (h leave)))))

wanting_subroutine : {m : ℕ} (b : Body) (mark : ℕ) (ss : ℕ → Part) → ((leave : ℕ) → IsWanting m (ss leave)) → IsWanting m (subroutine_code b mark ss)
wanting_subroutine b mark ss h = wanting_fresh _ (λ leave.
    wanting_behind (subroutine_left (formals_words b.profile.formals)) (wanting_behind (Mark leave ∷ [])
    (wanting_less (omega arith) (wanting_then (wanting_behind (granted b.depth') (wanting_pieces {n = 0} (Mark mark ∷ []))) (h leave)))))

pub wanting_main : {m : ℕ} (b : Body) (mark : ℕ) (ss : Part) → IsWanting m ss → IsWanting (suc m) (main_code b mark ss)
wanting_main b mark ss h =
    wanting_less (omega arith) (wanting_then (wanting_then (wanting_behind (granted b.depth') (wanting_pieces {n = 0} (Mark mark ∷ []))) h) (wanting_gate (codes "TERMINATE") refl))

-- a subroutine of a body
pub wanting_inner : (es : List Entry) (o : Owner) (b : Body) (entry : ℕ) (s : Subroutine) → Known b.here.names → IsWanting (calls_in s.statement) (subroutine_part es o b entry s)
wanting_inner es o b entry s known =
    wanting_less (omega arith) (wanting_subroutine (subroutine_body b s) entry (body_statements es o (subroutine_body b s))
    (λ leave. wanting_statements es o (subroutine_body b s) leave (known_inner b.here.names s known)))

-- those of a list
pub wanting_inners : (es : List Entry) (o : Owner) (b : Body) (entry m : ℕ) (ds : Declarations) → Known b.here.names
    → IsWanting (all_inner_calls ds) (subroutine_parts es o b entry (subroutines_among m ds))
wanting_inners es o b entry m decl.none known = wanting_pieces []
wanting_inners es o b entry m (decl.and (decl.Declaration.subroutine h s) ds) known =
    wanting_then (wanting_inner es o b entry (record { heading = h; statement = s; before = m }) known)
    (wanting_inners es o b (suc entry) (m + declaration_stops (decl.Declaration.subroutine h s)) ds known)
wanting_inners es o b entry m (decl.and (decl.Declaration.procedure h items ss) ds) known =
    wanting_less (omega arith) (wanting_inners es o b entry (m + declaration_stops (decl.Declaration.procedure h items ss)) ds known)
wanting_inners es o b entry m (decl.and (decl.Declaration.data_items own k items) ds) known =
    wanting_less (omega arith) (wanting_inners es o b entry (m + declaration_stops (decl.Declaration.data_items own k items)) ds known)
wanting_inners es o b entry m (decl.and (decl.Declaration.equate xs) ds) known =
    wanting_less (omega arith) (wanting_inners es o b entry (m + declaration_stops (decl.Declaration.equate xs)) ds known)
wanting_inners es o b entry m (decl.and (decl.Declaration.intrinsic xs) ds) known =
    wanting_less (omega arith) (wanting_inners es o b entry (m + declaration_stops (decl.Declaration.intrinsic xs)) ds known)
wanting_inners es o b entry m (decl.and (decl.Declaration.label xs) ds) known =
    wanting_less (omega arith) (wanting_inners es o b entry (m + declaration_stops (decl.Declaration.label xs)) ds known)
wanting_inners es o b entry m (decl.and (decl.Declaration.forward h) ds) known =
    wanting_less (omega arith) (wanting_inners es o b entry (m + declaration_stops (decl.Declaration.forward h)) ds known)
wanting_inners es o b entry m (decl.and (decl.Declaration.external h) ds) known =
    wanting_less (omega arith) (wanting_inners es o b entry (m + declaration_stops (decl.Declaration.external h)) ds known)
