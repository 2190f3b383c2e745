-- The names that the code of bodies wants: those that its statements call, and of a main body what ends the program.
use Rattle.std.proofs.Common.{◌≡◌, ℕ, suc, true, List, [], ◌∷◌, ◌++◌, codes, refl, ap, ◌∙◌}
use Rattle.std.proofs.lemmas.Bool.{and_parts}
use Rattle.spl_module_code.specs.spl_meaning.Names.{Table}
use Rattle.spl_module_code.specs.spl_meaning.Tables.{Subroutine, subroutine_names}
use Rattle.spl_module_code.specs.spl_meaning.Pending.{formals_words}
use Rattle.spl_module_code.specs.spl_meaning.Bodies.{Body, subroutine_body}
use Rattle.spl_module_code.specs.spl_meaning.Bound.{statement_names, statements_names}
use Rattle.spl_module_code.specs.spl_branch.declared.pieces.Piece.TheVariants.{Mark}
use Rattle.spl_module_code.specs.spl_code.Parts.{Part}
use Rattle.spl_module_code.specs.spl_statement_code.Landings.{Landing}
use Rattle.spl_module_code.specs.spl_body_code.Frames.{granted}
use Rattle.spl_module_code.specs.spl_body_code.Bodies.{frame_of, procedure_entered, procedure_left, procedure_code, subroutine_left, subroutine_code, main_code}
use Rattle.spl_module_code.specs.spl_scopes.Entries.{Owner, Entry}
use Rattle.spl_module_code.specs.LabelsOfBodies.{Label, labels_among, with_landings}
use Rattle.spl_module_code.specs.Bodies.{context_of, body_statements, subroutine_part, subroutine_parts}
use Rattle.spl_called_names.specs.Called.{Testing, calls_pass, inner_passes, inners_pass, IsPassing}
use Rattle.spl_called_names.proofs.PartLaws.{passing_pieces, passing_then, passing_behind, passing_fresh, passing_want}
use Rattle.spl_called_names.proofs.Statements.{passing_listed}

passing_landings : {t : Testing} (xs : List Label) (part : Table Landing → Part) → ((l : Table Landing) → IsPassing t (part l)) → IsPassing t (with_landings xs part)
passing_landings [] part h = h []
passing_landings (x ∷ xs) part h =
    passing_fresh _ (λ mark. passing_landings xs (λ l. part ((x.name, record { mark = mark; pending = x.pending }) ∷ l)) (λ l. h ((x.name, record { mark = mark; pending = x.pending }) ∷ l)))

pub passing_statements : {t : Testing} (es : List Entry) (o : Owner) (b : Body) (leave : ℕ) → calls_pass t b.here.names (statements_names b.statements) ≡ true
    → IsPassing t (body_statements es o b leave)
passing_statements es o b leave h =
    passing_landings (labels_among b.statements 0) _ (λ labels. passing_listed (context_of es o b labels leave) b.statements (record { all = h }) 0)

pub passing_procedure : {t : Testing} (b : Body) (mark : ℕ) (ss : ℕ → Part) → ((leave : ℕ) → IsPassing t (ss leave)) → IsPassing t (procedure_code b mark ss)
passing_procedure b mark ss h = passing_fresh _ (λ leave.
    passing_behind (procedure_left b.here.setting.split (formals_words b.profile.formals)) (passing_behind (Mark leave ∷ [])
    (passing_then (passing_behind (procedure_entered (frame_of b)) (passing_pieces (Mark mark ∷ []))) (h leave))))

passing_subroutine : {t : Testing} (b : Body) (mark : ℕ) (ss : ℕ → Part) → ((leave : ℕ) → IsPassing t (ss leave)) → IsPassing t (subroutine_code b mark ss)
passing_subroutine b mark ss h = passing_fresh _ (λ leave.
    passing_behind (subroutine_left (formals_words b.profile.formals)) (passing_behind (Mark leave ∷ [])
    (passing_then (passing_behind (granted b.depth') (passing_pieces (Mark mark ∷ []))) (h leave))))

pub passing_main : {t : Testing} (b : Body) (mark : ℕ) (ss : Part) → IsPassing t ss → t (record { name = codes "TERMINATE"; gate = true }) ≡ true → IsPassing t (main_code b mark ss)
passing_main {t} b mark ss h ends =
    passing_then (passing_then (passing_behind (granted b.depth') (passing_pieces (Mark mark ∷ []))) h) (passing_want t (codes "TERMINATE") true ends)

nothing_behind : {A : Type 0} (xs : List A) → xs ++ [] ≡ xs
nothing_behind [] = refl
nothing_behind (x ∷ xs) = ap (λ ys. x ∷ ys) (nothing_behind xs)

-- a subroutine of a body
pub passing_inner : {t : Testing} (es : List Entry) (o : Owner) (b : Body) (entry : ℕ) (s : Subroutine) → inner_passes t b.here.names s ≡ true
    → IsPassing t (subroutine_part es o b entry s)
passing_inner {t} es o b entry s h =
    passing_subroutine (subroutine_body b s) entry (body_statements es o (subroutine_body b s))
    (λ leave. passing_statements es o (subroutine_body b s) leave
    (ap (calls_pass t (subroutine_names b.here.names s)) (nothing_behind (statement_names s.statement)) ∙ h))

-- those of a list
pub passing_inners : {t : Testing} (es : List Entry) (o : Owner) (b : Body) (entry : ℕ) (ss : List Subroutine) → inners_pass t b.here.names ss ≡ true
    → IsPassing t (subroutine_parts es o b entry ss)
passing_inners es o b entry [] h = passing_pieces []
passing_inners {t} es o b entry (s ∷ ss) h =
    let both = and_parts (inner_passes t b.here.names s) (inners_pass t b.here.names ss) h in
    passing_then (passing_inner es o b entry s both.0) (passing_inners es o b (suc entry) ss both.1)
