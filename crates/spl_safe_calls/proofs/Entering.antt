-- What enters a body, and what leaves it, is never lost.
use Rattle.std.proofs.Common.{◌≡◌, ℕ, zero, suc, ◌+◌, true, false, List, [], ◌∷◌, Option, Some, None}
use Rattle.std.specs.Prelude.{if◌then◌else◌, nat_lt}
use Rattle.spl_safe_statements.specs.spl_meaning.hp_word.declared.endings.Trap.TheVariants.{StackOverflow}
use Rattle.spl_safe_statements.specs.spl_meaning.spl_tree.declared.expressions.Kind.{Kind}
use Rattle.spl_safe_statements.specs.spl_meaning.Bodies.{Body}
use Rattle.spl_safe_statements.specs.spl_meaning.Kinds.{width}
use Rattle.spl_safe_statements.specs.spl_meaning.Names.{Profile}
use Rattle.spl_safe_statements.specs.spl_meaning.Operations.{result_value}
use Rattle.spl_safe_statements.specs.spl_meaning.Pending.{return_words}
use Rattle.spl_safe_statements.specs.spl_meaning.Places.{put}
use Rattle.spl_safe_statements.specs.spl_meaning.Runs.{link_of, locals_of, procedure_framed, cells_set, subroutine_framed, framed, zeroed, returned, words_at, result_at, left_to, called_back, run_statement, enter_procedure, enter_subroutine}
use Rattle.spl_safe_statements.specs.spl_meaning.States.{Data, State, to_label, back, Exit, trapped, Outcome, done, leaves, spent, ends, strays}
use Rattle.spl_safe_statements.specs.spl_meaning.Values.{Callee}
use Rattle.spl_safe_statements.specs.Safe.{Comes, Keeps, Any, NoWay, Ways}
use Rattle.spl_safe_statements.proofs.Keeping.{never, keeps_done, keeps_ends, keeps_go, keeps_step, keeps_if}
use Rattle.spl_safe_statements.proofs.Parts.{keeps_word_at}
use Rattle.spl_safe_calls.specs.Calls.{body_done}

-- ---- states that are made of others

-- a state that is no more lost than another, at which no code need be known
pub keeps_in : {A : Type 0} {P : A → Type 0} {Q : Exit → Type 0} {go : State → Outcome A} (f : State → State) → ((s : State) → s.lost ≡ false → (f s).lost ≡ false)
    → Keeps false false P Q go → Keeps false false P Q (λ s. go (f s))
keeps_in f same k = record { comes = λ s g. k.comes (f s) (record { found = same s g.found; code = λ e. never e }) }

-- local words become zero
keeps_zeroed : {go : State → Outcome (List ℕ)} (m a : ℕ) → Keeps false false Any NoWay go → Keeps false false Any NoWay (λ s. zeroed m a s go)
keeps_zeroed zero a k = k
keeps_zeroed (suc m) a k = keeps_step (keeps_in (λ s1. record s1 { now = record s1.now { mem = put a 0 s1.now.mem } }) (λ s e. e) (keeps_zeroed m (suc a) k))

-- ---- results

keeps_words : (m a : ℕ) → Keeps false false Any NoWay (λ s. words_at m a s)
keeps_words zero a = keeps_done [] tt
keeps_words (suc m) a = keeps_go (keeps_word_at false a) (λ w _. keeps_go (keeps_words m (suc a)) (λ ws _. keeps_done (w ∷ ws) tt))

keeps_result : (r : Option Kind) (a : ℕ) → Keeps false false Any NoWay (λ s. result_at r a s)
keeps_result None a = keeps_done [] tt
keeps_result (Some k) a = keeps_go (keeps_words (width k) a) (λ ws _. keeps_done (result_value k ws) tt)

-- ---- leaving

-- a body is left by RETURN, or comes to its end
pub comes_returned : (o : Outcome (Unit {0})) → Comes false Any (Ways true []) o → Comes false Any NoWay (returned o)
comes_returned (done a s) c = c
comes_returned (leaves back s) c = (record { found = c.0; code = λ e. never e }, tt)
comes_returned (leaves (to_label x) s) c = never c.1
comes_returned (spent s) c = c
comes_returned (ends e s) c = c
comes_returned (strays s) c = c

-- and the caller gets its result
keeps_called_back : (caller : Data) (p : Profile) (first : ℕ) {body : State → Outcome (Unit {0})} → Keeps false false Any (Ways true []) body
    → Keeps false false Any NoWay (λ s. called_back caller p first (body s))
keeps_called_back caller p first {body = body} k =
    keeps_go (the_body k) (λ _ _. keeps_go (keeps_result p.result first) (λ vs _. keeps_in (λ s. left_to caller s) (λ s e. e) (keeps_done vs tt)))
  where
    the_body : Keeps false false Any (Ways true []) body → Keeps false false Any NoWay (λ s. returned (body s))
    the_body k' = record { comes = λ s g. comes_returned (body s) (k'.comes s g) }

-- ---- entering

-- a part that looks at its data
keeps_now : {A : Type 0} {P : A → Type 0} {Q : Exit → Type 0} (f : Data → State → Outcome A) → ((d : Data) → Keeps false false P Q (f d))
    → Keeps false false P Q (λ s. f s.now s)
keeps_now f k = record { comes = λ s g. (k s.now).comes s g }

abbrev procedure_entered : Callee → ℕ → Body → List ℕ → ℕ → Data → State → Outcome (List ℕ)
procedure_entered call d b ws k now s =
    if nat_lt now.stack (locals_of now.top k b + b.words + b.depth')
    then ends (trapped StackOverflow) s
    else zeroed b.words (locals_of now.top k b) (framed (procedure_framed k b ws s.now) s) (λ s1.
    called_back now b.profile (now.top + k) (body_done b call d (record s1 { now = cells_set b s1.now })))

pub keeps_procedure : (call : Callee) (d : ℕ) (b : Body) (ws : List ℕ) (k : ℕ) → Keeps false false Any (Ways true []) (λ s. body_done b call d s)
    → Keeps false false Any NoWay (λ s. enter_procedure call d b ws k s)
keeps_procedure call d b ws k body = keeps_now (procedure_entered call d b ws k) (λ now.
    keeps_if (nat_lt now.stack (locals_of now.top k b + b.words + b.depth')) (keeps_ends (trapped StackOverflow))
    (keeps_in (λ s. framed (procedure_framed k b ws s.now) s) (λ s e. e) (keeps_zeroed b.words (locals_of now.top k b)
    (keeps_called_back now b.profile (now.top + k) (keeps_in (λ s. record s { now = cells_set b s.now }) (λ s e. e) body)))))

abbrev subroutine_entered : Callee → ℕ → Body → List ℕ → ℕ → Data → State → Outcome (List ℕ)
subroutine_entered call d b ws k now s =
    if nat_lt now.stack (link_of now.top k b + return_words + b.depth')
    then ends (trapped StackOverflow) s
    else called_back now b.profile (now.top + k) (run_statement b call d (framed (subroutine_framed k b ws s.now) s))

pub keeps_subroutine : (call : Callee) (d : ℕ) (b : Body) (ws : List ℕ) (k : ℕ) → Keeps false false Any (Ways true []) (λ s. run_statement b call d s)
    → Keeps false false Any NoWay (λ s. enter_subroutine call d b ws k s)
keeps_subroutine call d b ws k body = keeps_now (subroutine_entered call d b ws k) (λ now.
    keeps_if (nat_lt now.stack (link_of now.top k b + return_words + b.depth')) (keeps_ends (trapped StackOverflow))
    (keeps_called_back now b.profile (now.top + k) (keeps_in (λ s. framed (subroutine_framed k b ws s.now) s) (λ s e. e) body)))
