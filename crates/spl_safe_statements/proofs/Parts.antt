-- Loops, counters, jumps and tests that are never lost.
use Rattle.std.proofs.Common.{◌≡◌, ◌⊎◌, inl, inr, ℕ, zero, suc, ◌+◌, Bool, true, false, List, [], ◌∷◌, ◌++◌, length, Option, Some, None, is_some, refl, sym, ◌∙◌}
use Rattle.std.specs.Prelude.{if◌then◌else◌, nat_lt, slice_index}
use Rattle.spl_meaning.specs.hp_word.declared.arithmetic.Arith.{Arith}
use Rattle.spl_meaning.specs.hp_word.declared.arithmetic.Code.{Code}
use Rattle.spl_meaning.specs.hp_word.declared.endings.Trap.TheVariants.{Bounds, IntegerOverflow}
use Rattle.spl_meaning.specs.hp_word.Words.{added}
use Rattle.spl_meaning.specs.spl_tree.declared.names_and_places.At.{At}
use Rattle.spl_meaning.specs.spl_tree.declared.expressions.Kind.{Kind}
use Rattle.spl_meaning.specs.spl_tree.declared.expressions.Kind.TheVariants as kind
use Rattle.spl_meaning.specs.spl_tree.Trees as tree
use Rattle.spl_meaning.specs.spl_tree.Trees.{Tree, Trees}
use Rattle.spl_meaning.specs.spl_tree.StatementTrees as stat
use Rattle.spl_meaning.specs.spl_tree.StatementTrees.{Statement, Statements, Test}
use Rattle.spl_meaning.specs.Names.{same_name}
use Rattle.spl_meaning.specs.References.{Here, Located, word_at, data_word_read, placed_word, word_read, word_stored, read, read_by, store, store_by}
use Rattle.spl_meaning.specs.Operations.{is_odd, related, word_done}
use Rattle.spl_meaning.specs.Values.{Callee}
use Rattle.spl_meaning.specs.Statements.{condition, looping, repeating, goes_on, raised, counting, loop_step, for_loop, bears, bears_among, landing, code_tested, deciding}
use Rattle.spl_meaning.specs.StatementRules.{has_name, own_labels, list_labels}
use Rattle.spl_meaning.specs.States.{State, Exit, to_label, back, trapped, Outcome, done, leaves, spent, ends, strays, without_code, noted}
use Rattle.spl_safe_statements.specs.Safe.{Fine, Comes, Keeps, Any, IsWord, IsCounter, Ways, WordIsSafe, TestIsSafe, StepIsSafe, CounterIsSafe}
use Rattle.spl_safe_statements.proofs.Keeping.{never, keeps_done, keeps_ends, keeps_spent, keeps_strays, keeps_go, keeps_inside, keeps_step, keeps_stop, keeps_if, keeps_one}

-- ---- words at addresses

keeps_data : {e : Bool} {Q : Exit → Type 0} (o : Option ℕ) → Keeps e e Any Q (λ s. data_word_read o s)
keeps_data (Some v) = keeps_done v tt
keeps_data None = keeps_strays

-- a word is there, or the run ends or strays
pub keeps_word_at : {e : Bool} {Q : Exit → Type 0} (far : Bool) (a : ℕ) → Keeps e e Any Q (λ s. word_at far a s)
keeps_word_at {Q = Q} true a = record {
  comes = λ s g. (keeps_if {Q = Q} (nat_lt a (length s.now.extra)) (keeps_done (slice_index s.now.extra a) tt) (keeps_ends (trapped Bounds))).comes s g;
}
keeps_word_at {Q = Q} false a = record { comes = λ s g. (keeps_if {Q = Q} (nat_lt a s.now.stack) (keeps_data (s.now.mem a)) (keeps_ends (trapped Bounds))).comes s g }

placed_fine : {e : Bool} (far : Bool) (a v : ℕ) (s : State) → Fine e s → Fine e (placed_word far a v s)
placed_fine true a v s g = record { found = g.found; code = g.code }
placed_fine false a v s g = record { found = g.found; code = g.code }

keeps_word_read : {e : Bool} {Q : Exit → Type 0} (far : Bool) (a : ℕ) → Keeps e e IsWord Q (λ s. word_read far a s)
keeps_word_read far a = keeps_go (keeps_word_at far a) (λ w _. keeps_done (w ∷ []) refl)

keeps_word_stored : {e : Bool} {Q : Exit → Type 0} (far : Bool) (a : ℕ) (vs : List ℕ) → IsWord vs → Keeps e e Any Q (λ s. word_stored far a vs s)
keeps_word_stored far a [] one = cc
keeps_word_stored far a (v ∷ []) one = keeps_go (keeps_word_at far a) (λ w _. record { comes = λ s g. (placed_fine far a v s g, tt) })
keeps_word_stored far a (v ∷ w ∷ vs) one = cc

-- ---- variables that count

keeps_read_by : {e : Bool} {Q : Exit → Type 0} (k : Kind) (far : Bool) (a : ℕ) → k ≡ kind.Integer → Keeps e e IsWord Q (λ s. read_by k far a s)
keeps_read_by kind.Integer far a is = keeps_word_read far a
keeps_read_by kind.Logical far a is = cc
keeps_read_by kind.Byte far a is = cc
keeps_read_by kind.Double far a is = cc

keeps_store_by : {e : Bool} {Q : Exit → Type 0} (k : Kind) (far : Bool) (a : ℕ) (vs : List ℕ) → k ≡ kind.Integer → IsWord vs
    → Keeps e e Any Q (λ s. store_by k far a vs s)
keeps_store_by kind.Integer far a vs is one = keeps_word_stored far a vs one
keeps_store_by kind.Logical far a vs is one = cc
keeps_store_by kind.Byte far a vs is one = cc
keeps_store_by kind.Double far a vs is one = cc

keeps_read : {e : Bool} {Q : Exit → Type 0} (p : Located) → IsCounter p → Keeps e e IsWord Q (λ s. read p s)
keeps_read p is = keeps_read_by p.kind p.far p.address is

keeps_store : {e : Bool} {Q : Exit → Type 0} (p : Located) (vs : List ℕ) → IsCounter p → IsWord vs → Keeps e e Any Q (λ s. store p vs s)
keeps_store p vs is one = keeps_store_by p.kind p.far p.address vs is one

keeps_word_done : {e : Bool} {Q : Exit → Type 0} (r : Arith) → Keeps e e IsWord Q (λ s. word_done r s)
keeps_word_done r = keeps_if r.overflow (keeps_ends (trapped IntegerOverflow)) (keeps_done (r.value ∷ []) refl)

keeps_raised : {e : Bool} {Q : Exit → Type 0} (p : Located) (step : ℕ) → IsCounter p → Keeps e e Any Q (λ s. raised p step s)
keeps_raised p step is =
    keeps_go (keeps_read p is) (λ vs one. keeps_one vs one (λ v. keeps_go (keeps_word_done (added v step)) (λ ws other. keeps_store p ws is other)))

-- ---- loops

pub keeps_condition : {Q : Exit → Type 0} (h : Here) (call : Callee) (e : Tree) (k : ℕ) → WordIsSafe h call e k → Keeps false false Any Q (λ s. condition h call e k s)
keeps_condition h call e k value_there = keeps_go (keeps_inside value_there) (λ vs one. keeps_one vs one (λ w. keeps_done (is_odd w) tt))

pub keeps_looping : {Q : Exit → Type 0} (d : ℕ) {test : State → Outcome Bool} {body : State → Outcome (Unit {0})} → Keeps false false Any Q test
    → Keeps false false Any Q body → Keeps false false Any Q (λ s. looping d test body s)
keeps_looping zero t u = keeps_spent
keeps_looping (suc d) t u = keeps_step (keeps_go t (λ c _. keeps_if c (keeps_go u (λ _ _. keeps_looping d t u)) (keeps_done tt tt)))

pub keeps_repeating : {Q : Exit → Type 0} (d : ℕ) {test : State → Outcome Bool} {body : State → Outcome (Unit {0})} → Keeps false false Any Q test
    → Keeps false false Any Q body → Keeps false false Any Q (λ s. repeating d test body s)
keeps_repeating zero t u = keeps_spent
keeps_repeating (suc d) t u = keeps_go u (λ _ _. keeps_step (keeps_go t (λ c _. keeps_if c (keeps_done tt tt) (keeps_repeating d t u))))

keeps_counting : {Q : Exit → Type 0} (d : ℕ) (p : Located) (step limit : ℕ) {body : State → Outcome (Unit {0})} → IsCounter p
    → Keeps false false Any Q body → Keeps false false Any Q (λ s. counting d p step limit body s)
keeps_counting zero p step limit is u = keeps_spent
keeps_counting (suc d) p step limit is u =
    keeps_step (keeps_go (keeps_read p is) (λ vs one. keeps_one vs one (λ v. keeps_if (goes_on step limit v)
    (keeps_go u (λ _ _. keeps_go (keeps_raised p step is) (λ _ _. keeps_counting d p step limit is u))) (keeps_done tt tt))))

keeps_loop_step : {Q : Exit → Type 0} (h : Here) (call : Callee) (es : Trees) (k : ℕ) → StepIsSafe h call es k → Keeps false false IsWord Q (λ s. loop_step h call es k s)
keeps_loop_step h call tree.Trees.none k safe = keeps_done (1 ∷ []) refl
keeps_loop_step h call (tree.Trees.and e es) k safe = keeps_inside safe

pub keeps_for : {Q : Exit → Type 0} (h : Here) (call : Callee) (d : ℕ) (x : List ℕ) (first : Tree) (step : Trees) (last : Tree) {body : State → Outcome (Unit {0})} (k : ℕ)
    → CounterIsSafe h x → WordIsSafe h call first k → StepIsSafe h call step (k + 1) → WordIsSafe h call last (k + 2) → Keeps false false Any Q body
    → Keeps false false Any Q (λ s. for_loop h call d x first step last body k s)
keeps_for h call d x first step last k counter begins by_step stops u =
    keeps_go (keeps_inside begins) (λ vs one. keeps_go (keeps_inside counter) (λ p is. keeps_go (keeps_store p vs is one) (λ _ _.
    keeps_go (keeps_loop_step h call step (k + 1) by_step) (λ us other. keeps_go (keeps_inside stops) (λ ws third.
    keeps_one us other (λ v. keeps_one ws third (λ w. keeps_counting (suc d) p v w is u)))))))

-- ---- tests

-- a code that is known is tested
keeps_tested : {Q : Exit → Type 0} (op i : ℕ) (at : At) (go : Bool → State → Outcome (Unit {0})) → ((c : Bool) → Keeps false false Any Q (go c)) → (o : Option Code) (s : State)
    → is_some o ≡ true → Fine true s → Comes false Any Q (code_tested op o (noted i at s) (λ c t. go c (without_code t)))
keeps_tested op i at go u (Some c) s some g = (u (related op c)).comes (without_code (noted i at s)) (record { found = g.found; code = λ e. never e })
keeps_tested op i at go u None s some g = never some

pub keeps_deciding : {Q : Exit → Type 0} (h : Here) (call : Callee) (i : ℕ) (q : Test) (at : At) (k : ℕ) (after : Bool) (go : Bool → State → Outcome (Unit {0}))
    → TestIsSafe h call q k → ((op : ℕ) → q ≡ stat.Test.code op → after ≡ true) → ((c : Bool) → Keeps false false Any Q (go c))
    → Keeps after false Any Q (λ s. deciding h call i q at k s go)
keeps_deciding h call i (stat.Test.condition e) at k after go safe known u = keeps_stop i at (keeps_go (keeps_condition h call e k safe) (λ c _. u c))
keeps_deciding {Q = Q} h call i (stat.Test.code op) at k after go safe known u = keeps_step (record {
  comes = λ s g. keeps_tested {Q = Q} op i at go u s.code s (g.code (known op refl)) (record { found = g.found; code = λ e. g.code (known op refl) });
})

-- ---- jumps

comes_either : {A : Type 0} (m : Bool) (P : A → Type 0) (Q : Exit → Type 0) (c : Bool) (o p : Outcome A) → (c ≡ true → Comes m P Q o) → (c ≡ false → Comes m P Q p)
    → Comes m P Q (if c then o else p)
comes_either m P Q true o p t u = t refl
comes_either m P Q false o p t u = u refl

-- a state that is left
left_fine : (s : State) → s.lost ≡ false → Fine false s
left_fine s e = record { found = e; code = λ e'. never e' }

comes_landing : (m : Bool) (R Q : Exit → Type 0) (d : ℕ) (has : List ℕ → Bool) (from : List ℕ → State → Outcome (Unit {0}))
    → ((x : List ℕ) → has x ≡ true → Keeps false m Any R (from x)) → ((x : List ℕ) → R (to_label x) → has x ≡ false → Q (to_label x)) → (R back → Q back)
    → (o : Outcome (Unit {0})) → Comes m Any R o → Comes m Any Q (landing d has from o)
comes_landing m R Q zero has from inside outside returns (leaves (to_label x) s) c =
    comes_either m Any Q (has x) (spent s) (leaves (to_label x) s) (λ e. c.0) (λ e. (c.0, outside x c.1 e))
comes_landing m R Q (suc d) has from inside outside returns (leaves (to_label x) s) c =
    comes_either m Any Q (has x) (landing d has from (from x s)) (leaves (to_label x) s)
    (λ e. comes_landing m R Q d has from inside outside returns (from x s) ((inside x e).comes s (left_fine s c.0))) (λ e. (c.0, outside x c.1 e))
comes_landing m R Q zero has from inside outside returns (leaves back s) c = (c.0, returns c.1)
comes_landing m R Q (suc d) has from inside outside returns (leaves back s) c = (c.0, returns c.1)
comes_landing m R Q zero has from inside outside returns (done a s) c = c
comes_landing m R Q (suc d) has from inside outside returns (done a s) c = c
comes_landing m R Q zero has from inside outside returns (spent s) c = c
comes_landing m R Q (suc d) has from inside outside returns (spent s) c = c
comes_landing m R Q zero has from inside outside returns (ends e s) c = c
comes_landing m R Q (suc d) has from inside outside returns (ends e s) c = c
comes_landing m R Q zero has from inside outside returns (strays s) c = c
comes_landing m R Q (suc d) has from inside outside returns (strays s) c = c

-- a list takes the jumps to its own labels, and is left by the ways around it
pub keeps_landing : {b m : Bool} (R Q : Exit → Type 0) (d : ℕ) (has : List ℕ → Bool) {from : List ℕ → State → Outcome (Unit {0})} {f : State → Outcome (Unit {0})}
    → ((x : List ℕ) → has x ≡ true → Keeps false m Any R (from x)) → ((x : List ℕ) → R (to_label x) → has x ≡ false → Q (to_label x)) → (R back → Q back)
    → Keeps b m Any R f → Keeps b m Any Q (λ s. landing d has from (f s))
keeps_landing {m = m} R Q d has {from = from} {f = f} inside outside returns k = record {
  comes = λ s g. comes_landing m R Q d has from inside outside returns (f s) (k.comes s g);
}

-- ---- labels

-- a name among two lists
name_either : (xs ys : List (List ℕ)) (x : List ℕ) → has_name (xs ++ ys) x ≡ true → (has_name xs x ≡ true) ⊎ (has_name ys x ≡ true)
name_either [] ys x e = inr e
name_either (y ∷ xs) ys x e = by (same_name x y) (name_either xs ys x) e
  where
    by : (b : Bool) → (has_name (xs ++ ys) x ≡ true → (has_name xs x ≡ true) ⊎ (has_name ys x ≡ true)) → (if b then true else has_name (xs ++ ys) x) ≡ true
        → ((if b then true else has_name xs x) ≡ true) ⊎ (has_name ys x ≡ true)
    by true rest e' = inl refl
    by false rest e' = rest e'

-- a statement bears its own labels
own_borne : (s : Statement) (x : List ℕ) → has_name (own_labels s) x ≡ true → bears s x ≡ true
own_borne (stat.Statement.labelled y at s) x e = by (same_name x y) (own_borne s x) e
  where
    by : (b : Bool) → (has_name (own_labels s) x ≡ true → bears s x ≡ true) → (if b then true else has_name (own_labels s) x) ≡ true → (if b then true else bears s x) ≡ true
    by true rest e' = refl
    by false rest e' = rest e'
own_borne stat.Statement.empty x e = e
own_borne (stat.Statement.block ss) x e = e
own_borne (stat.Statement.if_test q s ss at) x e = e
own_borne (stat.Statement.while_true y s at) x e = e
own_borne (stat.Statement.until_true s y at) x e = e
own_borne (stat.Statement.for_values y first step last s at) x e = e
own_borne (stat.Statement.case_of y ss at) x e = e
own_borne (stat.Statement.go_to y at) x e = e
own_borne (stat.Statement.return at) x e = e
own_borne (stat.Statement.assign to y at) x e = e
own_borne (stat.Statement.assign_effect to y at) x e = e
own_borne (stat.Statement.do_effect y at) x e = e
own_borne (stat.Statement.call y es at) x e = e

-- and a list those of its statements
list_borne : (ss : Statements) (x : List ℕ) → has_name (list_labels ss) x ≡ true → bears_among ss x ≡ true
list_borne stat.Statements.none x e = e
list_borne (stat.Statements.and s ss) x e = by (bears s x) (name_either (own_labels s) (list_labels ss) x e) (own_borne s x) (list_borne ss x)
  where
    by : (b : Bool) → (has_name (own_labels s) x ≡ true) ⊎ (has_name (list_labels ss) x ≡ true) → (has_name (own_labels s) x ≡ true → b ≡ true)
        → (has_name (list_labels ss) x ≡ true → bears_among ss x ≡ true) → (if b then true else bears_among ss x) ≡ true
    by true either own rest = refl
    by false (inl here) own rest = never (own here)
    by false (inr there) own rest = rest there

-- what leads out of a list of statements, but to none of its labels, leads to one around it
pub leads_around : (returns : Bool) (labels : List (List ℕ)) (ss : Statements) (x : List ℕ) → Ways returns (labels ++ list_labels ss) (to_label x)
    → bears_among ss x ≡ false → Ways returns labels (to_label x)
leads_around returns labels ss x e none = by (name_either labels (list_labels ss) x e)
  where
    by : (has_name labels x ≡ true) ⊎ (has_name (list_labels ss) x ≡ true) → has_name labels x ≡ true
    by (inl here) = here
    by (inr there) = never (sym none ∙ list_borne ss x there)

-- and out of a body none does
pub leads_nowhere : (returns : Bool) (ss : Statements) (x : List ℕ) → Ways returns (list_labels ss) (to_label x) → bears_among ss x ≡ false → Ways returns [] (to_label x)
leads_nowhere returns ss x e none = never (sym none ∙ list_borne ss x e)
