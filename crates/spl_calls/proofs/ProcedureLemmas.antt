-- Calls of procedures and subroutines by themselves, along the tree; and then all calls.
use Rattle.std.proofs.Common.{◌≡◌, inl, ◌≤◌, ℕ, ◌+◌, ◌-◌, Bool, true, false, List, refl, sym, ap, subst, ◌∙◌, arith}
use Rattle.std.specs.Prelude.{max, is_some, Option, Some, None, ◌&&◌, not, if◌then◌else◌}
use Rattle.std.proofs.lemmas.Bool.{false≢true}
use Rattle.std.proofs.lemmas.List.{append-nil}
use Rattle.std.proofs.Math.Logic.{⊎_elim}
use Rattle.spl_targets.specs.spl_tree.declared.expressions.Kind.{Kind}
use Rattle.spl_targets.specs.spl_tree.declared.expressions.Kind.TheVariants as kind
use Rattle.spl_targets.specs.spl_tree.declared.names_and_places.At.{At}
use Rattle.spl_targets.specs.spl_tree.Trees as tree
use Rattle.spl_targets.specs.spl_tree.Trees.{Trees}
use Rattle.spl_targets.specs.spl_tree.StatementTrees as stat
use Rattle.spl_targets.specs.spl_branch.declared.pieces.Piece.TheVariants.{Begin}
use Rattle.spl_targets.specs.spl_meaning.Names as n
use Rattle.spl_targets.specs.spl_meaning.Names.{Sort, Profile}
use Rattle.spl_targets.specs.spl_meaning.Pending.{result_words, formals_words, most, most_of}
use Rattle.spl_targets.specs.spl_meaning.References.{Here, Setting}
use Rattle.spl_targets.specs.spl_meaning.States.{State, Outcome, stopping}
use Rattle.spl_targets.specs.spl_meaning.Statements.{is_intrinsic, intrinsic_value, value_dropped, call_statement, run}
use Rattle.spl_targets.specs.spl_meaning.Values as run
use Rattle.spl_targets.specs.spl_meaning.Values.{Who, Callee, procedure, subroutine, sense_of, index, named_value}
use Rattle.spl_targets.specs.spl_code.Calls.{Scope, called}
use Rattle.spl_targets.specs.spl_code.Code as made
use Rattle.spl_targets.specs.spl_code.Code.{calling}
use Rattle.spl_targets.specs.spl_code.Parts.{Part, pieces, piece, nothing, ◌⨟◌}
use Rattle.spl_targets.specs.spl_statement_code.Landings.{Context}
use Rattle.spl_targets.specs.spl_statement_code.Statements.{statement, result_dropped}
use Rattle.spl_targets.specs.spl_follow.Simulating.{Performs}
use Rattle.spl_targets.specs.spl_values.Reached.{IsWhole}
use Rattle.spl_targets.proofs.spl_values_proofs.VariableLemmas.{both}
use Rattle.spl_targets.proofs.spl_values_proofs.WholeLemmas.{whole_behind, whole_last}
use Rattle.spl_targets.specs.spl_links.Laws.{CanCall, has_entry, call_value}
use Rattle.spl_targets.specs.spl_links.Links.{in_mode}
use Rattle.spl_targets.proofs.spl_links_proofs.CallLemmas as links_of_calls
use Rattle.spl_targets.proofs.spl_word_operators_proofs.OperatorLemmas.{either}
use Rattle.spl_targets.specs.spl_names.Names.{read_with}
use Rattle.spl_targets.specs.spl_covered.Covered.{are_covered_arguments}
use Rattle.spl_targets.proofs.spl_covered_proofs.CoverLemmas.{arguments_have_code, arguments_made}
use Rattle.spl_targets.proofs.SameLemmas.{stopping_same, same_performs}
use Rattle.spl_calls.specs.Covered.{is_asked_call, is_procedure_call}
use Rattle.spl_calls.specs.Laws.{CallsAreWhole, CallsPerform}
use Rattle.spl_calls.proofs.CallLemmas as asked
use Rattle.spl_calls.proofs.CallLemmas.{begun_whole}

-- ---- which are covered

-- the procedure or the subroutine of a name, and what the name stands for
abbrev who_of : Bool → List ℕ → Who
who_of false x = procedure x
who_of true x = subroutine x

abbrev stood_for : Bool → Profile → Sort
stood_for false p = n.procedure p
stood_for true p = n.subroutine p

-- one that may be called, with arguments that are covered
record IsCallee (may : Who → Bool) (c : Scope) (st : Setting) (x : List ℕ) (o : Option Sort) (es : Trees) (k : ℕ) : Type 0 where
  inner : Bool
  profile : Profile
  is : o ≡ Some (stood_for inner profile)
  allowed : in_mode st.split may (who_of inner x) ≡ true
  entry : has_entry c (who_of inner x) ≡ true
  arguments : are_covered_arguments may c st profile.formals es (k + result_words profile) ≡ true

callee_case : (may : Who → Bool) (c : Scope) (st : Setting) (x : List ℕ) (o : Option Sort) (es : Trees) (k : ℕ)
    → is_procedure_call may c st x o es k ≡ true → IsCallee may c st x o es k
callee_case may c st x (Some (n.procedure p)) es k e =
    let two = both (may (procedure x) && not st.split) (are_covered_arguments may c st p.formals es (k + result_words p)) e in
    record { inner = false; profile = p; is = refl; allowed = two.0; entry = refl; arguments = two.1 }
callee_case may c st x (Some (n.subroutine p)) es k e =
    let two = both (may (subroutine x) && is_some (c.subroutines x)) (are_covered_arguments may c st p.formals es (k + result_words p)) e in
    let first = both (may (subroutine x)) (is_some (c.subroutines x)) two.0 in
    record { inner = true; profile = p; is = refl; allowed = first.0; entry = first.1; arguments = two.1 }
callee_case may c st x None es k e = absurd (false≢true e)
callee_case may c st x (Some (n.equate v)) es k e = absurd (false≢true e)
callee_case may c st x (Some (n.simple t own)) es k e = absurd (false≢true e)
callee_case may c st x (Some (n.array t own low high)) es k e = absurd (false≢true e)
callee_case may c st x (Some (n.view t own base)) es k e = absurd (false≢true e)
callee_case may c st x (Some (n.pointer t own)) es k e = absurd (false≢true e)
callee_case may c st x (Some (n.value t)) es k e = absurd (false≢true e)
callee_case may c st x (Some (n.by_reference t)) es k e = absurd (false≢true e)
callee_case may c st x (Some (n.array_parameter t)) es k e = absurd (false≢true e)
callee_case may c st x (Some n.label) es k e = absurd (false≢true e)
callee_case may c st x (Some (n.intrinsic i)) es k e = absurd (false≢true e)
callee_case may c st x (Some n.unknown) es k e = absurd (false≢true e)

can_call : (may : Who → Bool) (c : Scope) (st : Setting) (x : List ℕ) (p : Profile) (inner : Bool) → c.names x ≡ Some (stood_for inner p)
    → in_mode st.split may (who_of inner x) ≡ true → CanCall may c st.split (who_of inner x) p
can_call may c st x p false is allowed = record { allowed = allowed; named = is }
can_call may c st x p true is allowed = record { allowed = allowed; named = is }

-- ---- its code and its meaning

-- nothing behind a part is that part
none_more : (j : ℕ) → j + 0 ≡ j
none_more j = omega arith

bare : (a : Part) → a ⨟ nothing ≡ a
bare a i l ws = record { pieces = append-nil (a l ws).pieces i; marks = none_more (a l ws).marks i; wants = (a l ws).wants }

callee_code : (c : Context) (x : List ℕ) (es : Trees) (at : At) (k : ℕ) (p : Profile) (inner : Bool) → c.scope.names x ≡ Some (stood_for inner p)
    → statement c (stat.Statement.call x es at) k
    ≡ piece (Begin at) ⨟ (calling p (made.arguments c.scope p.formals es (k + result_words p)) (called c.scope (who_of inner x)) ⨟ pieces (result_dropped p.result))
callee_code c x es at k p false is =
    asked.call_code c x es at k (Some (n.procedure p)) is
    ∙ ap (λ (a : Part). piece (Begin at) ⨟ (a ⨟ pieces (result_dropped p.result)))
    (bare (calling p (made.arguments c.scope p.formals es (k + result_words p)) (called c.scope (procedure x))))
callee_code c x es at k p true is =
    asked.call_code c x es at k (Some (n.subroutine p)) is
    ∙ ap (λ (a : Part). piece (Begin at) ⨟ (a ⨟ pieces (result_dropped p.result)))
    (bare (calling p (made.arguments c.scope p.formals es (k + result_words p)) (called c.scope (subroutine x))))

-- a statement by what the name stands for
abbrev meant : Here → Callee → List ℕ → Trees → ℕ → State → Option Sort → Outcome (Unit {0})
meant h call x es k s o =
    if is_intrinsic o then value_dropped (intrinsic_value h call (sense_of x o) es k s)
    else value_dropped (named_value h x (sense_of x o) (λ s1. index h call es k s1) (λ q s1. run.arguments h call q.formals es (k + result_words q) s1) call k s)

callee_meaning : (h : Here) (call : Callee) (x : List ℕ) (es : Trees) (at : At) (k : ℕ) (p : Profile) (inner : Bool) → h.names x ≡ Some (stood_for inner p)
    → (s : State)
    → call_statement h call x es at k s
    ≡ value_dropped (call_value call (who_of inner x) k (λ t. run.arguments h call p.formals es (k + result_words p) t) s)
callee_meaning h call x es at k p false is s = ap (λ (o : Option Sort). meant h call x es k s o) is
callee_meaning h call x es at k p true is s = ap (λ (o : Option Sort). meant h call x es k s o) is

-- it waits for its arguments, and for the words of its parameters behind its result
callee_most : (c : Scope) (x : List ℕ) (es : Trees) (at : At) (p : Profile) (inner : Bool) → c.names x ≡ Some (stood_for inner p)
    → max (most_of c.names p.formals (result_words p) es) (result_words p + formals_words p.formals) ≤ most c.names (tree.Tree.named x es at)
callee_most c x es at p false is = let all = asked.call_most c x es at (Some (n.procedure p)) is in omega (arith, all)
callee_most c x es at p true is = let all = asked.call_most c x es at (Some (n.subroutine p)) is in omega (arith, all)

-- what is deleted behind a call closes it, or nothing is
dropped_whole : (o : Option Kind) (a : Part) → IsWhole a → IsWhole (a ⨟ pieces (result_dropped o))
dropped_whole None a x = whole_last a x
dropped_whole (Some kind.Integer) a x = whole_behind a (result_dropped (Some kind.Integer)) x refl
dropped_whole (Some kind.Logical) a x = whole_behind a (result_dropped (Some kind.Logical)) x refl
dropped_whole (Some kind.Byte) a x = whole_behind a (result_dropped (Some kind.Byte)) x refl
dropped_whole (Some kind.Double) a x = whole_behind a (result_dropped (Some kind.Double)) x refl

-- ---- calls

callee_whole : (may : Who → Bool) (c : Context) (st : Setting) (x : List ℕ) (es : Trees) (at : At) (k : ℕ)
    → IsCallee may c.scope st x (c.scope.names x) es k → IsWhole (statement c (stat.Statement.call x es at) k)
callee_whole may c st x es at k r =
    let p = r.profile in
    let args = made.arguments c.scope p.formals es (k + result_words p) in
    let one = calling p args (called c.scope (who_of r.inner x)) in
    subst (λ (a : Part). IsWhole a) (sym (callee_code c x es at k p r.inner r.is))
    (begun_whole at (one ⨟ pieces (result_dropped p.result)) (dropped_whole p.result one
    (links_of_calls.calls_whole c.scope p (who_of r.inner x) args (arguments_have_code may c.scope st p.formals es (k + result_words p) r.arguments) (inl r.entry))))

pub call_whole : CallsAreWhole
call_whole may c st x es at k e =
    ⊎_elim (λ i. asked.call_whole may c st x es at k i) (λ i. callee_whole may c st x es at k (callee_case may c.scope st x (c.scope.names x) es k i))
    (either (is_asked_call may c.scope st x (c.scope.names x) es k) (is_procedure_call may c.scope st x (c.scope.names x) es k) e)

pub call_performs : CallsPerform
call_performs may c results z call d number x es at k need e enough links =
    ⊎_elim (λ i. asked.call_performs may c results z call d number x es at k need i enough links)
    (λ i. callee_performs (callee_case may c.scope z.setting x (c.scope.names x) es k i))
    (either (is_asked_call may c.scope z.setting x (c.scope.names x) es k) (is_procedure_call may c.scope z.setting x (c.scope.names x) es k) e) where
      callee_performs : IsCallee may c.scope z.setting x (c.scope.names x) es k
          → Performs z d k need (statement c (stat.Statement.call x es at) k) (λ s. run (read_with c.scope results z.setting) call d number (stat.Statement.call x es at) k s)
      callee_performs r =
          let p = r.profile in
          let who = who_of r.inner x in
          let h = read_with c.scope results z.setting in
          let args = made.arguments c.scope p.formals es (k + result_words p) in
          let words : State → Outcome (List ℕ) = λ t. run.arguments h call p.formals es (k + result_words p) t in
          let waits = callee_most c.scope x es at p r.inner r.is in
          same_performs z d k need (statement c (stat.Statement.call x es at) k)
          (piece (Begin at) ⨟ (calling p args (called c.scope who) ⨟ pieces (result_dropped p.result)))
          (λ s. run h call d number (stat.Statement.call x es at) k s) (λ s. stopping number at s (λ t. value_dropped (call_value call who k words t)))
          (callee_code c x es at k p r.inner r.is)
          (λ s. stopping_same number at s (λ u. call_statement h call x es at k u) (λ u. value_dropped (call_value call who k words u))
          (λ u. callee_meaning h call x es at k p r.inner r.is u))
          (links_of_calls.calls_perform may c.scope z d number at call who p k need (need - result_words p) args words links
          (can_call may c.scope z.setting x p r.inner r.is r.allowed)
          (arguments_made may c.scope results z call d p es k (need - result_words p) links r.arguments (omega (arith, waits, enough)) (omega (arith, waits, enough)))
          (omega (arith, waits, enough)) (omega (arith, waits, enough)))
