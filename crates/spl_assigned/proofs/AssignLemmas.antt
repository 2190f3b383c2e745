-- Assignments along the tree: where no condition code is kept, of values; and else of what an intrinsic answers.
use Rattle.std.proofs.Common.{◌≡◌, ℕ, ◌+◌, ◌-◌, ◌≤◌, Bool, true, false, List, refl, sym, ap, subst, ◌∙◌, arith}
use Rattle.std.specs.Prelude.{Option, Some, None, ◌&&◌, ◌==◌, if◌then◌else◌}
use Rattle.std.proofs.lemmas.Bool.{false≢true, eqb-true}
use Rattle.std.proofs.Math.Logic.{⊎_elim}
use Rattle.spl_wide.specs.hp_word.declared.intrinsics.Intrinsic.{Intrinsic}
use Rattle.spl_wide.specs.hp_word.Intrinsics.{answer_words}
use Rattle.spl_wide.specs.spl_tree.declared.expressions.Kind.{Kind}
use Rattle.spl_wide.specs.spl_tree.declared.names_and_places.At.{At}
use Rattle.spl_wide.specs.spl_tree.Trees as tree
use Rattle.spl_wide.specs.spl_tree.Trees.{Tree, Trees}
use Rattle.spl_wide.specs.spl_tree.StatementTrees as stat
use Rattle.spl_wide.specs.spl_tree.StatementTrees.{Target}
use Rattle.spl_wide.specs.spl_branch.declared.pieces.Piece.TheVariants.{Begin}
use Rattle.spl_wide.specs.spl_meaning.Kinds.{callable}
use Rattle.spl_wide.specs.spl_meaning.Names as n
use Rattle.spl_wide.specs.spl_meaning.Names.{Names, Sort, intrinsic_named, intrinsic_profile}
use Rattle.spl_wide.specs.spl_meaning.Operations.{kept}
use Rattle.spl_wide.specs.spl_meaning.Pending.{most, waiting, statement_most, result_words, profile_formals, profile_result_words}
use Rattle.spl_wide.specs.spl_meaning.Places.{Place}
use Rattle.spl_wide.specs.spl_meaning.References.{Here, Setting, access_of, store}
use Rattle.spl_wide.specs.spl_meaning.Serving.{served}
use Rattle.spl_wide.specs.spl_meaning.States.{State, Outcome, then_go, stopping}
use Rattle.spl_wide.specs.spl_meaning.Statements.{is_intrinsic, is_intrinsic_alone, target_keeps_code, assigned, assign, intrinsic_value, alone_value, run}
use Rattle.spl_wide.specs.spl_meaning.Values as run
use Rattle.spl_wide.specs.spl_meaning.Values.{Who, Callee, sense_of, value}
use Rattle.spl_wide.specs.spl_code.Calls.{Scope}
use Rattle.spl_wide.specs.spl_code.Code as made
use Rattle.spl_wide.specs.spl_code.Code.{as_value, code}
use Rattle.spl_wide.specs.spl_code.Parts.{Part, pieces, piece, nothing, ◌⨟◌}
use Rattle.spl_wide.specs.spl_statement_code.Landings.{Context}
use Rattle.spl_wide.specs.spl_statement_code.Statements.{statement}
use Rattle.spl_wide.specs.spl_follow.Simulating.{Surroundings, Performs}
use Rattle.spl_wide.proofs.spl_values_proofs.VariableLemmas.{both}
use Rattle.spl_wide.specs.spl_intrinsics.Calls.{asked}
use Rattle.spl_wide.specs.spl_links.Links.{MayCall}
use Rattle.spl_wide.proofs.spl_word_operators_proofs.OperatorLemmas.{truths, either}
use Rattle.spl_wide.specs.spl_names.Names.{read_with, is_led_element, is_covered_name, is_wide_name, is_wide_element, is_wide_led}
use Rattle.spl_wide.specs.spl_whom.Whom.{is_gate, is_word_call, is_double_call, an_intrinsic}
use Rattle.spl_wide.proofs.spl_whom_proofs.NameLemmas.{gate_case}
use Rattle.spl_wide.proofs.spl_whom_proofs.CallLemmas.{asked_code, asked_is, call_room}
use Rattle.spl_wide.specs.spl_covered.Covered.{is_covered, is_wide, is_covered_variable, is_wide_variable, are_covered_arguments}
use Rattle.spl_wide.proofs.spl_covered_proofs.CoverLemmas.{arguments_made}
use Rattle.spl_wide.specs.spl_targets.Results.{ResultsAgree}
use Rattle.spl_wide.specs.spl_targets.Targets.{keeps_answer, is_word_target}
use Rattle.spl_wide.proofs.spl_targets_proofs.SameLemmas.{stopping_same, same_performs}
use Rattle.spl_wide.proofs.spl_targets_proofs.OwnLemmas.{named_target}
use Rattle.spl_wide.proofs.spl_targets_proofs.TargetLemmas.{words_whole, words_assigned}
use Rattle.spl_wide.specs.Wide.{is_wide_target}
use Rattle.spl_wide.proofs.AssignLemmas.{assigned_whole, assigned_performs}
use Rattle.spl_assigned.specs.Assigned.{is_covered_assignment, Puts}
use Rattle.spl_assigned.specs.Laws.{AssignmentsAreWhole, AssignmentsPerform}
use Rattle.spl_assigned.proofs.AnswerLemmas.{answers_put}
use Rattle.spl_assigned.proofs.TargetLemmas.{IsPut, word_put, wide_put}

-- ---- an intrinsic alone

intrinsic_of : (o : Option Sort) → is_intrinsic o ≡ true → (i : Intrinsic) × (o ≡ Some (n.intrinsic i))
intrinsic_of (Some (n.intrinsic i)) e = (i, refl)
intrinsic_of None e = absurd (false≢true e)
intrinsic_of (Some (n.equate v)) e = absurd (false≢true e)
intrinsic_of (Some (n.simple t own)) e = absurd (false≢true e)
intrinsic_of (Some (n.array t own low high)) e = absurd (false≢true e)
intrinsic_of (Some (n.view t own base)) e = absurd (false≢true e)
intrinsic_of (Some (n.pointer t own)) e = absurd (false≢true e)
intrinsic_of (Some (n.value t)) e = absurd (false≢true e)
intrinsic_of (Some (n.by_reference t)) e = absurd (false≢true e)
intrinsic_of (Some (n.array_parameter t)) e = absurd (false≢true e)
intrinsic_of (Some n.label) e = absurd (false≢true e)
intrinsic_of (Some (n.procedure p)) e = absurd (false≢true e)
intrinsic_of (Some (n.subroutine p)) e = absurd (false≢true e)
intrinsic_of (Some n.unknown) e = absurd (false≢true e)

-- a covered call of one: with an answer of so many words, in no split mode, with arguments that are covered
record IsAlone (may : Who → Bool) (c : Scope) (st : Setting) (x : List ℕ) (es : Trees) (k words : ℕ) : Type 0 where
  gate : Intrinsic
  is : c.names x ≡ Some (n.intrinsic gate)
  named : intrinsic_named x ≡ Some gate
  whole : st.split ≡ false
  wide : answer_words gate ≡ words
  arguments : are_covered_arguments may c st (intrinsic_profile gate).formals es (k + result_words (intrinsic_profile gate)) ≡ true

gate_alone : (may : Who → Bool) (c : Scope) (st : Setting) (x : List ℕ) (es : Trees) (k words : ℕ) (i : Intrinsic) → c.names x ≡ Some (n.intrinsic i)
    → ((answer_words i == words) && is_gate st x i) ≡ true
    → are_covered_arguments may c st (profile_formals (callable (c.names x))) es (k + profile_result_words (callable (c.names x))) ≡ true
    → IsAlone may c st x es k words
gate_alone may c st x es k words i is e asks =
    let two = both (answer_words i == words) (is_gate st x i) e in
    let here = gate_case st x i two.1 in
    record {
      gate = i;
      is = is;
      named = here.1;
      whole = here.0;
      wide = eqb-true (answer_words i) words two.0;
      arguments = subst (λ (o : Option Sort). are_covered_arguments may c st (profile_formals (callable o)) es (k + profile_result_words (callable o)) ≡ true) is asks;
    }

-- no variable is an intrinsic
variable_none : (may : Who → Bool) (c : Scope) (st : Setting) (x : List ℕ) (es : Trees) (k : ℕ) (i : Intrinsic) → c.names x ≡ Some (n.intrinsic i)
    → is_covered_variable may c st x es k ≡ true → false ≡ true
variable_none may c st x tree.Trees.none k i is e = subst (λ (o : Option Sort). is_covered_name st k o (c.places x) ≡ true) is e
variable_none may c st x (tree.Trees.and j tree.Trees.none) k i is e =
    let two = both (is_led_element st k (access_of (c.names x)) (c.places x)) (is_covered may c st j k) e in
    subst (λ (o : Option Sort). is_led_element st k (access_of o) (c.places x) ≡ true) is two.0
variable_none may c st x (tree.Trees.and j (tree.Trees.and l ls)) k i is e = e

wide_none : (may : Who → Bool) (c : Scope) (st : Setting) (x : List ℕ) (es : Trees) (k : ℕ) (i : Intrinsic) → c.names x ≡ Some (n.intrinsic i)
    → is_wide_variable may c st x es k ≡ true → false ≡ true
wide_none may c st x tree.Trees.none k i is e =
    ⊎_elim (λ own. subst (λ (o : Option Sort). is_wide_name st k o (c.places x) ≡ true) is own)
    (λ led. subst (λ (o : Option Sort). is_wide_led st k (access_of o) (c.places x) ≡ true) is led)
    (either (is_wide_name st k (c.names x) (c.places x)) (is_wide_led st k (access_of (c.names x)) (c.places x)) e)
wide_none may c st x (tree.Trees.and j tree.Trees.none) k i is e =
    let two = both (is_wide_element st k (access_of (c.names x)) (c.places x)) (is_covered may c st j k) e in
    subst (λ (o : Option Sort). is_wide_element st k (access_of o) (c.places x) ≡ true) is two.0
wide_none may c st x (tree.Trees.and j (tree.Trees.and l ls)) k i is e = e

-- so a name that is covered and is one calls it
word_alone : (may : Who → Bool) (c : Scope) (st : Setting) (x : List ℕ) (es : Trees) (at : At) (k : ℕ) → is_intrinsic (c.names x) ≡ true
    → is_covered may c st (tree.Tree.named x es at) k ≡ true → IsAlone may c st x es k 1
word_alone may c st x es at k alone e =
    let i = intrinsic_of (c.names x) alone in
    let asks = are_covered_arguments may c st (profile_formals (callable (c.names x))) es (k + profile_result_words (callable (c.names x))) in
    ⊎_elim (λ own. absurd (false≢true (variable_none may c st x es k i.0 i.1 own)))
    (λ other. let two = both (is_word_call may st x (c.names x)) asks other in
    gate_alone may c st x es k 1 i.0 i.1 (subst (λ (o : Option Sort). is_word_call may st x o ≡ true) i.1 two.0) two.1)
    (either (is_covered_variable may c st x es k) (is_word_call may st x (c.names x) && asks) e)

double_alone : (may : Who → Bool) (c : Scope) (st : Setting) (x : List ℕ) (es : Trees) (at : At) (k : ℕ) → is_intrinsic (c.names x) ≡ true
    → is_wide may c st (tree.Tree.named x es at) k ≡ true → IsAlone may c st x es k 2
double_alone may c st x es at k alone e =
    let i = intrinsic_of (c.names x) alone in
    let asks = are_covered_arguments may c st (profile_formals (callable (c.names x))) es (k + profile_result_words (callable (c.names x))) in
    ⊎_elim (λ own. absurd (false≢true (wide_none may c st x es k i.0 i.1 own)))
    (λ other. let two = both (is_double_call may st x (c.names x)) asks other in
    gate_alone may c st x es k 2 i.0 i.1 (subst (λ (o : Option Sort). is_double_call may st x o ≡ true) i.1 two.0) two.1)
    (either (is_wide_variable may c st x es k) (is_double_call may st x (c.names x) && asks) e)

-- ---- its assignment

-- to a target that keeps the condition code
kept_performs : (may : Who → Bool) (c : Context) (results : List ℕ → Option (Kind × Place)) (z : Surroundings) (call : Callee) (d number : ℕ) (y : List ℕ)
    (there : At) (x : List ℕ) (es : Trees) (here at : At) (k need words : ℕ) → IsPut c results z call (named_target y there) k words need
    → IsAlone may c.scope z.setting x es k words → 1 ≤ words → MayCall may c.scope z d call
    → keeps_answer c.scope.names (named_target y there) (tree.Tree.named x es here) ≡ true → most c.scope.names (tree.Tree.named x es here) + 8 ≤ need
    → Performs z d k need (statement c (stat.Statement.assign (named_target y there) (tree.Tree.named x es here) at) k)
    (λ s. run (read_with c.scope results z.setting) call d number (stat.Statement.assign (named_target y there) (tree.Tree.named x es here) at) k s)
kept_performs may c results z call d number y there x es here at k need words p a some links keeps enough =
    let waits = call_room may c.scope z.setting x es here words (an_intrinsic a.gate a.is a.named a.whole a.wide) in
    let wide = a.wide in
    same_performs z d k need (statement c (stat.Statement.assign to e at) k)
    (piece (Begin at) ⨟ (nothing ⨟ (asked a.gate x args ⨟ nothing) ⨟ pieces p.ps))
    (λ s. run h call d number (stat.Statement.assign to e at) k s)
    (λ s. stopping number at s (λ u. then_go (then_go (meant u) (λ ws t. served a.gate ws t)) (λ vs v. then_go (p.located v) (λ q t. store q (kept q.kind vs) t))))
    (p.code (λ j. code c.scope e as_value j) at
    ∙ ap (λ (b : Part). piece (Begin at) ⨟ (nothing ⨟ b ⨟ pieces p.ps)) (asked_code c.scope x es here as_value k a.gate a.is))
    (λ s. stopping_same number at s (λ u. assign h call to e k u)
    (λ u. then_go (then_go (meant u) (λ ws t. served a.gate ws t)) (λ vs v. then_go (p.located v) (λ q t. store q (kept q.kind vs) t)))
    (λ u. ap (λ (b : Bool). if b then assigned h call to (λ j t. alone_value h call e j t) k u else assigned h call to (λ j t. value h call e j t) k u) keeps
    ∙ p.is (λ j t. alone_value h call e j t) u
    ∙ ap (λ (o : Outcome (List ℕ)). then_go o (λ vs v. then_go (p.located v) (λ q t. store q (kept q.kind vs) t)))
    (ap (λ (o : Option Sort). intrinsic_value h call (sense_of x o) es k u) a.is)))
    (answers_put z d k need number at a.gate x args meant p.ps p.located
    (asked_is may c.scope z call d k need a.gate x args meant links a.whole a.named (omega (arith, some, wide)) (omega (arith, waits, enough))
    (arguments_made may c.scope results z call d (intrinsic_profile a.gate) es k (need - result_words (intrinsic_profile a.gate)) links a.arguments
    (omega (arith, waits, enough)) (omega (arith, waits, enough))))
    (omega (arith, some, wide)) (subst (λ (j : ℕ). Puts z k j need p.ps p.located) (sym wide) p.puts)) where
      h : Here
      h = read_with c.scope results z.setting

      to : Target
      to = named_target y there

      e : Tree
      e = tree.Tree.named x es here

      args : Part
      args = made.arguments c.scope (intrinsic_profile a.gate).formals es (k + result_words (intrinsic_profile a.gate))

      meant : State → Outcome (List ℕ)
      meant s = run.arguments h call (intrinsic_profile a.gate).formals es (k + result_words (intrinsic_profile a.gate)) s

-- by what is assigned
kept_named : (may : Who → Bool) (c : Context) (results : List ℕ → Option (Kind × Place)) (z : Surroundings) (call : Callee) (d number : ℕ) (y : List ℕ)
    (there : At) (e : Tree) (at : At) (k need : ℕ) → MayCall may c.scope z d call → ResultsAgree c.scope results
    → is_covered_assignment may c.scope results z.setting (named_target y there) e k ≡ true → keeps_answer c.scope.names (named_target y there) e ≡ true
    → most c.scope.names e + 8 ≤ need
    → Performs z d k need (statement c (stat.Statement.assign (named_target y there) e at) k)
    (λ s. run (read_with c.scope results z.setting) call d number (stat.Statement.assign (named_target y there) e at) k s)
kept_named may c results z call d number y there (tree.Tree.named x es here) at k need links agrees covered keeps enough =
    let e = tree.Tree.named x es here in
    let to = named_target y there in
    let alone = both (is_intrinsic (c.scope.names x)) (target_keeps_code c.scope.names to) keeps in
    ⊎_elim
    (λ word. let two = both (is_word_target may c.scope results z.setting to k) (is_covered may c.scope z.setting e k) word in
    kept_performs may c results z call d number y there x es here at k need 1 (word_put may c results z call y there k need agrees two.0 (omega (arith, enough)))
    (word_alone may c.scope z.setting x es here k alone.0 two.1) (omega arith) links keeps enough)
    (λ wide. let two = both (is_wide_target may c.scope results z.setting to k) (is_wide may c.scope z.setting e k) wide in
    kept_performs may c results z call d number y there x es here at k need 2 (wide_put may c results z call y there k need agrees two.0 (omega (arith, enough)))
    (double_alone may c.scope z.setting x es here k alone.0 two.1) (omega arith) links keeps enough)
    (either (is_word_target may c.scope results z.setting to k && is_covered may c.scope z.setting e k)
    (is_wide_target may c.scope results z.setting to k && is_wide may c.scope z.setting e k) covered)
kept_named may c results z call d number y there (tree.Tree.number v) at k need links agrees covered keeps enough = absurd (false≢true keeps)
kept_named may c results z call d number y there (tree.Tree.wide v) at k need links agrees covered keeps enough = absurd (false≢true keeps)
kept_named may c results z call d number y there (tree.Tree.text bytes) at k need links agrees covered keeps enough = absurd (false≢true keeps)
kept_named may c results z call d number y there (tree.Tree.truth b) at k need links agrees covered keeps enough = absurd (false≢true keeps)
kept_named may c results z call d number y there (tree.Tree.address x es here) at k need links agrees covered keeps enough = absurd (false≢true keeps)
kept_named may c results z call d number y there (tree.Tree.unary o a here) at k need links agrees covered keeps enough = absurd (false≢true keeps)
kept_named may c results z call d number y there (tree.Tree.binary o a b here) at k need links agrees covered keeps enough = absurd (false≢true keeps)
kept_named may c results z call d number y there (tree.Tree.shift o a by here) at k need links agrees covered keeps enough = absurd (false≢true keeps)
kept_named may c results z call d number y there (tree.Tree.field a start size here) at k need links agrees covered keeps enough = absurd (false≢true keeps)
kept_named may c results z call d number y there (tree.Tree.transfer t a here) at k need links agrees covered keeps enough = absurd (false≢true keeps)
kept_named may c results z call d number y there (tree.Tree.bytes o a b count here) at k need links agrees covered keeps enough = absurd (false≢true keeps)

-- such a target is a name without an index
kept_target : (names : Names) (to : Target) → target_keeps_code names to ≡ true → (y : List ℕ) × (there : At) × (to ≡ named_target y there)
kept_target names (stat.Target.plain (tree.Tree.named x tree.Trees.none there)) e = (x, there, refl)
kept_target names (stat.Target.plain (tree.Tree.named x (tree.Trees.and i is) there)) e = absurd (false≢true e)
kept_target names (stat.Target.plain (tree.Tree.number w)) e = absurd (false≢true e)
kept_target names (stat.Target.plain (tree.Tree.wide w)) e = absurd (false≢true e)
kept_target names (stat.Target.plain (tree.Tree.text bytes)) e = absurd (false≢true e)
kept_target names (stat.Target.plain (tree.Tree.truth b)) e = absurd (false≢true e)
kept_target names (stat.Target.plain (tree.Tree.address x es there)) e = absurd (false≢true e)
kept_target names (stat.Target.plain (tree.Tree.unary o a there)) e = absurd (false≢true e)
kept_target names (stat.Target.plain (tree.Tree.binary o a b there)) e = absurd (false≢true e)
kept_target names (stat.Target.plain (tree.Tree.shift o a by there)) e = absurd (false≢true e)
kept_target names (stat.Target.plain (tree.Tree.field a start size there)) e = absurd (false≢true e)
kept_target names (stat.Target.plain (tree.Tree.transfer t a there)) e = absurd (false≢true e)
kept_target names (stat.Target.plain (tree.Tree.bytes o a b count there)) e = absurd (false≢true e)
kept_target names (stat.Target.field r start size) e = absurd (false≢true e)
kept_target names (stat.Target.address x there) e = absurd (false≢true e)

kept_assigned : (may : Who → Bool) (c : Context) (results : List ℕ → Option (Kind × Place)) (z : Surroundings) (call : Callee) (d number : ℕ) (to : Target)
    (e : Tree) (at : At) (k need : ℕ) → MayCall may c.scope z d call → ResultsAgree c.scope results
    → is_covered_assignment may c.scope results z.setting to e k ≡ true → keeps_answer c.scope.names to e ≡ true
    → statement_most c.scope.names (stat.Statement.assign to e at) + 8 ≤ need
    → Performs z d k need (statement c (stat.Statement.assign to e at) k)
    (λ s. run (read_with c.scope results z.setting) call d number (stat.Statement.assign to e at) k s)
kept_assigned may c results z call d number to e at k need links agrees covered keeps enough =
    let t = kept_target c.scope.names to (both (is_intrinsic_alone c.scope.names e) (target_keeps_code c.scope.names to) keeps).1 in
    let room = subst (λ (a : Target). statement_most c.scope.names (stat.Statement.assign a e at) + 8 ≤ need) t.2 enough in
    subst (λ (a : Target). Performs z d k need (statement c (stat.Statement.assign a e at) k)
    (λ s. run (read_with c.scope results z.setting) call d number (stat.Statement.assign a e at) k s)) (sym t.2)
    (kept_named may c results z call d number t.0 t.1 e at k need links agrees
    (subst (λ (a : Target). is_covered_assignment may c.scope results z.setting a e k ≡ true) t.2 covered)
    (subst (λ (a : Target). keeps_answer c.scope.names a e ≡ true) t.2 keeps) (omega (arith, room)))

-- ---- all of them

pub assignments_whole : AssignmentsAreWhole
assignments_whole may c results st to e at k covered =
    ⊎_elim
    (λ word. let two = both (is_word_target may c.scope results st to k) (is_covered may c.scope st e (waiting to k)) word in
    words_whole may c results st to e at k two.0 two.1)
    (λ wide. let two = both (is_wide_target may c.scope results st to k) (is_wide may c.scope st e (waiting to k)) wide in
    assigned_whole may c results st to e at k two.0 two.1)
    (either (is_word_target may c.scope results st to k && is_covered may c.scope st e (waiting to k))
    (is_wide_target may c.scope results st to k && is_wide may c.scope st e (waiting to k)) covered)

pub assignments : AssignmentsPerform
assignments may c results z call d number to e at k need links agrees covered enough =
    ⊎_elim (λ keeps. kept_assigned may c results z call d number to e at k need links agrees covered keeps enough)
    (λ none. ⊎_elim
    (λ word. let two = both (is_word_target may c.scope results z.setting to k) (is_covered may c.scope z.setting e (waiting to k)) word in
    words_assigned may c results z call d number to e at k need links agrees two.0 two.1 none enough)
    (λ wide. let two = both (is_wide_target may c.scope results z.setting to k) (is_wide may c.scope z.setting e (waiting to k)) wide in
    assigned_performs may c results z call d number to e at k need links agrees two.0 two.1 none enough)
    (either (is_word_target may c.scope results z.setting to k && is_covered may c.scope z.setting e (waiting to k))
    (is_wide_target may c.scope results z.setting to k && is_wide may c.scope z.setting e (waiting to k)) covered))
    (truths (keeps_answer c.scope.names to e))
