-- Calls of intrinsics along the tree: their code is whole, and performs them.
use Rattle.std.proofs.Common.{◌≡◌, ℕ, ◌+◌, ◌-◌, ◌≤◌, Bool, true, false, List, [], ◌∷◌, ◌++◌, refl, sym, ap, subst, ◌∙◌, arith}
use Rattle.std.specs.Prelude.{Option, Some, None, max, if◌then◌else◌}
use Rattle.std.proofs.lemmas.Bool.{false≢true}
use Rattle.std.proofs.lemmas.List.{append-nil}
use Rattle.spl_targets.specs.hp_word.declared.intrinsics.Intrinsic.{Intrinsic}
use Rattle.spl_targets.specs.hp_word.declared.intrinsics.Intrinsic.TheVariants as gate
use Rattle.spl_targets.specs.hp_word.Intrinsics.{parameter_words, answer_words}
use Rattle.spl_targets.specs.spl_tree.declared.expressions.Kind.{Kind}
use Rattle.spl_targets.specs.spl_tree.declared.expressions.Kind.TheVariants as kind
use Rattle.spl_targets.specs.spl_tree.declared.names_and_places.At.{At}
use Rattle.spl_targets.specs.spl_tree.Trees as tree
use Rattle.spl_targets.specs.spl_tree.Trees.{Tree, Trees}
use Rattle.spl_targets.specs.spl_tree.StatementTrees as stat
use Rattle.spl_targets.specs.spl_meaning.Names as n
use Rattle.spl_targets.specs.spl_meaning.Names.{Sort, Formal, intrinsic_named, intrinsic_profile}
use Rattle.spl_targets.specs.spl_meaning.Kinds.{callable}
use Rattle.spl_targets.specs.spl_meaning.Operations.{passed}
use Rattle.spl_targets.specs.spl_meaning.Pending.{most, most_of, statement_most, formals_words, profile_formals, profile_result_words, link_words, result_words}
use Rattle.spl_targets.specs.spl_meaning.Places.{Place}
use Rattle.spl_targets.specs.spl_meaning.References.{Here, Setting}
use Rattle.spl_targets.specs.spl_meaning.Serving.{served}
use Rattle.spl_targets.specs.spl_meaning.States.{State, Outcome, done, leaves, spent, ends, strays, then_go, stopping}
use Rattle.spl_targets.specs.spl_meaning.Statements.{is_intrinsic, intrinsic_value, value_dropped, call_statement, run}
use Rattle.spl_targets.specs.spl_meaning.Values as run
use Rattle.spl_targets.specs.spl_meaning.Values.{Who, Callee, sense_of, value}
use Rattle.spl_targets.specs.spl_code.Calls.{Scope}
use Rattle.spl_targets.specs.spl_code.Code as made
use Rattle.spl_targets.specs.spl_code.Code.{as_value, closing, named, index, variable, is_indexed, code}
use Rattle.spl_targets.specs.spl_code.Parts.{Part, pieces, piece, nothing, ◌⨟◌, wanted_place, with_wanted}
use Rattle.spl_targets.specs.spl_branch.declared.pieces.Piece.{Piece}
use Rattle.spl_targets.specs.spl_branch.declared.pieces.Piece.TheVariants.{Call, Begin}
use Rattle.spl_targets.specs.hp_instr.declared.instruction.Instr.TheVariants as i
use Rattle.spl_targets.specs.spl_statement_code.Landings.{Context}
use Rattle.spl_targets.specs.spl_statement_code.Statements.{statement, result_dropped, result_of}
use Rattle.spl_targets.specs.spl_follow.Simulating.{Surroundings, Simulates, Performs}
use Rattle.spl_targets.specs.spl_follow.Standing.{IsClosed}
use Rattle.spl_targets.proofs.spl_follow_proofs.StandLemmas.{closed_last}
use Rattle.spl_targets.specs.spl_endings.Laws.{called}
use Rattle.spl_targets.proofs.spl_endings_proofs.WantLemmas.{wanted_keeps}
use Rattle.spl_targets.proofs.spl_endings_proofs.CallLemmas.{terminate_performs, quit_performs}
use Rattle.spl_targets.specs.spl_values.Reached.{IsWhole}
use Rattle.spl_targets.proofs.spl_values_proofs.VariableLemmas.{both}
use Rattle.spl_targets.proofs.spl_values_proofs.SumLemmas.{front_on}
use Rattle.spl_targets.proofs.spl_values_proofs.WholeLemmas.{whole_behind, whole_last}
use Rattle.spl_targets.specs.spl_covered.Covered.{is_covered, is_wide, is_covered_reference, is_passed, are_covered_arguments}
use Rattle.spl_targets.specs.spl_links.Links.{MayCall}
use Rattle.spl_targets.specs.spl_names.Names.{read_with}
use Rattle.spl_targets.proofs.spl_covered_proofs.CoverLemmas.{covered_width, covered_whole, covered_gives, arguments_whole, arguments_give}
use Rattle.spl_targets.proofs.SameLemmas.{stopping_same, same_performs}
use Rattle.spl_targets.specs.spl_intrinsics.Laws.{is_answered}
use Rattle.spl_targets.specs.spl_intrinsics.Calls.{asked, IsAsked}
use Rattle.spl_targets.proofs.spl_intrinsics_proofs.AskLemmas.{asked_whole}
use Rattle.spl_targets.proofs.spl_intrinsics_proofs.PerformLemmas.{calls_perform}
use Rattle.spl_targets.specs.spl_whom.Whom.{is_gate}
use Rattle.spl_targets.proofs.spl_whom_proofs.NameLemmas.{gate_case}
use Rattle.spl_calls.specs.Covered.{is_covered_question, is_asked_call}

-- what a covered call is
pub record IsQuestion (may : Who → Bool) (c : Scope) (st : Setting) (x : List ℕ) (n : Intrinsic) (es : Trees) (k : ℕ) : Type 0 where
  pub whole : st.split ≡ false
  pub named : intrinsic_named x ≡ Some n
  pub arguments : are_covered_arguments may c st (intrinsic_profile n).formals es (k + result_words (intrinsic_profile n)) ≡ true

pub question_case : (may : Who → Bool) (c : Scope) (st : Setting) (x : List ℕ) (n : Intrinsic) (es : Trees) (k : ℕ) → is_covered_question may c st x n es k ≡ true
    → IsQuestion may c st x n es k
question_case may c st x n es k e =
    let two = both (is_gate st x n) (are_covered_arguments may c st (intrinsic_profile n).formals es (k + result_words (intrinsic_profile n))) e in
    let here = gate_case st x n two.0 in
    record { whole = here.0; named = here.1; arguments = two.1 }

-- by what its name stands for
pub record IsCall (may : Who → Bool) (c : Scope) (st : Setting) (x : List ℕ) (o : Option Sort) (es : Trees) (k : ℕ) : Type 0 where
  pub intrinsic' : Intrinsic
  pub is : o ≡ Some (n.intrinsic intrinsic')
  pub question : IsQuestion may c st x intrinsic' es k

pub call_case : (may : Who → Bool) (c : Scope) (st : Setting) (x : List ℕ) (o : Option Sort) (es : Trees) (k : ℕ) → is_asked_call may c st x o es k ≡ true → IsCall may c st x o es k
call_case may c st x (Some (n.intrinsic j)) es k e = record { intrinsic' = j; is = refl; question = question_case may c st x j es k e }
call_case may c st x None es k e = absurd (false≢true e)
call_case may c st x (Some (n.equate v)) es k e = absurd (false≢true e)
call_case may c st x (Some (n.simple t own)) es k e = absurd (false≢true e)
call_case may c st x (Some (n.array t own low high)) es k e = absurd (false≢true e)
call_case may c st x (Some (n.view t own base)) es k e = absurd (false≢true e)
call_case may c st x (Some (n.pointer t own)) es k e = absurd (false≢true e)
call_case may c st x (Some (n.value t)) es k e = absurd (false≢true e)
call_case may c st x (Some (n.by_reference t)) es k e = absurd (false≢true e)
call_case may c st x (Some (n.array_parameter t)) es k e = absurd (false≢true e)
call_case may c st x (Some n.label) es k e = absurd (false≢true e)
call_case may c st x (Some (n.procedure p)) es k e = absurd (false≢true e)
call_case may c st x (Some (n.subroutine p)) es k e = absurd (false≢true e)
call_case may c st x (Some n.unknown) es k e = absurd (false≢true e)

-- ---- what a call is given

-- a call's arguments, behind the room for its answer
asked_is : (may : Who → Bool) (c : Scope) (results : List ℕ → Option (Kind × Place)) (z : Surroundings) (call : Callee) (d : ℕ) (n : Intrinsic) (x : List ℕ) (f : Formal)
    (fs : List Formal) (es : Trees) (k w need : ℕ) → is_answered n ≡ true → intrinsic_named x ≡ Some n → z.setting.split ≡ false → MayCall may c z d call
    → are_covered_arguments may c z.setting (f ∷ fs) es (k + w) ≡ true → formals_words (f ∷ fs) ≡ parameter_words n → w ≡ answer_words n
    → max (most_of c.names (f ∷ fs) w es) (w + formals_words (f ∷ fs) + 0) + 8 ≤ need
    → IsAsked z d k need n x (made.arguments c (f ∷ fs) es (k + w)) (λ s. run.arguments (read_with c results z.setting) call (f ∷ fs) es (k + w) s)
asked_is may c results z call d n x f fs es k w need answered its whole links covered words answer enough = record {
  answered = answered;
  gates = links.gates;
  named = its;
  whole = whole;
  closed = arguments_whole may c z.setting f fs es (k + w) covered;
  more = need - answer_words n;
  enough = omega (arith, enough, answer);
  room = omega (arith, enough, answer, words);
  simulates =
      subst (λ (j : ℕ). Simulates z d as_value (parameter_words n) (k + j) (need - answer_words n) (made.arguments c (f ∷ fs) es (k + w)) (λ s. run.arguments h call (f ∷ fs) es (k + w) s)) answer
      (subst (λ (j : ℕ). Simulates z d as_value j (k + w) (need - answer_words n) (made.arguments c (f ∷ fs) es (k + w)) (λ s. run.arguments h call (f ∷ fs) es (k + w) s)) words
      (arguments_give may c results z call d f fs es (k + w) w (need - answer_words n) links covered (omega (arith, enough, answer)) (omega (arith, enough, answer))));
}
  where
    h : Here
    h = read_with c results z.setting

-- of each intrinsic that answers
pub question_asked : (may : Who → Bool) (c : Scope) (results : List ℕ → Option (Kind × Place)) (z : Surroundings) (call : Callee) (d : ℕ) (n : Intrinsic) (x : List ℕ) (es : Trees)
    (k need : ℕ) → is_answered n ≡ true → IsQuestion may c z.setting x n es k → MayCall may c z d call
    → max (most_of c.names (intrinsic_profile n).formals (result_words (intrinsic_profile n)) es)
    (result_words (intrinsic_profile n) + formals_words (intrinsic_profile n).formals + 0) + 8 ≤ need
    → IsAsked z d k need n x (made.arguments c (intrinsic_profile n).formals es (k + result_words (intrinsic_profile n)))
    (λ s. run.arguments (read_with c results z.setting) call (intrinsic_profile n).formals es (k + result_words (intrinsic_profile n)) s)
question_asked may c results z call d gate.Print x es k need a q links enough = asked_is may c results z call d gate.Print x _ _ es k 0 need refl q.named q.whole links q.arguments refl refl enough
question_asked may c results z call d gate.Read x es k need a q links enough = asked_is may c results z call d gate.Read x _ _ es k 1 need refl q.named q.whole links q.arguments refl refl enough
question_asked may c results z call d gate.Ascii x es k need a q links enough = asked_is may c results z call d gate.Ascii x _ _ es k 1 need refl q.named q.whole links q.arguments refl refl enough
question_asked may c results z call d gate.Dascii x es k need a q links enough = asked_is may c results z call d gate.Dascii x _ _ es k 1 need refl q.named q.whole links q.arguments refl refl enough
question_asked may c results z call d gate.Binary x es k need a q links enough = asked_is may c results z call d gate.Binary x _ _ es k 1 need refl q.named q.whole links q.arguments refl refl enough
question_asked may c results z call d gate.Dbinary x es k need a q links enough = asked_is may c results z call d gate.Dbinary x _ _ es k 2 need refl q.named q.whole links q.arguments refl refl enough
question_asked may c results z call d gate.Terminate x es k need a q links enough = absurd (false≢true a)
question_asked may c results z call d gate.Quit x es k need a q links enough = absurd (false≢true a)

-- its arguments' code is whole
pub question_whole : (may : Who → Bool) (c : Scope) (st : Setting) (n : Intrinsic) (x : List ℕ) (es : Trees) (k : ℕ) → is_answered n ≡ true → IsQuestion may c st x n es k
    → IsWhole (made.arguments c (intrinsic_profile n).formals es (k + result_words (intrinsic_profile n)))
question_whole may c st gate.Print x es k a q = arguments_whole may c st _ _ es (k + 0) q.arguments
question_whole may c st gate.Read x es k a q = arguments_whole may c st _ _ es (k + 1) q.arguments
question_whole may c st gate.Ascii x es k a q = arguments_whole may c st _ _ es (k + 1) q.arguments
question_whole may c st gate.Dascii x es k a q = arguments_whole may c st _ _ es (k + 1) q.arguments
question_whole may c st gate.Binary x es k a q = arguments_whole may c st _ _ es (k + 1) q.arguments
question_whole may c st gate.Dbinary x es k a q = arguments_whole may c st _ _ es (k + 2) q.arguments
question_whole may c st gate.Terminate x es k a q = absurd (false≢true a)
question_whole may c st gate.Quit x es k a q = absurd (false≢true a)

-- ---- code

-- the code of a call by what its name stands for
pub call_code : (c : Context) (x : List ℕ) (es : Trees) (at : At) (k : ℕ) (o : Option Sort) → c.scope.names x ≡ o
    → statement c (stat.Statement.call x es at) k
    ≡ piece (Begin at)
    ⨟ (named c.scope x (sense_of x o) (λ p. made.arguments c.scope p.formals es (k + result_words p)) (index c.scope es false k ⨟ variable c.scope x (is_indexed es) k)
    ⨟ closing as_value ⨟ pieces (result_dropped (result_of (callable o))))
call_code c x es at k o is =
    ap (λ (p : Option Sort). piece (Begin at)
    ⨟ (named c.scope x (sense_of x p) (λ p. made.arguments c.scope p.formals es (k + result_words p)) (index c.scope es false k ⨟ variable c.scope x (is_indexed es) k)
    ⨟ closing as_value ⨟ pieces (result_dropped (result_of (callable p))))) is

-- nothing behind closed pieces
closed_nil : (ps : List Piece) → IsClosed ps → IsClosed (ps ++ [])
closed_nil ps closed = subst (λ (xs : List Piece). IsClosed xs) (sym (append-nil ps)) closed

-- TERMINATE's is whole
terminate_whole : (at : At) (x : List ℕ) → IsWhole (called at gate.Terminate x nothing)
terminate_whole at x = record { closed = λ l ws. refl; keeps = λ l ws. wanted_keeps x true ws }

-- and QUIT's, behind a value whose is
quit_whole : (at : At) (x : List ℕ) (a : Part) → IsWhole a → IsWhole (called at gate.Quit x (a ⨟ pieces [] ⨟ nothing))
quit_whole at x a whole = record {
  closed = λ l ws.
      let ps = (((a (l + 0 + 0) ws).pieces ++ []) ++ []) in
      let call : List Piece = Call (i.Control 0 0) true (wanted_place x true (a (l + 0 + 0) ws).wants) ∷ [] in
      closed_nil (((ps ++ call) ++ []) ++ []) (closed_nil ((ps ++ call) ++ []) (closed_nil (ps ++ call) (closed_last ps call refl)));
  keeps = λ l ws.
      let more = (a (l + 0 + 0) ws).wants in front_on ws more (with_wanted x true more) (whole.keeps (l + 0 + 0) ws) (wanted_keeps x true more);
}

-- ---- meanings

-- a call of an intrinsic by what its name stands for
call_meaning : (h : Here) (call : Callee) (x : List ℕ) (es : Trees) (at : At) (k : ℕ) (i : Intrinsic) → h.names x ≡ Some (n.intrinsic i) → (s : State)
    → call_statement h call x es at k s
    ≡ value_dropped (then_go (run.arguments h call (intrinsic_profile i).formals es (k + result_words (intrinsic_profile i)) s) (λ ws t. served i ws t))
call_meaning h call x es at k i is s =
    ap (λ (o : Option Sort). if is_intrinsic o then value_dropped (intrinsic_value h call (sense_of x o) es k s) else value_dropped (value h call (tree.Tree.named x es at) k s)) is

-- a word that is passed as an INTEGER is all that is passed
passed_alone : (o : Outcome (List ℕ)) (go : List ℕ → State → Outcome (List ℕ))
    → then_go (then_go (then_go o (λ vs t. passed (Some kind.Integer) vs t)) (λ ws t. done (ws ++ []) t)) go
    ≡ then_go (then_go o (λ vs t. passed (Some kind.Integer) vs t)) go
passed_alone (done [] s) go = refl
passed_alone (done (v ∷ []) s) go = refl
passed_alone (done (v ∷ u ∷ vs) s) go = refl
passed_alone (leaves x s) go = refl
passed_alone (spent s) go = refl
passed_alone (ends e s) go = refl
passed_alone (strays s) go = refl

-- ---- room

-- what a call waits for by what its name stands for
pub call_most : (c : Scope) (x : List ℕ) (es : Trees) (at : At) (o : Option Sort) → c.names x ≡ o
    → most c.names (tree.Tree.named x es at)
    ≡ max (most_of c.names (profile_formals (callable o)) (profile_result_words (callable o)) es)
    (profile_result_words (callable o) + formals_words (profile_formals (callable o)) + link_words o)
call_most c x es at o is =
    ap (λ (p : Option Sort). max (most_of c.names (profile_formals (callable p)) (profile_result_words (callable p)) es)
    (profile_result_words (callable p) + formals_words (profile_formals (callable p)) + link_words p)) is

-- ---- calls

-- what is deleted behind a call closes it, or nothing is
dropped_whole : (n : Intrinsic) (a : Part) → IsWhole a → IsWhole (a ⨟ pieces (result_dropped (intrinsic_profile n).result))
dropped_whole gate.Print a x = whole_last a x
dropped_whole gate.Read a x = whole_behind a _ x refl
dropped_whole gate.Ascii a x = whole_behind a _ x refl
dropped_whole gate.Dascii a x = whole_behind a _ x refl
dropped_whole gate.Binary a x = whole_behind a _ x refl
dropped_whole gate.Dbinary a x = whole_behind a _ x refl
dropped_whole gate.Terminate a x = whole_last a x
dropped_whole gate.Quit a x = whole_last a x

-- a beginning before what is whole
pub begun_whole : (at : At) (a : Part) → IsWhole a → IsWhole (piece (Begin at) ⨟ a)
begun_whole at a x = record { closed = λ l ws. x.closed (l + 0) ws; keeps = λ l ws. x.keeps (l + 0) ws }

-- the other argument of a QUIT is none
quit_value : (may : Who → Bool) (c : Scope) (st : Setting) (es : Trees) (k : ℕ) → are_covered_arguments may c st (intrinsic_profile gate.Quit).formals es (k + 0) ≡ true
    → (e : Tree) × (es ≡ tree.Trees.and e tree.Trees.none) × (is_covered may c st e (k + 0) ≡ true)
quit_value may c st (tree.Trees.and e tree.Trees.none) k h =
    let two = both (is_passed true (Some kind.Integer) (is_covered may c st e (k + 0)) (is_wide may c st e (k + 0)) (is_covered_reference may c st e (k + 0))) true h in (e, refl, two.0)
quit_value may c st (tree.Trees.and e (tree.Trees.and u es)) k h = absurd (false≢true (both (is_passed true (Some kind.Integer) (is_covered may c st e (k + 0)) (is_wide may c st e (k + 0)) (is_covered_reference may c st e (k + 0))) false h).1)
quit_value may c st tree.Trees.none k h = absurd (false≢true h)

no_value : (may : Who → Bool) (c : Scope) (st : Setting) (es : Trees) (k : ℕ) → are_covered_arguments may c st (intrinsic_profile gate.Terminate).formals es (k + 0) ≡ true
    → es ≡ tree.Trees.none
no_value may c st tree.Trees.none k h = refl
no_value may c st (tree.Trees.and e es) k h = absurd (false≢true h)

pub call_whole : (may : Who → Bool) (c : Context) (st : Setting) (x : List ℕ) (es : Trees) (at : At) (k : ℕ)
    → is_asked_call may c.scope st x (c.scope.names x) es k ≡ true → IsWhole (statement c (stat.Statement.call x es at) k)
call_whole may c st x es at k e = by r.intrinsic' r.is r.question where
  r : IsCall may c.scope st x (c.scope.names x) es k
  r = call_case may c.scope st x (c.scope.names x) es k e

  answered : (j : Intrinsic) → is_answered j ≡ true → c.scope.names x ≡ Some (n.intrinsic j) → IsQuestion may c.scope st x j es k
      → IsWhole (statement c (stat.Statement.call x es at) k)
  answered j a is q =
      subst (λ (p : Part). IsWhole p) (sym (call_code c x es at k (Some (n.intrinsic j)) is))
      (begun_whole at (asked j x (made.arguments c.scope (intrinsic_profile j).formals es (k + result_words (intrinsic_profile j))) ⨟ nothing
      ⨟ pieces (result_dropped (intrinsic_profile j).result))
      (dropped_whole j (asked j x (made.arguments c.scope (intrinsic_profile j).formals es (k + result_words (intrinsic_profile j))) ⨟ nothing)
      (asked_whole j x (made.arguments c.scope (intrinsic_profile j).formals es (k + result_words (intrinsic_profile j))) (question_whole may c.scope st j x es k a q))))

  by : (j : Intrinsic) → c.scope.names x ≡ Some (n.intrinsic j) → IsQuestion may c.scope st x j es k → IsWhole (statement c (stat.Statement.call x es at) k)
  by gate.Print is q = answered gate.Print refl is q
  by gate.Read is q = answered gate.Read refl is q
  by gate.Ascii is q = answered gate.Ascii refl is q
  by gate.Dascii is q = answered gate.Dascii refl is q
  by gate.Binary is q = answered gate.Binary refl is q
  by gate.Dbinary is q = answered gate.Dbinary refl is q
  by gate.Terminate is q =
      subst (λ (us : Trees). IsWhole (statement c (stat.Statement.call x us at) k)) (sym (no_value may c.scope st es k q.arguments))
      (subst (λ (a : Part). IsWhole a) (sym (call_code c x tree.Trees.none at k (Some (n.intrinsic gate.Terminate)) is)) (terminate_whole at x))
  by gate.Quit is q =
      let v = quit_value may c.scope st es k q.arguments in
      subst (λ (us : Trees). IsWhole (statement c (stat.Statement.call x us at) k)) (sym v.1)
      (subst (λ (a : Part). IsWhole a) (sym (call_code c x (tree.Trees.and v.0 tree.Trees.none) at k (Some (n.intrinsic gate.Quit)) is))
      (quit_whole at x (code c.scope v.0 as_value (k + 0)) (covered_whole may c.scope st v.0 (k + 0) v.2)))

-- a word that waits no longer than before
none_more : (k : ℕ) → k ≡ k + 0
none_more k = omega arith

pub call_performs : (may : Who → Bool) (c : Context) (results : List ℕ → Option (Kind × Place)) (z : Surroundings) (call : Callee) (d number : ℕ) (x : List ℕ)
    (es : Trees) (at : At) (k need : ℕ) → is_asked_call may c.scope z.setting x (c.scope.names x) es k ≡ true
    → statement_most c.scope.names (stat.Statement.call x es at) + 8 ≤ need → MayCall may c.scope z d call
    → Performs z d k need (statement c (stat.Statement.call x es at) k)
    (λ s. run (read_with c.scope results z.setting) call d number (stat.Statement.call x es at) k s)
call_performs may c results z call d number x es at k need e enough links = by r.intrinsic' r.is r.question where
  r : IsCall may c.scope z.setting x (c.scope.names x) es k
  r = call_case may c.scope z.setting x (c.scope.names x) es k e

  h : Here
  h = read_with c.scope results z.setting

  Goal : Trees → Type 0
  Goal us =
      Performs z d k need (statement c (stat.Statement.call x us at) k) (λ s. run h call d number (stat.Statement.call x us at) k s)

  answered : (j : Intrinsic) → is_answered j ≡ true → c.scope.names x ≡ Some (n.intrinsic j) → IsQuestion may c.scope z.setting x j es k → Goal es
  answered j a is q =
      let most_is = call_most c.scope x es at (Some (n.intrinsic j)) is in
      let formals = (intrinsic_profile j).formals in
      let w = result_words (intrinsic_profile j) in
      let args = made.arguments c.scope formals es (k + w) in
      let words : State → Outcome (List ℕ) = λ s. run.arguments h call formals es (k + w) s in
      same_performs z d k need (statement c (stat.Statement.call x es at) k)
      (piece (Begin at) ⨟ (asked j x args ⨟ nothing ⨟ pieces (result_dropped (intrinsic_profile j).result)))
      (λ s. run h call d number (stat.Statement.call x es at) k s)
      (λ s. stopping number at s (λ u. value_dropped (then_go (words u) (λ ws t. served j ws t))))
      (call_code c x es at k (Some (n.intrinsic j)) is)
      (λ s. stopping_same number at s (λ u. call_statement h call x es at k u) (λ u. value_dropped (then_go (words u) (λ ws t. served j ws t)))
      (λ u. call_meaning h call x es at k j is u))
      (calls_perform z d k need number at j x args words (question_asked may c.scope results z call d j x es k need a q links (omega (arith, enough, most_is))))

  by : (j : Intrinsic) → c.scope.names x ≡ Some (n.intrinsic j) → IsQuestion may c.scope z.setting x j es k → Goal es
  by gate.Print is q = answered gate.Print refl is q
  by gate.Read is q = answered gate.Read refl is q
  by gate.Ascii is q = answered gate.Ascii refl is q
  by gate.Dascii is q = answered gate.Dascii refl is q
  by gate.Binary is q = answered gate.Binary refl is q
  by gate.Dbinary is q = answered gate.Dbinary refl is q
  by gate.Terminate is q =
      subst Goal (sym (no_value may c.scope z.setting es k q.arguments))
      (same_performs z d k need (statement c (stat.Statement.call x tree.Trees.none at) k) (called at gate.Terminate x nothing)
      (λ s. run h call d number (stat.Statement.call x tree.Trees.none at) k s)
      (λ s. stopping number at s (λ u. value_dropped (served gate.Terminate [] u)))
      (call_code c x tree.Trees.none at k (Some (n.intrinsic gate.Terminate)) is)
      (λ s. stopping_same number at s (λ u. call_statement h call x tree.Trees.none at k u) (λ u. value_dropped (served gate.Terminate [] u))
      (λ u. call_meaning h call x tree.Trees.none at k gate.Terminate is u))
      (terminate_performs z d k need number at x links.gates q.named q.whole))
  by gate.Quit is q =
      let v = quit_value may c.scope z.setting es k q.arguments in
      subst Goal (sym v.1) (quit v.0 v.2 is q (subst (λ (us : Trees). most c.scope.names (tree.Tree.named x us at) + 8 ≤ need) v.1 enough)) where
        quit : (v : Tree) → is_covered may c.scope z.setting v (k + 0) ≡ true → c.scope.names x ≡ Some (n.intrinsic gate.Quit) → IsQuestion may c.scope z.setting x gate.Quit es k
            → most c.scope.names (tree.Tree.named x (tree.Trees.and v tree.Trees.none) at) + 8 ≤ need → Goal (tree.Trees.and v tree.Trees.none)
        quit v there is q room =
            let most_is = call_most c.scope x (tree.Trees.and v tree.Trees.none) at (Some (n.intrinsic gate.Quit)) is in
            let fits : most c.scope.names v + 8 ≤ need = omega (arith, room, most_is) in
            let word = subst (λ (j : ℕ). Simulates z d as_value j (k + 0) need (code c.scope v as_value (k + 0)) (λ s. value h call v (k + 0) s))
            (covered_width may c.scope z.setting v (k + 0) there) (covered_gives may c.scope results z call d v (k + 0) need links there fits) in
            let here = subst (λ (j : ℕ). Simulates z d as_value 1 j need (code c.scope v as_value (k + 0)) (λ s. value h call v (k + 0) s)) (sym (none_more k)) word in
            same_performs z d k need (statement c (stat.Statement.call x (tree.Trees.and v tree.Trees.none) at) k)
            (called at gate.Quit x (code c.scope v as_value (k + 0) ⨟ pieces [] ⨟ nothing))
            (λ s. run h call d number (stat.Statement.call x (tree.Trees.and v tree.Trees.none) at) k s)
            (λ s. stopping number at s (λ u. value_dropped (then_go (then_go (value h call v (k + 0) u) (λ vs t. passed (Some kind.Integer) vs t)) (λ vs t. served gate.Quit vs t))))
            (call_code c x (tree.Trees.and v tree.Trees.none) at k (Some (n.intrinsic gate.Quit)) is)
            (λ s. stopping_same number at s (λ u. call_statement h call x (tree.Trees.and v tree.Trees.none) at k u)
            (λ u. value_dropped (then_go (then_go (value h call v (k + 0) u) (λ vs t. passed (Some kind.Integer) vs t)) (λ vs t. served gate.Quit vs t)))
            (λ u. call_meaning h call x (tree.Trees.and v tree.Trees.none) at k gate.Quit is u
            ∙ ap (λ (o : Outcome (List ℕ)). value_dropped o) (passed_alone (value h call v (k + 0) u) (λ vs t. served gate.Quit vs t))))
            (quit_performs z d k need number at x (code c.scope v as_value (k + 0)) (λ u. value h call v (k + 0) u) links.gates q.named q.whole
            (covered_whole may c.scope z.setting v (k + 0) there) here)
