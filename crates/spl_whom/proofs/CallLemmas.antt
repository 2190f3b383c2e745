-- Calls of names in a tree, over what is known of their arguments.
use Rattle.std.proofs.Common.{◌≡◌, inr, ℕ, ◌+◌, ◌-◌, ◌≤◌, Bool, true, false, List, refl, sym, ap, subst, ◌∙◌, arith}
use Rattle.std.specs.Prelude.{Option, Some, max, not, ◌&&◌}
use Rattle.std.proofs.lemmas.List.{append-nil}
use Rattle.spl_names.specs.hp_word.declared.intrinsics.Intrinsic.{Intrinsic}
use Rattle.spl_names.specs.hp_word.declared.intrinsics.Intrinsic.TheVariants as gate
use Rattle.spl_names.specs.hp_word.Intrinsics.{parameter_words, answer_words}
use Rattle.spl_names.specs.spl_tree.declared.expressions.Kind.{Kind}
use Rattle.spl_names.specs.spl_tree.declared.names_and_places.At.{At}
use Rattle.spl_names.specs.spl_tree.Trees as tree
use Rattle.spl_names.specs.spl_tree.Trees.{Trees}
use Rattle.spl_links.specs.spl_branch.declared.pieces.Piece.{Piece}
use Rattle.spl_names.specs.spl_meaning.Names as n
use Rattle.spl_names.specs.spl_meaning.Names.{Sort, Profile, intrinsic_named, intrinsic_profile}
use Rattle.spl_names.specs.spl_meaning.Pending.{result_words, formals_words, profile_formals, profile_result_words, return_words, link_words, most, most_of}
use Rattle.spl_names.specs.spl_meaning.Places.{Place}
use Rattle.spl_names.specs.spl_meaning.References.{Setting}
use Rattle.spl_names.specs.spl_meaning.Serving.{served}
use Rattle.spl_names.specs.spl_meaning.States.{State, Outcome, then_go, code_dropped}
use Rattle.spl_names.specs.spl_meaning.Values as run
use Rattle.spl_names.specs.spl_meaning.Values.{Who, Callee, Sense, a_call, procedure, subroutine, sense_of, index, named_value, value}
use Rattle.spl_links.specs.spl_code.Calls.{Scope, called}
use Rattle.spl_links.specs.spl_code.Code as made
use Rattle.spl_links.specs.spl_code.Code.{Aim, as_value, closing, variable, is_indexed, calling, code}
use Rattle.spl_links.specs.spl_code.Parts.{Part, nothing, ◌⨟◌}
use Rattle.spl_links.specs.spl_follow.Standing.{Stands, due_after}
use Rattle.spl_links.specs.spl_follow.Simulating.{Surroundings, Simulates}
use Rattle.spl_links.specs.spl_values.Reached.{IsWhole}
use Rattle.spl_links.proofs.spl_values_proofs.WholeLemmas.{whole_last, same_simulates, last_simulates}
use Rattle.spl_links.proofs.spl_endings_proofs.WantLemmas.{wanted_keeps}
use Rattle.spl_links.specs.spl_intrinsics.Calls.{asked, IsAsked}
use Rattle.spl_links.proofs.spl_intrinsics_proofs.AskLemmas.{asked_whole}
use Rattle.spl_answers.proofs.AnswerLemmas.{answers_give}
use Rattle.spl_links.specs.Laws as law
use Rattle.spl_links.specs.Laws.{HasCode, ArgumentsCode, CanCall, call_value}
use Rattle.spl_links.specs.Links.{MayCall}
use Rattle.spl_links.proofs.CallLemmas.{calls_whole, calls_give}
use Rattle.spl_names.specs.Names.{read_with}
use Rattle.spl_whom.specs.Whom.{IsCalled, a_procedure, a_subroutine, an_intrinsic, profile_called}
use Rattle.spl_whom.specs.Laws.{NamedCallsAreWhole, NamedCallsSimulate}
use Rattle.spl_whom.proofs.NameLemmas.{answer_wide, parameters_wide, giving_answers, called_is}

-- ---- nothing behind code

pub bare_whole : (a : Part) → IsWhole (a ⨟ nothing) → IsWhole a
bare_whole a x = record {
  closed = λ l ws. ap (λ (ps : List Piece). due_after true ps) (sym (append-nil (a l ws).pieces)) ∙ x.closed l ws;
  keeps = λ l ws. x.keeps l ws;
}

pub bare_simulates : (z : Surroundings) (d n k need : ℕ) (a : Part) (f : State → Outcome (List ℕ)) → Simulates z d as_value n k need (a ⨟ nothing) f
    → Simulates z d as_value n k need a f
bare_simulates z d n k need a f x = record {
  does = λ h ws p q s l m stands front ready.
      x.does h ws p q s l m (subst (λ (ps : List Piece). Stands z.ground z.sites p ps q) (sym (append-nil (a h ws).pieces)) stands) front ready;
}

-- both of two tests hold
both_true : (a b : Bool) → a ≡ true → b ≡ true → (a && b) ≡ true
both_true a b x y = ap (λ (c : Bool). c && b) x ∙ y

-- ---- the code

-- of a call of a procedure or a subroutine
called_code : (c : Scope) (x : List ℕ) (es : Trees) (at : At) (aim : Aim) (k : ℕ) (who : Who) (p : Profile) → sense_of x (c.names x) ≡ a_call who p
    → code c (tree.Tree.named x es at) aim k ≡ calling p (made.arguments c p.formals es (k + result_words p)) (called c who) ⨟ closing aim
called_code c x es at aim k who p is =
    ap (λ (s : Sense). made.named c x s (λ q. made.arguments c q.formals es (k + result_words q)) (made.index c es false k ⨟ variable c x (is_indexed es) k) ⨟ closing aim) is

-- and of an intrinsic
pub asked_code : (c : Scope) (x : List ℕ) (es : Trees) (at : At) (aim : Aim) (k : ℕ) (i : Intrinsic) → c.names x ≡ Some (n.intrinsic i)
    → code c (tree.Tree.named x es at) aim k ≡ asked i x (made.arguments c (intrinsic_profile i).formals es (k + result_words (intrinsic_profile i))) ⨟ closing aim
asked_code c x es at aim k i is =
    ap (λ (o : Option Sort). made.named c x (sense_of x o) (λ q. made.arguments c q.formals es (k + result_words q)) (made.index c es false k ⨟ variable c x (is_indexed es) k) ⨟ closing aim) is

-- what an intrinsic is given has code, or it would be none
asked_bare : (i : Intrinsic) (x : List ℕ) (a : Part) → 1 ≤ answer_words i → HasCode a → IsWhole (asked i x a)
asked_bare i x a some (law.HasCode.some closed) = bare_whole (asked i x a) (asked_whole i x a closed)
asked_bare gate.Read x a some law.HasCode.none = record { closed = λ l ws. refl; keeps = λ l ws. wanted_keeps x true ws }
asked_bare gate.Ascii x a some law.HasCode.none = record { closed = λ l ws. refl; keeps = λ l ws. wanted_keeps x true ws }
asked_bare gate.Dascii x a some law.HasCode.none = record { closed = λ l ws. refl; keeps = λ l ws. wanted_keeps x true ws }
asked_bare gate.Binary x a some law.HasCode.none = record { closed = λ l ws. refl; keeps = λ l ws. wanted_keeps x true ws }
asked_bare gate.Dbinary x a some law.HasCode.none = record { closed = λ l ws. refl; keeps = λ l ws. wanted_keeps x true ws }
asked_bare gate.Print x a some law.HasCode.none = absurd (omega (arith, some))
asked_bare gate.Terminate x a some law.HasCode.none = absurd (omega (arith, some))
asked_bare gate.Quit x a some law.HasCode.none = absurd (omega (arith, some))

-- it is whole as far as what is behind it is
called_whole : (c : Scope) (x : List ℕ) (es : Trees) (at : At) (aim : Aim) (k : ℕ) (who : Who) (p : Profile) → sense_of x (c.names x) ≡ a_call who p
    → 1 ≤ result_words p → ((a : Part) → IsWhole a → IsWhole (a ⨟ closing aim)) → HasCode (made.arguments c p.formals es (k + result_words p))
    → IsWhole (code c (tree.Tree.named x es at) aim k)
called_whole c x es at aim k who p is some closes arguments =
    subst (λ (a : Part). IsWhole a) (sym (called_code c x es at aim k who p is))
    (closes (calling p (made.arguments c p.formals es (k + result_words p)) (called c who))
    (calls_whole c p who (made.arguments c p.formals es (k + result_words p)) arguments (inr some)))

pub call_whole : (may : Who → Bool) (c : Scope) (st : Setting) (x : List ℕ) (es : Trees) (at : At) (aim : Aim) (k words : ℕ)
    → (r : IsCalled may st x (c.names x) words) → 1 ≤ words → ((a : Part) → IsWhole a → IsWhole (a ⨟ closing aim))
    → HasCode (made.arguments c (profile_called r).formals es (k + result_words (profile_called r))) → IsWhole (code c (tree.Tree.named x es at) aim k)
call_whole may c st x es at aim k words (a_procedure p is allowed whole wide) some closes arguments =
    called_whole c x es at aim k (procedure x) p (ap (λ (o : Option Sort). sense_of x o) is) (omega (arith, some, wide)) closes arguments
call_whole may c st x es at aim k words (a_subroutine p is allowed wide) some closes arguments =
    called_whole c x es at aim k (subroutine x) p (ap (λ (o : Option Sort). sense_of x o) is) (omega (arith, some, wide)) closes arguments
call_whole may c st x es at aim k words (an_intrinsic i is named whole wide) some closes arguments =
    let args = made.arguments c (intrinsic_profile i).formals es (k + result_words (intrinsic_profile i)) in
    subst (λ (a : Part). IsWhole a) (sym (asked_code c x es at aim k i is)) (closes (asked i x args) (asked_bare i x args (omega (arith, some, wide)) arguments))

-- ---- room

-- what a call waits for
pub call_room : (may : Who → Bool) (c : Scope) (st : Setting) (x : List ℕ) (es : Trees) (at : At) (words : ℕ) (r : IsCalled may st x (c.names x) words)
    → most c.names (tree.Tree.named x es at)
    ≡ max (most_of c.names (profile_called r).formals (result_words (profile_called r)) es)
    (result_words (profile_called r) + formals_words (profile_called r).formals + link_words (c.names x))
call_room may c st x es at words r =
    ap (λ (o : Option Profile). max (most_of c.names (profile_formals o) (profile_result_words o) es)
    (profile_result_words o + formals_words (profile_formals o) + link_words (c.names x))) (called_is may st x (c.names x) words r)

-- ---- its meaning

-- what an intrinsic is asked, by its arguments
pub asked_is : (may : Who → Bool) (c : Scope) (z : Surroundings) (call : Callee) (d k need : ℕ) (i : Intrinsic) (x : List ℕ) (a : Part)
    (words : State → Outcome (List ℕ)) → MayCall may c z d call → z.setting.split ≡ false → intrinsic_named x ≡ Some i → 1 ≤ answer_words i
    → result_words (intrinsic_profile i) + formals_words (intrinsic_profile i).formals ≤ need
    → ArgumentsCode (intrinsic_profile i) z d k (need - result_words (intrinsic_profile i)) a words → IsAsked z d k need i x a words
asked_is may c z call d k need i x a words links whole named some fits (law.ArgumentsCode.none free is) =
    let wide = parameters_wide i in
    let takes = (giving_answers i some).1 in absurd (omega (arith, free, wide, takes))
asked_is may c z call d k need i x a words links whole named some fits (law.ArgumentsCode.some closed sim) =
    let gives = answer_wide i in
    let takes = parameters_wide i in
    record {
      answered = (giving_answers i some).0;
      gates = links.gates;
      named = named;
      whole = whole;
      closed = closed;
      more = need - result_words (intrinsic_profile i);
      enough = omega (arith, gives, fits);
      room = omega (arith, gives, takes, fits);
      simulates =
          subst (λ (j : ℕ). Simulates z d as_value (parameter_words i) (k + j) (need - result_words (intrinsic_profile i)) a words) gives
          (subst (λ (j : ℕ). Simulates z d as_value j (k + result_words (intrinsic_profile i)) (need - result_words (intrinsic_profile i)) a words) takes sim);
    }

-- and who is called
called_gives : (may : Who → Bool) (c : Scope) (results : List ℕ → Option (Kind × Place)) (z : Surroundings) (call : Callee) (d : ℕ) (x : List ℕ)
    (es : Trees) (at : At) (aim : Aim) (k need words : ℕ) (who : Who) (p : Profile) → MayCall may c z d call → sense_of x (c.names x) ≡ a_call who p
    → CanCall may c z.setting.split who p → result_words p ≡ words → 1 ≤ words
    → max (most_of c.names p.formals (result_words p) es) (result_words p + formals_words p.formals + return_words) + 8 ≤ need
    → ((a : Part) (f : State → Outcome (List ℕ)) → IsWhole a → Simulates z d as_value words k need a f → Simulates z d aim words k need (a ⨟ closing aim) f)
    → HasCode (made.arguments c p.formals es (k + result_words p))
    → ArgumentsCode p z d k (need - result_words p) (made.arguments c p.formals es (k + result_words p))
    (λ s. run.arguments (read_with c results z.setting) call p.formals es (k + result_words p) s)
    → Simulates z d aim words k need (code c (tree.Tree.named x es at) aim k) (λ s. value (read_with c results z.setting) call (tree.Tree.named x es at) k s)
called_gives may c results z call d x es at aim k need words who p links is can wide some enough closes has arguments =
    let h = read_with c results z.setting in
    let args = made.arguments c p.formals es (k + result_words p) in
    let meant : State → Outcome (List ℕ) = λ s. run.arguments h call p.formals es (k + result_words p) s in
    same_simulates z d aim words k need (code c (tree.Tree.named x es at) aim k) (calling p args (called c who) ⨟ closing aim)
    (λ s. value h call (tree.Tree.named x es at) k s) (λ s. call_value call who k meant s) (called_code c x es at aim k who p is)
    (λ s. ap (λ (q : Sense). named_value h x q (λ s1. index h call es k s1) (λ q s1. run.arguments h call q.formals es (k + result_words q) s1) call k s) is)
    (closes (calling p args (called c who)) (λ s. call_value call who k meant s) (calls_whole c p who args has (inr (omega (arith, some, wide))))
    (subst (λ (j : ℕ). Simulates z d as_value j k need (calling p args (called c who)) (λ s. call_value call who k meant s)) wide
    (calls_give may c z d call who p k need (need - result_words p) args meant links can (omega (arith, some, wide)) arguments
    (omega (arith, enough)) (omega (arith, enough)))))

-- a call simulates what it means
pub call_simulates : (may : Who → Bool) (c : Scope) (results : List ℕ → Option (Kind × Place)) (z : Surroundings) (call : Callee) (d : ℕ) (x : List ℕ)
    (es : Trees) (at : At) (aim : Aim) (k need words : ℕ) → MayCall may c z d call → (r : IsCalled may z.setting x (c.names x) words) → 1 ≤ words
    → most c.names (tree.Tree.named x es at) + 8 ≤ need
    → ((a : Part) (f : State → Outcome (List ℕ)) → IsWhole a → Simulates z d as_value words k need a f → Simulates z d aim words k need (a ⨟ closing aim) f)
    → HasCode (made.arguments c (profile_called r).formals es (k + result_words (profile_called r)))
    → ArgumentsCode (profile_called r) z d k (need - result_words (profile_called r))
    (made.arguments c (profile_called r).formals es (k + result_words (profile_called r)))
    (λ s. run.arguments (read_with c results z.setting) call (profile_called r).formals es (k + result_words (profile_called r)) s)
    → Simulates z d aim words k need (code c (tree.Tree.named x es at) aim k) (λ s. value (read_with c results z.setting) call (tree.Tree.named x es at) k s)
call_simulates may c results z call d x es at aim k need words links (a_procedure p is allowed whole wide) some enough closes has arguments =
    let waits = call_room may c z.setting x es at words (a_procedure p is allowed whole wide) in
    let link : link_words (c.names x) ≡ 4 = ap link_words is in
    called_gives may c results z call d x es at aim k need words (procedure x) p links (ap (λ (o : Option Sort). sense_of x o) is)
    (record { allowed = both_true (may (procedure x)) (not z.setting.split) allowed (ap not whole); named = is }) wide some (omega (arith, waits, link, enough))
    closes has arguments
call_simulates may c results z call d x es at aim k need words links (a_subroutine p is allowed wide) some enough closes has arguments =
    let waits = call_room may c z.setting x es at words (a_subroutine p is allowed wide) in
    let link : link_words (c.names x) ≡ 1 = ap link_words is in
    called_gives may c results z call d x es at aim k need words (subroutine x) p links (ap (λ (o : Option Sort). sense_of x o) is)
    (record { allowed = allowed; named = is }) wide some (omega (arith, waits, link, enough)) closes has arguments
call_simulates may c results z call d x es at aim k need words links (an_intrinsic i is named whole wide) some enough closes has arguments =
    let h = read_with c results z.setting in
    let p = intrinsic_profile i in
    let args = made.arguments c p.formals es (k + result_words p) in
    let meant : State → Outcome (List ℕ) = λ s. code_dropped (then_go (run.arguments h call p.formals es (k + result_words p) s) (λ ws t. served i ws t)) in
    let waits = call_room may c z.setting x es at words (an_intrinsic i is named whole wide) in
    same_simulates z d aim words k need (code c (tree.Tree.named x es at) aim k) (asked i x args ⨟ closing aim)
    (λ s. value h call (tree.Tree.named x es at) k s) meant (asked_code c x es at aim k i is)
    (λ s. ap (λ (o : Option Sort). named_value h x (sense_of x o) (λ s1. index h call es k s1) (λ q s1. run.arguments h call q.formals es (k + result_words q) s1) call k s) is)
    (closes (asked i x args) meant (asked_bare i x args (omega (arith, some, wide)) has)
    (subst (λ (j : ℕ). Simulates z d as_value j k need (asked i x args) meant) wide
    (bare_simulates z d (answer_words i) k need (asked i x args) meant
    (answers_give z d k need i x args (λ s. run.arguments h call p.formals es (k + result_words p) s)
    (asked_is may c z call d k need i x args (λ s. run.arguments h call p.formals es (k + result_words p) s) links whole named (omega (arith, some, wide))
    (omega (arith, waits, enough)) arguments)))))

-- ---- values

-- nothing is behind a value
pub named_whole : NamedCallsAreWhole
named_whole may c st x es at k words r some has = call_whole may c st x es at as_value k words r some (λ a x. whole_last a x) has

pub named_gives : NamedCallsSimulate
named_gives may c results z call d x es at k need words links r some enough has arguments =
    call_simulates may c results z call d x es at as_value k need words links r some enough (λ a f whole sim. last_simulates z d as_value words k need a f sim)
    has arguments
