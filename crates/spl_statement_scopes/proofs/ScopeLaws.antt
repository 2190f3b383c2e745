-- Three levels, of which the first has the results too, show the scope of the statements of the body whose they are.
-- 1. the scope of a body's statements is that of the body with the results it may assign          (statements_of)
-- 2. and so it is seen through the levels                                                        (inner_seen, outer_seen)
use Rattle.std.proofs.Common.{ℕ, ◌≡◌, List, Option, Some, None, refl, sym, ap, ◌∙◌}
use Rattle.std.specs.Prelude.{option_map}
use Rattle.spl_sorts.specs.spl_meaning.Names.{Names, or_else}
use Rattle.spl_tree.specs.DeclarationTrees.{Heading}
use Rattle.spl_sorts.specs.spl_meaning.Bodies.{Body}
use Rattle.spl_module_code.specs.spl_code.Calls.{Scope}
use Rattle.spl_module_code.specs.Bodies.{statements_scope}
use Rattle.spl_module_code.specs.spl_scopes.Entries.{Owner, main, routine, Entry, module_entries}
use Rattle.spl_module_code.specs.spl_scopes.Scopes.{Placed, Which, outer, inner, Results, owner_of, body_in, body_segment, scope_with, scope_in, results_in}
use Rattle.spl_body_scopes.specs.Levels.{Spots, Level, through, inner_level}
use Rattle.spl_body_scopes.specs.Results.{result_of, heading_result, routine_result, results_through}
use Rattle.spl_body_scopes.specs.declared.places.Base.TheVariants as base
use Rattle.spl_body_scopes.specs.Found.{Calls}
use Rattle.spl_body_scopes.proofs.FoundLaws.{shown_through, shows_routine, shows_inner, shows_main, shows_main_inner}
use Rattle.spl_body_scopes.proofs.ScopeLaws.{routine_results, inner_results, main_results, main_inner_results}
use Rattle.spl_statement_scopes.specs.Levels.{no_names, with_results}
use Rattle.spl_statement_scopes.specs.Scopes.{statements_in, StatesRoutine, StatesInner, StatesMain, StatesMainInner}
use Rattle.spl_statement_scopes.proofs.ResultLemmas.{Gives, before, none_gives, inner_gives, seen_before}

-- ---- 1. a body's statements

-- a scope with results behind its places
abbrev with_places : Scope → Results → Scope
with_places s r = record s { places = before s.names s.places r }

-- with another scope and other results that are the same
same_with : (s t : Scope) (q r : Results) → s ≡ t → q ≡ r → with_places s q ≡ with_places t r
same_with s t q r scopes results = ap (λ (u : Scope). with_places u q) scopes ∙ ap (with_places t) results

abbrev scope_or : Scope → Option Scope → Scope
scope_or s None = s
scope_or s (Some t) = t

abbrev results_or : Results → Option Results → Results
results_or r None = r
results_or r (Some q) = q

statements_seen : (es : List Entry) (o : Owner) (q : Option Body) (s : Scope) (r : Results) → option_map (scope_with es o) q ≡ Some s
    → option_map (λ (b : Body). b.here.results) q ≡ Some r → option_map (statements_scope es o) q ≡ Some (with_places s r)
statements_seen es o None s r is results = cc
statements_seen es o (Some b) s r is results =
    ap Some (same_with (scope_with es o b) s b.here.results r (ap (scope_or s) is) (ap (results_or r) results))

statements_of : (p : Placed) (w : Which) (s : Scope) (r : Results) → scope_in p w ≡ Some s → results_in p w ≡ Some r
    → statements_in p w ≡ Some (with_places s r)
statements_of p w s r is results =
    statements_seen (module_entries p.unit (body_segment p.unit (owner_of w))) (owner_of w) (body_in p w) s r is results

-- ---- 2. levels

-- the first of three levels, twice, is seen as one with none before it
twice : {A : Type 0} (a o : List ℕ → Option A) → through a a o ≡ (λ x. or_else (a x) (o x))
twice {A} a o i x = by (a x) (o x) i
  where
    by : (b c : Option A) → or_else b (or_else b c) ≡ or_else b c
    by (Some v) c = refl
    by None c = refl

-- a scope of names, of places and of calls
abbrev scope_of_parts : Names → Spots → Calls → Scope
scope_of_parts names places calls = record { names = names; places = places; procedures = calls.procedures; subroutines = calls.subroutines }

same_parts : (n m : Names) (a b : Spots) (calls : Calls) → n ≡ m → a ≡ b → scope_of_parts n a calls ≡ scope_of_parts m b calls
same_parts n m a b calls names places = ap (λ (k : Names). scope_of_parts k a calls) names ∙ ap (λ (c : Spots). scope_of_parts m c calls) places

-- the first level of them with results
first_seen : (first a b c : Level) (r : Results) (calls : Calls) → Gives a (λ x. or_else (b.names x) (c.names x)) → first ≡ with_results a b c r
    → with_places (shown_through a b c calls) r ≡ shown_through first b c calls
first_seen first a b c r calls gives is =
    same_parts _ _ _ _ calls refl (sym (seen_before a b c r gives)) ∙ ap (λ (l : Level). shown_through l b c calls) (sym is)

-- a subroutine's
inner_seen : (first b c : Level) (sub : Heading) (r : Results) (calls : Calls) → first ≡ with_results (inner_level sub) b c r
    → with_places (shown_through (inner_level sub) b c calls) r ≡ shown_through first b c calls
inner_seen first b c sub r calls is = first_seen first (inner_level sub) b c r calls (inner_gives sub (λ x. or_else (b.names x) (c.names x))) is

-- a procedure's or a main body's
outer_seen : (first b c : Level) (r : Results) (calls : Calls) → first ≡ with_results no_names b c r
    → with_places (shown_through b b c calls) r ≡ shown_through first b c calls
outer_seen first b c r calls is =
    ap (λ (s : Scope). with_places s r) (same_parts _ _ _ _ calls (twice b.names c.names) (twice b.places c.places))
    ∙ first_seen first no_names b c r calls (none_gives (λ x. or_else (b.names x) (c.names x))) is

pub states_routine : (first b c : Level) (calls : Calls) → StatesRoutine first b c calls (shown_through first b c calls)
states_routine first b c calls p s here h items ss ds left is one own globals entries =
    let r = routine_result b.names h in
    statements_of p (outer (routine s.count)) (shown_through b b c calls) r (shows_routine b b c calls p s here h items ss ds left is own own globals entries)
    (routine_results p s here h items ss ds left is ∙ ap (λ (l : Level). Some (routine_result l.names h)) (sym own))
    ∙ ap Some (outer_seen first b c r calls one)

pub states_inner : (first b c : Level) (calls : Calls) → StatesInner first b c calls (shown_through first b c calls)
states_inner first b c calls p s here h items ss ds j sub left is at one own globals entries =
    let r = results_through (heading_result base.Return sub) (routine_result b.names h) in
    let a = inner_level sub in
    statements_of p (inner (routine s.count) j) (shown_through a b c calls) r (shows_inner a b c calls p s here h items ss ds j sub left is at refl own globals entries)
    (inner_results p s here h items ss ds j sub left is at
    ∙ ap (λ (l : Level). Some (results_through (heading_result base.Return sub) (routine_result l.names h))) (sym own))
    ∙ ap Some (inner_seen first b c sub r calls one)

pub states_main : (first b c : Level) (calls : Calls) → StatesMain first b c calls (shown_through first b c calls)
states_main first b c calls p s left is one own globals entries =
    let r = result_of None in
    statements_of p (outer main) (shown_through b b c calls) r (shows_main b b c calls p s left is own own globals entries) (main_results p is)
    ∙ ap Some (outer_seen first b c r calls one)

pub states_main_inner : (first b c : Level) (calls : Calls) → StatesMainInner first b c calls (shown_through first b c calls)
states_main_inner first b c calls p s j sub left is at one own globals entries =
    let r = results_through (heading_result base.Return sub) (result_of None) in
    let a = inner_level sub in
    statements_of p (inner main j) (shown_through a b c calls) r (shows_main_inner a b c calls p s j sub left is at refl own globals entries)
    (main_inner_results p j sub is at) ∙ ap Some (inner_seen first b c sub r calls one)
