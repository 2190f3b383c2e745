-- FOR in a tree, over the code of its body.
use Rattle.std.proofs.Common.{◌≡◌, ℕ, suc, ◌+◌, ◌-◌, ◌≤◌, Bool, true, false, List, [], ◌∷◌, refl, sym, ap, subst, ◌∙◌, arith}
use Rattle.std.specs.Prelude.{Option, Some, None, ◌&&◌, not}
use Rattle.std.proofs.lemmas.Bool.{false≢true, not-true}
use Rattle.spl_counts.specs.hp_instr.declared.instruction.Mode.{Mode}
use Rattle.spl_counts.specs.spl_tree.declared.expressions.Kind.{Kind}
use Rattle.spl_counts.specs.spl_tree.declared.expressions.Kind.TheVariants as kind
use Rattle.spl_counts.specs.spl_tree.declared.names_and_places.At.{At}
use Rattle.spl_counts.specs.spl_tree.Trees as tree
use Rattle.spl_counts.specs.spl_tree.Trees.{Tree, Trees}
use Rattle.spl_counts.specs.spl_tree.StatementTrees as stat
use Rattle.spl_counts.specs.spl_tree.StatementTrees.{Statement}
use Rattle.spl_counts.specs.spl_branch.declared.pieces.Piece.{Piece}
use Rattle.spl_counts.specs.spl_branch.declared.pieces.Piece.TheVariants.{Begin}
use Rattle.spl_counts.specs.spl_meaning.Elements.{with_one}
use Rattle.spl_counts.specs.spl_meaning.Names as n
use Rattle.spl_counts.specs.spl_meaning.Names.{Sort}
use Rattle.spl_counts.specs.spl_meaning.Pending.{most, trees_most}
use Rattle.spl_counts.specs.spl_meaning.Places.{Place}
use Rattle.spl_counts.specs.spl_meaning.References.{Here, Setting, Access, Located, its_own, by_address, access_of, address_of, variable_located, element_address, element_located, own_located, led_located, locate, locate_by, word_at, store}
use Rattle.spl_counts.specs.spl_meaning.States.{State, Outcome, done, then_go, stopping, code_dropped}
use Rattle.spl_counts.specs.spl_meaning.Statements as meant
use Rattle.spl_counts.specs.spl_meaning.Statements.{loop_step, for_loop, run}
use Rattle.spl_counts.specs.spl_meaning.Values.{Who, Callee, value}
use Rattle.spl_counts.specs.spl_code.Calls.{Scope}
use Rattle.spl_counts.specs.spl_code.Code.{as_value, code}
use Rattle.spl_counts.specs.spl_code.Instructions.{LDI}
use Rattle.spl_counts.specs.spl_code.Operands.{at_place, mode_of}
use Rattle.spl_counts.specs.spl_code.Parts.{Part, pieces, piece, ◌⨟◌}
use Rattle.spl_counts.specs.spl_code.Stores.{from_top}
use Rattle.spl_counts.specs.spl_statement_code.Landings.{Context}
use Rattle.spl_counts.specs.spl_statement_code.Statements.{statement, counter_at, counter, step_value, turns}
use Rattle.spl_counts.specs.spl_follow.Standing.{IsClosed}
use Rattle.spl_counts.specs.spl_follow.Simulating.{Surroundings, Simulates, Performs}
use Rattle.spl_counts.specs.spl_values.Reached.{is_seen, IsWhole}
use Rattle.spl_counts.proofs.spl_values_proofs.ConstantLemmas.{constants_give}
use Rattle.spl_counts.proofs.spl_values_proofs.VariableLemmas.{both}
use Rattle.spl_counts.proofs.spl_values_proofs.WholeLemmas.{whole_pieces, then_same}
use Rattle.spl_moved.specs.spl_covered.Covered.{is_covered}
use Rattle.spl_moved.specs.spl_links.Links.{MayCall}
use Rattle.spl_moved.specs.spl_names.Names.{read_with}
use Rattle.spl_moved.proofs.spl_covered_proofs.CoverLemmas.{covered_whole}
use Rattle.spl_calls.proofs.spl_targets_proofs.TargetLemmas.{word_given}
use Rattle.spl_calls.proofs.spl_targets_proofs.SameLemmas.{stopping_same, same_performs}
use Rattle.spl_moved.proofs.spl_covered_proofs.ArgumentLemmas.{behind_both}
use Rattle.spl_counts.specs.Laws.{leaving_at_most, Heads, own_head, passed_head}
use Rattle.spl_counts.proofs.HeadLemmas.{own_heads, passed_heads}
use Rattle.spl_counts.proofs.CountLemmas.{code_of, counts, count_whole}
use Rattle.spl_stores.specs.Covered.{is_counted_name, is_covered_step, is_covered_statement}

-- ---- the parts

-- a FOR that is covered, by its parts
pub record ForParts (may : Who → Bool) (returns : Bool) (c : Scope) (results : List ℕ → Option (Kind × Place)) (st : Setting) (x : List ℕ) (a : Tree) (b : Trees) (v : Tree) (s : Statement) (k : ℕ) : Type 0 where
  pub counted : is_counted_name st k (c.names x) (c.places x) ≡ true
  pub first : is_covered may c st a k ≡ true
  pub step : is_covered_step may c st b (k + 1) ≡ true
  pub last : is_covered may c st v (k + 2) ≡ true
  pub inside : is_covered_statement may returns c results st s (k + 3) ≡ true

pub for_parts : (may : Who → Bool) (returns : Bool) (c : Scope) (results : List ℕ → Option (Kind × Place)) (st : Setting) (x : List ℕ) (first : Tree) (step : Trees) (last : Tree) (s : Statement) (k : ℕ)
    → (is_counted_name st k (c.names x) (c.places x) && is_covered may c st first k && is_covered_step may c st step (k + 1) && is_covered may c st last (k + 2)
    && is_covered_statement may returns c results st s (k + 3)) ≡ true → ForParts may returns c results st x first step last s k
for_parts may returns c results st x first step last s k e =
    let a = both (is_counted_name st k (c.names x) (c.places x) && is_covered may c st first k && is_covered_step may c st step (k + 1) && is_covered may c st last (k + 2))
    (is_covered_statement may returns c results st s (k + 3)) e in
    let b = both (is_counted_name st k (c.names x) (c.places x) && is_covered may c st first k && is_covered_step may c st step (k + 1)) (is_covered may c st last (k + 2)) a.0 in
    let d = both (is_counted_name st k (c.names x) (c.places x) && is_covered may c st first k) (is_covered_step may c st step (k + 1)) b.0 in
    let f = both (is_counted_name st k (c.names x) (c.places x)) (is_covered may c st first k) d.0 in
    record { counted = f.0; first = f.1; step = d.1; last = b.1; inside = a.1 }

-- ---- the variable

-- how a variable that counts is found: by words of its own, or in no split mode by its word
data IsWay (st : Setting) : Access → Type 0 where
  own : IsWay st (its_own kind.Integer)
  passed : st.split ≡ false → IsWay st (by_address kind.Integer)

-- an INTEGER variable, where it is seen
record IsCounter (st : Setting) (k : ℕ) (o : Option Sort) (pl : Option Place) : Type 0 where
  place : Place
  way : Access
  sort : IsWay st way
  access : access_of o ≡ way
  is : pl ≡ Some place
  seen : is_seen st k place ≡ true

counter_case : (st : Setting) (k : ℕ) (o : Option Sort) (pl : Option Place) → is_counted_name st k o pl ≡ true → IsCounter st k o pl
counter_case st k (Some (n.simple kind.Integer mine)) (Some place) e =
    record { place = place; way = its_own kind.Integer; sort = own; access = refl; is = refl; seen = e }
counter_case st k (Some (n.value kind.Integer)) (Some place) e =
    record { place = place; way = its_own kind.Integer; sort = own; access = refl; is = refl; seen = e }
counter_case st k (Some (n.by_reference kind.Integer)) (Some place) e =
    let two = both (not st.split) (is_seen st k place) e in
    record { place = place; way = by_address kind.Integer; sort = passed (not-true st.split two.0); access = refl; is = refl; seen = two.1 }
counter_case st k (Some (n.simple kind.Integer mine)) None e = absurd (false≢true e)
counter_case st k (Some (n.value kind.Integer)) None e = absurd (false≢true e)
counter_case st k (Some (n.by_reference kind.Integer)) None e = absurd (false≢true (both (not st.split) false e).1)
counter_case st k (Some (n.simple kind.Logical mine)) pl e = absurd (false≢true e)
counter_case st k (Some (n.simple kind.Byte mine)) pl e = absurd (false≢true e)
counter_case st k (Some (n.simple kind.Double mine)) pl e = absurd (false≢true e)
counter_case st k (Some (n.value kind.Logical)) pl e = absurd (false≢true e)
counter_case st k (Some (n.value kind.Byte)) pl e = absurd (false≢true e)
counter_case st k (Some (n.value kind.Double)) pl e = absurd (false≢true e)
counter_case st k (Some (n.by_reference kind.Logical)) pl e = absurd (false≢true e)
counter_case st k (Some (n.by_reference kind.Byte)) pl e = absurd (false≢true e)
counter_case st k (Some (n.by_reference kind.Double)) pl e = absurd (false≢true e)
counter_case st k None pl e = absurd (false≢true e)
counter_case st k (Some (n.equate v)) pl e = absurd (false≢true e)
counter_case st k (Some (n.array t mine low high)) pl e = absurd (false≢true e)
counter_case st k (Some (n.view t mine base)) pl e = absurd (false≢true e)
counter_case st k (Some (n.pointer t mine)) pl e = absurd (false≢true e)
counter_case st k (Some (n.array_parameter t)) pl e = absurd (false≢true e)
counter_case st k (Some n.label) pl e = absurd (false≢true e)
counter_case st k (Some (n.intrinsic i)) pl e = absurd (false≢true e)
counter_case st k (Some (n.procedure p)) pl e = absurd (false≢true e)
counter_case st k (Some (n.subroutine p)) pl e = absurd (false≢true e)
counter_case st k (Some n.unknown) pl e = absurd (false≢true e)

-- its code
counter_code : (c : Scope) (st : Setting) (x : List ℕ) (k : ℕ) (r : IsCounter st k (c.names x) (c.places x))
    → counter c x k ≡ counter_at r.way (from_top r.place) (mode_of k r.place)
counter_code c st x k r =
    ap (λ (a : Access). at_place (c.places x) (λ place. counter_at a (from_top place) (mode_of k place))) r.access
    ∙ ap (λ (o : Option Place). at_place o (λ place. counter_at r.way (from_top place) (mode_of k place))) r.is

-- which closes, and stores and leaves the address
way_closed : (st : Setting) (w : Access) (moved : Bool) (mode : Mode) → IsWay st w → IsClosed (counter_at w moved mode)
way_closed st w true mode own = refl
way_closed st w false mode own = refl
way_closed st w true mode (passed whole) = refl
way_closed st w false mode (passed whole) = refl

head_of : {st : Setting} {w : Access} → IsWay st w → Place → List ℕ → State → Outcome ℕ
head_of own place vs s = own_head place vs s
head_of (passed whole) place vs s = passed_head place vs s

heads_of : (z : Surroundings) (w : Access) (k : ℕ) (place : Place) (i : IsWay z.setting w) → is_seen z.setting k place ≡ true
    → Heads z k (counter_at w (from_top place) (mode_of k place)) (head_of i place)
unfolding head_of
heads_of z w k place own seen = own_heads z k place seen
heads_of z w k place (passed whole) seen = passed_heads z k place seen whole

-- as the run does
head_is : (st : Setting) (w : Access) (i : IsWay st w) (h : Here) (x : List ℕ) (place : Place) (vs : List ℕ) (v : State)
    (go : Located → State → Outcome (Unit {0})) → h.places x ≡ Some place
    → then_go (locate_by h x w None v) (λ p t. then_go (store p vs t) (λ u r. go p r)) ≡ then_go (head_of i place vs v) (λ a r. go (variable_located kind.Integer a) r)
unfolding head_of
head_is st w own h x place vs v go is =
    ap (λ (o : Option Place). then_go (own_located kind.Integer o None v) (λ p t. then_go (store p vs t) (λ u r. go p r))) is
    ∙ sym (behind_both (store (variable_located kind.Integer (address_of place v.now)) vs v) (λ u t. address_left (address_of place v.now) t)
    (λ a r. go (variable_located kind.Integer a) r)) where
      address_left : ℕ → State → Outcome ℕ
      address_left a t = done a t
head_is st w (passed whole) h x place vs v go is =
    ap (λ (o : Option Place). then_go (led_located false kind.Integer o 0 v) (λ p t. then_go (store p vs t) (λ u r. go p r))) is
    ∙ behind_both (word_at false (address_of place v.now) v) (λ cell t. located_at cell t) (λ p t. then_go (store p vs t) (λ u r. go p r))
    ∙ then_same (word_at false (address_of place v.now) v) (λ cell t. then_go (store (element_located false kind.Integer cell 0) vs t) (λ u r. go (element_located false kind.Integer cell 0) r))
    (λ cell t. then_go (then_go (store (element_located false kind.Integer cell 0) vs t) (λ u r. address_left (element_address kind.Integer cell 0) r))
    (λ a r. go (variable_located kind.Integer a) r))
    (λ cell t. sym (behind_both (store (element_located false kind.Integer cell 0) vs t) (λ u r. address_left (element_address kind.Integer cell 0) r)
    (λ a r. go (variable_located kind.Integer a) r)))
    ∙ sym (behind_both (word_at false (address_of place v.now) v)
    (λ cell t. then_go (store (element_located false kind.Integer cell 0) vs t) (λ u r. address_left (element_address kind.Integer cell 0) r))
    (λ a r. go (variable_located kind.Integer a) r)) where
      address_left : ℕ → State → Outcome ℕ
      address_left a t = done a t

      located_at : ℕ → State → Outcome Located
      located_at cell t = done (element_located false kind.Integer cell 0) t

-- ---- the step

-- 1 where there is none
step_whole : (may : Who → Bool) (c : Scope) (st : Setting) (step : Trees) (k : ℕ) → is_covered_step may c st step k ≡ true → IsWhole (step_value c step k)
step_whole may c st tree.Trees.none k e = whole_pieces (LDI 1 ∷ []) refl
step_whole may c st (tree.Trees.and v vs) k e = covered_whole may c st v k e

step_gives : (may : Who → Bool) (c : Scope) (results : List ℕ → Option (Kind × Place)) (z : Surroundings) (call : Callee) (d : ℕ) (step : Trees) (k need : ℕ)
    → MayCall may c z d call → is_covered_step may c z.setting step k ≡ true → trees_most c.names step + 8 ≤ need
    → Simulates z d as_value 1 k need (step_value c step k) (λ s. loop_step (read_with c results z.setting) call step k s)
step_gives may c results z call d tree.Trees.none k need links covered enough = constants_give z d k need 1 (omega arith) (omega (arith, enough))
step_gives may c results z call d (tree.Trees.and v vs) k need links covered enough = word_given may c results z call d v k need links covered (omega (arith, enough))

-- ---- the whole

-- the code of a FOR whose variable is covered
for_code : (c : Context) (st : Setting) (x : List ℕ) (first : Tree) (step : Trees) (last : Tree) (s : Statement) (at : At) (k : ℕ)
    (r : IsCounter st k (c.scope.names x) (c.scope.places x))
    → statement c (stat.Statement.for_values x first step last s at) k
    ≡ code_of (counter_at r.way (from_top r.place) (mode_of k r.place)) (code c.scope first as_value k) (step_value c.scope step (k + 1)) (code c.scope last as_value (k + 2)) (statement c s (k + 3)) at
for_code c st x first step last s at k r =
    ap (λ (ps : List Piece). piece (Begin at) ⨟ (code c.scope first as_value k ⨟ pieces ps ⨟ step_value c.scope step (k + 1) ⨟ code c.scope last as_value (k + 2))
    ⨟ turns (statement c s (k + 3))) (counter_code c.scope st x k r)

pub for_whole : (may : Who → Bool) (c : Context) (st : Setting) (x : List ℕ) (first : Tree) (step : Trees) (last : Tree) (s : Statement) (at : At) (k : ℕ)
    → is_counted_name st k (c.scope.names x) (c.scope.places x) ≡ true → is_covered may c.scope st first k ≡ true → is_covered_step may c.scope st step (k + 1) ≡ true
    → is_covered may c.scope st last (k + 2) ≡ true → IsWhole (statement c s (k + 3)) → IsWhole (statement c (stat.Statement.for_values x first step last s at) k)
for_whole may c st x first step last s at k counter' first' step' last' whole =
    let r = counter_case st k (c.scope.names x) (c.scope.places x) counter' in
    subst (λ (a : Part). IsWhole a) (sym (for_code c st x first step last s at k r))
    (count_whole (counter_at r.way (from_top r.place) (mode_of k r.place)) (code c.scope first as_value k) (step_value c.scope step (k + 1)) (code c.scope last as_value (k + 2))
    (statement c s (k + 3)) at (way_closed st r.way (from_top r.place) (mode_of k r.place) r.sort)
    (covered_whole may c.scope st first k first') (step_whole may c.scope st step (k + 1) step') (covered_whole may c.scope st last (k + 2) last') whole)

-- what is meant behind the variable's location
abbrev behind_location : Here → Callee → ℕ → Trees → Tree → (State → Outcome (Unit {0})) → ℕ → Located → State → Outcome (Unit {0})
behind_location h call d step last body k p s3 =
    then_go (loop_step h call step (k + 1) s3) (λ us s4. then_go (value h call last (k + 2) s4) (λ ws s5.
    with_one us s5 (λ u s6. with_one ws s6 (λ w s7. meant.counting (suc d) p u w body s7))))

-- the meaning of a FOR whose variable is covered
for_is : (c : Scope) (results : List ℕ → Option (Kind × Place)) (st : Setting) (call : Callee) (d : ℕ) (x : List ℕ) (first : Tree) (step : Trees) (last : Tree)
    (body : State → Outcome (Unit {0})) (k : ℕ) (r : IsCounter st k (c.names x) (c.places x)) (u : State)
    → for_loop (read_with c results st) call d x first step last body k u
    ≡ then_go (value (read_with c results st) call first k u)
    (λ vs v. then_go (head_of r.sort r.place vs v) (λ a t. behind_location (read_with c results st) call d step last body k (variable_located kind.Integer a) t))
for_is c results st call d x first step last body k r u =
    then_same (value h call first k u) (λ vs v. then_go (locate h x None v) (λ p t. then_go (store p vs t) (λ z w. behind_location h call d step last body k p w)))
    (λ vs v. then_go (head_of r.sort r.place vs v) (λ a t. behind_location h call d step last body k (variable_located kind.Integer a) t))
    (λ vs v. ap (λ (a : Access). then_go (locate_by h x a None v) (λ p t. then_go (store p vs t) (λ z w. behind_location h call d step last body k p w))) r.access
    ∙ head_is st r.way r.sort h x r.place vs v (λ p w. behind_location h call d step last body k p w) r.is) where
      h : Here
      h = read_with c results st

pub for_performs : (may : Who → Bool) (c : Context) (results : List ℕ → Option (Kind × Place)) (z : Surroundings) (call : Callee) (d number : ℕ) (x : List ℕ) (first : Tree)
    (step : Trees) (last : Tree) (s : Statement) (at : At) (k need : ℕ) → MayCall may c.scope z d call → is_counted_name z.setting k (c.scope.names x) (c.scope.places x) ≡ true
    → is_covered may c.scope z.setting first k ≡ true → is_covered_step may c.scope z.setting step (k + 1) ≡ true → is_covered may c.scope z.setting last (k + 2) ≡ true
    → most c.scope.names first + 8 ≤ need → trees_most c.scope.names step + 8 ≤ need - 1 → most c.scope.names last + 8 ≤ need - 2 → 8 ≤ need - 3
    → IsWhole (statement c s (k + 3))
    → Performs (leaving_at_most k z) d (k + 3) (need - 3) (statement c s (k + 3)) (λ t. run (read_with c.scope results z.setting) call d (number + 1) s (k + 3) t)
    → Performs z d k need (statement c (stat.Statement.for_values x first step last s at) k)
    (λ t. run (read_with c.scope results z.setting) call d number (stat.Statement.for_values x first step last s at) k t)
for_performs may c results z call d number x first step last s at k need links counter' first' step' last' few1 few2 few3 few4 whole performs =
    let r = counter_case z.setting k (c.scope.names x) (c.scope.places x) counter' in
    let h = read_with c.scope results z.setting in
    let a = code c.scope first as_value k in
    let b = step_value c.scope step (k + 1) in
    let e = code c.scope last as_value (k + 2) in
    let body = λ (t : State). run h call d (number + 1) s (k + 3) t in
    same_performs z d k need (statement c (stat.Statement.for_values x first step last s at) k) (code_of (counter_at r.way (from_top r.place) (mode_of k r.place)) a b e (statement c s (k + 3)) at)
    (λ t. run h call d number (stat.Statement.for_values x first step last s at) k t)
    (λ t. stopping number at t (λ u. then_go (value h call first k u)
    (λ vs v. then_go (head_of r.sort r.place vs v)
    (λ y w. behind_location h call d step last (λ w. code_dropped (body w)) k (variable_located kind.Integer y) w))))
    (for_code c z.setting x first step last s at k r)
    (λ t. stopping_same number at t (λ u. for_loop h call d x first step last (λ w. code_dropped (body w)) k u)
    (λ u. then_go (value h call first k u)
    (λ vs v. then_go (head_of r.sort r.place vs v)
    (λ y w. behind_location h call d step last (λ w. code_dropped (body w)) k (variable_located kind.Integer y) w)))
    (for_is c.scope results z.setting call d x first step last (λ w. code_dropped (body w)) k r))
    (counts z d k need (need - 1) (need - 2) (need - 3) number at (counter_at r.way (from_top r.place) (mode_of k r.place)) (head_of r.sort r.place) a b e (statement c s (k + 3)) (λ t. value h call first k t) (λ t. loop_step h call step (k + 1) t)
    (λ t. value h call last (k + 2) t) body (heads_of z r.way k r.place r.sort r.seen) (omega (arith, few4)) (omega (arith, few4)) (omega (arith, few4))
    (covered_whole may c.scope z.setting first k first') (step_whole may c.scope z.setting step (k + 1) step') (covered_whole may c.scope z.setting last (k + 2) last') whole
    (word_given may c.scope results z call d first k need links first' few1) (step_gives may c.scope results z call d step (k + 1) (need - 1) links step' few2)
    (word_given may c.scope results z call d last (k + 2) (need - 2) links last' few3) performs)
