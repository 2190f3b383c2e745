-- Statements mean the same with either table of places.
use Rattle.std.proofs.Common.{◌≡◌, ℕ, zero, suc, ◌+◌, Bool, true, false, List, Option, Some, None, refl, ap, ◌∙◌}
use Rattle.std.specs.Prelude.{◌&&◌}
use Rattle.std.proofs.lemmas.Bool.{and_parts, not-true}
use Rattle.spl_module_code.specs.spl_tree.declared.expressions.Kind.{Kind}
use Rattle.spl_module_code.specs.spl_tree.declared.names_and_places.At.{At}
use Rattle.spl_module_code.specs.spl_tree.Trees as tree
use Rattle.spl_module_code.specs.spl_tree.Trees.{Tree, Trees}
use Rattle.spl_module_code.specs.spl_tree.StatementTrees as stat
use Rattle.spl_module_code.specs.spl_tree.StatementTrees.{Statement, Statements, Target, Effect, Test}
use Rattle.spl_module_code.specs.spl_meaning.Elements.{with_one, moved_by, moved_while, moved_text, scanned}
use Rattle.spl_module_code.specs.spl_meaning.Names as n
use Rattle.spl_module_code.specs.spl_meaning.Names.{Names, Sort, same_name, intrinsic_profile}
use Rattle.spl_module_code.specs.spl_meaning.Operations.{is_odd, kept}
use Rattle.spl_module_code.specs.spl_meaning.Pending.{behind_index, behind_first, behind_second, result_words}
use Rattle.spl_module_code.specs.spl_meaning.Places.{Place}
use Rattle.spl_module_code.specs.spl_meaning.References.{Here, Setting, Located, target_access, locate, locate_by, locate_target, store, store_field}
use Rattle.spl_module_code.specs.spl_meaning.Serving.{served}
use Rattle.spl_module_code.specs.spl_meaning.States.{State, Outcome, done, then_go, beginning, stopping, code_dropped}
use Rattle.spl_module_code.specs.spl_meaning.Statements.{target_index, reference_name, cell_stored, assigned, is_intrinsic, is_intrinsic_alone, target_keeps_code, intrinsic_value, alone_value, assign, value_dropped, call_statement, moved_far, effect_done, looping, repeating, condition, counting, loop_step, for_loop, bears, bears_among, landing, deciding, run, run_all, run_from, run_at, run_bearer, run_arm}
use Rattle.spl_module_code.specs.spl_meaning.Stops.{stops}
use Rattle.spl_module_code.specs.spl_meaning.Values.{Callee, Sense, a_constant, an_intrinsic, a_call, a_variable, sense_of, small_constant, value, located}
use Rattle.spl_module_code.specs.Bodies.{is_called}
use Rattle.spl_readings.specs.Readings.{here_with, PlaceAlike, is_plain_target, is_plain_statement, are_plain, BodiesReadAlike, StatementsReadAlike}
use Rattle.spl_readings.proofs.ValueLemmas.{then_alike, each_alike, if_alike, one_alike, access_alike, locate_alike, value_alike, located_alike, index_alike, arguments_alike}

-- ---- what begins

beginning_alike : {A : Type 0} (s : State) (f g : State → Outcome A) → ((t : State) → f t ≡ g t) → beginning s f ≡ beginning s g
beginning_alike {A = A} s f g same = ap (λ (x : State → Outcome A). beginning s x) (each_alike f g same)

stopping_alike : {A : Type 0} (i : ℕ) (at : At) (s : State) (f g : State → Outcome A) → ((t : State) → f t ≡ g t) → stopping i at s f ≡ stopping i at s g
stopping_alike {A = A} i at s f g same = ap (λ (x : State → Outcome A). stopping i at s x) (each_alike f g same)

-- ---- loops and jumps

looping_alike : (d : ℕ) (test other : State → Outcome Bool) (f g : State → Outcome (Unit {0})) (s : State) → ((t : State) → test t ≡ other t)
    → ((t : State) → f t ≡ g t) → looping d test f s ≡ looping d other g s
looping_alike d test other f g s tests bodies =
    ap (λ (x : State → Outcome Bool). looping d x f s) (each_alike test other tests)
    ∙ ap (λ (x : State → Outcome (Unit {0})). looping d other x s) (each_alike f g bodies)

repeating_alike : (d : ℕ) (test other : State → Outcome Bool) (f g : State → Outcome (Unit {0})) (s : State) → ((t : State) → test t ≡ other t)
    → ((t : State) → f t ≡ g t) → repeating d test f s ≡ repeating d other g s
repeating_alike d test other f g s tests bodies =
    ap (λ (x : State → Outcome Bool). repeating d x f s) (each_alike test other tests)
    ∙ ap (λ (x : State → Outcome (Unit {0})). repeating d other x s) (each_alike f g bodies)

landing_alike : (d : ℕ) (has : List ℕ → Bool) (f g : List ℕ → State → Outcome (Unit {0})) (o p : Outcome (Unit {0}))
    → ((x : List ℕ) (t : State) → f x t ≡ g x t) → o ≡ p → landing d has f o ≡ landing d has g p
landing_alike d has f g o p same e =
    ap (λ (x : List ℕ → State → Outcome (Unit {0})). landing d has x o) (each_alike f g (λ x. each_alike (f x) (g x) (λ t. same x t)))
    ∙ ap (λ (x : Outcome (Unit {0})). landing d has g x) e

module _ (names : Names) (results : List ℕ → Option (Kind × Place)) (st : Setting) (one other : List ℕ → Option Place) (call : Callee)
    (alike : PlaceAlike names one other) where
  abbrev h : Here
  h = here_with names results st one

  abbrev g : Here
  g = here_with names results st other

  values : (e : Tree) (k : ℕ) (s : State) → value h call e k s ≡ value g call e k s
  values e k s = value_alike names results st one other call alike e k s

  places : (e : Tree) (k : ℕ) (s : State) → located h call e k s ≡ located g call e k s
  places e k s = located_alike names results st one other call alike e k s

  words : (es : Trees) (x : List ℕ) (sense : Sense) (k : ℕ) (s : State) → intrinsic_value h call sense es k s ≡ intrinsic_value g call sense es k s
  words es x (a_constant v) k s = refl
  words es x (an_intrinsic i) k s =
      ap (λ (o : Outcome (List ℕ)). then_go o (λ ws t. served i ws t))
      (arguments_alike names results st one other call alike (intrinsic_profile i).formals es (k + result_words (intrinsic_profile i)) s)
  words es x (a_call who p) k s = refl
  words es x a_variable k s = refl

  -- ---- assignments

  target_sort_alike : (x : List ℕ) (o : Option Sort) → names x ≡ o → (i : Option ℕ) (s : State) → locate_by h x (target_access o) i s ≡ locate_by g x (target_access o) i s
  target_sort_alike x (Some (n.procedure p)) e i s = refl
  target_sort_alike x (Some (n.subroutine p)) e i s = refl
  target_sort_alike x None e i s = refl
  target_sort_alike x (Some (n.equate v)) e i s = refl
  target_sort_alike x (Some (n.simple t own)) e i s = access_alike names results st one other call alike x (target_access (Some (n.simple t own))) i s (alike x (ap is_called e))
  target_sort_alike x (Some (n.array t own low high)) e i s = access_alike names results st one other call alike x (target_access (Some (n.array t own low high))) i s (alike x (ap is_called e))
  target_sort_alike x (Some (n.view t own base)) e i s = access_alike names results st one other call alike x (target_access (Some (n.view t own base))) i s (alike x (ap is_called e))
  target_sort_alike x (Some (n.pointer t own)) e i s = access_alike names results st one other call alike x (target_access (Some (n.pointer t own))) i s (alike x (ap is_called e))
  target_sort_alike x (Some (n.value t)) e i s = access_alike names results st one other call alike x (target_access (Some (n.value t))) i s (alike x (ap is_called e))
  target_sort_alike x (Some (n.by_reference t)) e i s = access_alike names results st one other call alike x (target_access (Some (n.by_reference t))) i s (alike x (ap is_called e))
  target_sort_alike x (Some (n.array_parameter t)) e i s = access_alike names results st one other call alike x (target_access (Some (n.array_parameter t))) i s (alike x (ap is_called e))
  target_sort_alike x (Some n.label) e i s = refl
  target_sort_alike x (Some (n.intrinsic j)) e i s = refl
  target_sort_alike x (Some n.unknown) e i s = refl

  targets : (x : List ℕ) (i : Option ℕ) (s : State) → locate_target h x i s ≡ locate_target g x i s
  targets x i s = target_sort_alike x (names x) refl i s

  indexes : (r : Tree) (k : ℕ) (s : State) → target_index h call r k s ≡ target_index g call r k s
  indexes (tree.Tree.named x es at) k s = index_alike names results st one other call alike es k s
  indexes (tree.Tree.number v) k s = refl
  indexes (tree.Tree.wide v) k s = refl
  indexes (tree.Tree.text bytes) k s = refl
  indexes (tree.Tree.truth b) k s = refl
  indexes (tree.Tree.address x es at) k s = refl
  indexes (tree.Tree.unary op e at) k s = refl
  indexes (tree.Tree.binary op a b at) k s = refl
  indexes (tree.Tree.shift op e by' at) k s = refl
  indexes (tree.Tree.field e start size at) k s = refl
  indexes (tree.Tree.transfer to e at) k s = refl
  indexes (tree.Tree.bytes op a b count at) k s = refl

  assigned_alike : (to : Target) (f k' : ℕ → State → Outcome (List ℕ)) (k : ℕ) (s : State) → is_plain_target names to ≡ true
      → ((j : ℕ) (t : State) → f j t ≡ k' j t) → assigned h call to f k s ≡ assigned g call to k' k s
  assigned_alike (stat.Target.plain r) f f' k s plain same =
      then_alike (target_index h call r k s) (target_index g call r k s) _ _ (indexes r k s) (λ i t.
      then_alike (f (behind_index r k) t) (f' (behind_index r k) t) _ _ (same (behind_index r k) t) (λ vs u.
      ap (λ (o : Outcome Located). then_go o (λ p w. store p (kept p.kind vs) w)) (targets (reference_name r) i u)))
  assigned_alike (stat.Target.field r start size) f f' k s plain same =
      then_alike (target_index h call r k s) (target_index g call r k s) _ _ (indexes r k s) (λ i t.
      then_alike (f (behind_index r k) t) (f' (behind_index r k) t) _ _ (same (behind_index r k) t) (λ vs u.
      ap (λ (o : Outcome Located). then_go o (λ p w. store_field p (small_constant names start) (small_constant names size) vs w)) (targets (reference_name r) i u)))
  assigned_alike (stat.Target.address x at) f f' k s plain same =
      then_alike (f k s) (f' k s) _ _ (same k s) (λ vs t. one_alike vs t (λ v u. cell_stored (one x) v u) (λ v u. cell_stored (other x) v u)
      (λ v u. ap (λ (o : Option Place). cell_stored o v u) (alike x (not-true (is_called (names x)) plain))))

  alone_alike : (e : Tree) (k : ℕ) (s : State) → alone_value h call e k s ≡ alone_value g call e k s
  alone_alike (tree.Tree.named x es at) k s = words es x (sense_of x (names x)) k s
  alone_alike (tree.Tree.number v) k s = refl
  alone_alike (tree.Tree.wide v) k s = refl
  alone_alike (tree.Tree.text bytes) k s = refl
  alone_alike (tree.Tree.truth b) k s = refl
  alone_alike (tree.Tree.address x es at) k s = refl
  alone_alike (tree.Tree.unary op e at) k s = refl
  alone_alike (tree.Tree.binary op a b at) k s = refl
  alone_alike (tree.Tree.shift op e by' at) k s = refl
  alone_alike (tree.Tree.field e start size at) k s = refl
  alone_alike (tree.Tree.transfer to e at) k s = refl
  alone_alike (tree.Tree.bytes op a b count at) k s = refl

  assign_alike : (to : Target) (e : Tree) (k : ℕ) (s : State) → is_plain_target names to ≡ true → assign h call to e k s ≡ assign g call to e k s
  assign_alike to e k s plain =
      if_alike (is_intrinsic_alone names e && target_keeps_code names to) _ _ _ _
      (assigned_alike to (λ j t. alone_value h call e j t) (λ j t. alone_value g call e j t) k s plain (λ j t. alone_alike e j t))
      (assigned_alike to (λ j t. value h call e j t) (λ j t. value g call e j t) k s plain (λ j t. values e j t))

  -- ---- calls, moves and scans

  call_alike : (x : List ℕ) (es : Trees) (at : At) (k : ℕ) (s : State) → call_statement h call x es at k s ≡ call_statement g call x es at k s
  call_alike x es at k s =
      if_alike (is_intrinsic (names x)) _ _ _ _ (ap value_dropped (words es x (sense_of x (names x)) k s)) (ap value_dropped (values (tree.Tree.named x es at) k s))

  effect_alike : (d : ℕ) (used : Bool) (e : Effect) (k : ℕ) (s : State) → effect_done h call d used e k s ≡ effect_done g call d used e k s
  effect_alike d used (stat.Effect.move to (stat.Source.counted from count)) k s =
      then_alike (located h call to k s) (located g call to k s) _ _ (places to k s) (λ p t.
      then_alike (located h call from (behind_first used k) t) (located g call from (behind_first used k) t) _ _ (places from (behind_first used k) t) (λ q u.
      ap (λ (o : Outcome (List ℕ)). then_go o (λ vs w. with_one vs w (λ size y. moved_far p (moved_by size p q y)))) (values count (behind_second used k) u)))
  effect_alike d used (stat.Effect.move to (stat.Source.text bytes)) k s =
      ap (λ (o : Outcome Located). then_go o (λ p t. moved_far p (moved_text bytes p t))) (places to k s)
  effect_alike d used (stat.Effect.move to (stat.Source.class_of from c)) k s =
      then_alike (located h call to k s) (located g call to k s) _ _ (places to k s) (λ p t.
      ap (λ (o : Outcome Located). then_go o (λ q u. moved_far p (moved_while (suc d) c p q u))) (places from (behind_first used k) t))
  effect_alike d used (stat.Effect.scan from until test) k s =
      then_alike (located h call from k s) (located g call from k s) _ _ (places from k s) (λ p t.
      ap (λ (o : Outcome (List ℕ)). then_go o (λ vs u. with_one vs u (λ w y. moved_far p (scanned (suc d) until w p y)))) (values test (behind_first used k) t))

  -- ---- tests and loops

  condition_alike : (e : Tree) (k : ℕ) (s : State) → condition h call e k s ≡ condition g call e k s
  condition_alike e k s = ap (λ (o : Outcome (List ℕ)). then_go o (λ vs t. with_one vs t (λ w u. done (is_odd w) u))) (values e k s)

  deciding_alike : (i : ℕ) (q : Test) (at : At) (k : ℕ) (s : State) (f f' : Bool → State → Outcome (Unit {0})) → ((b : Bool) (t : State) → f b t ≡ f' b t)
      → deciding h call i q at k s f ≡ deciding g call i q at k s f'
  deciding_alike i (stat.Test.condition e) at k s f f' same =
      stopping_alike i at s (λ t. then_go (condition h call e k t) f) (λ t. then_go (condition g call e k t) f')
      (λ t. then_alike (condition h call e k t) (condition g call e k t) f f' (condition_alike e k t) same)
  deciding_alike i (stat.Test.code op) at k s f f' same =
      ap (λ (x : Bool → State → Outcome (Unit {0})). deciding h call i (stat.Test.code op) at k s x)
      (each_alike f f' (λ b. each_alike (f b) (f' b) (λ t. same b t)))

  step_alike : (es : Trees) (k : ℕ) (s : State) → loop_step h call es k s ≡ loop_step g call es k s
  step_alike tree.Trees.none k s = refl
  step_alike (tree.Trees.and e es) k s = values e k s

  for_alike : (d : ℕ) (x : List ℕ) (first : Tree) (step : Trees) (last : Tree) (f f' : State → Outcome (Unit {0})) (k : ℕ) (s : State)
      → ((t : State) → f t ≡ f' t) → for_loop h call d x first step last f k s ≡ for_loop g call d x first step last f' k s
  for_alike d x first step last f f' k s same =
      then_alike (value h call first k s) (value g call first k s) _ _ (values first k s) (λ vs s1.
      then_alike (locate h x None s1) (locate g x None s1) _ _ (locate_alike names results st one other call alike x None s1) (λ p s2.
      then_alike (store p vs s2) (store p vs s2) _ _ refl (λ no s3.
      then_alike (loop_step h call step (k + 1) s3) (loop_step g call step (k + 1) s3) _ _ (step_alike step (k + 1) s3) (λ us s4.
      then_alike (value h call last (k + 2) s4) (value g call last (k + 2) s4) _ _ (values last (k + 2) s4) (λ ws s5.
      one_alike us s5 _ _ (λ u s6. one_alike ws s6 _ _ (λ w s7.
      ap (λ (b : State → Outcome (Unit {0})). counting (suc d) p u w b s7) (each_alike f f' same))))))))

  -- ---- statements

  mutual
    run_alike : (y : Statement) (d i k : ℕ) (s : State) → is_plain_statement names y ≡ true → run h call d i y k s ≡ run g call d i y k s
    run_alike stat.Statement.empty d i k s plain = refl
    run_alike (stat.Statement.labelled x at y) d i k s plain =
        beginning_alike s (λ t. run h call d i y k t) (λ t. run g call d i y k t) (λ t. run_alike y d i k t plain)
    run_alike (stat.Statement.block ss) d i k s plain =
        beginning_alike s _ _ (λ t. ap code_dropped
        (landing_alike d (bears_among ss) _ _ _ _ (λ x u. from_alike ss d i x k u plain) (all_alike ss d i k t plain)))
    run_alike (stat.Statement.if_test q y other at) d i k s plain =
        let two = and_parts (is_plain_statement names y) (are_plain names other) plain in
        deciding_alike i q at k s _ _ (λ b t. ap code_dropped
        (if_alike b _ _ _ _ (run_alike y d (i + 1) k t two.0) (all_alike other d (i + 1 + stops y) k t two.1)))
    run_alike (stat.Statement.while_true e y at) d i k s plain =
        beginning_alike s _ _ (λ t. looping_alike (suc d) (λ u. condition h call e k u) (λ u. condition g call e k u) _ _ t (λ u. condition_alike e k u)
        (λ u. ap code_dropped (run_alike y d i k u plain)))
    run_alike (stat.Statement.until_true y e at) d i k s plain =
        beginning_alike s _ _ (λ t. repeating_alike (suc d) (λ u. condition h call e k u) (λ u. condition g call e k u) _ _ t (λ u. condition_alike e k u)
        (λ u. ap code_dropped (run_alike y d i k u plain)))
    run_alike (stat.Statement.for_values x first step last y at) d i k s plain =
        stopping_alike i at s _ _ (λ t. for_alike d x first step last _ _ k t (λ u. ap code_dropped (run_alike y d (i + 1) (k + 3) u plain)))
    run_alike (stat.Statement.case_of e ss at) d i k s plain =
        stopping_alike i at s _ _ (λ t. then_alike (value h call e k t) (value g call e k t) _ _ (values e k t) (λ vs u. one_alike vs u _ _ (λ w y.
        ap code_dropped (landing_alike d (bears_among ss) _ _ _ _ (λ x v. bearer_alike ss d (i + 1) x k v plain) (arm_alike ss d (i + 1) w k y plain)))))
    run_alike (stat.Statement.go_to x at) d i k s plain = refl
    run_alike (stat.Statement.return at) d i k s plain = refl
    run_alike (stat.Statement.assign to e at) d i k s plain = stopping_alike i at s _ _ (λ t. assign_alike to e k t plain)
    run_alike (stat.Statement.assign_effect to e at) d i k s plain =
        stopping_alike i at s _ _ (λ t. assigned_alike to (λ j u. effect_done h call d true e j u) (λ j u. effect_done g call d true e j u) k t plain
        (λ j u. effect_alike d true e j u))
    run_alike (stat.Statement.do_effect e at) d i k s plain = stopping_alike i at s _ _ (λ t. ap value_dropped (effect_alike d false e k t))
    run_alike (stat.Statement.call x es at) d i k s plain = stopping_alike i at s _ _ (λ t. call_alike x es at k t)

    all_alike : (ss : Statements) (d i k : ℕ) (s : State) → are_plain names ss ≡ true → run_all h call d i ss k s ≡ run_all g call d i ss k s
    all_alike stat.Statements.none d i k s plain = refl
    all_alike (stat.Statements.and y ss) d i k s plain =
        let two = and_parts (is_plain_statement names y) (are_plain names ss) plain in
        then_alike (run h call d i y k s) (run g call d i y k s) _ _ (run_alike y d i k s two.0) (λ no t. all_alike ss d (i + stops y) k t two.1)

    from_alike : (ss : Statements) (d i : ℕ) (x : List ℕ) (k : ℕ) (s : State) → are_plain names ss ≡ true
        → run_from h call d i ss x k s ≡ run_from g call d i ss x k s
    from_alike stat.Statements.none d i x k s plain = refl
    from_alike (stat.Statements.and y ss) d i x k s plain =
        let two = and_parts (is_plain_statement names y) (are_plain names ss) plain in
        if_alike (bears y x) _ _ _ _
        (then_alike (run_at h call d i y x k s) (run_at g call d i y x k s) _ _ (at_alike y d i x k s two.0) (λ no t. all_alike ss d (i + stops y) k t two.1))
        (from_alike ss d (i + stops y) x k s two.1)

    at_alike : (y : Statement) (d i : ℕ) (x : List ℕ) (k : ℕ) (s : State) → is_plain_statement names y ≡ true → run_at h call d i y x k s ≡ run_at g call d i y x k s
    at_alike (stat.Statement.labelled z at y) d i x k s plain =
        if_alike (same_name x z) _ _ _ _ (beginning_alike s (λ t. run h call d i y k t) (λ t. run g call d i y k t) (λ t. run_alike y d i k t plain))
        (at_alike y d i x k s plain)
    at_alike stat.Statement.empty d i x k s plain = refl
    at_alike (stat.Statement.block ss) d i x k s plain = refl
    at_alike (stat.Statement.if_test q y other at) d i x k s plain = refl
    at_alike (stat.Statement.while_true e y at) d i x k s plain = refl
    at_alike (stat.Statement.until_true y e at) d i x k s plain = refl
    at_alike (stat.Statement.for_values z first step last y at) d i x k s plain = refl
    at_alike (stat.Statement.case_of e ss at) d i x k s plain = refl
    at_alike (stat.Statement.go_to z at) d i x k s plain = refl
    at_alike (stat.Statement.return at) d i x k s plain = refl
    at_alike (stat.Statement.assign to e at) d i x k s plain = refl
    at_alike (stat.Statement.assign_effect to e at) d i x k s plain = refl
    at_alike (stat.Statement.do_effect e at) d i x k s plain = refl
    at_alike (stat.Statement.call z es at) d i x k s plain = refl

    bearer_alike : (ss : Statements) (d i : ℕ) (x : List ℕ) (k : ℕ) (s : State) → are_plain names ss ≡ true
        → run_bearer h call d i ss x k s ≡ run_bearer g call d i ss x k s
    bearer_alike stat.Statements.none d i x k s plain = refl
    bearer_alike (stat.Statements.and y ss) d i x k s plain =
        let two = and_parts (is_plain_statement names y) (are_plain names ss) plain in
        if_alike (bears y x) _ _ _ _ (at_alike y d i x k s two.0) (bearer_alike ss d (i + stops y) x k s two.1)

    arm_alike : (ss : Statements) (d i w k : ℕ) (s : State) → are_plain names ss ≡ true → run_arm h call d i ss w k s ≡ run_arm g call d i ss w k s
    arm_alike stat.Statements.none d i w k s plain = refl
    arm_alike (stat.Statements.and y ss) d i zero k s plain =
        run_alike y d i k s (and_parts (is_plain_statement names y) (are_plain names ss) plain).0
    arm_alike (stat.Statements.and y ss) d i (suc w) k s plain =
        arm_alike ss d (i + stops y) w k s (and_parts (is_plain_statement names y) (are_plain names ss) plain).1

-- ---- bodies

pub bodies_alike : BodiesReadAlike
bodies_alike names results st one other call d number ss s alike plain =
    landing_alike d (bears_among ss) _ _ _ _ (λ x t. from_alike names results st one other call alike ss d number x 0 t plain)
    (all_alike names results st one other call alike ss d number 0 s plain)

-- so are statements in order
pub statements_alike : StatementsReadAlike
statements_alike names results st one other call d number ss k s alike plain = all_alike names results st one other call alike ss d number k s plain
