-- Statements are steady, where calls are.
use Rattle.std.proofs.Common.{ℕ, zero, suc, ◌+◌, Bool, true, false, List, Option, Some, None, arith}
use Rattle.std.specs.Prelude.{if◌then◌else◌}
use Rattle.std.specs.Prelude.{◌&&◌}
use Rattle.spl_meaning.specs.hp_word.declared.arithmetic.Code.{Code}
use Rattle.spl_meaning.specs.spl_tree.declared.names_and_places.At.{At}
use Rattle.spl_meaning.specs.spl_tree.Trees as tree
use Rattle.spl_meaning.specs.spl_tree.Trees.{Tree, Trees}
use Rattle.spl_meaning.specs.spl_tree.StatementTrees as stat
use Rattle.spl_meaning.specs.spl_tree.StatementTrees.{Statement, Statements, Target, Source, Effect, Test}
use Rattle.spl_meaning.specs.Names.{same_name, intrinsic_profile}
use Rattle.spl_meaning.specs.Pending.{behind_index, behind_first, behind_second, result_words}
use Rattle.spl_meaning.specs.Stops.{stops}
use Rattle.spl_meaning.specs.Places.{Place}
use Rattle.spl_meaning.specs.States.{Data, State, Exit, to_label, back, Outcome, done, leaves, spent, ends, strays, without_code, noted, stopping, code_dropped}
use Rattle.spl_meaning.specs.References.{Here, Located, address_of, placed_word}
use Rattle.spl_meaning.specs.Operations.{is_odd, kept, related}
use Rattle.spl_meaning.specs.Elements.{distance}
use Rattle.spl_meaning.specs.Values.{Callee, Sense, a_constant, an_intrinsic, a_call, a_variable, sense_of, small_constant, value}
use Rattle.spl_meaning.specs.Statements.{target_index, reference_name, cell_stored, assigned, is_intrinsic, is_intrinsic_alone, target_keeps_code, intrinsic_value, alone_value, assign, value_dropped, call_statement, moved_far, effect_done, looping, repeating, condition, goes_on, raised, counting, loop_step, for_loop, bears, bears_among, landing, code_tested, deciding, run, run_all, run_from, run_at, run_bearer, run_arm, run_body}
use Rattle.spl_frames.specs.Words.{AllOf}
use Rattle.spl_frames.proofs.Steady.{Knowledge, Any, Good, Steady, good_on, steady_done, steady_word_of, steady_lost, steady_spent, steady_left, steady_go, steady_step, steady_if, steady_coded, steady_in, stays_without_code, stays_noted, steady_begin, steady_stop, steady_dropped}
use Rattle.spl_frames.proofs.FrameReferences.{near_word, stays_near, mem_put, steady_read, steady_store, steady_store_field, steady_locate, steady_target}
use Rattle.spl_frames.proofs.FrameOperations.{steady_added, kept_known}
use Rattle.spl_frames.proofs.FrameElements.{steady_one, steady_moved_by, steady_moved_text, steady_moved_while, steady_scanned, steady_served}
use Rattle.spl_frames.proofs.FrameValues.{SteadyCalls, steady_value, steady_located, steady_index, steady_arguments}

-- ---- assignments

steady_target_index : (v : Knowledge) (h : Here) (c : Callee) → SteadyCalls v c → (x : Tree) (k : ℕ) → Steady v Any (target_index h c x k)
steady_target_index v h c t (tree.Tree.named x es at) k = steady_index v h c t es k
steady_target_index v h c t (tree.Tree.number n) k = steady_lost v
steady_target_index v h c t (tree.Tree.wide n) k = steady_lost v
steady_target_index v h c t (tree.Tree.text bytes) k = steady_lost v
steady_target_index v h c t (tree.Tree.truth b) k = steady_lost v
steady_target_index v h c t (tree.Tree.address x es at) k = steady_lost v
steady_target_index v h c t (tree.Tree.unary op x at) k = steady_lost v
steady_target_index v h c t (tree.Tree.binary op a b at) k = steady_lost v
steady_target_index v h c t (tree.Tree.shift op x by at) k = steady_lost v
steady_target_index v h c t (tree.Tree.field x start size at) k = steady_lost v
steady_target_index v h c t (tree.Tree.transfer to x at) k = steady_lost v
steady_target_index v h c t (tree.Tree.bytes op a b count at) k = steady_lost v

steady_cell : (v : Knowledge) (p : Option Place) (w : ℕ) → v.W w → Steady v Any (cell_stored p w)
steady_cell v (Some p) w q = record {
  is = λ s h. near_word Any v (address_of p s.now) s (λ _ s1. done tt (placed_word false (address_of p s1.now) w s1)) h (λ x e. (
    stays_near (address_of p s.now) w x s.now e,
    (tt, record { mem = mem_put v (address_of p s.now) w s.now.mem h.mem q; extra = h.extra; lines = h.lines }),
  ));
}
steady_cell v None w q = steady_lost v

steady_assigned : (v : Knowledge) (h : Here) (c : Callee) → SteadyCalls v c → (to : Target) (f : ℕ → State → Outcome (List ℕ)) (k : ℕ)
    → ((j : ℕ) → Steady v (AllOf v.W) (f j)) → Steady v Any (assigned h c to f k)
steady_assigned v h c t (stat.Target.plain r) f k u =
    steady_go (steady_target_index v h c t r k) (λ i _. steady_go (u (behind_index r k)) (λ vs q.
    steady_go (steady_target v h (reference_name r) i) (λ p _. steady_store v p (kept p.kind vs) (kept_known v p.kind vs q))))
steady_assigned v h c t (stat.Target.field r start size) f k u =
    steady_go (steady_target_index v h c t r k) (λ i _. steady_go (u (behind_index r k)) (λ vs _.
    steady_go (steady_target v h (reference_name r) i) (λ p _.
    steady_store_field v p (small_constant h.names start) (small_constant h.names size) vs)))
steady_assigned v h c t (stat.Target.address x at) f k u =
    steady_go (u k) (λ vs p. steady_one v vs p (λ w q. steady_cell v (h.places x) w q))

steady_intrinsic_value : (v : Knowledge) (h : Here) (c : Callee) → SteadyCalls v c → (o : Sense) (es : Trees) (k : ℕ)
    → Steady v (AllOf v.W) (intrinsic_value h c o es k)
steady_intrinsic_value v h c t (an_intrinsic i) es k =
    steady_go (steady_arguments v h c t (intrinsic_profile i).formals es (k + result_words (intrinsic_profile i))) (λ ws p. steady_served v i ws p)
steady_intrinsic_value v h c t (a_constant z) es k = steady_lost v
steady_intrinsic_value v h c t (a_call who p) es k = steady_lost v
steady_intrinsic_value v h c t a_variable es k = steady_lost v

steady_alone_value : (v : Knowledge) (h : Here) (c : Callee) → SteadyCalls v c → (x : Tree) (k : ℕ) → Steady v (AllOf v.W) (alone_value h c x k)
steady_alone_value v h c t (tree.Tree.named x es at) k = steady_intrinsic_value v h c t (sense_of x (h.names x)) es k
steady_alone_value v h c t (tree.Tree.number n) k = steady_lost v
steady_alone_value v h c t (tree.Tree.wide n) k = steady_lost v
steady_alone_value v h c t (tree.Tree.text bytes) k = steady_lost v
steady_alone_value v h c t (tree.Tree.truth b) k = steady_lost v
steady_alone_value v h c t (tree.Tree.address x es at) k = steady_lost v
steady_alone_value v h c t (tree.Tree.unary op x at) k = steady_lost v
steady_alone_value v h c t (tree.Tree.binary op a b at) k = steady_lost v
steady_alone_value v h c t (tree.Tree.shift op x by at) k = steady_lost v
steady_alone_value v h c t (tree.Tree.field x start size at) k = steady_lost v
steady_alone_value v h c t (tree.Tree.transfer to x at) k = steady_lost v
steady_alone_value v h c t (tree.Tree.bytes op a b count at) k = steady_lost v

steady_assign : (v : Knowledge) (h : Here) (c : Callee) → SteadyCalls v c → (to : Target) (x : Tree) (k : ℕ) → Steady v Any (assign h c to x k)
steady_assign v h c t to x k =
    steady_if (is_intrinsic_alone h.names x && target_keeps_code h.names to)
    (steady_assigned v h c t to (λ j s1. alone_value h c x j s1) k (λ j. steady_alone_value v h c t x j))
    (steady_assigned v h c t to (λ j s1. value h c x j s1) k (λ j. steady_value v h c t x j))

-- ---- calls, MOVE and SCAN

steady_value_dropped : (v : Knowledge) {f : State → Outcome (List ℕ)} → Steady v (AllOf v.W) f → Steady v Any (λ s. value_dropped (f s))
steady_value_dropped v t = steady_go t (λ vs _. steady_done {A = Unit {0}} v tt)

steady_call : (v : Knowledge) (h : Here) (c : Callee) → SteadyCalls v c → (x : List ℕ) (es : Trees) (at : At) (k : ℕ)
    → Steady v Any (call_statement h c x es at k)
steady_call v h c t x es at k =
    steady_if (is_intrinsic (h.names x)) (steady_value_dropped v (steady_intrinsic_value v h c t (sense_of x (h.names x)) es k))
    (steady_value_dropped v (steady_value v h c t (tree.Tree.named x es at) k))

steady_moved_far : (v : Knowledge) (p : Located) {f : State → Outcome Located} → Steady v Any f → Steady v (AllOf v.W) (λ s. moved_far p (f s))
steady_moved_far v p t = steady_go t (λ end _. steady_word_of v (distance end p.address) (omega arith))

steady_effect : (v : Knowledge) (d : ℕ) (h : Here) (c : Callee) → SteadyCalls v c → (used : Bool) (x : Effect) (k : ℕ)
    → Steady v (AllOf v.W) (effect_done h c d used x k)
steady_effect v d h c t used (stat.Effect.move to (stat.Source.counted from count)) k =
    steady_go (steady_located v h c t to k) (λ p _. steady_go (steady_located v h c t from (behind_first used k)) (λ q _.
    steady_go (steady_value v h c t count (behind_second used k)) (λ vs r. steady_one v vs r (λ size _.
    steady_moved_far v p (steady_moved_by v size p q)))))
steady_effect v d h c t used (stat.Effect.move to (stat.Source.text bytes)) k =
    steady_go (steady_located v h c t to k) (λ p _. steady_moved_far v p (steady_moved_text v bytes p))
steady_effect v d h c t used (stat.Effect.move to (stat.Source.class_of from l)) k =
    steady_go (steady_located v h c t to k) (λ p _. steady_go (steady_located v h c t from (behind_first used k)) (λ q _.
    steady_moved_far v p (steady_moved_while v (suc d) l p q)))
steady_effect v d h c t used (stat.Effect.scan from until test) k =
    steady_go (steady_located v h c t from k) (λ p _. steady_go (steady_value v h c t test (behind_first used k)) (λ vs q.
    steady_one v vs q (λ w _. steady_moved_far v p (steady_scanned v (suc d) until w p))))

-- ---- loops

steady_looping : (v : Knowledge) (d : ℕ) {f : State → Outcome Bool} {h : State → Outcome (Unit {0})} → Steady v Any f → Steady v Any h
    → Steady v Any (looping d f h)
steady_looping v zero t u = steady_spent v
steady_looping v (suc d) t u =
    steady_step (steady_go t (λ x _. steady_if x (steady_go u (λ _ _. steady_looping v d t u)) (steady_done v tt)))

steady_repeating : (v : Knowledge) (d : ℕ) {f : State → Outcome Bool} {h : State → Outcome (Unit {0})} → Steady v Any f → Steady v Any h
    → Steady v Any (repeating d f h)
steady_repeating v zero t u = steady_spent v
steady_repeating v (suc d) t u =
    steady_go u (λ _ _. steady_step (steady_go t (λ x _. steady_if x (steady_done v tt) (steady_repeating v d t u))))

steady_condition : (v : Knowledge) (h : Here) (c : Callee) → SteadyCalls v c → (x : Tree) (k : ℕ) → Steady v Any (condition h c x k)
steady_condition v h c t x k = steady_go (steady_value v h c t x k) (λ vs p. steady_one v vs p (λ w _. steady_done v (is_odd w)))

steady_raised : (v : Knowledge) (p : Located) (step : ℕ) → Steady v Any (raised p step)
steady_raised v p step =
    steady_go (steady_read v p) (λ vs q. steady_one v vs q (λ w _. steady_go (steady_added v w step) (λ ws r. steady_store v p ws r)))

steady_counting : (v : Knowledge) (d : ℕ) (p : Located) (step limit : ℕ) {h : State → Outcome (Unit {0})} → Steady v Any h
    → Steady v Any (counting d p step limit h)
steady_counting v zero p step limit u = steady_spent v
steady_counting v (suc d) p step limit u =
    steady_step (steady_go (steady_read v p) (λ vs q. steady_one v vs q (λ w _. steady_if (goes_on step limit w)
    (steady_go u (λ _ _. steady_go (steady_raised v p step) (λ _ _. steady_counting v d p step limit u))) (steady_done v tt))))

steady_loop_step : (v : Knowledge) (h : Here) (c : Callee) → SteadyCalls v c → (es : Trees) (k : ℕ) → Steady v (AllOf v.W) (loop_step h c es k)
steady_loop_step v h c t tree.Trees.none k = steady_word_of v 1 (omega arith)
steady_loop_step v h c t (tree.Trees.and x es) k = steady_value v h c t x k

steady_for : (v : Knowledge) (d : ℕ) (h : Here) (c : Callee) → SteadyCalls v c → (x : List ℕ) (first : Tree) (step : Trees) (last : Tree)
    {f : State → Outcome (Unit {0})} (k : ℕ) → Steady v Any f → Steady v Any (for_loop h c d x first step last f k)
steady_for v d h c t x first step last k u =
    steady_go (steady_value v h c t first k) (λ vs q. steady_go (steady_locate v h x None) (λ p _. steady_go (steady_store v p vs q) (λ _ _.
    steady_go (steady_loop_step v h c t step (k + 1)) (λ us r. steady_go (steady_value v h c t last (k + 2)) (λ ws n.
    steady_one v us r (λ a _. steady_one v ws n (λ w _. steady_counting v (suc d) p a w u)))))))

-- ---- jumps

good_if : (v : Knowledge) (now : Data) (t : Bool) (o p : Outcome (Unit {0})) → Good v Any now o → Good v Any now p
    → Good v Any now (if t then o else p)
good_if v now true o p g h = g
good_if v now false o p g h = h

good_landing : (v : Knowledge) (d : ℕ) (has : List ℕ → Bool) (from : List ℕ → State → Outcome (Unit {0})) (now : Data) (o : Outcome (Unit {0}))
    → Good v Any now o → ((x : List ℕ) → Steady v Any (from x)) → Good v Any now (landing d has from o)
good_landing v zero has from now (leaves (to_label x) s) h c = good_if v now (has x) (spent s) (leaves (to_label x) s) (tt, h.1) h
good_landing v (suc d) has from now (leaves (to_label x) s) h c =
    good_if v now (has x) (landing d has from (from x s)) (leaves (to_label x) s)
    (good_landing v d has from now (from x s) (good_on Any v now s.now (from x s) h.0 ((c x).is s h.1)) c) h
good_landing v zero has from now (leaves back s) h c = h
good_landing v (suc d) has from now (leaves back s) h c = h
good_landing v zero has from now (done a s) h c = h
good_landing v (suc d) has from now (done a s) h c = h
good_landing v zero has from now (spent s) h c = h
good_landing v (suc d) has from now (spent s) h c = h
good_landing v zero has from now (ends e s) h c = h
good_landing v (suc d) has from now (ends e s) h c = h
good_landing v zero has from now (strays s) h c = h
good_landing v (suc d) has from now (strays s) h c = h

steady_landing : (v : Knowledge) (d : ℕ) (has : List ℕ → Bool) {f : List ℕ → State → Outcome (Unit {0})} {h : State → Outcome (Unit {0})}
    → ((x : List ℕ) → Steady v Any (f x)) → Steady v Any h → Steady v Any (λ s. landing d has f (h s))
steady_landing v d has {f = f} {h = h} t u = record { is = λ s k. good_landing v d has f s.now (h s) (u.is s k) t }

steady_leaves : (v : Knowledge) (i : ℕ) (at : At) (x : Exit) → Steady {A = Unit {0}} v Any (λ s. stopping i at s (λ s1. leaves x s1))
steady_leaves v i at x = steady_stop i at (steady_left v x)

-- ---- statements

steady_tested : (v : Knowledge) (op : ℕ) (o : Option Code) {g : Bool → State → Outcome (Unit {0})} → ((x : Bool) → Steady v Any (g x))
    → Steady v Any (λ s. code_tested op o s g)
steady_tested v op (Some c) t = t (related op c)
steady_tested v op None t = steady_lost v

-- a test of the condition code, by the code that it finds
abbrev tested : ℕ → ℕ → At → (Bool → State → Outcome (Unit {0})) → Option Code → State → Outcome (Unit {0})
tested i op at g o s1 = code_tested op o (noted i at s1) (λ x s2. g x (without_code s2))

steady_deciding : (v : Knowledge) (i : ℕ) (h : Here) (c : Callee) → SteadyCalls v c → (q : Test) (at : At) (k : ℕ)
    (f : Bool → State → Outcome (Unit {0})) → ((x : Bool) → Steady v Any (f x)) → Steady v Any (λ s. deciding h c i q at k s f)
steady_deciding v i h c t (stat.Test.condition x) at k f u = steady_stop i at (steady_go (steady_condition v h c t x k) (λ b _. u b))
steady_deciding v i h c t (stat.Test.code op) at k f u =
    steady_step (steady_coded (tested i op at f) (λ o.
    steady_in (stays_noted v i at) (steady_tested v op o (λ x. steady_in (stays_without_code v) (u x)))))

mutual
  pub steady_run : (v : Knowledge) (d i : ℕ) (h : Here) (c : Callee) → SteadyCalls v c → (st : Statement) (k : ℕ)
      → Steady v Any (run h c d i st k)
  steady_run v d i h c t stat.Statement.empty k = steady_begin (steady_done {A = Unit {0}} v tt)
  steady_run v d i h c t (stat.Statement.labelled x at st) k = steady_begin ((steady_run v d i h c t st k))
  steady_run v d i h c t (stat.Statement.block ss) k =
      steady_begin ((steady_dropped (steady_landing v d (bears_among ss) (λ x. steady_run_from v d i h c t ss x k) (steady_run_all v d i h c t ss k))))
  steady_run v d i h c t (stat.Statement.if_test q then_part else_part at) k =
      steady_deciding v i h c t q at k
      (λ b s1. code_dropped (if b then run h c d (i + 1) then_part k s1 else run_all h c d (i + 1 + stops then_part) else_part k s1))
      (λ b. steady_dropped (steady_if b (steady_run v d (i + 1) h c t then_part k) (steady_run_all v d (i + 1 + stops then_part) h c t else_part k)))
  steady_run v d i h c t (stat.Statement.while_true x st at) k =
      steady_begin ((steady_looping v (suc d) (steady_condition v h c t x k) (steady_dropped (steady_run v d i h c t st k))))
  steady_run v d i h c t (stat.Statement.until_true st x at) k =
      steady_begin ((steady_repeating v (suc d) (steady_condition v h c t x k) (steady_dropped (steady_run v d i h c t st k))))
  steady_run v d i h c t (stat.Statement.for_values x first step last st at) k =
      steady_stop i at ((steady_for v d h c t x first step last k (steady_dropped (steady_run v d (i + 1) h c t st (k + 3)))))
  steady_run v d i h c t (stat.Statement.case_of x ss at) k =
      steady_stop i at ((steady_go (steady_value v h c t x k) (λ vs p. steady_one v vs p (λ w _.
      steady_dropped (steady_landing v d (bears_among ss) (λ x. steady_run_bearer v d (i + 1) h c t ss x k) (steady_run_arm v d (i + 1) h c t ss w k))))))
  steady_run v d i h c t (stat.Statement.go_to x at) k = steady_leaves v i at (to_label x)
  steady_run v d i h c t (stat.Statement.return at) k = steady_leaves v i at back
  steady_run v d i h c t (stat.Statement.assign to x at) k = steady_stop i at ((steady_assign v h c t to x k))
  steady_run v d i h c t (stat.Statement.assign_effect to x at) k =
      steady_stop i at ((steady_assigned v h c t to (λ j s2. effect_done h c d true x j s2) k (λ j. steady_effect v d h c t true x j)))
  steady_run v d i h c t (stat.Statement.do_effect x at) k =
      steady_stop i at ((steady_value_dropped v (steady_effect v d h c t false x k)))
  steady_run v d i h c t (stat.Statement.call x es at) k = steady_stop i at ((steady_call v h c t x es at k))

  pub steady_run_all : (v : Knowledge) (d i : ℕ) (h : Here) (c : Callee) → SteadyCalls v c → (ss : Statements) (k : ℕ)
      → Steady v Any (run_all h c d i ss k)
  steady_run_all v d i h c t stat.Statements.none k = steady_done {A = Unit {0}} v tt
  steady_run_all v d i h c t (stat.Statements.and st ss) k = steady_go (steady_run v d i h c t st k) (λ _ _. steady_run_all v d (i + stops st) h c t ss k)

  steady_run_from : (v : Knowledge) (d i : ℕ) (h : Here) (c : Callee) → SteadyCalls v c → (ss : Statements) (x : List ℕ) (k : ℕ)
      → Steady v Any (run_from h c d i ss x k)
  steady_run_from v d i h c t stat.Statements.none x k = steady_lost v
  steady_run_from v d i h c t (stat.Statements.and st ss) x k =
      steady_if (bears st x) (steady_go (steady_run_at v d i h c t st x k) (λ _ _. steady_run_all v d (i + stops st) h c t ss k)) (steady_run_from v d (i + stops st) h c t ss x k)

  steady_run_at : (v : Knowledge) (d i : ℕ) (h : Here) (c : Callee) → SteadyCalls v c → (st : Statement) (x : List ℕ) (k : ℕ)
      → Steady v Any (run_at h c d i st x k)
  steady_run_at v d i h c t (stat.Statement.labelled y at st) x k =
      steady_if (same_name x y) (steady_begin ((steady_run v d i h c t st k))) (steady_run_at v d i h c t st x k)
  steady_run_at v d i h c t stat.Statement.empty x k = steady_lost v
  steady_run_at v d i h c t (stat.Statement.block ss) x k = steady_lost v
  steady_run_at v d i h c t (stat.Statement.if_test q then_part else_part at) x k = steady_lost v
  steady_run_at v d i h c t (stat.Statement.while_true y st at) x k = steady_lost v
  steady_run_at v d i h c t (stat.Statement.until_true st y at) x k = steady_lost v
  steady_run_at v d i h c t (stat.Statement.for_values y first step last st at) x k = steady_lost v
  steady_run_at v d i h c t (stat.Statement.case_of y ss at) x k = steady_lost v
  steady_run_at v d i h c t (stat.Statement.go_to y at) x k = steady_lost v
  steady_run_at v d i h c t (stat.Statement.return at) x k = steady_lost v
  steady_run_at v d i h c t (stat.Statement.assign to y at) x k = steady_lost v
  steady_run_at v d i h c t (stat.Statement.assign_effect to y at) x k = steady_lost v
  steady_run_at v d i h c t (stat.Statement.do_effect y at) x k = steady_lost v
  steady_run_at v d i h c t (stat.Statement.call y es at) x k = steady_lost v

  steady_run_bearer : (v : Knowledge) (d i : ℕ) (h : Here) (c : Callee) → SteadyCalls v c → (ss : Statements) (x : List ℕ) (k : ℕ)
      → Steady v Any (run_bearer h c d i ss x k)
  steady_run_bearer v d i h c t stat.Statements.none x k = steady_lost v
  steady_run_bearer v d i h c t (stat.Statements.and st ss) x k =
      steady_if (bears st x) (steady_run_at v d i h c t st x k) (steady_run_bearer v d (i + stops st) h c t ss x k)

  steady_run_arm : (v : Knowledge) (d i : ℕ) (h : Here) (c : Callee) → SteadyCalls v c → (ss : Statements) (j k : ℕ)
      → Steady v Any (run_arm h c d i ss j k)
  steady_run_arm v d i h c t stat.Statements.none j k = steady_done {A = Unit {0}} v tt
  steady_run_arm v d i h c t (stat.Statements.and st ss) zero k = steady_run v d i h c t st k
  steady_run_arm v d i h c t (stat.Statements.and st ss) (suc j) k = steady_run_arm v d (i + stops st) h c t ss j k

-- a body
pub steady_body : (v : Knowledge) (d i : ℕ) (h : Here) (c : Callee) → SteadyCalls v c → (ss : Statements)
    → Steady v Any (run_body h c d i ss)
steady_body v d i h c t ss = steady_landing v d (bears_among ss) (λ x. steady_run_from v d i h c t ss x 0) (steady_run_all v d i h c t ss 0)
