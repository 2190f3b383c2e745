-- Statements are tame, where calls are tame of one step fewer.
use Rattle.std.proofs.Common.{ℕ, zero, suc, ◌≡◌, ◌+◌, ◌<◌, Bool, true, false, List, [], ◌∷◌, Option, Some, None, refl, sym, ap, subst, ◌∙◌, arith}
use Rattle.std.specs.Prelude.{if◌then◌else◌}
use Rattle.std.specs.Prelude.{◌&&◌}
use Rattle.std.proofs.lemmas.List.{append-nil}
use Rattle.hp_word.specs.Words.{added}
use Rattle.hp_word.specs.declared.arithmetic.Code.{Code}
use Rattle.spl_tree.specs.declared.names_and_places.At.{At}
use Rattle.spl_tree.specs.Trees as tree
use Rattle.spl_tree.specs.Trees.{Tree, Trees}
use Rattle.spl_tree.specs.StatementTrees as stat
use Rattle.spl_tree.specs.StatementTrees.{Statement, Statements, Target, Source, Effect, Test}
use Rattle.spl_meaning.specs.Names.{same_name, intrinsic_profile}
use Rattle.spl_meaning.specs.Pending.{behind_index, behind_first, behind_second, result_words}
use Rattle.spl_meaning.specs.Stops.{stops}
use Rattle.spl_meaning.specs.Places.{Place}
use Rattle.spl_meaning.specs.Laws.{more}
use Rattle.spl_meaning.specs.States.{Data, State, Exit, to_label, back, Outcome, done, leaves, spent, ends, strays, then_go, step_of, without_code, noted, stopping, code_dropped}
use Rattle.spl_meaning.specs.References.{Here, Located, address_of, placed_word, word_at}
use Rattle.spl_meaning.specs.Operations.{is_odd, kept, related}
use Rattle.spl_meaning.specs.Elements.{distance}
use Rattle.spl_meaning.specs.Values.{Callee, Sense, a_constant, an_intrinsic, a_call, a_variable, sense_of, small_constant, value}
use Rattle.spl_meaning.specs.Statements.{target_index, reference_name, cell_stored, assigned, is_intrinsic, is_intrinsic_alone, target_keeps_code, intrinsic_value, alone_value, assign, value_dropped, call_statement, moved_far, effect_done, looping, repeating, condition, goes_on, raised, counting, loop_step, for_loop, bears, bears_among, landing, code_tested, deciding, run, run_all, run_from, run_at, run_bearer, run_arm, run_body}
use Rattle.spl_meaning.proofs.Tame.{Within, AtMost, most_of, Grown, Grows, Few, Rests, few_same, rests_on, OneMore, Calm, Tame, within_on, grows_on, calm_go, calm_step, calm_less, calm_done, calm_if, calm_nowhere, grown_same, tame_nowhere, tame_done, tame_lost, tame_go, tame_step, tame_less, tame_if, tame_now, tame_in, tame_coded, keeps_without_code, few_noted, tame_begin, tame_noted, tame_stop, tame_dropped}
use Rattle.spl_meaning.proofs.TameReferences.{tame_word, tame_placed, tame_read, tame_store, tame_store_field, tame_locate, tame_target, tame_word_done}
use Rattle.spl_meaning.proofs.TameElements.{tame_one, calm_one, tame_moved_by, tame_moved_text, tame_moved_while, tame_scanned, tame_served}
use Rattle.spl_meaning.proofs.TameValues.{TameCalls, tame_value, tame_located, tame_index, tame_arguments}

-- ---- assignments

tame_target_index : (d : ℕ) (h : Here) (c e : Callee) → TameCalls d c e → (x : Tree) (k : ℕ)
    → Tame (suc d) (target_index h c x k) (target_index h e x k)
tame_target_index d h c e t (tree.Tree.named x es at) k = tame_index d h c e t es k
tame_target_index d h c e t (tree.Tree.number v) k = tame_lost (suc d)
tame_target_index d h c e t (tree.Tree.wide v) k = tame_lost (suc d)
tame_target_index d h c e t (tree.Tree.text bytes) k = tame_lost (suc d)
tame_target_index d h c e t (tree.Tree.truth b) k = tame_lost (suc d)
tame_target_index d h c e t (tree.Tree.address x es at) k = tame_lost (suc d)
tame_target_index d h c e t (tree.Tree.unary op x at) k = tame_lost (suc d)
tame_target_index d h c e t (tree.Tree.binary op a b at) k = tame_lost (suc d)
tame_target_index d h c e t (tree.Tree.shift op x by at) k = tame_lost (suc d)
tame_target_index d h c e t (tree.Tree.field x start size at) k = tame_lost (suc d)
tame_target_index d h c e t (tree.Tree.transfer to x at) k = tame_lost (suc d)
tame_target_index d h c e t (tree.Tree.bytes op a b count at) k = tame_lost (suc d)

tame_cell : (b : ℕ) (p : Option Place) (v : ℕ) → Tame b (cell_stored p v) (cell_stored p v)
tame_cell b (Some p) v = tame_now (by p v) (by p v) (λ d. tame_go (tame_word b false (address_of p d)) (λ _. behind b p v))
  where
    by : Place → ℕ → Data → State → Outcome (Unit {0})
    by p v d s = then_go (word_at false (address_of p d) s) (λ _ s1. done tt (placed_word false (address_of p s1.now) v s1))

    behind : (b : ℕ) (p : Place) (v : ℕ)
        → Tame {A = Unit {0}} b (λ s1. done tt (placed_word false (address_of p s1.now) v s1)) (λ s1. done tt (placed_word false (address_of p s1.now) v s1))
    behind b p v =
        tame_now (λ d s1. done tt (placed_word false (address_of p d) v s1)) (λ d s1. done tt (placed_word false (address_of p d) v s1))
        (λ d. tame_placed b false (address_of p d) v)
tame_cell b None v = tame_lost b

tame_assigned : (d : ℕ) (h : Here) (c e : Callee) → TameCalls d c e → (to : Target) (f g : ℕ → State → Outcome (List ℕ)) (k : ℕ)
    → ((j : ℕ) → Tame (suc d) (f j) (g j)) → Tame (suc d) (assigned h c to f k) (assigned h e to g k)
tame_assigned d h c e t (stat.Target.plain r) f g k u =
    tame_go (tame_target_index d h c e t r k) (λ i. tame_go (u (behind_index r k)) (λ vs.
    tame_go (tame_target (suc d) h (reference_name r) i) (λ p. tame_store (suc d) p (kept p.kind vs))))
tame_assigned d h c e t (stat.Target.field r start size) f g k u =
    tame_go (tame_target_index d h c e t r k) (λ i. tame_go (u (behind_index r k)) (λ vs.
    tame_go (tame_target (suc d) h (reference_name r) i) (λ p.
    tame_store_field (suc d) p (small_constant h.names start) (small_constant h.names size) vs)))
tame_assigned d h c e t (stat.Target.address x at) f g k u = tame_go (u k) (λ vs. tame_one (suc d) vs (λ v. tame_cell (suc d) (h.places x) v))

tame_intrinsic_value : (d : ℕ) (h : Here) (c e : Callee) → TameCalls d c e → (o : Sense) (es : Trees) (k : ℕ)
    → Tame (suc d) (intrinsic_value h c o es k) (intrinsic_value h e o es k)
tame_intrinsic_value d h c e t (an_intrinsic i) es k =
    tame_go (tame_arguments d h c e t (intrinsic_profile i).formals es (k + result_words (intrinsic_profile i))) (λ ws. tame_served (suc d) i ws)
tame_intrinsic_value d h c e t (a_constant v) es k = tame_lost (suc d)
tame_intrinsic_value d h c e t (a_call who p) es k = tame_lost (suc d)
tame_intrinsic_value d h c e t a_variable es k = tame_lost (suc d)

tame_alone_value : (d : ℕ) (h : Here) (c e : Callee) → TameCalls d c e → (x : Tree) (k : ℕ)
    → Tame (suc d) (alone_value h c x k) (alone_value h e x k)
tame_alone_value d h c e t (tree.Tree.named x es at) k = tame_intrinsic_value d h c e t (sense_of x (h.names x)) es k
tame_alone_value d h c e t (tree.Tree.number v) k = tame_lost (suc d)
tame_alone_value d h c e t (tree.Tree.wide v) k = tame_lost (suc d)
tame_alone_value d h c e t (tree.Tree.text bytes) k = tame_lost (suc d)
tame_alone_value d h c e t (tree.Tree.truth b) k = tame_lost (suc d)
tame_alone_value d h c e t (tree.Tree.address x es at) k = tame_lost (suc d)
tame_alone_value d h c e t (tree.Tree.unary op x at) k = tame_lost (suc d)
tame_alone_value d h c e t (tree.Tree.binary op a b at) k = tame_lost (suc d)
tame_alone_value d h c e t (tree.Tree.shift op x by at) k = tame_lost (suc d)
tame_alone_value d h c e t (tree.Tree.field x start size at) k = tame_lost (suc d)
tame_alone_value d h c e t (tree.Tree.transfer to x at) k = tame_lost (suc d)
tame_alone_value d h c e t (tree.Tree.bytes op a b count at) k = tame_lost (suc d)

tame_assign : (d : ℕ) (h : Here) (c e : Callee) → TameCalls d c e → (to : Target) (x : Tree) (k : ℕ)
    → Tame (suc d) (assign h c to x k) (assign h e to x k)
tame_assign d h c e t to x k =
    tame_if (is_intrinsic_alone h.names x && target_keeps_code h.names to)
    (tame_assigned d h c e t to (λ j s1. alone_value h c x j s1) (λ j s1. alone_value h e x j s1) k (λ j. tame_alone_value d h c e t x j))
    (tame_assigned d h c e t to (λ j s1. value h c x j s1) (λ j s1. value h e x j s1) k (λ j. tame_value d h c e t x j))

-- ---- calls, MOVE and SCAN

tame_value_dropped : (b : ℕ) {f g : State → Outcome (List ℕ)} → Tame b f g → Tame b (λ s. value_dropped (f s)) (λ s. value_dropped (g s))
tame_value_dropped b t = tame_go t (λ vs. tame_done {A = Unit {0}} b tt)

tame_call : (d : ℕ) (h : Here) (c e : Callee) → TameCalls d c e → (x : List ℕ) (es : Trees) (at : At) (k : ℕ)
    → Tame (suc d) (call_statement h c x es at k) (call_statement h e x es at k)
tame_call d h c e t x es at k =
    tame_if (is_intrinsic (h.names x)) (tame_value_dropped (suc d) (tame_intrinsic_value d h c e t (sense_of x (h.names x)) es k))
    (tame_value_dropped (suc d) (tame_value d h c e t (tree.Tree.named x es at) k))

tame_moved_far : (b : ℕ) (p : Located) {f g : State → Outcome Located} → Tame b f g → Tame b (λ s. moved_far p (f s)) (λ s. moved_far p (g s))
tame_moved_far b p t = tame_go t (λ end. tame_done b (distance end p.address ∷ []))

tame_effect : (d : ℕ) (h : Here) (c e : Callee) → TameCalls d c e → (used : Bool) (x : Effect) (k : ℕ)
    → Tame (suc d) (effect_done h c d used x k) (effect_done h e (suc d) used x k)
tame_effect d h c e t used (stat.Effect.move to (stat.Source.counted from count)) k =
    tame_go (tame_located d h c e t to k) (λ p. tame_go (tame_located d h c e t from (behind_first used k)) (λ q.
    tame_go (tame_value d h c e t count (behind_second used k)) (λ vs. tame_one (suc d) vs (λ size.
    tame_moved_far (suc d) p (tame_moved_by (suc d) size p q)))))
tame_effect d h c e t used (stat.Effect.move to (stat.Source.text bytes)) k =
    tame_go (tame_located d h c e t to k) (λ p. tame_moved_far (suc d) p (tame_moved_text (suc d) bytes p))
tame_effect d h c e t used (stat.Effect.move to (stat.Source.class_of from l)) k =
    tame_go (tame_located d h c e t to k) (λ p. tame_go (tame_located d h c e t from (behind_first used k)) (λ q.
    tame_moved_far (suc d) p (tame_moved_while (suc d) l p q)))
tame_effect d h c e t used (stat.Effect.scan from until test) k =
    tame_go (tame_located d h c e t from k) (λ p. tame_go (tame_value d h c e t test (behind_first used k)) (λ vs.
    tame_one (suc d) vs (λ w. tame_moved_far (suc d) p (tame_scanned (suc d) until w p))))

-- ---- loops, of more turns than steps are left

tame_looping : (b : ℕ) {f g : State → Outcome Bool} {h k : State → Outcome (Unit {0})} → Tame b f g → Tame b h k
    → Tame b (looping b f h) (looping (suc b) g k)
tame_looping zero t u =
    tame_nowhere (calm_step (calm_go (calm_less t.second) (λ b. calm_if b (calm_go (calm_less u.second) (λ _. calm_nowhere)) (calm_done 0 tt))))
tame_looping (suc b) t u =
    tame_step (tame_go (tame_less t) (λ x. tame_if x (tame_go (tame_less u) (λ _. tame_looping b (tame_less t) (tame_less u))) (tame_done b tt)))

tame_repeating : (b : ℕ) {f g : State → Outcome Bool} {h k : State → Outcome (Unit {0})} → Tame b f g → Tame b h k
    → Tame b (repeating b f h) (repeating (suc b) g k)
tame_repeating zero t u =
    tame_nowhere (calm_go u.second (λ _. calm_step (calm_go (calm_less t.second) (λ b. calm_if b (calm_done 0 tt) calm_nowhere))))
tame_repeating (suc b) t u =
    tame_go u (λ _. tame_step (tame_go (tame_less t) (λ x. tame_if x (tame_done b tt) (tame_repeating b (tame_less t) (tame_less u)))))

tame_condition : (d : ℕ) (h : Here) (c e : Callee) → TameCalls d c e → (x : Tree) (k : ℕ)
    → Tame (suc d) (condition h c x k) (condition h e x k)
tame_condition d h c e t x k = tame_go (tame_value d h c e t x k) (λ vs. tame_one (suc d) vs (λ w. tame_done (suc d) (is_odd w)))

tame_raised : (b : ℕ) (p : Located) (step : ℕ) → Tame b (raised p step) (raised p step)
tame_raised b p step =
    tame_go (tame_read b p) (λ vs. tame_one b vs (λ v. tame_go (tame_word_done b (added v step)) (λ ws. tame_store b p ws)))

tame_counting : (b : ℕ) (p : Located) (step limit : ℕ) {h k : State → Outcome (Unit {0})} → Tame b h k
    → Tame b (counting b p step limit h) (counting (suc b) p step limit k)
tame_counting zero p step limit u =
    tame_nowhere (calm_step (calm_go (tame_read 0 p).first (λ vs. calm_one 0 vs (λ v. calm_if (goes_on step limit v)
    (calm_go (calm_less u.second) (λ _. calm_go (tame_raised 0 p step).first (λ _. calm_nowhere))) (calm_done 0 tt)))))
tame_counting (suc b) p step limit u =
    tame_step (tame_go (tame_read b p) (λ vs. tame_one b vs (λ v. tame_if (goes_on step limit v)
    (tame_go (tame_less u) (λ _. tame_go (tame_raised b p step) (λ _. tame_counting b p step limit (tame_less u)))) (tame_done b tt))))

tame_loop_step : (d : ℕ) (h : Here) (c e : Callee) → TameCalls d c e → (es : Trees) (k : ℕ)
    → Tame (suc d) (loop_step h c es k) (loop_step h e es k)
tame_loop_step d h c e t tree.Trees.none k = tame_done (suc d) (1 ∷ [])
tame_loop_step d h c e t (tree.Trees.and x es) k = tame_value d h c e t x k

tame_for : (d : ℕ) (h : Here) (c e : Callee) → TameCalls d c e → (x : List ℕ) (first : Tree) (step : Trees) (last : Tree)
    {f g : State → Outcome (Unit {0})} (k : ℕ) → Tame (suc d) f g
    → Tame (suc d) (for_loop h c d x first step last f k) (for_loop h e (suc d) x first step last g k)
tame_for d h c e t x first step last k u =
    tame_go (tame_value d h c e t first k) (λ vs. tame_go (tame_locate (suc d) h x None) (λ p. tame_go (tame_store (suc d) p vs) (λ _.
    tame_go (tame_loop_step d h c e t step (k + 1)) (λ us. tame_go (tame_value d h c e t last (k + 2)) (λ ws.
    tame_one (suc d) us (λ v. tame_one (suc d) ws (λ w. tame_counting (suc d) p v w u)))))))

-- ---- jumps

within_if : {A : Type 0} (n : ℕ) (b : Bool) (o p : Outcome A) → Within n o → Within n p → Within n (if b then o else p)
within_if n true o p v w = v
within_if n false o p v w = w

grows_if : {A : Type 0} (s : State) (b : Bool) (o p : Outcome A) → Grows s o → Grows s p → Grows s (if b then o else p)
grows_if s true o p v w = v
grows_if s false o p v w = w

more_if : {A : Type 0} (b : Bool) (o p q r : Outcome A) → OneMore o q → OneMore p r → OneMore (if b then o else p) (if b then q else r)
more_if true o p q r v w = v
more_if false o p q r v w = w

-- a jump that is taken has taken a step
within_landing : (d n : ℕ) (has : List ℕ → Bool) (from : List ℕ → State → Outcome (Unit {0})) (o : Outcome (Unit {0})) → n < suc d
    → Within n o → ((x : List ℕ) → Calm (suc d) (from x)) → Within n (landing d has from o)
within_landing zero n has from (leaves (to_label x) s) l w c = absurd (omega (arith, l, w))
within_landing (suc d) n has from (leaves (to_label x) s) l w c =
    within_if n (has x) (landing d has from (from x s)) (leaves (to_label x) s)
    (within_on s.left n (landing d has from (from x s))
    (within_landing d s.left has from (from x s) (omega (arith, l, w)) ((c x).within s (omega (arith, l, w))) (λ y. calm_less (c y)))
    (omega (arith, w)))
    w
within_landing zero n has from (leaves back s) l w c = w
within_landing (suc d) n has from (leaves back s) l w c = w
within_landing zero n has from (done a s) l w c = w
within_landing (suc d) n has from (done a s) l w c = w
within_landing zero n has from (spent s) l w c = w
within_landing (suc d) n has from (spent s) l w c = w
within_landing zero n has from (ends e s) l w c = w
within_landing (suc d) n has from (ends e s) l w c = w
within_landing zero n has from (strays s) l w c = w
within_landing (suc d) n has from (strays s) l w c = w

grows_landing : (d n : ℕ) (has : List ℕ → Bool) (from : List ℕ → State → Outcome (Unit {0})) (s : State) (o : Outcome (Unit {0}))
    → n < suc d → Within n o → Grows s o → ((x : List ℕ) → Calm (suc d) (from x)) → Grows s (landing d has from o)
grows_landing zero n has from s (leaves (to_label x) t) l w g c = absurd (omega (arith, l, w))
grows_landing (suc d) n has from s (leaves (to_label x) t) l w g c =
    grows_if s (has x) (landing d has from (from x t)) (leaves (to_label x) t)
    (grows_on s t (landing d has from (from x t)) g
    (grows_landing d t.left has from t (from x t) (omega (arith, l, w)) ((c x).within t (omega (arith, l, w)))
    ((c x).grows t (omega (arith, l, w))) (λ y. calm_less (c y))))
    g
grows_landing zero n has from s (leaves back t) l w g c = g
grows_landing (suc d) n has from s (leaves back t) l w g c = g
grows_landing zero n has from s (done a t) l w g c = g
grows_landing (suc d) n has from s (done a t) l w g c = g
grows_landing zero n has from s (spent t) l w g c = g
grows_landing (suc d) n has from s (spent t) l w g c = g
grows_landing zero n has from s (ends e t) l w g c = g
grows_landing (suc d) n has from s (ends e t) l w g c = g
grows_landing zero n has from s (strays t) l w g c = g
grows_landing (suc d) n has from s (strays t) l w g c = g

-- without a step left no jump is made
rests_landing : (d : ℕ) (has : List ℕ → Bool) (from : List ℕ → State → Outcome (Unit {0})) (s : State) (o : Outcome (Unit {0}))
    → Within 0 o → Rests 0 s o → Rests 0 s (landing d has from o)
rests_landing d has from s (leaves x t) w r = absurd (omega (arith, w))
rests_landing zero has from s (done a t) w r = r
rests_landing (suc d) has from s (done a t) w r = r
rests_landing zero has from s (spent t) w r = r
rests_landing (suc d) has from s (spent t) w r = r
rests_landing zero has from s (ends e t) w r = r
rests_landing (suc d) has from s (ends e t) w r = r
rests_landing zero has from s (strays t) w r = r
rests_landing (suc d) has from s (strays t) w r = r

-- what a state comes to by one step
abbrev Beyond : State → Outcome (Unit {0}) → Type 0
Beyond s o = AtMost 0 o × Grows s o × Rests 1 s o

-- a jump that spent the last step is taken, and nothing more
spent_landing : (d : ℕ) (has : List ℕ → Bool) (from : List ℕ → State → Outcome (Unit {0})) (s : State) (o : Outcome (Unit {0}))
    → Beyond s o → ((x : List ℕ) → Calm (suc d) (from x)) → Beyond s (landing (suc d) has from o)
spent_landing d has from s (leaves (to_label x) t) w c =
    let z : t.left ≡ 0 = omega (arith, w.0) in
    let went : Within 0 (from x t) = within_on t.left 0 (from x t) ((c x).within t (omega (arith, z))) w.0 in
    beyond_if (has x) (landing d has from (from x t)) (leaves (to_label x) t) (
      most_of 0 (landing d has from (from x t)) (within_landing d 0 has from (from x t) (omega arith) went c),
      grows_on s t (landing d has from (from x t)) w.1
          (grows_landing d 0 has from t (from x t) (omega arith) went ((c x).grows t (omega (arith, z))) c),
      rests_on 1 s t (landing d has from (from x t)) w.2 (rests_landing d has from t (from x t) went ((c x).rests t z (omega arith))),
    )
    w
  where
    beyond_if : (b : Bool) (o p : Outcome (Unit {0})) → Beyond s o → Beyond s p → Beyond s (if b then o else p)
    beyond_if true o p v w = v
    beyond_if false o p v w = w
spent_landing d has from s (leaves back t) w c = w
spent_landing d has from s (done a t) w c = w
spent_landing d has from s (spent t) w c = w
spent_landing d has from s (ends e t) w c = w
spent_landing d has from s (strays t) w c = w

alike_landing : (d n : ℕ) (has : List ℕ → Bool) (f g : List ℕ → State → Outcome (Unit {0})) (o : Outcome (Unit {0})) → n < suc d → Within n o
    → ((x : List ℕ) → Tame (suc d) (f x) (g x)) → landing (suc d) has g o ≡ landing d has f o
alike_landing zero n has f g (leaves (to_label x) s) l w t = absurd (omega (arith, l, w))
alike_landing (suc d) n has f g (leaves (to_label x) s) l w t =
    ap (λ (o : Outcome (Unit {0})). if has x then o else leaves (to_label x) s)
    (ap (landing (suc d) has g) ((t x).alike s (omega (arith, l, w)))
    ∙ alike_landing d s.left has f g (f x s) (omega (arith, l, w)) ((t x).first.within s (omega (arith, l, w))) (λ y. tame_less (t y)))
alike_landing zero n has f g (leaves back s) l w t = refl
alike_landing (suc d) n has f g (leaves back s) l w t = refl
alike_landing zero n has f g (done a s) l w t = refl
alike_landing (suc d) n has f g (done a s) l w t = refl
alike_landing zero n has f g (spent s) l w t = refl
alike_landing (suc d) n has f g (spent s) l w t = refl
alike_landing zero n has f g (ends e s) l w t = refl
alike_landing (suc d) n has f g (ends e s) l w t = refl
alike_landing zero n has f g (strays s) l w t = refl
alike_landing (suc d) n has f g (strays s) l w t = refl

more_landing : (d n : ℕ) (has : List ℕ → Bool) (f g : List ℕ → State → Outcome (Unit {0})) (o p : Outcome (Unit {0})) → n < suc d
    → Within n o → OneMore o p → ((x : List ℕ) → Tame (suc d) (f x) (g x)) → OneMore (landing d has f o) (landing (suc d) has g p)
more_landing zero n has f g (leaves (to_label x) s) p l w m t = absurd (omega (arith, l, w))
more_landing (suc d) n has f g (leaves (to_label x) s) p l w m t =
    subst (λ (q : Outcome (Unit {0})). OneMore (landing (suc d) has f (leaves (to_label x) s)) (landing (suc (suc d)) has g q)) (sym m)
    (more_if (has x) (landing d has f (f x s)) (leaves (to_label x) s) (landing (suc d) has g (g x (more s))) (leaves (to_label x) (more s))
    (more_landing d s.left has f g (f x s) (g x (more s)) (omega (arith, l, w)) ((t x).first.within s (omega (arith, l, w)))
    ((t x).shifts s (omega (arith, l, w))) (λ y. tame_less (t y)))
    refl)
more_landing zero n has f g (leaves back s) p l w m t = ap (landing 1 has g) m
more_landing (suc d) n has f g (leaves back s) p l w m t = ap (landing (suc (suc d)) has g) m
more_landing zero n has f g (done a s) p l w m t = ap (landing 1 has g) m
more_landing (suc d) n has f g (done a s) p l w m t = ap (landing (suc (suc d)) has g) m
more_landing zero n has f g (spent s) p l w m t = spent_landing zero has g s p m (λ x. calm_less (t x).second)
more_landing (suc d) n has f g (spent s) p l w m t = spent_landing (suc d) has g s p m (λ x. calm_less (t x).second)
more_landing zero n has f g (ends e s) p l w m t = ap (landing 1 has g) m
more_landing (suc d) n has f g (ends e s) p l w m t = ap (landing (suc (suc d)) has g) m
more_landing zero n has f g (strays s) p l w m t = ap (landing 1 has g) m
more_landing (suc d) n has f g (strays s) p l w m t = ap (landing (suc (suc d)) has g) m

tame_landing : (d : ℕ) (has : List ℕ → Bool) {f g : List ℕ → State → Outcome (Unit {0})} {h k : State → Outcome (Unit {0})}
    → ((x : List ℕ) → Tame (suc d) (f x) (g x)) → Tame (suc d) h k → Tame (suc d) (λ s. landing d has f (h s)) (λ s. landing (suc d) has g (k s))
tame_landing d has {f = f} {g = g} {h = h} {k = k} t u = record {
  first = record {
    within = λ s l. within_landing d s.left has f (h s) l (u.first.within s l) (λ x. (t x).first);
    grows = λ s l. grows_landing d s.left has f s (h s) l (u.first.within s l) (u.first.grows s l) (λ x. (t x).first);
    rests = λ s e l.
        rests_landing d has f s (h s) (within_on s.left 0 (h s) (u.first.within s (omega (arith, e))) (omega (arith, e))) (u.first.rests s e l);
  };
  second = record {
    within = λ s l. within_landing (suc d) s.left has g (k s) l (u.second.within s l) (λ x. (t x).second);
    grows = λ s l. grows_landing (suc d) s.left has g s (k s) l (u.second.within s l) (u.second.grows s l) (λ x. (t x).second);
    rests = λ s e l.
        rests_landing (suc d) has g s (k s) (within_on s.left 0 (k s) (u.second.within s (omega (arith, e))) (omega (arith, e)))
        (u.second.rests s e l);
  };
  shifts = λ s l. more_landing d s.left has f g (h s) (k (more s)) l (u.first.within s l) (u.shifts s l) t;
  alike = λ s l. ap (landing (suc d) has g) (u.alike s l) ∙ alike_landing d s.left has f g (h s) l (u.first.within s l) t;
}

-- a way out takes the step of its statement
tame_leaves : (d i : ℕ) (at : At) (x : Exit) → Tame {A = Unit {0}} (suc d) (λ s. stopping i at s (λ s1. leaves x s1)) (λ s. stopping i at s (λ s1. leaves x s1))
tame_leaves d i at x = record {
  first = calm (suc d);
  second = calm (suc (suc d));
  shifts = λ s l. shift s.left s refl;
  alike = λ s l. refl;
}
  where
    left : (n : ℕ) (s : State) → s.left ≡ n → Within {A = Unit {0}} n (step_of n s (λ s1. leaves x (without_code (noted i at s1))))
    left zero s e = omega (arith, e)
    left (suc n) s e = omega arith

    more_log : (s : State) (n : ℕ) → Grown s (without_code (noted i at (record s { left = n })))
    more_log s n = record {
      prints = [];
      printed = sym (append-nil s.now.printed);
      log = record { number = i; at = at; data' = s.now; code = s.code } ∷ [];
      begun = refl;
    }

    grown : (n : ℕ) (s : State) → Grows {A = Unit {0}} s (step_of n s (λ s1. leaves x (without_code (noted i at s1))))
    grown zero s = grown_same s
    grown (suc n) s = more_log s n

    rests : (n : ℕ) (s : State) → n ≡ 0 → Rests {A = Unit {0}} 0 s (step_of n s (λ s1. leaves x (without_code (noted i at s1))))
    rests zero s e = few_same 1 0 s
    rests (suc n) s e = absurd (omega (arith, e))

    calm : (b : ℕ) → Calm {A = Unit {0}} b (λ s. stopping i at s (λ s1. leaves x s1))
    calm b = record { within = λ s l. left s.left s refl; grows = λ s l. grown s.left s; rests = λ s e l. rests s.left s e }

    shift : (n : ℕ) (s : State) → s.left ≡ n
        → OneMore {A = Unit {0}} (step_of n s (λ s1. leaves x (without_code (noted i at s1)))) (step_of (suc n) (more s) (λ s1. leaves x (without_code (noted i at s1))))
    shift zero s e = let one : Few 0 1 s (noted i at s) = few_noted i at s in (omega arith, more_log s 0, record { prints = one.prints; log = one.log })
    shift (suc n) s e = refl

-- ---- statements

tame_tested : (b op : ℕ) (o : Option Code) {g h : Bool → State → Outcome (Unit {0})} → ((x : Bool) → Tame b (g x) (h x))
    → Tame b (λ s. code_tested op o s g) (λ s. code_tested op o s h)
tame_tested b op (Some c) t = t (related op c)
tame_tested b op None t = tame_lost b

-- a test of the condition code, by the code that it finds
abbrev tested : ℕ → (Bool → State → Outcome (Unit {0})) → Option Code → State → Outcome (Unit {0})
tested op g o s1 = code_tested op o s1 (λ x s2. g x (without_code s2))

tame_deciding : (d i : ℕ) (h : Here) (c e : Callee) → TameCalls d c e → (q : Test) (at : At) (k : ℕ)
    (f g : Bool → State → Outcome (Unit {0})) → ((x : Bool) → Tame (suc d) (f x) (g x))
    → Tame (suc d) (λ s. deciding h c i q at k s f) (λ s. deciding h e i q at k s g)
tame_deciding d i h c e t (stat.Test.condition x) at k f g u =
    tame_stop i at (tame_less (tame_go (tame_condition d h c e t x k) u))
tame_deciding d i h c e t (stat.Test.code op) at k f g u =
    tame_noted i at (tame_coded (tested op f) (tested op g) (λ o. tame_tested d op o (λ x. tame_in keeps_without_code (tame_less (u x)))))

mutual
  pub tame_run : (d i : ℕ) (h : Here) (c e : Callee) → TameCalls d c e → (st : Statement) (k : ℕ)
      → Tame (suc d) (run h c d i st k) (run h e (suc d) i st k)
  tame_run d i h c e t stat.Statement.empty k = tame_begin (tame_done {A = Unit {0}} d tt)
  tame_run d i h c e t (stat.Statement.labelled x at st) k = tame_begin (tame_less (tame_run d i h c e t st k))
  tame_run d i h c e t (stat.Statement.block ss) k =
      tame_begin (tame_less (tame_dropped (tame_landing d (bears_among ss) (λ x. tame_run_from d i h c e t ss x k) (tame_run_all d i h c e t ss k))))
  tame_run d i h c e t (stat.Statement.if_test q then_part else_part at) k =
      tame_deciding d i h c e t q at k
      (λ b s1. code_dropped (if b then run h c d (i + 1) then_part k s1 else run_all h c d (i + 1 + stops then_part) else_part k s1))
      (λ b s1. code_dropped (if b then run h e (suc d) (i + 1) then_part k s1 else run_all h e (suc d) (i + 1 + stops then_part) else_part k s1))
      (λ b. tame_dropped (tame_if b (tame_run d (i + 1) h c e t then_part k) (tame_run_all d (i + 1 + stops then_part) h c e t else_part k)))
  tame_run d i h c e t (stat.Statement.while_true x st at) k =
      tame_begin (tame_less (tame_looping (suc d) (tame_condition d h c e t x k) (tame_dropped (tame_run d i h c e t st k))))
  tame_run d i h c e t (stat.Statement.until_true st x at) k =
      tame_begin (tame_less (tame_repeating (suc d) (tame_condition d h c e t x k) (tame_dropped (tame_run d i h c e t st k))))
  tame_run d i h c e t (stat.Statement.for_values x first step last st at) k =
      tame_stop i at (tame_less (tame_for d h c e t x first step last k (tame_dropped (tame_run d (i + 1) h c e t st (k + 3)))))
  tame_run d i h c e t (stat.Statement.case_of x ss at) k =
      tame_stop i at (tame_less (tame_go (tame_value d h c e t x k) (λ vs. tame_one (suc d) vs (λ w.
      tame_dropped (tame_landing d (bears_among ss) (λ x. tame_run_bearer d (i + 1) h c e t ss x k) (tame_run_arm d (i + 1) h c e t ss w k))))))
  tame_run d i h c e t (stat.Statement.go_to x at) k = tame_leaves d i at (to_label x)
  tame_run d i h c e t (stat.Statement.return at) k = tame_leaves d i at back
  tame_run d i h c e t (stat.Statement.assign to x at) k = tame_stop i at (tame_less (tame_assign d h c e t to x k))
  tame_run d i h c e t (stat.Statement.assign_effect to x at) k =
      tame_stop i at (tame_less (tame_assigned d h c e t to (λ j s2. effect_done h c d true x j s2) (λ j s2. effect_done h e (suc d) true x j s2) k
      (λ j. tame_effect d h c e t true x j)))
  tame_run d i h c e t (stat.Statement.do_effect x at) k =
      tame_stop i at (tame_less (tame_value_dropped (suc d) (tame_effect d h c e t false x k)))
  tame_run d i h c e t (stat.Statement.call x es at) k = tame_stop i at (tame_less (tame_call d h c e t x es at k))

  pub tame_run_all : (d i : ℕ) (h : Here) (c e : Callee) → TameCalls d c e → (ss : Statements) (k : ℕ)
      → Tame (suc d) (run_all h c d i ss k) (run_all h e (suc d) i ss k)
  tame_run_all d i h c e t stat.Statements.none k = tame_done {A = Unit {0}} (suc d) tt
  tame_run_all d i h c e t (stat.Statements.and st ss) k = tame_go (tame_run d i h c e t st k) (λ _. tame_run_all d (i + stops st) h c e t ss k)

  tame_run_from : (d i : ℕ) (h : Here) (c e : Callee) → TameCalls d c e → (ss : Statements) (x : List ℕ) (k : ℕ)
      → Tame (suc d) (run_from h c d i ss x k) (run_from h e (suc d) i ss x k)
  tame_run_from d i h c e t stat.Statements.none x k = tame_lost (suc d)
  tame_run_from d i h c e t (stat.Statements.and st ss) x k =
      tame_if (bears st x) (tame_go (tame_run_at d i h c e t st x k) (λ _. tame_run_all d (i + stops st) h c e t ss k)) (tame_run_from d (i + stops st) h c e t ss x k)

  tame_run_at : (d i : ℕ) (h : Here) (c e : Callee) → TameCalls d c e → (st : Statement) (x : List ℕ) (k : ℕ)
      → Tame (suc d) (run_at h c d i st x k) (run_at h e (suc d) i st x k)
  tame_run_at d i h c e t (stat.Statement.labelled y at st) x k =
      tame_if (same_name x y) (tame_begin (tame_less (tame_run d i h c e t st k))) (tame_run_at d i h c e t st x k)
  tame_run_at d i h c e t stat.Statement.empty x k = tame_lost (suc d)
  tame_run_at d i h c e t (stat.Statement.block ss) x k = tame_lost (suc d)
  tame_run_at d i h c e t (stat.Statement.if_test q then_part else_part at) x k = tame_lost (suc d)
  tame_run_at d i h c e t (stat.Statement.while_true y st at) x k = tame_lost (suc d)
  tame_run_at d i h c e t (stat.Statement.until_true st y at) x k = tame_lost (suc d)
  tame_run_at d i h c e t (stat.Statement.for_values y first step last st at) x k = tame_lost (suc d)
  tame_run_at d i h c e t (stat.Statement.case_of y ss at) x k = tame_lost (suc d)
  tame_run_at d i h c e t (stat.Statement.go_to y at) x k = tame_lost (suc d)
  tame_run_at d i h c e t (stat.Statement.return at) x k = tame_lost (suc d)
  tame_run_at d i h c e t (stat.Statement.assign to y at) x k = tame_lost (suc d)
  tame_run_at d i h c e t (stat.Statement.assign_effect to y at) x k = tame_lost (suc d)
  tame_run_at d i h c e t (stat.Statement.do_effect y at) x k = tame_lost (suc d)
  tame_run_at d i h c e t (stat.Statement.call y es at) x k = tame_lost (suc d)

  tame_run_bearer : (d i : ℕ) (h : Here) (c e : Callee) → TameCalls d c e → (ss : Statements) (x : List ℕ) (k : ℕ)
      → Tame (suc d) (run_bearer h c d i ss x k) (run_bearer h e (suc d) i ss x k)
  tame_run_bearer d i h c e t stat.Statements.none x k = tame_lost (suc d)
  tame_run_bearer d i h c e t (stat.Statements.and st ss) x k =
      tame_if (bears st x) (tame_run_at d i h c e t st x k) (tame_run_bearer d (i + stops st) h c e t ss x k)

  tame_run_arm : (d i : ℕ) (h : Here) (c e : Callee) → TameCalls d c e → (ss : Statements) (j k : ℕ)
      → Tame (suc d) (run_arm h c d i ss j k) (run_arm h e (suc d) i ss j k)
  tame_run_arm d i h c e t stat.Statements.none j k = tame_done {A = Unit {0}} (suc d) tt
  tame_run_arm d i h c e t (stat.Statements.and st ss) zero k = tame_run d i h c e t st k
  tame_run_arm d i h c e t (stat.Statements.and st ss) (suc j) k = tame_run_arm d (i + stops st) h c e t ss j k

-- a body
pub tame_body : (d i : ℕ) (h : Here) (c e : Callee) → TameCalls d c e → (ss : Statements)
    → Tame (suc d) (run_body h c d i ss) (run_body h e (suc d) i ss)
tame_body d i h c e t ss = tame_landing d (bears_among ss) (λ x. tame_run_from d i h c e t ss x 0) (tame_run_all d i h c e t ss 0)
