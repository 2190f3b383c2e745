-- What statements do. Each spends a step as it begins; so does each test of a loop. `d` is as large as the steps that are left and
-- bounds the jumps within a list; the turns of loops are bounded by one more.
use Rattle.std.specs.Prelude.{ℕ, zero, suc, ◌+◌, ◌&&◌, Bool, true, false, if◌then◌else◌, int_lt, int_le, pos, List, [], ◌∷◌, Option, Some, None}
use Rattle.hp_word.specs.Words.{signed, added}
use Rattle.hp_word.specs.declared.arithmetic.Code.{Code}
use Rattle.spl_tree.specs.declared.names_and_places.At.{At}
use Rattle.spl_tree.specs.declared.expressions.Kind.{Kind}
use Rattle.spl_tree.specs.declared.expressions.Kind.TheVariants as kind
use Rattle.spl_tree.specs.Trees as tree
use Rattle.spl_tree.specs.Trees.{Tree, Trees}
use Rattle.spl_tree.specs.StatementTrees as stat
use Rattle.spl_tree.specs.StatementTrees.{Statement, Statements, Target, Source, Effect, Test}
use Rattle.spl_meaning.specs.Names as n
use Rattle.spl_meaning.specs.Names.{Names, Sort, same_name, intrinsic_profile}
use Rattle.spl_meaning.specs.Pending.{behind_index, behind_first, behind_second, result_words}
use Rattle.spl_meaning.specs.Stops.{stops}
use Rattle.spl_meaning.specs.Places.{Place}
use Rattle.spl_meaning.specs.References.{Here, Located, address_of, read, store, store_field, placed_word, word_at, locate, locate_target}
use Rattle.spl_meaning.specs.Operations.{is_odd, kept, word_done, related}
use Rattle.spl_meaning.specs.Elements.{with_one, distance, moved_by, moved_text, moved_while, scanned}
use Rattle.spl_meaning.specs.Serving.{served}
use Rattle.spl_meaning.specs.Values.{Callee, Sense, an_intrinsic, sense_of, small_constant, value, located, index, arguments}
use Rattle.spl_meaning.specs.States.{State, to_label, back, Outcome, done, leaves, spent, has_no_meaning, then_go, stepping, without_code, noted, beginning, stopping, code_dropped}

-- ---- assignments

-- the index of a target
abbrev pub target_index : Here → Callee → Tree → ℕ → State → Outcome (Option ℕ)
target_index h call (tree.Tree.named x es at) k s = index h call es k s
target_index h call _ k s = has_no_meaning s

-- the name of a reference
abbrev pub reference_name : Tree → List ℕ
reference_name (tree.Tree.named x es at) = x
reference_name _ = []

-- a word in the cell of a pointer
abbrev pub cell_stored : Option Place → ℕ → State → Outcome (Unit {0})
cell_stored (Some p) v s = then_go (word_at false (address_of p s.now) s) (λ _ s1. done tt (placed_word false (address_of p s1.now) v s1))
cell_stored None v s = has_no_meaning s

-- The index of a target is worked out first, then the value; then the cell is read, and the value is stored.
abbrev pub assigned : Here → Callee → Target → (ℕ → State → Outcome (List ℕ)) → ℕ → State → Outcome (Unit {0})
assigned h call (stat.Target.plain r) value_at k s =
    then_go (target_index h call r k s) (λ i s1. then_go (value_at (behind_index r k) s1) (λ vs s2.
    then_go (locate_target h (reference_name r) i s2) (λ p s3. store p (kept p.kind vs) s3)))
assigned h call (stat.Target.field r start size) value_at k s =
    then_go (target_index h call r k s) (λ i s1. then_go (value_at (behind_index r k) s1) (λ vs s2.
    then_go (locate_target h (reference_name r) i s2) (λ p s3.
    store_field p (small_constant h.names start) (small_constant h.names size) vs s3)))
assigned h call (stat.Target.address x at) value_at k s =
    then_go (value_at k s) (λ vs s1. with_one vs s1 (λ v s2. cell_stored (h.places x) v s2))

-- An assignment of an intrinsic alone to a variable by itself, but a BYTE, keeps the condition code of the call.
abbrev pub is_intrinsic : Option Sort → Bool
is_intrinsic (Some (n.intrinsic i)) = true
is_intrinsic _ = false

-- a kind that is not BYTE
abbrev pub is_not_byte : Kind → Bool
is_not_byte kind.Byte = false
is_not_byte _ = true

-- a result that has a kind which is not BYTE
abbrev pub is_not_byte_result : Option Kind → Bool
is_not_byte_result (Some k) = is_not_byte k
is_not_byte_result None = false

-- a simple variable, a parameter or a result, that is not BYTE
abbrev pub keeps_code : Option Sort → Bool
keeps_code (Some (n.simple k own)) = is_not_byte k
keeps_code (Some (n.value k)) = is_not_byte k
keeps_code (Some (n.by_reference k)) = is_not_byte k
keeps_code (Some (n.procedure p)) = is_not_byte_result p.result
keeps_code (Some (n.subroutine p)) = is_not_byte_result p.result
keeps_code _ = false

-- an expression that is a call of an intrinsic and nothing else
abbrev pub is_intrinsic_alone : Names → Tree → Bool
is_intrinsic_alone names (tree.Tree.named x es at) = is_intrinsic (names x)
is_intrinsic_alone names _ = false

-- a target that keeps the condition code
abbrev pub target_keeps_code : Names → Target → Bool
target_keeps_code names (stat.Target.plain (tree.Tree.named x tree.Trees.none at)) = keeps_code (names x)
target_keeps_code names _ = false

-- a value that ends with what an intrinsic left
abbrev pub intrinsic_value : Here → Callee → Sense → Trees → ℕ → State → Outcome (List ℕ)
intrinsic_value h call (an_intrinsic i) es k s =
    then_go (arguments h call (intrinsic_profile i).formals es (k + result_words (intrinsic_profile i)) s) (λ ws s1. served i ws s1)
intrinsic_value h call _ es k s = has_no_meaning s

-- the value of such an expression
abbrev pub alone_value : Here → Callee → Tree → ℕ → State → Outcome (List ℕ)
alone_value h call (tree.Tree.named x es at) k s = intrinsic_value h call (sense_of x (h.names x)) es k s
alone_value h call _ k s = has_no_meaning s

-- an assignment
abbrev pub assign : Here → Callee → Target → Tree → ℕ → State → Outcome (Unit {0})
assign h call to e k s =
    if is_intrinsic_alone h.names e && target_keeps_code h.names to
    then assigned h call to (λ j s1. alone_value h call e j s1) k s
    else assigned h call to (λ j s1. value h call e j s1) k s

-- ---- calls as statements: a value is dropped

-- a value that is not used
abbrev pub value_dropped : Outcome (List ℕ) → Outcome (Unit {0})
value_dropped o = then_go o (λ vs s. done tt s)

-- a call by itself
abbrev pub call_statement : Here → Callee → List ℕ → Trees → At → ℕ → State → Outcome (Unit {0})
call_statement h call x es at k s =
    if is_intrinsic (h.names x) then value_dropped (intrinsic_value h call (sense_of x (h.names x)) es k s)
    else value_dropped (value h call (tree.Tree.named x es at) k s)

-- ---- MOVE and SCAN: what each answers, where its answer is used or not

-- the end address of a target less its first
abbrev pub moved_far : Located → Outcome Located → Outcome (List ℕ)
moved_far p o = then_go o (λ end s. done (distance end p.address ∷ []) s)

-- a MOVE or a SCAN
abbrev pub effect_done : Here → Callee → ℕ → Bool → Effect → ℕ → State → Outcome (List ℕ)
effect_done h call d used (stat.Effect.move to (stat.Source.counted from count)) k s =
    then_go (located h call to k s) (λ p s1. then_go (located h call from (behind_first used k) s1) (λ q s2.
    then_go (value h call count (behind_second used k) s2) (λ vs s3. with_one vs s3 (λ size s4. moved_far p (moved_by size p q s4)))))
effect_done h call d used (stat.Effect.move to (stat.Source.text bytes)) k s =
    then_go (located h call to k s) (λ p s1. moved_far p (moved_text bytes p s1))
effect_done h call d used (stat.Effect.move to (stat.Source.class_of from c)) k s =
    then_go (located h call to k s) (λ p s1. then_go (located h call from (behind_first used k) s1) (λ q s2.
    moved_far p (moved_while (suc d) c p q s2)))
effect_done h call d used (stat.Effect.scan from until test) k s =
    then_go (located h call from k s) (λ p s1. then_go (value h call test (behind_first used k) s1) (λ vs s2.
    with_one vs s2 (λ w s3. moved_far p (scanned (suc d) until w p s3))))

-- ---- loops

-- tests and turns: a step, the test, and the body where the test holds
abbrev pub looping : ℕ → (State → Outcome Bool) → (State → Outcome (Unit {0})) → State → Outcome (Unit {0})
looping zero test body s = spent s
looping (suc d) test body s =
    stepping s (λ s1. then_go (test s1) (λ b s2. if b then then_go (body s2) (λ _ s3. looping d test body s3) else done tt s2))

-- a body, a step and the test, until it holds
abbrev pub repeating : ℕ → (State → Outcome Bool) → (State → Outcome (Unit {0})) → State → Outcome (Unit {0})
repeating zero test body s = spent s
repeating (suc d) test body s =
    then_go (body s) (λ _ s1. stepping s1 (λ s2. then_go (test s2) (λ b s3. if b then done tt s3 else repeating d test body s3)))

-- a condition: the lowest bit of its value
abbrev pub condition : Here → Callee → Tree → ℕ → State → Outcome Bool
condition h call e k s = then_go (value h call e k s) (λ vs s1. with_one vs s1 (λ w s2. done (is_odd w) s2))

-- a variable that counts goes on: it is at most the limit, or at least it where the step is negative
abbrev pub goes_on : ℕ → ℕ → ℕ → Bool
goes_on step limit v = if int_lt (signed step) (pos 0) then int_le (signed limit) (signed v) else int_le (signed v) (signed limit)

-- the step is added to a variable
abbrev pub raised : Located → ℕ → State → Outcome (Unit {0})
raised p step s =
    then_go (read p s) (λ vs s1. with_one vs s1 (λ v s2. then_go (word_done (added v step) s2) (λ ws s3. store p ws s3)))

-- a loop over a variable: a step, the test, the body, and the variable is raised
abbrev pub counting : ℕ → Located → ℕ → ℕ → (State → Outcome (Unit {0})) → State → Outcome (Unit {0})
counting zero p step limit body s = spent s
counting (suc d) p step limit body s =
    stepping s (λ s1. then_go (read p s1) (λ vs s2. with_one vs s2 (λ v s3.
    if goes_on step limit v
    then then_go (body s3) (λ _ s4. then_go (raised p step s4) (λ _ s5. counting d p step limit body s5))
    else done tt s3)))

-- the step of a loop, 1 where there is none
abbrev pub loop_step : Here → Callee → Trees → ℕ → State → Outcome (List ℕ)
loop_step h call tree.Trees.none k s = done (1 ∷ []) s
loop_step h call (tree.Trees.and e es) k s = value h call e k s

-- a FOR: its value, the variable's address, the store, the step and the limit, and then the turns
abbrev pub for_loop : Here → Callee → ℕ → List ℕ → Tree → Trees → Tree → (State → Outcome (Unit {0})) → ℕ → State → Outcome (Unit {0})
for_loop h call d x first step last body k s =
    then_go (value h call first k s) (λ vs s1. then_go (locate h x None s1) (λ p s2. then_go (store p vs s2) (λ _ s3.
    then_go (loop_step h call step (k + 1) s3) (λ us s4. then_go (value h call last (k + 2) s4) (λ ws s5.
    with_one us s5 (λ u s6. with_one ws s6 (λ w s7. counting (suc d) p u w body s7)))))))

-- ---- labels

-- a statement bears its labels
abbrev pub bears : Statement → List ℕ → Bool
bears (stat.Statement.labelled y at s) x = if same_name x y then true else bears s x
bears _ x = false

-- a list bears the labels of its statements
abbrev pub bears_among : Statements → List ℕ → Bool
bears_among stat.Statements.none x = false
bears_among (stat.Statements.and s ss) x = if bears s x then true else bears_among ss x

-- a jump to a label that is borne here is taken here, and again
abbrev pub landing : ℕ → (List ℕ → Bool) → (List ℕ → State → Outcome (Unit {0})) → Outcome (Unit {0}) → Outcome (Unit {0})
landing zero has from (leaves (to_label x) s) = if has x then spent s else leaves (to_label x) s
landing (suc d) has from (leaves (to_label x) s) = if has x then landing d has from (from x s) else leaves (to_label x) s
landing d has from o = o

-- ---- statements

-- the condition code answers a relation by its number
abbrev pub code_tested : ℕ → Option Code → State → (Bool → State → Outcome (Unit {0})) → Outcome (Unit {0})
code_tested op (Some c) s go = go (related op c) s
code_tested op None s go = has_no_meaning s

-- a test of the condition code, or of a condition, in the statement with this number
abbrev pub deciding : Here → Callee → ℕ → Test → At → ℕ → State → (Bool → State → Outcome (Unit {0})) → Outcome (Unit {0})
deciding h call i (stat.Test.condition e) at k s go = stopping i at s (λ s1. then_go (condition h call e k s1) go)
deciding h call i (stat.Test.code op) at k s go =
    stepping s (λ s1. code_tested op s1.code (noted i at s1) (λ b s2. go b (without_code s2)))

-- The first statement of each that can be stopped at has the number `i`; those behind it count on.
abbrev mutual
  -- a statement
  pub run : Here → Callee → ℕ → ℕ → Statement → ℕ → State → Outcome (Unit {0})
  run h call d i stat.Statement.empty k s = beginning s (λ s1. done tt s1)
  run h call d i (stat.Statement.labelled x at st) k s = beginning s (λ s1. run h call d i st k s1)
  run h call d i (stat.Statement.block ss) k s =
      beginning s (λ s1. code_dropped (landing d (bears_among ss) (λ x s2. run_from h call d i ss x k s2) (run_all h call d i ss k s1)))
  run h call d i (stat.Statement.if_test q then_part else_part at) k s =
      deciding h call i q at k s (λ b s1. code_dropped (
      if b then run h call d (i + 1) then_part k s1 else run_all h call d (i + 1 + stops then_part) else_part k s1))
  run h call d i (stat.Statement.while_true e st at) k s =
      beginning s (λ s1. looping (suc d) (λ s2. condition h call e k s2) (λ s2. code_dropped (run h call d i st k s2)) s1)
  run h call d i (stat.Statement.until_true st e at) k s =
      beginning s (λ s1. repeating (suc d) (λ s2. condition h call e k s2) (λ s2. code_dropped (run h call d i st k s2)) s1)
  run h call d i (stat.Statement.for_values x first step last st at) k s =
      stopping i at s (λ s1. for_loop h call d x first step last (λ s2. code_dropped (run h call d (i + 1) st (k + 3) s2)) k s1)
  run h call d i (stat.Statement.case_of e ss at) k s =
      stopping i at s (λ s1. then_go (value h call e k s1) (λ vs s2. with_one vs s2 (λ w s3.
      code_dropped (landing d (bears_among ss) (λ x s4. run_bearer h call d (i + 1) ss x k s4) (run_arm h call d (i + 1) ss w k s3)))))
  run h call d i (stat.Statement.go_to x at) k s = stopping i at s (λ s1. leaves (to_label x) s1)
  run h call d i (stat.Statement.return at) k s = stopping i at s (λ s1. leaves back s1)
  run h call d i (stat.Statement.assign to e at) k s = stopping i at s (λ s1. assign h call to e k s1)
  run h call d i (stat.Statement.assign_effect to e at) k s =
      stopping i at s (λ s1. assigned h call to (λ j s2. effect_done h call d true e j s2) k s1)
  run h call d i (stat.Statement.do_effect e at) k s = stopping i at s (λ s1. value_dropped (effect_done h call d false e k s1))
  run h call d i (stat.Statement.call x es at) k s = stopping i at s (λ s1. call_statement h call x es at k s1)

  -- the statements of a list, one after the other
  pub run_all : Here → Callee → ℕ → ℕ → Statements → ℕ → State → Outcome (Unit {0})
  run_all h call d i stat.Statements.none k s = done tt s
  run_all h call d i (stat.Statements.and st ss) k s = then_go (run h call d i st k s) (λ _ s1. run_all h call d (i + stops st) ss k s1)

  -- a list from the statement that bears a label on
  pub run_from : Here → Callee → ℕ → ℕ → Statements → List ℕ → ℕ → State → Outcome (Unit {0})
  run_from h call d i stat.Statements.none x k s = has_no_meaning s
  run_from h call d i (stat.Statements.and st ss) x k s =
      if bears st x then then_go (run_at h call d i st x k s) (λ _ s1. run_all h call d (i + stops st) ss k s1)
      else run_from h call d (i + stops st) ss x k s

  -- a statement from one of its labels on
  pub run_at : Here → Callee → ℕ → ℕ → Statement → List ℕ → ℕ → State → Outcome (Unit {0})
  run_at h call d i (stat.Statement.labelled y at st) x k s =
      if same_name x y then beginning s (λ s1. run h call d i st k s1) else run_at h call d i st x k s
  run_at h call d i _ x k s = has_no_meaning s

  -- the statement of a CASE that bears a label
  pub run_bearer : Here → Callee → ℕ → ℕ → Statements → List ℕ → ℕ → State → Outcome (Unit {0})
  run_bearer h call d i stat.Statements.none x k s = has_no_meaning s
  run_bearer h call d i (stat.Statements.and st ss) x k s =
      if bears st x then run_at h call d i st x k s else run_bearer h call d (i + stops st) ss x k s

  -- the statement of a CASE with this index, if there is one
  pub run_arm : Here → Callee → ℕ → ℕ → Statements → ℕ → ℕ → State → Outcome (Unit {0})
  run_arm h call d i stat.Statements.none j k s = done tt s
  run_arm h call d i (stat.Statements.and st ss) zero k s = run h call d i st k s
  run_arm h call d i (stat.Statements.and st ss) (suc j) k s = run_arm h call d (i + stops st) ss j k s

-- a list that is a body: jumps within it are taken
abbrev pub run_body : Here → Callee → ℕ → ℕ → Statements → State → Outcome (Unit {0})
run_body h call d i ss s = landing d (bears_among ss) (λ x s1. run_from h call d i ss x 0 s1) (run_all h call d i ss 0 s)
