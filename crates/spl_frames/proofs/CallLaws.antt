-- Depths cover calls: callees that agree so far cannot be told apart.
use Rattle.std.proofs.Common.{ℕ, zero, suc, ◌≡◌, ◌≤◌, ◌+◌, ◌==◌, Bool, true, false, List, [], ◌∷◌, ◌++◌, Option, Some, None, refl, ap, subst, ◌∙◌, arith}
use Rattle.std.specs.Prelude.{max, if◌then◌else◌, ◌&&◌}
use Rattle.std.proofs.Math.Nat.{le-max_left, le-max_right}
use Rattle.spl_meaning.specs.hp_word.declared.arithmetic.Code.{Code}
use Rattle.spl_meaning.specs.spl_tree.declared.names_and_places.At.{At}
use Rattle.spl_meaning.specs.spl_tree.Trees as tree
use Rattle.spl_meaning.specs.spl_tree.Trees.{Tree, Trees}
use Rattle.spl_meaning.specs.spl_tree.StatementTrees as stat
use Rattle.spl_meaning.specs.spl_tree.StatementTrees.{Statement, Statements, Target, Source, Effect, Test}
use Rattle.spl_meaning.specs.Names as n
use Rattle.spl_meaning.specs.Names.{Names, Sort, Formal, Profile, same_name, intrinsic_profile, truth_word}
use Rattle.spl_meaning.specs.Kinds.{callable, kind_of, operand_width, is_connective, compares_text, relation_number, or_operator}
use Rattle.spl_meaning.specs.Pending.{by_value, formal_words, first_formal, other_formals, argument_words, profile_formals, profile_result_words, result_words, link_words, formals_words, left_words, most, most_of, behind_index, waiting, index_most, target_most, behind_first, behind_second, effect_most, test_most, trees_most, statement_most, statements_most}
use Rattle.spl_meaning.specs.Stops.{stops}
use Rattle.spl_meaning.specs.States.{State, Outcome, done, leaves, spent, ends, strays, to_label, back, then_go, step_of, stepping, beginning, stopping, noted, without_code, code_dropped}
use Rattle.spl_meaning.specs.References.{Here, Located, read, locate, locate_target, store, store_field}
use Rattle.spl_meaning.specs.Operations.{is_odd, joined, signed_done, shift_done, field_done, transferred, passed, kept, related}
use Rattle.spl_meaning.specs.Elements.{with_one, compared_by, compared_text, relation_told, moved_by, moved_text, moved_while, scanned}
use Rattle.spl_meaning.specs.Serving.{served}
use Rattle.spl_meaning.specs.Values.{Who, procedure, subroutine, Callee, a_call, sense_of, small_constant, as_index, named_value, address_done, connected, text_bytes, argument, value, located, index, arguments}
use Rattle.spl_meaning.specs.Statements.{target_index, reference_name, cell_stored, assigned, is_intrinsic, is_intrinsic_alone, target_keeps_code, intrinsic_value, alone_value, assign, value_dropped, call_statement, moved_far, effect_done, looping, repeating, condition, goes_on, raised, counting, loop_step, for_loop, bears, bears_among, landing, code_tested, deciding, run, run_all, run_from, run_at, run_bearer, run_arm}
use Rattle.spl_frames.specs.Waiting.{AgreeWithin, DepthsCoverCalls}
use Rattle.spl_frames.proofs.UseLaws.{waiting_is, first_is, second_is}

-- parts that do the same
abbrev Same : {A : Type 0} → (State → Outcome A) → (State → Outcome A) → Type 0
Same f g = (s : State) → f s ≡ g s

same_go : {A B : Type 0} (f g : State → Outcome A) (h k : A → State → Outcome B) → Same f g → ((a : A) → Same (h a) (k a))
    → Same (λ s. then_go (f s) h) (λ s. then_go (g s) k)
same_go {A = A} f g h k t u s = ap (λ (o : Outcome A). then_go o h) (t s) ∙ by (g s)
  where
    by : (o : Outcome A) → then_go o h ≡ then_go o k
    by (done a s) = u a s
    by (leaves x s) = refl
    by (spent s) = refl
    by (ends e s) = refl
    by (strays s) = refl

-- before the same
same_then : {A B : Type 0} (f g : State → Outcome A) (h : A → State → Outcome B) → Same f g → Same (λ s. then_go (f s) h) (λ s. then_go (g s) h)
same_then {A = A} f g h t s = ap (λ (o : Outcome A). then_go o h) (t s)

same_step : {A : Type 0} (f g : State → Outcome A) → Same f g → Same (λ s. stepping s f) (λ s. stepping s g)
same_step f g t s = by s.left
  where
    by : (k : ℕ) → step_of k s f ≡ step_of k s g
    by zero = refl
    by (suc k) = t (record s { left = k })

same_if : {A : Type 0} (c : Bool) (f g h k : State → Outcome A) → Same f g → Same h k
    → Same (λ s. if c then f s else h s) (λ s. if c then g s else k s)
same_if true f g h k t u s = t s
same_if false f g h k t u s = u s

same_one : {A : Type 0} (vs : List ℕ) (g h : ℕ → State → Outcome A) → ((w : ℕ) → Same (g w) (h w))
    → Same (λ s. with_one vs s g) (λ s. with_one vs s h)
same_one [] g h t s = refl
same_one (w ∷ []) g h t s = t w s
same_one (w ∷ x ∷ vs) g h t s = refl

-- ---- values: callees agree up to m, and no more waits

same_right : (f g : State → Outcome (List ℕ)) → Same f g
    → Same (λ s. then_go (f s) (λ us s2. with_one us s2 (λ u s3. done (truth_word (is_odd u) ∷ []) s3)))
    (λ s. then_go (g s) (λ us s2. with_one us s2 (λ u s3. done (truth_word (is_odd u) ∷ []) s3)))
same_right f g t = same_then f g (λ us s2. with_one us s2 (λ u s3. done (truth_word (is_odd u) ∷ []) s3)) t

same_connected : (op : ℕ) (vs : List ℕ) (f g : State → Outcome (List ℕ)) → Same f g → Same (λ s. connected op vs s f) (λ s. connected op vs s g)
same_connected op vs f g t =
    same_one vs
    (λ w s1. if op == or_operator
    then (if is_odd w then done (65535 ∷ []) s1 else then_go (f s1) (λ us s2. with_one us s2 (λ u s3. done (truth_word (is_odd u) ∷ []) s3)))
    else (if is_odd w then then_go (f s1) (λ us s2. with_one us s2 (λ u s3. done (truth_word (is_odd u) ∷ []) s3)) else done (0 ∷ []) s1))
    (λ w s1. if op == or_operator
    then (if is_odd w then done (65535 ∷ []) s1 else then_go (g s1) (λ us s2. with_one us s2 (λ u s3. done (truth_word (is_odd u) ∷ []) s3)))
    else (if is_odd w then then_go (g s1) (λ us s2. with_one us s2 (λ u s3. done (truth_word (is_odd u) ∷ []) s3)) else done (0 ∷ []) s1))
    (λ w s. by (op == or_operator) (is_odd w) s)
  where
    right : (State → Outcome (List ℕ)) → State → Outcome (List ℕ)
    right f s = then_go (f s) (λ us s2. with_one us s2 (λ u s3. done (truth_word (is_odd u) ∷ []) s3))

    by : (a b : Bool) (s : State)
        → (if a then (if b then done (65535 ∷ []) s else right f s) else (if b then right f s else done (0 ∷ []) s))
        ≡ (if a then (if b then done (65535 ∷ []) s else right g s) else (if b then right g s else done (0 ∷ []) s))
    by true true s = refl
    by true false s = same_right f g t s
    by false true s = same_right f g t s
    by false false s = refl

same_argument : (f : Formal) (a b : State → Outcome (List ℕ)) (p q : State → Outcome Located) → Same a b → Same p q
    → Same (argument f a p) (argument f b q)
same_argument f a b p q t u =
    same_if (by_value f) (λ s. then_go (a s) (λ vs s1. passed f.kind vs s1)) (λ s. then_go (b s) (λ vs s1. passed f.kind vs s1))
    (λ s. then_go (p s) address_done) (λ s. then_go (q s) address_done)
    (same_go a b (λ vs s1. passed f.kind vs s1) (λ vs s1. passed f.kind vs s1) t (λ vs s. refl))
    (same_go p q address_done address_done u (λ l s. refl))

same_variable : (h : Here) (x : List ℕ) (i j : State → Outcome (Option ℕ)) → Same i j
    → Same (λ s. then_go (i s) (λ a s1. then_go (locate h x a s1) (λ p s2. read p s2))) (λ s. then_go (j s) (λ a s1. then_go (locate h x a s1) (λ p s2. read p s2)))
same_variable h x i j t = same_go i j (λ a s1. then_go (locate h x a s1) (λ p s2. read p s2)) (λ a s1. then_go (locate h x a s1) (λ p s2. read p s2)) t (λ a s. refl)

-- what is called can be called
called_is : (x : List ℕ) (o : Option Sort) (who : Who) (p : Profile) → sense_of x o ≡ a_call who p → callable o ≡ Some p
called_is x (Some (n.procedure q)) who p e = let r : q ≡ p = cc in ap Some r
called_is x (Some (n.subroutine q)) who p e = let r : q ≡ p = cc in ap Some r
called_is x (Some (n.equate v)) who p e = cc
called_is x (Some (n.intrinsic g)) who p e = cc
called_is x (Some (n.simple l own)) who p e = cc
called_is x (Some (n.array l own low high)) who p e = cc
called_is x (Some (n.view l own base)) who p e = cc
called_is x (Some (n.pointer l own)) who p e = cc
called_is x (Some (n.value l)) who p e = cc
called_is x (Some (n.by_reference l)) who p e = cc
called_is x (Some (n.array_parameter l)) who p e = cc
called_is x (Some n.label) who p e = cc
called_is x (Some n.unknown) who p e = cc
called_is x None who p e = cc

-- a call of a name reaches as far as its profile says
named_same : (h : Here) (x : List ℕ) (o : Option Sort) (i j : State → Outcome (Option ℕ)) (f g : Profile → State → Outcome (List ℕ)) (c e : Callee) (k m : ℕ)
    → Same i j → ((p : Profile) → callable o ≡ Some p → Same (f p) (g p))
    → ((who : Who) (p : Profile) → sense_of x o ≡ a_call who p → (ws : List ℕ) (s : State) → c who ws k s ≡ e who ws k s)
    → Same (named_value h x (sense_of x o) i f c k) (named_value h x (sense_of x o) j g e k)
named_same h x (Some (n.equate v)) i j f g c e k m t u w = λ s. refl
named_same h x (Some (n.intrinsic z)) i j f g c e k m t u w = λ s.
    ap code_dropped (same_go (f (intrinsic_profile z)) (g (intrinsic_profile z)) (λ ws s1. served z ws s1) (λ ws s1. served z ws s1)
    (u (intrinsic_profile z) refl) (λ ws s. refl) s)
named_same h x (Some (n.procedure p)) i j f g c e k m t u w =
    same_step (λ s1. then_go (f p s1) (λ ws s2. c (procedure x) ws k s2)) (λ s1. then_go (g p s1) (λ ws s2. e (procedure x) ws k s2))
    (same_go (f p) (g p) (λ ws s2. c (procedure x) ws k s2) (λ ws s2. e (procedure x) ws k s2) (u p refl) (λ ws s. w (procedure x) p refl ws s))
named_same h x (Some (n.subroutine p)) i j f g c e k m t u w =
    same_step (λ s1. then_go (f p s1) (λ ws s2. c (subroutine x) ws k s2)) (λ s1. then_go (g p s1) (λ ws s2. e (subroutine x) ws k s2))
    (same_go (f p) (g p) (λ ws s2. c (subroutine x) ws k s2) (λ ws s2. e (subroutine x) ws k s2) (u p refl) (λ ws s. w (subroutine x) p refl ws s))
named_same h x (Some (n.simple l own)) i j f g c e k m t u w = same_variable h x i j t
named_same h x (Some (n.array l own low high)) i j f g c e k m t u w = same_variable h x i j t
named_same h x (Some (n.view l own base)) i j f g c e k m t u w = same_variable h x i j t
named_same h x (Some (n.pointer l own)) i j f g c e k m t u w = same_variable h x i j t
named_same h x (Some (n.value l)) i j f g c e k m t u w = same_variable h x i j t
named_same h x (Some (n.by_reference l)) i j f g c e k m t u w = same_variable h x i j t
named_same h x (Some (n.array_parameter l)) i j f g c e k m t u w = same_variable h x i j t
named_same h x (Some n.label) i j f g c e k m t u w = same_variable h x i j t
named_same h x (Some n.unknown) i j f g c e k m t u w = same_variable h x i j t
named_same h x None i j f g c e k m t u w = same_variable h x i j t

-- what waits behind a left operand is its value, where it waits
left_is : (names : Names) (op : ℕ) (a b : Tree) → is_connective op ≡ false → compares_text names op a b ≡ false
    → left_words names op a b ≡ operand_width (kind_of names a)
left_is names op a b q r =
    ap (λ (s : Bool). if s then 0 else if compares_text names op a b then 0 else operand_width (kind_of names a)) q
    ∙ ap (λ (u : Bool). if u then 0 else operand_width (kind_of names a)) r

-- an operator, where its operands are the same
binary_same : (h : Here) (c e : Callee) (op : ℕ) (a b : Tree) (at : At) (k : ℕ) → Same (value h c a k) (value h e a k)
    → Same (located h c a k) (located h e a k) → Same (value h c b k) (value h e b k)
    → (left_words h.names op a b ≡ operand_width (kind_of h.names a)
    → Same (value h c b (k + operand_width (kind_of h.names a))) (value h e b (k + operand_width (kind_of h.names a))))
    → Same (value h c (tree.Tree.binary op a b at) k) (value h e (tree.Tree.binary op a b at) k)
binary_same h c e op a b at k va la vb vw s0 = by (is_connective op) (compares_text h.names op a b) refl refl
  where
    right : Callee → List ℕ → State → Outcome (List ℕ)
    right c vs s1 =
        then_go (value h c b (k + operand_width (kind_of h.names a)) s1) (λ us s2. joined op (kind_of h.names a) (kind_of h.names b) vs us s2)

    by : (s u : Bool) → is_connective op ≡ s → compares_text h.names op a b ≡ u
        → (if s then then_go (value h c a k s0) (λ vs s1. connected op vs s1 (λ s2. value h c b k s2))
        else if u then then_go (located h c a k s0) (λ p s1. relation_told (relation_number op) (compared_text p (text_bytes b) s1))
        else then_go (value h c a k s0) (right c))
        ≡ (if s then then_go (value h e a k s0) (λ vs s1. connected op vs s1 (λ s2. value h e b k s2))
        else if u then then_go (located h e a k s0) (λ p s1. relation_told (relation_number op) (compared_text p (text_bytes b) s1))
        else then_go (value h e a k s0) (right e))
    by true u q r =
        same_go (value h c a k) (value h e a k) (λ vs s1. connected op vs s1 (λ s2. value h c b k s2)) (λ vs s1. connected op vs s1 (λ s2. value h e b k s2))
        va (λ vs. same_connected op vs (value h c b k) (value h e b k) vb) s0
    by false true q r =
        same_then (located h c a k) (located h e a k) (λ p s1. relation_told (relation_number op) (compared_text p (text_bytes b) s1)) la s0
    by false false q r =
        same_go (value h c a k) (value h e a k) (right c) (right e) va
        (λ vs. same_then (value h c b (k + operand_width (kind_of h.names a))) (value h e b (k + operand_width (kind_of h.names a)))
        (λ us s2. joined op (kind_of h.names a) (kind_of h.names b) vs us s2) (vw (left_is h.names op a b q r))) s0

mutual
  value_same : (h : Here) (c e : Callee) (m : ℕ) → AgreeWithin h.names m c e → (x : Tree) (k : ℕ) → k + most h.names x ≤ m
      → Same (value h c x k) (value h e x k)
  value_same h c e m t (tree.Tree.number v) k l = λ s. refl
  value_same h c e m t (tree.Tree.wide v) k l = λ s. refl
  value_same h c e m t (tree.Tree.text bytes) k l = λ s. refl
  value_same h c e m t (tree.Tree.truth b) k l = λ s. refl
  value_same h c e m t (tree.Tree.named x es at) k l =
      let p = callable (h.names x) in
      let among = most_of h.names (profile_formals p) (profile_result_words p) es in
      let link = profile_result_words p + formals_words (profile_formals p) + link_words (h.names x) in
      let f = le-max_left among link in
      let g = le-max_right among link in
      named_same h x (h.names x) (λ s1. index h c es k s1) (λ s1. index h e es k s1)
      (λ p s1. arguments h c p.formals es (k + result_words p) s1) (λ p s1. arguments h e p.formals es (k + result_words p) s1) c e k m
      (index_same h c e m t (profile_formals p) (profile_result_words p) es k (omega (arith, l, f)))
      (λ q r. arguments_same h c e m t q.formals es (k + result_words q) k (result_words q) refl
      (subst (λ (p : Option Profile). k + most_of h.names (profile_formals p) (profile_result_words p) es ≤ m) r (omega (arith, l, f))))
      (λ who q r ws s. t x who q r ws k s (reaches q (called_is x (h.names x) who q r) (omega (arith, l, g))))
    where
      reaches : (q : Profile) → callable (h.names x) ≡ Some q
          → k + (profile_result_words (callable (h.names x)) + formals_words (profile_formals (callable (h.names x))) + link_words (h.names x)) ≤ m
          → k + (result_words q + formals_words q.formals + link_words (h.names x)) ≤ m
      reaches q r l =
          subst (λ (p : Option Profile). k + (profile_result_words p + formals_words (profile_formals p) + link_words (h.names x)) ≤ m) r l
  value_same h c e m t (tree.Tree.address x es at) k l =
      same_go (index h c es k) (index h e es k) (λ i s1. then_go (locate h x i s1) address_done) (λ i s1. then_go (locate h x i s1) address_done)
      (index_same h c e m t [] 0 es k l) (λ i s. refl)
  value_same h c e m t (tree.Tree.unary op x at) k l =
      same_go (value h c x k) (value h e x k) (λ vs s1. signed_done op (kind_of h.names x) vs s1) (λ vs s1. signed_done op (kind_of h.names x) vs s1)
      (value_same h c e m t x k l) (λ vs s. refl)
  value_same h c e m t (tree.Tree.binary op a b at) k l =
      let f = le-max_left (most h.names a) (left_words h.names op a b + most h.names b) in
      let g = le-max_right (most h.names a) (left_words h.names op a b + most h.names b) in
      binary_same h c e op a b at k (value_same h c e m t a k (omega (arith, l, f))) (located_same h c e m t a k (omega (arith, l, f)))
      (value_same h c e m t b k (omega (arith, l, g)))
      (λ w. value_same h c e m t b (k + operand_width (kind_of h.names a)) (omega (arith, l, g, w)))
  value_same h c e m t (tree.Tree.shift op x by at) k l =
      same_go (value h c x k) (value h e x k) (λ vs s1. shift_done op (small_constant h.names by) vs s1) (λ vs s1. shift_done op (small_constant h.names by) vs s1)
      (value_same h c e m t x k l) (λ vs s. refl)
  value_same h c e m t (tree.Tree.field x start size at) k l =
      same_go (value h c x k) (value h e x k) (λ vs s1. field_done (small_constant h.names start) (small_constant h.names size) vs s1)
      (λ vs s1. field_done (small_constant h.names start) (small_constant h.names size) vs s1) (value_same h c e m t x k l) (λ vs s. refl)
  value_same h c e m t (tree.Tree.transfer to x at) k l =
      same_go (value h c x k) (value h e x k) (λ vs s1. transferred to (kind_of h.names x) vs s1) (λ vs s1. transferred to (kind_of h.names x) vs s1)
      (value_same h c e m t x k l) (λ vs s. refl)
  value_same h c e m t (tree.Tree.bytes op a b count at) k l =
      let names = h.names in
      let f = le-max_left (most names a) (max (1 + most names b) (2 + most names count)) in
      let g = le-max_right (most names a) (max (1 + most names b) (2 + most names count)) in
      let i = le-max_left (1 + most names b) (2 + most names count) in
      let j = le-max_right (1 + most names b) (2 + most names count) in
      same_go (located h c a k) (located h e a k)
      (λ p s1. then_go (located h c b (k + 1) s1) (λ q s2. then_go (value h c count (k + 2) s2) (λ vs s3.
      with_one vs s3 (λ size s4. relation_told op (compared_by size p q s4)))))
      (λ p s1. then_go (located h e b (k + 1) s1) (λ q s2. then_go (value h e count (k + 2) s2) (λ vs s3.
      with_one vs s3 (λ size s4. relation_told op (compared_by size p q s4)))))
      (located_same h c e m t a k (omega (arith, l, f))) (λ p.
      same_go (located h c b (k + 1)) (located h e b (k + 1))
      (λ q s2. then_go (value h c count (k + 2) s2) (λ vs s3. with_one vs s3 (λ size s4. relation_told op (compared_by size p q s4))))
      (λ q s2. then_go (value h e count (k + 2) s2) (λ vs s3. with_one vs s3 (λ size s4. relation_told op (compared_by size p q s4))))
      (located_same h c e m t b (k + 1) (omega (arith, l, g, i))) (λ q.
      same_then (value h c count (k + 2)) (value h e count (k + 2)) (λ vs s3. with_one vs s3 (λ size s4. relation_told op (compared_by size p q s4)))
      (value_same h c e m t count (k + 2) (omega (arith, l, g, j)))))

  located_same : (h : Here) (c e : Callee) (m : ℕ) → AgreeWithin h.names m c e → (x : Tree) (k : ℕ) → k + most h.names x ≤ m
      → Same (located h c x k) (located h e x k)
  located_same h c e m t (tree.Tree.named x es at) k l =
      let p = callable (h.names x) in
      let f = le-max_left (most_of h.names (profile_formals p) (profile_result_words p) es)
      (profile_result_words p + formals_words (profile_formals p) + link_words (h.names x)) in
      same_go (index h c es k) (index h e es k) (λ i s1. locate h x i s1) (λ i s1. locate h x i s1)
      (index_same h c e m t (profile_formals p) (profile_result_words p) es k (omega (arith, l, f))) (λ i s. refl)
  located_same h c e m t (tree.Tree.number v) k l = λ s. refl
  located_same h c e m t (tree.Tree.wide v) k l = λ s. refl
  located_same h c e m t (tree.Tree.text bytes) k l = λ s. refl
  located_same h c e m t (tree.Tree.truth b) k l = λ s. refl
  located_same h c e m t (tree.Tree.address x es at) k l = λ s. refl
  located_same h c e m t (tree.Tree.unary op x at) k l = λ s. refl
  located_same h c e m t (tree.Tree.binary op a b at) k l = λ s. refl
  located_same h c e m t (tree.Tree.shift op x by at) k l = λ s. refl
  located_same h c e m t (tree.Tree.field x start size at) k l = λ s. refl
  located_same h c e m t (tree.Tree.transfer to x at) k l = λ s. refl
  located_same h c e m t (tree.Tree.bytes op a b count at) k l = λ s. refl

  -- an index, where more is said of it as of an argument
  index_same : (h : Here) (c e : Callee) (m : ℕ) → AgreeWithin h.names m c e → (fs : List Formal) (j : ℕ) (es : Trees) (k : ℕ)
      → k + most_of h.names fs j es ≤ m → Same (index h c es k) (index h e es k)
  index_same h c e m t fs j tree.Trees.none k l = λ s. refl
  index_same h c e m t fs j (tree.Trees.and x es) k l =
      let f = le-max_left (j + most h.names x) (most_of h.names (other_formals fs) (j + argument_words (first_formal fs)) es) in
      same_go (value h c x k) (value h e x k) as_index as_index (value_same h c e m t x k (omega (arith, l, f))) (λ vs s. refl)

  -- arguments at a, behind k words that waited and j of the call
  arguments_same : (h : Here) (c e : Callee) (m : ℕ) → AgreeWithin h.names m c e → (fs : List Formal) (es : Trees) (a k j : ℕ) → a ≡ k + j
      → k + most_of h.names fs j es ≤ m → Same (arguments h c fs es a) (arguments h e fs es a)
  arguments_same h c e m t [] tree.Trees.none a k j q l = λ s. refl
  arguments_same h c e m t [] (tree.Trees.and x es) a k j q l = λ s. refl
  arguments_same h c e m t (z ∷ fs) tree.Trees.none a k j q l = λ s. refl
  arguments_same h c e m t (z ∷ fs) (tree.Trees.and x es) a k j q l =
      let f = le-max_left (j + most h.names x) (most_of h.names fs (j + formal_words z) es) in
      let g = le-max_right (j + most h.names x) (most_of h.names fs (j + formal_words z) es) in
      same_go (argument z (λ s1. value h c x a s1) (λ s1. located h c x a s1)) (argument z (λ s1. value h e x a s1) (λ s1. located h e x a s1))
      (λ ws s1. then_go (arguments h c fs es (a + formal_words z) s1) (λ vs s2. done (ws ++ vs) s2))
      (λ ws s1. then_go (arguments h e fs es (a + formal_words z) s1) (λ vs s2. done (ws ++ vs) s2))
      (same_argument z (value h c x a) (value h e x a) (located h c x a) (located h e x a)
      (value_same h c e m t x a (omega (arith, l, f, q))) (located_same h c e m t x a (omega (arith, l, f, q))))
      (λ ws. same_go (arguments h c fs es (a + formal_words z)) (arguments h e fs es (a + formal_words z)) (λ vs s2. done (ws ++ vs) s2) (λ vs s2. done (ws ++ vs) s2)
      (arguments_same h c e m t fs es (a + formal_words z) k (j + formal_words z) (omega (arith, q)) (omega (arith, l, g))) (λ vs s. refl))

-- ---- parts of statements

-- the index of a target waits for nothing else
index_zero : (h : Here) (c e : Callee) (m : ℕ) → AgreeWithin h.names m c e → (es : Trees) (k : ℕ) → k + most_of h.names [] 0 es ≤ m
    → Same (index h c es k) (index h e es k)
index_zero h c e m t es k l = index_same h c e m t [] 0 es k l

target_index_same : (h : Here) (c e : Callee) (m : ℕ) → AgreeWithin h.names m c e → (r : Tree) (k : ℕ) → k + index_most h.names r ≤ m
    → Same (target_index h c r k) (target_index h e r k)
target_index_same h c e m t (tree.Tree.named x es at) k l = index_zero h c e m t es k l
target_index_same h c e m t (tree.Tree.number v) k l = λ s. refl
target_index_same h c e m t (tree.Tree.wide v) k l = λ s. refl
target_index_same h c e m t (tree.Tree.text bytes) k l = λ s. refl
target_index_same h c e m t (tree.Tree.truth b) k l = λ s. refl
target_index_same h c e m t (tree.Tree.address x es at) k l = λ s. refl
target_index_same h c e m t (tree.Tree.unary op x at) k l = λ s. refl
target_index_same h c e m t (tree.Tree.binary op a b at) k l = λ s. refl
target_index_same h c e m t (tree.Tree.shift op x by at) k l = λ s. refl
target_index_same h c e m t (tree.Tree.field x start size at) k l = λ s. refl
target_index_same h c e m t (tree.Tree.transfer to x at) k l = λ s. refl
target_index_same h c e m t (tree.Tree.bytes op a b count at) k l = λ s. refl

assigned_same : (h : Here) (c e : Callee) (m : ℕ) → AgreeWithin h.names m c e → (to : Target) (f g : ℕ → State → Outcome (List ℕ)) (k : ℕ)
    → k + target_most h.names to ≤ m → Same (f (waiting to k)) (g (waiting to k)) → Same (assigned h c to f k) (assigned h e to g k)
assigned_same h c e m t (stat.Target.plain r) f g k l u =
    same_go (target_index h c r k) (target_index h e r k)
    (λ i s1. then_go (f (behind_index r k) s1) (λ vs s2. then_go (locate_target h (reference_name r) i s2) (λ p s3. store p (kept p.kind vs) s3)))
    (λ i s1. then_go (g (behind_index r k) s1) (λ vs s2. then_go (locate_target h (reference_name r) i s2) (λ p s3. store p (kept p.kind vs) s3)))
    (target_index_same h c e m t r k l) (λ i.
    same_then (f (behind_index r k)) (g (behind_index r k)) (λ vs s2. then_go (locate_target h (reference_name r) i s2) (λ p s3. store p (kept p.kind vs) s3)) u)
assigned_same h c e m t (stat.Target.field r start size) f g k l u =
    same_go (target_index h c r k) (target_index h e r k)
    (λ i s1. then_go (f (behind_index r k) s1) (λ vs s2. then_go (locate_target h (reference_name r) i s2) (λ p s3.
    store_field p (small_constant h.names start) (small_constant h.names size) vs s3)))
    (λ i s1. then_go (g (behind_index r k) s1) (λ vs s2. then_go (locate_target h (reference_name r) i s2) (λ p s3.
    store_field p (small_constant h.names start) (small_constant h.names size) vs s3)))
    (target_index_same h c e m t r k l) (λ i.
    same_then (f (behind_index r k)) (g (behind_index r k)) (λ vs s2. then_go (locate_target h (reference_name r) i s2) (λ p s3.
    store_field p (small_constant h.names start) (small_constant h.names size) vs s3)) u)
assigned_same h c e m t (stat.Target.address x at) f g k l u =
    same_then (f k) (g k) (λ vs s1. with_one vs s1 (λ v s2. cell_stored (h.places x) v s2)) u

intrinsic_same : (h : Here) (c e : Callee) (m : ℕ) → AgreeWithin h.names m c e → (o : Option Sort) (x : List ℕ) (es : Trees) (k : ℕ)
    → k + most_of h.names (profile_formals (callable o)) (profile_result_words (callable o)) es ≤ m
    → Same (intrinsic_value h c (sense_of x o) es k) (intrinsic_value h e (sense_of x o) es k)
intrinsic_same h c e m t (Some (n.intrinsic i)) x es k l =
    same_then (arguments h c (intrinsic_profile i).formals es (k + result_words (intrinsic_profile i)))
    (arguments h e (intrinsic_profile i).formals es (k + result_words (intrinsic_profile i))) (λ ws s1. served i ws s1)
    (arguments_same h c e m t (intrinsic_profile i).formals es (k + result_words (intrinsic_profile i)) k (result_words (intrinsic_profile i)) refl l)
intrinsic_same h c e m t (Some (n.equate v)) x es k l = λ s. refl
intrinsic_same h c e m t (Some (n.procedure p)) x es k l = λ s. refl
intrinsic_same h c e m t (Some (n.subroutine p)) x es k l = λ s. refl
intrinsic_same h c e m t (Some (n.simple j own)) x es k l = λ s. refl
intrinsic_same h c e m t (Some (n.array j own low high)) x es k l = λ s. refl
intrinsic_same h c e m t (Some (n.view j own base)) x es k l = λ s. refl
intrinsic_same h c e m t (Some (n.pointer j own)) x es k l = λ s. refl
intrinsic_same h c e m t (Some (n.value j)) x es k l = λ s. refl
intrinsic_same h c e m t (Some (n.by_reference j)) x es k l = λ s. refl
intrinsic_same h c e m t (Some (n.array_parameter j)) x es k l = λ s. refl
intrinsic_same h c e m t (Some n.label) x es k l = λ s. refl
intrinsic_same h c e m t (Some n.unknown) x es k l = λ s. refl
intrinsic_same h c e m t None x es k l = λ s. refl

alone_same : (h : Here) (c e : Callee) (m : ℕ) → AgreeWithin h.names m c e → (x : Tree) (k : ℕ) → k + most h.names x ≤ m
    → Same (alone_value h c x k) (alone_value h e x k)
alone_same h c e m t (tree.Tree.named x es at) k l =
    let p = callable (h.names x) in
    let f = le-max_left (most_of h.names (profile_formals p) (profile_result_words p) es)
    (profile_result_words p + formals_words (profile_formals p) + link_words (h.names x)) in
    intrinsic_same h c e m t (h.names x) x es k (omega (arith, l, f))
alone_same h c e m t (tree.Tree.number v) k l = λ s. refl
alone_same h c e m t (tree.Tree.wide v) k l = λ s. refl
alone_same h c e m t (tree.Tree.text bytes) k l = λ s. refl
alone_same h c e m t (tree.Tree.truth b) k l = λ s. refl
alone_same h c e m t (tree.Tree.address x es at) k l = λ s. refl
alone_same h c e m t (tree.Tree.unary op x at) k l = λ s. refl
alone_same h c e m t (tree.Tree.binary op a b at) k l = λ s. refl
alone_same h c e m t (tree.Tree.shift op x by at) k l = λ s. refl
alone_same h c e m t (tree.Tree.field x start size at) k l = λ s. refl
alone_same h c e m t (tree.Tree.transfer to x at) k l = λ s. refl
alone_same h c e m t (tree.Tree.bytes op a b count at) k l = λ s. refl

assign_same : (h : Here) (c e : Callee) (m : ℕ) → AgreeWithin h.names m c e → (to : Target) (x : Tree) (k : ℕ)
    → k + max (target_most h.names to) (waiting to (most h.names x)) ≤ m → Same (assign h c to x k) (assign h e to x k)
assign_same h c e m t to x k l =
    let f = le-max_left (target_most h.names to) (waiting to (most h.names x)) in
    let g = le-max_right (target_most h.names to) (waiting to (most h.names x)) in
    let w = waiting_is to in let a = w.1 k in let b = w.1 (most h.names x) in
    same_if (is_intrinsic_alone h.names x && target_keeps_code h.names to)
    (assigned h c to (λ j s1. alone_value h c x j s1) k) (assigned h e to (λ j s1. alone_value h e x j s1) k)
    (assigned h c to (λ j s1. value h c x j s1) k) (assigned h e to (λ j s1. value h e x j s1) k)
    (assigned_same h c e m t to (λ j s1. alone_value h c x j s1) (λ j s1. alone_value h e x j s1) k (omega (arith, l, f))
    (alone_same h c e m t x (waiting to k) (omega (arith, l, g, a, b))))
    (assigned_same h c e m t to (λ j s1. value h c x j s1) (λ j s1. value h e x j s1) k (omega (arith, l, f))
    (value_same h c e m t x (waiting to k) (omega (arith, l, g, a, b))))

call_same : (h : Here) (c e : Callee) (m : ℕ) → AgreeWithin h.names m c e → (x : List ℕ) (es : Trees) (at : At) (k : ℕ)
    → k + most h.names (tree.Tree.named x es at) ≤ m → Same (call_statement h c x es at k) (call_statement h e x es at k)
call_same h c e m t x es at k l =
    same_if (is_intrinsic (h.names x))
    (λ s. value_dropped (intrinsic_value h c (sense_of x (h.names x)) es k s)) (λ s. value_dropped (intrinsic_value h e (sense_of x (h.names x)) es k s))
    (λ s. value_dropped (value h c (tree.Tree.named x es at) k s)) (λ s. value_dropped (value h e (tree.Tree.named x es at) k s))
    (λ s. ap value_dropped (alone_same h c e m t (tree.Tree.named x es at) k l s))
    (λ s. ap value_dropped (value_same h c e m t (tree.Tree.named x es at) k l s))

effect_same : (h : Here) (c e : Callee) (m : ℕ) → AgreeWithin h.names m c e → (d : ℕ) (used : Bool) (x : Effect) (k : ℕ)
    → k + effect_most h.names used x ≤ m → Same (effect_done h c d used x k) (effect_done h e d used x k)
effect_same h c e m t d used (stat.Effect.move to (stat.Source.counted from count)) k l =
    let names = h.names in
    let a = first_is used in let b = second_is used in
    let first = behind_first used (most names from) in
    let second = behind_second used (most names count) in
    let f = le-max_left (most names to) (max first second) in
    let g = le-max_right (most names to) (max first second) in
    let i = le-max_left first second in let j = le-max_right first second in
    let a0 = a.1 k in let a1 = a.1 (most names from) in let b0 = b.1 k in let b1 = b.1 (most names count) in
    same_go (located h c to k) (located h e to k)
    (λ p s1. then_go (located h c from (behind_first used k) s1) (λ q s2. then_go (value h c count (behind_second used k) s2) (λ vs s3.
    with_one vs s3 (λ size s4. moved_far p (moved_by size p q s4)))))
    (λ p s1. then_go (located h e from (behind_first used k) s1) (λ q s2. then_go (value h e count (behind_second used k) s2) (λ vs s3.
    with_one vs s3 (λ size s4. moved_far p (moved_by size p q s4)))))
    (located_same h c e m t to k (omega (arith, l, f))) (λ p.
    same_go (located h c from (behind_first used k)) (located h e from (behind_first used k))
    (λ q s2. then_go (value h c count (behind_second used k) s2) (λ vs s3. with_one vs s3 (λ size s4. moved_far p (moved_by size p q s4))))
    (λ q s2. then_go (value h e count (behind_second used k) s2) (λ vs s3. with_one vs s3 (λ size s4. moved_far p (moved_by size p q s4))))
    (located_same h c e m t from (behind_first used k) (omega (arith, l, g, i, a0, a1))) (λ q.
    same_then (value h c count (behind_second used k)) (value h e count (behind_second used k))
    (λ vs s3. with_one vs s3 (λ size s4. moved_far p (moved_by size p q s4)))
    (value_same h c e m t count (behind_second used k) (omega (arith, l, g, j, b0, b1)))))
effect_same h c e m t d used (stat.Effect.move to (stat.Source.text bytes)) k l =
    let f = le-max_left (most h.names to) 0 in
    same_then (located h c to k) (located h e to k) (λ p s1. moved_far p (moved_text bytes p s1)) (located_same h c e m t to k (omega (arith, l, f)))
effect_same h c e m t d used (stat.Effect.move to (stat.Source.class_of from z)) k l =
    let names = h.names in
    let a = first_is used in
    let first = behind_first used (most names from) in
    let f = le-max_left (most names to) first in let g = le-max_right (most names to) first in
    let a0 = a.1 k in let a1 = a.1 (most names from) in
    same_go (located h c to k) (located h e to k)
    (λ p s1. then_go (located h c from (behind_first used k) s1) (λ q s2. moved_far p (moved_while (suc d) z p q s2)))
    (λ p s1. then_go (located h e from (behind_first used k) s1) (λ q s2. moved_far p (moved_while (suc d) z p q s2)))
    (located_same h c e m t to k (omega (arith, l, f))) (λ p.
    same_then (located h c from (behind_first used k)) (located h e from (behind_first used k)) (λ q s2. moved_far p (moved_while (suc d) z p q s2))
    (located_same h c e m t from (behind_first used k) (omega (arith, l, g, a0, a1))))
effect_same h c e m t d used (stat.Effect.scan from until test) k l =
    let names = h.names in
    let a = first_is used in
    let first = behind_first used (most names test) in
    let f = le-max_left (most names from) first in let g = le-max_right (most names from) first in
    let a0 = a.1 k in let a1 = a.1 (most names test) in
    same_go (located h c from k) (located h e from k)
    (λ p s1. then_go (value h c test (behind_first used k) s1) (λ vs s2. with_one vs s2 (λ w s3. moved_far p (scanned (suc d) until w p s3))))
    (λ p s1. then_go (value h e test (behind_first used k) s1) (λ vs s2. with_one vs s2 (λ w s3. moved_far p (scanned (suc d) until w p s3))))
    (located_same h c e m t from k (omega (arith, l, f))) (λ p.
    same_then (value h c test (behind_first used k)) (value h e test (behind_first used k))
    (λ vs s2. with_one vs s2 (λ w s3. moved_far p (scanned (suc d) until w p s3)))
    (value_same h c e m t test (behind_first used k) (omega (arith, l, g, a0, a1))))

-- ---- loops

condition_same : (h : Here) (c e : Callee) (m : ℕ) → AgreeWithin h.names m c e → (x : Tree) (k : ℕ) → k + most h.names x ≤ m
    → Same (condition h c x k) (condition h e x k)
condition_same h c e m t x k l =
    same_then (value h c x k) (value h e x k) (λ vs s1. with_one vs s1 (λ w s2. done (is_odd w) s2)) (value_same h c e m t x k l)

looping_same : (d : ℕ) (f g : State → Outcome Bool) (h k : State → Outcome (Unit {0})) → Same f g → Same h k → Same (looping d f h) (looping d g k)
looping_same zero f g h k t u = λ s. refl
looping_same (suc d) f g h k t u =
    same_step (λ s1. then_go (f s1) (λ b s2. if b then then_go (h s2) (λ _ s3. looping d f h s3) else done tt s2))
    (λ s1. then_go (g s1) (λ b s2. if b then then_go (k s2) (λ _ s3. looping d g k s3) else done tt s2))
    (same_go f g (λ b s2. if b then then_go (h s2) (λ _ s3. looping d f h s3) else done tt s2)
    (λ b s2. if b then then_go (k s2) (λ _ s3. looping d g k s3) else done tt s2) t (λ b.
    same_if b (λ s2. then_go (h s2) (λ _ s3. looping d f h s3)) (λ s2. then_go (k s2) (λ _ s3. looping d g k s3)) (λ s2. done tt s2) (λ s2. done tt s2)
    (same_go h k (λ _ s3. looping d f h s3) (λ _ s3. looping d g k s3) u (λ _. looping_same d f g h k t u)) (λ s. refl)))

repeating_same : (d : ℕ) (f g : State → Outcome Bool) (h k : State → Outcome (Unit {0})) → Same f g → Same h k → Same (repeating d f h) (repeating d g k)
repeating_same zero f g h k t u = λ s. refl
repeating_same (suc d) f g h k t u =
    same_go h k (λ _ s1. stepping s1 (λ s2. then_go (f s2) (λ b s3. if b then done tt s3 else repeating d f h s3)))
    (λ _ s1. stepping s1 (λ s2. then_go (g s2) (λ b s3. if b then done tt s3 else repeating d g k s3))) u (λ _.
    same_step (λ s2. then_go (f s2) (λ b s3. if b then done tt s3 else repeating d f h s3))
    (λ s2. then_go (g s2) (λ b s3. if b then done tt s3 else repeating d g k s3))
    (same_go f g (λ b s3. if b then done tt s3 else repeating d f h s3) (λ b s3. if b then done tt s3 else repeating d g k s3) t (λ b.
    same_if b (λ s3. done tt s3) (λ s3. done tt s3) (repeating d f h) (repeating d g k) (λ s. refl) (repeating_same d f g h k t u))))

counting_same : (d : ℕ) (p : Located) (step limit : ℕ) (h k : State → Outcome (Unit {0})) → Same h k
    → Same (counting d p step limit h) (counting d p step limit k)
counting_same zero p step limit h k u = λ s. refl
counting_same (suc d) p step limit h k u =
    same_step (λ s1. then_go (read p s1) (λ vs s2. with_one vs s2 (turn h))) (λ s1. then_go (read p s1) (λ vs s2. with_one vs s2 (turn k)))
    (same_go (read p) (read p) (λ vs s2. with_one vs s2 (turn h)) (λ vs s2. with_one vs s2 (turn k)) (λ s. refl) (λ vs.
    same_one vs (turn h) (turn k) (λ v.
    same_if (goes_on step limit v)
    (λ s3. then_go (h s3) (λ _ s4. then_go (raised p step s4) (λ _ s5. counting d p step limit h s5)))
    (λ s3. then_go (k s3) (λ _ s4. then_go (raised p step s4) (λ _ s5. counting d p step limit k s5)))
    (λ s3. done tt s3) (λ s3. done tt s3)
    (same_go h k (λ _ s4. then_go (raised p step s4) (λ _ s5. counting d p step limit h s5))
    (λ _ s4. then_go (raised p step s4) (λ _ s5. counting d p step limit k s5)) u (λ _.
    same_go (raised p step) (raised p step) (λ _ s5. counting d p step limit h s5) (λ _ s5. counting d p step limit k s5) (λ s. refl) (λ _.
    counting_same d p step limit h k u)))
    (λ s. refl))))
  where
    turn : (State → Outcome (Unit {0})) → ℕ → State → Outcome (Unit {0})
    turn h v s3 =
        if goes_on step limit v
        then then_go (h s3) (λ _ s4. then_go (raised p step s4) (λ _ s5. counting d p step limit h s5))
        else done tt s3

step_same : (h : Here) (c e : Callee) (m : ℕ) → AgreeWithin h.names m c e → (es : Trees) (k : ℕ) → k + trees_most h.names es ≤ m
    → Same (loop_step h c es k) (loop_step h e es k)
step_same h c e m t tree.Trees.none k l = λ s. refl
step_same h c e m t (tree.Trees.and x es) k l = value_same h c e m t x k l

for_same : (h : Here) (c e : Callee) (m : ℕ) → AgreeWithin h.names m c e → (d : ℕ) (x : List ℕ) (first : Tree) (step : Trees) (last : Tree)
    (f g : State → Outcome (Unit {0})) (k : ℕ) → k + most h.names first ≤ m → k + 1 + trees_most h.names step ≤ m → k + 2 + most h.names last ≤ m
    → Same f g → Same (for_loop h c d x first step last f k) (for_loop h e d x first step last g k)
for_same h c e m t d x first step last f g k l o q u =
    same_go (value h c first k) (value h e first k) (λ vs. begun c f vs) (λ vs. begun e g vs) (value_same h c e m t first k l) (λ vs.
    same_go (locate h x None) (locate h x None) (λ p. stored c f vs p) (λ p. stored e g vs p) (λ s. refl) (λ p.
    same_go (store p vs) (store p vs) (λ _. stepped c f p) (λ _. stepped e g p) (λ s. refl) (λ _.
    same_go (loop_step h c step (k + 1)) (loop_step h e step (k + 1)) (λ us. limited c f p us) (λ us. limited e g p us) (step_same h c e m t step (k + 1) o) (λ us.
    same_go (value h c last (k + 2)) (value h e last (k + 2)) (λ ws. turns f p us ws) (λ ws. turns g p us ws) (value_same h c e m t last (k + 2) q) (λ ws.
    same_one us (λ u s6. with_one ws s6 (λ w s7. counting (suc d) p u w f s7)) (λ u s6. with_one ws s6 (λ w s7. counting (suc d) p u w g s7)) (λ a.
    same_one ws (λ w s7. counting (suc d) p a w f s7) (λ w s7. counting (suc d) p a w g s7) (λ w. counting_same (suc d) p a w f g u)))))))
  where
    turns : (State → Outcome (Unit {0})) → Located → List ℕ → List ℕ → State → Outcome (Unit {0})
    turns f p us ws s5 = with_one us s5 (λ u s6. with_one ws s6 (λ w s7. counting (suc d) p u w f s7))

    limited : Callee → (State → Outcome (Unit {0})) → Located → List ℕ → State → Outcome (Unit {0})
    limited c f p us s4 = then_go (value h c last (k + 2) s4) (λ ws. turns f p us ws)

    stepped : Callee → (State → Outcome (Unit {0})) → Located → State → Outcome (Unit {0})
    stepped c f p s3 = then_go (loop_step h c step (k + 1) s3) (λ us. limited c f p us)

    stored : Callee → (State → Outcome (Unit {0})) → List ℕ → Located → State → Outcome (Unit {0})
    stored c f vs p s2 = then_go (store p vs s2) (λ _. stepped c f p)

    begun : Callee → (State → Outcome (Unit {0})) → List ℕ → State → Outcome (Unit {0})
    begun c f vs s1 = then_go (locate h x None s1) (λ p. stored c f vs p)

-- ---- jumps

same_landing : (d : ℕ) (has : List ℕ → Bool) (f g : List ℕ → State → Outcome (Unit {0})) (o : Outcome (Unit {0})) → ((x : List ℕ) → Same (f x) (g x))
    → landing d has f o ≡ landing d has g o
same_landing zero has f g (leaves (to_label x) s) t = refl
same_landing (suc d) has f g (leaves (to_label x) s) t =
    ap (λ (o : Outcome (Unit {0})). if has x then o else leaves (to_label x) s)
    (ap (landing d has f) (t x s) ∙ same_landing d has f g (g x s) t)
same_landing zero has f g (leaves back s) t = refl
same_landing (suc d) has f g (leaves back s) t = refl
same_landing zero has f g (done a s) t = refl
same_landing (suc d) has f g (done a s) t = refl
same_landing zero has f g (spent s) t = refl
same_landing (suc d) has f g (spent s) t = refl
same_landing zero has f g (ends e s) t = refl
same_landing (suc d) has f g (ends e s) t = refl
same_landing zero has f g (strays s) t = refl
same_landing (suc d) has f g (strays s) t = refl

landing_same : (d : ℕ) (has : List ℕ → Bool) (f g : List ℕ → State → Outcome (Unit {0})) (h k : State → Outcome (Unit {0}))
    → ((x : List ℕ) → Same (f x) (g x)) → Same h k → Same (λ s. landing d has f (h s)) (λ s. landing d has g (k s))
landing_same d has f g h k t u s = ap (landing d has f) (u s) ∙ same_landing d has f g (k s) t

-- ---- statements

same_stop : {A : Type 0} (i : ℕ) (at : At) (f g : State → Outcome A) → Same f g → Same (λ s. stopping i at s f) (λ s. stopping i at s g)
same_stop i at f g t = same_step (λ s1. f (without_code (noted i at s1))) (λ s1. g (without_code (noted i at s1))) (λ s. t (without_code (noted i at s)))

same_begin : {A : Type 0} (f g : State → Outcome A) → Same f g → Same (λ s. beginning s f) (λ s. beginning s g)
same_begin f g t = same_step (λ s1. f (without_code s1)) (λ s1. g (without_code s1)) (λ s. t (without_code s))

same_dropped : (f g : State → Outcome (Unit {0})) → Same f g → Same (λ s. code_dropped (f s)) (λ s. code_dropped (g s))
same_dropped f g t s = ap code_dropped (t s)

deciding_same : (h : Here) (c e : Callee) (m : ℕ) → AgreeWithin h.names m c e → (i : ℕ) (q : Test) (at : At) (k : ℕ) → k + test_most h.names q ≤ m
    → (f g : Bool → State → Outcome (Unit {0})) → ((b : Bool) → Same (f b) (g b)) → Same (λ s. deciding h c i q at k s f) (λ s. deciding h e i q at k s g)
deciding_same h c e m t i (stat.Test.condition x) at k l f g u =
    same_stop i at (λ s1. then_go (condition h c x k s1) f) (λ s1. then_go (condition h e x k s1) g)
    (same_go (condition h c x k) (condition h e x k) f g (condition_same h c e m t x k l) u)
deciding_same h c e m t i (stat.Test.code op) at k l f g u =
    same_step (λ s1. code_tested op s1.code (noted i at s1) (λ b s2. f b (without_code s2)))
    (λ s1. code_tested op s1.code (noted i at s1) (λ b s2. g b (without_code s2))) (λ s1. tested s1 s1.code)
  where
    tested : (s1 : State) (o : Option Code)
        → code_tested op o (noted i at s1) (λ b s2. f b (without_code s2)) ≡ code_tested op o (noted i at s1) (λ b s2. g b (without_code s2))
    tested s1 (Some z) = u (related op z) (without_code (noted i at s1))
    tested s1 None = refl

-- the arms of a CASE, by the word that chooses
abbrev arms : Here → Callee → ℕ → ℕ → Statements → ℕ → ℕ → State → Outcome (Unit {0})
arms h c d i ss k w s3 =
    code_dropped (landing d (bears_among ss) (λ x s4. run_bearer h c d (i + 1) ss x k s4) (run_arm h c d (i + 1) ss w k s3))

mutual
  run_same : (h : Here) (c e : Callee) (m : ℕ) → AgreeWithin h.names m c e → (d i : ℕ) (st : Statement) (k : ℕ) → k + statement_most h.names st ≤ m
      → Same (run h c d i st k) (run h e d i st k)
  run_same h c e m t d i stat.Statement.empty k l = λ s. refl
  run_same h c e m t d i (stat.Statement.labelled x at st) k l =
      same_begin (run h c d i st k) (run h e d i st k) (run_same h c e m t d i st k l)
  run_same h c e m t d i (stat.Statement.block ss) k l =
      same_begin (λ s1. code_dropped (landing d (bears_among ss) (λ x s2. run_from h c d i ss x k s2) (run_all h c d i ss k s1)))
      (λ s1. code_dropped (landing d (bears_among ss) (λ x s2. run_from h e d i ss x k s2) (run_all h e d i ss k s1)))
      (same_dropped (λ s1. landing d (bears_among ss) (λ x s2. run_from h c d i ss x k s2) (run_all h c d i ss k s1))
      (λ s1. landing d (bears_among ss) (λ x s2. run_from h e d i ss x k s2) (run_all h e d i ss k s1))
      (landing_same d (bears_among ss) (λ x s2. run_from h c d i ss x k s2) (λ x s2. run_from h e d i ss x k s2) (run_all h c d i ss k) (run_all h e d i ss k)
      (λ x. from_same h c e m t d i ss x k l) (all_same h c e m t d i ss k l)))
  run_same h c e m t d i (stat.Statement.if_test q then_part else_part at) k l =
      let names = h.names in
      let r = max (statement_most names then_part) (statements_most names else_part) in
      let f = le-max_left (test_most names q) r in let g = le-max_right (test_most names q) r in
      let a = le-max_left (statement_most names then_part) (statements_most names else_part) in
      let b = le-max_right (statement_most names then_part) (statements_most names else_part) in
      deciding_same h c e m t i q at k (omega (arith, l, f))
      (λ z s1. code_dropped (if z then run h c d (i + 1) then_part k s1 else run_all h c d (i + 1 + stops then_part) else_part k s1))
      (λ z s1. code_dropped (if z then run h e d (i + 1) then_part k s1 else run_all h e d (i + 1 + stops then_part) else_part k s1))
      (λ z. same_dropped (λ s1. if z then run h c d (i + 1) then_part k s1 else run_all h c d (i + 1 + stops then_part) else_part k s1)
      (λ s1. if z then run h e d (i + 1) then_part k s1 else run_all h e d (i + 1 + stops then_part) else_part k s1)
      (same_if z (run h c d (i + 1) then_part k) (run h e d (i + 1) then_part k) (run_all h c d (i + 1 + stops then_part) else_part k)
      (run_all h e d (i + 1 + stops then_part) else_part k) (run_same h c e m t d (i + 1) then_part k (omega (arith, l, g, a)))
      (all_same h c e m t d (i + 1 + stops then_part) else_part k (omega (arith, l, g, b)))))
  run_same h c e m t d i (stat.Statement.while_true x st at) k l =
      let f = le-max_left (most h.names x) (statement_most h.names st) in let g = le-max_right (most h.names x) (statement_most h.names st) in
      same_begin (λ s1. looping (suc d) (λ s2. condition h c x k s2) (λ s2. code_dropped (run h c d i st k s2)) s1)
      (λ s1. looping (suc d) (λ s2. condition h e x k s2) (λ s2. code_dropped (run h e d i st k s2)) s1)
      (looping_same (suc d) (λ s2. condition h c x k s2) (λ s2. condition h e x k s2) (λ s2. code_dropped (run h c d i st k s2))
      (λ s2. code_dropped (run h e d i st k s2)) (condition_same h c e m t x k (omega (arith, l, f)))
      (same_dropped (run h c d i st k) (run h e d i st k) (run_same h c e m t d i st k (omega (arith, l, g)))))
  run_same h c e m t d i (stat.Statement.until_true st x at) k l =
      let f = le-max_left (statement_most h.names st) (most h.names x) in let g = le-max_right (statement_most h.names st) (most h.names x) in
      same_begin (λ s1. repeating (suc d) (λ s2. condition h c x k s2) (λ s2. code_dropped (run h c d i st k s2)) s1)
      (λ s1. repeating (suc d) (λ s2. condition h e x k s2) (λ s2. code_dropped (run h e d i st k s2)) s1)
      (repeating_same (suc d) (λ s2. condition h c x k s2) (λ s2. condition h e x k s2) (λ s2. code_dropped (run h c d i st k s2))
      (λ s2. code_dropped (run h e d i st k s2)) (condition_same h c e m t x k (omega (arith, l, g)))
      (same_dropped (run h c d i st k) (run h e d i st k) (run_same h c e m t d i st k (omega (arith, l, f)))))
  run_same h c e m t d i (stat.Statement.for_values x first step last st at) k l =
      let names = h.names in
      let w = 3 + statement_most names st in
      let b = max (2 + most names last) w in
      let a = max (1 + trees_most names step) b in
      let f = le-max_left (most names first) a in let g = le-max_right (most names first) a in
      let y = le-max_left (1 + trees_most names step) b in let j = le-max_right (1 + trees_most names step) b in
      let p = le-max_left (2 + most names last) w in let q = le-max_right (2 + most names last) w in
      same_stop i at (λ s1. for_loop h c d x first step last (λ s2. code_dropped (run h c d (i + 1) st (k + 3) s2)) k s1)
      (λ s1. for_loop h e d x first step last (λ s2. code_dropped (run h e d (i + 1) st (k + 3) s2)) k s1)
      (for_same h c e m t d x first step last (λ s2. code_dropped (run h c d (i + 1) st (k + 3) s2)) (λ s2. code_dropped (run h e d (i + 1) st (k + 3) s2)) k
      (omega (arith, l, f)) (omega (arith, l, g, y)) (omega (arith, l, g, j, p))
      (same_dropped (run h c d (i + 1) st (k + 3)) (run h e d (i + 1) st (k + 3)) (run_same h c e m t d (i + 1) st (k + 3) (omega (arith, l, g, j, q)))))
  run_same h c e m t d i (stat.Statement.case_of x ss at) k l =
      let f = le-max_left (most h.names x) (statements_most h.names ss) in let g = le-max_right (most h.names x) (statements_most h.names ss) in
      same_stop i at (λ s1. then_go (value h c x k s1) (λ vs s2. with_one vs s2 (arms h c d i ss k))) (λ s1. then_go (value h e x k s1) (λ vs s2. with_one vs s2 (arms h e d i ss k)))
      (same_go (value h c x k) (value h e x k) (λ vs s2. with_one vs s2 (arms h c d i ss k)) (λ vs s2. with_one vs s2 (arms h e d i ss k))
      (value_same h c e m t x k (omega (arith, l, f))) (λ vs.
      same_one vs (arms h c d i ss k) (arms h e d i ss k) (λ w.
      same_dropped (λ s3. landing d (bears_among ss) (λ x s4. run_bearer h c d (i + 1) ss x k s4) (run_arm h c d (i + 1) ss w k s3))
      (λ s3. landing d (bears_among ss) (λ x s4. run_bearer h e d (i + 1) ss x k s4) (run_arm h e d (i + 1) ss w k s3))
      (landing_same d (bears_among ss) (λ x s4. run_bearer h c d (i + 1) ss x k s4) (λ x s4. run_bearer h e d (i + 1) ss x k s4)
      (run_arm h c d (i + 1) ss w k) (run_arm h e d (i + 1) ss w k) (λ x. bearer_same h c e m t d (i + 1) ss x k (omega (arith, l, g)))
      (arm_same h c e m t d (i + 1) ss w k (omega (arith, l, g)))))))
  run_same h c e m t d i (stat.Statement.go_to x at) k l = λ s. refl
  run_same h c e m t d i (stat.Statement.return at) k l = λ s. refl
  run_same h c e m t d i (stat.Statement.assign to x at) k l =
      same_stop i at (λ s1. assign h c to x k s1) (λ s1. assign h e to x k s1) (assign_same h c e m t to x k l)
  run_same h c e m t d i (stat.Statement.assign_effect to x at) k l =
      let f = le-max_left (target_most h.names to) (waiting to (effect_most h.names true x)) in
      let g = le-max_right (target_most h.names to) (waiting to (effect_most h.names true x)) in
      let w = waiting_is to in let a = w.1 k in let b = w.1 (effect_most h.names true x) in
      same_stop i at (λ s1. assigned h c to (λ j s2. effect_done h c d true x j s2) k s1) (λ s1. assigned h e to (λ j s2. effect_done h e d true x j s2) k s1)
      (assigned_same h c e m t to (λ j s2. effect_done h c d true x j s2) (λ j s2. effect_done h e d true x j s2) k (omega (arith, l, f))
      (effect_same h c e m t d true x (waiting to k) (omega (arith, l, g, a, b))))
  run_same h c e m t d i (stat.Statement.do_effect x at) k l =
      same_stop i at (λ s1. value_dropped (effect_done h c d false x k s1)) (λ s1. value_dropped (effect_done h e d false x k s1))
      (λ s. ap value_dropped (effect_same h c e m t d false x k l s))
  run_same h c e m t d i (stat.Statement.call x es at) k l =
      same_stop i at (λ s1. call_statement h c x es at k s1) (λ s1. call_statement h e x es at k s1) (call_same h c e m t x es at k l)

  all_same : (h : Here) (c e : Callee) (m : ℕ) → AgreeWithin h.names m c e → (d i : ℕ) (ss : Statements) (k : ℕ) → k + statements_most h.names ss ≤ m
      → Same (run_all h c d i ss k) (run_all h e d i ss k)
  all_same h c e m t d i stat.Statements.none k l = λ s. refl
  all_same h c e m t d i (stat.Statements.and st ss) k l =
      let f = le-max_left (statement_most h.names st) (statements_most h.names ss) in
      let g = le-max_right (statement_most h.names st) (statements_most h.names ss) in
      same_go (run h c d i st k) (run h e d i st k) (λ _ s1. run_all h c d (i + stops st) ss k s1) (λ _ s1. run_all h e d (i + stops st) ss k s1)
      (run_same h c e m t d i st k (omega (arith, l, f))) (λ _. all_same h c e m t d (i + stops st) ss k (omega (arith, l, g)))

  from_same : (h : Here) (c e : Callee) (m : ℕ) → AgreeWithin h.names m c e → (d i : ℕ) (ss : Statements) (x : List ℕ) (k : ℕ)
      → k + statements_most h.names ss ≤ m → Same (run_from h c d i ss x k) (run_from h e d i ss x k)
  from_same h c e m t d i stat.Statements.none x k l = λ s. refl
  from_same h c e m t d i (stat.Statements.and st ss) x k l =
      let f = le-max_left (statement_most h.names st) (statements_most h.names ss) in
      let g = le-max_right (statement_most h.names st) (statements_most h.names ss) in
      same_if (bears st x) (λ s. then_go (run_at h c d i st x k s) (λ _ s1. run_all h c d (i + stops st) ss k s1))
      (λ s. then_go (run_at h e d i st x k s) (λ _ s1. run_all h e d (i + stops st) ss k s1))
      (run_from h c d (i + stops st) ss x k) (run_from h e d (i + stops st) ss x k)
      (same_go (run_at h c d i st x k) (run_at h e d i st x k) (λ _ s1. run_all h c d (i + stops st) ss k s1) (λ _ s1. run_all h e d (i + stops st) ss k s1)
      (at_same h c e m t d i st x k (omega (arith, l, f))) (λ _. all_same h c e m t d (i + stops st) ss k (omega (arith, l, g))))
      (from_same h c e m t d (i + stops st) ss x k (omega (arith, l, g)))

  at_same : (h : Here) (c e : Callee) (m : ℕ) → AgreeWithin h.names m c e → (d i : ℕ) (st : Statement) (x : List ℕ) (k : ℕ)
      → k + statement_most h.names st ≤ m → Same (run_at h c d i st x k) (run_at h e d i st x k)
  at_same h c e m t d i (stat.Statement.labelled y at st) x k l =
      same_if (same_name x y) (λ s. beginning s (λ s1. run h c d i st k s1)) (λ s. beginning s (λ s1. run h e d i st k s1))
      (run_at h c d i st x k) (run_at h e d i st x k)
      (same_begin (run h c d i st k) (run h e d i st k) (run_same h c e m t d i st k l)) (at_same h c e m t d i st x k l)
  at_same h c e m t d i stat.Statement.empty x k l = λ s. refl
  at_same h c e m t d i (stat.Statement.block ss) x k l = λ s. refl
  at_same h c e m t d i (stat.Statement.if_test q then_part else_part at) x k l = λ s. refl
  at_same h c e m t d i (stat.Statement.while_true y st at) x k l = λ s. refl
  at_same h c e m t d i (stat.Statement.until_true st y at) x k l = λ s. refl
  at_same h c e m t d i (stat.Statement.for_values y first step last st at) x k l = λ s. refl
  at_same h c e m t d i (stat.Statement.case_of y ss at) x k l = λ s. refl
  at_same h c e m t d i (stat.Statement.go_to y at) x k l = λ s. refl
  at_same h c e m t d i (stat.Statement.return at) x k l = λ s. refl
  at_same h c e m t d i (stat.Statement.assign to y at) x k l = λ s. refl
  at_same h c e m t d i (stat.Statement.assign_effect to y at) x k l = λ s. refl
  at_same h c e m t d i (stat.Statement.do_effect y at) x k l = λ s. refl
  at_same h c e m t d i (stat.Statement.call y es at) x k l = λ s. refl

  bearer_same : (h : Here) (c e : Callee) (m : ℕ) → AgreeWithin h.names m c e → (d i : ℕ) (ss : Statements) (x : List ℕ) (k : ℕ)
      → k + statements_most h.names ss ≤ m → Same (run_bearer h c d i ss x k) (run_bearer h e d i ss x k)
  bearer_same h c e m t d i stat.Statements.none x k l = λ s. refl
  bearer_same h c e m t d i (stat.Statements.and st ss) x k l =
      let f = le-max_left (statement_most h.names st) (statements_most h.names ss) in
      let g = le-max_right (statement_most h.names st) (statements_most h.names ss) in
      same_if (bears st x) (run_at h c d i st x k) (run_at h e d i st x k) (run_bearer h c d (i + stops st) ss x k) (run_bearer h e d (i + stops st) ss x k)
      (at_same h c e m t d i st x k (omega (arith, l, f))) (bearer_same h c e m t d (i + stops st) ss x k (omega (arith, l, g)))

  arm_same : (h : Here) (c e : Callee) (m : ℕ) → AgreeWithin h.names m c e → (d i : ℕ) (ss : Statements) (j k : ℕ)
      → k + statements_most h.names ss ≤ m → Same (run_arm h c d i ss j k) (run_arm h e d i ss j k)
  arm_same h c e m t d i stat.Statements.none j k l = λ s. refl
  arm_same h c e m t d i (stat.Statements.and st ss) zero k l =
      let f = le-max_left (statement_most h.names st) (statements_most h.names ss) in run_same h c e m t d i st k (omega (arith, l, f))
  arm_same h c e m t d i (stat.Statements.and st ss) (suc j) k l =
      let g = le-max_right (statement_most h.names st) (statements_most h.names ss) in
      arm_same h c e m t d (i + stops st) ss j k (omega (arith, l, g))

pub cover_calls : DepthsCoverCalls
cover_calls = record {
  values = λ h c e x k t. value_same h c e (k + most h.names x) t x k (omega arith);
  statements = λ h c e d i st k t. run_same h c e (k + statement_most h.names st) t d i st k (omega arith);
  lists = λ h c e d i ss k t. all_same h c e (k + statements_most h.names ss) t d i ss k (omega arith);
  bodies = λ h c e d i ss t.
      landing_same d (bears_among ss) (λ x s1. run_from h c d i ss x 0 s1) (λ x s1. run_from h e d i ss x 0 s1) (run_all h c d i ss 0) (run_all h e d i ss 0)
      (λ x. from_same h c e (statements_most h.names ss) t d i ss x 0 (omega arith)) (all_same h c e (statements_most h.names ss) t d i ss 0 (omega arith));
}
