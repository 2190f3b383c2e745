-- Behind which statements a condition code is known.
use Rattle.std.proofs.Common.{◌≡◌, ℕ, ◌+◌, ◌/◌, ◌%◌, Bool, true, false, List, [], ◌∷◌, length, Option, Some, None, sym, subst}
use Rattle.std.specs.Prelude.{is_some, ◌&&◌, if◌then◌else◌, nat_lt, slice_index}
use Rattle.std.proofs.lemmas.Bool.{false≢true}
use Rattle.spl_safe_values.specs.hp_word.Bytes.{with_byte}
use Rattle.spl_safe_values.specs.hp_word.declared.endings.Trap.TheVariants.{Bounds}
use Rattle.spl_safe_values.specs.spl_tree.declared.expressions.Kind.{Kind}
use Rattle.spl_safe_values.specs.spl_tree.declared.expressions.Kind.TheVariants as kind
use Rattle.spl_safe_values.specs.spl_tree.Trees as tree
use Rattle.spl_safe_values.specs.spl_tree.Trees.{Tree, Trees}
use Rattle.spl_safe_values.specs.spl_tree.StatementTrees as stat
use Rattle.spl_safe_values.specs.spl_tree.StatementTrees.{Target}
use Rattle.spl_safe_values.specs.spl_meaning.Names as n
use Rattle.spl_safe_values.specs.spl_meaning.Names.{Sort, intrinsic_profile}
use Rattle.spl_safe_values.specs.spl_meaning.Operations.{kept}
use Rattle.spl_safe_values.specs.spl_meaning.Pending.{result_words}
use Rattle.spl_safe_values.specs.spl_meaning.Places.{Place}
use Rattle.spl_safe_values.specs.spl_meaning.References.{Here, Access, its_own, by_address, by_cell, its_result, nowhere, address_of, data_word_read, word_at, placed_word, word_stored, store_by, store, own_located, led_located, passed_located, result_located, index_or_zero, element_located, locate_by, locate_target, target_access}
use Rattle.spl_safe_values.specs.spl_meaning.Serving.{served}
use Rattle.spl_safe_values.specs.spl_meaning.States.{State, trapped, Outcome, done, leaves, spent, ends, strays, then_go}
use Rattle.spl_safe_values.specs.spl_meaning.Statements.{is_intrinsic, is_intrinsic_alone, target_keeps_code, intrinsic_value, alone_value, assigned, value_dropped}
use Rattle.spl_safe_values.specs.spl_meaning.Values.{Callee, sense_of, value, arguments}
use Rattle.spl_safe_values.specs.Safe.{Coded}
use Rattle.spl_safe_values.proofs.spl_values_proofs.VariableLemmas.{both}
use Rattle.spl_safe_values.proofs.IntrinsicLemmas.{served_coded}
use Rattle.spl_safe_effects.specs.Laws.{CallsSetCodes, AssignmentsSetCodes}

-- a part behind which a code is known, where one is before it
record Keeps {A : Type 0} (f : State → Outcome A) : Type 0 where
  is : (s : State) → is_some s.code ≡ true → Coded (f s)

-- ---- composition

coded_go : {A B : Type 0} (o : Outcome A) (g : A → State → Outcome B) → Coded o → ((a : A) → Keeps (g a)) → Coded (then_go o g)
coded_go (done a s) g h more = (more a).is s h
coded_go (leaves x s) g h more = tt
coded_go (spent s) g h more = tt
coded_go (ends e s) g h more = tt
coded_go (strays s) g h more = tt

-- whatever is before it
coded_behind : {A B : Type 0} (o : Outcome A) (g : A → State → Outcome B) → ((a : A) (s : State) → Coded (g a s)) → Coded (then_go o g)
coded_behind (done a s) g more = more a s
coded_behind (leaves x s) g more = tt
coded_behind (spent s) g more = tt
coded_behind (ends e s) g more = tt
coded_behind (strays s) g more = tt

keeps_go : {A B : Type 0} {f : State → Outcome A} {g : A → State → Outcome B} → Keeps f → ((a : A) → Keeps (g a)) → Keeps (λ s. then_go (f s) g)
keeps_go {f = f} {g = g} h more = record { is = λ s e. coded_go (f s) g (h.is s e) more }

keeps_done : {A : Type 0} (a : A) → Keeps (λ s. done a s)
keeps_done a = record { is = λ s e. e }

keeps_strays : {A : Type 0} → Keeps {A = A} (λ s. strays (record s { lost = true }))
keeps_strays = record { is = λ s e. tt }

-- ---- words, locations and stores

word_keeps : (far : Bool) (a : ℕ) → Keeps (word_at far a)
word_keeps true a = record { is = λ s e. by s e (nat_lt a (length s.now.extra)) }
  where
    by : (s : State) → is_some s.code ≡ true → (t : Bool) → Coded (if t then done (slice_index s.now.extra a) s else ends (trapped Bounds) s)
    by s e true = e
    by s e false = tt
word_keeps false a = record { is = λ s e. by s e (nat_lt a s.now.stack) }
  where
    word : (o : Option ℕ) (s : State) → is_some s.code ≡ true → Coded (data_word_read o s)
    word (Some v) s e = e
    word None s e = tt

    by : (s : State) → is_some s.code ≡ true → (t : Bool) → Coded (if t then data_word_read (s.now.mem a) s else ends (trapped Bounds) s)
    by s e true = word (s.now.mem a) s e
    by s e false = tt

placed_coded : (far : Bool) (a v : ℕ) (s : State) → is_some s.code ≡ true → is_some (placed_word far a v s).code ≡ true
placed_coded true a v s e = e
placed_coded false a v s e = e

placed_keeps : (far : Bool) (a v : ℕ) → Keeps (λ s. done (tt {0}) (placed_word far a v s))
placed_keeps far a v = record { is = λ s e. placed_coded far a v s e }

word_stored_keeps : (far : Bool) (a : ℕ) (vs : List ℕ) → Keeps (word_stored far a vs)
word_stored_keeps far a [] = keeps_strays
word_stored_keeps far a (v ∷ []) = keeps_go (word_keeps far a) (λ w. placed_keeps far a v)
word_stored_keeps far a (v ∷ w ∷ vs) = keeps_strays

store_by_keeps : (k : Kind) (far : Bool) (a : ℕ) (vs : List ℕ) → Keeps (store_by k far a vs)
store_by_keeps kind.Double far a [] = keeps_strays
store_by_keeps kind.Double far a (v ∷ []) = keeps_strays
store_by_keeps kind.Double far a (high ∷ low ∷ []) =
    keeps_go (word_keeps far a) (λ v. keeps_go (word_keeps far ((a + 1) % 65536)) (λ w. record {
      is = λ s e. placed_coded far ((a + 1) % 65536) low (placed_word far a high s) (placed_coded far a high s e);
    }))
store_by_keeps kind.Double far a (high ∷ low ∷ v ∷ vs) = keeps_strays
store_by_keeps kind.Byte far a [] = keeps_strays
store_by_keeps kind.Byte far a (v ∷ []) = keeps_go (word_keeps far (a / 2)) (λ w. placed_keeps far (a / 2) (with_byte a (v % 256) w))
store_by_keeps kind.Byte far a (v ∷ w ∷ vs) = keeps_strays
store_by_keeps kind.Integer far a vs = word_stored_keeps far a vs
store_by_keeps kind.Logical far a vs = word_stored_keeps far a vs

own_keeps : (t : Kind) (o : Option Place) (i : Option ℕ) → Keeps (own_located t o i)
own_keeps t (Some p) None = record { is = λ s e. e }
own_keeps t (Some p) (Some i) = keeps_strays
own_keeps t None i = keeps_strays

led_keeps : (far : Bool) (t : Kind) (o : Option Place) (i : ℕ) → Keeps (led_located far t o i)
led_keeps far t (Some p) i = record {
  is = λ s e. coded_go (word_at false (address_of p s.now) s) (λ cell s1. done (element_located far t cell i) s1)
      ((word_keeps false (address_of p s.now)).is s e) (λ cell. keeps_done (element_located far t cell i));
}
led_keeps far t None i = keeps_strays

passed_keeps : (t : Kind) (o : Option Place) (i : Option ℕ) → Keeps (passed_located t o i)
passed_keeps t o None = led_keeps false t o 0
passed_keeps t o (Some i) = keeps_strays

result_keeps : (o : Option (Kind × Place)) (i : Option ℕ) → Keeps (result_located o i)
result_keeps (Some r) None = record { is = λ s e. e }
result_keeps (Some r) (Some i) = keeps_strays
result_keeps None i = keeps_strays

locate_keeps : (h : Here) (x : List ℕ) (a : Access) (i : Option ℕ) → Keeps (locate_by h x a i)
locate_keeps h x (its_own t) i = own_keeps t (h.places x) i
locate_keeps h x (by_address t) i = passed_keeps t (h.places x) i
locate_keeps h x (by_cell is_pointer t) i = led_keeps (is_pointer && h.setting.split) t (h.places x) (index_or_zero i)
locate_keeps h x its_result i = result_keeps (h.results x) i
locate_keeps h x nowhere i = keeps_strays

-- ---- intrinsics

-- what an intrinsic answers
intrinsic_coded : (h : Here) (call : Callee) (x : List ℕ) (es : Trees) (k : ℕ) (s : State) (o : Option Sort) → is_intrinsic o ≡ true
    → Coded (intrinsic_value h call (sense_of x o) es k s)
intrinsic_coded h call x es k s (Some (n.intrinsic i)) e =
    coded_behind (arguments h call (intrinsic_profile i).formals es (k + result_words (intrinsic_profile i)) s) (λ ws s1. served i ws s1)
    (λ ws t. served_coded i ws t)
intrinsic_coded h call x es k s o e = absurd (false≢true e)

alone_coded : (h : Here) (call : Callee) (e : Tree) (k : ℕ) (s : State) → is_intrinsic_alone h.names e ≡ true → Coded (alone_value h call e k s)
alone_coded h call (tree.Tree.named x es at) k s e = intrinsic_coded h call x es k s (h.names x) e
alone_coded h call t k s e = absurd (false≢true e)

pub calls_coded : CallsSetCodes
calls_coded h call x es at k s e =
    subst (λ (t : Bool). Coded (if t then value_dropped (intrinsic_value h call (sense_of x (h.names x)) es k s) else value_dropped (value h call (tree.Tree.named x es at) k s)))
    (sym e) (coded_go (intrinsic_value h call (sense_of x (h.names x)) es k s) (λ vs t. done tt t) (intrinsic_coded h call x es k s (h.names x) e) (λ vs. keeps_done tt))

-- and its store
stored_coded : (h : Here) (call : Callee) (to : Target) (value_at : ℕ → State → Outcome (List ℕ)) (k : ℕ) (s : State) → target_keeps_code h.names to ≡ true
    → ((j : ℕ) (t : State) → Coded (value_at j t)) → Coded (assigned h call to value_at k s)
stored_coded h call (stat.Target.plain (tree.Tree.named x tree.Trees.none at)) value_at k s e known =
    coded_go (value_at k s) (λ vs s2. then_go (locate_target h x None s2) (λ p s3. store p (kept p.kind vs) s3)) (known k s)
    (λ vs. keeps_go (locate_keeps h x (target_access (h.names x)) None) (λ p. store_by_keeps p.kind p.far p.address (kept p.kind vs)))
stored_coded h call to value_at k s e known = absurd (false≢true e)

pub assignments_coded : AssignmentsSetCodes
assignments_coded h call to e k s is =
    let two = both (is_intrinsic_alone h.names e) (target_keeps_code h.names to) is in
    subst
    (λ (t : Bool). Coded (if t then assigned h call to (λ j s1. alone_value h call e j s1) k s else assigned h call to (λ j s1. value h call e j s1) k s))
    (sym is) (stored_coded h call to (λ j s1. alone_value h call e j s1) k s two.1 (λ j t. alone_coded h call e j t two.0))
