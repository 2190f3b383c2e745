-- Values have the words of their kinds.
use Rattle.std.proofs.Common.{ℕ, zero, suc, ◌≡◌, ◌+◌, ◌-◌, ◌/◌, ◌%◌, ◌==◌, Bool, true, false, List, [], ◌∷◌, ◌++◌, length, Option, Some, None, ℤ, pos, negsuc, refl, sym, ap, subst, ◌∙◌, arith}
use Rattle.std.specs.Prelude.{if◌then◌else◌, ◌&&◌, not, nat_lt, nat_le, slice_get, slice_index}
use Rattle.std.proofs.lemmas.List.{length-append}
use Rattle.std.proofs.lemmas.Bool.{lt-ltb, ltb-true, ltb-false, le-leb}
use Rattle.spl_meaning.specs.hp_word.Words.{added, subtracted, multiplied, divided, negated, logically_added, logically_subtracted, logically_multiplied, logically_divided, double_added, double_subtracted, double_negated, words_compared, logically_compared, doubles_compared}
use Rattle.spl_meaning.specs.hp_word.Bytes.{byte_at, double}
use Rattle.spl_meaning.specs.hp_word.declared.arithmetic.Arith.{Arith}
use Rattle.spl_meaning.specs.hp_word.declared.arithmetic.Wide.{Wide}
use Rattle.spl_meaning.specs.hp_word.declared.arithmetic.Quotient.{Quotient}
use Rattle.spl_meaning.specs.hp_word.declared.arithmetic.Code.{Code}
use Rattle.spl_meaning.specs.hp_word.declared.endings.Ending.{Ending}
use Rattle.spl_meaning.specs.hp_word.declared.endings.Ending.TheVariants as ending
use Rattle.spl_meaning.specs.hp_word.declared.endings.Trap.TheVariants.{StackOverflow, Bounds, OutputLimit}
use Rattle.spl_meaning.specs.hp_word.declared.intrinsics.Intrinsic.{Intrinsic}
use Rattle.spl_meaning.specs.hp_word.declared.intrinsics.Intrinsic.TheVariants as which
use Rattle.spl_meaning.specs.hp_word.declared.numbers.Number.{Number}
use Rattle.spl_meaning.specs.hp_word.declared.numbers.Number.TheVariants.{Value, TooLarge, BadForm}
use Rattle.spl_meaning.specs.hp_word.Intrinsics as gate
use Rattle.spl_meaning.specs.spl_tree.declared.expressions.Kind.{Kind}
use Rattle.spl_meaning.specs.spl_tree.declared.expressions.Kind.TheVariants as kind
use Rattle.spl_meaning.specs.spl_tree.Trees as tree
use Rattle.spl_meaning.specs.spl_tree.Trees.{Tree, Trees}
use Rattle.spl_meaning.specs.Names as n
use Rattle.spl_meaning.specs.Names.{Sort, Formal, Profile, profile_of, intrinsic_profile, text_value, truth_word}
use Rattle.spl_meaning.specs.Kinds.{Operand, of, const, unknown, Class, integers, logicals, doubles, mixed, class_of, class_operand, width, result_width, operand_width, result_of, named_operand, kind_of, is_connective, is_relation, relation_number, compares_text, is_byte, is_long_text, reference_kind, binary_operand, unary_operand, minus_operand, positive, negative, plus, minus, times, modulo, or_operator}
use Rattle.spl_meaning.specs.Pending.{return_words, by_value, value_words, formal_words, formals_words, result_words}
use Rattle.spl_meaning.specs.Places.{put}
use Rattle.spl_meaning.specs.Tables.{Subroutine, subroutine_named}
use Rattle.spl_meaning.specs.Bodies.{Body, Named, body_named, subroutine_body}
use Rattle.spl_meaning.specs.States.{Data, State, Outcome, done, leaves, spent, ends, strays, has_no_meaning, printed_size, then_go, step_of, stepping, code_dropped, trapped}
use Rattle.spl_meaning.specs.References.{Here, Located, access_of, own_located, passed_located, led_located, index_or_zero, locate_by, locate, read_by, read, word_read, word_at}
use Rattle.spl_meaning.specs.Operations.{double_words, is_odd, word_done, double_done, quotient_done, relation_done, on_integers, on_logicals, on_doubles, by_class, on_bits, bits_done, joined, minus_done, not_done, signed_done, shift_done, field_done, with_single, extended, transferred, passed, result_value, related}
use Rattle.spl_meaning.specs.Elements.{with_one, compared_by, compared_text, relation_told}
use Rattle.spl_meaning.specs.Serving.{byte_of, all_below, all_data, touched, answered, effected, served, carried_out}
use Rattle.spl_meaning.specs.Values.{Who, procedure, subroutine, Callee, a_call, sense_of, small_constant, text_done, constant_done, named_value, address_done, connected, text_bytes, argument, value, located, index, arguments}
use Rattle.spl_meaning.specs.Statements.{run_body}
use Rattle.spl_meaning.specs.Runs.{link_of, locals_of, procedure_framed, cells_set, subroutine_framed, framed, run_statement, returned, words_at, result_at, left_to, called_back, call_procedure, call_subroutine, enter_procedure, enter_subroutine, zeroed, calls}
use Rattle.spl_frames.specs.Sizes.{HasWordsOf, IsDone, CallsFit, ValuesHaveTheirWords}

-- a part whose value is so
record Gives {A : Type 0} (P : A → Type 0) (f : State → Outcome A) : Type 0 where
  pub is : (s : State) → IsDone P (f s)

-- ---- composition

any_done : {A : Type 0} (P : A → Type 0) (o : Outcome A) → ((a : A) → P a) → IsDone P o
any_done P (done a s) h = h a
any_done P (leaves x s) h = tt
any_done P (spent s) h = tt
any_done P (ends e s) h = tt
any_done P (strays s) h = tt

gives_all : {A : Type 0} {P : A → Type 0} {f : State → Outcome A} → ((a : A) → P a) → Gives P f
gives_all {P = P} {f = f} h = record { is = λ s. any_done P (f s) h }

gives_done : {A : Type 0} {P : A → Type 0} (a : A) → P a → Gives P (λ s. done a s)
gives_done a p = record { is = λ s. p }

gives_strays : {A : Type 0} {P : A → Type 0} → Gives {A = A} P (λ s. strays s)
gives_strays = record { is = λ s. tt }

gives_lost : {A : Type 0} {P : A → Type 0} → Gives {A = A} P (λ s. has_no_meaning s)
gives_lost = record { is = λ s. tt }

done_go : {A B : Type 0} (P : A → Type 0) (Q : B → Type 0) (o : Outcome A) (g : A → State → Outcome B) → IsDone P o
    → ((a : A) → P a → Gives Q (g a)) → IsDone Q (then_go o g)
done_go P Q (done a s) g p h = (h a p).is s
done_go P Q (leaves x s) g p h = tt
done_go P Q (spent s) g p h = tt
done_go P Q (ends e s) g p h = tt
done_go P Q (strays s) g p h = tt

gives_go : {A B : Type 0} {P : A → Type 0} {Q : B → Type 0} {f : State → Outcome A} {g : A → State → Outcome B} → Gives P f
    → ((a : A) → P a → Gives Q (g a)) → Gives Q (λ s. then_go (f s) g)
gives_go {P = P} {Q = Q} {f = f} {g = g} t h = record { is = λ s. done_go P Q (f s) g (t.is s) h }

done_step : {A : Type 0} (P : A → Type 0) (k : ℕ) (s : State) (g : State → Outcome A) → Gives P g → IsDone P (step_of k s g)
done_step P zero s g t = tt
done_step P (suc k) s g t = t.is (record s { left = k })

gives_step : {A : Type 0} {P : A → Type 0} {g : State → Outcome A} → Gives P g → Gives P (λ s. stepping s g)
gives_step {P = P} {g = g} t = record { is = λ s. done_step P s.left s g t }

gives_if : {A : Type 0} {P : A → Type 0} (c : Bool) {f g : State → Outcome A} → Gives P f → Gives P g → Gives P (λ s. if c then f s else g s)
gives_if true t u = t
gives_if false t u = u

-- nothing is said
abbrev Free : {A : Type 0} → A → Type 0
Free a = Unit {0}

free : {A : Type 0} (f : State → Outcome A) → Gives Free f
free f = gives_all (λ a. tt)

-- one word, two words
abbrev One : List ℕ → Type 0
One vs = length vs ≡ 1

abbrev Two : List ℕ → Type 0
Two vs = length vs ≡ 2

-- the word of a value that has one
with_one_gives : {A : Type 0} {P : A → Type 0} (vs : List ℕ) {g : ℕ → State → Outcome A} → ((w : ℕ) → Gives P (g w))
    → Gives P (λ s. with_one vs s g)
with_one_gives [] t = gives_lost
with_one_gives (w ∷ []) t = t w
with_one_gives (w ∷ x ∷ vs) t = gives_lost

-- ---- reading

word_size : (far : Bool) (a : ℕ) → Gives One (word_read far a)
word_size far a = gives_go (free (word_at far a)) (λ w _. gives_done (w ∷ []) refl)

read_by_size : (k : Kind) (far : Bool) (a : ℕ) → Gives (λ vs. length vs ≡ width k) (read_by k far a)
read_by_size kind.Double far a =
    gives_go (free (word_at far a)) (λ high _. gives_go (free (word_at far ((a + 1) % 65536))) (λ low _. gives_done (high ∷ low ∷ []) refl))
read_by_size kind.Byte far a = gives_go (free (word_at far (a / 2))) (λ w _. gives_done (byte_at a w ∷ []) refl)
read_by_size kind.Integer far a = word_size far a
read_by_size kind.Logical far a = word_size far a

read_size : (p : Located) → Gives (λ vs. length vs ≡ width p.kind) (read p)
read_size p = read_by_size p.kind p.far p.address

-- a location at which a value of what a name stands for is read
abbrev Leads : Option Sort → Located → Type 0
Leads o p = (vs : List ℕ) → length vs ≡ width p.kind → HasWordsOf (named_operand o) vs

own_leads : (h : Here) (x : List ℕ) (k : Kind) (i : Option ℕ) (P : Located → Type 0)
    → ((a : ℕ) → P (record { far = false; kind = k; address = a })) → Gives P (own_located k (h.places x) i)
own_leads h x k i P q = by (h.places x) i
  where
    by : (o : Option _) (i : Option ℕ) → Gives P (own_located k o i)
    by (Some p) None = record { is = λ s. q _ }
    by (Some p) (Some i) = gives_lost
    by None i = gives_lost

led_leads : (h : Here) (x : List ℕ) (far : Bool) (k : Kind) (i : ℕ) (P : Located → Type 0)
    → ((a : ℕ) → P (record { far = far; kind = k; address = a })) → Gives P (led_located far k (h.places x) i)
led_leads h x far k i P q = by (h.places x)
  where
    by : (o : Option _) → Gives P (led_located far k o i)
    by (Some p) = record { is = λ s. done_go Free P (word_at false _ s) _ (any_done Free (word_at false _ s) (λ a. tt)) (λ cell _. gives_done _ (q _)) }
    by None = gives_lost

passed_leads : (h : Here) (x : List ℕ) (k : Kind) (i : Option ℕ) (P : Located → Type 0)
    → ((a : ℕ) → P (record { far = false; kind = k; address = a })) → Gives P (passed_located k (h.places x) i)
passed_leads h x k None P q = led_leads h x false k 0 P q
passed_leads h x k (Some i) P q = gives_lost

locate_leads : (h : Here) (x : List ℕ) (o : Option Sort) (i : Option ℕ) → Gives (Leads o) (locate_by h x (access_of o) i)
locate_leads h x (Some (n.simple k own)) i = own_leads h x k i _ (λ a vs e. e)
locate_leads h x (Some (n.value k)) i = own_leads h x k i _ (λ a vs e. e)
locate_leads h x (Some (n.by_reference k)) i = passed_leads h x k i _ (λ a vs e. e)
locate_leads h x (Some (n.array k own low high)) i = led_leads h x false k (index_or_zero i) _ (λ a vs e. e)
locate_leads h x (Some (n.view k own base)) i = led_leads h x false k (index_or_zero i) _ (λ a vs e. e)
locate_leads h x (Some (n.array_parameter k)) i = led_leads h x false k (index_or_zero i) _ (λ a vs e. e)
locate_leads h x (Some (n.pointer k own)) i = led_leads h x h.setting.split k (index_or_zero i) _ (λ a vs e. e)
locate_leads h x (Some (n.equate v)) i = gives_lost
locate_leads h x (Some n.label) i = gives_lost
locate_leads h x (Some (n.intrinsic g)) i = gives_lost
locate_leads h x (Some (n.procedure p)) i = gives_lost
locate_leads h x (Some (n.subroutine p)) i = gives_lost
locate_leads h x (Some n.unknown) i = gives_lost
locate_leads h x None i = gives_lost

-- ---- operators

word_done_size : (r : Arith) → Gives One (word_done r)
word_done_size r = gives_if r.overflow (record { is = λ s. tt }) (gives_done (r.value ∷ []) refl)

double_done_size : (r : Wide) → Gives Two (double_done r)
double_done_size r = gives_if r.overflow (record { is = λ s. tt }) (gives_done (double_words r.value) refl)

quotient_size : (rest : Bool) (o : Option Quotient) → Gives One (quotient_done rest o)
quotient_size rest None = record { is = λ s. tt }
quotient_size rest (Some q) = gives_if q.overflow (record { is = λ s. tt }) (gives_done ((if rest then q.remainder else q.quotient) ∷ []) refl)

relation_size : (op : ℕ) (c : Code) → Gives One (relation_done op c)
relation_size op c = gives_done (truth_word (related op c) ∷ []) refl

integers_size : (op x y : ℕ) → Gives One (on_integers op x y)
integers_size op x y =
    gives_if (is_relation op) (relation_size (relation_number op) (words_compared x y))
    (gives_if (op == plus) (word_done_size (added x y))
    (gives_if (op == minus) (word_done_size (subtracted x y))
    (gives_if (op == times) (word_done_size (multiplied x y)) (quotient_size (op == modulo) (divided x y)))))

logicals_size : (op x y : ℕ) → Gives One (on_logicals op x y)
logicals_size op x y =
    gives_if (is_relation op) (relation_size (relation_number op) (logically_compared x y))
    (gives_if (op == plus) (gives_done ((logically_added x y).value ∷ []) refl)
    (gives_if (op == minus) (gives_done ((logically_subtracted x y).value ∷ []) refl)
    (gives_if (op == times) (gives_done ((logically_multiplied x y).value % 65536 ∷ []) refl)
    (quotient_size (op == modulo) (logically_divided x y)))))

-- of doubles a relation has one word, and a sum two
doubles_size : (op x y : ℕ) → Gives (HasWordsOf (if is_relation op then of kind.Logical else of kind.Double)) (on_doubles op x y)
doubles_size op x y = by (is_relation op)
  where
    by : (t : Bool) → Gives (HasWordsOf (if t then of kind.Logical else of kind.Double))
        (λ s. if t then relation_done (relation_number op) (doubles_compared x y) s
        else if op == plus then double_done (double_added x y) s else double_done (double_subtracted x y) s)
    by true = relation_size (relation_number op) (doubles_compared x y)
    by false = gives_if (op == plus) (double_done_size (double_added x y)) (double_done_size (double_subtracted x y))

-- the operand that an operator on a class makes
abbrev made : ℕ → Class → Operand
made op c = if is_relation op then of kind.Logical else class_operand c

-- one word is that of a relation, and of an INTEGER or a LOGICAL
one_made : (op : ℕ) (k : Kind) (vs : List ℕ) → width k ≡ 1 → One vs → HasWordsOf (if is_relation op then of kind.Logical else of k) vs
one_made op k vs w o = by (is_relation op)
  where
    by : (t : Bool) → HasWordsOf (if t then of kind.Logical else of k) vs
    by true = o
    by false = o ∙ sym w

gives_more : {P Q : List ℕ → Type 0} {f : State → Outcome (List ℕ)} → Gives P f → ((vs : List ℕ) → P vs → Q vs) → Gives Q f
gives_more {P = P} {Q = Q} {f = f} t h = record { is = λ s. by (f s) (t.is s) }
  where
    by : (o : Outcome (List ℕ)) → IsDone P o → IsDone Q o
    by (done a s) p = h a p
    by (leaves x s) p = tt
    by (spent s) p = tt
    by (ends e s) p = tt
    by (strays s) p = tt

by_class_size : (c : Class) (op : ℕ) (xs ys : List ℕ) → Gives (HasWordsOf (made op c)) (by_class c op xs ys)
by_class_size integers op [] ys = gives_lost
by_class_size integers op (x ∷ []) [] = gives_lost
by_class_size integers op (x ∷ []) (y ∷ []) = gives_more (integers_size op x y) (λ vs o. one_made op kind.Integer vs refl o)
by_class_size integers op (x ∷ []) (y ∷ z ∷ ys) = gives_lost
by_class_size integers op (x ∷ w ∷ xs) ys = gives_lost
by_class_size logicals op [] ys = gives_lost
by_class_size logicals op (x ∷ []) [] = gives_lost
by_class_size logicals op (x ∷ []) (y ∷ []) = gives_more (logicals_size op x y) (λ vs o. one_made op kind.Logical vs refl o)
by_class_size logicals op (x ∷ []) (y ∷ z ∷ ys) = gives_lost
by_class_size logicals op (x ∷ w ∷ xs) ys = gives_lost
by_class_size doubles op [] ys = gives_lost
by_class_size doubles op (h ∷ []) ys = gives_lost
by_class_size doubles op (h ∷ l ∷ []) [] = gives_lost
by_class_size doubles op (h ∷ l ∷ []) (k ∷ []) = gives_lost
by_class_size doubles op (h ∷ l ∷ []) (k ∷ m ∷ []) = doubles_size op (double h l) (double k m)
by_class_size doubles op (h ∷ l ∷ []) (k ∷ m ∷ z ∷ ys) = gives_lost
by_class_size doubles op (h ∷ l ∷ w ∷ xs) ys = gives_lost
by_class_size mixed op xs ys = gives_lost

bits_size : (op : ℕ) (xs ys : List ℕ) → Gives One (bits_done op xs ys)
bits_size op [] ys = gives_lost
bits_size op (x ∷ []) [] = gives_lost
bits_size op (x ∷ []) (y ∷ []) = gives_done (on_bits op x y ∷ []) refl
bits_size op (x ∷ []) (y ∷ z ∷ ys) = gives_lost
bits_size op (x ∷ w ∷ xs) ys = gives_lost

-- a relation is told by its number, from 5 to 10
relation_is : (op : ℕ) → nat_lt op 5 ≡ false → nat_lt op 11 ≡ true → is_relation op ≡ true
relation_is op e f = let l = ltb-false op 5 e in ap (λ (t : Bool). t && nat_lt op 11) (le-leb 5 op l) ∙ f

no_relation : (op : ℕ) → nat_lt op 11 ≡ false → is_relation op ≡ false
no_relation op f = by (nat_le 5 op)
  where
    by : (t : Bool) → (t && nat_lt op 11) ≡ false
    by true = f
    by false = refl

joined_size : (op : ℕ) (l r : Operand) (xs ys : List ℕ) → Gives (HasWordsOf (binary_operand op l r)) (joined op l r xs ys)
joined_size op l r xs ys = by (nat_lt op 5) (nat_lt op 11) refl refl
  where
    by : (t u : Bool) → nat_lt op 5 ≡ t → nat_lt op 11 ≡ u
        → Gives (HasWordsOf (if u then of kind.Logical else class_operand (class_of l r)))
        (λ s. if t then bits_done op xs ys s else by_class (class_of l r) op xs ys s)
    by true true e f = bits_size op xs ys
    by true false e f = let a = ltb-true op 5 e in let b = ltb-false op 11 f in absurd (omega (arith, a, b))
    by false true e f =
        subst (λ (t : Bool). Gives (HasWordsOf (if t then of kind.Logical else class_operand (class_of l r))) (by_class (class_of l r) op xs ys))
        (relation_is op e f) (by_class_size (class_of l r) op xs ys)
    by false false e f =
        subst (λ (t : Bool). Gives (HasWordsOf (if t then of kind.Logical else class_operand (class_of l r))) (by_class (class_of l r) op xs ys))
        (no_relation op f) (by_class_size (class_of l r) op xs ys)

minus_size : (k : Operand) (vs : List ℕ) → Gives (HasWordsOf (minus_operand k)) (minus_done k vs)
minus_size (of kind.Integer) [] = gives_lost
minus_size (of kind.Integer) (a ∷ []) = word_done_size (negated a)
minus_size (of kind.Integer) (a ∷ c ∷ vs) = gives_lost
minus_size const [] = gives_lost
minus_size const (a ∷ []) = word_done_size (negated a)
minus_size const (a ∷ c ∷ vs) = gives_lost
minus_size (of kind.Logical) [] = gives_lost
minus_size (of kind.Logical) (a ∷ []) = gives_done _ refl
minus_size (of kind.Logical) (a ∷ c ∷ vs) = gives_lost
minus_size (of kind.Byte) [] = gives_lost
minus_size (of kind.Byte) (a ∷ []) = gives_done _ refl
minus_size (of kind.Byte) (a ∷ c ∷ vs) = gives_lost
minus_size (of kind.Double) [] = gives_lost
minus_size (of kind.Double) (h ∷ []) = gives_lost
minus_size (of kind.Double) (h ∷ l ∷ []) = double_done_size (double_negated (double h l))
minus_size (of kind.Double) (h ∷ l ∷ c ∷ vs) = gives_lost
minus_size unknown vs = gives_lost

not_size : (vs : List ℕ) → Gives One (not_done vs)
not_size [] = gives_lost
not_size (a ∷ []) = gives_done ((65535 - a) ∷ []) refl
not_size (a ∷ c ∷ vs) = gives_lost

signed_size : (op : ℕ) (k : Operand) (vs : List ℕ) → HasWordsOf k vs → Gives (HasWordsOf (unary_operand op k)) (signed_done op k vs)
signed_size op k vs p = by (op == positive) (op == negative)
  where
    by : (t u : Bool) → Gives (HasWordsOf (if t then k else if u then minus_operand k else of kind.Logical))
        (λ s. if t then done vs s else if u then minus_done k vs s else not_done vs s)
    by true u = gives_done vs p
    by false true = minus_size k vs
    by false false = not_size vs

shift_size : (op count : ℕ) (vs : List ℕ) → Gives One (shift_done op count vs)
shift_size op count [] = gives_lost
shift_size op count (w ∷ []) = gives_done _ refl
shift_size op count (w ∷ x ∷ vs) = gives_lost

field_size : (start size : ℕ) (vs : List ℕ) → Gives One (field_done start size vs)
field_size start size [] = gives_lost
field_size start size (w ∷ []) = gives_done _ refl
field_size start size (w ∷ x ∷ vs) = gives_lost

single_size : (vs : List ℕ) (f : ℕ → ℕ) → Gives One (λ s. with_single vs s (λ w. done (f w ∷ []) s))
single_size [] f = gives_lost
single_size (w ∷ []) f = gives_done (f w ∷ []) refl
single_size (x ∷ w ∷ []) f = gives_done (f w ∷ []) refl
single_size (x ∷ w ∷ y ∷ vs) f = gives_lost

extended_size : (k : Operand) (vs : List ℕ) → Gives Two (extended k vs)
extended_size (of kind.Integer) [] = gives_lost
extended_size (of kind.Integer) (w ∷ []) = gives_done _ refl
extended_size (of kind.Integer) (w ∷ x ∷ vs) = gives_lost
extended_size const [] = gives_lost
extended_size const (w ∷ []) = gives_done _ refl
extended_size const (w ∷ x ∷ vs) = gives_lost
extended_size (of kind.Double) [] = gives_lost
extended_size (of kind.Double) (h ∷ []) = gives_lost
extended_size (of kind.Double) (h ∷ l ∷ []) = gives_done _ refl
extended_size (of kind.Double) (h ∷ l ∷ w ∷ vs) = gives_lost
extended_size (of kind.Logical) [] = gives_lost
extended_size (of kind.Logical) (w ∷ []) = gives_done _ refl
extended_size (of kind.Logical) (w ∷ x ∷ vs) = gives_lost
extended_size (of kind.Byte) [] = gives_lost
extended_size (of kind.Byte) (w ∷ []) = gives_done _ refl
extended_size (of kind.Byte) (w ∷ x ∷ vs) = gives_lost
extended_size unknown vs = gives_lost

transferred_size : (k : Kind) (from : Operand) (vs : List ℕ) → Gives (λ us. length us ≡ width k) (transferred k from vs)
transferred_size kind.Integer from vs = single_size vs (λ w. w)
transferred_size kind.Logical from vs = single_size vs (λ w. w)
transferred_size kind.Byte from vs = single_size vs (λ w. w % 256)
transferred_size kind.Double from vs = extended_size from vs

passed_size : (f : Formal) (vs : List ℕ) → Gives (λ us. length us ≡ value_words true f.kind) (passed f.kind vs)
passed_size f vs = by f.kind vs
  where
    by : (k : Option Kind) (vs : List ℕ) → Gives (λ us. length us ≡ value_words true k) (passed k vs)
    by None vs = gives_lost
    by (Some kind.Integer) [] = gives_lost
    by (Some kind.Integer) (w ∷ []) = gives_done _ refl
    by (Some kind.Integer) (w ∷ x ∷ vs) = gives_lost
    by (Some kind.Logical) [] = gives_lost
    by (Some kind.Logical) (w ∷ []) = gives_done _ refl
    by (Some kind.Logical) (w ∷ x ∷ vs) = gives_lost
    by (Some kind.Byte) [] = gives_lost
    by (Some kind.Byte) (w ∷ []) = gives_done _ refl
    by (Some kind.Byte) (w ∷ x ∷ vs) = gives_lost
    by (Some kind.Double) [] = gives_lost
    by (Some kind.Double) (h ∷ []) = gives_lost
    by (Some kind.Double) (h ∷ l ∷ []) = gives_done _ refl
    by (Some kind.Double) (h ∷ l ∷ w ∷ vs) = gives_lost

argument_size : (f : Formal) (e : State → Outcome (List ℕ)) (p : State → Outcome Located)
    → Gives (λ us. length us ≡ formal_words f) (argument f e p)
argument_size f e p = by (by_value f) refl
  where
    by : (t : Bool) → by_value f ≡ t
        → Gives (λ us. length us ≡ value_words t f.kind)
        (λ s. if t then then_go (e s) (λ vs s1. passed f.kind vs s1) else then_go (p s) address_done)
    by true q = gives_go (free e) (λ vs _. passed_size f vs)
    by false q = gives_go (free p) (λ l _. gives_done (l.address % 65536 ∷ []) refl)

-- ---- intrinsics

number_size : (wide : Bool) (m : ℕ) → length (gate.number_words wide m) ≡ (if wide then 2 else 1)
number_size true m = refl
number_size false m = refl

answered_size : (wide : Bool) (read : List ℕ) (x : Number) → length (gate.number_answered wide read x).answer ≡ (if wide then 2 else 1)
answered_size wide read (Value m) = number_size wide m
answered_size wide read TooLarge = number_size wide 0
answered_size wide read BadForm = number_size wide 0

number_read_size : (byte : ℕ → ℕ) (wide : Bool) (array : ℕ) (z : ℤ) → length (gate.number_read byte wide array z).answer ≡ (if wide then 2 else 1)
number_read_size byte wide array (pos size) = answered_size wide _ _
number_read_size byte wide array (negsuc m) = answered_size wide [] BadForm

text_answer : (t u : Bool) (a b : gate.Effect) → One a.answer → One b.answer
    → One (if t then a else if u then b else gate.unknown_base).answer
text_answer true u a b p q = p
text_answer false true a b p q = q
text_answer false false a b p q = refl

read_answer : (line : Option (List ℕ)) (array size : ℕ) → One (gate.read_call line array size).answer
unfolding gate.read_call
read_answer None array size = refl
read_answer (Some l) array size = refl

called_size : (byte : ℕ → ℕ) (line : Option (List ℕ)) (i : Intrinsic) (ws : List ℕ)
    → length (gate.called byte line i ws).answer ≡ result_words (intrinsic_profile i)
unfolding gate.called gate.print_call gate.ascii_call gate.dascii_call gate.binary_call gate.dbinary_call gate.terminate_call gate.quit_call
called_size byte line which.Print ws = refl
called_size byte line which.Read ws = read_answer line (slice_index ws 0) (slice_index ws 1)
called_size byte line which.Ascii ws = text_answer (slice_index ws 1 == 10) (slice_index ws 1 == 8) _ _ refl refl
called_size byte line which.Dascii ws = text_answer (slice_index ws 2 == 10) (slice_index ws 2 == 8) _ _ refl refl
called_size byte line which.Binary ws = number_read_size byte false _ _
called_size byte line which.Dbinary ws = number_read_size byte true _ _
called_size byte line which.Terminate ws = refl
called_size byte line which.Quit ws = refl

answer_size : (e : Ending) (answer : List ℕ) (m : ℕ) → length answer ≡ m → Gives (λ vs. length vs ≡ m) (answered e answer)
answer_size ending.Running answer m p = gives_done answer p
answer_size ending.Terminated answer m p = record { is = λ s. tt }
answer_size (ending.Quit q) answer m p = record { is = λ s. tt }
answer_size (ending.Trapped t) answer m p = record { is = λ s. tt }

-- a part that looks at its data
gives_now : {A : Type 0} {P : A → Type 0} (f : Data → State → Outcome A) → ((d : Data) → Gives P (f d)) → Gives P (λ s. f s.now s)
gives_now f t = record { is = λ s. (t s.now).is s }

gives_ends : {A : Type 0} {P : A → Type 0} (e : _) → Gives {A = A} P (λ s. ends e s)
gives_ends e = record { is = λ s. tt }

-- a state that is changed before a part
gives_in : {A : Type 0} {P : A → Type 0} (f : State → State) {g : State → Outcome A} → Gives P g → Gives P (λ s. g (f s))
gives_in f t = record { is = λ s. t.is (f s) }

-- a call, by the data that it finds
abbrev by : gate.Effect → Data → State → Outcome (List ℕ)
by e d s =
    if not (all_below d.stack (touched e)) then ends (trapped Bounds) s
    else if not (all_data d.mem (touched e)) then strays s
    else if not (nat_le (length e.prints) (d.room - printed_size d.printed)) then ends (trapped OutputLimit) s
    else stepping (carried_out e s) (λ s1. answered e.ending e.answer s1)

effect_size : (e : gate.Effect) (m : ℕ) → length e.answer ≡ m → Gives (λ vs. length vs ≡ m) (effected e)
effect_size e m p = gives_now (by e) (λ d.
    gives_if (not (all_below d.stack (touched e))) (gives_ends (trapped Bounds))
    (gives_if (not (all_data d.mem (touched e))) gives_strays
    (gives_if (not (nat_le (length e.prints) (d.room - printed_size d.printed))) (gives_ends (trapped OutputLimit))
    (gives_in (carried_out e) (gives_step (answer_size e.ending e.answer m p))))))

served_size : (i : Intrinsic) (ws : List ℕ) → Gives (λ vs. length vs ≡ result_words (intrinsic_profile i)) (served i ws)
served_size i ws = record {
  is = λ s. (effect_size (gate.called (byte_of s.now.mem) (slice_get s.now.lines s.now.taken) i ws) (result_words (intrinsic_profile i))
      (called_size (byte_of s.now.mem) (slice_get s.now.lines s.now.taken) i ws)).is s;
}

-- ---- values

-- the words of a result are those of its operand
result_operand : (p : Profile) (vs : List ℕ) → length vs ≡ result_words p → HasWordsOf (result_of p.result) vs
result_operand p vs e = by p.result e
  where
    by : (r : Option Kind) → length vs ≡ result_width r → HasWordsOf (result_of r) vs
    by None e = tt
    by (Some k) e = e

text_size : (o : Option ℕ) → Gives One (text_done o)
text_size (Some w) = gives_done _ refl
text_size None = gives_lost

constant_size : (o : Option ℤ) → Gives One (constant_done o)
constant_size (Some z) = gives_done _ refl
constant_size None = gives_lost

dropped_size : {P : List ℕ → Type 0} {f : State → Outcome (List ℕ)} → Gives P f → Gives P (λ s. code_dropped (f s))
dropped_size t = gives_go t (λ vs p. record { is = λ s. p })

-- a variable is read as what it stands for
variable_size : (h : Here) (x : List ℕ) (o : Option Sort) (i : State → Outcome (Option ℕ)) → ((a : Option ℕ) → Gives (Leads o) (locate h x a))
    → Gives (HasWordsOf (named_operand o)) (λ s. then_go (i s) (λ a s1. then_go (locate h x a s1) (λ p s2. read p s2)))
variable_size h x o i t = gives_go (free i) (λ a _. gives_go (t a) (λ p l. gives_more (read_size p) l))

named_size : (h : Here) (x : List ℕ) (o : Option Sort) (i : State → Outcome (Option ℕ)) (f : Profile → State → Outcome (List ℕ)) (c : Callee) (k : ℕ)
    → ((a : Option ℕ) → Gives (Leads o) (locate h x a))
    → ((p : Profile) → Gives (λ ws. length ws ≡ formals_words p.formals) (f p))
    → ((who : Who) (p : Profile) → sense_of x o ≡ a_call who p → (ws : List ℕ) (k : ℕ) → Gives (λ vs. length vs ≡ result_words p) (c who ws k))
    → Gives (HasWordsOf (named_operand o)) (named_value h x (sense_of x o) i f c k)
named_size h x (Some (n.equate v)) i f c k t u w = constant_size v
named_size h x (Some (n.intrinsic g)) i f c k t u w =
    dropped_size (gives_go (u (intrinsic_profile g)) (λ ws _. gives_more (served_size g ws) (λ vs e. result_operand (intrinsic_profile g) vs e)))
named_size h x (Some (n.procedure p)) i f c k t u w =
    gives_step (gives_go (u p) (λ ws _. gives_more (w (procedure x) p refl ws k) (λ vs e. result_operand p vs e)))
named_size h x (Some (n.subroutine p)) i f c k t u w =
    gives_step (gives_go (u p) (λ ws _. gives_more (w (subroutine x) p refl ws k) (λ vs e. result_operand p vs e)))
named_size h x (Some (n.simple l own)) i f c k t u w = variable_size h x (Some (n.simple l own)) i t
named_size h x (Some (n.array l own low high)) i f c k t u w = variable_size h x (Some (n.array l own low high)) i t
named_size h x (Some (n.view l own base)) i f c k t u w = variable_size h x (Some (n.view l own base)) i t
named_size h x (Some (n.pointer l own)) i f c k t u w = variable_size h x (Some (n.pointer l own)) i t
named_size h x (Some (n.value l)) i f c k t u w = variable_size h x (Some (n.value l)) i t
named_size h x (Some (n.by_reference l)) i f c k t u w = variable_size h x (Some (n.by_reference l)) i t
named_size h x (Some (n.array_parameter l)) i f c k t u w = variable_size h x (Some (n.array_parameter l)) i t
named_size h x (Some n.label) i f c k t u w = gives_all (λ vs. tt)
named_size h x (Some n.unknown) i f c k t u w = gives_all (λ vs. tt)
named_size h x None i f c k t u w = gives_all (λ vs. tt)

right_size : (f : State → Outcome (List ℕ))
    → Gives One (λ s. then_go (f s) (λ us s2. with_one us s2 (λ u s3. done (truth_word (is_odd u) ∷ []) s3)))
right_size f = gives_go (free f) (λ us _. with_one_gives us (λ u. gives_done (truth_word (is_odd u) ∷ []) refl))

connected_size : (op : ℕ) (vs : List ℕ) (f : State → Outcome (List ℕ)) → Gives One (λ s. connected op vs s f)
connected_size op vs f = with_one_gives vs (λ w. gives_if (op == or_operator)
    (gives_if (is_odd w) (gives_done (65535 ∷ []) refl) (right_size f)) (gives_if (is_odd w) (right_size f) (gives_done (0 ∷ []) refl)))

told_size : (op : ℕ) (f : State → Outcome Code) → Gives One (λ s. relation_told op (f s))
told_size op f = gives_go (free f) (λ c _. gives_done (truth_word (related op c) ∷ []) refl)

-- a comparison with a string, and OR and AND, give a LOGICAL
text_logical : (names : n.Names) (op : ℕ) (a b : Tree) → compares_text names op a b ≡ true → nat_lt op 11 ≡ true
text_logical names op a b e = by (nat_le 5 op) (nat_lt op 11) (is_byte (reference_kind names a)) (is_long_text b) e
  where
    by : (s t u v : Bool) → ((s && t) && u && v) ≡ true → t ≡ true
    by true true u v e = refl
    by true false u v e = e
    by false t u v e = cc

connective_logical : (op : ℕ) → is_connective op ≡ true → nat_lt op 11 ≡ true
connective_logical op e = let l = ltb-true op 2 e in lt-ltb op 11 (omega (arith, l))

logical_size : (op : ℕ) (l r : Operand) (vs : List ℕ) → nat_lt op 11 ≡ true → One vs → HasWordsOf (binary_operand op l r) vs
logical_size op l r vs e o =
    subst (λ (t : Bool). HasWordsOf (if t then of kind.Logical else class_operand (class_of l r)) vs) (sym e) o

mutual
  value_size : (h : Here) (c : Callee) → CallsFit h.names c → (e : Tree) (k : ℕ) → Gives (HasWordsOf (kind_of h.names e)) (value h c e k)
  value_size h c t (tree.Tree.number v) k = gives_done (v % 65536 ∷ []) refl
  value_size h c t (tree.Tree.wide v) k = gives_done (double_words (v % 4294967296)) refl
  value_size h c t (tree.Tree.text bytes) k = text_size (text_value bytes)
  value_size h c t (tree.Tree.truth b) k = gives_done (truth_word b ∷ []) refl
  value_size h c t (tree.Tree.named x es at) k =
      named_size h x (h.names x) (λ s1. index h c es k s1) (λ p s1. arguments h c p.formals es (k + result_words p) s1) c k (λ a. locate_leads h x (h.names x) a)
      (λ p. arguments_size h c t p.formals es (k + result_words p)) (λ who p e ws k. record { is = λ s. t x who p e ws k s })
  value_size h c t (tree.Tree.address x es at) k =
      gives_go (free (index h c es k)) (λ i _. gives_go (free (locate h x i)) (λ p _. gives_done (p.address % 65536 ∷ []) refl))
  value_size h c t (tree.Tree.unary op e at) k = gives_go (value_size h c t e k) (λ vs p. signed_size op (kind_of h.names e) vs p)
  value_size h c t (tree.Tree.binary op a b at) k = by (is_connective op) (compares_text h.names op a b) refl refl
    where
      by : (s u : Bool) → is_connective op ≡ s → compares_text h.names op a b ≡ u
          → Gives (HasWordsOf (binary_operand op (kind_of h.names a) (kind_of h.names b)))
          (λ s0. if s then then_go (value h c a k s0) (λ vs s1. connected op vs s1 (λ s2. value h c b k s2))
          else if u then then_go (located h c a k s0) (λ p s1. relation_told (relation_number op) (compared_text p (text_bytes b) s1))
          else then_go (value h c a k s0) (λ vs s1.
          then_go (value h c b (k + operand_width (kind_of h.names a)) s1) (λ us s2. joined op (kind_of h.names a) (kind_of h.names b) vs us s2)))
      by true u e f =
          gives_go (free (value h c a k)) (λ vs _.
          gives_more (connected_size op vs (value h c b k)) (λ us o. logical_size op (kind_of h.names a) (kind_of h.names b) us (connective_logical op e) o))
      by false true e f =
          gives_go (free (located h c a k)) (λ p _.
          gives_more (told_size (relation_number op) (compared_text p (text_bytes b))) (λ us o. logical_size op (kind_of h.names a) (kind_of h.names b) us (text_logical h.names op a b f) o))
      by false false e f =
          gives_go (free (value h c a k)) (λ vs _. gives_go (free (value h c b (k + operand_width (kind_of h.names a)))) (λ us _. joined_size op (kind_of h.names a) (kind_of h.names b) vs us))
  value_size h c t (tree.Tree.shift op e by at) k = gives_go (free (value h c e k)) (λ vs _. shift_size op (small_constant h.names by) vs)
  value_size h c t (tree.Tree.field e start size at) k =
      gives_go (free (value h c e k)) (λ vs _. field_size (small_constant h.names start) (small_constant h.names size) vs)
  value_size h c t (tree.Tree.transfer to e at) k =
      gives_go (free (value h c e k)) (λ vs _. transferred_size to (kind_of h.names e) vs)
  value_size h c t (tree.Tree.bytes op a b count at) k =
      gives_go (free (located h c a k)) (λ p _. gives_go (free (located h c b (k + 1))) (λ q _. gives_go (free (value h c count (k + 2))) (λ vs _.
      with_one_gives vs (λ size. told_size op (compared_by size p q)))))

  arguments_size : (h : Here) (c : Callee) → CallsFit h.names c → (fs : List Formal) (es : Trees) (k : ℕ)
      → Gives (λ ws. length ws ≡ formals_words fs) (arguments h c fs es k)
  arguments_size h c t [] tree.Trees.none k = gives_done [] refl
  arguments_size h c t (f ∷ fs) (tree.Trees.and e es) k =
      gives_go (argument_size f (λ s1. value h c e k s1) (λ s1. located h c e k s1)) (λ ws p. gives_go (arguments_size h c t fs es (k + formal_words f)) (λ vs q.
      gives_done (ws ++ vs) (length-append ws vs ∙ ap (λ m. m + length vs) p ∙ ap (λ m. formal_words f + m) q)))
  arguments_size h c t [] (tree.Trees.and e es) k = gives_lost
  arguments_size h c t (f ∷ fs) tree.Trees.none k = gives_lost

-- ---- calls

words_at_size : (m a : ℕ) → Gives (λ ws. length ws ≡ m) (words_at m a)
words_at_size zero a = gives_done [] refl
words_at_size (suc m) a =
    gives_go (free (word_at false a)) (λ w _. gives_go (words_at_size m (suc a)) (λ ws p. gives_done (w ∷ ws) (ap suc p)))

result_value_size : (k : Kind) (vs : List ℕ) → length (result_value k vs) ≡ length vs
result_value_size kind.Integer vs = refl
result_value_size kind.Logical vs = refl
result_value_size kind.Double vs = refl
result_value_size kind.Byte [] = refl
result_value_size kind.Byte (w ∷ []) = refl
result_value_size kind.Byte (w ∷ x ∷ vs) = refl

result_size : (r : Option Kind) (a : ℕ) → Gives (λ vs. length vs ≡ result_width r) (result_at r a)
result_size None a = gives_done [] refl
result_size (Some k) a = gives_go (words_at_size (width k) a) (λ ws p. gives_done (result_value k ws) (result_value_size k ws ∙ p))

called_back_size : (caller : Data) (p : Profile) (first : ℕ) (o : Outcome (Unit {0})) → IsDone (λ vs. length vs ≡ result_words p) (called_back caller p first o)
called_back_size caller p first o =
    done_go Free (λ vs. length vs ≡ result_words p) (returned o)
    (λ _ s. then_go (result_at p.result first s) (λ vs s1. done vs (left_to caller s1))) (any_done Free (returned o) (λ a. tt)) (λ _ _.
    gives_go (result_size p.result first) (λ vs q. record { is = λ s. q }))

zeroed_size : (m a : ℕ) {go : State → Outcome (List ℕ)} {P : List ℕ → Type 0} → Gives P go → Gives P (λ s. zeroed m a s go)
zeroed_size zero a t = t
zeroed_size (suc m) a t = gives_step (gives_in (λ s1. record s1 { now = record s1.now { mem = put a 0 s1.now.mem } }) (zeroed_size m (suc a) t))

abbrev procedure_entered : Callee → ℕ → Body → List ℕ → ℕ → Data → State → Outcome (List ℕ)
procedure_entered call d b ws k now s =
    if nat_lt now.stack (locals_of now.top k b + b.words + b.depth')
    then ends (trapped StackOverflow) s
    else zeroed b.words (locals_of now.top k b) (framed (procedure_framed k b ws s.now) s) (λ s1.
    called_back now b.profile (now.top + k) (run_body b.here call d b.number b.statements (record s1 { now = cells_set b s1.now })))

enter_size : (call : Callee) (d : ℕ) (b : Body) (ws : List ℕ) (k : ℕ) → Gives (λ vs. length vs ≡ result_words b.profile) (enter_procedure call d b ws k)
enter_size call d b ws k = gives_now (procedure_entered call d b ws k) (λ now.
    gives_if (nat_lt now.stack (locals_of now.top k b + b.words + b.depth')) (gives_ends (trapped StackOverflow))
    (gives_in (λ s. framed (procedure_framed k b ws s.now) s)
    (zeroed_size b.words (locals_of now.top k b) (record {
      is = λ s1.
          called_back_size now b.profile (now.top + k) (run_body b.here call d b.number b.statements (record s1 { now = cells_set b s1.now }));
    }))))

abbrev subroutine_entered : Callee → ℕ → Body → List ℕ → ℕ → Data → State → Outcome (List ℕ)
subroutine_entered call d b ws k now s =
    if nat_lt now.stack (link_of now.top k b + return_words + b.depth')
    then ends (trapped StackOverflow) s
    else called_back now b.profile (now.top + k) (run_statement b call d (framed (subroutine_framed k b ws s.now) s))

enter_subroutine_size : (call : Callee) (d : ℕ) (b : Body) (ws : List ℕ) (k : ℕ)
    → Gives (λ vs. length vs ≡ result_words b.profile) (enter_subroutine call d b ws k)
enter_subroutine_size call d b ws k = gives_now (subroutine_entered call d b ws k) (λ now.
    gives_if (nat_lt now.stack (link_of now.top k b + return_words + b.depth')) (gives_ends (trapped StackOverflow))
    (record { is = λ s. called_back_size now b.profile (now.top + k) (run_statement b call d (framed (subroutine_framed k b ws s.now) s)) }))

procedure_size : (ps : List Named) (d : ℕ) (c : Body) (o : Option Body) (ws : List ℕ) (k : ℕ) (s : State) → o ≡ Some c
    → IsDone (λ vs. length vs ≡ result_words c.profile) (call_procedure o (λ z. calls ps d z) d ws k s)
procedure_size ps d c None ws k s e = cc
procedure_size ps d c (Some z) ws k s e =
    let q : z ≡ c = cc in
    subst (λ (y : Body). IsDone (λ vs. length vs ≡ result_words y.profile) (enter_procedure (calls ps d z) d z ws k s)) q
    ((enter_size (calls ps d z) d z ws k).is s)

subroutine_size : (call : Callee) (d : ℕ) (b : Body) (z : Subroutine) (o : Option Subroutine) (ws : List ℕ) (k : ℕ) (s : State) → o ≡ Some z
    → IsDone (λ vs. length vs ≡ result_words (profile_of z.heading)) (call_subroutine o b call d ws k s)
subroutine_size call d b z None ws k s e = cc
subroutine_size call d b z (Some y) ws k s e =
    let q : y ≡ z = cc in
    subst (λ (x : Subroutine). IsDone (λ vs. length vs ≡ result_words (profile_of x.heading)) (enter_subroutine call d (subroutine_body b y) ws k s)) q
    ((enter_subroutine_size call d (subroutine_body b y) ws k).is s)

pub values_fit : ValuesHaveTheirWords
values_fit = record {
  values = λ h call t e k s. (value_size h call t e k).is s;
  argument_lists = λ h call t fs es k s. (arguments_size h call t fs es k).is s;
  procedures = procedures;
  subroutines = subroutines;
}
  where
    procedures : (ps : List Named) (d : ℕ) (b c : Body) (x : List ℕ) (ws : List ℕ) (k : ℕ) (s : State)
        → body_named ps x ≡ Some c → IsDone (λ vs. length vs ≡ result_words c.profile) (calls ps d b (procedure x) ws k s)
    procedures ps zero b c x ws k s e = tt
    procedures ps (suc d) b c x ws k s e = procedure_size ps d c (body_named ps x) ws k s e

    subroutines : (ps : List Named) (d : ℕ) (b : Body) (z : Subroutine) (x : List ℕ) (ws : List ℕ) (k : ℕ) (s : State)
        → subroutine_named b.subroutines x ≡ Some z
        → IsDone (λ vs. length vs ≡ result_words (profile_of z.heading)) (calls ps d b (subroutine x) ws k s)
    subroutines ps zero b z x ws k s e = tt
    subroutines ps (suc d) b z x ws k s e = subroutine_size (calls ps d b) d b z (subroutine_named b.subroutines x) ws k s e
