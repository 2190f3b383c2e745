-- References, operations, elements and intrinsics are tame.
use Rattle.std.proofs.Common.{ℕ, ◌+◌, ◌-◌, ◌/◌, ◌%◌, ◌==◌, Bool, true, false, List, [], ◌∷◌, length, Option, Some, None, refl, sym, arith}
use Rattle.std.proofs.lemmas.List.{append-nil}
use Rattle.std.specs.Prelude.{◌*◌, ◌&&◌, if◌then◌else◌, nat_lt, slice_index}
use Rattle.hp_word.specs.declared.arithmetic.Arith.{Arith}
use Rattle.hp_word.specs.declared.arithmetic.Wide.{Wide}
use Rattle.hp_word.specs.declared.arithmetic.Quotient.{Quotient}
use Rattle.hp_word.specs.declared.arithmetic.Code.{Code}
use Rattle.hp_word.specs.declared.endings.Trap.TheVariants.{IntegerOverflow, DivideByZero, Bounds}
use Rattle.hp_word.specs.Words.{added, subtracted, multiplied, negated, divided, logically_added, logically_subtracted, logically_multiplied, logically_divided, double_added, double_subtracted, double_negated, words_compared, logically_compared, doubles_compared}
use Rattle.hp_word.specs.Bits.{with_field}
use Rattle.hp_word.specs.Bytes.{byte_at, with_byte, double}
use Rattle.spl_tree.specs.declared.expressions.Kind.{Kind}
use Rattle.spl_tree.specs.declared.expressions.Kind.TheVariants as kind
use Rattle.spl_meaning.specs.Names.{truth_word}
use Rattle.spl_meaning.specs.Kinds.{Operand, of, const, unknown, Class, integers, logicals, doubles, mixed, class_of, is_relation}
use Rattle.spl_meaning.specs.Places.{Place}
use Rattle.spl_meaning.specs.States.{trapped, done, ends, then_go}
use Rattle.spl_meaning.specs.References.{Here, Located, address_of, data_word_read, word_at, placed_word, variable_located, element_located, word_read, read_by, read, word_stored, store_by, store, store_field, index_or_zero, own_located, led_located, passed_located, result_located, Access, its_own, by_address, by_cell, its_result, nowhere, access_of, target_access, locate_by, locate, locate_target}
use Rattle.spl_meaning.specs.Operations.{word_done, double_done, quotient_done, relation_done, on_integers, on_logicals, on_doubles, by_class, bits_done, joined, minus_done, not_done, signed_done, shift_done, field_done, double_words, related, with_single, extended, transferred, passed}
use Rattle.spl_meaning.proofs.Tame.{Tame, tame_done, tame_ends, tame_strays, tame_lost, tame_go, tame_if, tame_now, Keeps, tame_in}

-- ---- words

tame_data_word : (b : ℕ) (o : Option ℕ) → Tame b (data_word_read o) (data_word_read o)
tame_data_word b (Some v) = tame_done b v
tame_data_word b None = tame_strays b

pub tame_word : (b : ℕ) (far : Bool) (a : ℕ) → Tame b (word_at far a) (word_at far a)
tame_word b true a =
    tame_now (λ d s. if nat_lt a (length d.extra) then done (slice_index d.extra a) s else ends (trapped Bounds) s)
    (λ d s. if nat_lt a (length d.extra) then done (slice_index d.extra a) s else ends (trapped Bounds) s)
    (λ d. tame_if (nat_lt a (length d.extra)) (tame_done b (slice_index d.extra a)) (tame_ends b (trapped Bounds)))
tame_word b false a =
    tame_now (λ d s. if nat_lt a d.stack then data_word_read (d.mem a) s else ends (trapped Bounds) s)
    (λ d s. if nat_lt a d.stack then data_word_read (d.mem a) s else ends (trapped Bounds) s)
    (λ d. tame_if (nat_lt a d.stack) (tame_data_word b (d.mem a)) (tame_ends b (trapped Bounds)))

pub keeps_placed : (far : Bool) (a v : ℕ) → Keeps (placed_word far a v)
keeps_placed true a v = record {
  adds = record {
    left = λ s. refl;
    grown = λ s. record { prints = []; printed = sym (append-nil s.now.printed); log = []; begun = sym (append-nil s.begun) };
    same = λ s. refl;
  };
  few = λ s. record { prints = omega arith; log = omega arith };
}
keeps_placed false a v = record {
  adds = record {
    left = λ s. refl;
    grown = λ s. record { prints = []; printed = sym (append-nil s.now.printed); log = []; begun = sym (append-nil s.begun) };
    same = λ s. refl;
  };
  few = λ s. record { prints = omega arith; log = omega arith };
}

pub tame_placed : (b : ℕ) (far : Bool) (a v : ℕ)
    → Tame {A = Unit {0}} b (λ s. done tt (placed_word far a v s)) (λ s. done tt (placed_word far a v s))
tame_placed b far a v = tame_in (keeps_placed far a v) (tame_done {A = Unit {0}} b tt)

-- ---- locations

tame_word_read : (b : ℕ) (far : Bool) (a : ℕ) → Tame b (word_read far a) (word_read far a)
tame_word_read b far a = tame_go (tame_word b far a) (λ w. tame_done b (w ∷ []))

tame_word_stored : (b : ℕ) (far : Bool) (a : ℕ) (vs : List ℕ) → Tame b (word_stored far a vs) (word_stored far a vs)
tame_word_stored b far a [] = tame_lost b
tame_word_stored b far a (v ∷ []) = tame_go (tame_word b far a) (λ _. tame_placed b far a v)
tame_word_stored b far a (v ∷ w ∷ vs) = tame_lost b

tame_read_by : (b : ℕ) (k : Kind) (far : Bool) (a : ℕ) → Tame b (read_by k far a) (read_by k far a)
tame_read_by b kind.Double far a =
    tame_go (tame_word b far a) (λ high. tame_go (tame_word b far ((a + 1) % 65536)) (λ low. tame_done b (high ∷ low ∷ [])))
tame_read_by b kind.Byte far a = tame_go (tame_word b far (a / 2)) (λ w. tame_done b (byte_at a w ∷ []))
tame_read_by b kind.Integer far a = tame_word_read b far a
tame_read_by b kind.Logical far a = tame_word_read b far a

pub tame_read : (b : ℕ) (p : Located) → Tame b (read p) (read p)
tame_read b p = tame_read_by b p.kind p.far p.address

tame_store_by : (b : ℕ) (k : Kind) (far : Bool) (a : ℕ) (vs : List ℕ) → Tame b (store_by k far a vs) (store_by k far a vs)
tame_store_by b kind.Double far a [] = tame_lost b
tame_store_by b kind.Double far a (h ∷ []) = tame_lost b
tame_store_by b kind.Double far a (high ∷ low ∷ []) =
    tame_go (tame_word b far a) (λ _. tame_go (tame_word b far ((a + 1) % 65536)) (λ _.
    tame_in (keeps_placed far a high) (tame_placed b far ((a + 1) % 65536) low)))
tame_store_by b kind.Double far a (h ∷ l ∷ v ∷ vs) = tame_lost b
tame_store_by b kind.Byte far a [] = tame_lost b
tame_store_by b kind.Byte far a (v ∷ []) = tame_go (tame_word b far (a / 2)) (λ w. tame_placed b far (a / 2) (with_byte a (v % 256) w))
tame_store_by b kind.Byte far a (v ∷ w ∷ vs) = tame_lost b
tame_store_by b kind.Integer far a vs = tame_word_stored b far a vs
tame_store_by b kind.Logical far a vs = tame_word_stored b far a vs

pub tame_store : (b : ℕ) (p : Located) (vs : List ℕ) → Tame b (store p vs) (store p vs)
tame_store b p vs = tame_store_by b p.kind p.far p.address vs

pub tame_store_field : (b : ℕ) (p : Located) (start size : ℕ) (vs : List ℕ) → Tame b (store_field p start size vs) (store_field p start size vs)
tame_store_field b p start size [] = tame_lost b
tame_store_field b p start size (v ∷ []) =
    tame_go (tame_word b p.far p.address) (λ w. tame_placed b p.far p.address (with_field w start size v))
tame_store_field b p start size (v ∷ w ∷ vs) = tame_lost b

tame_own : (b : ℕ) (k : Kind) (p : Option Place) (i : Option ℕ) → Tame b (own_located k p i) (own_located k p i)
tame_own b k (Some p) None =
    tame_now (λ d s. done (variable_located k (address_of p d)) s) (λ d s. done (variable_located k (address_of p d)) s)
    (λ d. tame_done b (variable_located k (address_of p d)))
tame_own b k (Some p) (Some i) = tame_lost b
tame_own b k None i = tame_lost b

tame_led : (b : ℕ) (far : Bool) (k : Kind) (p : Option Place) (i : ℕ) → Tame b (led_located far k p i) (led_located far k p i)
tame_led b far k (Some p) i =
    tame_now (λ d s. then_go (word_at false (address_of p d) s) (λ cell s1. done (element_located far k cell i) s1))
    (λ d s. then_go (word_at false (address_of p d) s) (λ cell s1. done (element_located far k cell i) s1))
    (λ d. tame_go (tame_word b false (address_of p d)) (λ cell. tame_done b (element_located far k cell i)))
tame_led b far k None i = tame_lost b

tame_passed : (b : ℕ) (k : Kind) (p : Option Place) (i : Option ℕ) → Tame b (passed_located k p i) (passed_located k p i)
tame_passed b k p None = tame_led b false k p 0
tame_passed b k p (Some i) = tame_lost b

tame_result : (b : ℕ) (r : Option (Kind × Place)) (i : Option ℕ) → Tame b (result_located r i) (result_located r i)
tame_result b (Some r) None =
    tame_now (λ d s. done (variable_located r.0 (address_of r.1 d)) s) (λ d s. done (variable_located r.0 (address_of r.1 d)) s)
    (λ d. tame_done b (variable_located r.0 (address_of r.1 d)))
tame_result b (Some r) (Some i) = tame_lost b
tame_result b None i = tame_lost b

tame_locate_by : (b : ℕ) (h : Here) (x : List ℕ) (o : Access) (i : Option ℕ) → Tame b (locate_by h x o i) (locate_by h x o i)
tame_locate_by b h x (its_own k) i = tame_own b k (h.places x) i
tame_locate_by b h x (by_address k) i = tame_passed b k (h.places x) i
tame_locate_by b h x (by_cell p k) i = tame_led b (p && h.setting.split) k (h.places x) (index_or_zero i)
tame_locate_by b h x its_result i = tame_result b (h.results x) i
tame_locate_by b h x nowhere i = tame_lost b

pub tame_locate : (b : ℕ) (h : Here) (x : List ℕ) (i : Option ℕ) → Tame b (locate h x i) (locate h x i)
tame_locate b h x i = tame_locate_by b h x (access_of (h.names x)) i

pub tame_target : (b : ℕ) (h : Here) (x : List ℕ) (i : Option ℕ) → Tame b (locate_target h x i) (locate_target h x i)
tame_target b h x i = tame_locate_by b h x (target_access (h.names x)) i

-- ---- operations

pub tame_word_done : (b : ℕ) (r : Arith) → Tame b (word_done r) (word_done r)
tame_word_done b r = tame_if r.overflow (tame_ends b (trapped IntegerOverflow)) (tame_done b (r.value ∷ []))

tame_double_done : (b : ℕ) (r : Wide) → Tame b (double_done r) (double_done r)
tame_double_done b r = tame_if r.overflow (tame_ends b (trapped IntegerOverflow)) (tame_done b (double_words r.value))

tame_quotient : (b : ℕ) (rest : Bool) (o : Option Quotient) → Tame b (quotient_done rest o) (quotient_done rest o)
tame_quotient b rest None = tame_ends b (trapped DivideByZero)
tame_quotient b rest (Some q) =
    tame_if q.overflow (tame_ends b (trapped IntegerOverflow)) (tame_done b ((if rest then q.remainder else q.quotient) ∷ []))

tame_relation : (b op : ℕ) (c : Code) → Tame b (relation_done op c) (relation_done op c)
tame_relation b op c = tame_done b (truth_word (related op c) ∷ [])

tame_integers : (b op x y : ℕ) → Tame b (on_integers op x y) (on_integers op x y)
tame_integers b op x y =
    tame_if (is_relation op) (tame_relation b (op - 5) (words_compared x y))
    (tame_if (op == 11) (tame_word_done b (added x y))
    (tame_if (op == 12) (tame_word_done b (subtracted x y))
    (tame_if (op == 13) (tame_word_done b (multiplied x y)) (tame_quotient b (op == 15) (divided x y)))))

tame_logicals : (b op x y : ℕ) → Tame b (on_logicals op x y) (on_logicals op x y)
tame_logicals b op x y =
    tame_if (is_relation op) (tame_relation b (op - 5) (logically_compared x y))
    (tame_if (op == 11) (tame_done b ((logically_added x y).value ∷ []))
    (tame_if (op == 12) (tame_done b ((logically_subtracted x y).value ∷ []))
    (tame_if (op == 13) (tame_done b ((logically_multiplied x y).value % 65536 ∷ [])) (tame_quotient b (op == 15) (logically_divided x y)))))

tame_doubles : (b op x y : ℕ) → Tame b (on_doubles op x y) (on_doubles op x y)
tame_doubles b op x y =
    tame_if (is_relation op) (tame_relation b (op - 5) (doubles_compared x y))
    (tame_if (op == 11) (tame_double_done b (double_added x y)) (tame_double_done b (double_subtracted x y)))

tame_by_class : (b : ℕ) (c : Class) (op : ℕ) (xs ys : List ℕ) → Tame b (by_class c op xs ys) (by_class c op xs ys)
tame_by_class b integers op [] ys = tame_lost b
tame_by_class b integers op (x ∷ []) [] = tame_lost b
tame_by_class b integers op (x ∷ []) (y ∷ []) = tame_integers b op x y
tame_by_class b integers op (x ∷ []) (y ∷ z ∷ ys) = tame_lost b
tame_by_class b integers op (x ∷ w ∷ xs) ys = tame_lost b
tame_by_class b logicals op [] ys = tame_lost b
tame_by_class b logicals op (x ∷ []) [] = tame_lost b
tame_by_class b logicals op (x ∷ []) (y ∷ []) = tame_logicals b op x y
tame_by_class b logicals op (x ∷ []) (y ∷ z ∷ ys) = tame_lost b
tame_by_class b logicals op (x ∷ w ∷ xs) ys = tame_lost b
tame_by_class b doubles op [] ys = tame_lost b
tame_by_class b doubles op (h ∷ []) ys = tame_lost b
tame_by_class b doubles op (h ∷ l ∷ []) [] = tame_lost b
tame_by_class b doubles op (h ∷ l ∷ []) (k ∷ []) = tame_lost b
tame_by_class b doubles op (h ∷ l ∷ []) (k ∷ m ∷ []) = tame_doubles b op (double h l) (double k m)
tame_by_class b doubles op (h ∷ l ∷ []) (k ∷ m ∷ z ∷ ys) = tame_lost b
tame_by_class b doubles op (h ∷ l ∷ w ∷ xs) ys = tame_lost b
tame_by_class b mixed op xs ys = tame_lost b

tame_bits : (b op : ℕ) (xs ys : List ℕ) → Tame b (bits_done op xs ys) (bits_done op xs ys)
tame_bits b op [] ys = tame_lost b
tame_bits b op (x ∷ []) [] = tame_lost b
tame_bits b op (x ∷ []) (y ∷ []) = tame_done b _
tame_bits b op (x ∷ []) (y ∷ z ∷ ys) = tame_lost b
tame_bits b op (x ∷ w ∷ xs) ys = tame_lost b

pub tame_joined : (b op : ℕ) (l r : Operand) (xs ys : List ℕ) → Tame b (joined op l r xs ys) (joined op l r xs ys)
tame_joined b op l r xs ys = tame_if (nat_lt op 5) (tame_bits b op xs ys) (tame_by_class b (class_of l r) op xs ys)

tame_minus : (b : ℕ) (k : Operand) (vs : List ℕ) → Tame b (minus_done k vs) (minus_done k vs)
tame_minus b (of kind.Integer) [] = tame_lost b
tame_minus b (of kind.Integer) (a ∷ []) = tame_word_done b (negated a)
tame_minus b (of kind.Integer) (a ∷ c ∷ vs) = tame_lost b
tame_minus b const [] = tame_lost b
tame_minus b const (a ∷ []) = tame_word_done b (negated a)
tame_minus b const (a ∷ c ∷ vs) = tame_lost b
tame_minus b (of kind.Logical) [] = tame_lost b
tame_minus b (of kind.Logical) (a ∷ []) = tame_done b ((logically_subtracted 0 a).value ∷ [])
tame_minus b (of kind.Logical) (a ∷ c ∷ vs) = tame_lost b
tame_minus b (of kind.Byte) [] = tame_lost b
tame_minus b (of kind.Byte) (a ∷ []) = tame_done b ((logically_subtracted 0 a).value ∷ [])
tame_minus b (of kind.Byte) (a ∷ c ∷ vs) = tame_lost b
tame_minus b (of kind.Double) [] = tame_lost b
tame_minus b (of kind.Double) (h ∷ []) = tame_lost b
tame_minus b (of kind.Double) (h ∷ l ∷ []) = tame_double_done b (double_negated (double h l))
tame_minus b (of kind.Double) (h ∷ l ∷ c ∷ vs) = tame_lost b
tame_minus b unknown vs = tame_lost b

tame_not : (b : ℕ) (vs : List ℕ) → Tame b (not_done vs) (not_done vs)
tame_not b [] = tame_lost b
tame_not b (a ∷ []) = tame_done b ((65535 - a) ∷ [])
tame_not b (a ∷ c ∷ vs) = tame_lost b

pub tame_signed : (b op : ℕ) (k : Operand) (vs : List ℕ) → Tame b (signed_done op k vs) (signed_done op k vs)
tame_signed b op k vs = tame_if (op == 0) (tame_done b vs) (tame_if (op == 1) (tame_minus b k vs) (tame_not b vs))

pub tame_shift : (b op count : ℕ) (vs : List ℕ) → Tame b (shift_done op count vs) (shift_done op count vs)
tame_shift b op count [] = tame_lost b
tame_shift b op count (w ∷ []) = tame_done b _
tame_shift b op count (w ∷ v ∷ vs) = tame_lost b

pub tame_field : (b start size : ℕ) (vs : List ℕ) → Tame b (field_done start size vs) (field_done start size vs)
tame_field b start size [] = tame_lost b
tame_field b start size (w ∷ []) = tame_done b _
tame_field b start size (w ∷ v ∷ vs) = tame_lost b

-- ---- transfers and arguments

tame_single : (b : ℕ) (vs : List ℕ) (f : ℕ → List ℕ) → Tame b (λ s. with_single vs s (λ w. done (f w) s)) (λ s. with_single vs s (λ w. done (f w) s))
tame_single b [] f = tame_lost b
tame_single b (w ∷ []) f = tame_done b (f w)
tame_single b (h ∷ l ∷ []) f = tame_done b (f l)
tame_single b (h ∷ l ∷ w ∷ vs) f = tame_lost b

tame_extended : (b : ℕ) (k : Operand) (vs : List ℕ) → Tame b (extended k vs) (extended k vs)
tame_extended b (of kind.Integer) [] = tame_lost b
tame_extended b (of kind.Integer) (w ∷ []) = tame_done b ((if nat_lt w 32768 then 0 else 65535) ∷ w ∷ [])
tame_extended b (of kind.Integer) (w ∷ v ∷ vs) = tame_lost b
tame_extended b const [] = tame_lost b
tame_extended b const (w ∷ []) = tame_done b ((if nat_lt w 32768 then 0 else 65535) ∷ w ∷ [])
tame_extended b const (w ∷ v ∷ vs) = tame_lost b
tame_extended b (of kind.Double) [] = tame_lost b
tame_extended b (of kind.Double) (h ∷ []) = tame_lost b
tame_extended b (of kind.Double) (h ∷ l ∷ []) = tame_done b (h ∷ l ∷ [])
tame_extended b (of kind.Double) (h ∷ l ∷ w ∷ vs) = tame_lost b
tame_extended b (of kind.Logical) [] = tame_lost b
tame_extended b (of kind.Logical) (w ∷ []) = tame_done b (0 ∷ w ∷ [])
tame_extended b (of kind.Logical) (w ∷ v ∷ vs) = tame_lost b
tame_extended b (of kind.Byte) [] = tame_lost b
tame_extended b (of kind.Byte) (w ∷ []) = tame_done b (0 ∷ w ∷ [])
tame_extended b (of kind.Byte) (w ∷ v ∷ vs) = tame_lost b
tame_extended b unknown vs = tame_lost b

pub tame_transferred : (b : ℕ) (k : Kind) (from : Operand) (vs : List ℕ) → Tame b (transferred k from vs) (transferred k from vs)
tame_transferred b kind.Integer from vs = tame_single b vs (λ w. w ∷ [])
tame_transferred b kind.Logical from vs = tame_single b vs (λ w. w ∷ [])
tame_transferred b kind.Byte from vs = tame_single b vs (λ w. w % 256 ∷ [])
tame_transferred b kind.Double from vs = tame_extended b from vs

pub tame_passed_value : (b : ℕ) (k : Option Kind) (vs : List ℕ) → Tame b (passed k vs) (passed k vs)
tame_passed_value b None vs = tame_lost b
tame_passed_value b (Some kind.Integer) [] = tame_lost b
tame_passed_value b (Some kind.Integer) (w ∷ []) = tame_done b (w ∷ [])
tame_passed_value b (Some kind.Integer) (w ∷ v ∷ vs) = tame_lost b
tame_passed_value b (Some kind.Logical) [] = tame_lost b
tame_passed_value b (Some kind.Logical) (w ∷ []) = tame_done b (w ∷ [])
tame_passed_value b (Some kind.Logical) (w ∷ v ∷ vs) = tame_lost b
tame_passed_value b (Some kind.Byte) [] = tame_lost b
tame_passed_value b (Some kind.Byte) (w ∷ []) = tame_done b (256 * (w % 256) ∷ [])
tame_passed_value b (Some kind.Byte) (w ∷ v ∷ vs) = tame_lost b
tame_passed_value b (Some kind.Double) [] = tame_lost b
tame_passed_value b (Some kind.Double) (h ∷ []) = tame_lost b
tame_passed_value b (Some kind.Double) (h ∷ l ∷ []) = tame_done b (h ∷ l ∷ [])
tame_passed_value b (Some kind.Double) (h ∷ l ∷ w ∷ vs) = tame_lost b
