-- The words of the parts of an expression.
use Rattle.std.proofs.Common.{◌≡◌, ◌≤◌, ℕ, suc, ◌+◌, ◌%◌, ◌==◌, ◌&&◌, nat_lt, nat_le, ℤ, Bool, true, false, if◌then◌else◌, List, [], ◌∷◌, ◌++◌, map, length, Option, Some, None, refl, arith}
use Rattle.spl_meaning.specs.spl_tree.declared.expressions.Kind.{Kind}
use Rattle.spl_meaning.specs.spl_tree.declared.expressions.Kind.TheVariants as kind
use Rattle.spl_branch.specs.hp_instr.declared.instruction.Mode.{Mode}
use Rattle.spl_meaning.specs.hp_word.Words.{word_of}
use Rattle.spl_meaning.specs.hp_word.Bytes.{high_word, low_word}
use Rattle.spl_meaning.specs.Names.{Profile, intrinsic_profile}
use Rattle.spl_meaning.specs.Kinds.{Operand, of, const, unknown, Class, integers, logicals, doubles, mixed, plus, minus, times, modulo, works_on_bits, positive, negative, lor_operator, xor_operator}
use Rattle.spl_meaning.specs.Places.{Place}
use Rattle.spl_meaning.specs.References.{Access, its_own, by_address, by_cell, its_result, nowhere, access_of}
use Rattle.spl_meaning.specs.Elements.{as_words}
use Rattle.spl_meaning.specs.Values.{Who, procedure, subroutine, Sense, a_constant, an_intrinsic, a_call, a_variable}
use Rattle.spl_meaning.specs.Bound.{string_words}
use Rattle.spl_branch.specs.declared.pieces.Piece.{Piece}
use Rattle.spl_branch.specs.declared.pieces.Piece.TheVariants.{Literal, Place as PlaceOf, Mark}
use Rattle.spl_branch.specs.Pieces.{count_of, most_words}
use Rattle.spl_code.specs.Parts.{Part, Wanted, pieces, piece, ◌⨟◌, with_fresh, call_wanted}
use Rattle.spl_code.specs.Instructions.{DEL, DELB, ZERO, ANDI, LDNI, BR, LSL, CMPB, LOAD_BEFORE}
use Rattle.spl_code.specs.Constants.{constant, double_constant, text_constant, number_constant, text_offset}
use Rattle.spl_code.specs.Operators.{operator, class_operator, integer_operator, logical_operator, double_operator, bit_operator, comparison, sign_operator, minus_operator, field_operator, transfer, single, extension, as_parameter}
use Rattle.spl_code.specs.Operands.{loaded, address, cell_address, index_to_x, at_place, mode_of}
use Rattle.spl_code.specs.Calls.{Scope, result_room, result_taken, called, procedure_called, subroutine_called}
use Rattle.spl_code.specs.Code.{Aim, as_value, as_test, condition, closing, text_compared, variable, addressed, calling, named}
use Rattle.spl_code.specs.FewWords.{spare}

-- ---- parts

pub count_append : (ps qs : List Piece) → count_of (ps ++ qs) ≡ count_of ps + count_of qs
count_append [] qs = omega arith
count_append (x ∷ ps) qs = omega (arith, count_append ps qs)

-- a part has at most so many words, whatever stands before it
pub record Few (n : ℕ) (p : Part) : Type 0 where
  pub few : (l : ℕ) (ws : List Wanted) → count_of (p l ws).pieces ≤ n

pub few_then : {n m : ℕ} {p q : Part} → Few n p → Few m q → Few (n + m) (p ⨟ q)
few_then {n} {m} {p} {q} a b = record {
  few = λ l ws.
      let first : count_of (p l ws).pieces ≤ n = a.few l ws in
      let second : count_of (q (l + (p l ws).marks) (p l ws).wants).pieces ≤ m = b.few (l + (p l ws).marks) (p l ws).wants in
      let both = count_append (p l ws).pieces (q (l + (p l ws).marks) (p l ws).wants).pieces in
      omega arith;
}

pub few_more : {n m : ℕ} {p : Part} → Few n p → n ≤ m → Few m p
few_more {n} {m} {p} a le = record { few = λ l ws. let h : count_of (p l ws).pieces ≤ n = a.few l ws in omega arith }

pub few_pieces : {n : ℕ} (ps : List Piece) → count_of ps ≤ n → Few n (pieces ps)
few_pieces ps le = record { few = λ l ws. le }

pub few_fresh : {n : ℕ} (f : ℕ → Part) → ((x : ℕ) → Few n (f x)) → Few n (with_fresh f)
few_fresh f h = record { few = λ l ws. (h l).few (suc l) ws }

-- one of two lists
few_if : {n : ℕ} (b : Bool) (ps qs : List Piece) → count_of ps ≤ n → count_of qs ≤ n → count_of (if b then ps else qs) ≤ n
few_if true ps qs p q = p
few_if false ps qs p q = q

-- ---- constants and strings

pub few_constant : (c : ℕ) → count_of (constant c) ≤ 3
few_constant c = few_if (nat_lt c 256) _ _ (omega arith) (few_if (nat_lt 65280 c) _ _ (omega arith) (omega arith))

pub few_double : (d : ℕ) → count_of (double_constant d) ≤ 6
few_double d =
    let both = count_append (constant (high_word d)) (constant (low_word d)) in
    omega (arith, both, few_constant (high_word d), few_constant (low_word d))

pub few_text : (o : Option ℕ) → Few 3 (text_constant o)
few_text (Some w) = few_pieces (constant (w % 65536)) (few_constant (w % 65536))
few_text None = few_pieces [] (omega arith)

pub few_number : (o : Option ℤ) → Few 3 (number_constant o)
few_number (Some v) = few_pieces (constant (word_of v)) (few_constant (word_of v))
few_number None = few_pieces [] (omega arith)

count_literals : (ws : List ℕ) → count_of (map Literal ws) ≡ length ws
count_literals [] = refl
count_literals (w ∷ ws) = omega (arith, count_literals ws)

length_words : (bs : List ℕ) → length (as_words bs) ≡ string_words bs
length_words [] = refl
length_words (a ∷ []) = refl
length_words (a ∷ b ∷ bs) = omega (arith, length_words bs)

few_literals : (bs : List ℕ) → count_of (map Literal (as_words bs)) ≤ string_words bs
few_literals bs = omega (arith, count_literals (as_words bs), length_words bs)

-- one piece
pub few_one : (x : Piece) → Few (most_words x) (piece x)
few_one x = record { few = λ l ws. omega arith }

text_words : (bs : List ℕ) → Few (6 + string_words bs) (text_offset bs)
text_words bs = few_fresh _ (λ over. few_fresh _ (λ start.
    few_more (few_then (few_then (few_then (few_then (few_then (few_one (BR over)) (few_one (Mark start)))
    (few_pieces {n = string_words bs} (map Literal (as_words bs)) (few_literals bs))) (few_one (PlaceOf start))) (few_one (Mark over))) (few_one LOAD_BEFORE))
    (omega arith)))

pub few_compared_text : (bs : List ℕ) → Few (11 + string_words bs) (text_compared bs)
few_compared_text bs =
    few_more (few_then (few_then (few_then (text_words bs) (few_one (LSL 1))) (few_pieces {n = 3} (constant (length bs % 65536)) (few_constant (length bs % 65536)))) (few_one (CMPB 1)))
    (omega arith)

-- ---- operators

rest_words : (b : Bool) → most_words (if b then DELB else DEL) ≡ 1
rest_words true = refl
rest_words false = refl

few_integers : (op : ℕ) → count_of (integer_operator op) ≤ 2
few_integers op =
    few_if (op == plus) _ _ (omega arith) (few_if (op == minus) _ _ (omega arith) (few_if (op == times) _ _ (omega arith) (omega (arith, rest_words (op == modulo)))))

few_logicals : (op : ℕ) → count_of (logical_operator op) ≤ 5
few_logicals op =
    few_if (op == plus) _ _ (omega arith) (few_if (op == minus) _ _ (omega arith) (few_if (op == times) _ _ (omega arith) (omega (arith, rest_words (op == modulo)))))

few_doubles : (op : ℕ) → count_of (double_operator op) ≤ 1
few_doubles op = few_if (op == plus) _ _ (omega arith) (omega arith)

few_bits : (op : ℕ) → count_of (bit_operator op) ≤ 1
few_bits op = few_if (op == lor_operator) _ _ (omega arith) (few_if (op == xor_operator) _ _ (omega arith) (omega arith))

few_class : (cl : Class) (op : ℕ) → count_of (class_operator cl op) ≤ 5
few_class integers op = omega (arith, few_integers op)
few_class logicals op = few_logicals op
few_class doubles op = omega (arith, few_doubles op)
few_class mixed op = omega arith

pub few_operator : (cl : Class) (op : ℕ) → count_of (operator cl op) ≤ 5
few_operator cl op = few_if (works_on_bits op) _ _ (omega (arith, few_bits op)) (few_class cl op)

pub few_comparison : (cl : Class) → count_of (comparison cl) ≤ 1
few_comparison integers = omega arith
few_comparison logicals = omega arith
few_comparison doubles = omega arith
few_comparison mixed = omega arith

few_minus : (k : Operand) → count_of (minus_operator k) ≤ 3
few_minus (of kind.Integer) = omega arith
few_minus (of kind.Logical) = omega arith
few_minus (of kind.Byte) = omega arith
few_minus (of kind.Double) = omega arith
few_minus const = omega arith
few_minus unknown = omega arith

pub few_sign : (op : ℕ) (k : Operand) → count_of (sign_operator op k) ≤ 3
few_sign op k = few_if (op == positive) _ _ (omega arith) (few_if (op == negative) _ _ (few_minus k) (omega arith))

pub few_field : (start size : ℕ) → count_of (field_operator start size) ≤ 1
few_field start size = few_if (nat_le 1 size && nat_le (start + size) 16) _ _ (omega arith) (omega arith)

few_single : (k : Operand) → count_of (single k) ≤ 1
few_single (of kind.Integer) = omega arith
few_single (of kind.Logical) = omega arith
few_single (of kind.Byte) = omega arith
few_single (of kind.Double) = omega arith
few_single const = omega arith
few_single unknown = omega arith

few_extension : (k : Operand) → count_of (extension k) ≤ 3
few_extension (of kind.Integer) = omega arith
few_extension (of kind.Logical) = omega arith
few_extension (of kind.Byte) = omega arith
few_extension (of kind.Double) = omega arith
few_extension const = omega arith
few_extension unknown = omega arith

pub few_transfer : (to : Kind) (k : Operand) → count_of (transfer to k) ≤ 3
few_transfer kind.Integer k = omega (arith, few_single k)
few_transfer kind.Logical k = omega (arith, few_single k)
few_transfer kind.Byte k = omega (arith, few_single k, count_append (single k) (ANDI 255 ∷ []))
few_transfer kind.Double k = few_extension k

pub few_passed : (k : Option Kind) → count_of (as_parameter k) ≤ 1
few_passed None = omega arith
few_passed (Some kind.Integer) = omega arith
few_passed (Some kind.Logical) = omega arith
few_passed (Some kind.Byte) = omega arith
few_passed (Some kind.Double) = omega arith

-- ---- names

few_loaded : (a : Access) (x : Bool) (m : Mode) → count_of (loaded a x m) ≤ 1
few_loaded (its_own kind.Integer) x m = omega arith
few_loaded (its_own kind.Logical) x m = omega arith
few_loaded (its_own kind.Byte) x m = omega arith
few_loaded (its_own kind.Double) x m = omega arith
few_loaded (by_address kind.Integer) x m = omega arith
few_loaded (by_address kind.Logical) x m = omega arith
few_loaded (by_address kind.Byte) x m = omega arith
few_loaded (by_address kind.Double) x m = omega arith
few_loaded (by_cell p kind.Integer) x m = omega arith
few_loaded (by_cell p kind.Logical) x m = omega arith
few_loaded (by_cell p kind.Byte) x m = omega arith
few_loaded (by_cell p kind.Double) x m = omega arith
few_loaded its_result x m = omega arith
few_loaded nowhere x m = omega arith

few_cell : (x : Bool) (m : Mode) → count_of (cell_address x m) ≤ 2
few_cell true m = omega arith
few_cell false m = omega arith

few_address : (a : Access) (x : Bool) (m : Mode) → count_of (address a x m) ≤ 2
few_address (its_own kind.Integer) x m = omega arith
few_address (its_own kind.Logical) x m = omega arith
few_address (its_own kind.Byte) x m = omega arith
few_address (its_own kind.Double) x m = omega arith
few_address (by_address k) x m = few_cell x m
few_address (by_cell p k) x m = few_cell x m
few_address its_result x m = omega arith
few_address nowhere x m = omega arith

few_at : (n : ℕ) (o : Option Place) (f : Place → List Piece) → ((p : Place) → count_of (f p) ≤ n) → count_of (at_place o f) ≤ n
few_at n (Some p) f h = h p
few_at n None f h = omega arith

pub few_variable : (c : Scope) (x : List ℕ) (i : Bool) (k : ℕ) → Few 1 (variable c x i k)
few_variable c x i k = few_pieces {n = 1} (at_place (c.places x) (λ p. loaded (access_of (c.names x)) i (mode_of k p)))
    (few_at 1 (c.places x) _ (λ p. few_loaded (access_of (c.names x)) i (mode_of k p)))

pub few_addressed : (c : Scope) (x : List ℕ) (i : Bool) (k : ℕ) → Few 2 (addressed c x i k)
few_addressed c x i k = few_pieces {n = 2} (at_place (c.places x) (λ p. address (access_of (c.names x)) i (mode_of k p)))
    (few_at 2 (c.places x) _ (λ p. few_address (access_of (c.names x)) i (mode_of k p)))

pub few_to_x : (d : Bool) → count_of (index_to_x d) ≤ 2
few_to_x true = omega arith
few_to_x false = omega arith

few_room : (o : Option Kind) → count_of (result_room o) ≤ 1
few_room None = omega arith
few_room (Some kind.Integer) = omega arith
few_room (Some kind.Logical) = omega arith
few_room (Some kind.Byte) = omega arith
few_room (Some kind.Double) = omega arith

few_taken : (o : Option Kind) → count_of (result_taken o) ≤ 1
few_taken None = omega arith
few_taken (Some kind.Integer) = omega arith
few_taken (Some kind.Logical) = omega arith
few_taken (Some kind.Byte) = omega arith
few_taken (Some kind.Double) = omega arith

few_wanted : (x : List ℕ) (g : Bool) → Few 1 (call_wanted x g)
few_wanted x g = record { few = λ l ws. omega arith }

few_called : (c : Scope) (w : Who) → Few 1 (called c w)
few_called c (procedure x) = go (c.procedures x) where
  go : (o : Option ℕ) → Few 1 (procedure_called x o)
  go (Some e) = few_one _
  go None = few_wanted x false
few_called c (subroutine x) = go (c.subroutines x) where
  go : (o : Option ℕ) → Few 1 (subroutine_called o)
  go (Some e) = few_one _
  go None = few_pieces {n = 1} [] (omega arith)

few_calling : {n : ℕ} (p : Profile) (args call : Part) → Few n args → Few 1 call → Few (3 + n) (calling p args call)
few_calling {n} p args call a b =
    few_more (few_then (few_then (few_then (few_pieces {n = 1} (result_room p.result) (few_room p.result)) a) b) (few_pieces {n = 1} (result_taken p.result) (few_taken p.result)))
    (omega arith)

pub few_named : {n : ℕ} (c : Scope) (x : List ℕ) (s : Sense) (args : Profile → Part) (at : Part) → ((p : Profile) → Few n (args p)) → Few (3 + n) at
    → Few (3 + n) (named c x s args at)
few_named {n} c x (a_constant v) args at a b = few_more (few_number v) (omega arith)
few_named {n} c x (an_intrinsic i) args at a b = few_calling (intrinsic_profile i) _ _ (a (intrinsic_profile i)) (few_wanted x true)
few_named {n} c x (a_call w p) args at a b = few_calling p _ _ (a p) (few_called c w)
few_named {n} c x a_variable args at a b = b

-- ---- tests

-- a test of the lowest bit takes what a test may have more than a value
pub few_closing : (aim : Aim) (l : ℕ) (ws : List Wanted) → count_of (closing aim l ws).pieces + spare aim ≤ 12
few_closing as_value l ws = omega arith
few_closing (as_test f) l ws = omega arith

pub few_condition : {n : ℕ} (aim : Aim) (test : ℕ → Part) → ((f : ℕ) → Few n (test f)) → (l : ℕ) (ws : List Wanted)
    → count_of (condition aim test l ws).pieces + spare aim ≤ n + 18
few_condition {n} (as_test f) test h l ws = let all : count_of (test f l ws).pieces ≤ n = (h f).few l ws in omega arith
few_condition {n} as_value test h l ws = go where
  parts : Few (n + 6) (condition as_value test)
  parts = few_fresh _ (λ fail. few_fresh _ (λ end.
      few_more (few_then (few_then (few_then (few_then (few_then (h fail) (few_one (LDNI 1))) (few_one (BR end))) (few_one (Mark fail))) (few_one ZERO)) (few_one (Mark end)))
      (omega arith)))

  go : count_of (condition as_value test l ws).pieces + 12 ≤ n + 18
  go = let all : count_of (condition as_value test l ws).pieces ≤ n + 6 = parts.few l ws in omega arith
