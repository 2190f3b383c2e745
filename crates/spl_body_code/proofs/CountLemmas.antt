-- The words of what a body has beside its statements.
use Rattle.std.proofs.Common.{◌≡◌, ◌≤◌, ℕ, zero, suc, ◌+◌, ◌/◌, ◌%◌, ◌==◌, ◌&&◌, nat_lt, min, ℤ, Bool, true, false, if◌then◌else◌, List, [], ◌∷◌, ◌++◌, replicate, Option, Some, None, refl, ap, arith}
use Rattle.spl_code.specs.hp_word.Words.{word_of, double_of}
use Rattle.spl_code.specs.spl_tree.declared.expressions.Kind.{Kind}
use Rattle.spl_code.specs.spl_tree.declared.expressions.Kind.TheVariants as kind
use Rattle.spl_code.specs.spl_meaning.Names as n
use Rattle.spl_code.specs.spl_meaning.Names.{Sort, Table, find, same_flag}
use Rattle.spl_code.specs.spl_meaning.Places as p
use Rattle.spl_code.specs.spl_meaning.Places.{Place, Array, Cell, Initial, cell_word, cell_with, cell_of, cells_among, is_own, is_byte_kind, sum}
use Rattle.spl_code.specs.spl_branch.declared.pieces.Piece.{Piece}
use Rattle.spl_code.specs.spl_branch.Pieces.{count_of, most_words}
use Rattle.spl_code.specs.Constants.{constant}
use Rattle.spl_code.specs.Operands.{mode_of}
use Rattle.spl_code.specs.Stores.{store}
use Rattle.spl_code.proofs.CountLemmas.{count_append, few_constant, few_double}
use Rattle.spl_body_code.specs.Frames.{ROOM, ADDS, granted, zeroed, last_zeros}
use Rattle.spl_code.specs.Instructions.{STOR}
use Rattle.spl_body_code.specs.Cells.{LADD, base_pushed, cell_from, viewed, cell_set, cells_set, value_pushed, first_set}

-- one of two lists
few_if : {n : ℕ} (b : Bool) (ps qs : List Piece) → count_of ps ≤ n → count_of qs ≤ n → count_of (if b then ps else qs) ≤ n
few_if true ps qs p q = p
few_if false ps qs p q = q

-- ---- room and zeros

pub few_granted : (words : ℕ) → count_of (granted words) ≤ 4
few_granted words =
    let by_number = count_append (constant (min words 65535)) (ROOM 0 ∷ []) in
    let number = few_constant (min words 65535) in
    few_if (nat_lt 0 words && nat_lt words 256) (ROOM words ∷ []) (constant (min words 65535) ++ ROOM 0 ∷ []) (omega arith) (omega arith)

count_replicate : (k : ℕ) → count_of (replicate k (ADDS 255)) ≡ k
count_replicate zero = refl
count_replicate (suc k) = omega (arith, count_replicate k)

few_last : (words : ℕ) → count_of (last_zeros words) ≤ 1
few_last words = few_if (words == 0) [] (ADDS words ∷ []) (omega arith) (omega arith)

none_last : (words : ℕ) → (words == 0) ≡ true → count_of (last_zeros words) ≡ 0
none_last words is = ap (λ b. count_of (if b then [] else ADDS words ∷ [])) is

pub few_zeroed : (words : ℕ) → count_of (zeroed words) ≤ words / 255 + 1
few_zeroed words =
    let both = count_append (replicate (words / 255) (ADDS 255)) (last_zeros (words % 255)) in
    let all = count_replicate (words / 255) in
    let rest = few_last (words % 255) in
    omega arith

-- at most 127 words are made zero by one instruction
pub few_zeroed_small : (words : ℕ) → words ≤ 127 → count_of (zeroed words) ≤ 1
few_zeroed_small words le = let few = few_zeroed words in omega arith

pub few_zeroed_large : (words : ℕ) → words ≤ 32000 → count_of (zeroed words) ≤ 126
few_zeroed_large words le = let few = few_zeroed words in omega arith

-- ---- cells

few_base : (k : Kind) → count_of (base_pushed k) ≤ 2
few_base kind.Integer = omega arith
few_base kind.Logical = omega arith
few_base kind.Byte = omega arith
few_base kind.Double = omega arith

few_from : (from : Place) (k : Kind) (low : ℤ) → count_of (cell_from from k low) ≤ 6
few_from (p.data_word address) k low = let few = few_constant (cell_word k low address) in omega arith
few_from (p.above_base above) k low =
    let base = few_base k in
    let few = few_constant (cell_word k low above) in
    let first = count_append (base_pushed k ++ constant (cell_word k low above)) (LADD ∷ []) in
    let second = count_append (base_pushed k) (constant (cell_word k low above)) in
    omega arith
few_from (p.below_base below) k low = omega arith
few_from (p.below_return below) k low = omega arith

few_viewed : (b : Bool) → count_of (viewed b) ≤ 1
few_viewed true = omega arith
few_viewed false = omega arith

pub few_cell : (c : Cell) → count_of (cell_set c) ≤ 8
few_cell c =
    let from = few_from c.array.from c.array.kind c.array.low in
    let view = few_viewed c.as_bytes in
    let first = count_append (cell_from c.array.from c.array.kind c.array.low ++ viewed c.as_bytes) (STOR false false (mode_of 0 c.place) ∷ []) in
    let second = count_append (cell_from c.array.from c.array.kind c.array.low) (viewed c.as_bytes) in
    omega arith

-- ---- initial values

few_value : (k : Kind) (v : ℤ) → count_of (value_pushed k v) ≤ 6
few_value kind.Integer v = omega (arith, few_constant (word_of v))
few_value kind.Logical v = omega (arith, few_constant (word_of v))
few_value kind.Byte v = omega (arith, few_constant (word_of v % 256))
few_value kind.Double v = few_double (double_of v)

few_store : (k : Kind) (at : Place) → most_words (store k false false (mode_of 0 at)) ≡ 1
few_store kind.Integer at = refl
few_store kind.Logical at = refl
few_store kind.Byte at = refl
few_store kind.Double at = refl

-- the first of some values
pub few_first : (from : Place) (k : Kind) (v : ℤ) (vs : List ℤ) → count_of (first_set from k (v ∷ vs)) ≤ 7
few_first from k v vs =
    let value = few_value k v in
    let both = count_append (value_pushed k v) (store k false false (mode_of 0 from) ∷ []) in
    let last = few_store k from in
    omega arith

-- ---- the cells of a list

-- the words that the cell of a name may have
abbrev pub cell_most : Sort → ℕ
cell_most (n.array k own low high) = 8
cell_most (n.view k own base) = 8
cell_most _ = 0

-- and those of all names of a list
abbrev pub cells_most : Table Sort → ℕ
cells_most t = sum (λ e. cell_most e.1) t

few_with : (place : Option Place) (b : Bool) (a : Option Array) → count_of (cells_set (cell_with place b a)) ≤ 8
few_with (Some x) b (Some a) =
    let one = few_cell (record { place = x; array = a; as_bytes = b }) in
    let both = count_append (cell_set (record { place = x; array = a; as_bytes = b })) [] in
    omega arith
few_with (Some x) b None = omega arith
few_with None b a = omega arith

few_cell_of : (places : Table Place) (arrays : Table Array) (x : List ℕ) (s : Sort) → count_of (cells_set (cell_of places arrays x s)) ≤ cell_most s
few_cell_of places arrays x (n.array k own low high) = few_with (find places x) false (find arrays x)
few_cell_of places arrays x (n.view k own base) = few_with (find places x) (is_byte_kind k) (find arrays base)
few_cell_of places arrays x (n.simple k own) = omega arith
few_cell_of places arrays x (n.pointer k own) = omega arith
few_cell_of places arrays x (n.value k) = omega arith
few_cell_of places arrays x (n.by_reference k) = omega arith
few_cell_of places arrays x (n.array_parameter k) = omega arith
few_cell_of places arrays x (n.equate v) = omega arith
few_cell_of places arrays x n.label = omega arith
few_cell_of places arrays x (n.intrinsic i) = omega arith
few_cell_of places arrays x (n.procedure p) = omega arith
few_cell_of places arrays x (n.subroutine p) = omega arith
few_cell_of places arrays x n.unknown = omega arith

-- cells one behind the other
cells_append : (cs ds : List Cell) → count_of (cells_set (cs ++ ds)) ≡ count_of (cells_set cs) + count_of (cells_set ds)
cells_append [] ds = omega arith
cells_append (c ∷ cs) ds =
    omega (arith, cells_append cs ds, count_append (cell_set c) (cells_set cs), count_append (cell_set c) (cells_set (cs ++ ds)))

few_where : (b : Bool) (places : Table Place) (arrays : Table Array) (x : List ℕ) (s : Sort)
    → count_of (cells_set (if b then cell_of places arrays x s else [])) ≤ cell_most s
few_where true places arrays x s = few_cell_of places arrays x s
few_where false places arrays x s = omega arith

pub few_cells : (own : Bool) (places : Table Place) (arrays : Table Array) (t : Table Sort) → count_of (cells_set (cells_among own places arrays t)) ≤ cells_most t
few_cells own places arrays [] = omega arith
few_cells own places arrays (e ∷ es) =
    let one = few_where (same_flag own (is_own e.1)) places arrays e.0 e.1 in
    let rest = few_cells own places arrays es in
    let both = cells_append (if same_flag own (is_own e.1) then cell_of places arrays e.0 e.1 else []) (cells_among own places arrays es) in
    omega arith
