-- Some words, marks and operators, worked by hand from the description of the language.
use Rattle.std.proofs.Common.{ℕ, ◌≡◌, List, [], ◌∷◌, Some, None, false, true, refl, map}
use Rattle.std.specs.Prelude.{codes}
use Rattle.spl_tree.specs.declared.symbols.Symbol.TheVariants as s
use Rattle.spl_tree.specs.declared.symbols.Reserved.TheVariants as w
use Rattle.spl_tree.specs.declared.expressions.Kind.TheVariants as kind
use Rattle.spl_tree.specs.declared.tokens.What.TheVariants as what
use Rattle.spl_tree.specs.Symbols.{symbol_among, reserved_words, symbol_of, is_word}
use Rattle.spl_tree.specs.Operators.{binds, is_sign, sign_number, negated, shift_of, compared, reference, comparison, other}

-- ---- words

first_word : symbol_among reserved_words (codes "AND") ≡ s.Operator 1
first_word = refl

last_word : symbol_among reserved_words (codes "XOR") ≡ s.Operator 3
last_word = refl

least_binding_word : symbol_among reserved_words (codes "OR") ≡ s.Operator 0
least_binding_word = refl

type_word : symbol_among reserved_words (codes "LOGICAL") ≡ s.Type kind.Logical
type_word = refl

truth_word : symbol_among reserved_words (codes "FALSE") ≡ s.Truth false
truth_word = refl

-- a word that no production of the grammar has
word_of_no_use : symbol_among reserved_words (codes "REAL") ≡ s.Word w.Unused
word_of_no_use = refl

-- more letters, or fewer, make a name
longer_word : symbol_among reserved_words (codes "ANDS") ≡ s.Name
longer_word = refl

shorter_word : symbol_among reserved_words (codes "AN") ≡ s.Name
shorter_word = refl

-- ---- marks ( ) , ; : . = < > + - * / & @ # := <= >= <>

marks : map (λ m. symbol_of (what.Mark m)) (0 ∷ 1 ∷ 2 ∷ 3 ∷ 4 ∷ 5 ∷ 13 ∷ 14 ∷ 16 ∷ [])
    ≡ s.Open ∷ s.Close ∷ s.Comma ∷ s.Semicolon ∷ s.Colon ∷ s.Dot ∷ s.Ampersand ∷ s.AtSign ∷ s.Assign ∷ []
marks = refl

-- = < > <= >= <> are relations 5 to 10 in the order = <> < > <= >=
relations : map (λ m. symbol_of (what.Mark m)) (6 ∷ 19 ∷ 7 ∷ 8 ∷ 17 ∷ 18 ∷ [])
    ≡ s.Operator 5 ∷ s.Operator 6 ∷ s.Operator 7 ∷ s.Operator 8 ∷ s.Operator 9 ∷ s.Operator 10 ∷ []
relations = refl

-- + - * / are operators 11 to 14, before MOD
arithmetic : map (λ m. symbol_of (what.Mark m)) (9 ∷ 10 ∷ 11 ∷ 12 ∷ [])
    ≡ s.Operator 11 ∷ s.Operator 12 ∷ s.Operator 13 ∷ s.Operator 14 ∷ []
arithmetic = refl

-- # stands only in definitions, and no mark has number 20
other_marks : map (λ m. symbol_of (what.Mark m)) (15 ∷ 20 ∷ []) ≡ s.Word w.Unused ∷ s.Word w.Unused ∷ []
other_marks = refl

-- ---- operators

-- OR AND LOR XOR LAND, the relations, + -, * / MOD, and no operator
levels : map binds (0 ∷ 1 ∷ 2 ∷ 3 ∷ 4 ∷ 5 ∷ 10 ∷ 11 ∷ 12 ∷ 13 ∷ 15 ∷ 16 ∷ []) ≡ 10 ∷ 9 ∷ 7 ∷ 6 ∷ 5 ∷ 4 ∷ 4 ∷ 3 ∷ 3 ∷ 2 ∷ 2 ∷ 0 ∷ []
unfolding binds
levels = refl

signs : map is_sign (10 ∷ 11 ∷ 12 ∷ 13 ∷ []) ≡ false ∷ true ∷ true ∷ false ∷ []
signs = refl

signs_of_one : map sign_number (11 ∷ 12 ∷ []) ≡ 0 ∷ 1 ∷ []
signs_of_one = refl

-- a word's sign is turned in 65,536 values
turned : map (negated 65536) (0 ∷ 1 ∷ 32768 ∷ 65535 ∷ []) ≡ 0 ∷ 65535 ∷ 32768 ∷ 1 ∷ []
turned = refl

shifts : map shift_of (codes "ASL" ∷ codes "LSR" ∷ codes "CSR" ∷ codes "ROL" ∷ []) ≡ Some 0 ∷ Some 3 ∷ Some 5 ∷ None ∷ []
unfolding shift_of
shifts = refl

-- only a relation between two references can begin a comparison of bytes
comparisons : map (compared reference) (reference ∷ other ∷ comparison ∷ []) ≡ comparison ∷ other ∷ other ∷ []
comparisons = refl
