-- The words of segments, the order of a program's segments and its first data words, computed for small units.
use Rattle.std.proofs.Common.{ℕ, ◌≡◌, ◌+◌, true, false, List, [], ◌∷◌, None, refl}
use Rattle.spl_meaning.specs.spl_tree.declared.expressions.Kind.TheVariants.{Logical}
use Rattle.spl_meaning.specs.spl_tree.declared.names_and_places.At.{At}
use Rattle.spl_meaning.specs.spl_tree.DeclarationTrees as decl
use Rattle.spl_meaning.specs.spl_tree.Trees.{Constant}
use Rattle.hp_flat.specs.hp_word.Words.{word_of}
use Rattle.spl_meaning.specs.Tables.{Source}
use Rattle.spl_carries.specs.Segments.{with_name, words_from, segment_names, initial_words}
use Rattle.spl_carries.specs.Carries.{words_in}

abbrev at : At
at = record { unit = 1; line = 1; column = 1 }

-- a procedure without parameters or statements, in the segment of this number
abbrev procedure : List ℕ → ℕ → decl.Declaration
procedure name segment = decl.Declaration.procedure
    (record { result = None; name = name; names = []; values = []; specs = []; split = false; at = at; segment = segment })
    decl.Declarations.none []

-- one of the names 65, 66 and 67, which are A, B and C
abbrev A : List ℕ
A = 65 ∷ []

abbrev B : List ℕ
B = 66 ∷ []

abbrev C : List ℕ
C = 67 ∷ []

-- P in segment B and Q in A, and the main body in C
abbrev main_in_c : Source
main_in_c = record {
  subprogram = false;
  segments = A ∷ B ∷ C ∷ [];
  tree = record { items = procedure (80 ∷ []) 1 ∷ procedure (81 ∷ []) 0 ∷ []; statements = []; segment = 2; at = at };
}

-- a subprogram with R in B and S in another segment, 68; the end of it stands in A
abbrev subprogram : Source
subprogram = record {
  subprogram = true;
  segments = A ∷ B ∷ (68 ∷ []) ∷ [];
  tree = record { items = procedure (82 ∷ []) 1 ∷ procedure (83 ∷ []) 2 ∷ []; statements = []; segment = 0; at = at };
}

-- LOGICAL I := 7, J;
abbrev two_words : Source
two_words = record {
  subprogram = false;
  segments = A ∷ [];
  tree = record {
    items = decl.Declaration.data_items false Logical (
        record { name = 73 ∷ []; at = at; shape = decl.Shape.simple; first = Constant.number false 7 ∷ [] }
        ∷ record { name = 74 ∷ []; at = at; shape = decl.Shape.simple; first = [] } ∷ []) ∷ [];
    statements = [];
    segment = 0;
    at = at;
  };
}

no_words : words_in [] ≡ 0
no_words = refl

five_words : words_in ((1 ∷ 2 ∷ []) ∷ [] ∷ (3 ∷ 4 ∷ 5 ∷ []) ∷ []) ≡ 5
five_words = refl

new_name_goes_last : with_name (A ∷ B ∷ []) C ≡ A ∷ B ∷ C ∷ []
new_name_goes_last = refl

known_name_stays : with_name (A ∷ B ∷ []) A ≡ A ∷ B ∷ []
known_name_stays = refl

three_from_four : words_from (λ a. a + a) 4 3 ≡ 8 ∷ 10 ∷ 12 ∷ []
three_from_four = refl

no_units : segment_names [] ≡ []
no_units = refl

-- in the order in which they are used first, and not in that of their numbers
procedures_before_the_main_body : segment_names (main_in_c ∷ []) ≡ B ∷ A ∷ C ∷ []
procedures_before_the_main_body = refl

-- the end of a subprogram uses none
no_main_body : segment_names (subprogram ∷ []) ≡ B ∷ (68 ∷ []) ∷ []
no_main_body = refl

one_name_is_one_segment : segment_names (main_in_c ∷ subprogram ∷ []) ≡ B ∷ A ∷ C ∷ (68 ∷ []) ∷ []
one_name_is_one_segment = refl

the_other_order : segment_names (subprogram ∷ main_in_c ∷ []) ≡ B ∷ (68 ∷ []) ∷ A ∷ C ∷ []
the_other_order = refl

none_without_items : initial_words (main_in_c ∷ []) ≡ []
none_without_items = refl

seven_and_zero : initial_words (two_words ∷ []) ≡ 7 ∷ 0 ∷ []
unfolding word_of
seven_and_zero = refl
