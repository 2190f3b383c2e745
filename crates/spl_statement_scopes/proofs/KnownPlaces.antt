-- Where the words of names stand in the statements of a unit's bodies, worked by hand. F and its subroutines stand in segment 1:
--   INTEGER S; INTEGER G;
--   INTEGER PROCEDURE F(K); VALUE K; INTEGER K;
--     BEGIN INTEGER J; DOUBLE SUBROUTINE S(D); VALUE D; DOUBLE D; ; LOGICAL SUBROUTINE U(U); VALUE U; LOGICAL U; ;
--       INTEGER SUBROUTINE W(J); VALUE J; INTEGER J; ; END;
--   INTEGER SUBROUTINE T(K); VALUE K; INTEGER K; ;
use Rattle.std.specs.Prelude.{◌≡◌, [], ◌∷◌, codes, Option, Some, None, refl}
use Prim.Native.String.{String}
use Rattle.spl_tree.specs.declared.expressions.Kind.TheVariants as kind
use Rattle.spl_sorts.specs.spl_meaning.Tables.{Source}
use Rattle.spl_sorts.specs.spl_meaning.Places.{Place, data_word, above_base, below_base, below_return}
use Rattle.spl_module_code.specs.spl_code.Calls.{Scope}
use Rattle.spl_module_code.specs.spl_scopes.Entries.{main, routine}
use Rattle.spl_module_code.specs.spl_scopes.Scopes.{Placed, first_reached, Which, outer, inner}
use Rattle.spl_module_code.proofs.KnownUnits.{unit_of, procedure, subroutine, heading, simple}
use Rattle.spl_statement_scopes.specs.Scopes.{statements_in}

abbrev unit : Source
unit = unit_of (simple kind.Integer "S" ∷ simple kind.Integer "G"
    ∷ procedure (heading (Some kind.Integer) "F" ("K" ∷ []) kind.Integer 1)
    (simple kind.Integer "J" ∷ subroutine (heading (Some kind.Double) "S" ("D" ∷ []) kind.Double 1)
    ∷ subroutine (heading (Some kind.Logical) "U" ("U" ∷ []) kind.Logical 1)
    ∷ subroutine (heading (Some kind.Integer) "W" ("J" ∷ []) kind.Integer 1) ∷ [])
    ∷ subroutine (heading (Some kind.Integer) "T" ("K" ∷ []) kind.Integer 1) ∷ []) []

abbrev placed : Placed
placed = record { at = first_reached (unit ∷ []); unit = unit }

abbrev place_by : Option Scope → String → Option Place
place_by None x = None
place_by (Some s) x = s.places (codes x)

-- the place of a name in the statements of a body
abbrev stands : Which → String → Option Place
stands w x = place_by (statements_in placed w) x

-- F's result stands below K; K, J and the globals are where they were
known_result : stands (outer (routine 0)) "F" ≡ Some (below_base 5)
known_result = refl

known_parameter : stands (outer (routine 0)) "K" ≡ Some (below_base 4)
known_parameter = refl

known_local : stands (outer (routine 0)) "J" ≡ Some (above_base 1)
known_local = refl

known_global : stands (outer (routine 0)) "G" ≡ Some (data_word 1)
known_global = refl

-- that of W below its parameter J, which hides F's; F's result is seen in it
known_inner_result : stands (inner (routine 0) 2) "W" ≡ Some (below_return 2)
known_inner_result = refl

known_inner_parameter : stands (inner (routine 0) 2) "J" ≡ Some (below_return 1)
known_inner_parameter = refl

known_result_around : stands (inner (routine 0) 2) "F" ≡ Some (below_base 5)
known_result_around = refl

-- the parameter U of U hides its result; the global S does not hide that of S, which is what its name stands for in F
known_hidden_by_parameter : stands (inner (routine 0) 1) "U" ≡ Some (below_return 1)
known_hidden_by_parameter = refl

known_before_global : stands (inner (routine 0) 0) "S" ≡ Some (below_return 4)
known_before_global = refl

-- T, in the main body's list, has a result, which is not seen outside it; nor is that of F
known_main_inner : stands (inner main 0) "T" ≡ Some (below_return 2)
known_main_inner = refl

known_main : stands (outer main) "T" ≡ None
known_main = refl

known_outside : stands (inner main 0) "F" ≡ None
known_outside = refl
