-- Names, places and results of bodies, worked by hand.
use Rattle.std.specs.Prelude.{◌≡◌, false, codes, Option, Some, None, refl}
use Prim.Native.String.{String}
use Rattle.spl_code.specs.spl_tree.declared.expressions.Kind.{Kind}
use Rattle.spl_code.specs.spl_tree.declared.expressions.Kind.TheVariants as kind
use Rattle.spl_code.specs.spl_meaning.Names as n
use Rattle.spl_code.specs.spl_meaning.Names.{Sort}
use Rattle.spl_code.specs.spl_meaning.Places.{Place, data_word, above_base, below_base, below_return}
use Rattle.spl_code.specs.spl_meaning.Bodies.{program_of, program_from, data_words}
use Rattle.spl_code.specs.Calls.{Scope}
use Rattle.spl_scopes.specs.Entries.{main, routine}
use Rattle.spl_scopes.specs.Scopes.{outer, inner, Results, first_reached, scope_at, results_at}
use Rattle.spl_scopes.proofs.KnownUnits.{units}

-- what a name stands for in a scope, where there is one; its place; its result
abbrev pub seen : Option Scope → String → Option Sort
seen None x = None
seen (Some s) x = s.names (codes x)

abbrev pub stands : Option Scope → String → Option Place
stands None x = None
stands (Some s) x = s.places (codes x)

abbrev pub given : Option Results → String → Option (Kind × Place)
given None x = None
given (Some r) x = r (codes x)

-- the main body, the procedures F, P and H, and the subroutines S of F and T of the main body
abbrev pub in_main : Option Scope
in_main = scope_at units 0 (outer main)

abbrev pub in_f : Option Scope
in_f = scope_at units 0 (outer (routine 0))

abbrev pub in_s : Option Scope
in_s = scope_at units 0 (inner (routine 0) 0)

abbrev pub in_h : Option Scope
in_h = scope_at units 0 (outer (routine 2))

abbrev pub in_t : Option Scope
in_t = scope_at units 0 (inner main 0)

abbrev pub in_q : Option Scope
in_q = scope_at units 1 (outer (routine 0))

-- globals stand one behind the other: I has a word, D two, A a cell, and G stands behind them
pub known_globals : stands in_main "I" ≡ Some (data_word 0)
known_globals = refl

pub known_cell : stands in_main "A" ≡ Some (data_word 3)
known_cell = refl

pub known_last : stands in_main "G" ≡ Some (data_word 4)
known_last = refl

-- the parameter I of F hides the global I: it is passed by its address, and stands below K and the marker's other words
pub known_hidden : seen in_f "I" ≡ Some (n.by_reference kind.Integer)
known_hidden = refl

pub known_parameter : stands in_f "I" ≡ Some (below_base 5)
known_parameter = refl

pub known_last_parameter : stands in_f "K" ≡ Some (below_base 4)
known_last_parameter = refl

-- the OWN item L stands behind all globals; the local J above the marker; the global D is seen
pub known_own : stands in_f "L" ≡ Some (data_word 5)
known_own = refl

pub known_local : stands in_f "J" ≡ Some (above_base 1)
known_local = refl

pub known_seen : seen in_f "D" ≡ Some (n.simple kind.Double false)
known_seen = refl

-- G is declared behind F, so F does not see it
pub known_later : seen in_f "G" ≡ None
known_later = refl

-- the parameter D of S hides the global; it has two words below the return word. The parameters of F are seen around it.
pub known_inner : stands in_s "D" ≡ Some (below_return 2)
known_inner = refl

pub known_around : stands in_s "K" ≡ Some (below_base 4)
known_around = refl

pub known_main_inner : stands in_t "K" ≡ Some (below_return 1)
known_main_inner = refl

-- D is a parameter of H as well
pub known_other : seen in_h "D" ≡ Some (n.array_parameter kind.Byte)
known_other = refl

-- OWN items of the second unit stand behind that of the first; it has no main body, and no other procedure
pub known_second : stands in_q "W" ≡ Some (data_word 7)
known_second = refl

pub known_subprogram : scope_at units 1 (outer main) ≡ None
known_subprogram = refl

pub known_none : scope_at units 1 (outer (routine 1)) ≡ None
known_none = refl

-- F's result stands below its two parameters, and S's two words below its parameter; in S both may be assigned, in P none
pub known_result : given (results_at units 0 (outer (routine 0))) "F" ≡ Some (kind.Integer, below_base 6)
known_result = refl

pub known_inner_result : given (results_at units 0 (inner (routine 0) 0)) "S" ≡ Some (kind.Double, below_return 4)
known_inner_result = refl

pub known_outer_result : given (results_at units 0 (inner (routine 0) 0)) "F" ≡ Some (kind.Integer, below_base 6)
known_outer_result = refl

pub known_no_result : given (results_at units 0 (outer (routine 1))) "P" ≡ None
known_no_result = refl

-- the data of a program's first unit begin where those of its meaning do
pub known_first : program_of units ≡ program_from (data_words units) (first_reached units) units
known_first = refl
