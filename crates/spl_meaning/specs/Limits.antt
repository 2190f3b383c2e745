-- The five limits of places, each with the count that passes it: 1 the primary area, 2 the local items of a body, 3 results and
-- parameters, 4 data words, 5 how far beneath the top a subroutine's parameters and result are used.
use Rattle.std.specs.Prelude.{ℕ, ◌+◌, Bool, true, false, nat_lt, if◌then◌else◌, List, [], ◌∷◌, ◌++◌, Option, Some, None}
use Rattle.spl_tree.specs.declared.names_and_places.At.{At}
use Rattle.spl_tree.specs.declared.expressions.Kind.{Kind}
use Rattle.spl_tree.specs.Trees as tree
use Rattle.spl_tree.specs.Trees.{Tree, Trees}
use Rattle.spl_tree.specs.StatementTrees as stat
use Rattle.spl_tree.specs.StatementTrees.{Statement, Statements, Target, Source as Moved, Effect, Test, statements}
use Rattle.spl_tree.specs.DeclarationTrees as decl
use Rattle.spl_tree.specs.DeclarationTrees.{Heading, Item, Declaration, Declarations, declarations}
use Rattle.spl_meaning.specs.Names.{Names, Sort, Table, Formal, find, within, nothing_declared, same_name, parameters, formals_of, profile_of}
use Rattle.spl_meaning.specs.Kinds.{callable}
use Rattle.spl_meaning.specs.Tables.{Source, Routine, Subroutine, shaped, declared, with_declaration, unit_table, routines_of, outer_names, routine_table, routine_names, routine_subroutines, unit_subroutines, subroutine_names}
use Rattle.spl_meaning.specs.Places.{Place, below_return, item_words, array_words, where_own, list_words}
use Rattle.spl_meaning.specs.Pending.{formal_words, result_words, first_formal, other_formals, argument_words, profile_formals, profile_result_words, left_words, waiting, behind_first, behind_second}
use Rattle.spl_meaning.specs.Bodies.{all_routines, primary_words, parameter_places, result_place}
use Rattle.spl_meaning.specs.Faults.{fault, is_before}

-- the most words of the primary area
abbrev pub most_primary : ℕ
most_primary = 256

-- of the local items of a body
abbrev pub most_locals : ℕ
most_locals = 127

-- of a result and parameters
abbrev pub most_parameters : ℕ
most_parameters = 59

-- of both areas, and of the local words of a body
abbrev pub most_data : ℕ
most_data = 32000

-- how far beneath the top a word may be used
abbrev pub most_reach : ℕ
most_reach = 63

-- a limit that is passed at a place, by a count
pub record Full : Type 0 where
  pub limit : ℕ
  pub at : At
  pub count : ℕ

-- something with a number of words, at its place
pub record Sized : Type 0 where
  pub at : At
  pub words : ℕ

-- where the words of some things, one behind the other, first pass a number: a thing without words passes none
abbrev pub passing : ℕ → ℕ → ℕ → List Sized → List Full
passing limit most before [] = []
passing limit most before (x ∷ xs) =
    if nat_lt 0 x.words
    then (if nat_lt most (before + x.words) then record { limit = limit; at = x.at; count = before + x.words } ∷ []
    else passing limit most (before + x.words) xs)
    else passing limit most before xs

-- ---- the items of a list

-- an item with its place and what it stands for
abbrev pub sorted_items : Names → Bool → Kind → Table Sort → List Item → List (At × Sort)
sorted_items outer own k table [] = []
sorted_items outer own k table (i ∷ is) =
    let s = shaped (within table outer) own k i.shape in (i.at, s) ∷ sorted_items outer own k (declared table i.name s) is

-- the items of a declaration
abbrev pub data_of : Names → Table Sort → Declaration → List (At × Sort)
data_of outer table (decl.Declaration.data_items own k items) = sorted_items outer own k table items
data_of outer table d = []

-- the items of declarations in order
abbrev pub all_data : Names → Table Sort → Declarations → List (At × Sort)
all_data outer table decl.none = []
all_data outer table (decl.and d ds) = data_of outer table d ++ all_data outer (with_declaration outer table d) ds

-- the words of the items that are OWN, or of those that are not
abbrev pub sized : Bool → (Sort → ℕ) → List (At × Sort) → List Sized
sized own words [] = []
sized own words (x ∷ xs) = record { at = x.0; words = where_own own words x.1 } ∷ sized own words xs

-- a unit's items
abbrev pub unit_data : Source → List (At × Sort)
unit_data u = if u.subprogram then [] else all_data nothing_declared [] (declarations u.tree.items)

-- a procedure's items
abbrev pub routine_data : Routine → List (At × Sort)
routine_data r = all_data (outer_names r) (parameters (formals_of r.heading)) r.items

-- lists one behind the other
abbrev pub joined : {A B : Type 0} → (A → List B) → List A → List B
joined f [] = []
joined f (a ∷ as') = f a ++ joined f as'

-- the words of globals, unit by unit, and then those of OWN items
abbrev pub global_sizes : (Sort → ℕ) → List Source → List Sized
global_sizes words us = joined (λ u. sized false words (unit_data u)) us ++ joined (λ r. sized true words (routine_data r)) (all_routines us)

-- 1: the primary area has more than 256 words. 4: both areas have more than 32,000.
abbrev pub global_limits : List Source → List Full
global_limits us = passing 1 most_primary 0 (global_sizes item_words us) ++ passing 4 most_data (primary_words us) (global_sizes array_words us)

-- 2: the local items of a body have more than 127 words. 4: its local words are more than 32,000.
abbrev pub local_limits : Routine → List Full
local_limits r =
    passing 2 most_locals 0 (sized false item_words (routine_data r))
    ++ passing 4 most_data (list_words false (routine_table r)) (sized false array_words (routine_data r))

-- ---- parameters

-- parameters with their words
abbrev pub parameter_sizes : List Formal → List Sized
parameter_sizes [] = []
parameter_sizes (f ∷ fs) = record { at = f.at; words = formal_words f } ∷ parameter_sizes fs

-- 3: a result and parameters have more than 59 words
abbrev pub heading_limits : Heading → List Full
heading_limits h = passing 3 most_parameters (result_words (profile_of h)) (parameter_sizes (formals_of h))

-- ---- uses of names, with the words that wait there

-- a use of a name
pub record Use : Type 0 where
  pub name : List ℕ
  pub at : At
  pub waiting : ℕ
  -- whether it is assigned
  pub is_target : Bool

-- the same by its parts
abbrev pub use_of : List ℕ → At → ℕ → Bool → Use
use_of x at k is_target = record { name = x; at = at; waiting = k; is_target = is_target }

abbrev mutual
  -- the uses in an expression, where so many words wait
  pub uses : Names → Tree → ℕ → List Use
  uses names (tree.Tree.number v) k = []
  uses names (tree.Tree.wide v) k = []
  uses names (tree.Tree.text bytes) k = []
  uses names (tree.Tree.truth b) k = []
  uses names (tree.Tree.named x es at) k =
      use_of x at k false
      ∷ uses_among names (profile_formals (callable (names x))) es (k + profile_result_words (callable (names x)))
  uses names (tree.Tree.address x es at) k = use_of x at k false ∷ uses_among names [] es k
  uses names (tree.Tree.unary op e at) k = uses names e k
  uses names (tree.Tree.binary op a b at) k = uses names a k ++ uses names b (k + left_words names op a b)
  uses names (tree.Tree.shift op e by at) k = uses names e k
  uses names (tree.Tree.field e start size at) k = uses names e k
  uses names (tree.Tree.transfer to e at) k = uses names e k
  uses names (tree.Tree.bytes op a b count at) k = uses names a k ++ uses names b (k + 1) ++ uses names count (k + 2)

  -- the uses in arguments, each of which waits for those behind it
  pub uses_among : Names → List Formal → Trees → ℕ → List Use
  uses_among names fs tree.Trees.none k = []
  uses_among names fs (tree.Trees.and e es) k = uses names e k ++ uses_among names (other_formals fs) es (k + argument_words (first_formal fs))

-- the uses in a reference that is assigned: its name, and its index, since assigning a result is no call
abbrev pub index_uses : Names → Tree → ℕ → List Use
index_uses names (tree.Tree.named x es at) k = use_of x at k true ∷ uses_among names [] es k
index_uses names _ k = []

-- the uses in a target
abbrev pub target_uses : Names → Target → ℕ → List Use
target_uses names (stat.Target.plain r) k = index_uses names r k
target_uses names (stat.Target.field r start size) k = index_uses names r k
target_uses names (stat.Target.address x at) k = use_of x at k true ∷ []

-- the uses in a MOVE or a SCAN
abbrev pub effect_uses : Names → Bool → Effect → ℕ → List Use
effect_uses names used (stat.Effect.move to (stat.Source.counted from size)) k =
    uses names to k ++ uses names from (behind_first used k) ++ uses names size (behind_second used k)
effect_uses names used (stat.Effect.move to (stat.Source.text bytes)) k = uses names to k
effect_uses names used (stat.Effect.move to (stat.Source.class_of from c)) k = uses names to k ++ uses names from (behind_first used k)
effect_uses names used (stat.Effect.scan from until e) k = uses names from k ++ uses names e (behind_first used k)

-- the uses in a test
abbrev pub test_uses : Names → Test → ℕ → List Use
test_uses names (stat.Test.condition e) k = uses names e k
test_uses names (stat.Test.code op) k = []

-- the uses in the step of a loop
abbrev pub step_uses : Names → Trees → ℕ → List Use
step_uses names tree.Trees.none k = []
step_uses names (tree.Trees.and e es) k = uses names e k

abbrev mutual
  -- the uses in a statement
  pub statement_uses : Names → Statement → ℕ → List Use
  statement_uses names stat.Statement.empty k = []
  statement_uses names (stat.Statement.labelled x at s) k = statement_uses names s k
  statement_uses names (stat.Statement.block ss) k = statements_uses names ss k
  statement_uses names (stat.Statement.if_test q then_part else_part at) k =
      test_uses names q k ++ statement_uses names then_part k ++ statements_uses names else_part k
  statement_uses names (stat.Statement.while_true e s at) k = uses names e k ++ statement_uses names s k
  statement_uses names (stat.Statement.until_true s e at) k = statement_uses names s k ++ uses names e k
  statement_uses names (stat.Statement.for_values x first step last s at) k =
      use_of x at k true ∷ uses names first k ++ step_uses names step (k + 1) ++ uses names last (k + 2) ++ statement_uses names s (k + 3)
  statement_uses names (stat.Statement.case_of e ss at) k = uses names e k ++ statements_uses names ss k
  statement_uses names (stat.Statement.go_to x at) k = []
  statement_uses names (stat.Statement.return at) k = []
  statement_uses names (stat.Statement.assign to e at) k = target_uses names to k ++ uses names e (waiting to k)
  statement_uses names (stat.Statement.assign_effect to e at) k = target_uses names to k ++ effect_uses names true e (waiting to k)
  statement_uses names (stat.Statement.do_effect e at) k = effect_uses names false e k
  statement_uses names (stat.Statement.call x es at) k = uses names (tree.Tree.named x es at) k

  -- the uses in statements in order
  pub statements_uses : Names → Statements → ℕ → List Use
  statements_uses names stat.Statements.none k = []
  statements_uses names (stat.Statements.and s ss) k = statement_uses names s k ++ statements_uses names ss k

-- ---- reach

-- how many words a place stands below the return word
abbrev pub words_below : Option Place → Option ℕ
words_below (Some (below_return n)) = Some n
words_below _ = None

-- the place of a parameter, or of the result where the subroutine's name is assigned
abbrev pub place_used : Heading → Use → Option Place → Option Place
place_used h u (Some p) = Some p
place_used h u None = if u.is_target then (if same_name u.name h.name then Some (result_place below_return 0 (profile_of h)) else None) else None

-- 5: a use more than 63 words beneath the top: the words that wait, the return word, and those between
abbrev pub reach_by : Use → Option ℕ → List Full
reach_by u None = []
reach_by u (Some n) = if nat_lt most_reach (u.waiting + n) then record { limit = 5; at = u.at; count = u.waiting + n } ∷ [] else []

-- a use of a subroutine's parameter or result
abbrev pub use_limits : Heading → Use → List Full
use_limits h u = reach_by u (words_below (place_used h u (find (parameter_places below_return 0 (formals_of h)) u.name)))

-- the limits that a subroutine passes
abbrev pub subroutine_limits : Names → Subroutine → List Full
subroutine_limits around s =
    heading_limits s.heading ++ joined (use_limits s.heading) (statement_uses (subroutine_names around s) s.statement 0)

-- ---- all limits

-- the limits that a procedure passes
abbrev pub routine_limits : Routine → List Full
routine_limits r =
    heading_limits r.heading ++ local_limits r ++ joined (subroutine_limits (routine_names r)) (routine_subroutines r)

-- the limits that the bodies of a unit pass
abbrev pub unit_limits : Source → List Full
unit_limits u = joined routine_limits (routines_of u) ++ joined (subroutine_limits (find (unit_table u))) (unit_subroutines u)

-- the limits that some units pass
abbrev pub all_limits : List Source → List Full
all_limits us = global_limits us ++ joined unit_limits us

-- the first by its place, and there the lowest
abbrev pub sooner_full : Option Full → Full → Option Full
sooner_full None f = Some f
sooner_full (Some g) f = if is_before (fault f.limit f.at) (fault g.limit g.at) then Some f else Some g

-- the first of some, with one that is known before
abbrev pub first_among : Option Full → List Full → Option Full
first_among known [] = known
first_among known (f ∷ fs) = first_among (sooner_full known f) fs

-- the first limit that some units pass
abbrev pub first_full : List Source → Option Full
first_full us = first_among None (all_limits us)
