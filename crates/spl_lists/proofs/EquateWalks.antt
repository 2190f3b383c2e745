-- Loops over EQUATEs and their sums: what is found, and what names stand for, from a part or an item on.
use Rattle.std.proofs.Common.{◌≡◌, ◌<◌, ◌≤◌, ℕ, ◌+◌, Bool, List, [], ◌∷◌, map, drop, length, get_or, Option, Some, None, Vec, Global, refl, ap, sym, ◌∙◌, true, false, arith, w64}
use Rattle.std.specs.Prelude.{ℤ, ◌+ℤ◌}
use Rattle.std.proofs.lemmas.Int.{ints}
use mir.Val.{SFits}
use Rattle.spl_tree.specs.declared.names_and_places.Name.{Name}
use Rattle.spl_tree.specs.declared.names_and_places.At.{At}
use Rattle.spl_tree.specs.declared.expressions.Const.{Const}
use Rattle.spl_tree.specs.DeclarationTrees.{Term}
use Rattle.spl_tree.specs.Views.{letters, constant}
use Rattle.spl_tree.specs.Spells.{term, BodyTree, declaration_step, body_step, declaration}
use Rattle.spl_tree.specs.declared.declarations.Decl as d
use Rattle.spl_tree.specs.declared.declarations.Decl.TheVariants.{rolls-Equate}
use Rattle.spl_tree.specs.declared.declarations.Decl.TheFolds.{fold-roll-Decl}
use Rattle.spl_tree.specs.DeclarationTrees as decl
use Rattle.spl_sorts.specs.spl_meaning.Names as n
use Rattle.spl_sorts.specs.spl_meaning.Names.{Names, sum_with, sum_from, sum_value, signed_term, constant_value}
use Rattle.spl_sorts.specs.spl_meaning.Faults.{Fault, first_fault}
use Rattle.spl_sorts.specs.spl_meaning.ExpressionRules.{constant_faults}
use Rattle.spl_sorts.specs.spl_meaning.DeclarationRules.{Around}
use Rattle.spl_uses.specs.spl_found.OwnNames.{over, with_name, behind_equates}
use Rattle.spl_uses.specs.spl_found.FoundDeclarations.{found_terms, found_equate, found_equates}
use Rattle.spl_lists.specs.Sums.{equal_tree, IsSumOf}
use Rattle.spl_profiles.proofs.NameWalks.{onward, onward_end}

-- ---- sums

pub sum_step : (names : Names) (list : List (Bool × Const)) (i : ℕ) (x : Bool × Const) (s : Option ℤ) → i < length list → x ≡ get_or list i x
    → sum_from names s (map term (drop i list)) ≡ sum_from names (sum_with s x.0 (constant_value names (constant x.1))) (map term (drop (i + 1) list))
sum_step names list i x s lt is = onward term (sum_from names s) list i x lt is

pub sum_end : (names : Names) (list : List (Bool × Const)) (i : ℕ) (s : Option ℤ) → length list ≤ i → sum_from names s (map term (drop i list)) ≡ s
sum_end names list i s le = onward_end term (sum_from names s) list i le

-- a part without a value leaves none
pub sum_none : (names : Names) (ts : List Term) → sum_from names None ts ≡ None
sum_none names [] = refl
sum_none names (t ∷ ts) = sum_none names ts

-- a part without a value, and what is left
pub none_left : (names : Names) (list : List (Bool × Const)) (i : ℕ) (x : Bool × Const) (s : ℤ) → i < length list → x ≡ get_or list i x
    → None ≡ constant_value names (constant x.1) → sum_from names (Some s) (map term (drop i list)) ≡ None
none_left names list i x s lt is none =
    let rest = map term (drop (i + 1) list) in
    sum_step names list i x (Some s) lt is ∙ ap (λ (v : Option ℤ). sum_from names (sum_with (Some s) x.0 v) rest) (sym none) ∙ sum_none names rest

-- a part with a value
pub one_more : (names : Names) (list : List (Bool × Const)) (i : ℕ) (x : Bool × Const) (s p r : ℤ) → i < length list → x ≡ get_or list i x
    → Some p ≡ constant_value names (constant x.1) → r ≡ s +ℤ signed_term x.0 p
    → sum_from names (Some r) (map term (drop (i + 1) list)) ≡ sum_from names (Some s) (map term (drop i list))
one_more names list i x s p r lt is some sum =
    let rest = map term (drop (i + 1) list) in
    ap (λ (z : ℤ). sum_from names (Some z) rest) sum ∙ ap (λ (v : Option ℤ). sum_from names (sum_with (Some s) x.0 v) rest) some
    ∙ sym (sum_step names list i x (Some s) lt is)

pub ruleset sum_steps = (sum_step, sum_end)

pub term_step : (names : Names) (at : At) (list : List (Bool × Const)) (i : ℕ) (x : Bool × Const) (f : Option Fault) → i < length list → x ≡ get_or list i x
    → found_terms names at (map term (drop i list)) f ≡ found_terms names at (map term (drop (i + 1) list)) (first_fault f (constant_faults names at (constant x.1)))
term_step names at list i x f lt is = onward term (λ xs. found_terms names at xs f) list i x lt is

pub term_end : (names : Names) (at : At) (list : List (Bool × Const)) (i : ℕ) (f : Option Fault) → length list ≤ i
    → found_terms names at (map term (drop i list)) f ≡ f
term_end names at list i f le = onward_end term (λ xs. found_terms names at xs f) list i le

pub ruleset term_steps = (term_step, term_end)

-- ---- items

abbrev pub Item : Type 0
Item = Name × At × Vec (Bool × Const) Global

pub equate_step : (a : Around) (here : Names) (list : List Item) (i : ℕ) (x : Item) (f : Option Fault) → i < length list → x ≡ get_or list i x
    → found_equates a here (map equal_tree (drop i list)) f
    ≡ found_equates a (with_name here (letters x.0) (n.equate (n.kept_value (sum_value (over here a.names) (map term x.2.items))))) (map equal_tree (drop (i + 1) list))
    (found_equate a here (equal_tree x) f)
equate_step a here list i x f lt is = onward equal_tree (λ xs. found_equates a here xs f) list i x lt is

pub equate_end : (a : Around) (here : Names) (list : List Item) (i : ℕ) (f : Option Fault) → length list ≤ i
    → found_equates a here (map equal_tree (drop i list)) f ≡ f
equate_end a here list i f le = onward_end equal_tree (λ xs. found_equates a here xs f) list i le

pub equates_step : (outer here : Names) (list : List Item) (i : ℕ) (x : Item) → i < length list → x ≡ get_or list i x
    → behind_equates outer here (map equal_tree (drop i list))
    ≡ behind_equates outer (with_name here (letters x.0) (n.equate (n.kept_value (sum_value (over here outer) (map term x.2.items))))) (map equal_tree (drop (i + 1) list))
equates_step outer here list i x lt is = onward equal_tree (λ xs. behind_equates outer here xs) list i x lt is

pub equates_end : (outer here : Names) (list : List Item) (i : ℕ) → length list ≤ i → behind_equates outer here (map equal_tree (drop i list)) ≡ here
equates_end outer here list i le = onward_end equal_tree (λ xs. behind_equates outer here xs) list i le

pub ruleset equate_steps = (equate_step, equate_end, equates_step, equates_end)

-- a sum with a part more of 64 bits
pub more_fits : (n : ℕ) (s p r : ℤ) (minus : Bool) → IsSumOf n s → SFits w64 p → r ≡ s +ℤ signed_term minus p → IsSumOf (n + 1) r
more_fits n s p r true small fits is = (omega (arith, ints), omega (arith, ints))
more_fits n s p r false small fits is = (omega (arith, ints), omega (arith, ints))

-- ---- as a declaration

-- an EQUATE by its items
pub equate_view : (es : Vec Item Global) → declaration (d.Equate es) ≡ decl.Declaration.equate (map equal_tree es.items)
equate_view es = ap declaration (sym (rolls-Equate es)) ∙ fold-roll-Decl decl.Declaration BodyTree declaration_step body_step _
